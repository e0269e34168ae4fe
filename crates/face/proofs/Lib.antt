-- The laws of what a caller in C is returned.
pub mod Returning
