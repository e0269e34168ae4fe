-- The laws of the program's own part.
pub mod Behind
