-- The laws of decimal numbers and of lines, which the proofs of this crate cite, and examples of both.
pub mod Digits
pub mod Joining
pub mod Reporting
pub mod Examples
