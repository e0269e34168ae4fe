-- The laws of the intake, which the proofs of its functions cite, and its theorems: `HeadSettled`, `OneTurn` and `AnyReads`.
pub mod Moved
pub mod OneTurn
pub mod HeadSettled
pub mod AnyReads
