-- The laws of folding, which the proofs of this crate and of those above it cite.
pub mod Totals
pub mod Sources
pub mod Zeroing
pub mod Turns
pub mod Accepting
pub mod Gathering
pub mod OfLists
pub mod Again
pub mod InOrder
pub mod Lowest
pub mod AtTheCall
pub mod Examples
