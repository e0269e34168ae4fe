-- The laws of answers and parameters, which the proofs of this crate and of those above it cite.
pub mod Searches
pub mod Changes
pub mod Judging
pub mod BucketNumbers
pub mod Rules
pub mod Extended
pub mod Standing
pub mod Indexes
pub mod Lowest
pub mod InOrder
pub mod SameParams
