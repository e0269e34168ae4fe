-- The laws of sums and differences of sketches, which the proofs of this crate and of those above it cite.
pub mod TwoSketches
pub mod Weighted
pub mod Linear
pub mod NetCounts
pub mod Histories
pub mod Lowest
pub mod InOrder
pub mod AtTheCall
pub mod FoldedSums
pub mod Examples
