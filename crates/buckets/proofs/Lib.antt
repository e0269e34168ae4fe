-- The laws of buckets, which the proofs of this crate and of those above it cite.
pub mod Limits
pub mod Idsums
pub mod Zeros
pub mod Multiples
