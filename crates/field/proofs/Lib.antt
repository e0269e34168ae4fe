-- The laws of the field, which the proofs of this crate and of those above it cite.
pub mod Remainders
pub mod Parts
pub mod Casts
pub mod Primes
pub mod Residues
pub mod Multiples
pub mod Inverses
pub mod OneFlow
