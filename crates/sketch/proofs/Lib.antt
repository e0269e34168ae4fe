-- The laws of sketches, which the proofs of this crate and of those above it cite.
pub mod LentParts
pub mod Standing
pub mod ArrayTurns
pub mod Steps
pub mod Stretches
pub mod Tables
pub mod AtIndexes
pub mod TakenBack
pub mod ManyPackets
pub mod Lowest
pub mod Whole
pub mod InOrder
pub mod AtTheCall
