-- What peeling answers and leaves, which a caller reads in Slices, Peel and Sure. The other files serve the contracts of private functions: how
-- the slices of the walk stand for the state of its definition.
pub mod Slices
pub mod Ring
pub mod Chains
pub mod Table
pub mod Nonzero
pub mod Rep
pub mod Peel
pub mod Sure
pub mod Faults
