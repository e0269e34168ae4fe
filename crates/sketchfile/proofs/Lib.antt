-- The laws of sketch files, that a sketch has one file and keeps its history in it, and what goes with each refusal.
pub mod BucketRecords
pub mod Written
pub mod BucketTrips
pub mod Filling
pub mod Rewriting
pub mod Accepting
pub mod OneFile
pub mod InOrder
pub mod AtTheCall
pub mod Histories
