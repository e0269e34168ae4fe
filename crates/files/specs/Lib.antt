-- What a reader must believe of files, in the words of the scope.
pub mod Bytes
pub mod Records
pub mod Fields
pub mod Heads
pub mod Layout
pub mod Turns
pub mod Writing
pub mod Faults
