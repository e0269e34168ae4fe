-- What a reader must believe of sketch files, in the words of the scope.
pub mod Reading
pub mod Writing
pub mod Faults
