-- What a reader must believe of stream files, in the words of the scope.
pub mod Streams
pub mod Writing
pub mod Faults
