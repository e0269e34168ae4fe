-- What a reader must believe of sums and differences of sketches, in the words of the scope.
pub mod Sums
pub mod History
pub mod Faults
