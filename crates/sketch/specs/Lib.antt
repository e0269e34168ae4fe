-- What a reader must believe of sketches, in the words of the scope.
pub mod Sketch
pub mod Packets
pub mod Arrays
pub mod Faults
