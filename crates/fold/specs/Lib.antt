-- What a reader must believe of folding a sketch, in the words of request A5.
pub mod Fold
pub mod Faults
