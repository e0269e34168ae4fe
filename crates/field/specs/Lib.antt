-- What a reader must believe of the field: primes, the parts and the residues of signed numbers, and the flow of a bucket.
pub mod Prime
pub mod Parts
pub mod Residue
pub mod Flow
