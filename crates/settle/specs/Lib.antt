-- What a reader must believe of settling.
pub mod Settling
pub mod Faults
