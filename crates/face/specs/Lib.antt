-- What a reader must believe of the calls from C: numbers for the library's parameters and answers, and its own contracts.
pub mod Returned
pub mod Calls
