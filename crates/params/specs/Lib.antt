-- What a reader must believe of parameters and answers, in the words of the scope.
pub mod Lists
pub mod Answers
pub mod Params
pub mod Sketched
pub mod Positions
pub mod Faults
