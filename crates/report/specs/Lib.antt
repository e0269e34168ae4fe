-- What a reader must believe of the program's own part; all else that it does is the libraries'.
pub mod Input
