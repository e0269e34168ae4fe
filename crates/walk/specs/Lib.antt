-- What a reader must believe of peeling, in the words of the scope.
pub mod Ascii
pub mod Endings
pub mod Walk
pub mod Purity
pub mod Shown
pub mod Sure
