-- What a reader must believe of the desk, in the words of the scope.
pub mod Desk
