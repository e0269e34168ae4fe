-- What a reader must believe of one bucket, in the words of the scope.
pub mod Buckets
