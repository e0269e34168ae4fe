-- The laws of settling: its stages, what a caller may rely on, differences that are undamaged, two streams, which are never refused, what a report says, and when both surely work.
pub mod Differences
pub mod Settled
pub mod AtTheCall
pub mod TwoStreams
pub mod Reported
pub mod Printed
pub mod Sure
