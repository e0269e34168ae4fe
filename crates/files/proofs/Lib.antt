-- The laws of records, heads and ends, read and written, which the proofs of this crate and of those above it cite.
pub mod FirstByte
pub mod Standing
pub mod Profiles
pub mod Bodies
pub mod HeadStages
pub mod RoundTrips
pub mod RecordTrips
pub mod HeadTrips
pub mod Turning
pub mod InOrder
pub mod Overwriting
pub mod Examples
