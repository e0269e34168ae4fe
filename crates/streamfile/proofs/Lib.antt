-- The laws of stream files, that one is read as its packets are inserted and is what is written from them, what one leaves in a fresh sketch, and what goes with each refusal.
pub mod Found
pub mod InTurn
pub mod Written
pub mod Accepting
pub mod AsInserted
pub mod FreshStreams
pub mod PacketTrips
pub mod Sending
pub mod OneStream
pub mod InOrder
pub mod AtTheCall
