pub mod Rooms
pub mod Lawful
pub mod Taken
pub mod Tallied
