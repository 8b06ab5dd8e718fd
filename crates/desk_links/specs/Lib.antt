pub mod Clocks
pub mod Links
pub mod Doors
pub mod Held
