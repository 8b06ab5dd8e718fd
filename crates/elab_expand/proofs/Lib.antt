pub mod Examples
pub mod Expanding
pub mod Scoping
pub mod Turning
pub mod Views
