pub mod Rows
pub mod ActViews
pub mod Bits
pub mod Sized
pub mod Signed
pub mod Stored
pub mod Paths
pub mod Flows
pub mod Outside
mod Examples
