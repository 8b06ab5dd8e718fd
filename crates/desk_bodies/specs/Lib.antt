pub mod Bodies
pub mod Orders
pub mod Refusals
