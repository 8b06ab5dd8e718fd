pub mod Bodies
pub mod Order
pub mod Policies
pub mod Queue
pub mod Traces
pub mod Writes
