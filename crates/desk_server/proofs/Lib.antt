pub mod Talks
pub mod Asked
mod Bodies
mod Buffers
mod Connecting
mod Inputs
mod Inviting
mod Replies
mod Running
mod Saying
mod Shorts
