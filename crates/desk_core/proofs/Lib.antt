pub mod Accepted
pub mod Files
pub mod FirstFiles
pub mod Headlines
mod Known
pub mod Made
pub mod Named
pub mod Places
pub mod Reached
pub mod Rules
pub mod Same
pub mod Settled
pub mod Started
pub mod Migrated
pub mod Statuses
pub mod Told
