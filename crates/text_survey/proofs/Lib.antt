mod Buckets
pub mod Laws
mod Numbers
mod Pragmas
mod Stacks
pub mod Profiles
mod Rows
mod Keeps
mod Runs
mod Finish
pub mod Least
