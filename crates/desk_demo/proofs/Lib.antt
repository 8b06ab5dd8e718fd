pub mod Feeds
pub mod One
