pub mod Waivers
pub mod Books
