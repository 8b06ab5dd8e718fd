pub mod Broken
mod Example
pub mod Looked
pub mod Mapped
pub mod Texts
