pub mod Rulings
pub mod Books
pub mod Grants
pub mod SignOffs
pub mod Reaches
pub mod Index
pub mod Steps
