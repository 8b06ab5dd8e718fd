pub mod Examples
pub mod TreeSizes
