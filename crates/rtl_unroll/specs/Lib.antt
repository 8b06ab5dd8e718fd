pub mod Gates
pub mod Lowered
pub mod Numbering
pub mod Plain
