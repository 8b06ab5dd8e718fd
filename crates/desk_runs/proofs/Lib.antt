pub mod Progressing
pub mod Ends
pub mod Begun
