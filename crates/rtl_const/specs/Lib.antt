pub mod Constant
pub mod Numbers
