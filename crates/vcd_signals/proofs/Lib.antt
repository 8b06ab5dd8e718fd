mod Examples
pub mod Behind
pub mod Paths
pub mod Recorded
pub mod Setting
pub mod Tables
