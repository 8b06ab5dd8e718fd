mod Example
pub mod Apart
pub mod Claimed
pub mod Firsts
