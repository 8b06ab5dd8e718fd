pub mod Lists
pub mod Following
pub mod Going
pub mod Marking
pub mod Missing
pub mod Beginning
pub mod Comparing
