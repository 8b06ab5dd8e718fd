mod Counting
mod Examples
mod Joining
mod Lowering
mod Sorting
