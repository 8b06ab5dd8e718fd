mod Shallow
mod Answers
pub mod OneCause
mod OneList
