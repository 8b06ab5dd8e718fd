mod Numbers
mod Runs
mod Chains
mod FormTakes
mod FormAgain
mod Parts
mod Pragmas
mod Ends
mod Fronts
mod FrontsAgain
mod Turns
pub mod Unique
