pub mod Ahead
pub mod Filtered
pub mod Steps
pub mod ExprSteps
pub mod StmtSteps
pub mod ItemSteps
pub mod GenerateSteps
pub mod Laws
mod Gives
mod Lists
mod CertainOperators
mod References
mod Operands
pub mod Exprs
mod CertainTargets
mod Stmts
mod Events
mod Each
mod Arguments
mod Heads
mod CertainGates
mod Items
mod CertainGenerate
mod Headers
pub mod CertainModules
pub mod Shallow
mod Example
mod Deep
mod Rows
pub mod Certain
