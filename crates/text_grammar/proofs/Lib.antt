pub mod TreeDepths
