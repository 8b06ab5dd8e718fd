pub mod Demos
pub mod Reports
pub mod Tellings
pub mod Values
