mod FreshExample
pub mod Agreeing
pub mod Made
pub mod Ordered
pub mod Standing
pub mod Telling
pub mod Tests
