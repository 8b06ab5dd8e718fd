pub mod Exchanges
pub mod Connections
pub mod Servings
pub mod Hearing
