pub mod Apart
pub mod Asked
pub mod Once
pub mod Reading
pub mod Same
