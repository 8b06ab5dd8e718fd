pub mod Starts
-- passed on to the crates above
pub use Rattle.sign_unknown.specs as sign_unknown
