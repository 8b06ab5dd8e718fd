pub mod Firm
-- passed on to the crates above
pub use Rattle.check_clean.specs as check_clean
pub use Rattle.unknown_starts.specs.sign_unknown
pub use Rattle.unknown_starts.specs as unknown_starts
