pub mod Fronts
pub mod Limits
pub mod Reasons
pub use Rattle.rtl_prep.specs as rtl_prep
