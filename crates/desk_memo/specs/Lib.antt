pub mod Texts
pub mod Orders
pub mod Exchanges
pub mod Readings
pub mod ShownReadings
pub mod Rulings
pub mod Shown
-- passed on to the crates above
pub use Rattle.elab_lookups.specs.elab_links
pub use Rattle.desk_refusals.specs.elab_scope
pub use Rattle.check_conditions.specs as check_conditions
pub use Rattle.rtl_prep.specs as rtl_prep
