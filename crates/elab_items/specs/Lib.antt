pub mod Claims
pub mod Declarations
pub mod Drafts
pub mod Reaches
pub mod Rosters
pub mod Scopes
pub mod Settings
pub mod Signals
-- passed on to the crates above
pub use Rattle.elab_scope.specs as elab_scope
