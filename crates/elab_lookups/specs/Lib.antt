-- passed on to the crates above
pub use Rattle.elab_links.specs as elab_links
