-- Lemmas of crates further below, as the attributes of functions name them.
pub use Rattle.elab_body.proofs.elab_scope_proofs.Least.{after_append}
