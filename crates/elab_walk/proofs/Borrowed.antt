-- Lemmas of crates further below, as the attributes of functions name them.
pub use Rattle.elab_parts.proofs.elab_body_proofs.Passing.{passed_append, passed_cut, passed_faulty}
pub use Rattle.elab_parts.proofs.elab_nodes_proofs.Sparing.{some_spared, spared_more, spared_zero}
