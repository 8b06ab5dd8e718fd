-- Whether the process that a loop looks at has a place in the graph.
use Rattle.std.specs.List.{slice_get}
use Rattle.std.proofs.Common.{ℕ, ◌≡◌, ◌∙◌, ◌<◌, Bool, true, false, length, get_or, Some, refl, sym}
use Rattle.std.proofs.lemmas.Bool.{false≢true}
use Rattle.rtl_flat.specs.declared.act.Process.{Process}
use Rattle.rtl_flat.specs.declared.design.Design.{Design}
use Rattle.rtl_flat.specs.Levels.{HasNoEdge, IsNode}
use Rattle.rtl_flat.specs.Process.{doing, task}
use Rattle.rtl_flat.specs.Flats.{flat}
use Rattle.check_found.specs.rtl_scan.Arrows.{is_node}
use Rattle.check_found.proofs.rtl_scan_proofs.Processes.{back, there}
use Rattle.check_found.proofs.Sites.{task_at}
use Rattle.check_found.proofs.rtl_scan_proofs.Feeding.{edge_node, node_edge}

module _ (design : Design) (n : ℕ) (x : Process) (below : n < length design.processes.items) (read : x ≡ get_or design.processes.items n x) where
  pub there_at : slice_get (flat design).tasks n ≡ Some (task x)
  there_at = task_at design n x below read

  pub node_there : (b : Bool) → b ≡ is_node (doing x.does) → b ≡ true → IsNode (flat design).tasks n
  node_there b is some =
      there (λ t. HasNoEdge t.does) (flat design).tasks n (task x) there_at (edge_node (doing x.does) (sym is ∙ some))

  pub node_not : (b : Bool) → b ≡ is_node (doing x.does) → b ≡ false → IsNode (flat design).tasks n → ⊥
  node_not b is none node =
      let no_edge = back (λ t. HasNoEdge t.does) (flat design).tasks n n (task x) there_at refl node in
      false≢true (sym none ∙ (is ∙ node_edge (doing x.does) no_edge))
