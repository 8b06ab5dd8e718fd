-- Expressions of stored designs have a width, a sign and a place at each operand.
use Rattle.std.proofs.Common.{◌≡◌, ℕ, zero, suc, List, [], ◌∷◌, map, Some, refl, subst}
use Rattle.std.specs.List.{flat_map, slice_get}
use Rattle.rtl_flat.specs.declared.act.Act.{Act, Row_of-Act, end_of-Act, more_of-Act, Row_of-CaseItem, end_of-CaseItem, more_of-CaseItem, Held-Act-If-2, None', Some'}
use Rattle.rtl_flat.specs.declared.act.Act.TheVariants as act
use Rattle.rtl_flat.specs.declared.act.Does.{Does}
use Rattle.rtl_flat.specs.declared.act.Does.TheVariants as does
use Rattle.rtl_flat.specs.declared.act.EventItem.{EventItem}
use Rattle.rtl_flat.specs.declared.act.Listed.{Listed}
use Rattle.rtl_flat.specs.declared.act.Listed.TheVariants as listed
use Rattle.rtl_flat.specs.declared.act.Process.{Process}
use Rattle.rtl_flat.specs.declared.act.TargetPart.{TargetPart}
use Rattle.rtl_flat.specs.declared.expr.Index.{Index}
use Rattle.rtl_flat.specs.declared.expr.Index.TheVariants as index
use Rattle.rtl_flat.specs.declared.expr.Node.{Node, Row_of-SizedExpr, end_of-SizedExpr, more_of-SizedExpr}
use Rattle.rtl_flat.specs.declared.expr.Node.TheVariants as node
use Rattle.rtl_flat.specs.declared.expr.Select.{Select}
use Rattle.rtl_flat.specs.declared.expr.Select.TheVariants as select
use Rattle.rtl_flat.specs.declared.expr.SizedExpr.{SizedExpr}
use Rattle.rtl_flat.specs.Expression.{bit, form, read, row, tree}
use Rattle.rtl_flat.specs.Flows.{labels_of}
use Rattle.rtl_flat.specs.Process.{Action, Actions, Comb, Task, Watched, action, actions, body_of, branches, doing, listing, otherwise, piece, selection, task, watched}
use Rattle.rtl_rule.specs.Parts.{all_branches, all_in, all_of, all_other, index_of, indices, items_of, labels, own_labels, own_trees, trees}
use Rattle.rtl_flat.specs.Flats.{Flat}
use Rattle.check_laws.specs.Expressions.{IsForm, IsMarked, IsRow, StoredAreMarked}
use Rattle.rtl_rule.proofs.Lists.{Each, each_all, each_join}

-- ---- expressions

mutual
  form_marked : (n : Node) → IsForm (form n)
  form_marked (node.Literal bits) = tt
  form_marked (node.Read signal select) = read_marked signal.0 select
  form_marked (node.Turned' operator p w s a at) = form_marked a
  form_marked (node.Joined' operator p w s a at q w' s' b at') = (form_marked a, form_marked b)
  form_marked (node.Compared' operator p w s a at q w' s' b at') = (form_marked a, form_marked b)
  form_marked (node.Linked' operator p w s a at q w' s' b at') = (form_marked a, form_marked b)
  form_marked (node.Folded' operator p w s a at) = form_marked a
  form_marked (node.Shifted' operator p w s a at q w' s' b at') = (form_marked a, form_marked b)
  form_marked (node.Chosen' p w s c at q w' s' a at' r w'' s'' b at'') =
      (form_marked c, form_marked a, form_marked b)
  form_marked (node.Concat' shape parts) = first_marked parts
  form_marked (node.Repeated' times p w s a at) = form_marked a
  form_marked (node.Recast' p w s a at) = form_marked a

  read_marked : (signal : ℕ) (select : Select) → IsForm (read signal select)
  read_marked signal select.Whole = tt
  read_marked signal (select.Bit low index) = bit_marked signal low index
  read_marked signal (select.Part low width) = tt

  bit_marked : (signal low : ℕ) (index : Index) → IsForm (bit signal low index)
  bit_marked signal low (index.Fixed k) = tt
  bit_marked signal low (index.Computed' p w s a at) = (refl, form_marked a)

  first_marked : {m : _} (parts : Row_of-SizedExpr m) → IsForm (row parts)
  first_marked end_of-SizedExpr = tt
  first_marked (more_of-SizedExpr w s a at others) = (form_marked a, row_marked others)

  row_marked : {m : _} (parts : Row_of-SizedExpr m) → IsRow (row parts)
  row_marked end_of-SizedExpr = tt
  row_marked (more_of-SizedExpr w s a at others) = (form_marked a, row_marked others)

tree_marked : (e : SizedExpr) → IsMarked (tree e)
tree_marked e = form_marked e.node

trees_marked : (es : List SizedExpr) → Each IsMarked (map tree es)
trees_marked [] = tt
trees_marked (e ∷ es) = (tree_marked e, trees_marked es)

-- ---- indices

index_marked : (select : Select) → Each IsMarked (index_of (selection select))
index_marked select.Whole = tt
index_marked (select.Bit low (index.Fixed k)) = tt
index_marked (select.Bit low (index.Computed' p w s a at)) = (form_marked a, tt)
index_marked (select.Part low width) = tt

indices_marked : (parts : List TargetPart) → Each IsMarked (indices (map piece parts))
indices_marked [] = tt
indices_marked (one ∷ parts) =
    each_join IsMarked (index_of (selection one.select)) (indices (map piece parts)) (index_marked one.select) (indices_marked parts)

items_marked : (items : List EventItem) → Each IsMarked (flat_map (λ (item : Watched). index_of item.selection) (map watched items))
items_marked [] = tt
items_marked (one ∷ items) =
    each_join IsMarked (index_of (selection one.select)) (flat_map (λ (item : Watched). index_of item.selection) (map watched items)) (index_marked one.select) (items_marked items)

-- ---- statements

-- a statement whose own expressions and labels are marked
abbrev IsOwn : Action → Type 0
IsOwn one = Each IsMarked (own_trees one) × Each IsMarked (own_labels one)

mutual
  action_marked : (a : Act) → Each IsOwn (all_in (action a))
  action_marked (act.Set target value delayed spot) =
      (((tree_marked value, indices_marked target.parts.items), tt), tt)
  action_marked (act.If' test shape taken other spot) =
      (((tree_marked test, tt), tt), each_join IsOwn (all_of (actions taken)) (all_other (otherwise other)) (actions_marked taken) (other_marked other))
  action_marked (act.Case' kind full parallel selector shape items fallback spot) =
      (((tree_marked selector, tt), labels_marked items), each_join IsOwn (all_branches (branches items)) (all_other (otherwise fallback)) (branches_marked items) (other_marked fallback))
  action_marked (act.Block' shape body) = actions_marked body

  actions_marked : {m : _} (body : Row_of-Act m) → Each IsOwn (all_of (actions body))
  actions_marked end_of-Act = tt
  actions_marked (more_of-Act first others) =
      each_join IsOwn (all_in (action first)) (all_of (actions others)) (action_marked first) (actions_marked others)

  other_marked : (other : Held-Act-If-2) → Each IsOwn (all_other (otherwise other))
  other_marked None' = tt
  other_marked (Some' shape body) = actions_marked body

  branches_marked : {m : _} (items : Row_of-CaseItem m) → Each IsOwn (all_branches (branches items))
  branches_marked end_of-CaseItem = tt
  branches_marked (more_of-CaseItem labels shape body others) =
      each_join IsOwn (all_of (actions body)) (all_branches (branches others)) (actions_marked body) (branches_marked others)

  labels_marked : {m : _} (items : Row_of-CaseItem m) → Each IsMarked (labels_of (branches items))
  labels_marked end_of-CaseItem = tt
  labels_marked (more_of-CaseItem labels shape body others) =
      each_join IsMarked (map tree labels.items) (labels_of (branches others)) (trees_marked labels.items) (labels_marked others)

body_marked : (body : List Act) → Each IsOwn (all_of (body_of (map action body)))
body_marked [] = tt
body_marked (one ∷ others) =
    each_join IsOwn (all_in (action one)) (all_of (body_of (map action others))) (action_marked one) (body_marked others)

own_trees_marked : (all : List Action) → Each IsOwn all → Each IsMarked (flat_map own_trees all)
own_trees_marked [] h = tt
own_trees_marked (one ∷ all) h =
    each_join IsMarked (own_trees one) (flat_map own_trees all) h.0.0 (own_trees_marked all h.1)

own_labels_marked : (all : List Action) → Each IsOwn all → Each IsMarked (flat_map own_labels all)
own_labels_marked [] h = tt
own_labels_marked (one ∷ all) h =
    each_join IsMarked (own_labels one) (flat_map own_labels all) h.0.1 (own_labels_marked all h.1)

-- ---- processes

list_marked : (list : Listed) (body : Actions) → Each IsMarked (flat_map (λ (item : Watched). index_of item.selection) (items_of (Comb (listing list) body)))
list_marked listed.Star body = tt
list_marked (listed.Items items) body = items_marked items.items

does_trees : (d : Does) → Each IsMarked (trees (doing d))
does_trees (does.Assign target value) = (tree_marked value, indices_marked target.parts.items)
does_trees (does.Comb list body) =
    let all = body_of (map action body.items) in
    each_join IsMarked (flat_map (λ (item : Watched). index_of item.selection) (items_of (Comb (listing list) all))) (flat_map own_trees (all_of all)) (list_marked list all) (own_trees_marked (all_of all) (body_marked body.items))
does_trees (does.Edge events body) =
    let all = body_of (map action body.items) in
    each_join IsMarked (flat_map (λ (item : Watched). index_of item.selection) (map watched events.items)) (flat_map own_trees (all_of all)) (items_marked events.items) (own_trees_marked (all_of all) (body_marked body.items))

does_labels : (d : Does) → Each IsMarked (labels (doing d))
does_labels (does.Assign target value) = tt
does_labels (does.Comb list body) = own_labels_marked _ (body_marked body.items)
does_labels (does.Edge events body) = own_labels_marked _ (body_marked body.items)

stored_task : (processes : List Process) (p : ℕ) (one : Task) → slice_get (map task processes) p ≡ Some one → Each IsMarked (trees one.does) × Each IsMarked (labels one.does)
stored_task [] p one there = absurd (cc)
stored_task (process ∷ processes) zero one there =
    let same : task process ≡ one = cc in
    subst (λ (t : Task). Each IsMarked (trees t.does) × Each IsMarked (labels t.does)) same (does_trees process.does, does_labels process.does)
stored_task (process ∷ processes) (suc p) one there = stored_task processes p one there

pub stored : (d : Flat) → StoredAreMarked d
stored d processes is p one there =
    let marked = stored_task processes p one (subst (λ tasks. slice_get tasks p ≡ Some one) is there) in
    (each_all IsMarked (trees one.does) marked.0, each_all IsMarked (labels one.does) marked.1)
