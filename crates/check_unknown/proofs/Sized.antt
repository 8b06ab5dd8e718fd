-- The expressions of a lawful design are sized.
use Rattle.std.proofs.Common.{ℕ, zero, suc, ◌≡◌, ◌∙◌, ◌+◌, ◌<◌, ◌≤◌, Bool, false, List, [], ◌∷◌, ◌++◌, map, length, get_or, Option, None, Some, refl, sym, ap, subst, arith}
use Rattle.std.specs.List.{All, flat_map, slice_get}
use Rattle.std.proofs.lemmas.List.Elements.{All-head, All-tail}
use Rattle.rtl_flat.specs.declared.signal.Signal.{Signal}
use Rattle.rtl_flat.specs.Expression.{Tree, Sized, Literal, Whole, BitAt, BitBy, Part, Turned, Joined, Compared, Linked, Folded, Shifted, Chosen, Empty, Beside, Repeated, Recast}
use Rattle.rtl_flat.specs.Flows.{labels_of}
use Rattle.rtl_flat.specs.Process.{Selection, Piece, Watched, Action, Set, If, Case, Block, Actions, Done, Then, Otherwise, Without, With, Branches, NoBranch, Branch, Doing, Assign, Comb, Edge', Task}
use Rattle.rtl_flat.specs.Process as part
use Rattle.rtl_flat.specs.Signs.{IsExpression, width_in}
use Rattle.rtl_flat.specs.Sizes.{IsSized}
use Rattle.rtl_flat.specs.WellFormed.{AreBranches, IsAction, IsBody, IsList, IsOtherwise, IsProcess, IsSelection, IsWatched}
use Rattle.rtl_rule.proofs.Lists.{Each, each_join}
use Rattle.rtl_rule.specs.Parts.{all_branches, all_in, all_of, all_other, index_of, indices, items_of, labels, nodes, own_labels, own_trees, trees}
use Rattle.check_unknown.specs.Unknowns.{all_nodes}

-- ---- each element of a list

flat_each : {A B : Type 0} (P : B → Type 0) (f : A → List B) (xs : List A) → Each (λ x. Each P (f x)) xs → Each P (flat_map f xs)
flat_each P f [] h = tt
flat_each P f (x ∷ xs) h = each_join P (f x) (flat_map f xs) h.0 (flat_each P f xs h.1)

each_given : {A : Type 0} (P Q : A → Type 0) → ((x : A) → P x → Q x) → (xs : List A) → All P xs → Each Q xs
each_given P Q from [] h = tt
each_given P Q from (x ∷ xs) h =
    (from x (All-head P x xs h), each_given P Q from xs (All-tail P x xs h))

pub each_at : {A B : Type 0} (P : B → Type 0) (view : A → B) (xs : List A) (all : List B) → map view xs ≡ all → Each P all → (i : ℕ) (x : A) → i < length xs → x ≡ get_or xs i x → P (view x)
each_at P view xs all is h = at xs (subst (Each P) (sym is) h)
  where
    at : (ys : List _) → Each P (map view ys) → (i : ℕ) (x : _) → i < length ys → x ≡ get_or ys i x → P (view x)
    at [] k i x below same = absurd (omega (arith, below))
    at (y ∷ ys) k zero x below same = subst (λ z. P (view z)) (sym same) k.0
    at (y ∷ ys) k (suc i) x below same = at ys k.1 i x (omega (arith, below)) same

-- ---- all operands of a sized expression are sized

module _ (n : ℕ) (ws : ℕ → ℕ) where
  abbrev Fit : List Tree → Type 0
  Fit = Each (IsSized n ws)

  pub nodes_sized : (e : Tree) → IsSized n ws e → Each (IsSized n ws) (nodes e)
  nodes_sized (Sized width signed spot e) h = (h, nodes_sized e h.2)
  nodes_sized (Literal bits) h = tt
  nodes_sized (Whole i) h = tt
  nodes_sized (BitAt i low index) h = tt
  nodes_sized (BitBy i low signed index) h = nodes_sized index h.1
  nodes_sized (Part i low width) h = tt
  nodes_sized (Turned operator a) h = nodes_sized a h
  nodes_sized (Joined operator signed a b) h =
      each_join (IsSized n ws) (nodes a) (nodes b) (nodes_sized a h.1) (nodes_sized b h.2)
  nodes_sized (Compared operator signed a b) h =
      each_join (IsSized n ws) (nodes a) (nodes b) (nodes_sized a h.1) (nodes_sized b h.2)
  nodes_sized (Linked operator a b) h =
      each_join (IsSized n ws) (nodes a) (nodes b) (nodes_sized a h.0) (nodes_sized b h.1)
  nodes_sized (Folded operator a) h = nodes_sized a h
  nodes_sized (Shifted operator signed a amount) h =
      each_join (IsSized n ws) (nodes a) (nodes amount) (nodes_sized a h.1) (nodes_sized amount h.2)
  nodes_sized (Chosen c a b) h =
      each_join (IsSized n ws) (nodes c ++ nodes a) (nodes b) (each_join (IsSized n ws) (nodes c) (nodes a) (nodes_sized c h.1) (nodes_sized a h.2)) (nodes_sized b h.3)
  nodes_sized Empty h = tt
  nodes_sized (Beside a others) h =
      each_join (IsSized n ws) (nodes a) (nodes others) (nodes_sized a h.0) (nodes_sized others h.1)
  nodes_sized (Repeated times a) h = nodes_sized a h
  nodes_sized (Recast a) h = nodes_sized a h

-- ---- the expressions of a lawful process

module _ (signals : List Signal) where
  abbrev IsFit : Tree → Type 0
  IsFit = IsSized (length signals) (width_in signals)

  index_sized : (i : ℕ) (selection : Selection) → IsSelection signals i selection → Each IsFit (index_of selection)
  index_sized i part.Whole h = tt
  index_sized i (part.BitAt low index) h = tt
  index_sized i (part.BitBy low index) h = (h.1.widths, tt)
  index_sized i (part.Part low width) h = tt

  target_sized : (target : List Piece) → All (λ (piece : Piece). IsSelection signals piece.signal piece.selection) target → Each IsFit (indices target)
  target_sized target h =
      flat_each IsFit (λ (piece : Piece). index_of piece.selection) target
      (each_given (λ (piece : Piece). IsSelection signals piece.signal piece.selection) (λ (piece : Piece). Each IsFit (index_of piece.selection)) (λ piece. index_sized piece.signal piece.selection) target h)

  items_sized : (items : List Watched) → All (IsWatched signals) items → Each IsFit (flat_map (λ (item : Watched). index_of item.selection) items)
  items_sized items h =
      flat_each IsFit (λ (item : Watched). index_of item.selection) items
      (each_given (IsWatched signals) (λ (item : Watched). Each IsFit (index_of item.selection)) (λ item k. index_sized item.signal item.selection k.inside) items h)

  labels_sized : (selector : Tree) (branches : Branches) → AreBranches signals selector branches → Each IsFit (labels_of branches)
  labels_sized selector NoBranch h = tt
  labels_sized selector (Branch labels body others) h =
      each_join IsFit labels (labels_of others) (each_given (IsExpression signals) IsFit (λ e k. k.widths) labels h.0) (labels_sized selector others h.4)

  abbrev IsOwn : Action → Type 0
  IsOwn one = Each IsFit (own_trees one) × Each IsFit (own_labels one)

  mutual
    in_sized : (a : Action) → IsAction signals a → Each IsOwn (all_in a)
    in_sized (Set target value delayed spot) h =
        (((h.sized.widths, target_sized target h.parts), tt), tt)
    in_sized (If test taken other spot) h =
        (((h.0.widths, tt), tt), each_join IsOwn (all_of taken) (all_other other) (of_sized taken h.1) (other_sized other h.2))
    in_sized (Case kind full parallel selector branches fallback spot) h =
        (((h.0.widths, tt), labels_sized selector branches h.1), each_join IsOwn (all_branches branches) (all_other fallback) (branches_sized selector branches h.1) (other_sized fallback h.2))
    in_sized (Block body) h = of_sized body h

    of_sized : (body : Actions) → IsBody signals body → Each IsOwn (all_of body)
    of_sized Done h = tt
    of_sized (Then first others) h =
        each_join IsOwn (all_in first) (all_of others) (in_sized first h.0) (of_sized others h.1)

    other_sized : (other : Otherwise) → IsOtherwise signals other → Each IsOwn (all_other other)
    other_sized Without h = tt
    other_sized (With body) h = of_sized body h

    branches_sized : (selector : Tree) (branches : Branches) → AreBranches signals selector branches → Each IsOwn (all_branches branches)
    branches_sized selector NoBranch h = tt
    branches_sized selector (Branch labels body others) h =
        each_join IsOwn (all_of body) (all_branches others) (of_sized body h.3) (branches_sized selector others h.4)

  own_trees_sized : (all : List Action) → Each IsOwn all → Each IsFit (flat_map own_trees all)
  own_trees_sized [] h = tt
  own_trees_sized (one ∷ all) h =
      each_join IsFit (own_trees one) (flat_map own_trees all) h.0.0 (own_trees_sized all h.1)

  own_labels_sized : (all : List Action) → Each IsOwn all → Each IsFit (flat_map own_labels all)
  own_labels_sized [] h = tt
  own_labels_sized (one ∷ all) h =
      each_join IsFit (own_labels one) (flat_map own_labels all) h.0.1 (own_labels_sized all h.1)

  list_sized : (list : Option (List Watched)) (body : Actions) → IsList signals list → Each IsFit (flat_map (λ (item : Watched). index_of item.selection) (items_of (Comb list body)))
  list_sized None body h = tt
  list_sized (Some items) body h = items_sized items h.0

  process_sized : (does : Doing) → IsProcess signals does → Each IsFit (trees does ++ labels does)
  process_sized (Assign target value) h =
      each_join IsFit (value ∷ indices target) [] (h.0.sized.widths, target_sized target h.0.parts) tt
  process_sized (Comb list body) h =
      let all = of_sized body h.1 in
      each_join IsFit (trees (Comb list body)) (labels (Comb list body)) (each_join IsFit (flat_map (λ (item : Watched). index_of item.selection) (items_of (Comb list body))) (flat_map own_trees (all_of body)) (list_sized list body h.0) (own_trees_sized (all_of body) all)) (own_labels_sized (all_of body) all)
  process_sized (Edge' events body) h =
      let all = of_sized body h.2 in
      each_join IsFit (trees (Edge' events body)) (labels (Edge' events body)) (each_join IsFit (flat_map (λ (item : Watched). index_of item.selection) events) (flat_map own_trees (all_of body)) (items_sized events h.0) (own_trees_sized (all_of body) all)) (own_labels_sized (all_of body) all)

  each_nodes : (es : List Tree) → Each IsFit es → Each IsFit (flat_map nodes es)
  each_nodes [] h = tt
  each_nodes (e ∷ es) h =
      each_join IsFit (nodes e) (flat_map nodes es) (nodes_sized (length signals) (width_in signals) e h.0) (each_nodes es h.1)

  task_sized : (tasks : List Task) → All (λ (one : Task). IsProcess signals one.does) tasks → (p : ℕ) (one : Task) → slice_get tasks p ≡ Some one → IsProcess signals one.does
  task_sized [] h p one there = absurd (cc)
  task_sized (t ∷ tasks) h zero one there =
      let same : t ≡ one = cc in
      subst (λ (x : Task). IsProcess signals x.does) same (All-head (λ (x : Task). IsProcess signals x.does) t tasks h)
  task_sized (t ∷ tasks) h (suc p) one there =
      task_sized tasks (All-tail (λ (x : Task). IsProcess signals x.does) t tasks h) p one there

  pub all_sized : (tasks : List Task) → All (λ (one : Task). IsProcess signals one.does) tasks → (p : ℕ) (one : Task) → slice_get tasks p ≡ Some one → Each (IsSized (length signals) (width_in signals)) (all_nodes one.does)
  all_sized tasks h p one there =
      each_nodes (trees one.does ++ labels one.does) (process_sized one.does (task_sized tasks h p one there))

  pub nodes_of_sized : (does : Doing) → IsProcess signals does → Each (IsSized (length signals) (width_in signals)) (all_nodes does)
  nodes_of_sized does h = each_nodes (trees does ++ labels does) (process_sized does h)
