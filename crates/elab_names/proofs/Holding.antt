-- Names stand in instances for the same where their files have other numbers.
use Rattle.std.specs.Prelude.{ℕ, ◌+◌, ◌==◌, nat_lt, cond, Bool, true, false, List, [], ◌∷◌, ◌++◌, map, None}
use Rattle.std.proofs.Common.{◌≡◌, ◌∙◌, ap, refl, subst, sym}
use Rattle.rtl_elab.specs.elab_flat.Children.{HaveChildren, scopes_of}
use Rattle.rtl_elab.specs.elab_flat.Held.{depth_of, held_under}
use Rattle.rtl_elab.specs.elab_walk.Placements.{Placement, placements}
use Rattle.rtl_elab.specs.elab_walk.Visits.{Library, scope_in}
use Rattle.rtl_elab.specs.Elaborated.{elaborated, refused, visited}
use Rattle.rtl_elab.proofs.Coming.{elaborated_held}
use Rattle.elab_names.specs.Moves.{moved_placement}

by_tests : (number : ℕ → ℕ) (x y : Bool) (p : Placement) (moved held : List Placement) → scopes_of moved ≡ scopes_of held → scopes_of (cond x (cond y (moved_placement number p ∷ moved) moved) []) ≡ scopes_of (cond x (cond y (p ∷ held) held) [])
by_tests number true true p moved held h = ap (λ scopes. scope_in p.visit ∷ scopes) h
by_tests number true false p moved held h = h
by_tests number false y p moved held h = refl

held_moved : (number : ℕ → ℕ) (d : ℕ) (all : List Placement) → scopes_of (held_under d (map (moved_placement number) all)) ≡ scopes_of (held_under d all)
held_moved number d [] = refl
held_moved number d (first ∷ others) =
    by_tests number (nat_lt d (depth_of first)) (depth_of first == d + 1) first (held_under d (map (moved_placement number) others)) (held_under d others) (held_moved number d others)

have_moved : (library : Library) (number : ℕ → ℕ) (all : List Placement) → HaveChildren library all → HaveChildren library (map (moved_placement number) all)
have_moved library number [] h = tt
have_moved library number (first ∷ others) h = (
  (h.0.0, h.0.1 ∙ ap (λ scopes. scopes ++ h.0.0) (sym (held_moved number (depth_of first) others))),
  have_moved library number others h.1,
)

-- so of a top of which nothing is told
pub held_there : (library : Library) (top : List ℕ) (number : ℕ → ℕ) (before after : List Placement) → None ≡ refused (elaborated library top) → before ≡ placements 0 0 (visited library top) → after ≡ map (moved_placement number) before → HaveChildren library after
held_there library top number before after nothing come moved =
    subst (HaveChildren library) (sym moved) (have_moved library number before (subst (HaveChildren library) (sym come) (elaborated_held library top (sym nothing))))
