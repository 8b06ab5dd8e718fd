-- The instances right under one, and what is left of them behind an item.
use Rattle.std.specs.Prelude.{ℕ, zero, suc, ◌+◌, ◌<◌, List, [], ◌∷◌, ◌++◌, length, map, drop, Option, None, Some, IfSome}
use Rattle.std.proofs.Common.{◌≡◌, ◌∙◌, ap, get_or, refl, subst, sym}
use Rattle.std.proofs.lemmas.List.{at_drop_more, length-map}
use Rattle.rtl_tree.specs.TreeItem.{Instantiation}
use Rattle.elab_walk.specs.elab_scope.Names.{Meanings}
use Rattle.elab_walk.specs.elab_items.Scopes.{scope_of}
use Rattle.elab_walk.specs.elab_links.Groups.{Group}
use Rattle.elab_walk.specs.elab_links.Ports.{Sockets}
use Rattle.elab_walk.specs.Placements.{Placement}
use Rattle.elab_walk.specs.Visits.{Library}
use Rattle.elab_flat.specs.declared.works.Child.{Child}
use Rattle.elab_flat.specs.Children.{AreKept, AreKnown, HasChildren, HaveChildren, bases_of, first_names, group_scopes, scopes_of}
use Rattle.elab_flat.specs.Works.{instantiations_tasks, placed}

-- ---- what is kept of them

pub kept_bases : (kept : List Child) (held : List Placement) → AreKept kept held → bases_of kept ≡ map (λ placement. placement.base) held
kept_bases [] [] h = refl
kept_bases [] (placement ∷ placements) h = absurd h
kept_bases (child ∷ children) [] h = absurd h
kept_bases (child ∷ children) (placement ∷ placements) h =
    ap (λ base. base ∷ bases_of children) h.0.0
    ∙ ap (λ bases. placement.base ∷ bases) (kept_bases children placements h.1)

pub kept_known : (kept : List Child) (held : List Placement) (left : List Meanings) → AreKept kept held → AreKnown kept (scopes_of held ++ left)
kept_known [] held left h = tt
kept_known (child ∷ children) [] left h = absurd h
kept_known (child ∷ children) (placement ∷ placements) left h =
    (h.0.1, kept_known children placements left h.1)

-- ---- those that an item places, and those that are left

pub known_front : (kept : List Child) (own others : List Meanings) → AreKnown kept (own ++ others) → AreKnown kept own
known_front [] own others h = tt
known_front (child ∷ children) [] others h = tt
known_front (child ∷ children) (first ∷ own) others h = (h.0, known_front children own others h.1)

pub known_behind : (kept : List Child) (own others : List Meanings) → AreKnown kept (own ++ others) → AreKnown (drop (length own) kept) others
known_behind kept [] others h = h
known_behind [] (first ∷ own) others h = tt
known_behind (child ∷ children) (first ∷ own) others h = known_behind children own others h.1

pub scopes_placed : (found : Option Group) → length (group_scopes found) ≡ placed found
scopes_placed None = refl
scopes_placed (Some group) =
    length-map group.instantiations (λ (instantiation : Instantiation). scope_of group.settings group.circuit)

-- connections by names that are known
pub known_tasks : (placement : Placement) (ports : Sockets) (kept : List Child) (scope inner : Meanings) (bases : List ℕ) (instantiations : List Instantiation) → AreKnown kept (map (λ instantiation. scope) instantiations) → Some inner ≡ first_names kept → instantiations_tasks placement ports inner bases instantiations ≡ instantiations_tasks placement ports scope bases instantiations
known_tasks placement ports kept scope inner bases [] h is = refl
known_tasks placement ports [] scope inner bases (first ∷ others) h is = absurd cc
known_tasks placement ports (child ∷ children) scope inner bases (first ∷ others) h is =
    ap (λ names. instantiations_tasks placement ports names bases (first ∷ others)) (subst (λ o. IfSome o (λ names. names ≡ scope)) (sym is) h.0)

-- ---- instances in a row

have_drop : (library : Library) (n : ℕ) (all : List Placement) → HaveChildren library all → HaveChildren library (drop n all)
have_drop library zero all h = h
have_drop library (suc n) [] h = tt
have_drop library (suc n) (first ∷ others) h = have_drop library n others h.1

pub has_children : (library : Library) (all : List Placement) (i : ℕ) (p : Placement) → i < length all → p ≡ get_or all i p → HaveChildren library all → HasChildren library p (drop (i + 1) all)
has_children library all i p inside is h =
    let from : HaveChildren library (get_or all i p ∷ drop (i + 1) all) =
    subst (HaveChildren library) (at_drop_more (λ ps. ps) all i p inside) (have_drop library i all h) in
    subst (λ q. HasChildren library q (drop (i + 1) all)) (sym is) from.0
