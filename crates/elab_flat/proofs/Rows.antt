-- The port at the place of an argument.
use Rattle.std.specs.Prelude.{ℕ, ◌<◌, ◌≤◌, List, ◌++◌, length, map, Option, None, Some}
use Rattle.std.specs.List.{slice_get}
use Rattle.std.specs.Option.{option_map}
use Rattle.std.proofs.Common.{◌≡◌, ◌∙◌, Bor, ap, append-nil, get_or, refl, subst, sym}
use Rattle.std.proofs.lemmas.Option.{slice_get_past, slice_get_read}
use Rattle.rtl_tree.specs.declared.tree.names.Name.{Name}
use Rattle.rtl_tree.specs.TreeExpr.{Formula, Identifier, identifier}
use Rattle.rtl_flat.specs.Process.{Task}
use Rattle.elab_walk.specs.elab_links.Ports.{Sockets}
use Rattle.elab_walk.proofs.elab_links_proofs.Places.{at_place}
use Rattle.elab_flat.specs.Links.{Sides, named_port_tasks, placed_tasks}

-- a place behind all names, and the name at a place
none_at : {A B : Type 0} (f : A → B) (xs ys : List A) (i : ℕ) → xs ≡ ys → length xs ≤ i → slice_get (map f ys) i ≡ None
none_at f xs ys i is past =
    at_place f ys i ∙ ap (option_map f) (slice_get_past ys i (subst (λ zs. length zs ≤ i) is past))

some_at : {A B : Type 0} (f : A → B) (xs ys : List A) (i : ℕ) (x : A) → xs ≡ ys → i < length xs → x ≡ get_or xs i x → slice_get (map f ys) i ≡ Some (f x)
some_at f xs ys i x is inside there =
    at_place f ys i ∙ ap (option_map f) (slice_get_read ys (length ys) i x refl (subst (λ zs. i < length zs) is inside) (subst (λ zs. x ≡ get_or zs i x) is there))

abbrev pub names_at : List (Bor Name) → ℕ → Option Identifier
names_at order place = slice_get (map (λ (name : Bor Name). identifier name.now) order) place

-- an argument behind all ports connects nothing, and else the port at its place
pub placed_none : (made : List Task) (ports : Sockets) (s : Sides) (at : ℕ) (value : Option Formula) (xs ys : List (Bor Name)) (i : ℕ) → xs ≡ ys → length xs ≤ i → made ≡ made ++ placed_tasks ports s at (names_at ys i) value
placed_none made ports s at value xs ys i is past =
    subst (λ o. made ≡ made ++ placed_tasks ports s at o value) (sym (none_at (λ (name : Bor Name). identifier name.now) xs ys i is past)) (sym (append-nil made))

pub placed_some : (made : List Task) (ports : Sockets) (s : Sides) (at : ℕ) (value : Option Formula) (xs ys : List (Bor Name)) (i : ℕ) (x : Bor Name) → xs ≡ ys → i < length xs → x ≡ get_or xs i x → made ++ named_port_tasks ports s at x.now.text value ≡ made ++ placed_tasks ports s at (names_at ys i) value
placed_some made ports s at value xs ys i x is inside there =
    ap (λ o. made ++ placed_tasks ports s at o value) (sym (some_at (λ (name : Bor Name). identifier name.now) xs ys i x is inside there))
