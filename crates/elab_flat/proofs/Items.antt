-- The items of an instance, one after the other, with the instances right under it that are left.
use Rattle.std.specs.Prelude.{ℕ, ◌+◌, ◌<◌, List, ◌∷◌, length, map, drop}
use Rattle.std.proofs.Common.{◌≡◌, ◌∙◌, ap, get_or, subst, sym}
use Rattle.std.proofs.lemmas.List.{at_drop_more, drop-map}
use Rattle.rtl_tree.specs.declared.tree.item.Item.{Item}
use Rattle.rtl_tree.specs.TreeItem.{module_item}
use Rattle.elab_walk.specs.Placements.{Placement}
use Rattle.elab_walk.specs.Visits.{Library, scope_in}
use Rattle.elab_flat.specs.declared.works.Child.{Child}
use Rattle.elab_flat.specs.Children.{AreKnown, bases_of, group_scopes, placed_scopes}
use Rattle.elab_flat.specs.Works.{Works, group_in, placed, with_part, with_parts}
use Rattle.elab_flat.proofs.Children.{known_behind, known_front, scopes_placed}

-- whether names that are kept are those of what items place from one on
abbrev pub AreLeft : Library → Placement → List Child → List Item → ℕ → Type 0
AreLeft library placement kept items i =
    AreKnown kept (placed_scopes library (scope_in placement.visit) (map module_item (drop i items)))

known_at : (library : Library) (placement : Placement) (kept : List Child) (items : List Item) (i : ℕ) (item : Item) → i < length items → item ≡ get_or items i item → AreLeft library placement kept items i → AreKnown kept (placed_scopes library (scope_in placement.visit) (module_item item ∷ map module_item (drop (i + 1) items)))
known_at library placement kept items i item inside is h =
    subst (λ x. AreKnown kept (placed_scopes library (scope_in placement.visit) (module_item x ∷ map module_item (drop (i + 1) items)))) (sym is) (subst (AreKnown kept) (at_drop_more (λ xs. placed_scopes library (scope_in placement.visit) (map module_item xs)) items i item inside) h)

-- those of the item in a place
pub own_known : (library : Library) (placement : Placement) (kept : List Child) (items : List Item) (i : ℕ) (item : Item) → i < length items → item ≡ get_or items i item → AreLeft library placement kept items i → AreKnown kept (group_scopes (group_in library placement (module_item item)))
own_known library placement kept items i item inside is h =
    known_front kept (group_scopes (group_in library placement (module_item item))) (placed_scopes library (scope_in placement.visit) (map module_item (drop (i + 1) items))) (known_at library placement kept items i item inside is h)

-- those of the items behind it
pub left_known : (library : Library) (placement : Placement) (kept : List Child) (count : ℕ) (items : List Item) (i : ℕ) (item : Item) → i < length items → item ≡ get_or items i item → count ≡ placed (group_in library placement (module_item item)) → AreLeft library placement kept items i → AreLeft library placement (drop count kept) items (i + 1)
left_known library placement kept count items i item inside is counted h =
    let own = group_scopes (group_in library placement (module_item item)) in
    let others = placed_scopes library (scope_in placement.visit) (map module_item (drop (i + 1) items)) in
    subst (λ n. AreKnown (drop n kept) others) (scopes_placed (group_in library placement (module_item item)) ∙ sym counted) (known_behind kept own others (known_at library placement kept items i item inside is h))

-- the processes of one item more
pub more_parts : (library : Library) (placement : Placement) (kept : List Child) (count : ℕ) (before after : Works) (items : List Item) (i : ℕ) (item : Item) → i < length items → item ≡ get_or items i item → count ≡ placed (group_in library placement (module_item item)) → after ≡ with_part library placement (bases_of kept) before (module_item item) → with_parts library placement (bases_of (drop count kept)) after (map module_item (drop (i + 1) items)) ≡ with_parts library placement (bases_of kept) before (map module_item (drop i items))
more_parts library placement kept count before after items i item inside is counted made =
    let others = map module_item (drop (i + 1) items) in
    ap (λ bases. with_parts library placement bases after others) (sym (drop-map (λ (child : Child). child.base) count kept))
    ∙ ap (λ n. with_parts library placement (drop n (bases_of kept)) after others) counted
    ∙ ap (λ works. with_parts library placement (drop (placed (group_in library placement (module_item item))) (bases_of kept)) works others) made
    ∙ ap (λ x. with_parts library placement (bases_of kept) before (module_item x ∷ others)) is
    ∙ sym (at_drop_more (λ xs. with_parts library placement (bases_of kept) before (map module_item xs)) items i item inside)
