-- Modules that are found one after the other.
use Rattle.std.specs.Prelude.{ℕ, Bool, true, false, if◌then◌else◌, List, [], ◌∷◌, ◌++◌}
use Rattle.std.specs.Cmp.Lexicographic.{bytes_decides}
use Rattle.std.specs.Str.{bytes_eq}
use Rattle.std.proofs.Common.{◌≡◌, ◌∙◌, ap, refl, subst, sym}
use Rattle.std.proofs.Math.Path.{fun_ext}
use Rattle.std.proofs.lemmas.Bool.{cases_Bool, cond-false}
use Rattle.elab_links.specs.declared.module_set.Lookup.{Lookup}
use Rattle.elab_links.specs.declared.module_set.Lookup.TheVariants.{Missing, Found, Twice}
use Rattle.elab_links.specs.declared.module_set.Place.{Place}
use Rattle.elab_links.specs.Modules.{Lookups, Placed, found, no_lookups, with_all, with_another, with_one}
use mathlib.Core.Logic.{⊎_elim}

pub with_all_append : (lookups : Lookups) (xs ys : List Placed) → with_all lookups (xs ++ ys) ≡ with_all (with_all lookups xs) ys
with_all_append lookups [] ys = refl
with_all_append lookups (x ∷ xs) ys = with_all_append (with_one lookups x) xs ys

-- what a name means where some modules have it, and then others
abbrev merged : Lookup → Lookup → Lookup
merged Missing more = more
merged (Found place) Missing = Found place
merged (Found place) (Found other) = Twice
merged (Found place) Twice = Twice
merged Twice more = Twice

merged_none : (lookup : Lookup) → merged lookup Missing ≡ lookup
merged_none Missing = refl
merged_none (Found place) = refl
merged_none Twice = refl

merged_another : (place : Place) (lookup more : Lookup) → merged (with_another place lookup) more ≡ merged lookup (with_another place more)
merged_another place Missing Missing = refl
merged_another place Missing (Found other) = refl
merged_another place Missing Twice = refl
merged_another place (Found other) Missing = refl
merged_another place (Found other) (Found third) = refl
merged_another place (Found other) Twice = refl
merged_another place Twice more = refl

merged_by : (b : Bool) (place : Place) (lookup more : Lookup) → merged (if b then with_another place lookup else lookup) more ≡ merged lookup (if b then with_another place more else more)
merged_by true place lookup more = merged_another place lookup more
merged_by false place lookup more = refl

merged_one : (lookups : Lookups) (one : Placed) (name : List ℕ) (more : Lookup) → merged (with_one lookups one name) more ≡ merged (lookups name) (if bytes_eq one.name name then with_another one.place more else more)
merged_one lookups one name more =
    ⊎_elim
    (λ same. subst
    (λ name. merged (with_one lookups one name) more ≡ merged (lookups name) (if bytes_eq one.name name then with_another one.place more else more))
    ((bytes_decides one.name name).0 same)
    (merged_by (bytes_eq one.name one.name) one.place (lookups one.name) more))
    (λ differ. ap (λ lookup. merged lookup more) (cond-false (bytes_eq one.name name) (with_another one.place (lookups one.name)) (lookups name) differ)
    ∙ sym (ap (merged (lookups name)) (cond-false (bytes_eq one.name name) (with_another one.place more) more differ)))
    (cases_Bool (bytes_eq one.name name))

all_merged : (lookups : Lookups) (ones : List Placed) (name : List ℕ) → with_all lookups ones name ≡ merged (lookups name) (found ones name)
all_merged lookups [] name = sym (merged_none (lookups name))
all_merged lookups (first ∷ others) name =
    all_merged (with_one lookups first) others name ∙ merged_one lookups first name (found others name)

pub found_is : (ones : List Placed) → with_all no_lookups ones ≡ found ones
found_is ones = fun_ext (λ name. all_merged no_lookups ones name)
