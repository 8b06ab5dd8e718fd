-- Names that are looked up one after the other.
use Rattle.std.specs.Prelude.{if◌then◌else◌}
use Rattle.std.specs.Cmp.Lexicographic.{bytes_decides}
use Rattle.std.specs.List.{All, Contains}
use Rattle.std.specs.Option.{is_some}
use Rattle.std.specs.Str.{bytes_eq}
use Rattle.std.proofs.Common.{◌≡◌, ◌∙◌, ℕ, ◌+◌, ◌<◌, Bool, true, false, List, [], ◌∷◌, ◌++◌, length, get_or, map, take, Option, None, Some, refl, sym, ap, subst, inl, inr}
use Rattle.std.proofs.lemmas.Bool.{both_ways, cases_Bool, cond-false}
use Rattle.std.proofs.lemmas.List.{append-nil, append_assoc, map-append, take_more}
use Rattle.std.proofs.lemmas.List.Elements.{All-nil, All-push, Contains-append_left, Contains-push, Contains-push_cases}
use Rattle.name_map.specs.Values.{Values, no_values, values_of, with_value}
use Rattle.rtl_tree.specs.TreeItem.{ModuleItem, module_item}
use Rattle.rtl_tree.specs.declared.tree.item.Item.{Item}
use Rattle.rtl_elab.specs.elab_links.declared.module_set.Lookup.{Lookup}
use Rattle.rtl_elab.specs.elab_links.Modules.{Lookups}
use Rattle.rtl_elab.specs.elab_walk.declared.trail.Placement.{Placement}
use Rattle.rtl_elab.specs.elab_walk.Visits.{visit}
use Rattle.elab_lookups.specs.declared.look_up.LookUp.{LookUp}
use Rattle.elab_names.specs.declared.names.Asked.{Asked}
use Rattle.elab_names.specs.Asking.{AreAsked, Asks, names_of}
use Rattle.elab_names.specs.LookUps.{name_in_item, names_by, names_in}
use Rattle.elab_names.proofs.Naming.{none_in}

-- ---- names one after the other

pub asks_nothing : (lookups : Lookups) (more : List (List ℕ)) (asked : Asked) → more ≡ [] → Asks lookups more asked asked
asks_nothing lookups more asked nothing =
    record {
      on = λ names are.
          subst (λ (all : List (List ℕ)). AreAsked lookups all asked) (sym (ap (λ (m : List (List ℕ)). names ++ m) nothing ∙ append-nil names)) are;
    }

pub asks_both : (lookups : Lookups) (some others : List (List ℕ)) (old mid new : Asked) → Asks lookups some old mid → Asks lookups others mid new → Asks lookups (some ++ others) old new
asks_both lookups some others old mid new first second =
    record {
      on = λ names are.
          subst (λ (all : List (List ℕ)). AreAsked lookups all new) (append_assoc names some others) (second.on (names ++ some) (first.on names are));
    }

pub begins : (lookups : Lookups) (asked : Asked) → values_of asked.known ≡ no_values → asked.found.items ≡ [] → AreAsked lookups [] asked
begins lookups asked known found =
    record {
      each = λ name. (
        λ among. absurd (none_in name (subst (λ (all : List LookUp). Contains (names_of all) name) found among)),
        λ among. absurd (none_in name among),
      );
      known = λ name. (
        λ is. absurd (both_ways (is_some (values_of asked.known name)) (ap (λ (values : Values Lookup). is_some (values name)) known) is),
        λ among. absurd (none_in name among),
      );
      meant =
          subst (All (λ (one : LookUp). lookups one.name ≡ one.meant)) (sym found) (All-nil (λ (one : LookUp). lookups one.name ≡ one.meant));
    }

-- a name that is there already
pub asks_old : (lookups : Lookups) (name : List ℕ) (asked : Asked) → is_some (values_of asked.known name) ≡ true → Asks lookups (name ∷ []) asked asked
asks_old lookups name asked there =
    record {
      on = λ names are.
          record {
            each = λ other. (
              λ among. Contains-append_left names (name ∷ []) other ((are.each other).0 among),
              λ among. (are.each other).1 (fewer names are other among),
            );
            known = λ other. (
              λ is. Contains-append_left names (name ∷ []) other ((are.known other).0 is),
              λ among. (are.known other).1 (fewer names are other among),
            );
            meant = are.meant;
          };
    }
  where
    fewer : (names : List (List ℕ)) → AreAsked lookups names asked → (other : List ℕ) → Contains (names ++ name ∷ []) other → Contains names other
    fewer names are other among =
        elim (Contains-push_cases names name other among) [
          | inl before ↦ before
          | inr same ↦ subst (Contains names) same ((are.known name).0 there)
        ]

kept : (here : Bool) (value : Lookup) (old : Option Lookup) → is_some old ≡ true → is_some (if here then Some value else old) ≡ true
kept true value old is = refl
kept false value old is = is

-- a name that isn't
pub asks_new : (lookups : Lookups) (name : List ℕ) (meant : Lookup) (old new : Asked) → lookups name ≡ meant → values_of new.known ≡ with_value (values_of old.known) name meant → new.found.items ≡ old.found.items ++ (let one : LookUp = record { name = name; meant = meant } in one) ∷ [] → Asks lookups (name ∷ []) old new
asks_new lookups name meant old new is known found =
    record {
      on = λ names are.
          record {
            each = λ other. (to_each names are other, from_each names are other);
            known = λ other. (to_known names are other, from_known names are other);
            meant =
                subst (All (λ (one : LookUp). lookups one.name ≡ one.meant)) (sym found) (All-push (λ (one : LookUp). lookups one.name ≡ one.meant) old.found.items own are.meant is);
          };
    }
  where
    own : LookUp
    own = record { name = name; meant = meant }

    all_names : names_of new.found.items ≡ names_of old.found.items ++ name ∷ []
    all_names = ap names_of found ∙ map-append (λ (one : LookUp). one.name) old.found.items (own ∷ [])

    to_each : (names : List (List ℕ)) → AreAsked lookups names old → (other : List ℕ) → Contains (names_of new.found.items) other → Contains (names ++ name ∷ []) other
    to_each names are other among =
        elim (Contains-push_cases (names_of old.found.items) name other (subst (λ (all : List (List ℕ)). Contains all other) all_names among)) [
          | inl before ↦ Contains-append_left names (name ∷ []) other ((are.each other).0 before)
          | inr same ↦ subst (Contains (names ++ name ∷ [])) same (Contains-push names name)
        ]

    from_each : (names : List (List ℕ)) → AreAsked lookups names old → (other : List ℕ) → Contains (names ++ name ∷ []) other → Contains (names_of new.found.items) other
    from_each names are other among =
        subst (λ (all : List (List ℕ)). Contains all other) (sym all_names)
        (elim (Contains-push_cases names name other among) as (λ _. Contains (names_of old.found.items ++ name ∷ []) other) [
          | inl before ↦
              Contains-append_left (names_of old.found.items) (name ∷ []) other ((are.each other).1 before)
          | inr same ↦
              subst (Contains (names_of old.found.items ++ name ∷ [])) same (Contains-push (names_of old.found.items) name)
        ])

    value_at : (other : List ℕ) → values_of new.known other ≡ (if bytes_eq name other then Some meant else values_of old.known other)
    value_at other = ap (λ (values : Values Lookup). values other) known

    to_known : (names : List (List ℕ)) → AreAsked lookups names old → (other : List ℕ) → is_some (values_of new.known other) ≡ true → Contains (names ++ name ∷ []) other
    to_known names are other some =
        elim (cases_Bool (bytes_eq name other)) [
          | inl same ↦
              subst (Contains (names ++ name ∷ [])) ((bytes_decides name other).0 same) (Contains-push names name)
          | inr differ ↦
              let read = value_at other ∙ cond-false (bytes_eq name other) (Some meant) (values_of old.known other) differ in
              Contains-append_left names (name ∷ []) other ((are.known other).0 (sym (ap is_some read) ∙ some))
        ]

    from_known : (names : List (List ℕ)) → AreAsked lookups names old → (other : List ℕ) → Contains (names ++ name ∷ []) other → is_some (values_of new.known other) ≡ true
    from_known names are other among =
        ap is_some (value_at other)
        ∙ elim (Contains-push_cases names name other among) as (λ _. is_some (if bytes_eq name other then Some meant else values_of old.known other) ≡ true) [
          | inl before ↦
              kept (bytes_eq name other) meant (values_of old.known other) ((are.known other).1 before)
          | inr same ↦
              ap (λ (here : Bool). is_some (if here then Some meant else values_of old.known other)) ((bytes_decides name other).1 same)
        ]

-- ---- items

names_append : (xs ys : List ModuleItem) → names_in (xs ++ ys) ≡ names_in xs ++ names_in ys
names_append [] ys = refl
names_append (x ∷ xs) ys =
    ap (λ (rest : List (List ℕ)). name_in_item x ++ rest) (names_append xs ys)
    ∙ sym (append_assoc (name_in_item x) (names_in xs) (names_in ys))

pub names_more : (items : List Item) (i : ℕ) (item : Item) → i < length items → item ≡ get_or items i item → names_in (map module_item (take (i + 1) items)) ≡ names_in (map module_item (take i items)) ++ name_in_item (module_item item)
names_more items i item inside is =
    ap (λ (xs : List Item). names_in (map module_item xs)) (take_more items i item inside)
    ∙ ap names_in (map-append module_item (take i items) (get_or items i item ∷ []))
    ∙ names_append (map module_item (take i items)) (module_item (get_or items i item) ∷ [])
    ∙ ap (λ (own : List (List ℕ)). names_in (map module_item (take i items)) ++ own) (append-nil (name_in_item (module_item (get_or items i item))))
    ∙ ap (λ (x : Item). names_in (map module_item (take i items)) ++ name_in_item (module_item x)) (sym is)

-- ---- instances

-- the names that the modules of instances place
abbrev pub placed_names : List Placement → List (List ℕ)
placed_names placements = names_by (map (λ (p : Placement). visit p.visit) placements)

placed_append : (xs : List Placement) (y : Placement) → placed_names (xs ++ y ∷ []) ≡ placed_names xs ++ names_in (visit y.visit).circuit.items
placed_append [] y = append-nil (names_in (visit y.visit).circuit.items)
placed_append (x ∷ xs) y =
    ap (λ (rest : List (List ℕ)). names_in (visit x.visit).circuit.items ++ rest) (placed_append xs y)
    ∙ sym (append_assoc (names_in (visit x.visit).circuit.items) (placed_names xs) (names_in (visit y.visit).circuit.items))

pub asked_more : (lookups : Lookups) (top : List ℕ) (placements : List Placement) (i : ℕ) (one : Placement) (items : List Item) (old new : Asked) → i < length placements → one ≡ get_or placements i one → items ≡ one.visit.written.now.items.items → Asks lookups (names_in (map module_item items)) old new → AreAsked lookups (top ∷ placed_names (take i placements)) old → AreAsked lookups (top ∷ placed_names (take (i + 1) placements)) new
asked_more lookups top placements i one items old new inside is shown asks are =
    subst (λ (all : List (List ℕ)). AreAsked lookups (top ∷ all) new) (sym more) (asks.on (top ∷ placed_names (take i placements)) are)
  where
    more : placed_names (take (i + 1) placements) ≡ placed_names (take i placements) ++ names_in (map module_item items)
    more =
        ap placed_names (take_more placements i one inside)
        ∙ ap (λ (p : Placement). placed_names (take i placements ++ p ∷ [])) (sym is)
        ∙ placed_append (take i placements) one
        ∙ ap (λ (all : List Item). placed_names (take i placements) ++ names_in (map module_item all)) (sym shown)
