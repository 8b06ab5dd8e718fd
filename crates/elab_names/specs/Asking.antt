-- It serves inner contracts and proofs; no answer of the program is stated by it.
-- The names that are looked up so far.
use Rattle.std.specs.Prelude.{ℕ, ◌≡◌, ◌↔◌, true, List, ◌++◌, map}
use Rattle.std.specs.List.{All, Contains}
use Rattle.std.specs.Option.{is_some}
use Rattle.name_map.specs.Values.{values_of}
use Rattle.rtl_elab.specs.elab_links.Modules.{Lookups}
use Rattle.elab_lookups.specs.declared.look_up.LookUp.{LookUp}
use Rattle.elab_names.specs.declared.names.Asked.{Asked}

abbrev pub names_of : List LookUp → List (List ℕ)
names_of found = map (λ (one : LookUp). one.name) found

-- just these names are there, with what they mean
pub record AreAsked (lookups : Lookups) (names : List (List ℕ)) (asked : Asked) : Type 0 where
  pub each : (name : List ℕ) → Contains (names_of asked.found.items) name ↔ Contains names name
  pub known : (name : List ℕ) → is_some (values_of asked.known name) ≡ true ↔ Contains names name
  pub meant : All (λ (one : LookUp). lookups one.name ≡ one.meant) asked.found.items

-- further names are there
pub record Asks (lookups : Lookups) (more : List (List ℕ)) (old new : Asked) : Type 0 where
  pub on : (names : List (List ℕ)) → AreAsked lookups names old → AreAsked lookups (names ++ more) new

-- these names, each with what it means
pub record AreFound (lookups : Lookups) (names : List (List ℕ)) (found : List LookUp) : Type 0 where
  pub each : (name : List ℕ) → Contains (names_of found) name ↔ Contains names name
  pub meant : All (λ (one : LookUp). lookups one.name ≡ one.meant) found
