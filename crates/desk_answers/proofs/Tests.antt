-- What the tests of a ruling say where they pass, and when they pass.
use Rattle.std.proofs.Common.{◌≡◌, ◌∙◌, ℕ, Bool, true, List, ap, refl, subst}
use Rattle.std.specs.Prelude.{◌==◌, Option, None, Some, slice_get}
use Rattle.std.specs.List.{Contains, list_all}
use Rattle.std.proofs.lemmas.Bool.{and_from, and_parts}
use Rattle.std.proofs.lemmas.Bool.Decides.{Decides-eqb}
use Rattle.std.proofs.lemmas.List.Sums.{AllPass-from_list_all}
use Rattle.std.proofs.lemmas.Slice.Eq.{bytes_eq-Decides}
use Rattle.elab_names.specs.elab_links.declared.module_set.Lookup.{Lookup}
use Rattle.elab_names.specs.elab_links.declared.module_set.Lookup.TheVariants.{Missing, Found, Twice}
use Rattle.elab_names.specs.elab_links.declared.module_set.Place.{Place}
use Rattle.elab_names.specs.Extracts.{number_at, place_in, renumbered}
use Rattle.source_file.specs.declared.SourceFile.{SourceFile}
use Rattle.desk_memo.specs.Orders.{AreInOrder}
use Rattle.desk_memo.specs.Rulings.{is_same_lookup, is_same_name}
use Rattle.desk_answers.proofs.Ordered.{one_place}
use Rattle.desk_answers.proofs.Standing.{AreAt, file_in, stands_at}

-- each of a list passes
pub passes : {X : Type 0} (p : X → Bool) (xs : List X) (x : X) → list_all p xs ≡ true → Contains xs x → p x ≡ true
passes p xs x all among =
    subst (λ it. p it ≡ true) among.2 (AllPass-from_list_all p xs all among.0 x among.1)

-- ---- names

record AreNamed (now was : Option SourceFile) : Type 0 where
  file : SourceFile
  used : SourceFile
  is_now : now ≡ Some file
  is_used : was ≡ Some used
  same : file.name ≡ used.name

named : (now was : Option SourceFile) → is_same_name now was ≡ true → AreNamed now was
named None None same = absurd (cc)
named None (Some used) same = absurd (cc)
named (Some file) None same = absurd (cc)
named (Some file) (Some used) same = record {
  file = file;
  used = used;
  is_now = refl;
  is_used = refl;
  same = (bytes_eq-Decides file.name used.name).0 same;
}

named_itself : (now was : Option SourceFile) (file : SourceFile) → now ≡ Some file → was ≡ Some file → is_same_name now was ≡ true
named_itself now was file is_now is_used =
    ap (λ (it : Option SourceFile). is_same_name it was) is_now
    ∙ ap (λ (it : Option SourceFile). is_same_name (Some file) it) is_used
    ∙ (bytes_eq-Decides file.name file.name).1 refl

-- ---- lookups

place_is : (now was : Place) (file : ℕ) → now.file ≡ file → now.index ≡ was.index → now ≡ record { file = file; index = was.index }
place_is now was file same_file same_index =
    ap (λ (it : ℕ). record { file = it; index = now.index }) same_file
    ∙ ap (λ (it : ℕ). record { file = file; index = it }) same_index

found_is : (files used : List SourceFile) (numbers : List ℕ) (now was : Place) → AreInOrder files → AreAt files numbers used → is_same_lookup files used (Found now) (Found was) ≡ true → now ≡ record { file = number_at numbers was.file; index = was.index }
found_is files used numbers now was order at same =
    let parts = and_parts (is_same_name (slice_get files now.file) (slice_get used was.file)) (now.index == was.index) same in
    let both = named (slice_get files now.file) (slice_get used was.file) parts.0 in
    place_is now was (number_at numbers was.file)
    (one_place files now.file (number_at numbers was.file) both.file both.used order both.is_now (file_in files numbers used was.file both.used at both.is_used) both.same)
    ((Decides-eqb now.index was.index).0 parts.1)

-- a name means the same module, by its number among all files
pub same_lookup : (files used : List SourceFile) (numbers : List ℕ) (now was : Lookup) → AreInOrder files → AreAt files numbers used → is_same_lookup files used now was ≡ true → now ≡ renumbered (number_at numbers) was
same_lookup files used numbers Missing Missing order at same = refl
same_lookup files used numbers Missing (Found was) order at same = absurd (cc)
same_lookup files used numbers Missing Twice order at same = absurd (cc)
same_lookup files used numbers (Found now) Missing order at same = absurd (cc)
same_lookup files used numbers (Found now) (Found was) order at same =
    ap (λ (it : Place). Found it) (found_is files used numbers now was order at same)
same_lookup files used numbers (Found now) Twice order at same = absurd (cc)
same_lookup files used numbers Twice Missing order at same = absurd (cc)
same_lookup files used numbers Twice (Found was) order at same = absurd (cc)
same_lookup files used numbers Twice Twice order at same = refl

-- a name means the same as when it was looked up
pub same_itself : (files used : List SourceFile) (numbers : List ℕ) (lookup : Lookup) → AreAt files numbers used → ((place : Place) → lookup ≡ Found place → Contains numbers place.file) → is_same_lookup files used lookup (renumbered (place_in numbers) lookup) ≡ true
same_itself files used numbers Missing at among = refl
same_itself files used numbers (Found place) at among =
    let stands = stands_at files numbers used place.file at (among place refl) in
    and_from (is_same_name (slice_get files place.file) (slice_get used (place_in numbers place.file))) (place.index == place.index)
    (named_itself (slice_get files place.file) (slice_get used (place_in numbers place.file)) stands.file stands.among_all stands.among_used)
    ((Decides-eqb place.index place.index).1 refl)
same_itself files used numbers Twice at among = refl
