-- Tables that break no rule break none once they are migrated, and those of version 2 stay.
use Rattle.std.proofs.Common.{◌≡◌, ◌∙◌, ℕ, ◌+◌, true, false, not, ◌||◌, List, [], ◌∷◌, ◌++◌, length, map, None, refl, sym, ap, subst, inl, inr, eqb-true, true≢false, arith}
use Rattle.std.specs.Prelude.{nat_le}
use Rattle.std.specs.Bool.{◌==◌}
use Rattle.std.proofs.lemmas.Bool.{and_from, and_parts, cases_Bool, cond-false, cond-true, not-false, not_from_true, or_from, or_parts}
use Rattle.std.proofs.lemmas.List.{length_push}
use Rattle.desk_tables.specs.Editions.{FIRST_VERSION, VERSION, is_version, version_of}
use Rattle.desk_tables.specs.Limits.{MAX_SIGN_OFFS}
use Rattle.desk_tables.specs.Migrations.{AreReady, current, migrated, with_first_edition, with_version}
use Rattle.desk_tables.specs.Rules.{broken_meta, broken_row, first_broken, is_sound_signoff, meta_breaks, signoff_breaks}
use Rattle.desk_tables.specs.Tables.{Kept}
use Rattle.desk_tables.specs.declared.rows.MetaRow.{MetaRow}
use Rattle.desk_tables.specs.declared.rows.SignOffRow.{SignOffRow}
use Rattle.desk_sound.proofs.Tables.{AreSound, sound_from, sound_to}
use Rattle.desk_sound.proofs.Unbroken.{first_sound, rest_sound, sound_behind}

-- ---- meta

-- there is one row, and it has a version
record IsOneRow (meta : List MetaRow) : Type 0 where
  row : MetaRow
  is : meta ≡ row ∷ []
  version : is_version row.version ≡ true

one_row : (meta : List MetaRow) → broken_meta meta ≡ None → IsOneRow meta
one_row [] none = absurd (cc)
one_row (row ∷ []) none = record {
  row = row;
  is = refl;
  version = not-false _ (or_parts _ _ (first_sound meta_breaks [] row [] none)).0;
}
one_row (row ∷ more ∷ rows) none =
    let second : meta_breaks (row ∷ []) more ≡ false = first_sound meta_breaks (row ∷ []) more rows (rest_sound meta_breaks [] row (more ∷ rows) none) in
    absurd (true≢false (or_parts _ _ second).1)

meta_migrated : (meta : List MetaRow) → IsOneRow meta → broken_meta (map with_version meta) ≡ None
meta_migrated meta one = ap (λ it. broken_meta (map with_version it)) one.is

version_migrated : (meta : List MetaRow) → IsOneRow meta → version_of (map with_version meta) ≡ VERSION
version_migrated meta one = ap (λ it. version_of (map with_version it)) one.is

-- ---- sign-offs

sound_migrated : (row : SignOffRow) → is_sound_signoff FIRST_VERSION row ≡ true → is_sound_signoff VERSION (with_first_edition row) ≡ true
sound_migrated row sound = and_from _ _ (and_parts _ _ sound).0 refl

row_migrated : (before other : List SignOffRow) (row : SignOffRow) → length before ≡ length other → signoff_breaks FIRST_VERSION before row ≡ false → signoff_breaks VERSION other (with_first_edition row) ≡ false
row_migrated before other row same none =
    let parts = or_parts _ _ none in
    let front = or_parts _ _ parts.0 in
    or_from _ _
    (or_from _ _ (not_from_true _ (sound_migrated row (not-false _ front.0)))
    (ap (nat_le MAX_SIGN_OFFS) (sym same) ∙ front.1))
    (ap (λ n. not (row.id == n + 1)) (sym same) ∙ parts.1)

signoffs_migrated : (before other rows : List SignOffRow) → length before ≡ length other → first_broken (signoff_breaks FIRST_VERSION) before rows ≡ None → first_broken (signoff_breaks VERSION) other (map with_first_edition rows) ≡ None
signoffs_migrated before other [] same none = refl
signoffs_migrated before other (row ∷ rows) same none =
    sound_behind (signoff_breaks VERSION) other (with_first_edition row) (map with_first_edition rows)
    (row_migrated before other row same (first_sound (signoff_breaks FIRST_VERSION) before row rows none))
    (signoffs_migrated (before ++ row ∷ []) (other ++ with_first_edition row ∷ []) rows
    (omega (arith, same, length_push before row, length_push other (with_first_edition row)))
    (rest_sound (signoff_breaks FIRST_VERSION) before row rows none))

-- ---- tables

ready_migrated : (kept : Kept) → AreSound kept → IsOneRow kept.meta → version_of kept.meta ≡ FIRST_VERSION → AreReady (migrated kept)
ready_migrated kept sound one first =
    let version : version_of (migrated kept).meta ≡ VERSION = version_migrated kept.meta one in
    let old : first_broken (signoff_breaks FIRST_VERSION) [] kept.signoffs ≡ None =
    subst (λ (it : ℕ). first_broken (signoff_breaks it) [] kept.signoffs ≡ None) first sound.signoffs in
    record {
      version = version;
      sound = sound_to (migrated kept) (record {
        meta = meta_migrated kept.meta one;
        files = sound.files;
        waivers = sound.waivers;
        signoffs = subst (λ (it : ℕ). first_broken (signoff_breaks it) [] (migrated kept).signoffs ≡ None) (sym version) (signoffs_migrated [] [] kept.signoffs refl old);
        replies = sound.replies;
      });
    }

-- a version that isn't the first is the second
second_version : (version : ℕ) → is_version version ≡ true → (version == FIRST_VERSION) ≡ false → version ≡ VERSION
second_version version is other =
    eqb-true version VERSION (sym (ap (λ first. first || version == VERSION) other) ∙ is)

pub ready_current : (kept : Kept) → broken_row kept ≡ None → AreReady (current kept)
ready_current kept none =
    let sound : AreSound kept = sound_from kept none in
    let one : IsOneRow kept.meta = one_row kept.meta sound.meta in
    elim (cases_Bool (version_of kept.meta == FIRST_VERSION)) [
      | inl first ↦
          subst AreReady (sym (cond-true _ _ _ first))
          (ready_migrated kept sound one (eqb-true (version_of kept.meta) FIRST_VERSION first))
      | inr second ↦
          let same : version_of kept.meta ≡ one.row.version = ap version_of one.is in
          subst AreReady (sym (cond-false _ _ _ second))
          (record { version = second_version (version_of kept.meta) (ap is_version same ∙ one.version) second; sound = none })
    ]

-- tables of version 2 aren't migrated
pub current_stays : (kept : Kept) → version_of kept.meta ≡ VERSION → current kept ≡ kept
current_stays kept version =
    cond-false (version_of kept.meta == FIRST_VERSION) _ _ (ap (λ it. it == FIRST_VERSION) version)
