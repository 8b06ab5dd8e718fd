-- What a waiver that is granted is of: the target that was asked for, in a file that is kept.
use Rattle.std.proofs.Common.{◌≡◌, ℕ, Bool, true, false, cond, List, [], ◌∷◌, ◌++◌, Option, Some, None, refl, subst}
use Rattle.std.specs.Prelude.{⊤, bytes_eq, find, option_map, slice_get}
use Rattle.std.specs.Option.{option_and_then}
use Rattle.std.proofs.lemmas.Bool.{and_parts, not-false, or_parts}
use Rattle.std.proofs.lemmas.Slice.Eq.{bytes_eq-Decides}
use Rattle.source_file.specs.declared.SourceFile.{SourceFile}
use Rattle.desk_rows.specs.declared.Row.{Row}
use Rattle.desk_tables.specs.Changes.{has_name}
use Rattle.desk_tables.specs.Rules.{file_breaks, first_broken, is_file_name, is_sound_file}
use Rattle.desk_tables.specs.declared.rows.FileRow.{FileRow}
use Rattle.desk_requests.specs.declared.ask.WaiverAsk.{WaiverAsk}
use Rattle.desk_rulings.specs.Rulings.{Site, key_in, site_in, site_of}
use Rattle.desk_rulings.specs.Grants.{asked_in, is_asked}
use Rattle.desk_sound.proofs.Unbroken.{first_sound, rest_sound}

-- ---- a file that is kept

same_bytes : (xs ys : List ℕ) → bytes_eq xs ys ≡ true → xs ≡ ys
same_bytes xs ys = (bytes_eq-Decides xs ys).0

-- a row that breaks no rule has the name of a file
named_well : (before rows : List FileRow) (row : FileRow) → first_broken file_breaks before (row ∷ rows) ≡ None → is_file_name row.name ≡ true
named_well before rows row none =
    let sound : is_sound_file row ≡ true = not-false _ (or_parts _ _ (or_parts _ _ (or_parts _ _ (first_sound file_breaks before row rows none)).0).0).0 in
    (and_parts _ _ (and_parts _ _ sound).0).0

-- what is so of a name if some row has it
abbrev IsOf : (List ℕ → Type 0) → List ℕ → Option FileRow → Type 0
IsOf P name None = ⊤
IsOf P name (Some row) = P name

found_or_not : (P : List ℕ → Type 0) (name : List ℕ) (row : FileRow) (rest : Option FileRow) (named : Bool) → has_name name row ≡ named → P row.name → IsOf P name rest → IsOf P name (cond named (Some row) rest)
found_or_not P name row rest true same is later = subst P (same_bytes row.name name same) is
found_or_not P name row rest false other is later = later

found_named : (before rows : List FileRow) (name : List ℕ) → first_broken file_breaks before rows ≡ None → IsOf (λ it. is_file_name it ≡ true) name (find (has_name name) rows)
found_named before [] name none = tt
found_named before (row ∷ rows) name none =
    found_or_not (λ it. is_file_name it ≡ true) name row (find (has_name name) rows) (has_name name row) refl
    (named_well before rows row none)
    (found_named (before ++ row ∷ []) rows name (rest_sound file_breaks before row rows none))

-- ---- the site of a finding that is asked for

-- a site with the target, in a file that has the name of one
pub record IsSiteOf (target : List ℕ) (site : Site) : Type 0 where
  pub targets : site.key.target ≡ target
  pub named : is_file_name site.key.file ≡ true

abbrev pub IfSite : List ℕ → Option Site → Type 0
IfSite target None = ⊤
IfSite target (Some site) = IsSiteOf target site

site_in_kept : (one : Row) (file : SourceFile) (target : List ℕ) (found : Option FileRow) → one.told.target ≡ target → IsOf (λ it. is_file_name it ≡ true) file.name found → IfSite target (option_map (λ digest. record { key = key_in one file; digest = digest }) (option_map (λ row. row.digest) found))
site_in_kept one file target None same named = tt
site_in_kept one file target (Some row) same named = record { targets = same; named = named }

site_kept : (rows : List FileRow) (one : Row) (target : List ℕ) (file : Option SourceFile) → first_broken file_breaks [] rows ≡ None → one.told.target ≡ target → IfSite target (option_and_then (site_in rows one) file)
site_kept rows one target None none same = tt
site_kept rows one target (Some file) none same =
    site_in_kept one file target (find (has_name file.name) rows) same (found_named [] rows file.name none)

asked_or_not : (rows : List FileRow) (files : List SourceFile) (ask : WaiverAsk) (one : Row) (asked : Bool) (rest : Option Site) → is_asked files ask one ≡ asked → first_broken file_breaks [] rows ≡ None → IfSite ask.target rest → IfSite ask.target (cond asked (site_of rows files one) rest)
asked_or_not rows files ask one true rest asked none later =
    site_kept rows one ask.target (slice_get files one.finding.spot.file) none
    (same_bytes one.told.target ask.target (and_parts _ _ (and_parts _ _ asked).0).1)
asked_or_not rows files ask one false rest asked none later = later

pub asked_kept : (rows : List FileRow) (files : List SourceFile) (ask : WaiverAsk) (told : List Row) → first_broken file_breaks [] rows ≡ None → IfSite ask.target (asked_in rows files ask told)
asked_kept rows files ask [] none = tt
asked_kept rows files ask (one ∷ others) none =
    asked_or_not rows files ask one (is_asked files ask one) (asked_in rows files ask others) refl none
    (asked_kept rows files ask others none)
