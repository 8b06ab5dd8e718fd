-- The key of a site is the one by which its finding is known across edits.
use Rattle.std.proofs.Common.{◌≡◌, ◌∙◌, List, ℕ, Option, None, Some, ap, refl, subst}
use Rattle.std.specs.Prelude.{option_map, slice_get}
use Rattle.std.specs.Option.{option_and_then}
use Rattle.std.proofs.lemmas.Option.{slice_get-map}
use Rattle.source_file.specs.SourceFiles.{names_in}
use Rattle.source_file.specs.declared.SourceFile.{SourceFile}
use Rattle.rtl_rule.specs.Keys.{IsKey}
use Rattle.desk_rows.specs.declared.Row.{Row}
use Rattle.desk_tables.specs.declared.rows.FileRow.{FileRow}
use Rattle.desk_rulings.specs.Rulings.{Site, digest_of, key_in, site_in, site_of}

key_by : (files : List SourceFile) (one : Row) (file : SourceFile) → slice_get files one.finding.spot.file ≡ Some file → IsKey one.told.target (names_in files) one.finding (key_in one file)
key_by files one file is = record {
  rule = refl;
  of_target = refl;
  file =
      slice_get-map (λ (it : SourceFile). it.name) files one.finding.spot.file
      ∙ ap (option_map (λ (it : SourceFile). it.name)) is;
  at = refl;
}

site_by : (files : List SourceFile) (one : Row) (file : SourceFile) (digest : Option (List ℕ)) (site : Site) → slice_get files one.finding.spot.file ≡ Some file → option_map (λ (it : List ℕ). let made : Site = record { key = key_in one file; digest = it } in made) digest ≡ Some site → IsKey one.told.target (names_in files) one.finding site.key
site_by files one file None site is same = absurd (cc)
site_by files one file (Some digest) site is same =
    let made : Site = record { key = key_in one file; digest = digest } in
    let equal : made ≡ site = cc in
    subst (λ (it : Site). IsKey one.told.target (names_in files) one.finding it.key) equal
    (key_by files one file is)

found_by : (rows : List FileRow) (files : List SourceFile) (one : Row) (found : Option SourceFile) (site : Site) → slice_get files one.finding.spot.file ≡ found → option_and_then (site_in rows one) found ≡ Some site → IsKey one.told.target (names_in files) one.finding site.key
found_by rows files one None site is same = absurd (cc)
found_by rows files one (Some file) site is same =
    site_by files one file (digest_of rows file.name) site is same

pub named_key : (rows : List FileRow) (files : List SourceFile) (one : Row) (site : Site) → site_of rows files one ≡ Some site → IsKey one.told.target (names_in files) one.finding site.key
named_key rows files one site same =
    found_by rows files one (slice_get files one.finding.spot.file) site refl same
