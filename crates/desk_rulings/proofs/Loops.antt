-- Steps of loops over lists.
use Rattle.std.proofs.Common.{◌≡◌, ◌∙◌, Bor, ℕ, ◌<◌, ◌+◌, List, [], ◌∷◌, ◌++◌, length, map, take, drop, get_or, ap, sym, refl}
use Rattle.std.specs.Prelude.{ℤ, Option, count_by, cond}
use Rattle.std.specs.Option.{option_and_then}
use Rattle.std.proofs.lemmas.List.{append_assoc, at_drop_more, map-append, take_more}
use Rattle.std.proofs.lemmas.List.Sums.{sum_by-cons}
use Rattle.source_file.specs.declared.SourceFile.{SourceFile}
use Rattle.desk_tables.specs.Tables.{Kept}
use Rattle.desk_tables.specs.declared.rows.FileRow.{FileRow}
use Rattle.desk_tables.specs.declared.rows.WaiverId.{WaiverId}
use Rattle.desk_tables.specs.declared.rows.WaiverRow.{WaiverRow}
use Rattle.desk_rows.specs.Rows.{Waived, waived}
use Rattle.desk_rows.specs.declared.Row.{Row}
use Rattle.desk_rows.specs.declared.WaivedRow.{WaivedRow}
use Rattle.desk_rulings.specs.Rulings.{Site, is_open, site_of, standing_for, standing_in}

abbrev seen : List (Bor SourceFile) → List SourceFile
seen files = map (λ file. file.now) files

-- one file more
pub sources_on : (files : List (Bor SourceFile)) (place : ℕ) (file : Bor SourceFile) (olds news : List SourceFile) → place < length files → file ≡ get_or files place file → olds ≡ seen (take place files) → news ≡ olds ++ file.now ∷ [] → news ≡ seen (take (place + 1) files)
sources_on files place file olds news inside read before made =
    made
    ∙ ap (λ it. it ++ file.now ∷ []) before
    ∙ ap (λ it. seen (take place files) ++ it.now ∷ []) read
    ∙ sym (ap seen (take_more files place file inside) ∙ map-append (λ it. it.now) (take place files) (get_or files place file ∷ []))

-- how many of the rows are open, with their waivers
pub left_mapped : (rows : List WaivedRow) → count_by is_open (map waived rows) ≡ count_by (λ one. is_open (waived one)) rows
left_mapped [] = refl
left_mapped (one ∷ rows) =
    sum_by-cons (λ row. cond (is_open row) 1 0) (waived one) (map waived rows)
    ∙ ap (λ n. cond (is_open (waived one)) 1 0 + n) (left_mapped rows)
    ∙ sym (sum_by-cons (λ row. cond (is_open (waived row)) 1 0) one rows)

-- one finding more
pub standings_on : (today : ℤ) (kept : Kept) (files : List SourceFile) (rows : List Row) (place : ℕ) (d : Row) (waivers : List WaiverRow) (kept_rows : List FileRow) (site : Option Site) (one : WaivedRow) (olds news : List WaivedRow) (whole : List Waived) → place < length rows → news ≡ olds ++ one ∷ [] → one.row.now ≡ get_or rows place d → waivers ≡ kept.waivers → kept_rows ≡ kept.files → site ≡ site_of kept_rows files one.row.now → one.waiver ≡ option_and_then (standing_in today waivers) site → map waived olds ++ map (standing_for today kept files) (drop place rows) ≡ whole → map waived news ++ map (standing_for today kept files) (drop (place + 1) rows) ≡ whole
standings_on today kept files rows place d waivers kept_rows site one olds news whole inside made read kept_waivers kept_files its is before =
    let it : List Waived = map (standing_for today kept files) (drop (place + 1) rows) in
    let with_waiver : Option (WaiverId × ℤ) → Waived = λ waiver. record { row = one.row.now; waiver = waiver } in
    let one_is : waived one ≡ standing_for today kept files (get_or rows place d) =
    ap with_waiver is
    ∙ ap (λ s. with_waiver (option_and_then (standing_in today waivers) s)) its
    ∙ ap (λ ws. with_waiver (option_and_then (standing_in today ws) (site_of kept_rows files one.row.now))) kept_waivers
    ∙ ap (λ rs. with_waiver (option_and_then (standing_in today kept.waivers) (site_of rs files one.row.now))) kept_files
    ∙ ap (standing_for today kept files) read in
    ap (λ xs. map waived xs ++ it) made
    ∙ ap (λ xs. xs ++ it) (map-append waived olds (one ∷ []))
    ∙ append_assoc (map waived olds) (waived one ∷ []) it
    ∙ ap (λ x. map waived olds ++ (x ∷ it)) one_is
    ∙ ap (λ xs. map waived olds ++ xs) (sym (at_drop_more (λ xs. map (standing_for today kept files) xs) rows place d inside))
    ∙ before
