-- A subject tells the rule, the target, the file, the digest and the place that it is made of.
use Rattle.std.proofs.Common.{◌≡◌, ◌∙◌, ℕ, ◌<◌, ◌^◌, List, [], ◌∷◌, ◌++◌, refl, ap, sym}
use Rattle.std.specs.Prelude.{bytes_eq}
use Rattle.std.specs.Int.{from_le_bytes, to_le_bytes, w32}
use Rattle.std.proofs.lemmas.Bool.Decides.{Decides-and, Decides-eqb, Decides-like, same_from_decides}
use Rattle.std.proofs.lemmas.Nat.{from_le_bytes-to_le_bytes_4}
use Rattle.std.proofs.lemmas.Slice.Eq.{bytes_eq-Decides}
use Rattle.rtl_rule.specs.Rows.{row_of}
use Rattle.desk_tables.specs.declared.rows.WaiverRow.{WaiverRow}
use Rattle.desk_rulings.specs.Index.{ended, row_subject, site_subject, subject}
use Rattle.desk_rulings.specs.Rulings.{Site, is_for}

apart : (xs ys s t : List ℕ) → ended xs ++ s ≡ ended ys ++ t → (xs ≡ ys) × (s ≡ t)
apart [] [] s t same = (refl, cc)
apart [] (y ∷ ys) s t same = absurd (cc)
apart (x ∷ xs) [] s t same = absurd (cc)
apart (x ∷ xs) (y ∷ ys) s t same =
    let heads : x ≡ y = cc in
    let tails : ended xs ++ s ≡ ended ys ++ t = cc in
    let others : (xs ≡ ys) × (s ≡ t) = apart xs ys s t tails in
    let first : xs ≡ ys = others.0 in
    (cc, others.1)

same_place : (m n : ℕ) → m < 2 ^ 32 → n < 2 ^ 32 → to_le_bytes w32 m ≡ to_le_bytes w32 n → m ≡ n
same_place m n small other same =
    sym (from_le_bytes-to_le_bytes_4 m small) ∙ ap (from_le_bytes w32) same
    ∙ from_le_bytes-to_le_bytes_4 n other

abbrev Same : List ℕ → List ℕ → List ℕ → List ℕ → ℕ → List ℕ → List ℕ → List ℕ → List ℕ → ℕ → Type 0
Same rule target file digest at rule' target' file' digest' at' =
    ((((rule ≡ rule') × (at ≡ at')) × (target ≡ target')) × (file ≡ file')) × (digest ≡ digest')

parts : (rule target file digest : List ℕ) (at : ℕ) (rule' target' file' digest' : List ℕ) (at' : ℕ) → at < 2 ^ 32 → at' < 2 ^ 32 → subject rule target file digest at ≡ subject rule' target' file' digest' at' → Same rule target file digest at rule' target' file' digest' at'
parts rule target file digest at rule' target' file' digest' at' small small' same =
    let a = apart rule rule' _ _ same in
    let b = apart target target' _ _ a.1 in
    let c = apart file file' _ _ b.1 in
    let d = apart digest digest' _ _ c.1 in
    ((((a.0, same_place at at' small small' d.1), b.0), c.0), d.0)

whole : (rule target file digest : List ℕ) (at : ℕ) (rule' target' file' digest' : List ℕ) (at' : ℕ) → Same rule target file digest at rule' target' file' digest' at' → subject rule target file digest at ≡ subject rule' target' file' digest' at'
whole rule target file digest at rule' target' file' digest' at' ((((a, b), c), d), e) = cc

pub row_tells : (row : WaiverRow) (site : Site) → row.at < 2 ^ 32 → site.key.at < 2 ^ 32 → bytes_eq (row_subject row) (site_subject site) ≡ is_for site row
row_tells row site small small' =
    let code : List ℕ = (row_of site.key.rule).code in
    same_from_decides _ _ (bytes_eq-Decides (row_subject row) (site_subject site))
    (Decides-like (is_for site row)
    (whole row.rule row.target row.file row.digest row.at code site.key.target site.key.file site.digest site.key.at)
    (parts row.rule row.target row.file row.digest row.at code site.key.target site.key.file site.digest site.key.at small small')
    (Decides-and _ _
    (Decides-and _ _
    (Decides-and _ _
    (Decides-and _ _ (bytes_eq-Decides row.rule code) (Decides-eqb row.at site.key.at))
    (bytes_eq-Decides row.target site.key.target))
    (bytes_eq-Decides row.file site.key.file))
    (bytes_eq-Decides row.digest site.digest)))
