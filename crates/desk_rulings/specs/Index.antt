-- It serves inner contracts and proofs; no answer of the program is stated by it.
-- Waivers that stand, by texts that tell what they are of.
use Rattle.std.specs.Prelude.{◌≡◌, ◌<◌, ◌^◌, ℕ, ℤ, List, [], ◌∷◌, ◌++◌}
use Rattle.std.specs.Int.{to_le_bytes, w32}
use Rattle.name_map.specs.Values.{values_of}
use Rattle.name_map.specs.declared.NameMap.{NameMap}
use Rattle.rtl_rule.specs.Rows.{row_of}
use Rattle.desk_tables.specs.declared.rows.WaiverId.{WaiverId}
use Rattle.desk_tables.specs.declared.rows.WaiverRow.{WaiverRow}
use Rattle.desk_rulings.specs.Rulings.{Site, standing_in}
use Rattle.desk_rulings.specs.declared.site.Site.{Site as Held}

-- a text that tells its end: each byte behind a 1, and a 0
abbrev pub ended : List ℕ → List ℕ
ended [] = 0 ∷ []
ended (byte ∷ text) = 1 ∷ byte ∷ ended text

-- what a waiver or a finding is of, as one text
abbrev pub subject : List ℕ → List ℕ → List ℕ → List ℕ → ℕ → List ℕ
subject rule target file digest at =
    ended rule ++ (ended target ++ (ended file ++ (ended digest ++ to_le_bytes w32 at)))

abbrev pub row_subject : WaiverRow → List ℕ
row_subject row = subject row.rule row.target row.file row.digest row.at

abbrev pub site_subject : Site → List ℕ
site_subject site =
    subject (row_of site.key.rule).code site.key.target site.key.file site.digest site.key.at

-- what a contract sees of a site
abbrev pub site_seen : Held → Site
site_seen site = record {
  key = record { rule = site.rule; target = site.target.now; file = site.file.now; at = site.at };
  digest = site.digest;
}

-- the map has the waiver that stands for each site
abbrev pub IsIndex : NameMap (WaiverId × ℤ) → ℤ → List WaiverRow → Type 0
IsIndex index today rows =
    (site : Site) → site.key.at < 2 ^ 32
    → values_of index (site_subject site) ≡ standing_in today rows site
