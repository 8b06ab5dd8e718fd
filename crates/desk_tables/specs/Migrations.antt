-- How tables of version 1 become those of version 2.
-- Worked examples: crates/desk_tables/proofs/Example.antt.
use Rattle.std.specs.Prelude.{◌≡◌, ◌==◌, map, None, Some, if◌then◌else◌}
use Rattle.desk_tables.specs.Editions.{FIRST_EDITION, FIRST_VERSION, VERSION, version_of}
use Rattle.desk_tables.specs.Rules.{broken_row}
use Rattle.desk_tables.specs.Tables.{Kept}
use Rattle.desk_tables.specs.declared.rows.MetaRow.{MetaRow}
use Rattle.desk_tables.specs.declared.rows.SignOffRow.{SignOffRow}

-- the row of meta names version 2
abbrev pub with_version : MetaRow → MetaRow
with_version row = record { version = VERSION }

-- the sign-off was made under edition 1
abbrev pub with_first_edition : SignOffRow → SignOffRow
with_first_edition row = record row { edition = Some FIRST_EDITION }

-- the tables with version 2 in meta and edition 1 in each sign-off; all else stays as it is
abbrev pub migrated : Kept → Kept
migrated kept = record kept {
  meta = map with_version kept.meta;
  signoffs = map with_first_edition kept.signoffs;
}

-- what the desk works with: tables of version 1 are migrated, and any others stay
abbrev pub current : Kept → Kept
current kept = if version_of kept.meta == FIRST_VERSION then migrated kept else kept

-- tables of version 2, none of whose rows breaks a rule
pub record AreReady (kept : Kept) : Type 0 where
  pub version : version_of kept.meta ≡ VERSION
  pub sound : broken_row kept ≡ None
