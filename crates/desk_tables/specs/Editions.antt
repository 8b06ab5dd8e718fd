-- The versions of the tables, and the editions of the desk under which modules are signed off.
-- Worked examples: crates/desk_tables/proofs/Example.antt.
use Rattle.std.specs.Prelude.{ℕ, Bool, ◌&&◌, ◌||◌, ◌==◌, List, [], ◌∷◌, Option, Some, None}
use Rattle.desk_tables.specs.declared.rows.MetaRow.{MetaRow}

-- the version of tables whose sign-offs don't say an edition
abbrev pub FIRST_VERSION : ℕ
FIRST_VERSION = 1

-- the version of the tables that the desk works with
abbrev pub VERSION : ℕ
VERSION = 2

-- the edition of all that was signed off in tables of the first version
abbrev pub FIRST_EDITION : ℕ
FIRST_EDITION = 1

-- the edition under which the desk signs
abbrev pub EDITION : ℕ
EDITION = 2

abbrev pub is_version : ℕ → Bool
is_version version = version == FIRST_VERSION || version == VERSION

-- the version that the first row of meta names; 0 where there is no row
abbrev pub version_of : List MetaRow → ℕ
version_of [] = 0
version_of (row ∷ rows) = row.version

-- in tables of this version a sign-off may say this of its edition: nothing under version 1, and one
-- of the two editions under version 2
abbrev pub is_edition : ℕ → Option ℕ → Bool
is_edition version None = version == FIRST_VERSION
is_edition version (Some edition) =
    version == VERSION && (edition == FIRST_EDITION || edition == EDITION)
