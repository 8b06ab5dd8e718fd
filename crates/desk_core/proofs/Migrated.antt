-- What the migration of tables leaves.
use Rattle.std.proofs.Common.{◌≡◌, Bool, true, false, refl}
use Rattle.std.specs.Prelude.{◌==◌, if◌then◌else◌}
use Rattle.desk_tables.specs.Editions.{FIRST_VERSION, version_of}
use Rattle.desk_tables.specs.Migrations.{current, migrated}
use Rattle.desk_tables.specs.Tables.{Kept}

either_files : (old : Bool) (kept : Kept) → (if old then migrated kept else kept).files ≡ kept.files
either_files true kept = refl
either_files false kept = refl

either_replies : (old : Bool) (kept : Kept) → (if old then migrated kept else kept).replies ≡ kept.replies
either_replies true kept = refl
either_replies false kept = refl

pub same_files : (kept : Kept) → (current kept).files ≡ kept.files
same_files kept = either_files (version_of kept.meta == FIRST_VERSION) kept

pub same_replies : (kept : Kept) → (current kept).replies ≡ kept.replies
same_replies kept = either_replies (version_of kept.meta == FIRST_VERSION) kept
