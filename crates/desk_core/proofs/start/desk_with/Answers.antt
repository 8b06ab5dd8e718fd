use Rattle.std.proofs.Common.{◌≡◌, ◌∙◌, ap, sym, subst}
use Rattle.desk_tables.specs.Migrations.{current}
use Rattle.desk_tables.specs.Tables.{Kept, kept_of}
use Rattle.desk_core.specs.Files.{AreFilesOf}
use Rattle.desk_core.specs.Machine.{AreAccepted}
use Rattle.desk_core.proofs.Accepted.{first_accepted}
use Rattle.desk_core.proofs.Migrated.{same_files, same_replies}
use Rattle.desk_core.proofs.start.desk_with.Goals as goal

pub invariant_of-result : goal.invariant_of-result
invariant_of-result c =
    let held : Kept = kept_of c.args.tables in
    let kept : _ ≡ current held = c.new.ensures ∙ c.make_current.ensures in
    record {
      are_files = subst (λ rows. AreFilesOf rows c.in_ok-db.db.files) (sym (ap (λ (it : Kept). it.files) kept ∙ same_files held)) c.in_ok-db.ensures;
      accepted = subst AreAccepted (sym (ap (λ (it : Kept). it.replies) kept ∙ same_replies held)) (first_accepted held c.requires);
    }
