use Rattle.std.proofs.Common.{◌≤◌, Bor, length, subst, sym}
use Rattle.desk_files.specs.Limits.{MAX_BYTES}
use Rattle.source_file.specs.declared.SourceFile.{SourceFile}
use Rattle.desk_core.proofs.Named.{seen_short}
use Rattle.desk_core.proofs.Places.{sources_on}
use Rattle.desk_core.proofs.report.sources_in.Goals as goal

pub push_file-requires : goal.push_file-requires
push_file-requires c =
    let file = c.index-files-number.result in
    subst (λ (it : Bor SourceFile). length it.now.text ≤ MAX_BYTES) (sym c.index-files-number.is)
    (seen_short c.args.files.now c.requires c.loop-number.number file c.loop-number-test.true)

pub loop-number-preserved : goal.loop-number-preserved
loop-number-preserved c =
    sources_on c.args.files.now c.loop-number.number c.index-files-number.result _ _ c.loop-number-test.true c.index-files-number.is c.loop-number.invariant c.in_ok-push_file.ensures
