use Rattle.std.proofs.Common.{◌≡◌, ◌∙◌, List, Result, Ok, Err, sym, ap}
use Rattle.std.specs.Result.{IfOk}
use Rattle.source_file.specs.declared.SourceFile.{SourceFile}
use Rattle.desk_tables.specs.Tables.{kept_of}
use Rattle.desk_rulings.specs.Rulings.{Verdict, verdict_of}
use Rattle.desk_core.specs.Reports.{files_named, ruled_telling, telling, told_in, verdict_in}
use Rattle.desk_core.proofs.Named.{ruled_short, seen}
use Rattle.desk_core.proofs.report.report_of.Goals as goal

pub ruled_report-requires : goal.ruled_report-requires
ruled_report-requires c =
    let files = c.args.files.now in
    let again = c.deref.ensures.value ∙ sym c.deref-in-Ruled-2.ensures.value in
    let found = ap seen c.deref-in-Ruled.ensures.value ∙ c.in_ok-used-in-Ruled.ensures ∙ ap (λ it. files_named it files) again in
    ruled_short files c.in-Ruled.verdict c.deref-in-Ruled-2.result.now _ (c.ruled_of-ruled.ensures files found) c.requires

mapped : {T E : Type 0} {P Q : T → Type 0} (result : Result T E) → IfOk result P → ((it : T) → P it → Q it) → IfOk result Q
mapped (Ok it) h to = to it h
mapped (Err error) h to = tt

pub returns-in_ok-used-in-Ruled : goal.returns-in_ok-used-in-Ruled
returns-in_ok-used-in-Ruled c =
    let files = c.args.files.now in
    let top = c.args.top.now in
    let kept = kept_of c.args.tables.now in
    let made = c.in-Ruled.verdict in
    let ruled = c.ruled_of-ruled.result in
    let again = c.deref.ensures.value ∙ sym c.deref-in-Ruled-2.ensures.value in
    let found = ap seen c.deref-in-Ruled.ensures.value ∙ c.in_ok-used-in-Ruled.ensures ∙ ap (λ it. files_named it files) again in
    let verdict = c.ruled_of-ruled.ensures files found in
    let names = ap (λ (it : Verdict). it.reached) verdict in
    mapped {P = λ report. (all : List SourceFile) → verdict_of ruled ≡ verdict_in all made ruled.reached.now → told_in report ≡ ruled_telling top c.args.today kept all made ruled.reached.now}
    {Q = λ report. told_in report ≡ telling top c.args.today kept files c.args.answer.now}
    c.ruled_report.result c.ruled_report.ensures
    (λ report tells.
    tells files (verdict ∙ ap (verdict_in files made) (sym names))
    ∙ ap (ruled_telling top c.args.today kept files made) (names ∙ c.deref-in-Ruled-2.ensures.value)
    ∙ ap (telling top c.args.today kept files) (sym c.in-Ruled.is))
