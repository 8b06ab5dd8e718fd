use Rattle.std.proofs.Common.{◌≡◌, ◌∙◌, List, ap, arith, subst, sym}
use Rattle.std.specs.Prelude.{IsSome, Option}
use Rattle.desk_files.specs.Shown.{list_of}
use Rattle.source_file.specs.declared.SourceFile.{SourceFile}
use Rattle.source_file.specs.SourceFiles.{texts_in}
use Rattle.desk_memo.specs.Readings.{AreDefined, changed_count}
use Rattle.desk_memo.specs.ShownReadings.{conditions_of, modules_of, read_of, readings_of}
use Rattle.desk_memo.specs.Rulings.{current_of}
use Rattle.desk_memo.specs.Shown.{absent_of, rulings_of}
use Rattle.design_db.specs.Answers.{Ruling}
use Rattle.design_db.specs.Stores.{KeepsRulings, Store, all_rulings, changed_in}
use Rattle.design_db.proofs.Whole.{is_found_now, is_read_now, rulings_same}
use Rattle.design_db.proofs.db.Db.read_and_rule.Goals as goal

pub rule-requires-clause-checked : goal.rule-requires-clause-checked
rule-requires-clause-checked g c =
    c.doubt.ensures.checked c.as_slice-files.result.now (read_of c.exchange.new.self)

pub rule-requires-clause-rulings : goal.rule-requires-clause-rulings
rule-requires-clause-rulings g c =
    rulings_same c.self.inside.memo c.doubt.new.self c.doubt.ensures.rulings c.doubt.ensures.absent c.self.invariant.store.rulings

pub returns-in-Ok-clause-untouched : goal.returns-in-Ok-clause-untouched
returns-in-Ok-clause-untouched g c =
    λ all defined some.
    let files = list_of c.self.inside.files in
    let after = c.exchange.new.self in
    let now =
    is_read_now files c.as_slice.result.now c.self.inside.readings after c.in_ok-aside.aside c.as_slice.ensures c.in_ok-aside.ensures.aside
    c.exchange.ensures.readings c.exchange.ensures.held c.exchange.ensures.conditions c.exchange.ensures.flags
    in
    let D : Store → Type 0 = λ (it : Store). AreDefined (texts_in it.files) all in
    let S : Store → Type 0 = λ (it : Store). IsSome (current_of it.files all c.args.top.now (all_rulings it)) in
    let one =
    c.one_list.ensures files (readings_of after) (modules_of after) (conditions_of after) all now.right now.known now.unchanged (subst D (sym c.self.view_is) defined)
    in
    let found =
    is_found_now files c.as_slice-files.result.now after c.self.inside.memo c.doubt.new.self c.args.top.now all c.as_slice-files.ensures one
    c.doubt.ensures.rulings c.doubt.ensures.absent (subst S (sym c.self.view_is) some)
    in
    let changed : changed_in c.args.self.now ≡ changed_count c.as_slice.result.now (readings_of c.self.inside.readings) =
    ap (λ (it : Store). changed_in it) (sym c.self.view_is)
    ∙ ap (λ (it : List SourceFile). changed_count it (readings_of c.self.inside.readings)) (sym c.as_slice.ensures)
    in
    omega (arith, c.rule.ensures.untouched found, c.in_ok-aside.ensures.counted, changed)

pub returns-in-Ok-clause-keeps : goal.returns-in-Ok-clause-keeps
returns-in-Ok-clause-keeps g c =
    let news = rulings_of c.rule.new.memo in
    let new = absent_of c.rule.new.memo in
    let olds : rulings_of c.doubt.new.self ≡ c.args.self.now.rulings =
    c.doubt.ensures.rulings ∙ ap (λ (it : Store). it.rulings) c.self.view_is
    in
    let old : absent_of c.doubt.new.self ≡ c.args.self.now.absent =
    c.doubt.ensures.absent ∙ ap (λ (it : Store). it.absent) c.self.view_is
    in
    subst (λ (it : List Ruling). KeepsRulings c.args.top.now it c.args.self.now.absent news new) olds
    (subst (λ (it : Option Ruling). KeepsRulings c.args.top.now (rulings_of c.doubt.new.self) it news new) old c.in-Ok.ensures.keeps)
