use Rattle.std.proofs.Common.{◌∙◌, ap, sym, true}
use Rattle.std.specs.Prelude.{is_some, option_to_list}
use Rattle.std.proofs.Math.Seq.{map-set_same}
use Rattle.std.proofs.lemmas.List.Elements.{All-set}
use Rattle.desk_memo.specs.Shown.{IsChecked, absent_of, ruling_of}
use Rattle.desk_memo.specs.ShownReadings.{read_of}
use Rattle.desk_memo.specs.declared.kept.Kept.{Kept}
use Rattle.desk_memo.proofs.Kepts.{found_holds, none_found, ruling_found}
use Rattle.desk_memo.proofs.memo.Memo.check.Goals as goal

pub returns-in-Some-clause-found : goal.returns-in-Some-clause-found
returns-in-Some-clause-found g c =
    sym (ap is_some
    (ruling_found c.args.files.now (read_of c.args.readings.now) c.args.self.now.rulings.items c.deref.result.now (option_to_list (absent_of c.args.self.now)) c.args.top.now c.as_bytes.result.now c.in-Some.place c.index_mut.result.now c.deref.ensures.value c.as_bytes.ensures c.in-Some.ensures c.index_mut.ensures.value))

pub returns-in-Some-clause-rulings : goal.returns-in-Some-clause-rulings
returns-in-Some-clause-rulings g c =
    let made : Kept g.row.V.Denot = record c.index_mut.result.now { is_checked = true } in
    map-set_same ruling_of c.args.self.now.rulings.items c.in-Some.place made c.index_mut.result.now (ap ruling_of c.index_mut.ensures.value)

pub returns-in-Some-clause-checked : goal.returns-in-Some-clause-checked
returns-in-Some-clause-checked g c =
    let made : Kept g.row.V.Denot = record c.index_mut.result.now { is_checked = true } in
    record {
      rulings =
          All-set (IsChecked c.args.files.now (read_of c.args.readings.now)) c.args.self.now.rulings.items c.in-Some.place made
          (λ _. found_holds c.args.files.now (read_of c.args.readings.now) c.args.self.now.rulings.items c.deref.result.now c.args.top.now c.as_bytes.result.now c.in-Some.place c.index_mut.result.now c.deref.ensures.value c.as_bytes.ensures c.in-Some.ensures c.index_mut.ensures.value)
          c.requires.rulings;
      absent = c.requires.absent;
    }

pub returns-in-None-clause-found : goal.returns-in-None-clause-found
returns-in-None-clause-found g c =
    c.check_absent.ensures.found
    ∙ sym (ap is_some
    (none_found c.args.files.now (read_of c.args.readings.now) c.args.self.now.rulings.items c.deref.result.now (option_to_list (absent_of c.args.self.now)) c.args.top.now c.as_bytes.result.now c.deref.ensures.value c.as_bytes.ensures c.in-None.ensures))
