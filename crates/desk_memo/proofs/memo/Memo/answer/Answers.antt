use Rattle.std.proofs.Common.{◌∙◌, ap, sym}
use Rattle.std.specs.Prelude.{option_to_list}
use Rattle.std.specs.Option.{option_map}
use Rattle.desk_memo.specs.Rulings.{Ruling}
use Rattle.desk_memo.specs.Shown.{absent_of}
use Rattle.desk_memo.specs.ShownReadings.{read_of}
use Rattle.desk_memo.proofs.Kepts.{answer_found, none_found}
use Rattle.desk_memo.proofs.memo.Memo.answer.Goals as goal

pub returns-in-Some : goal.returns-in-Some
returns-in-Some g c =
    answer_found c.args.files.now (read_of c.args.readings.now) c.args.self.now.rulings.items c.deref.result.now (option_to_list (absent_of c.args.self.now)) c.args.top.now c.as_bytes.result.now c.in-Some.place c.index.result.now c.deref-in-Some.result.now c.deref.ensures.value c.as_bytes.ensures c.in-Some.ensures c.index.ensures c.deref-in-Some.ensures

pub returns-in-None : goal.returns-in-None
returns-in-None g c =
    c.absent_answer.ensures
    ∙ sym (ap (option_map (λ (it : Ruling g.row.V.Denot). it.answer))
    (none_found c.args.files.now (read_of c.args.readings.now) c.args.self.now.rulings.items c.deref.result.now (option_to_list (absent_of c.args.self.now)) c.args.top.now c.as_bytes.result.now c.deref.ensures.value c.as_bytes.ensures c.in-None.ensures))
