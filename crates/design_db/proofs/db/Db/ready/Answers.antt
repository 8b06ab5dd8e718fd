use Rattle.std.proofs.Common.{◌∙◌, ap, refl}
use Rattle.design_db.specs.Shown.{store}
use Rattle.design_db.specs.Stores.{Store, answer_of}
use Rattle.design_db.proofs.Kept.{answers_same}
use Rattle.design_db.proofs.db.Db.ready.Goals as goal

pub returns-in_err-ready-clause-answers : goal.returns-in_err-ready-clause-answers
returns-in_err-ready-clause-answers c =
    λ top. answers_same (store c.self.inside.files c.self.inside.readings c.self.inside.memo) (store c.ready.new.self c.self.inside.readings c.self.inside.memo)
    c.ready.ensures.same refl refl refl refl refl top
    ∙ ap (λ (it : Store). answer_of it top) c.self.view_is

pub returns-in_err-reserve-clause-answers : goal.returns-in_err-reserve-clause-answers
returns-in_err-reserve-clause-answers c =
    λ top. answers_same (store c.self.inside.files c.self.inside.readings c.self.inside.memo) (store c.ready.new.self c.reserve.new.self c.self.inside.memo)
    c.ready.ensures.same c.reserve.ensures.readings c.reserve.ensures.modules c.reserve.ensures.conditions refl refl top
    ∙ ap (λ (it : Store). answer_of it top) c.self.view_is

pub returns-clause-answers : goal.returns-clause-answers
returns-clause-answers c =
    λ top. answers_same (store c.self.inside.files c.self.inside.readings c.self.inside.memo) (store c.ready.new.self c.reserve.new.self c.self.inside.memo)
    c.ready.ensures.same c.reserve.ensures.readings c.reserve.ensures.modules c.reserve.ensures.conditions refl refl top
    ∙ ap (λ (it : Store). answer_of it top) c.self.view_is
