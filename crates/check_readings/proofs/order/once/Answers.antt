use Rattle.std.proofs.Common.{◌∙◌, rules, ap}
use Rattle.std.specs.List.{dedup}
use Rattle.std.proofs.lemmas.Fn.{dedup_same}
use Rattle.check_readings.specs.Readings.{is_same}
use Rattle.check_readings.proofs.order.once.Goals as goal

pub returns : goal.returns
returns c =
    dedup_same _ is_same _ (λ x y b f' x' y' k. search rules) c.in_ok-told.told.items c.dedup_by.new.self.items c.dedup_by.ensures.filtered
    ∙ ap (dedup is_same) c.in_ok-told.ensures
