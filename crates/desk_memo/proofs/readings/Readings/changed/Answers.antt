use Rattle.std.proofs.Common.{◌∙◌, ap}
use Rattle.desk_memo.specs.ShownReadings.{down_count, flags_in, readings_of}
use Rattle.desk_memo.proofs.MadeReadings.{as_many}
use Rattle.desk_memo.proofs.readings.Readings.changed.Goals as goal

pub returns : goal.returns
returns g c =
    c.down.ensures ∙ ap (λ it. down_count (flags_in it)) c.deref.ensures.value ∙ ap down_count c.requires
    ∙ as_many c.args.files.now (readings_of c.args.self.now)
