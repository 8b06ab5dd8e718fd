use Rattle.std.proofs.Common.{◌∙◌, ℕ, ap}
use Rattle.std.specs.Prelude.{Option}
use Rattle.std.specs.Option.{is_some}
use Rattle.vcd_signals.proofs.Recorded.{recorded_is}
use Rattle.vcd_signals.proofs.recorder.Recorder.is_recorded.Goals as goal

pub returns : goal.returns
returns c =
    c.is_some.ensures ∙ ap (λ (o : Option ℕ). is_some o) c.code.ensures ∙ recorded_is c.args.self.now c.args.signal.0 c.requires
