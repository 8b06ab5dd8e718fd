use Rattle.std.proofs.Common.{◌∙◌, List, ap}
use Rattle.std.specs.Prelude.{Option}
use Rattle.std.specs.Option.{is_some}
use Rattle.rtl_bits.specs.declared.Bit.{Bit}
use Rattle.vcd_signals.proofs.Recorded.{if_wide, kept_recorded}
use Rattle.vcd_signals.proofs.recorder.Recorder.value.Goals as goal

pub returns-clause-wide : goal.returns-clause-wide
returns-clause-wide c = if_wide c.args.self.now c.args.signal.0 c.kept.result c.requires c.kept.ensures

pub returns-clause-known : goal.returns-clause-known
returns-clause-known c =
    ap (λ (o : Option (List Bit)). is_some o) c.kept.ensures ∙ kept_recorded c.args.self.now c.args.signal.0 c.requires
