use Rattle.std.proofs.Common.{◌∙◌}
use Rattle.rtl_flat.specs.Signs.{width_in}
use Rattle.rtl_flat.specs.Process.{doing}
use Rattle.rtl_flat.specs.Paths.{reads_bit}
use Rattle.rtl_flat.specs.Flows.{flow_of}
use Rattle.rtl_scan.proofs.Processes.{first_of_none}
use Rattle.rtl_scan.proofs.sets.read_anywhere.Goals as goal

pub returns : goal.returns
returns c = λ s k.
    c.in_ok-sets.ensures.reads s k ∙ first_of_none (reads_bit s k) (flow_of (width_in c.args.widths.signals.now) (doing c.args.does.now))
