use Rattle.std.proofs.Common.{◌∙◌, ap, List, map}
use Rattle.rtl_flat.specs.declared.signal.Signal.{Signal}
use Rattle.rtl_flat.specs.Signs.{width_in}
use Rattle.rtl_flat.specs.Process.{action, body_of}
use Rattle.rtl_flat.specs.Paths.{may_read, reads_bit}
use Rattle.rtl_flat.specs.Flows.{body_flow}
use Rattle.rtl_scan.proofs.Processes.{first_of_none}
use Rattle.rtl_scan.proofs.branch.branch_reads.Goals as goal

pub returns : goal.returns
returns c = λ s k.
    c.in_ok-sets.ensures.reads s k ∙ first_of_none (reads_bit s k) (body_flow (width_in c.widths_of.result.signals.now) (body_of (map action c.args.body.now)))
    ∙ ap (λ (ss : List Signal). may_read (body_flow (width_in ss) (body_of (map action c.args.body.now))) s k) c.widths_of.ensures
