use Rattle.std.proofs.Common.{◌≡◌, map, drop, true}
use Rattle.rtl_flat.specs.Process.{piece}
use Rattle.rtl_flat.specs.Value.{store}
use Rattle.net_body.specs.Ends.{AreBeside, ending, ending_after}
use Rattle.net_body.specs.Marks.{AreKept}
use Rattle.net_body.specs.Named.{target_signals}
use Rattle.net_body.proofs.ends.end_parts.Given as goal

abbrev pub invariant-loop-part : goal.invariant-loop-part
invariant-loop-part l =
    AreKept l.signals l.numbers l.marks
    × (l.aside ≡ true → AreBeside l.signals l.before l.after)
    × (ending_after l.aside (store l.before) (ending l.numbers l.marks l.after) (target_signals (map piece (drop l.part-index l.parts)))
    ≡ ending_after l.aside (store l.before) (ending l.initial.numbers l.initial.marks l.initial.after) (target_signals (map piece l.parts)))
