use Rattle.std.proofs.Common.{◌≡◌, drop, length, map}
use Rattle.std.specs.List.{list_any}
use Rattle.rtl_flat.specs.Expression.{tree}
use Rattle.rtl_flat.specs.Flats.{flat, widths}
use Rattle.rtl_rule.specs.Parts.{own_reads, reads_signal}
use Rattle.check_parts.specs.Reads.{meets}
use Rattle.check_parts.proofs.OwnReads.{any_signal}
use Rattle.check_parts.proofs.reads.reads_signal.Given as goal

abbrev pub invariant-loop-one : goal.invariant-loop-one
invariant-loop-one l =
    list_any (λ node. meets (widths (flat l.design)) (length l.design.signals.items) any_signal (own_reads (widths (flat l.design)) node)) (map (λ e. tree e.now) (drop l.one-index l.one-items)) ≡ reads_signal (flat l.design) (tree l.e)
