use Rattle.std.proofs.Common.{◌≡◌, map, drop}
use Rattle.std.specs.List.{list_any}
use Rattle.rtl_flat.specs.Expression.{tree}
use Rattle.rtl_flat.specs.Flats.{flat, widths}
use Rattle.rtl_rule.specs.Parts.{own_reads}
use Rattle.check_unknown.specs.Doubts.{meets}
use Rattle.check_unknown.proofs.choices.any_mark.Given as goal

abbrev pub invariant-loop-e : goal.invariant-loop-e
invariant-loop-e l =
    list_any (λ one. meets (widths (flat l.design)) l.marks (own_reads (widths (flat l.design)) one)) (map (λ e. tree e.now) (drop l.e-index l.e-items)) ≡ list_any (λ one. meets (widths (flat l.design)) l.marks (own_reads (widths (flat l.design)) one)) (map (λ e. tree e.now) l.e-items)
