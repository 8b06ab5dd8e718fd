use Rattle.std.proofs.Common.{◌≡◌, ◌∙◌, List, ap, sym, true, false, if◌then◌else◌, Bool}
use Rattle.std.specs.Prelude.{None, Option, Some}
use Rattle.rtl_bits.specs.declared.Bit.{Bit}
use Rattle.net_model.specs.Cycle.{Setting}
use Rattle.netlist_eval.specs.Sims.{shown}
use Rattle.demo_told.specs.Same.{are_same}
use Rattle.demo_told.proofs.Same.{same_is}
use Rattle.vcd_check.specs.Departure.{change_of}
use Rattle.vcd_check.proofs.Lists.{change_none, change_some}
use Rattle.vcd_check.proofs.sight.change_of.Goals as goal

pub returns-then-is_same : goal.returns-then-is_same
returns-then-is_same c =
    let value = c.in_ok-value.value in
    let old = shown c.args.net.now c.args.input.0 in
    let same : are_same value old ≡ true =
    ap (λ (n : List Bit). are_same value n) (sym c.value.ensures.number) ∙ sym (same_is c.is_same.result value c.value.result c.is_same.ensures) ∙ c.if-is_same.true in
    sym (ap (λ (o : Option (List Bit)). change_of old c.args.input.0 o) c.in_ok-value.was ∙ change_none old c.args.input.0 value same)

pub returns : goal.returns
returns c =
    let value = c.in_ok-value.value in
    let old = shown c.args.net.now c.args.input.0 in
    let same : are_same value old ≡ false =
    ap (λ (n : List Bit). are_same value n) (sym c.value.ensures.number) ∙ sym (same_is c.is_same.result value c.value.result c.is_same.ensures) ∙ c.if-is_same.false in
    sym (ap (λ (o : Option (List Bit)). change_of old c.args.input.0 o) c.in_ok-value.was ∙ change_some old c.args.input.0 value same)
