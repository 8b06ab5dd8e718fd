use Rattle.std.proofs.Common.{◌≡◌, ◌∙◌, ◌<◌, true, false, get_or, length, ap, replicate, sym, subst, rules}
use Rattle.std.specs.Prelude.{◌↔◌}
use Rattle.std.specs.List.{flat_map}
use Rattle.rtl_bits.specs.declared.Bit.TheVariants.{Zero, One}
use Rattle.rtl_flat.specs.Flats.{flat}
use Rattle.check_gates.specs.Admitted.{gates_of}
use Rattle.check_gates.specs.Latches.{IsOpenAt, open_input}
use Rattle.check_gates.specs.Tops.{AreMarkedAlso}
use Rattle.check_gates.proofs.Marking.{clock_marks, open_marks}
use Rattle.check_gates.proofs.Waiting.{written}
use Rattle.check_gates.proofs.inputs.Inputs.of.Goals as goal

pub returns : goal.returns
returns c =
    let d = flat c.args.scans.now.design.now in
    let gates = c.args.gates.now in
    let count : c.len-count.result ≡ length d.signals = c.len-count.ensures ∙ c.args.scans.now.design.now.signals.ok.0 in
    let high = c.in_ok-high.high in
    let low = c.in_ok-low.low in
    let no_high : high.items ≡ replicate (length d.signals) false = c.in_ok-high.ensures.items_if_clones_equal (λ y e. search rules) ∙ ap (λ n. replicate n false) count in
    let no_low : low.items ≡ replicate (length d.signals) false = c.in_ok-low.ensures.items_if_clones_equal (λ y e. search rules) ∙ ap (λ n. replicate n false) count in
    let highs = subst (λ o. AreMarkedAlso (flat_map (open_input One) gates) o c.mark_open.new.marks) c.deref_mut.ensures.value c.mark_open.ensures in
    let lows = subst (λ o. AreMarkedAlso (flat_map (open_input Zero) gates) o c.mark_open-2.new.marks) c.deref_mut-2.ensures.value c.mark_open-2.ensures in
    record {
      clocks = clock_marks d c.in_ok-clocks.field-0.items c.in_ok-clocks.ensures;
      high = λ x. subst (λ l. get_or l x false ≡ true ↔ ((x < length d.signals) × IsOpenAt (gates_of gates) One x)) (sym (written high.len c.mark_open.new.marks high.items high.ok.0 highs.size))
          (open_marks (length d.signals) gates One high.items c.mark_open.new.marks no_high highs x);
      low = λ x. subst (λ l. get_or l x false ≡ true ↔ ((x < length d.signals) × IsOpenAt (gates_of gates) Zero x)) (sym (written low.len c.mark_open-2.new.marks low.items low.ok.0 lows.size))
          (open_marks (length d.signals) gates Zero low.items c.mark_open-2.new.marks no_low lows x);
    }
