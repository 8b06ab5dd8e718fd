use Rattle.std.proofs.Common.{◌≡◌, ◌∙◌, List, drop, length, map, ap, arith}
use Rattle.rtl_bits.specs.declared.Bit.{Bit}
use Rattle.rtl_bits.specs.Bits.{tabulate}
use Rattle.rtl_flat.specs.Process.{action, body_of}
use Rattle.rtl_flat.specs.Signs.{width_in}
use Rattle.rtl_flat.specs.Value.{store}
use Rattle.net_model.specs.Block.{first_maps, block_bit}
use Rattle.net_body.specs.Marks.{AreKept, maps}
use Rattle.net_body.proofs.Ending.{both_subst, kept_front}
use Rattle.net_body.proofs.maps.Maps.run.Goals as goal

pub returns-clause-numbers : goal.returns-clause-numbers
returns-clause-numbers c = λ i.
    let old = c.args.self.now in
    let ws = width_in old.design.now.signals.items in
    let body = body_of (map action c.args.body.now) in
    let ok = old.numbers.ok.0 in
    let same = c.run_body.auto.numbers in
    let value = ap length c.deref_mut.ensures.value in
    ap (λ (ns : List (List Bit)). store ns i) (kept_front old.numbers.len c.run_body.new.numbers _ (omega (arith, ok, same, value)))
    ∙ c.run_body.ensures.numbers i
    ∙ ap (λ (ns : List (List Bit)). tabulate (ws i) (λ k. block_bit ws c.args.fill (store ns) body i k)) c.deref_mut.ensures.value

pub returns-clause-ready : goal.returns-clause-ready
returns-clause-ready c =
    let old = c.args.self.now in
    let signals = old.design.now.signals.items in
    let numbers_ok = old.numbers.ok.0 in
    let marks_ok = old.marks.ok.0 in
    let entries_ok = old.entries.ok.0 in
    let numbers_same = c.run_body.auto.numbers in
    let marks_same = c.run_body.auto.marks in
    let entries_same = c.run_body.auto.entries in
    let numbers_value = ap length c.deref_mut.ensures.value in
    let marks_value = ap length c.deref_mut-2.ensures.value in
    let entries_value = ap length c.deref_mut-3.ensures.value in
    let numbers = kept_front old.numbers.len c.run_body.new.numbers (drop (length c.run_body.new.numbers) old.numbers.items) (omega (arith, numbers_ok, numbers_same, numbers_value)) in
    let marks = kept_front old.marks.len c.run_body.new.marks (drop (length c.run_body.new.marks) old.marks.items) (omega (arith, marks_ok, marks_same, marks_value)) in
    let entries = ap length (kept_front old.entries.len c.run_body.new.entries (drop (length c.run_body.new.entries) old.entries.items) (omega (arith, entries_ok, entries_same, entries_value))) in
    let ample = c.requires.ready.entries in
    record {
      kept = both_subst (AreKept signals) _ _ _ _ numbers marks c.run_body.ensures.kept;
      clear = both_subst (λ ns ms. maps ns ms ≡ first_maps (store ns)) _ _ _ _ numbers marks c.run_body.ensures.clear;
      entries = omega (arith, entries, ample, entries_same, entries_value);
    }

pub run_body-requires-clause-clear : goal.run_body-requires-clause-clear
run_body-requires-clause-clear c =
    both_subst (λ ns ms. maps ns ms ≡ first_maps (store ns)) _ _ _ _ c.deref_mut.ensures.value c.deref_mut-2.ensures.value c.requires.ready.clear
