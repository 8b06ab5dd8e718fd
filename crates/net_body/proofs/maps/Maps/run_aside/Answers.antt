use Rattle.std.proofs.Common.{◌≡◌, drop, length, ap, arith}
use Rattle.rtl_flat.specs.Value.{store}
use Rattle.net_model.specs.Block.{first_maps}
use Rattle.net_body.specs.Marks.{AreKept, maps}
use Rattle.net_body.proofs.Ending.{both_subst, kept_front}
use Rattle.net_body.proofs.maps.Maps.run_aside.Goals as goal

pub returns-clause-ready : goal.returns-clause-ready
returns-clause-ready c =
    let old = c.args.self.now in
    let signals = old.design.now.signals.items in
    let numbers_ok = old.numbers.ok.0 in
    let marks_ok = old.marks.ok.0 in
    let entries_ok = old.entries.ok.0 in
    let numbers_same = c.run_beside.auto.numbers in
    let marks_same = c.run_beside.auto.marks in
    let entries_same = c.run_beside.auto.entries in
    let numbers_value = ap length c.deref_mut.ensures.value in
    let marks_value = ap length c.deref_mut-2.ensures.value in
    let entries_value = ap length c.deref_mut-3.ensures.value in
    let numbers = kept_front old.numbers.len c.run_beside.new.numbers (drop (length c.run_beside.new.numbers) old.numbers.items) (omega (arith, numbers_ok, numbers_same, numbers_value)) in
    let marks = kept_front old.marks.len c.run_beside.new.marks (drop (length c.run_beside.new.marks) old.marks.items) (omega (arith, marks_ok, marks_same, marks_value)) in
    let entries = ap length (kept_front old.entries.len c.run_beside.new.entries (drop (length c.run_beside.new.entries) old.entries.items) (omega (arith, entries_ok, entries_same, entries_value))) in
    let ample = c.requires.ready.entries in
    record {
      kept = both_subst (AreKept signals) _ _ _ _ numbers marks c.run_beside.ensures.kept;
      clear = both_subst (λ ns ms. maps ns ms ≡ first_maps (store ns)) _ _ _ _ numbers marks c.run_beside.ensures.clear;
      entries = omega (arith, entries, ample, entries_same, entries_value);
    }

pub run_beside-requires-clause-clear : goal.run_beside-requires-clause-clear
run_beside-requires-clause-clear c =
    both_subst (λ ns ms. maps ns ms ≡ first_maps (store ns)) _ _ _ _ c.deref_mut.ensures.value c.deref_mut-2.ensures.value c.requires.ready.clear
