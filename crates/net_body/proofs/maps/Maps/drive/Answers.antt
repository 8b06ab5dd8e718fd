use Rattle.std.proofs.Common.{◌≡◌, ◌∙◌, ◌<◌, ◌≤◌, ℕ, List, drop, length, map, ap, subst, sym, arith}
use Rattle.std.specs.List.{All}
use Rattle.rtl_bits.specs.declared.Bit.{Bit}
use Rattle.rtl_flat.specs.declared.act.TargetPart.{TargetPart}
use Rattle.rtl_flat.specs.declared.signal.Signal.{Signal}
use Rattle.rtl_flat.specs.Expression.{tree}
use Rattle.rtl_flat.specs.Process.{piece, selection}
use Rattle.rtl_flat.specs.Signs.{width_in}
use Rattle.rtl_flat.specs.Value.{store}
use Rattle.rtl_flat.specs.WellFormed.{IsSelection}
use Rattle.rtl_flat.proofs.Bits.{have_bits}
use Rattle.event_model.specs.Writes.{Values, all_written, counts}
use Rattle.net_number.proofs.event_laws_proofs.Targets.{same_count}
use Rattle.net_model.specs.Block.{first_maps, digit_writes}
use Rattle.net_model.specs.Numbers.{digits}
use Rattle.net_body.specs.Marks.{AreKept, AreStored, maps}
use Rattle.net_body.proofs.Driving.{drives}
use Rattle.net_body.proofs.Ending.{clear_with, kept_front}
use Rattle.net_body.proofs.Prepared.{few_parts}
use Rattle.net_body.proofs.Targets.{parts_selected}
use Rattle.net_body.proofs.maps.Maps.drive.Goals as goal

pub connect-requires-clause-some : goal.connect-requires-clause-some
connect-requires-clause-some c =
    let design = c.args.self.now.design.now in
    subst (λ (ss : List Signal). (i : ℕ) → i < length ss → 1 ≤ width_in ss i) (sym c.deref-2.ensures.value) (have_bits design.instances.items design.signals.items design.is_design.each_signal)

pub connect-requires-clause-selected : goal.connect-requires-clause-selected
connect-requires-clause-selected c =
    let signals = c.args.self.now.design.now.signals.items in
    let parts = c.args.target.now.parts.items in
    subst (λ (ps : List TargetPart). All (λ part. IsSelection c.deref-2.result.now part.signal.0 (selection part.select)) ps) (sym c.deref-3.ensures.value)
    (subst (λ (ss : List Signal). All (λ part. IsSelection ss part.signal.0 (selection part.select)) parts) (sym c.deref-2.ensures.value)
    (parts_selected signals parts c.requires.assignment.0.parts))

pub connect-requires-clause-covered : goal.connect-requires-clause-covered
connect-requires-clause-covered c =
    let signals = c.args.self.now.design.now.signals.items in
    let parts = c.args.target.now.parts.items in
    let one = ap (λ (ss : List Signal). counts (width_in ss) (map piece c.deref-3.result.now)) c.deref-2.ensures.value in
    let two = ap (λ (ps : List TargetPart). counts (width_in signals) (map piece ps)) c.deref-3.ensures.value in
    let all = same_count signals (map piece parts) in
    let covered = c.requires.assignment.0.covered in
    let width = c.evaluate-bits.ensures.width in
    omega (arith, one, two, all, covered, width)

pub connect-requires-clause-room : goal.connect-requires-clause-room
connect-requires-clause-room c =
    let design = c.args.self.now.design.now in
    let signals = design.signals.items in
    let parts = c.args.target.now.parts.items in
    let few = few_parts signals (have_bits design.instances.items signals design.is_design.each_signal) parts (parts_selected signals parts c.requires.assignment.0.parts) in
    let all = same_count signals (map piece parts) in
    let most = c.requires.assignment.0.at_most in
    let ample = c.requires.ready.entries in
    let given = ap length c.deref-3.ensures.value in
    let entries = ap length c.deref_mut-2.ensures.value in
    omega (arith, few, all, most, ample, given, entries)

pub returns-clause-numbers : goal.returns-clause-numbers
returns-clause-numbers c = λ i.
    let old = c.args.self.now in
    let signals = old.design.now.signals.items in
    let ws = width_in signals in
    let f = c.args.fill in
    let parts = c.args.target.now.parts.items in
    let n : Values = store old.numbers.items in
    let e = tree c.args.value.now in
    let ok = old.numbers.ok.0 in
    let same = c.connect.auto.numbers in
    let value = ap length c.deref_mut.ensures.value in
    let made : store c.connect.new.numbers ≡ all_written n (digit_writes ws f n (map piece parts) c.evaluate-bits.result) =
    c.connect.ensures.numbers
    ∙ ap (λ (ss : List Signal). all_written (store c.deref_mut.result.now) (digit_writes (width_in ss) f (store c.deref_mut.result.now) (map piece c.deref-3.result.now) c.evaluate-bits.result)) c.deref-2.ensures.value
    ∙ ap (λ (ps : List TargetPart). all_written (store c.deref_mut.result.now) (digit_writes ws f (store c.deref_mut.result.now) (map piece ps) c.evaluate-bits.result)) c.deref-3.ensures.value
    ∙ ap (λ (ns : List (List Bit)). all_written (store ns) (digit_writes ws f (store ns) (map piece parts) c.evaluate-bits.result)) c.deref_mut.ensures.value in
    let bits_are : c.evaluate-bits.result ≡ digits f n e =
    c.evaluate-bits.ensures.bits ∙ ap (λ (ns : List (List Bit)). digits f (store ns) e) c.deref.ensures.value in
    let all = same_count signals (map piece parts) in
    let covered = c.requires.assignment.0.covered in
    let width = c.evaluate-bits.ensures.width in
    let long = ap length bits_are in
    ap (λ (ns : List (List Bit)). store ns i) (kept_front old.numbers.len c.connect.new.numbers _ (omega (arith, ok, same, value)))
    ∙ drives signals f n (store c.connect.new.numbers) (map piece parts) e (digits f n e) (λ j. sym (c.requires.ready.kept.each j)) c.requires.assignment (omega (arith, all, covered, width, long))
    (made ∙ ap (λ (bits : List Bit). all_written n (digit_writes ws f n (map piece parts) bits)) bits_are) i

pub returns-clause-ready : goal.returns-clause-ready
returns-clause-ready c =
    let old = c.args.self.now in
    let signals = old.design.now.signals.items in
    let marks = old.marks.items in
    let ready = c.requires.ready in
    let numbers_ok = old.numbers.ok.0 in
    let entries_ok = old.entries.ok.0 in
    let numbers_same = c.connect.auto.numbers in
    let entries_same = c.connect.auto.entries in
    let numbers_value = ap length c.deref_mut.ensures.value in
    let entries_value = ap length c.deref_mut-2.ensures.value in
    let numbers = kept_front old.numbers.len c.connect.new.numbers (drop (length c.connect.new.numbers) old.numbers.items) (omega (arith, numbers_ok, numbers_same, numbers_value)) in
    let entries = ap length (kept_front old.entries.len c.connect.new.entries (drop (length c.connect.new.entries) old.entries.items) (omega (arith, entries_ok, entries_same, entries_value))) in
    let stored = subst (λ (ss : List Signal). AreStored ss c.connect.new.numbers) c.deref-2.ensures.value c.connect.ensures.stored in
    let ample = ready.entries in
    record {
      kept = subst (λ (ns : List (List Bit)). AreKept signals ns marks) (sym numbers)
          (record { stored = stored.stored; marked = ready.kept.marked; each = stored.each; next = ready.kept.next });
      clear = subst (λ (ns : List (List Bit)). maps ns marks ≡ first_maps (store ns)) (sym numbers)
          (clear_with old.numbers.items c.connect.new.numbers marks ready.clear);
      entries = omega (arith, entries, ample, entries_same, entries_value);
    }
