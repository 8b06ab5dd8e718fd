use Rattle.std.proofs.Common.{◌≡◌, ◌∙◌, ◌≤◌, List, [], ap, length, map, take, arith}
use Rattle.std.specs.List.{slice_index_or}
use Rattle.std.proofs.lemmas.List.{length-map, take_all}
use Rattle.rtl_bits.specs.declared.Bit.{Bit}
use Rattle.check_parts.proofs.OwnReads.{stored_unknown, unknown_of}
use Rattle.check_parts.proofs.reads.unknowns.Goals as goal

pub returns : goal.returns
returns c =
    let signals = c.args.design.now.signals.items in
    let many = ap length c.deref-signal-items.ensures.value in
    let past : length signals ≤ c.loop-signal.signal-index = omega (arith, many, c.loop-signal-test.false) in
    let all : c.loop-signal.values.items ≡ map unknown_of signals =
    c.loop-signal.invariant ∙ ap (map unknown_of) (take_all c.loop-signal.signal-index signals past) in
    record {
      many = ap length all ∙ length-map signals unknown_of;
      each = λ i. ap (λ (vs : List (List Bit)). slice_index_or vs i []) all ∙ stored_unknown signals i;
    }
