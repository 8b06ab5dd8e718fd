use Rattle.std.proofs.Common.{◌≡◌, ◌+◌, ℕ, List, length, ap, refl, subst, sym, arith, Some}
use Rattle.std.specs.List.{slice_get}
use Rattle.std.proofs.lemmas.Option.{slice_get_read}
use Rattle.rtl_bits.specs.declared.Bit.{Bit}
use Rattle.rtl_flat.specs.declared.signal.Signal.{Signal}
use Rattle.rtl_flat.specs.Flats.{flat}
use Rattle.netlist_eval.specs.Sims.{shown}
use Rattle.demo_replay.proofs.Starting.{AreTakenBelow, are_stored, are_taken, one_taken}
use Rattle.demo_replay.proofs.start.taken_values.Goals as goal

pub loop-number-preserved : goal.loop-number-preserved
loop-number-preserved c =
    let kept = c.args.setup.now in
    let d = flat kept.design.now in
    let n = shown c.args.net.now in
    let at = c.loop-number.number in
    let one = c.signal-item.result in
    let same = c.deref-signal-items.ensures.value in
    let there : slice_get d.signals at ≡ Some one =
    subst (λ (l : List Signal). slice_get l at ≡ Some one) same (slice_get_read c.deref-signal-items.result.now _ at one refl c.loop-number-test.true c.signal-item.is) in
    subst (AreTakenBelow d kept.temporaries.items n (at + 1)) (sym {A = List (List Bit)} c.in_ok-push.ensures.items)
    (one_taken d kept.temporaries.items n at c.loop-number.values.items c.taken_value.result one there c.taken_value.ensures c.loop-number.invariant)

pub returns-clause-stored : goal.returns-clause-stored
returns-clause-stored c =
    let kept = c.args.setup.now in
    let design = kept.design.now in
    let n = shown c.args.net.now in
    let all : c.loop-number.number ≡ length design.signals.items = omega (arith, c.loop-number-test.false, c.loop-number.auto.number-end, ap (λ (l : List Signal). length l) c.deref-signal-items.ensures.value) in
    are_stored design kept.temporaries.items c.requires.is_of.temporaries n c.requires.numbers c.loop-number.values.items
    (subst (λ (k : ℕ). AreTakenBelow (flat design) kept.temporaries.items n k c.loop-number.values.items) all c.loop-number.invariant)

pub returns-clause-taken : goal.returns-clause-taken
returns-clause-taken c =
    let kept = c.args.setup.now in
    let design = kept.design.now in
    let n = shown c.args.net.now in
    let all : c.loop-number.number ≡ length design.signals.items = omega (arith, c.loop-number-test.false, c.loop-number.auto.number-end, ap (λ (l : List Signal). length l) c.deref-signal-items.ensures.value) in
    are_taken design kept.temporaries.items c.requires.is_of.temporaries n c.requires.numbers c.loop-number.values.items
    (subst (λ (k : ℕ). AreTakenBelow (flat design) kept.temporaries.items n k c.loop-number.values.items) all c.loop-number.invariant)
