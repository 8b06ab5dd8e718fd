use Rattle.std.proofs.Common.{◌≡◌, ◌∙◌, ◌<◌, length, refl, sym, ap, subst, arith}
use Rattle.rtl_bits.specs.Bits.{has_unknown}
use Rattle.rtl_flat.specs.Value.{store}
use Rattle.rtl_flat.specs.Flats.{flat, widths}
use Rattle.net_model.specs.Numbers.{AreNumbers}
use Rattle.net_settle.proofs.Able.{able_after}
use Rattle.net_turn.proofs.Put.{put_numbers}
use Rattle.net_turn.proofs.Steps.{all_same, done_more, read_is}
use Rattle.net_turn.proofs.take.write_back.Goals as goal

pub loop-place-init : goal.loop-place-init
loop-place-init c = (c.requires.able, refl, (λ i below. absurd (omega (arith, below))))

pub set-requires-clause-ready : goal.set-requires-clause-ready
set-requires-clause-ready c = c.loop-place.invariant.0.ready

pub set-requires-clause-there : goal.set-requires-clause-there
set-requires-clause-there c =
    let below : c.loop-place.place < length c.args.after.now = omega arith in
    subst (λ r. c.loop-place.place < length r.now.signals.items) (sym c.loop-place.invariant.1) (omega (arith, below, c.requires.many))

pub set-requires-clause-width : goal.set-requires-clause-width
set-requires-clause-width c =
    let place = c.loop-place.place in
    let bits = c.index-after-place.result in
    let below : place < length c.args.after.now = omega arith in
    let is = read_is c.args.after.now place bits below c.index-after-place.is in
    subst (λ r. length bits ≡ widths (flat r.now) place) (sym c.loop-place.invariant.1) (ap length is ∙ c.requires.after.wide place)

pub loop-place-preserved : goal.loop-place-preserved
loop-place-preserved c =
    let d = flat c.args.maps.now.design.now in
    let place = c.loop-place.place in
    let bits = c.index-after-place.result in
    let maps = store c.loop-place.maps.numbers.items in
    let below : place < length c.args.after.now = omega arith in
    let is = read_is c.args.after.now place bits below c.index-after-place.is in
    let l = c.loop-place.maps in
    let dl = flat l.design.now in
    let wide = subst (λ r. length bits ≡ widths (flat r.now) place) (sym c.loop-place.invariant.1) (ap length is ∙ c.requires.after.wide place) in (
      able_after l c.set.new.self c.loop-place.invariant.0 c.set.ensures.ready c.set.ensures.design c.set.ensures.room
          (subst (λ n. AreNumbers dl n) (sym c.set.ensures.numbers)
          (put_numbers dl maps place bits c.loop-place.invariant.0.numbers wide (ap has_unknown is ∙ c.requires.after.known place))),
      c.set.ensures.design ∙ c.loop-place.invariant.1,
      done_more maps (store c.set.new.self.numbers.items) (store c.args.after.now) place bits c.set.ensures.numbers is c.loop-place.invariant.2,
    )

pub returns-clause-numbers : goal.returns-clause-numbers
returns-clause-numbers c =
    let d = flat c.args.maps.now.design.now in
    let maps = store c.loop-place.maps.numbers.items in
    let are : AreNumbers d maps = subst (λ r. AreNumbers (flat r.now) maps) c.loop-place.invariant.1 c.loop-place.invariant.0.numbers in
    let many = c.requires.many in
    all_same d maps (store c.args.after.now) are c.requires.after (λ i below. c.loop-place.invariant.2 i (omega (arith, below, many)))
