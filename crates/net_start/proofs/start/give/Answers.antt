use Rattle.std.proofs.Common.{◌<◌, get_or, length, sym, arith}
use Rattle.std.proofs.lemmas.List.{get_or-map, length-map}
use Rattle.std.proofs.lemmas.List.Elements.{All-get_or}
use Rattle.rtl_flat.specs.declared.expr.SigId.{SigId}
use Rattle.rtl_flat.specs.Value.{store}
use Rattle.net_start.specs.Stored.{places}
use Rattle.net_start.proofs.Given.{given_more, read_is}
use Rattle.net_start.proofs.start.give.Goals as goal

pub loop-place-preserved : goal.loop-place-preserved
loop-place-preserved c =
    let signals = c.args.signals.now in
    let values = c.args.values.now in
    let n = c.loop-place.place in
    let signal = get_or signals n (record { 0 = 0 }) in
    let below : n < length signals = omega arith in
    let many = c.requires.many in
    let same = c.loop-place.auto.numbers in
    let count = length-map signals (λ (one : SigId). one.0) in
    let inside : signal.0 < length c.args.numbers.now
    = All-get_or (λ (one : SigId). one.0 < length c.args.numbers.now) signals n (record { 0 = 0 }) below c.requires.inside in
    given_more (places signals) values (store c.args.numbers.now) n c.loop-place.numbers signal.0 c.index-values-place.result
    c.requires.once (omega (arith, below, count)) (sym (get_or-map (λ (one : SigId). one.0) signals n (record { 0 = 0 }) 0 below)) (omega (arith, inside, same))
    (read_is values n c.index-values-place.result (omega (arith, below, many)) c.index-values-place.is) c.loop-place.invariant
