use Rattle.std.proofs.Common.{◌≡◌, ℕ, ◌+◌, ◌*◌, ◌/◌, ◌<◌, ◌≤◌, suc, length, ap, ◌∙◌, arith}
use Rattle.std.proofs.lemmas.Nat.{mul-le, div-add-mod'}
use Rattle.rtl_bits.proofs.Lists.{length-copies}
use Rattle.rtl_bits.proofs.Vec4.repeat.Goals as goal

room : (l k t : ℕ) → t ≤ 128 / l → k < t → l + k * l ≤ 128
room l k t h below =
    let fewer : suc k * l ≤ 128 / l * l = mul-le (suc k) l (128 / l) l (omega arith) (omega arith) in
    omega (arith, div-add-mod' 128 l)

pub join-all-requires : goal.join-all-requires
join-all-requires c =
    let size : length c.loop.all ≡ c.loop.counter * length c.args.self
    = ap length c.loop.invariant ∙ length-copies c.loop.counter c.args.self in
    rw size (room (length c.args.self) c.loop.counter c.args.times (rw c.width.ensures.exact at c.if-times-width.false) c.loop-test.true)

pub returns-clause-width : goal.returns-clause-width
returns-clause-width c =
    let all : c.loop.counter ≡ c.args.times = omega arith in
    ap length c.loop.invariant ∙ length-copies c.loop.counter c.args.self ∙ ap (λ k. k * length c.args.self) all
