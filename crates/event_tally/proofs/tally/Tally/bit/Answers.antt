use Rattle.std.proofs.Common.{◌≡◌, ◌∙◌, arith, sym, ap}
use Rattle.event_tally.proofs.Tallying.{resolution, tally_bit, some_x, apart_x, all_zero, all_one, all_z}
use Rattle.event_tally.proofs.tally.Tally.bit.Goals as goal

pub returns-then-self-gt0 : goal.returns-then-self-gt0
returns-then-self-gt0 c bits is =
    sym (tally_bit bits c.args.self is ∙ some_x c.args.self.zeros c.args.self.ones c.args.self.unknowns (omega (arith, c.if-self-gt0.true)))

pub returns-then-self-gt0-3 : goal.returns-then-self-gt0-3
returns-then-self-gt0-3 c bits is =
    sym (tally_bit bits c.args.self is ∙ apart_x c.args.self.zeros c.args.self.ones c.args.self.unknowns (omega (arith, c.if-self-gt0-2.true)) (omega (arith, c.if-self-gt0-3.true)))

pub returns-then-self-gt0-2 : goal.returns-then-self-gt0-2
returns-then-self-gt0-2 c bits is =
    let ones : c.args.self.ones ≡ 0 = omega (arith, c.if-self-gt0-3.false) in
    let unknowns : c.args.self.unknowns ≡ 0 = omega (arith, c.if-self-gt0.false) in
    sym (tally_bit bits c.args.self is ∙ ap (λ o. resolution c.args.self.zeros o c.args.self.unknowns) ones ∙ ap (resolution c.args.self.zeros 0) unknowns ∙ all_zero c.args.self.zeros (omega (arith, c.if-self-gt0-2.true)))

pub returns-then-self-gt0-4 : goal.returns-then-self-gt0-4
returns-then-self-gt0-4 c bits is =
    let zeros : c.args.self.zeros ≡ 0 = omega (arith, c.if-self-gt0-2.false) in
    let unknowns : c.args.self.unknowns ≡ 0 = omega (arith, c.if-self-gt0.false) in
    sym (tally_bit bits c.args.self is ∙ ap (λ z. resolution z c.args.self.ones c.args.self.unknowns) zeros ∙ ap (resolution 0 c.args.self.ones) unknowns ∙ all_one c.args.self.ones (omega (arith, c.if-self-gt0-4.true)))

pub returns : goal.returns
returns c bits is =
    let zeros : c.args.self.zeros ≡ 0 = omega (arith, c.if-self-gt0-2.false) in
    let ones : c.args.self.ones ≡ 0 = omega (arith, c.if-self-gt0-4.false) in
    let unknowns : c.args.self.unknowns ≡ 0 = omega (arith, c.if-self-gt0.false) in
    sym (tally_bit bits c.args.self is ∙ ap (λ z. resolution z c.args.self.ones c.args.self.unknowns) zeros ∙ ap (λ o. resolution 0 o c.args.self.unknowns) ones ∙ ap (resolution 0 0) unknowns ∙ all_z)
