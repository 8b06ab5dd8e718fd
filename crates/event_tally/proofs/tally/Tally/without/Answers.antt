use Rattle.std.proofs.Common.{arith, subst}
use Rattle.rtl_bits.specs.declared.Bit.{Bit}
use Rattle.event_tally.specs.Tallies.{IsTallyWith}
use Rattle.event_tally.proofs.Tallying.{room_of_others}
use Rattle.event_tally.proofs.tally.Tally.without.Goals as goal

pub returns-in-Zero-clause-room : goal.returns-in-Zero-clause-room
returns-in-Zero-clause-room c =
    let has = subst (λ (b : Bit). IsTallyWith b c.args.self) c.in-Zero.is c.requires in
    let zeros = has.tally_is.zeros in
    room_of_others has.others _ (record { zeros = omega (arith, zeros); ones = has.tally_is.ones; unknowns = has.tally_is.unknowns }) has.few

pub returns-in-One-clause-room : goal.returns-in-One-clause-room
returns-in-One-clause-room c =
    let has = subst (λ (b : Bit). IsTallyWith b c.args.self) c.in-One.is c.requires in
    let ones = has.tally_is.ones in
    room_of_others has.others _ (record { zeros = has.tally_is.zeros; ones = omega (arith, ones); unknowns = has.tally_is.unknowns }) has.few

pub returns-in-X-clause-room : goal.returns-in-X-clause-room
returns-in-X-clause-room c =
    let has = subst (λ (b : Bit). IsTallyWith b c.args.self) c.in-X.is c.requires in
    let unknowns = has.tally_is.unknowns in
    room_of_others has.others _ (record { zeros = has.tally_is.zeros; ones = has.tally_is.ones; unknowns = omega (arith, unknowns) }) has.few

pub returns-in-Z-clause-room : goal.returns-in-Z-clause-room
returns-in-Z-clause-room c =
    let has = subst (λ (b : Bit). IsTallyWith b c.args.self) c.in-Z.is c.requires in
    room_of_others has.others _ (record { zeros = has.tally_is.zeros; ones = has.tally_is.ones; unknowns = has.tally_is.unknowns }) has.few
