use Rattle.std.proofs.Common.{sym}
use Rattle.net_start.proofs.Unknowns.{both_known, none_unknown, unknown_left, unknown_right}
use Rattle.net_start.proofs.unknown.first_unknown.Goals as goal

pub returns-in-Some : goal.returns-in-Some
returns-in-Some c =
    unknown_left c.args.registers.now c.args.inputs.now c.in-Some.place (sym c.in-Some.ensures)

pub returns-in-Some-unknown_place : goal.returns-in-Some-unknown_place
returns-in-Some-unknown_place c =
    unknown_right c.args.registers.now c.args.inputs.now c.in-Some-unknown_place.place (sym c.in-None.ensures) (sym c.in-Some-unknown_place.ensures)

pub returns-in-None-unknown_place : goal.returns-in-None-unknown_place
returns-in-None-unknown_place c =
    both_known c.args.registers.now c.args.inputs.now
    (none_unknown c.args.registers.now (sym c.in-None.ensures))
    (none_unknown c.args.inputs.now (sym c.in-None-unknown_place.ensures))
