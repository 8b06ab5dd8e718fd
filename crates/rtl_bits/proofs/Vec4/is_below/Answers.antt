use Rattle.std.proofs.Common.{◌<◌, ◌^◌, length}
use Rattle.rtl_bits.specs.Bits.{number}
use Rattle.rtl_bits.proofs.Numbers.{number-lt}
use Rattle.rtl_bits.proofs.Signs.{other_signs}
use Rattle.rtl_bits.proofs.Vec4.is_below.Goals as goal

pub returns-else-is_left_negative-is_negative : goal.returns-else-is_left_negative-is_negative
returns-else-is_left_negative-is_negative c =
    let right : number c.args.o < 2 ^ length c.args.self = rw c.requires.widths (number-lt c.args.o) in
    rw (c.is_negative-is_left_negative.ensures, c.requires.widths)
    (other_signs (number c.args.self) (number c.args.o) (2 ^ length c.args.o) (rw c.requires.widths at (number-lt c.args.self)) (number-lt c.args.o)
    (rw (c.is_negative-is_left_negative.ensures, c.is_negative.ensures, c.requires.widths) at c.if-is_left_negative-is_negative.false))
