use Rattle.std.proofs.Common.{◌∙◌, not, List, ap, sym}
use Rattle.std.specs.Prelude.{Option}
use Rattle.rtl_bits.specs.declared.Bit.{Bit}
use Rattle.demo_told.proofs.Same.{same_is}
use Rattle.vcd_check.specs.Checks.{differs_from}
use Rattle.vcd_check.proofs.sight.differs.Goals as goal

pub returns-in-Some : goal.returns-in-Some
returns-in-Some c =
    ap not (same_is c.is_same.result c.in-Some.value c.args.number c.is_same.ensures)
    ∙ ap (λ (o : Option (List Bit)). differs_from o c.args.number) (sym c.in-Some.is)
