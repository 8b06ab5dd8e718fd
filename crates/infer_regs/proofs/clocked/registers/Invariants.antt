use Rattle.rtl_flat.specs.Flats.{flat}
use Rattle.net_list.specs.Drivers.{AreLower}
use Rattle.infer_regs.specs.Taken.{AreTaken}
use Rattle.infer_regs.proofs.clocked.registers.Given as goal

abbrev pub invariant-loop-number : goal.invariant-loop-number
invariant-loop-number l = record {
  lower : AreLower (flat l.design) l.number l.lower;
  taken : AreTaken (flat l.design) l.number l.clocked.items;
}
