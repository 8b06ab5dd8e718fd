use Rattle.rtl_flat.specs.Flats.{flat}
use Rattle.net_list.specs.Drivers.{AreLower}
use Rattle.net_list.proofs.Below.{AreAloneBelow}
use Rattle.net_list.proofs.alone.blocks.Given as goal

abbrev pub invariant-loop-number : goal.invariant-loop-number
invariant-loop-number l = record {
  lower : AreLower (flat l.design) l.number l.lower;
  alone : AreAloneBelow (flat l.design) l.number;
}
