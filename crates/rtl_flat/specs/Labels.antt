-- Which labels of a case match (IEEE 1364-2001 section 9.5).
-- Worked examples: crates/event_laws/proofs/BodyExample.antt.
use Rattle.std.specs.Prelude.{Bool, List}
use Rattle.rtl_bits.specs.declared.Bit.{Bit}
use Rattle.rtl_bits.specs.Bits.{all_with, same_bit, matches_but_z, may_equal}
use Rattle.rtl_flat.specs.declared.act.CaseKind.{CaseKind}
use Rattle.rtl_flat.specs.declared.act.CaseKind.TheVariants.{Plain, Z, X}

-- whether a label matches a selector: in `case` all four values count, in `casez` z on either side
-- matches anything, and in `casex` x and z do
abbrev pub label_matches : CaseKind → List Bit → List Bit → Bool
label_matches Plain selector label = all_with same_bit selector label
label_matches Z selector label = all_with matches_but_z selector label
label_matches X selector label = all_with may_equal selector label
