use Rattle.std.proofs.Common.{◌≡◌, drop, map}
use Rattle.rtl_flat.specs.Process.{piece}
use Rattle.rtl_flat.specs.Flats.{flat}
use Rattle.check_case.specs.Least.{first_of_pieces, lesser}
use Rattle.check_case.proofs.first.first_of_target.Given as goal

abbrev pub invariant-loop-part : goal.invariant-loop-part
invariant-loop-part l =
    lesser l.first (first_of_pieces (flat l.design) (map piece (drop l.part-index l.target))) ≡ first_of_pieces (flat l.design) (map piece l.target)
