use Rattle.std.proofs.Common.{◌≡◌, true}
use Rattle.rtl_bits.specs.Bits.{bits_of, extended}
use Rattle.rtl_flat.specs.Flows.{each_below}
use Rattle.rtl_scan.specs.Values.{matches_some}
use Rattle.rtl_scan.proofs.values.Labels.match_all.Given as goal

abbrev pub invariant-loop-n : goal.invariant-loop-n
invariant-loop-n l = each_below l.n (λ n. matches_some l.kind (extended l.width l.signed (bits_of l.own n)) l.self) ≡ true
