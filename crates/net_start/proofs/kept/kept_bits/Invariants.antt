use Rattle.std.proofs.Common.{◌≡◌, ℕ}
use Rattle.rtl_flat.specs.Flats.{flat}
use Rattle.check_found.specs.rtl_scan.Sets.{has}
use Rattle.net_start.specs.Kept.{kept_below}
use Rattle.net_start.proofs.kept.kept_bits.Given as goal

abbrev pub invariant-loop-number : goal.invariant-loop-number
invariant-loop-number l =
    (s k : ℕ) → has l.bits.masks s k ≡ kept_below (flat l.design) l.number s k
