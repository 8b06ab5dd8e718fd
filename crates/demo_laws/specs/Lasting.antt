-- It serves inner contracts and proofs; no answer of the program is stated by it.
-- What does not depend on the numbers of temporaries.
use Rattle.std.specs.Prelude.{◌≡◌, ℕ}
use Rattle.rtl_flat.specs.Flows.{body_flow}
use Rattle.rtl_flat.specs.Paths.{MayWriteLate, ReadsOutside}
use Rattle.rtl_flat.specs.Process.{Actions}
use Rattle.rtl_flat.specs.WellFormed.{IsBody}
use Rattle.rtl_flat.specs.Flats.{Flat, widths}
use Rattle.event_model.specs.Writes.{Values}
use Rattle.net_model.specs.declared.fill.Fill.{Fill}
use Rattle.net_model.specs.Block.{block_bit}
use Rattle.net_model.specs.Numbers.{AreNumbers}
use Rattle.net_model.specs.Solution.{IsLasting}
use Rattle.demo_clean.specs.net_rest.Rest.{AreAlike}

-- what the function of a body gives to a bit that lasts depends on bits that last alone, where the
-- body reads no other outside and may write no other late
abbrev pub LastingDepends : Flat → Type 0
LastingDepends d =
    (f : Fill) (n m : Values) (body : Actions) →
    AreNumbers d n → AreNumbers d m → IsBody d.signals body → AreAlike d n m →
    ((i k : ℕ) → ReadsOutside (body_flow (widths d) body) i k → IsLasting d i) →
    ((i k : ℕ) → MayWriteLate (body_flow (widths d) body) i k → IsLasting d i) →
    (i k : ℕ) → IsLasting d i →
    block_bit (widths d) f n body i k ≡ block_bit (widths d) f m body i k
