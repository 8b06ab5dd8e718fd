-- It serves inner contracts and proofs; no answer of the program is stated by it.
-- Which writes count as sure.
use Rattle.std.specs.Prelude.{ℕ, Bool, true, false, not}
use Rattle.rtl_flat.specs.Paths.{Step, writes_bit, writes_now}
use Rattle.rtl_scan.specs.declared.scan.Counted.{Counted}
use Rattle.rtl_scan.specs.declared.scan.Counted.TheVariants.{Nothing, Blocking, All}

abbrev pub counts : Counted → ℕ → ℕ → Step → Bool
counts Nothing = λ s k step. false
counts Blocking = writes_now
counts All = writes_bit

abbrev pub counts_as_sure : Counted → Bool → Bool
counts_as_sure Nothing delayed = false
counts_as_sure Blocking delayed = not delayed
counts_as_sure All delayed = true
