-- It serves inner contracts and proofs; no answer of the program is stated by it.
-- What is told of a text.
use Rattle.std.specs.Prelude.{◌≡◌, Result, Err}
use Rattle.vcd_read.specs.declared.fault.VcdFault.{VcdFault}
use Rattle.vcd_read.specs.declared.fault.VcdFault.TheVariants.{Malformed, TooLarge, Memory}

-- whether a fault is that of a reading, or want of memory
abbrev pub IsTold : {A : Type 0} → VcdFault → Result A VcdFault → Type 0
IsTold Memory reading = Unit {0}
IsTold (Malformed at) reading = reading ≡ Err (Malformed at)
IsTold (TooLarge at) reading = reading ≡ Err (TooLarge at)
