-- What a dump records of a design's signals, on small cases.
use Rattle.std.proofs.Common.{◌≡◌, ℕ, true, false, List, [], ◌∷◌, map, codes, refl}
use Rattle.std.specs.Prelude.{Option, None, Some}
use Rattle.rtl_bits.specs.declared.Bit.{Bit}
use Rattle.rtl_bits.specs.declared.Bit.TheVariants.{Zero, One, X}
use Rattle.rtl_flat.specs.declared.signal.Kind.TheVariants.{Var}
use Rattle.rtl_flat.specs.declared.signal.Signal.{Signal}
use Rattle.rtl_flat.specs.Flats.{Flat}
use Rattle.vcd_read.specs.declared.dump.Entry.{Entry}
use Rattle.vcd_read.specs.declared.dump.Entry.TheVariants.{Scope, Upscope, Variable as VariableEntry}
use Rattle.vcd_read.specs.Reading.{Dump}
use Rattle.vcd_signals.specs.Signals.{Sight, below, is_recorded, sights}

-- a register of a width
abbrev register : List ℕ → ℕ → Signal
register path width = record {
  path = path;
  width = width;
  signed = false;
  low = 0;
  kind = Var;
  top_output = true;
  instance = 0;
  spot = record { file = 0; at = 0 };
}

abbrev design : Flat
design = record { signals = register (codes "top.q") 1 ∷ register (codes "top.u.w") 2 ∷ []; tasks = [] }

-- two scopes with a variable of one bit, which changes twice
abbrev dump : Dump
dump = record {
  entries =
      Scope (codes "tb") ∷ Scope (codes "dut")
      ∷ VariableEntry (record { name = codes "q"; width = 2; code = 2 })
      ∷ VariableEntry (record { name = codes "q"; width = 1; code = 1 })
      ∷ Upscope ∷ Upscope ∷ [];
  bits = X ∷ One ∷ [];
  changes = record { code = 1; bits = 1 } ∷ record { code = 1; bits = 1 } ∷ [];
  frames = record { time = 0; before = 0 } ∷ record { time = 5; before = 1 } ∷ [];
}

abbrev values_of : ℕ → List (Option (List Bit))
values_of i = map (λ (sight : Sight). sight.value i) (sights design (codes "tb.dut") dump)

-- a variable of another width doesn't record the register
its_values : values_of 0 ≡ Some (X ∷ []) ∷ Some (One ∷ []) ∷ []
its_values = refl

no_values : values_of 1 ≡ None ∷ None ∷ []
no_values = refl

there : is_recorded design (codes "tb.dut") dump 0 ≡ true
there = refl

elsewhere : is_recorded design (codes "tb") dump 0 ≡ false
elsewhere = refl

below_the_top : below (codes "top.u.w") ≡ codes "u.w"
below_the_top = refl
