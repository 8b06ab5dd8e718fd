-- What the names of a module stand for in an instance, and what its parameters are by the standard (IEEE 1364-2001
-- sections 3.11.1 and 12.2).
-- Worked examples: proofs/Examples.antt.
use Rattle.std.specs.Prelude.{ℕ, ℤ, List, Option, None, Some}
use Rattle.name_map.specs.Values.{Values, values_of}
use Rattle.rtl_bits.specs.declared.Bit.{Bit}
use Rattle.rtl_bits.specs.Bits.{all_x, bits_of}
use Rattle.elab_walk.specs.elab_scope.declared.known.Known.{Known}
use Rattle.elab_walk.specs.elab_scope.declared.known.Known.TheVariants as known
use Rattle.elab_walk.specs.elab_scope.Names.{Meanings, indexed, meanings}
use Rattle.elab_walk.specs.elab_scope.Trees.{named_bits}
use Rattle.elab_walk.specs.elab_scope.Widths.{bits, fitted}
use Rattle.elab_standard.specs.declared.scopes.Scopes.{Scopes as Kept}
use Rattle.elab_standard.specs.declared.standard.Standard.{Standard}

-- what names stand for by the desk, and what those that are parameters are by the standard
pub record Scopes : Type 0 where
  pub scope : Meanings
  pub standards : Values Standard

abbrev pub scopes : Kept → Scopes
scopes kept = record { scope = meanings kept.names; standards = values_of kept.standards }

-- the same, but that an `integer` has this number in a turn of its loop, or none
abbrev pub turned : Scopes → List ℕ → Option ℤ → Scopes
turned s name number = record { scope = indexed s.scope name number; standards = s.standards }

-- a parameter has the width and the sign that it has by the standard; its number stays the desk's
abbrev pub restated_name : Option Known → Option Standard → Option Known
restated_name (Some (known.Parameter number width signed)) (Some standard) =
    Some (known.Parameter number standard.width standard.signed)
restated_name known standard = known

-- what names stand for where parameters have their standard formats, and constants the numbers that they have
abbrev pub restated : Scopes → Meanings
restated s = λ name. restated_name (s.scope name) (s.standards name)

-- a number in so many bits; x in all of them where there is none
abbrev pub bits_given : ℕ → Option ℕ → List Bit
bits_given width (Some n) = bits_of width n
bits_given width None = all_x width

-- the bits of a parameter by the standard
abbrev pub standard_bits : Standard → List Bit
standard_bits standard = bits_given (bits (fitted standard.width)) standard.bits

-- the bits of a name that stands for a number, by the standard
abbrev pub read_bits : Option Known → Option Standard → List Bit
read_bits (Some (known.Parameter number width signed)) (Some standard) = standard_bits standard
read_bits known standard = named_bits known
