-- The numbers that names stand for, as a function of the name.
-- Worked examples: crates/elab_items/proofs/Examples.antt.
use Rattle.std.specs.Prelude.{ℕ, ℤ, List}
use Rattle.name_map.specs.Values.{Values, no_values, values_of, with_value}
use Rattle.rtl_const.specs.declared.params.Params.{Params}

-- the number of each name that has one
abbrev pub Numbers : Type 0
Numbers = Values ℤ

-- no name has a number
abbrev pub no_numbers : Numbers
no_numbers = no_values

-- the same, but that one name has this number
abbrev pub with_number : Numbers → List ℕ → ℤ → Numbers
with_number numbers name n = with_value numbers name n

-- what a map of names holds
abbrev pub numbers_of : Params → Numbers
numbers_of params = values_of params.numbers
