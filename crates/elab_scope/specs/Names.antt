-- What the names of a module stand for, as a function of the name.
-- Worked examples: crates/elab_body/proofs/Examples.antt.
use Rattle.std.specs.Prelude.{ℕ, ℤ, List, Bool, true, false, Option, None, Some, if◌then◌else◌}
use Rattle.name_map.specs.Values as map
use Rattle.name_map.specs.Values.{Values, no_values, values_of, with_value}
use Rattle.rtl_const.specs.Numbers.{Numbers}
use Rattle.elab_scope.specs.declared.known.Known.{Known}
use Rattle.elab_scope.specs.declared.known.Known.TheVariants.{Parameter, Integer}
use Rattle.elab_scope.specs.declared.names.Names.{Names}

-- what each name stands for that is declared
abbrev pub Meanings : Type 0
Meanings = Values Known

-- nothing is declared
abbrev pub no_meanings : Meanings
no_meanings = no_values

-- the same, but that one name stands for this
abbrev pub with_meaning : Meanings → List ℕ → Known → Meanings
with_meaning scope name known = with_value scope name known

-- one declaration more; of a name that is declared already the first declaration holds
abbrev pub entered : Meanings → List ℕ → Known → Meanings
entered scope name known = map.entered scope name known

-- whether a name is an `integer`
abbrev pub is_integer : Option Known → Bool
is_integer (Some (Integer number)) = true
is_integer _ = false

-- the same, but that an `integer` has this number in the turn of its loop, or none outside it
abbrev pub indexed : Meanings → List ℕ → Option ℤ → Meanings
indexed scope name number =
    if is_integer (scope name) then with_meaning scope name (Integer number) else scope

-- the number that a name has in constant expressions
abbrev pub number_of : Option Known → Option ℤ
number_of (Some (Parameter number width signed)) = number
number_of (Some (Integer number)) = number
number_of _ = None

-- the numbers of all names
abbrev pub numbers_in : Meanings → Numbers
numbers_in scope = λ name. number_of (scope name)

-- what a map of names holds
abbrev pub meanings : Names → Meanings
meanings names = values_of names.known
