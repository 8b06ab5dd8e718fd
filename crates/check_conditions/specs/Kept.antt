-- It serves inner contracts and proofs; no answer of the program is stated by it.
-- What the code keeps of files: which of them have a name as a macro, and the asks for foreign names by reference.
use Rattle.std.specs.Prelude.{ℕ, ◌≡◌, ◌==◌, Bool, true, false, not, if◌then◌else◌, List, [], map, length, Option, Some, None}
use Rattle.name_map.specs.declared.NameMap.{NameMap}
use Rattle.name_map.specs.Values.{values_of}
use Rattle.rtl_prep.specs.Conditions.{FileConditions}
use Rattle.check_conditions.specs.declared.providers.Provider.{Provider}
use Rattle.check_conditions.specs.declared.providers.Provider.TheVariants.{One, Many}
use Rattle.check_conditions.specs.declared.foreign.AskingFile.{AskingFile}
use Rattle.check_conditions.specs.Foreign.{is_elsewhere}

-- whether a file of another number has it
abbrev pub is_other : ℕ → Option Provider → Bool
is_other number None = false
is_other number (Some (One file)) = not (file == number)
is_other number (Some Many) = true

-- who has it, where one file more has it
abbrev pub joined : Option Provider → ℕ → Provider
joined None file = One file
joined (Some (One first)) file = if first == file then One first else Many
joined (Some Many) file = Many

-- whether a map says of each name which files have it
abbrev pub AreProviders : NameMap Provider → List FileConditions → Type 0
AreProviders providers files =
    (number : ℕ) (name : List ℕ) → is_other number (values_of providers name) ≡ is_elsewhere files number name

-- whether a file asks nothing
abbrev pub is_quiet : FileConditions → Bool
is_quiet file = length file.asks == 0

-- a file without its macros
abbrev pub bare : FileConditions → FileConditions
bare file = record { asks = file.asks; chains = file.chains; modules = file.modules; macros = [] }

-- what is kept by reference
abbrev pub shown : AskingFile → FileConditions
shown kept =
    record {
      asks = map (λ ask. ask.now) kept.asks.items;
      chains = kept.chains.now;
      modules = kept.modules.now;
      macros = [];
    }
