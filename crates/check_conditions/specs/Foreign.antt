-- Which conditions of a file ask for names that tools define, or other files. Macros are per file here; a simulator that
-- reads several files in a row has those of the earlier ones in the later ones (IEEE 1364-2001 section 19.3.1).
-- Worked examples: crates/check_conditions/proofs/Example.antt, crates/tests_rows/stdin.
use Rattle.std.specs.Prelude.{ℕ, ◌+◌, ◌==◌, ◌&&◌, ◌||◌, Bool, false, not, if◌then◌else◌, List, [], ◌∷◌, map, unwrap_or}
use Rattle.std.specs.List.{list_any, slice_get}
use Rattle.std.specs.Str.{bytes_eq}
use Rattle.rtl_prep.specs.declared.conditions.Ask.{Ask}
use Rattle.rtl_prep.specs.Conditions.{FileConditions}
use Rattle.check_conditions.specs.ToolNames.{is_tool_name}

-- a file that asks nothing and has no macros
abbrev pub nothing_asked : FileConditions
nothing_asked = record { asks = []; chains = []; modules = []; macros = [] }

-- the file of a number, from 0; beyond them all one that asks nothing
abbrev pub file_at : List FileConditions → ℕ → FileConditions
file_at files number = unwrap_or (slice_get files number) nothing_asked

-- whether a file has the name as a macro at its end
abbrev pub has_macro : List ℕ → FileConditions → Bool
has_macro name file = list_any (λ one. bytes_eq one name) file.macros

-- whether one of the files, which are numbered from `first`, has the name as a macro at its end, and another number
abbrev pub is_elsewhere_from : ℕ → List FileConditions → ℕ → List ℕ → Bool
is_elsewhere_from first [] number name = false
is_elsewhere_from first (file ∷ files) number name =
    (not (first == number) && has_macro name file) || is_elsewhere_from (first + 1) files number name

-- whether another file has the name as a macro at its end
abbrev pub is_elsewhere : List FileConditions → ℕ → List ℕ → Bool
is_elsewhere files number name = is_elsewhere_from 0 files number name

-- that of each name that a file asks for
abbrev pub elsewhere_in : List FileConditions → ℕ → List Bool
elsewhere_in files number =
    map (λ ask. is_elsewhere files number ask.name) (file_at files number).asks

-- of asks with what `elsewhere_in` says of each, those for a name that a tool defines, or another file
abbrev pub foreign_asks : List Ask → List Bool → List Ask
foreign_asks [] elsewhere = []
foreign_asks (ask ∷ asks) [] = []
foreign_asks (ask ∷ asks) (here ∷ elsewhere) =
    if is_tool_name ask.name || here then ask ∷ foreign_asks asks elsewhere else foreign_asks asks elsewhere

-- a file with its asks for such names alone
abbrev pub foreign_by : FileConditions → List Bool → FileConditions
foreign_by file elsewhere =
    record {
      asks = foreign_asks file.asks elsewhere;
      chains = file.chains;
      modules = file.modules;
      macros = file.macros;
    }

-- the file of a number, the same
abbrev pub foreign_in : List FileConditions → ℕ → FileConditions
foreign_in files number = foreign_by (file_at files number) (elsewhere_in files number)
