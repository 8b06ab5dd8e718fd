-- The definitions at work on small files.
use Rattle.std.specs.Prelude.{codes}
use Rattle.std.proofs.Common.{◌≡◌, refl, ℕ, Bool, true, false, None, Some, List, [], ◌∷◌, map}
use Rattle.rtl_flat.specs.declared.instance.Instance.{Instance}
use Rattle.rtl_flat.specs.declared.note.Reading.TheVariants.{ToolMacro}
use Rattle.rtl_prep.specs.declared.conditions.Ask.{Ask}
use Rattle.rtl_prep.specs.declared.conditions.Extent.{Extent}
use Rattle.rtl_prep.specs.declared.conditions.Span.{Span}
use Rattle.rtl_prep.specs.Conditions.{FileConditions}
use Rattle.check_conditions.specs.Foreign.{elsewhere_in, foreign_in}
use Rattle.check_conditions.specs.ToolNames.{is_tool_name}
use Rattle.check_conditions.specs.ToolNotes.{hangs_on, tool_notes}

-- ---- names

of_a_tool : is_tool_name (codes "YOSYS") ≡ true
of_a_tool = refl

of_coverage : is_tool_name (codes "SV_COV_START") ≡ true
of_coverage = refl

of_its_own : is_tool_name (codes "DEBUG") ≡ false
of_its_own = refl

-- ---- files

abbrev ask_for : ℕ → List ℕ → Ask
ask_for at name = record { at = at; name = name; chain = 0 }

-- a chain from 0 to 40, and a module from 50 to 90
abbrev chain_of : Bool → Span
chain_of defines = record { from = 0; to = 40; defines = defines }

abbrev asking : List ℕ → List (List ℕ) → FileConditions
asking name macros =
    record { asks = ask_for 0 name ∷ []; chains = chain_of true ∷ []; modules = record { from = 50; to = 90 } ∷ []; macros = macros }

abbrev fast : FileConditions
fast =
    record { asks = []; chains = []; modules = []; macros = codes "FAST" ∷ [] }

of_another_file : elsewhere_in (asking (codes "FAST") [] ∷ fast ∷ []) 0 ≡ true ∷ []
of_another_file = refl

-- a guard's name is a macro of its own file alone, or of two files
a_guard : elsewhere_in (asking (codes "G") (codes "G" ∷ []) ∷ fast ∷ []) 0 ≡ false ∷ []
a_guard = refl

a_guard_twice : elsewhere_in (asking (codes "G") (codes "G" ∷ []) ∷ asking (codes "G") (codes "G" ∷ []) ∷ []) 1 ≡ true ∷ []
a_guard_twice = refl

-- ---- modules

abbrev from_to : ℕ → ℕ → Extent
from_to from to = record { from = from; to = to }

behind_what_defines : hangs_on (Some (from_to 50 90)) (Some (chain_of true)) ≡ true
behind_what_defines = refl

behind_what_defines_nothing : hangs_on (Some (from_to 50 90)) (Some (chain_of false)) ≡ false
behind_what_defines_nothing = refl

around : hangs_on (Some (from_to 0 90)) (Some (record { from = 10; to = 40; defines = false })) ≡ true
around = refl

before : hangs_on (Some (from_to 50 90)) (Some (record { from = 95; to = 120; defines = true })) ≡ false
before = refl

-- ---- notes

abbrev top : Instance
top =
    record { path = codes "top"; depth = 1; spot = record { file = 0; at = 57 }; file = 0; «module» = 0 }

a_note : tool_notes (map (foreign_in (asking (codes "YOSYS") [] ∷ [])) (0 ∷ [])) (top ∷ []) ≡ record { reading = ToolMacro; signal = None; instance = 0; spot = record { file = 0; at = 0 } } ∷ []
a_note = refl

no_note : tool_notes (map (foreign_in (asking (codes "G") (codes "G" ∷ []) ∷ [])) (0 ∷ [])) (top ∷ []) ≡ []
no_note = refl
