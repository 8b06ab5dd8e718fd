-- It serves inner contracts and proofs; no answer of the program is stated by it.
-- How deep what was read is nested, beside the steps of the survey.
use Rattle.std.specs.Prelude.{◌≡◌, ℕ, zero, suc, ◌-◌, min, List, [], ◌∷◌, ◌++◌, drop, reverse, Option, Some, None}
use Rattle.rtl_tree.specs.Symbols.{Terminal}
use Rattle.text_grammar.specs.Deeper.{here}
use Rattle.std.specs.Prelude.{Vec, map}
use Rattle.std.specs.declared.alloc.Global.{Global}
use Rattle.text_survey.specs.declared.depths.Depths as code
use Rattle.text_survey.specs.declared.task.Task.{Task}
use Rattle.text_survey.specs.declared.task.Task.TheVariants as task
use Rattle.text_survey.specs.declared.task.Taking.{Taking}
use Rattle.text_survey.specs.declared.task.Taking.TheVariants as taking
use Rattle.text_survey.specs.Table.{Step}
use Rattle.text_survey.specs.Rule.{rule}
use Rattle.text_survey.specs.Machine.{symbol_at, left}

-- what was read, without its tokens
pub data Nest : Type 0 where
  Nothing : Nest
  Both : Nest → Nest → Nest
  -- a node at a place, with what stands in it
  Within : ℕ → Nest → Nest

-- the places of what is deeper than `k`
abbrev pub nest_deeper : ℕ → Nest → List ℕ
nest_deeper k Nothing = []
nest_deeper k (Both a b) = nest_deeper k a ++ nest_deeper k b
nest_deeper k (Within at inner) = here k at ++ nest_deeper (k - 1) inner

-- the places of nodes that have begun, the latest first; what was read last, and what was read before and waits
pub record Depths : Type 0 where
  pub places : List ℕ
  pub top : Nest
  pub under : List Nest

abbrev pub depths : List ℕ → Nest → List Nest → Depths
depths places top under = record { places = places; top = top; under = under }

-- nothing was read yet
abbrev pub none_read : Depths
none_read = depths [] Nothing []

-- a node begins at a place
abbrev pub begun : Taking → ℕ → Depths → Depths
begun taking.Nothing at d = d
begun taking.Token at d = d
begun taking.Node at d = depths (at ∷ d.places) Nothing (d.top ∷ d.under)
begun taking.Ahead at d = depths (at ∷ d.places) Nothing (d.top ∷ d.under)
begun taking.Operator at d = depths (at ∷ d.places) d.top d.under

-- what was read last stands in the latest node
abbrev pub wrapped : List ℕ → Nest → List Nest → Depths
wrapped [] top under = depths [] top under
wrapped (at ∷ places) top under = depths places (Within at top) under

-- what was read last stands beside what was read before
abbrev pub joined : List ℕ → Nest → List Nest → Depths
joined places top [] = depths places top []
joined places top (before ∷ under) = depths places (Both before top) under

abbrev pub behind_place : List ℕ → List ℕ
behind_place [] = []
behind_place (at ∷ places) = places

-- what was read last isn't kept
abbrev pub forgotten : List ℕ → Nest → List Nest → Depths
forgotten places top [] = depths places top []
forgotten places top (before ∷ under) = depths places before under

abbrev pub counted : Task → Depths → Depths
counted task.Wrap d = wrapped d.places d.top d.under
counted task.Join d = joined d.places d.top d.under
counted task.Forget d = forgotten (behind_place d.places) d.top d.under
counted other d = d

-- what becomes of what was read in a step
abbrev pub read_by : Task → Option Step → ℕ → Depths → Depths
read_by task None at d = d
read_by task (Some step) at d = counted task (begun step.taking at d)

-- the place of the next token
abbrev pub place : List Terminal → ℕ
place [] = 0
place (t ∷ ts) = t.at

-- what is still to be done, the tokens that are left, and what was read
pub record Reading : Type 0 where
  pub tasks : List Task
  pub rest : List Terminal
  pub read : Depths

abbrev pub reading : List Task → List Terminal → Depths → Reading
reading tasks rest read = record { tasks = tasks; rest = rest; read = read }

abbrev pub advanced : Option Step → Task → List Task → List Terminal → Depths → Option Reading
advanced None task tasks ts d = None
advanced (Some step) task tasks ts d =
    Some (reading (step.tasks ++ tasks) (left step.taking ts) (counted task (begun step.taking (place ts) d)))

-- one task is done
unfoldable pub advance : List Task → List Terminal → Depths → Option Reading
advance [] ts d = None
advance (task ∷ tasks) ts d = advanced (rule task (symbol_at ts)) task tasks ts d

abbrev pub carry_on : (Reading → Option Reading) → Option Reading → Option Reading
carry_on f None = None
carry_on f (Some s) = f s

abbrev pub reading_after : ℕ → Reading → Option Reading
reading_after zero s = Some s
reading_after (suc n) s = carry_on (reading_after n) (advance s.tasks s.rest s.read)

-- some tasks are done
abbrev pub ReadsOn : Reading → Reading → Type 0
ReadsOn s t = (n : ℕ) × reading_after n s ≡ Some t

-- ---- what is kept of a nest

abbrev pub lesser : ℕ → Option ℕ → Option ℕ
lesser x None = Some x
lesser x (Some y) = Some (min x y)

-- the least of some places
abbrev pub least_of : List ℕ → Option ℕ
least_of [] = None
least_of (x ∷ xs) = lesser x (least_of xs)

-- level by level from the roots on, the lesser place of two
abbrev pub merged : List ℕ → List ℕ → List ℕ
merged [] bs = bs
merged (a ∷ others) [] = a ∷ others
merged (a ∷ others) (b ∷ bs) = min a b ∷ merged others bs

-- the least places of a nest, level by level; those of the roots come last
abbrev pub IsProfile : List ℕ → Nest → Type 0
IsProfile profile n = (k : ℕ) → least_of (drop k (reverse profile)) ≡ least_of (nest_deeper k n)

abbrev pub AreProfiles : List (List ℕ) → List Nest → Type 0
AreProfiles [] [] = Unit {0}
AreProfiles [] (n ∷ ns) = ⊥
AreProfiles (p ∷ ps) [] = ⊥
AreProfiles (p ∷ ps) (n ∷ ns) = IsProfile p n × AreProfiles ps ns

-- what the code keeps of the nodes that have begun and of what was read
abbrev pub Keeps : List ℕ → List (Vec ℕ Global) → Depths → Type 0
Keeps places profiles s =
    (reverse places ≡ s.places) × AreProfiles (map (λ (v : Vec ℕ Global). v.items) (reverse profiles)) (s.top ∷ s.under)

abbrev pub IsKept : code.Depths → Depths → Type 0
IsKept d s = Keeps d.places.items d.profiles.items s
