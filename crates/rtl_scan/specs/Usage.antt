-- It serves inner contracts and proofs; no answer of the program is stated by it.
-- What one pass over the processes finds of each signal.
use Rattle.std.specs.Prelude.{ℕ, ◌≡◌, ◌<◌, Bool, true, false, not, cond, ◌&&◌, ◌||◌, ◌==◌, ◌⊎◌, ◌↔◌, List, [], ◌∷◌, length, Some, slice_index_or}
use Rattle.std.specs.List.{slice_get}
use Rattle.std.specs.Option.{IsSomeAnd}
use Rattle.std.specs.BTreeMap.{BTreeMap}
use Rattle.rtl_flat.specs.declared.signal.Kind.{Kind}
use Rattle.rtl_flat.specs.declared.signal.Kind.TheVariants.{TopInput, Net, Var}
use Rattle.rtl_flat.specs.declared.signal.Signal.{Signal}
use Rattle.rtl_flat.specs.Signs.{width_in}
use Rattle.rtl_flat.specs.Process.{Task}
use Rattle.rtl_flat.specs.Paths.{MayWriteLate, ReadsOutside}
use Rattle.rtl_flat.specs.Flows.{flow_of}
use Rattle.rtl_flat.specs.PathSets.{Writes, Uses}
use Rattle.rtl_scan.specs.declared.bits.Row.{Row}
use Rattle.rtl_scan.specs.declared.scan.Sets.{Sets}
use Rattle.rtl_scan.specs.declared.usages.Usage.{Usage}
use Rattle.rtl_scan.specs.declared.usages.Usage.TheVariants.{Unused, Only, Shared}
use Rattle.rtl_scan.specs.Sets.{mask_of}

-- some bit of a signal
abbrev pub has_some : BTreeMap ℕ ℕ → ℕ → Bool
has_some masks s = not (mask_of masks s == 0)

-- a row of a signal
abbrev pub has_row_of : List Row → ℕ → Bool
has_row_of [] s = false
has_row_of (row ∷ rows) s = (s == row.signal.0) || has_row_of rows s

-- a process writes a signal by a nonblocking assignment, or reads a bit of it that it hasn't written
pub record Keeps (ws : ℕ → ℕ) (task : Task) (s : ℕ) : Type 0 where
  pub bit : ℕ
  pub kept : MayWriteLate (flow_of ws task.does) s bit ⊎ ReadsOutside (flow_of ws task.does) s bit

-- ---- one process more

abbrev pub used_by : ℕ → Bool → Bool → Usage → Usage
used_by p writes keeps Unused = Only p writes keeps
used_by p writes keeps (Only user w k) = cond (user == p) (Only user w k) Shared
used_by p writes keeps Shared = Shared

abbrev pub usage_at : List Usage → ℕ → Usage
usage_at usages s = slice_index_or usages s Unused

-- from what a scan of the process found
abbrev pub noted : ℕ → Sets → ℕ → Usage → Usage
noted p found s usage =
    used_by p (has_some found.writes.masks s) (has_some found.late.masks s || has_some found.reads.masks s) usage

-- a process that was scanned is noted at some signals
pub record AreNoted (which : ℕ → Bool) (p : ℕ) (found : Sets) (old new : List Usage) : Type 0 where
  pub same_length : length new ≡ length old
  pub each : (s : ℕ) → s < length old → usage_at new s ≡ cond (which s) (noted p found s (usage_at old s)) (usage_at old s)

-- a process is noted at a signal if it uses it
pub record IsNoted (ws : ℕ → ℕ) (task : Task) (p s : ℕ) (old new : Usage) : Type 0 where
  pub used : Bool
  pub writes : Bool
  pub keeps : Bool
  pub is : new ≡ cond used (used_by p writes keeps old) old
  pub if_used : used ≡ true ↔ Uses ws task s
  pub if_writes : writes ≡ true ↔ Writes ws task s
  pub if_keeps : keeps ≡ true ↔ Keeps ws task s

-- a process is noted at all signals that it uses
pub record IsNotedIn (ws : ℕ → ℕ) (task : Task) (p : ℕ) (old new : List Usage) : Type 0 where
  pub same_length : length new ≡ length old
  pub each : (s : ℕ) → s < length old → IsNoted ws task p s (usage_at old s) (usage_at new s)

-- ---- the processes below a number

abbrev pub Of : (Task → Type 0) → List Task → ℕ → Type 0
Of P tasks p = IsSomeAnd (slice_get tasks p) P

abbrev pub UsedIn : List Signal → List Task → ℕ → ℕ → Type 0
UsedIn signals tasks s p = Of (λ task. Uses (width_in signals) task s) tasks p

abbrev pub IsUsage : List Signal → List Task → ℕ → ℕ → Usage → Type 0
IsUsage signals tasks n s Unused = (q : ℕ) → q < n → UsedIn signals tasks s q → ⊥
IsUsage signals tasks n s (Only p writes keeps) =
    (p < n) × UsedIn signals tasks s p × ((q : ℕ) → q < n → (q ≡ p → ⊥) → UsedIn signals tasks s q → ⊥) × (writes ≡ true ↔ Of (λ task. Writes (width_in signals) task s) tasks p) × (keeps ≡ true ↔ Of (λ task. Keeps (width_in signals) task s) tasks p)
IsUsage signals tasks n s Shared =
    (p q : ℕ) × (p < q) × (q < n) × UsedIn signals tasks s p × UsedIn signals tasks s q

-- of each signal
pub record AreUsages (signals : List Signal) (tasks : List Task) (n : ℕ) (usages : List Usage) : Type 0 where
  pub same_length : length usages ≡ length signals
  pub each : (s : ℕ) → s < length signals → IsUsage signals tasks n s (usage_at usages s)

-- ---- answers

abbrev pub is_var : Kind → Bool
is_var TopInput = false
is_var Net = false
is_var Var = true

abbrev pub is_inner : Signal → Bool
is_inner signal = is_var signal.kind && not signal.top_output

abbrev pub is_alone : Usage → Bool
is_alone Unused = false
is_alone (Only p writes keeps) = writes && not keeps
is_alone Shared = false

pub record AreAnswers (signals : List Signal) (usages : List Usage) (n : ℕ) (answers : List Bool) : Type 0 where
  pub same_length : length answers ≡ n
  pub each : (s : ℕ) (signal : Signal) → s < n → slice_get signals s ≡ Some signal → slice_index_or answers s false ≡ (is_inner signal && is_alone (usage_at usages s))
