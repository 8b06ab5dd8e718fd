-- It serves inner contracts and proofs; no answer of the program is stated by it.
-- What trials of a design keep of it, and the signals that differ after a step.
use Rattle.std.specs.Prelude.{◌≡◌, ◌↔◌, ◌<◌, ◌≤◌, ◌⊎◌, ◌==◌, ℕ, zero, suc, Bool, true, false, not, ◌&&◌, ◌||◌, if◌then◌else◌, List, [], ◌∷◌, ◌++◌, length, map, Option, Some, None, Vec, slice_index_or}
use Rattle.std.specs.List.{slice_get}
use Rattle.std.specs.declared.alloc.Global.{Global}
use Rattle.rtl_flat.specs.declared.design.Design.{Design}
use Rattle.rtl_flat.specs.declared.expr.SigId.{SigId}
use Rattle.rtl_flat.specs.declared.signal.Signal.{Signal}
use Rattle.rtl_flat.specs.PathSets.{IsTemporary}
use Rattle.rtl_flat.specs.Levels.{IsLevel}
use Rattle.rtl_flat.specs.Process.{Task, task}
use Rattle.rtl_flat.specs.Flats.{flat, Flat, widths}
use Rattle.net_model.specs.declared.fill.Fill.{Fill}
use Rattle.net_model.specs.declared.fill.Fill.TheVariants as fill
use Rattle.netlist_eval.specs.net_list.declared.netlist.Netlist.{Netlist}
use Rattle.netlist_eval.specs.net_list.Faults.{AreAlone, AreFormed}
use Rattle.netlist_eval.specs.net_start.Stored.{places}
use Rattle.netlist_eval.specs.Basis.{IsBasisOf}
use Rattle.rtl_rule.specs.declared.finding.Finding.{Finding}
use Rattle.rtl_rule.specs.Parts.{has_some, is_clocked, written}
use Rattle.demo_replay.specs.declared.compare.Difference.{Difference}
use Rattle.demo_told.specs.declared.demo.Demo.{Demo}
use Rattle.demo_told.specs.declared.demo.Shown.{Shown as Values}
use Rattle.demo_replay.specs.declared.setup.Setup.{Setup as Kept}
use Rattle.demo_replay.specs.Compared.{is_trial_of, is_unwoken}
use Rattle.demo_replay.specs.Firsts.{Place, Shows, Told, differs, told}
use Rattle.demo_replay.specs.Setups.{Setup}
use Rattle.demo_replay.specs.Runs.{IsCourse, Moment}

-- ---- designs

-- whether a signal is marked
abbrev pub is_marked : List Bool → ℕ → Bool
is_marked marks s = slice_index_or marks s false

-- a netlist of a design with a fill
pub record IsNetlistOf (design : Design) (fill : Fill) (netlist : Netlist) : Type 0 where
  pub design_is : netlist.design.now ≡ design
  pub fill_is : netlist.fill ≡ fill

-- marks are at the temporaries of a design
pub record MarkTemporaries (design : Design) (marks : List Bool) : Type 0 where
  pub count : length marks ≡ length design.signals.items
  pub each :
      (s : ℕ) →
      slice_get marks s ≡ Some true ↔ IsTemporary (flat design).signals (flat design).tasks s

-- what is kept is that of the design
pub record IsOf (design : Design) (kept : Kept) : Type 0 where
  pub design_is : kept.design.now ≡ design
  pub formed : AreFormed (flat design)
  pub alone : AreAlone (flat design)
  pub zero_is : IsNetlistOf design fill.Zero kept.zero
  pub one_is : IsNetlistOf design fill.One kept.one
  pub basis : IsBasisOf (flat design) kept.basis
  pub temporaries : MarkTemporaries design kept.temporaries.items
  pub level_count : length kept.levels.items ≡ length design.processes.items
  pub levels :
      (p : ℕ) → p < length design.processes.items →
      IsLevel design.signals.items (map task design.processes.items) p (slice_index_or kept.levels.items p None)

-- what a contract sees of it
abbrev pub plain : Kept → Setup
plain kept =
    record {
      stored = places kept.basis.holders.items;
      tops = places kept.basis.tops.items;
      is_control = is_marked kept.basis.controls.items;
    }

-- ---- signals that differ

-- the numbers below a limit of which a test holds, in order
abbrev pub passing : ℕ → (ℕ → Bool) → List ℕ
passing zero test = []
passing (suc n) test = passing n test ++ (if test n then n ∷ [] else [])

-- a signal with both values
abbrev pub difference : Moment → ℕ → Difference
difference m s =
    record {
      signal = record { 0 = s };
      shown = record { simulated = m.simulated s; synthesised = m.synthesised s };
    }

-- those that differ, but for some that are marked
abbrev pub differences : ℕ → List Bool → Moment → List Difference
differences count skipped m =
    map (difference m) (passing count (λ s. not (is_marked skipped s) && differs m s))

-- those of each of some moments
abbrev pub AreDifferences : ℕ → List Bool → List Moment → List (Vec Difference Global) → Type 0
AreDifferences count skipped moments steps =
    map (λ (step : Vec Difference Global). step.items) steps
    ≡ map (differences count skipped) moments

-- the first that is compared
abbrev pub first_among : (ℕ → Bool) → List Difference → Option Difference
first_among compared [] = None
first_among compared (one ∷ others) =
    if compared one.signal.0 then Some one else first_among compared others

-- the place of one that differs after a step
abbrev pub place_of : ℕ → Difference → Place
place_of step one =
    record {
      step = step;
      signal = one.signal.0;
      simulated = one.shown.simulated;
      synthesised = one.shown.synthesised;
    }

-- ---- signals that are compared

-- a process below a number that waits for edges may write a signal
pub record WritesBelow (d : Flat) (n s : ℕ) : Type 0 where
  pub process : ℕ
  pub below : process < n
  pub task : Task
  pub there : slice_get d.tasks process ≡ Some task
  pub waits : is_clocked task.does ≡ true
  pub writes : has_some (widths d) (written d task.does) s ≡ true

-- marks get what a process may write
pub record MarksWritten (d : Flat) (p : ℕ) (old new : List Bool) : Type 0 where
  pub count : length new ≡ length old
  pub each :
      (task : Task) → slice_get d.tasks p ≡ Some task → (s : ℕ) →
      is_marked new s ≡ true
      ↔ ((is_marked old s ≡ true) ⊎ (has_some (widths d) (written d task.does) s ≡ true))

-- marks are at what processes below a number that wait for edges may write
pub record AreClockedBelow (d : Flat) (n : ℕ) (marks : List Bool) : Type 0 where
  pub count : length marks ≡ length d.signals
  pub each : (s : ℕ) → is_marked marks s ≡ true ↔ WritesBelow d n s

-- marks are at what processes that wait for edges may write
abbrev pub AreClocked : Flat → List Bool → Type 0
AreClocked d marks = AreClockedBelow d (length d.tasks) marks

-- whether a signal is that of a finding
abbrev pub is_own : Option SigId → ℕ → Bool
is_own None s = false
is_own (Some own) s = own.0 == s

-- whether a signal is looked at for a finding, where marks are at those that processes with edges
-- may write
abbrev pub is_watched : List Bool → Finding → ℕ → Signal → Bool
is_watched clocked finding s signal =
    if is_unwoken finding.rule then is_own finding.signal s
    else (signal.top_output || is_marked clocked s) || is_own finding.signal s

-- whether it is compared: it is no temporary, too
abbrev pub compared_at : Kept → List Bool → Finding → ℕ → Option Signal → Bool
compared_at kept clocked finding s None = false
compared_at kept clocked finding s (Some signal) =
    not (is_marked kept.temporaries.items s) && is_watched clocked finding s signal

abbrev pub compared : Kept → List Bool → Finding → ℕ → Bool
compared kept clocked finding s =
    compared_at kept clocked finding s (slice_get kept.design.now.signals.items s)

-- whether a signal is compared for some finding
abbrev pub is_compared_for_some : Kept → List Bool → List Finding → ℕ → Bool
is_compared_for_some kept clocked [] s = false
is_compared_for_some kept clocked (finding ∷ findings) s =
    compared kept clocked finding s || is_compared_for_some kept clocked findings s

-- of each signal below a limit whether it is compared for none
abbrev pub skips : Kept → List Bool → List Finding → ℕ → List Bool
skips kept clocked findings zero = []
skips kept clocked findings (suc n) =
    skips kept clocked findings n ++ (not (is_compared_for_some kept clocked findings n) ∷ [])

-- no signal that is compared for some finding is marked
abbrev pub AreSkipped : Kept → List Bool → List Finding → List Bool → Type 0
AreSkipped kept clocked findings skipped =
    (k : ℕ) (finding : Finding) → slice_get findings k ≡ Some finding →
    (s : ℕ) → compared kept clocked finding s ≡ true → is_marked skipped s ≡ false

-- ---- what a trial shows

-- the signals that differ after each step of a trial, but for those that are marked
pub record IsCourseOf (design : Design) (kept : Kept) (skipped : List Bool) (trial : ℕ) (steps : List (Vec Difference Global)) : Type 0 where
  pub moments : List Moment
  pub course : IsCourse (flat design) (plain kept) trial moments
  pub are : AreDifferences (length design.signals.items) skipped moments steps
  pub few : length steps ≤ 16

-- the first place among them, in steps that are numbered from one on
abbrev pub place_or : ℕ → Option Difference → Option Place → Option Place
place_or step None otherwise = otherwise
place_or step (Some one) otherwise = Some (place_of step one)

abbrev pub first_in : (ℕ → Bool) → ℕ → List (Vec Difference Global) → Option Place
first_in test step [] = None
first_in test step (differences ∷ others) =
    place_or step (first_among test differences.items) (first_in test (suc step) others)

-- a place in a trial
abbrev pub told_of : ℕ → Option Place → Option Told
told_of trial None = None
told_of trial (Some place) = Some (record { trial = trial; place = place })

-- ---- what is shown for findings

-- what trials below a number show for a finding
abbrev pub IsShownBelow : Design → Setup → Finding → (ℕ → Bool) → ℕ → Option Told → Type 0
IsShownBelow design g finding test n None =
    (lower : ℕ) → lower < n → is_trial_of finding.rule lower ≡ true →
    Shows (flat design) g test lower None
IsShownBelow design g finding test n (Some one) =
    (one.trial < n)
    × (is_trial_of finding.rule one.trial ≡ true)
    × Shows (flat design) g test one.trial (Some one.place)
    × ((lower : ℕ) → lower < one.trial → is_trial_of finding.rule lower ≡ true →
    Shows (flat design) g test lower None)

-- what they show for each of some findings
pub record AreShownBelow (design : Design) (kept : Kept) (clocked : List Bool) (findings : List Finding) (n : ℕ) (found : List (Option (Demo × Values))) : Type 0 where
  pub count : length found ≡ length findings
  pub each :
      (k : ℕ) (finding : Finding) (one : Option (Demo × Values)) →
      slice_get findings k ≡ Some finding → slice_get found k ≡ Some one →
      IsShownBelow design (plain kept) finding (compared kept clocked finding) n (told one)

-- nothing is wanted of a trial: what it is run for is shown
abbrev pub IsUnwanted : ℕ → List Finding → List (Option (Demo × Values)) → Type 0
IsUnwanted trial findings found =
    (k : ℕ) (finding : Finding) →
    slice_get findings k ≡ Some finding → slice_get found k ≡ Some None →
    is_trial_of finding.rule trial ≡ false
