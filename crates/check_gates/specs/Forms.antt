-- It serves inner contracts and proofs; no answer of the program is stated by it.
-- Gated latches but for where their gates come from.
use Rattle.std.specs.Prelude.{ℕ, ◌≡◌, ◌↔◌, Bool, true, List, Option, Some, None, if◌then◌else◌, map, ◌==◌, length}
use Rattle.std.specs.List.{slice_get}
use Rattle.std.specs.Option.{IsSomeAnd, option_map}
use Rattle.rtl_bits.specs.declared.Bit.{Bit}
use Rattle.rtl_bits.specs.declared.Bit.TheVariants.{Zero}
use Rattle.text_ground.specs.declared.text.Spot.{Spot}
use Rattle.rtl_flat.specs.Expression.{Tree, Sized, Literal, tree}
use Rattle.rtl_flat.specs.Flats.{Flat, widths}
use Rattle.rtl_flat.specs.Flows.{body_flow, flow_of, item_reads}
use Rattle.rtl_flat.specs.Paths.{BitSet, is_sure_now, may_read, may_write, reads_outside}
use Rattle.rtl_flat.specs.Process.{Watched, If, Actions, Done, Then, Without, Doing, Comb, action, body_of}
use Rattle.rtl_rule.specs.Parts.{items_of}
use Rattle.net_model.specs.Cycle.{opened}
use Rattle.net_model.specs.Gates.{gate_compared, gate_test}
use Rattle.net_model.specs.Solution.{IsLasting}
use Rattle.check_chains.specs.rtl_scan.Sets.{has_rows}
use Rattle.check_chains.specs.rtl_scan.declared.bits.Row.{Row}
use Rattle.check_gates.specs.declared.form.Form.{Form}
use Rattle.check_gates.specs.declared.lone.Lone.{Lone}

-- ---- bits of rows

abbrev pub AreWithin : List Row → BitSet → Type 0
AreWithin rows bits = (s k : ℕ) → has_rows rows s k ≡ true → bits s k ≡ true

abbrev pub AreApart : List Row → BitSet → Type 0
AreApart rows bits = (s k : ℕ) → has_rows rows s k ≡ true → bits s k ≡ true → ⊥

abbrev pub LeaveOut : List Row → ℕ → Type 0
LeaveOut rows s = (k : ℕ) → has_rows rows s k ≡ true → ⊥

-- some bit is of a signal that isn't marked
abbrev pub HaveOther : List Row → List Bool → Type 0
HaveOther rows marks =
    (s k : ℕ) × (has_rows rows s k ≡ true) × (slice_get marks s ≡ Some true → ⊥)

-- rows and the rows of a list have no bit of a set, and these and another set none of a signal
pub record AreClear (outside listed : List Row) (written read : BitSet) (signal : ℕ) : Type 0 where
  pub apart : AreApart outside written
  pub list_apart : AreApart listed written
  pub list_once : LeaveOut listed signal
  pub once : (k : ℕ) → read signal k ≡ true → ⊥

-- ---- tests

-- a test of a signal at a value
abbrev pub test_at : Bit → Option ℕ → Option (ℕ × Bit)
test_at opens None = None
test_at opens (Some signal) = Some (signal, opens)

-- by `~`, of a signal of one bit
abbrev pub complement_test : ℕ → Option ℕ → Option (ℕ × Bit)
complement_test width signal = if width == 1 then test_at Zero signal else None

-- by `==`
abbrev pub literal_test : ℕ → Tree → Option (ℕ × Bit)
literal_test signal (Sized w s at (Literal bits)) = gate_compared signal bits
literal_test signal _ = None

abbrev pub compared_with : Option ℕ → Tree → Option (ℕ × Bit)
compared_with None other = None
compared_with (Some signal) other = literal_test signal other

-- ---- bodies

abbrev pub IsLone : Actions → Lone → Type 0
IsLone body lone =
    (spot : Spot) × (body ≡ Then (If (tree lone.test.now) (body_of (map action lone.taken.now)) Without spot) Done)

-- a body is no `if` without `else`
abbrev pub IsNotLone : Actions → Type 0
IsNotLone body =
    (test : Tree) (branch : Actions) (spot : Spot) → body ≡ Then (If test branch Without spot) Done → ⊥

-- ---- processes

-- what a process may write, with a branch that tests a signal
pub record WritesWell (d : Flat) (does : Doing) (branch : Actions) : Type 0 where
  pub writes :
      (i k : ℕ) → may_write (flow_of (widths d) does) i k ≡ true → is_sure_now (body_flow (widths d) branch) i k ≡ true
  pub holds : (i k : ℕ) × (may_write (flow_of (widths d) does) i k ≡ true) × IsLasting d i

-- what it reads: in its list, in its branch, and before it has written it
pub record ReadsWell (d : Flat) (does : Doing) (branch : Actions) (signal : ℕ) : Type 0 where
  pub apart :
      (i k : ℕ) → reads_outside (flow_of (widths d) does) i k ≡ true → may_write (flow_of (widths d) does) i k ≡ true → ⊥
  pub list_apart :
      (i k : ℕ) → item_reads (widths d) (items_of does) i k ≡ true → may_write (flow_of (widths d) does) i k ≡ true → ⊥
  pub once : (k : ℕ) → may_read (body_flow (widths d) branch) signal k ≡ true → ⊥
  pub list_once : (k : ℕ) → item_reads (widths d) (items_of does) signal k ≡ true → ⊥

pub record IsFit (d : Flat) (does : Doing) (branch : Actions) (signal : ℕ) : Type 0 where
  pub one_bit : widths d signal ≡ 1
  pub writes : WritesWell d does branch
  pub reads : ReadsWell d does branch signal

-- a body is that of a latch that is open while a signal has a value
pub record HasBody (d : Flat) (does : Doing) (body : Actions) (signal : ℕ) (opens : Bit) : Type 0 where
  pub test : Tree
  pub branch : Actions
  pub spot : Spot
  pub whole : opened body ≡ Then (If test branch Without spot) Done
  pub tests : gate_test test ≡ Some (signal, opens)
  pub fit : IsFit d does branch signal

-- a process is such a latch
pub record HasForm (d : Flat) (does : Doing) (signal : ℕ) (opens : Bit) : Type 0 where
  pub list : Option (List Watched)
  pub body : Actions
  pub is : does ≡ Comb list body
  pub has : HasBody d does body signal opens

abbrev pub form_view : Form → ℕ × Bit
form_view form = (form.signal.0, form.opens_at)

-- the form that a process has, if there is one
abbrev pub IsBodyForm : Flat → Doing → Actions → Option Form → Type 0
IsBodyForm d does body form =
    (signal : ℕ) (opens : Bit) → option_map form_view form ≡ Some (signal, opens) ↔ HasBody d does body signal opens

abbrev pub IsFormOf : Flat → Doing → Option Form → Type 0
IsFormOf d does form =
    (signal : ℕ) (opens : Bit) → option_map form_view form ≡ Some (signal, opens) ↔ HasForm d does signal opens

-- the forms of the processes below a number
pub record AreForms (d : Flat) (n : ℕ) (forms : List (Option Form)) : Type 0 where
  pub size : length forms ≡ n
  pub each :
      (p : ℕ) (form : Option Form) → slice_get forms p ≡ Some form → IsSomeAnd (slice_get d.tasks p) (λ task. IsFormOf d task.does form)
