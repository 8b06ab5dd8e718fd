-- Where a comparison of a dump with synthesised hardware ends is the same, however it is reached.
use Rattle.std.proofs.Common.{◌≡◌, ◌∙◌, ◌⊎◌, ◌<◌, ℕ, List, [], ◌∷◌, ◌++◌, length, None, Some, refl, sym, ap, inl, inr}
use Rattle.std.proofs.lemmas.Bool.{cases_order}
use Rattle.std.proofs.lemmas.Option.{none-some}
use Rattle.rtl_bits.specs.declared.Bit.{Bit}
use Rattle.rtl_flat.specs.Flats.{Flat}
use Rattle.event_model.specs.Writes.{Values}
use Rattle.net_model.specs.Solution.{IsLasting}
use Rattle.vcd_check.specs.vcd_signals.Signals.{Sight}
use Rattle.vcd_check.specs.Departure.{IsDeparture, IsWatched, Reaches, Watched, from_start, steps_to}
use Rattle.vcd_check.specs.Verdicts.{HasNetlist, IsAgreed, IsDeparted, IsUnlawful}
use Rattle.demo_laws.specs.Laws.{AreProcesses}
use Rattle.vcd_laws.proofs.Reached.{IsPassed, no_departure, passed, reach_once, steps_same}
use Rattle.vcd_laws.proofs.Splits.{same_split}

-- why a comparison goes no further: there is no time behind, something departs, or the changes up to the next can't be read
pub data Ends (d : Flat) (watched : Watched) (sight : Sight) (numbers : Values) : List Sight → Type 0 where
  Last : Ends d watched sight numbers []
  Departing : (signal : ℕ) (bits : List Bit) (behind : List Sight) → IsDeparture d sight numbers signal bits → Ends d watched sight numbers behind
  Stuck : (next : Sight) (rest : List Sight) → steps_to watched numbers next ≡ None → Ends d watched sight numbers (next ∷ rest)

-- a time at which it ends
pub record Stop (d : Flat) (watched : Watched) (times : List Sight) : Type 0 where
  pub before : List Sight
  pub sight : Sight
  pub behind : List Sight
  pub numbers : Values
  pub all : from_start watched times ≡ before ++ sight ∷ behind
  pub reaches : Reaches d watched before sight numbers
  pub ends : Ends d watched sight numbers behind

-- two such times are one, with the same numbers
pub record AreOne (d : Flat) (watched : Watched) (times : List Sight) (one other : Stop d watched times) : Type 0 where
  pub before : one.before ≡ other.before
  pub sight : one.sight ≡ other.sight
  pub behind : one.behind ≡ other.behind
  pub numbers : (i : ℕ) → IsLasting d i → one.numbers i ≡ other.numbers i

module _ (design : Flat) (lawful : AreProcesses design) (netlist : HasNetlist design) (watched : Watched) (is_watched : IsWatched design watched) (times : List Sight) where
  abbrev StopOf : Type 0
  StopOf = Stop design watched times

  -- what was passed is no such time
  no_end :
      (before : List Sight) (sight : Sight) (numbers : Values) (behind : List Sight) → Reaches design watched before sight numbers → Ends design watched sight numbers behind →
      IsPassed design lawful netlist watched is_watched before sight behind → ⊥
  no_end before sight numbers behind reaches ends it =
      by behind ends it.next it.rest it.behind_is it.reads
    where
      same : (i : ℕ) → IsLasting design i → it.numbers i ≡ numbers i
      same = reach_once design lawful netlist watched is_watched before before sight sight it.numbers numbers it.reaches reaches refl refl

      by :
          (behind : List Sight) → Ends design watched sight numbers behind → (next : Sight) (rest : List Sight) → behind ≡ next ∷ rest →
          steps_to watched it.numbers next ≡ Some it.steps → ⊥
      by [] (Last) next rest e reads = cc
      by behind (Departing signal bits behind' departure) next rest e reads =
          no_departure design lawful netlist watched is_watched sight it.numbers numbers same signal bits it.agrees departure
      by (next' ∷ rest') (Stuck next'' rest'' none) next rest e reads =
          let next_is : next' ≡ next = cc in
          none-some it.steps (sym none ∙ sym (steps_same design lawful netlist watched is_watched it.numbers numbers next' same) ∙ ap (steps_to watched it.numbers) next_is ∙ reads)

  not_passed : (one other : StopOf) → length other.before < length one.before → ⊥
  not_passed one other less =
      no_end other.before other.sight other.numbers other.behind other.reaches other.ends
      (passed design lawful netlist watched is_watched one.before other.before one.sight other.sight one.behind other.behind one.numbers one.reaches (sym one.all ∙ other.all) less)

  pub one_stop : (one other : StopOf) → AreOne design watched times one other
  one_stop one other =
      by (cases_order (length one.before) (length other.before))
    where
      by : (length one.before ≡ length other.before) ⊎ ((length one.before < length other.before) ⊎ (length other.before < length one.before)) → AreOne design watched times one other
      by (inr (inl less)) = absurd (not_passed other one less)
      by (inr (inr more)) = absurd (not_passed one other more)
      by (inl long) =
          let split = same_split one.before other.before one.sight other.sight one.behind other.behind (sym one.all ∙ other.all) long in
          record {
            before = split.0;
            sight = split.1;
            behind = split.2;
            numbers = reach_once design lawful netlist watched is_watched one.before other.before one.sight other.sight one.numbers other.numbers one.reaches other.reaches split.0 split.1;
          }

-- ---- what is told is told at a stop

abbrev pub agreed_stop : (d : Flat) (watched : Watched) (times : List Sight) (frames : ℕ) → IsAgreed d watched times frames → Stop d watched times
agreed_stop d watched times frames is =
    record { before = is.before; sight = is.last; behind = []; numbers = is.numbers; all = is.all; reaches = is.reaches; ends = Last }

abbrev pub departed_stop : (d : Flat) (watched : Watched) (times : List Sight) (time signal : ℕ) (bits number : List Bit) → IsDeparted d watched times time signal bits number → Stop d watched times
departed_stop d watched times time signal bits number is =
    record { before = is.before; sight = is.sight; behind = is.behind; numbers = is.numbers; all = is.all; reaches = is.reaches; ends = Departing signal bits is.behind is.departure }

abbrev pub unlawful_stop : (d : Flat) (watched : Watched) (times : List Sight) (time : ℕ) → IsUnlawful d watched times time → Stop d watched times
unlawful_stop d watched times time is =
    record { before = is.before; sight = is.sight; behind = is.next ∷ is.behind; numbers = is.numbers; all = is.all; reaches = is.reaches; ends = Stuck is.next is.behind is.none }
