-- The numbers at a time are the same in each signal that lasts, and so is what is compared with them.
use Rattle.std.specs.Prelude.{IsTrue}
use Rattle.std.proofs.Common.{◌≡◌, ◌∙◌, ◌⊎◌, ◌<◌, ◌+◌, ℕ, Bool, true, false, List, [], ◌∷◌, ◌++◌, map, length, Option, None, Some, refl, sym, ap, subst, inl, inr, append_assoc, arith}
use Rattle.std.specs.List.{slice_get}
use Rattle.std.specs.Option.{IsSomeAnd}
use Rattle.std.proofs.Math.Path.{fun_ext}
use Rattle.std.proofs.lemmas.Bool.{cases_order, false≢true}
use Rattle.std.proofs.lemmas.List.{length-append}
use Rattle.std.proofs.lemmas.Option.{same_Some}
use Rattle.rtl_bits.specs.declared.Bit.{Bit}
use Rattle.rtl_flat.specs.declared.signal.Signal.{Signal}
use Rattle.rtl_flat.specs.Flats.{Flat}
use Rattle.event_model.specs.Queue.{is_input}
use Rattle.event_model.specs.Writes.{Values}
use Rattle.net_model.specs.declared.fill.Fill.TheVariants.{Zero as ZeroFill}
use Rattle.net_model.specs.Cycle.{Step}
use Rattle.net_model.specs.Solution.{IsLasting}
use Rattle.demo_clean.specs.net_rest.Rest.{AreAlike}
use Rattle.demo_clean.specs.net_settle.Settle.{IsSolved}
use Rattle.demo_clean.specs.net_start.Stored.{IsStored}
use Rattle.demo_clean.specs.rtl_scan.Arrows.{Among}
use Rattle.demo_clean.proofs.net_start_proofs.Listed.{all_same}
use Rattle.vcd_check.specs.vcd_signals.Signals.{Sight}
use Rattle.vcd_check.specs.Departure.{Agrees, AreCycles, AreFirst, Begun, Followed, HasNumber, IsCompared, IsDeparture, IsWatched, Reaches, Watched, change_of, changed, recorded, steps_of, steps_to, with_change}
use Rattle.vcd_check.specs.Verdicts.{HasNetlist}
use Rattle.demo_laws.proofs.Cycles.{alike_list, begun_once, cycle_once, input_lasts}
use Rattle.demo_laws.specs.Laws.{AreProcesses}
use Rattle.vcd_laws.proofs.Splits.{same_split}

-- ---- any design

bool_same : (a b : Bool) → (a ≡ true → b ≡ true) → (b ≡ true → a ≡ true) → a ≡ b
bool_same true b to back = sym (to refl)
bool_same false true to back = back refl
bool_same false false to back = refl

pub watched_once : (d : Flat) (one other : Watched) → IsWatched d one → IsWatched d other → one ≡ other
watched_once d one other is is' =
    ap (λ (xs : List ℕ). record one { stored = xs }) (all_same (IsStored d) one.stored other.stored is.are_stored is'.are_stored)
    ∙ ap (λ (xs : List ℕ). record one { stored = other.stored; tops = xs }) (all_same (λ s. IsTrue (is_input d s)) one.tops other.tops is.are_tops is'.are_tops)
    ∙ ap (λ (test : ℕ → Bool). record other { is_control = test }) (fun_ext (λ i. bool_same (one.is_control i) (other.is_control i) (λ h. (is'.are_controls i).1 ((is.are_controls i).0 h)) (λ h. (is.are_controls i).1 ((is'.are_controls i).0 h))))

-- what a top output shows lasts
compared_lasts : (d : Flat) (i : ℕ) → IsCompared d i → IsLasting d i
compared_lasts d i (inr stored) = stored.lasting
compared_lasts d i (inl output) =
    λ temporary. by (slice_get d.signals i) output temporary.of_process.inner
  where
    by : (o : Option Signal) → IsSomeAnd o (λ signal. signal.top_output ≡ true) → IsSomeAnd o (λ signal. signal.top_output ≡ false) → ⊥
    by None out inner = out
    by (Some signal) out inner = false≢true (sym inner ∙ out)

changed_same : (n m : Values) (sight : Sight) (tops : List ℕ) → ((i : ℕ) → Among tops i → n i ≡ m i) → changed n sight tops ≡ changed m sight tops
changed_same n m sight [] same = refl
changed_same n m sight (i ∷ tops) same =
    ap (λ (bits : List Bit). with_change (change_of bits i (sight.value i)) (changed n sight tops)) (same i (inl refl))
    ∙ ap (with_change (change_of (m i) i (sight.value i))) (changed_same n m sight tops (λ j among. same j (inr among)))

pushed : (xs : List Sight) (x : Sight) → length (xs ++ x ∷ []) ≡ length xs + 1
pushed xs x = length-append xs (x ∷ [])

-- ---- a design that has a netlist

module _ (design : Flat) (lawful : AreProcesses design) (netlist : HasNetlist design) (watched : Watched) (is_watched : IsWatched design watched) where
  abbrev d : Flat
  d = design

  abbrev ReachesOf : List Sight → Sight → Values → Type 0
  ReachesOf before sight n = Reaches design watched before sight n

  -- ---- numbers

  cycles_solved : (steps : List Step) (n m : Values) → IsSolved d ZeroFill n → AreCycles d steps n m → IsSolved d ZeroFill m
  cycles_solved [] n m solved same = subst (λ (u : Values). IsSolved d ZeroFill u) (sym same) solved
  cycles_solved (step ∷ steps) n m solved (next, cycle, cycles) = cycles_solved steps next m (n, cycle.rest) cycles

  solved : (before : List Sight) (sight : Sight) (n : Values) → ReachesOf before sight n → IsSolved d ZeroFill n
  solved before sight n (Begun sight' n' first) = (first.start, first.starts.solution)
  solved before sight n (Followed before' old next m n' steps reaches agrees reads cycles) =
      cycles_solved steps m n (solved before' old m reaches) cycles

  cycles_once :
      (steps : List Step) (n n' m m' : Values) → IsSolved d ZeroFill n → IsSolved d ZeroFill n' → AreAlike d n n' →
      AreCycles d steps n m → AreCycles d steps n' m' → AreAlike d m m'
  cycles_once [] n n' m m' is is' alike one other =
      subst (λ (u : Values). AreAlike d u m') (sym one) (subst (λ (u : Values). AreAlike d n u) (sym other) alike)
  cycles_once (step ∷ steps) n n' m m' is is' alike (next, cycle, cycles) (next', cycle', cycles') =
      cycles_once steps next next' m m' (n, cycle.rest) (n', cycle'.rest)
      (cycle_once design lawful netlist.formed netlist.no_cycle ZeroFill n n' is is' alike step next next' cycle cycle')
      cycles cycles'

  -- the numbers of a signal that lasts
  lists_same :
      (before before' : List Sight) (sight sight' : Sight) (n m : Values) → ReachesOf before sight n → ReachesOf before' sight' m → AreAlike d n m →
      (i : ℕ) → IsLasting d i → n i ≡ m i
  lists_same before before' sight sight' n m one other alike =
      alike_list d n m (solved before sight n one).1.numbers (solved before' sight' m other).1.numbers alike

  pub steps_same : (n m : Values) (sight : Sight) → ((i : ℕ) → IsLasting d i → n i ≡ m i) → steps_to watched n sight ≡ steps_to watched m sight
  steps_same n m sight same =
      ap (steps_of watched.is_control)
      (changed_same n m sight watched.tops (λ i among. same i (input_lasts d i ((is_watched.are_tops.each i).0 among))))

  reach_alike :
      (before before' : List Sight) (sight sight' : Sight) (n m : Values) → ReachesOf before sight n → ReachesOf before' sight' m →
      before ≡ before' → sight ≡ sight' → AreAlike d n m
  reach_alike before before' sight sight' n m (Begun s n' first) (Begun s' m' first') e same =
      begun_once design lawful netlist.formed netlist.no_cycle ZeroFill (map (recorded sight) watched.stored) (map (recorded sight) watched.tops) n m first
      (subst (λ (x : Sight). AreFirst d watched x m) (sym same) first')
  reach_alike before before' sight sight' n m (Begun s n' first) (Followed b old next v m' steps reaches agrees reads cycles) e same =
      let long = pushed b old in
      let none : 0 ≡ length (b ++ old ∷ []) = ap length e in
      absurd (omega (arith, none, long))
  reach_alike before before' sight sight' n m (Followed b old next u n' steps reaches agrees reads cycles) (Begun s' m' first) e same =
      let long = pushed b old in
      let none : length (b ++ old ∷ []) ≡ 0 = ap length e in
      absurd (omega (arith, none, long))
  reach_alike before before' sight sight' n m (Followed b old next u n' steps reaches agrees reads cycles) (Followed b' old' next' v m' steps' reaches' agrees' reads' cycles') e same =
      let long = pushed b old in
      let long' = pushed b' old' in
      let both = ap length e in
      let split = same_split b b' old old' [] [] e (omega (arith, long, long', both)) in
      let alike = reach_alike b b' old old' u v reaches reaches' split.0 split.1 in
      let read : steps_to watched u sight ≡ Some steps'
      = steps_same u v sight (lists_same b b' old old' u v reaches reaches' alike) ∙ ap (steps_to watched v) same ∙ reads' in
      let steps_are : steps ≡ steps' = same_Some steps steps' (sym reads ∙ read) in
      cycles_once steps u v n m (solved b old u reaches) (solved b' old' v reaches') alike cycles
      (subst (λ (all : List Step). AreCycles d all v m) (sym steps_are) cycles')

  pub reach_once :
      (before before' : List Sight) (sight sight' : Sight) (n m : Values) → ReachesOf before sight n → ReachesOf before' sight' m →
      before ≡ before' → sight ≡ sight' → (i : ℕ) → IsLasting d i → n i ≡ m i
  reach_once before before' sight sight' n m one other e same =
      lists_same before before' sight sight' n m one other (reach_alike before before' sight sight' n m one other e same)

  -- ---- times that were passed

  -- the dump agrees at a time, and what follows is read as steps
  pub record IsPassed (before : List Sight) (sight : Sight) (behind : List Sight) : Type 0 where
    pub numbers : Values
    pub reaches : ReachesOf before sight numbers
    pub agrees : Agrees d sight numbers
    pub next : Sight
    pub rest : List Sight
    pub behind_is : behind ≡ next ∷ rest
    pub steps : List Step
    pub reads : steps_to watched numbers next ≡ Some steps

  pub passed :
      (before before' : List Sight) (sight sight' : Sight) (behind behind' : List Sight) (n : Values) → ReachesOf before sight n →
      before ++ sight ∷ behind ≡ before' ++ sight' ∷ behind' → length before' < length before → IsPassed before' sight' behind'
  passed before before' sight sight' behind behind' n (Begun s n' first) e less = absurd (omega (arith, less))
  passed before before' sight sight' behind behind' n (Followed b old next u n' steps reaches agrees reads cycles) e less =
      by (passed b before' old sight' (sight ∷ behind) behind' u reaches whole) (cases_order (length before') (length b))
    where
      whole : b ++ old ∷ sight ∷ behind ≡ before' ++ sight' ∷ behind'
      whole = sym (append_assoc b (old ∷ []) (sight ∷ behind)) ∙ e

      by :
          (length before' < length b → IsPassed before' sight' behind') →
          (length before' ≡ length b) ⊎ ((length before' < length b) ⊎ (length b < length before')) → IsPassed before' sight' behind'
      by earlier (inl same) =
          let split = same_split b before' old sight' (sight ∷ behind) behind' whole (sym same) in
          record {
            numbers = u;
            reaches = subst (λ (xs : List Sight). ReachesOf xs sight' u) split.0 (subst (λ (x : Sight). ReachesOf b x u) split.1 reaches);
            agrees = subst (λ (x : Sight). Agrees design x u) split.1 agrees;
            next = sight;
            rest = behind;
            behind_is = sym split.2;
            steps = steps;
            reads = reads;
          }
      by earlier (inr (inl before_it)) = earlier before_it
      by earlier (inr (inr past)) = let long = pushed b old in absurd (omega (arith, less, long, past))

  -- ---- what is compared

  number_same : (sight : Sight) (n m : Values) → ((i : ℕ) → IsLasting d i → n i ≡ m i) → (i : ℕ) → HasNumber d sight n i → HasNumber d sight m i
  number_same sight n m same i has compared bits is =
      has compared bits is ∙ same i (compared_lasts d i compared)

  pub no_departure :
      (sight : Sight) (n m : Values) → ((i : ℕ) → IsLasting d i → n i ≡ m i) → (signal : ℕ) (bits : List Bit) →
      Agrees d sight n → IsDeparture d sight m signal bits → ⊥
  no_departure sight n m same signal bits agrees departure =
      departure.other (number_same sight n m same signal (agrees signal) departure.compared bits departure.recorded_is)

  not_before :
      (sight : Sight) (n m : Values) → ((i : ℕ) → IsLasting d i → n i ≡ m i) → (i j : ℕ) (bits bits' : List Bit) →
      IsDeparture d sight n i bits → IsDeparture d sight m j bits' → i < j → ⊥
  not_before sight n m same i j bits bits' one other less =
      one.other (other.first i less one.compared bits one.recorded_is ∙ sym (same i (compared_lasts d i one.compared)))

  -- departures from numbers that are the same
  pub record IsSameDeparture (i j : ℕ) (bits bits' : List Bit) (n m : Values) : Type 0 where
    pub signals : i ≡ j
    pub recorded_is : bits ≡ bits'
    pub numbers : n i ≡ m j

  pub departure_once :
      (sight : Sight) (n m : Values) → ((i : ℕ) → IsLasting d i → n i ≡ m i) → (i j : ℕ) (bits bits' : List Bit) →
      IsDeparture d sight n i bits → IsDeparture d sight m j bits' → IsSameDeparture i j bits bits' n m
  departure_once sight n m same i j bits bits' one other =
      by (cases_order i j)
    where
      by : (i ≡ j) ⊎ ((i < j) ⊎ (j < i)) → IsSameDeparture i j bits bits' n m
      by (inl e) = record {
        signals = e;
        recorded_is = same_Some bits bits' (sym one.recorded_is ∙ ap sight.value e ∙ other.recorded_is);
        numbers = same i (compared_lasts design i one.compared) ∙ ap m e;
      }
      by (inr (inl less)) = absurd (not_before sight n m same i j bits bits' one other less)
      by (inr (inr more)) = absurd (not_before sight m n (λ k lasts. sym (same k lasts)) j i bits' bits other one more)
