-- Where a trial begins the simulator is settled at the numbers of the netlist.
use Rattle.std.proofs.Common.{◌≡◌, ◌∙◌, ◌⊎◌, ℕ, List, length, Option, Some, replicate, refl, sym, ap, inl, inr, arith}
use Rattle.std.proofs.lemmas.List.{ext_get_or, length-replicate}
use Rattle.rtl_bits.specs.declared.Bit.TheVariants.{X}
use Rattle.rtl_flat.specs.Flows.{body_flow}
use Rattle.rtl_flat.specs.Paths.{MayWrite}
use Rattle.rtl_flat.specs.PathSets.{IsTemporary}
use Rattle.rtl_flat.specs.Process.{Actions, Edge', Watched}
use Rattle.event_model.specs.Queue.{IsAtRest, State, doing_at, drive_now, settled_at}
use Rattle.rtl_flat.specs.Flats.{Flat, widths}
use Rattle.event_model.specs.Writes.{Values}
use Rattle.check_clean.proofs.net_laws_proofs.Known.{known_at}
use Rattle.net_model.specs.declared.fill.Fill.{Fill}
use Rattle.net_model.specs.Cycle.{Chain, Guard, item_bit, reset_bit, strongest}
use Rattle.net_model.specs.Numbers.{AreNumbers, bit}
use Rattle.net_model.specs.Solution.{IsLasting, IsSolution}
use Rattle.check_clean.specs.net_rest.Rest.{AreAlike, AreGiven, IsIdle, IsSolvable, numbers_of}
use Rattle.check_clean.proofs.net_rest_proofs.Numbers.{are_numbers}
use Rattle.check_clean.proofs.net_rest_proofs.Rest.{known_at_rest, latch_inside, latch_keeps, register_inside, solution_rests, solved}
use Rattle.check_clean.specs.sign_cycles.Round.{IsSettled}
use Rattle.check_clean.proofs.sign_cycles_proofs.Settled.{input_lasts}
use Rattle.check_clean.specs.sign_cycles.Agree.{AreReset, AreSame, IsSettledKnown}
use Rattle.check_clean.specs.sign_cycles.Formed.{IsCleanClocked}
use Rattle.check_clean.proofs.sign_cycles_proofs.Chains.{strongest_same}
use Rattle.check_clean.proofs.sign_cycles_proofs.Edges as edge

-- a state that is settled at numbers which are those of the netlist, but for temporaries
pub record IsShowing (d : Flat) (chains : ℕ → Chain) (f : Fill) (s : State) (n : Values) : Type 0 where
  pub numbers : Values
  pub settled : IsSettledKnown d chains f s numbers
  pub are : AreNumbers d n
  pub same : AreSame d numbers n

module _ (d : Flat) (level : ℕ → ℕ) (solvable : IsSolvable d level) where
  -- inputs, registers and latches of numbers are known
  given : (n : Values) → AreNumbers d n → AreGiven d n
  given n are =
      record {
        inputs = λ i is. are.known i;
        registers = λ i k is.
            let size = are.wide i in
            let inside = register_inside d level solvable i k is in
            known_at (n i) k (are.known i) (omega (arith, size, inside));
        latches = λ i k is.
            let size = are.wide i in
            let inside = latch_inside d level solvable i k is.latch in
            known_at (n i) k (are.known i) (omega (arith, size, inside));
      }

  -- a solution's numbers, with the fill in what nothing writes, solve the equations for themselves
  module _ (f : Fill) (start n : Values) (first : AreNumbers d start) (solution : IsSolution d f start n n) where
    idle : IsIdle d n n
    idle =
        solution_rests d level solvable f start n n first solution
        (λ i k is. sym (latch_keeps d level solvable f start n n first solution i k is))

    abbrev own : Values
    own = numbers_of d f n

    pub own_alike : AreAlike d n own
    own_alike = known_at_rest d level solvable n n (given n solution.numbers) idle f

    idle_own : IsIdle d own n
    idle_own =
        record {
          wide = idle.wide;
          inputs = λ i is.
              ext_get_or X (n i) (own i) (solution.numbers.wide i ∙ sym ((are_numbers d f n).wide i)) (λ k below. own_alike i k (input_lasts d i is));
          kept = λ i k is. own_alike i k is.lasting;
          held = λ i k is. own_alike i k is.latch.lasting;
          driven = idle.driven;
          consistent = idle.consistent;
        }

    pub own_solution : IsSolution d f own own own
    own_solution =
        solved d level solvable own n (given own (are_numbers d f n)) idle_own f own (are_numbers d f n) (λ i k is. refl)

-- ---- the state in which nothing is to be done

at_rest : (d : Flat) (v : Values) → IsAtRest d (settled_at d v)
at_rest d v =
    record {
      no_active = record { inputs = λ i is. refl; processes = λ p is. refl; drivers = λ p is. refl; updates = refl };
      no_delayed = refl;
    }

module _ (d : Flat) (chains : ℕ → Chain) (level : ℕ → ℕ) (clean : IsCleanClocked d chains level) (f : Fill) (start n v : Values) where
  abbrev m : Values
  m = numbers_of d f n

  module _ (first : AreNumbers d start) (solution : IsSolution d f start n n) where
    alike : AreAlike d n m
    alike = own_alike d level clean.solvable f start n first solution

    numbers : AreNumbers d m
    numbers = are_numbers d f n

    -- registers under a reset have its constant
    reset :
        ((p : ℕ) (events : List Watched) (body : Actions) → doing_at d p ≡ Some (Edge' events body) →
        (i k : ℕ) → MayWrite (body_flow (widths d) body) i k → IsLasting d i →
        bit n i k ≡ reset_bit (widths d) f start (strongest n (chains p).resets) (bit start i k) i k) → AreReset d chains f m
    reset registers p events body is guard found i k may lasts =
        let items = edge.of_items d chains level clean p events body is (λ (item : Watched). item_bit n item ≡ item_bit m item)
        (λ item here. alike item.signal 0 (edge.item_lasts d chains level clean p events body is item here)) in
        let active : strongest n (chains p).resets ≡ Some guard = strongest_same d n m (chains p).resets items ∙ found in
        sym (alike i k lasts)
        ∙ registers p events body is i k may lasts
        ∙ ap (λ (o : Option Guard). reset_bit (widths d) f start o (bit start i k) i k) active
        ∙ edge.strongest_constant d chains level clean p events body is f m start m first numbers guard found i k may lasts

    module _ (lasting : (i : ℕ) → IsLasting d i → v i ≡ n i) (wide : (i : ℕ) → length (v i) ≡ widths d i) where
      settled : IsSettled d f (settled_at d v) m
      settled =
          record {
            rest = at_rest d v;
            wide = wide;
            shows = λ i k lasts. ap (λ bits. bit (λ (j : ℕ). bits) i k) (lasting i lasts) ∙ alike i k lasts;
            drivers = λ p target e is. ap (drive_now v) is;
            solution = own_solution d level clean.solvable f start n first solution;
          }

      pub begins :
          ((p : ℕ) (events : List Watched) (body : Actions) → doing_at d p ≡ Some (Edge' events body) →
          (i k : ℕ) → MayWrite (body_flow (widths d) body) i k → IsLasting d i →
          bit n i k ≡ reset_bit (widths d) f start (strongest n (chains p).resets) (bit start i k) i k) → IsShowing d chains f (settled_at d v) n
      begins registers =
          record {
            numbers = m;
            settled = edge.settled_known d chains f (settled_at d v) m settled (reset registers);
            are = solution.numbers;
            same = λ i k lasts. sym (alike i k lasts);
          }

-- ---- temporaries

-- values that are numbers but for temporaries have the widths of their signals
pub taken_wide :
    (d : Flat) → ((i : ℕ) → IsTemporary d.signals d.tasks i ⊎ (IsTemporary d.signals d.tasks i → ⊥)) → (n v : Values) → AreNumbers d n →
    ((i : ℕ) → IsLasting d i → v i ≡ n i) → ((i : ℕ) → IsTemporary d.signals d.tasks i → v i ≡ replicate (widths d i) X) → (i : ℕ) → length (v i) ≡ widths d i
taken_wide d decided n v are lasting temporaries i =
    elim (decided i) [
      | inl temporary ↦ ap length (temporaries i temporary) ∙ length-replicate (widths d i) X
      | inr lasts ↦ ap length (lasting i lasts) ∙ are.wide i
    ]
