-- Numbers for settled states.
use Rattle.std.proofs.Common.{◌≡◌, ◌∙◌, ◌<◌, ℕ, false, cond, List, Some, length, get_or, refl, sym, ap, inl, inr, arith}
use Rattle.std.specs.Prelude.{IsTrue}
use Rattle.std.proofs.lemmas.Bool.{cases_Bool, false_from_ne_true, or_from, or_left, or_right}
use Rattle.std.proofs.lemmas.List.{ext_get_or}
use Rattle.rtl_bits.specs.declared.Bit.TheVariants.{X}
use Rattle.rtl_bits.specs.Bit.{is_unknown}
use Rattle.rtl_bits.specs.Bits.{has_unknown}
use Rattle.rtl_flat.specs.Paths.{MayWrite}
use Rattle.rtl_flat.specs.PathSets.{OfProcess}
use Rattle.rtl_flat.specs.Process.{Actions, Edge', Watched}
use Rattle.event_model.specs.Queue.{State, doing_at, is_input}
use Rattle.rtl_flat.specs.Flats.{Flat, widths}
use Rattle.event_model.specs.Traces.{Same}
use Rattle.event_model.specs.Writes.{Values}
use Rattle.net_model.specs.declared.fill.Fill.{Fill}
use Rattle.net_model.specs.Cycle.{Chain, item_bit, strongest}
use Rattle.net_model.specs.Numbers.{AreNumbers, bit}
use Rattle.net_model.specs.Solution.{IsLasting, IsRegisterBit, IsSolution}
use Rattle.net_solve.specs.Laws.{IsBeginning, IsWorkable}
use Rattle.net_solve.proofs.Worked.{no_input_written, worked}
use Rattle.net_solve.proofs.event_runs_proofs.Writers.{of_process, to_process}
use Rattle.net_solve.proofs.net_rest_proofs.net_laws_proofs.Known.{KnownBit, known_at}
use Rattle.net_solve.proofs.net_rest_proofs.Numbers.{are_numbers, number_fill, number_same, past_ends, written_by, writer_of}
use Rattle.net_solve.proofs.net_rest_proofs.Rest.{alone, held_as, latch_keeps}
use Rattle.sign_unknown.specs.net_covers.Marks.{Tells}
use Rattle.sign_unknown.specs.sign_cycles.Agree.{AreReset, AreSame}
use Rattle.sign_unknown.specs.sign_cycles.Formed.{IsCleanClocked}
use Rattle.sign_unknown.specs.sign_cycles.net_rest.Rest.{IsHeldBit, IsSolvable, is_written, numbers_of}
use Rattle.sign_unknown.proofs.Cone.{items_same}
use Rattle.sign_unknown.proofs.Kept.{next_holds, next_idle, still}
use Rattle.sign_unknown.proofs.net_covers_proofs.Rest.{rests_tell}
use Rattle.sign_unknown.proofs.sign_cycles_proofs.Chains.{strongest_same}
use Rattle.sign_unknown.proofs.sign_cycles_proofs.Edges.{of_items, strongest_constant}
use Rattle.sign_unknown.specs.Laws.{AreStartMarks}
use Rattle.sign_unknown.specs.Unknown.{IsCompletion, IsSettledPartly}
use Rattle.unknown_starts.specs.Starts.{IsChoice, IsCompleted}
use Rattle.unknown_starts.proofs.Order.{some_order}
use Rattle.unknown_starts.proofs.Worked.{all_done}

-- a bit of numbers is known
bit_known : (d : Flat) (n : Values) → AreNumbers d n → (i k : ℕ) → k < widths d i → KnownBit (bit n i k)
bit_known d n are i k inside = let size = are.wide i in known_at (n i) k (are.known i) (omega (arith, size, inside))

-- where inputs are those of a settled state, so are resets that are active
resets_same :
    (d : Flat) (chains : ℕ → Chain) (level : ℕ → ℕ) → IsCleanClocked d chains level →
    (f : Fill) (s : State) → IsSettledPartly d chains s →
    (held n : Values) → AreNumbers d held → IsSolution d f held n n → ((i : ℕ) → IsTrue (is_input d i) → s.value i ≡ n i) →
    (p : ℕ) (events : List Watched) (body : Actions) → doing_at d p ≡ Some (Edge' events body) →
    strongest s.value (chains p).resets ≡ strongest n (chains p).resets
resets_same d chains level clean f s settled held n are solution inputs p events body is =
    strongest_same d s.value n (chains p).resets
    (of_items d chains level clean p events body is (λ (item : Watched). item_bit s.value item ≡ item_bit n item)
    (items_same d clean.synchronous s.value n settled.wide solution.numbers.wide settled.driven
    (next_idle d level clean.solvable f held n are solution).driven (λ c clock. inputs c clock.input) p events body))

-- numbers of a state are a choice
pub chosen :
    (d : Flat) (chains : ℕ → Chain) (level : ℕ → ℕ) → IsCleanClocked d chains level →
    (f : Fill) (s : State) → IsSettledPartly d chains s →
    (n : Values) → IsCompletion d chains f s n → IsChoice d chains f s n
chosen d chains level clean f s settled n completion =
    record {
      numbers = completion.solution.numbers;
      registers = λ i k is. completion.registers i k (inl is);
      latches = λ i k is. completion.registers i k (inr is.latch);
      resets = λ p events body is guard found.
          completion.resets p events body is guard
          (sym (resets_same d chains level clean f s settled n n completion.solution.numbers completion.solution completion.inputs p events
          body is)
          ∙ found);
    }

module _ (d : Flat) (chains : ℕ → Chain) (level : ℕ → ℕ) (clean : IsCleanClocked d chains level) (Doubt : ℕ → Type 0) (marks : AreStartMarks d chains Doubt) (f : Fill) (s : State) (settled : IsSettledPartly d chains s) (r : Values) (choice : IsChoice d chains f s r) where
  abbrev solvable : IsSolvable d level
  solvable = clean.solvable

  workable : IsWorkable d
  workable =
      record {
        lawful = solvable.lawful;
        apart = λ p q i k may may'.
            let (does, here, is) = of_process MayWrite d p i k may in
            let (other, there, is') = of_process MayWrite d q i k may' in
            clean.synchronous.alone p q does other here there i k is is';
      }

  -- ---- what is given

  -- inputs as they are, and all else as chosen
  abbrev given : Values
  given i = cond (is_input d i) (s.value i) (r i)

  given_input : (i : ℕ) → IsTrue (is_input d i) → given i ≡ s.value i
  given_input i is = ap (λ b. cond b (s.value i) (r i)) is

  given_other : (i : ℕ) → is_input d i ≡ false → given i ≡ r i
  given_other i is = ap (λ b. cond b (s.value i) (r i)) is

  given_numbers : AreNumbers d given
  given_numbers =
      record {
        wide = λ i.
            elim (cases_Bool (is_input d i)) [
              | inl is ↦ ap length (given_input i is) ∙ settled.wide i
              | inr is ↦ ap length (given_other i is) ∙ choice.numbers.wide i
            ];
        known = λ i.
            elim (cases_Bool (is_input d i)) [
              | inl is ↦ ap has_unknown (given_input i is) ∙ settled.inputs i is
              | inr is ↦ ap has_unknown (given_other i is) ∙ choice.numbers.known i
            ];
      }

  -- what a process writes is given as chosen
  written_given : (p i k : ℕ) → OfProcess MayWrite d.signals d.tasks p i k → Same given r i k
  written_given p i k may =
      ap (λ bits. get_or bits k X)
      (given_other i (false_from_ne_true (is_input d i) (no_input_written d solvable.lawful p i k may)))

  register_written : (i k : ℕ) (is : IsRegisterBit d i k) → OfProcess MayWrite d.signals d.tasks is.process i k
  register_written i k is = to_process MayWrite d is.process i k (Edge' is.events is.body) is.does is.may

  -- ---- where it begins

  abbrev begun : Values
  begun = numbers_of d f given

  begun_numbers : AreNumbers d begun
  begun_numbers = are_numbers d f given

  begun_written : (p i k : ℕ) → OfProcess MayWrite d.signals d.tasks p i k → Same begun given i k
  begun_written p i k may =
      past_ends d begun given begun_numbers.wide given_numbers.wide i k (λ inside.
      number_same d f given i k inside (or_right (is_input d i) (is_written d i k) (written_by d p i k may))
      (bit_known d given given_numbers i k inside))

  begun_input : (i : ℕ) → IsTrue (is_input d i) → begun i ≡ given i
  begun_input i is =
      ext_get_or X (begun i) (given i) (begun_numbers.wide i ∙ sym (given_numbers.wide i)) (λ k below.
      let size = begun_numbers.wide i in
      let inside : k < widths d i = omega (arith, size, below) in
      number_same d f given i k inside (or_left (is_input d i) (is_written d i k) is)
      (bit_known d given given_numbers i k inside))

  beginning : IsBeginning d f begun given begun
  beginning =
      record {
        numbers = begun_numbers;
        inputs = begun_input;
        kept = λ i k is. begun_written is.process i k (register_written i k is);
        latched = λ p list body here i k may. refl;
        others = λ i k inside no_input none.
            number_fill d f given i k inside
            (or_from (is_input d i) (is_written d i k) no_input
            (false_from_ne_true (is_written d i k) (λ is. let (p, may) = writer_of d i k is in none p may)));
      }

  -- ---- numbers that solve

  solved : (n : Values) × IsSolution d f begun given n
  solved =
      let (order, is) = some_order d level solvable in
      let (n, done) = all_done d level solvable f workable order is begun begun_numbers in
      (n, (worked d workable).all f order begun given begun n is beginning done)

  module _ (n : Values) (solution : IsSolution d f begun given n) where
    -- given as they are
    own : IsSolution d f begun n n
    own =
        record {
          numbers = solution.numbers;
          inputs = λ i is. refl;
          kept = λ i k is. refl;
          assigns = solution.assigns;
          blocks = solution.blocks;
          others = solution.others;
        }

    same_inputs : (i : ℕ) → IsTrue (is_input d i) → s.value i ≡ n i
    same_inputs i is = sym (solution.inputs i is ∙ given_input i is)

    register_chosen : (i k : ℕ) → IsRegisterBit d i k → Same n r i k
    register_chosen i k is =
        solution.kept i k is ∙ written_given is.process i k (register_written i k is)

    latch_chosen : (i k : ℕ) → IsHeldBit d n i k → Same n r i k
    latch_chosen i k is =
        latch_keeps d level solvable f begun n n begun_numbers own i k is
        ∙ begun_written is.latch.process i k is.latch.may ∙ written_given is.latch.process i k is.latch.may

    held_there : (i k : ℕ) → IsHeldBit d s.value i k → IsHeldBit d n i k
    held_there i k is = held_as d level solvable s.value n same_inputs i k is

    held_here : (i k : ℕ) → IsHeldBit d n i k → IsHeldBit d s.value i k
    held_here i k is = held_as d level solvable n s.value (λ j input. sym (same_inputs j input)) i k is

    -- ---- beside the state

    may_register : (i k : ℕ) → IsRegisterBit d i k → is_unknown (bit s.value i k) ≡ false → bit s.value i k ≡ bit n i k
    may_register i k is known = choice.registers i k is known ∙ sym (register_chosen i k is)

    tells : (i k : ℕ) → IsLasting d i → Tells Doubt s.value n i k
    tells =
        rests_tell d level solvable Doubt marks.marks f begun n n s.value s.value begun_numbers
        (next_holds d level solvable f begun n begun_numbers own) own
        (record {
          wide = settled.wide;
          inputs = λ i is. refl;
          kept = λ i k is. refl;
          held = λ i k is. refl;
          driven = settled.driven;
          consistent = λ p list body here follows. settled.consistent p list body here;
        })
        same_inputs
        (λ i k is.
        record {
          may = may_register i k is;
          same = λ free. may_register i k is (settled.registers i k is (marks.registers i k is free));
        })
        (λ i k is.
        record {
          may = λ known. choice.latches i k (held_here i k is) known ∙ sym (latch_chosen i k is);
          same = λ free. absurd (free (marks.latches i k is.latch));
        })

    -- ---- resets

    reset : AreReset d chains f n
    reset p events body is guard found i k may lasts =
        let register : IsRegisterBit d i k =
        record { process = p; events = events; body = body; does = is; may = may; lasting = lasts } in
        register_chosen i k register
        ∙ choice.resets p events body is guard (same ∙ found) i k may lasts
        ∙ strongest_constant d chains level clean p events body is f n r n choice.numbers solution.numbers guard found
        i k may lasts
      where
        same : strongest s.value (chains p).resets ≡ strongest n (chains p).resets
        same = resets_same d chains level clean f s settled begun n begun_numbers own same_inputs p events body is

    -- ---- alone

    no_other :
        (m : Values) → IsCompletion d chains f s m → ((i k : ℕ) → IsRegisterBit d i k → Same m r i k) →
        ((i k : ℕ) → IsHeldBit d s.value i k → Same m r i k) → AreSame d n m
    no_other m other registers latches =
        alone d level solvable f f begun m n m n m begun_numbers other.solution.numbers
        (next_holds d level solvable f begun n begun_numbers own) (λ i k is. refl)
        (record {
          inputs = λ i is. sym (same_inputs i is) ∙ other.inputs i is;
          registers = λ i k is. register_chosen i k is ∙ sym (registers i k is);
          latches = λ i k is. latch_chosen i k is ∙ sym (latches i k (held_here i k is));
        })
        own other.solution

    completion : IsCompletion d chains f s n
    completion =
        record {
          inputs = same_inputs;
          registers = λ i k is.
              elim is [
                | inl register ↦ may_register i k register
                | inr latch ↦ (tells i k latch.lasting).may
              ];
          solution = still d level solvable f begun n begun_numbers own;
          resets = reset;
        }

  pub completed : IsCompleted d chains f s r
  completed =
      let (n, solution) = solved in
      record {
        numbers = n;
        completion = completion n solution;
        registers = register_chosen n solution;
        latches = λ i k is. latch_chosen n solution i k (held_there n solution i k is);
        alone = no_other n solution;
      }
