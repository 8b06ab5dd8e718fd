-- A state that has arrived shows the one solution.
use Rattle.std.proofs.Common.{◌≡◌, ◌∙◌, ◌==◌, ◌<◌, ℕ, Bool, true, false, if◌then◌else◌, List, [], ◌∷◌, refl, sym, arith}
use Rattle.std.specs.Prelude.{IsTrue}
use Rattle.std.proofs.lemmas.List.{ext_get_or}
use Rattle.rtl_bits.specs.declared.Bit.{Bit}
use Rattle.rtl_bits.specs.declared.Bit.TheVariants.{X}
use Rattle.rtl_bits.specs.Bit.{is_unknown}
use Rattle.rtl_bits.specs.Bits.{has_unknown}
use Rattle.event_model.specs.Queue.{State, is_input}
use Rattle.rtl_flat.specs.Flats.{Flat, widths}
use Rattle.event_model.specs.Writes.{Values, put}
use Rattle.net_model.specs.declared.fill.Fill.{Fill}
use Rattle.net_model.specs.Numbers.{AreNumbers, bit}
use Rattle.net_model.specs.Solution.{IsRegisterBit}
use Rattle.net_rest.specs.event_runs.Nets.{given_with}
use Rattle.net_rest.proofs.net_laws_proofs.Known.{known_at}
use Rattle.net_rest.specs.Rest.{AreAlike, AreGiven, AreHeld, IsHeldBit, IsIdle, IsSolvable, numbers_of}
use Rattle.net_rest.proofs.Numbers.{are_numbers}
use Rattle.net_rest.proofs.Rest.{alone, known_at_rest, latch_inside, register_inside, solved}
use Rattle.sign_cycles.specs.Round.{AreSettings, Follows, HasNoClock, HasNoLatch, IsArrived, IsFollowed, IsSettled, Round, after_round}
use Rattle.sign_cycles.proofs.Settled.{arrive, input_lasts}

module _ (d : Flat) (level : ℕ → ℕ) (solvable : IsSolvable d level) where
  -- numbers are known
  are_given : (n : Values) → AreNumbers d n → AreGiven d n
  are_given n numbers =
      record {
        inputs = λ i is. numbers.known i;
        registers = λ i k is. inside i k (register_inside d level solvable i k is);
        latches = λ i k is. inside i k (latch_inside d level solvable i k is.latch);
      }
    where
      inside : (i k : ℕ) → k < widths d i → is_unknown (bit n i k) ≡ false
      inside i k below = let size = numbers.wide i in known_at (n i) k (numbers.known i) (omega (arith, size, below))

  module _ (f : Fill) (inputs given : Values) (t : State) (arrived : IsArrived d inputs t) (are : AreGiven d given) (same : (i : ℕ) → IsTrue (is_input d i) → inputs i ≡ given i) (registers : (i k : ℕ) → IsRegisterBit d i k → bit t.value i k ≡ bit given i k) (latches : (i k : ℕ) → IsHeldBit d given i k → bit t.value i k ≡ bit given i k) where
    abbrev next : Values
    next = numbers_of d f t.value

    idle : IsIdle d given t.value
    idle =
        record {
          wide = arrived.orderly.steady.widths;
          inputs = λ i is. arrived.inputs i is ∙ same i is;
          kept = registers;
          held = latches;
          driven = arrived.driven;
          consistent = arrived.consistent;
        }

    shows : AreAlike d t.value next
    shows = known_at_rest d level solvable given t.value are idle f

    -- beside its own numbers it is at rest, too
    idle_next : IsIdle d next t.value
    idle_next =
        record {
          wide = arrived.orderly.steady.widths;
          inputs = λ i is.
              ext_get_or X (t.value i) (next i) (arrived.orderly.steady.widths i ∙ sym ((are_numbers d f t.value).wide i))
              (λ k below. shows i k (input_lasts d i is));
          kept = λ i k is. shows i k is.lasting;
          held = λ i k is. shows i k is.latch.lasting;
          driven = arrived.driven;
          consistent = arrived.consistent;
        }

    are_next : AreGiven d next
    are_next = are_given next (are_numbers d f t.value)

    pub settled : IsSettled d f t next
    settled =
        record {
          rest = arrived.rest;
          wide = arrived.orderly.steady.widths;
          shows = shows;
          drivers = arrived.drivers;
          solution = solved d level solvable next t.value are_next idle_next f next (are_numbers d f t.value) (λ i k is. refl);
        }

    pub followed : (held : Values) → AreNumbers d held → AreHeld d held given → IsFollowed d f held given t next
    followed held held_are holds =
        let solution = solved d level solvable given t.value are idle f held held_are holds in
        record {
          solution = solution;
          alone = λ g held' given' m held_are' holds' alike other.
              alone d level solvable f g held held' given given' next m held_are held_are' holds holds' alike solution other;
          shows = shows;
          settled = settled;
        }

  -- ---- without clocks and latches

  put_known : (n : Values) (i : ℕ) (bits : List Bit) → has_unknown bits ≡ false → ((j : ℕ) → has_unknown (n j) ≡ false) → (j : ℕ) → has_unknown (put n i bits j) ≡ false
  put_known n i bits new known j = by_test (j == i)
    where
      by_test : (b : Bool) → has_unknown (if b then bits else n j) ≡ false
      by_test true = new
      by_test false = known j

  pub given_known : (n : Values) (step : List (ℕ × List Bit)) → AreSettings d step → ((j : ℕ) → has_unknown (n j) ≡ false) → (j : ℕ) → has_unknown (given_with n step j) ≡ false
  given_known n [] settings known = known
  given_known n ((i, bits) ∷ others) settings known =
      given_known (put n i bits) others settings.1 (put_known n i bits settings.0.1 known)

  pub agree : HasNoClock d → HasNoLatch d → (f : Fill) (s : State) (n : Values) (rounds : List Round) → IsSettled d f s n → Follows d f s n rounds
  agree no_clock no_latch f s n [] settled' = tt
  agree no_clock no_latch f s n (round ∷ rounds) settled' = λ is rest.
      let given = given_with n round.step in
      let t = after_round d s round in
      let numbers = settled'.solution.numbers in
      let no_register = λ (i k : ℕ) (register : IsRegisterBit d i k). no_clock register.process register.events register.body register.does in
      let none_held = λ (i k : ℕ) (held : IsHeldBit d given i k). no_latch held.latch.process held.latch.gate held.latch.admitted in
      let are : AreGiven d given =
      record {
        inputs = λ i input. given_known n round.step is.settings numbers.known i;
        registers = λ i k register. absurd (no_register i k register);
        latches = λ i k held. absurd (none_held i k held);
      } in
      let there = arrive d level solvable f s n settled' round is rest in
      let follows = followed f given given t there are (λ i input. refl) (λ i k register. absurd (no_register i k register)) (λ i k held. absurd (none_held i k held)) n numbers (λ i k held. absurd (none_held i k held)) in
      (numbers_of d f t.value, follows, agree no_clock no_latch f t (numbers_of d f t.value) rounds follows.settled)

  -- ---- both fills

  pub settled_both : (f g : Fill) (s : State) (n : Values) → IsSettled d f s n → IsSettled d g s (numbers_of d g s.value)
  settled_both f g s n settled' =
      let numbers = settled'.solution.numbers in
      let none : Round = record { step = []; events = [] } in
      let there = arrive d level solvable f s n settled' none (record { settings = tt; can = tt }) settled'.rest in
      settled g n n s there (are_given n numbers) (λ i is. refl) (λ i k is. settled'.shows i k is.lasting) (λ i k is. settled'.shows i k is.latch.lasting)
