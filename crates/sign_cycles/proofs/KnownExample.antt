-- The register of Register.antt, whose value is known after an edge of its clock while its reset was never active: no
-- bring-up, and still the state is settled. Before the edge the register is x, and the inputs alone are known.
use Rattle.std.proofs.Common.{◌≡◌, ℕ, zero, suc, ◌<◌, false, List, [], ◌∷◌, length, refl, ap, arith}
use Rattle.std.specs.Prelude.{IsTrue}
use Rattle.std.specs.List.{All}
use Rattle.std.proofs.lemmas.Bool.{false≢true, true≢false}
use Rattle.std.proofs.lemmas.List.Elements.{All-cons, All-nil}
use Rattle.rtl_bits.specs.declared.Bit.TheVariants.{Zero, One}
use Rattle.rtl_bits.specs.Bit.{is_unknown}
use Rattle.rtl_bits.specs.Bits.{has_unknown}
use Rattle.event_model.specs.Queue.{State, Input, Run, Delayed, Activate, HasNoActive, IsAtRest, is_input, power_up, run}
use Rattle.rtl_flat.specs.Flats.{widths}
use Rattle.event_model.specs.Writes.{Values}
use Rattle.net_model.specs.declared.fill.Fill.{Fill}
use Rattle.net_model.specs.Cycle.{Setting}
use Rattle.net_model.specs.Numbers.{bit}
use Rattle.net_model.specs.Solution.{IsLasting}
use Rattle.net_rest.proofs.Rest.{latch_inside, register_inside}
use Rattle.sign_cycles.specs.Agree.{AreRuns, IsNext, IsSettledKnown, after_offer}
use Rattle.sign_cycles.specs.BringUp.{SetsInput}
use Rattle.sign_cycles.specs.Known.{AreKnown}
use Rattle.sign_cycles.proofs.BringUp.{known_settles}
use Rattle.sign_cycles.proofs.Clean.{clean, solvable}
use Rattle.sign_cycles.proofs.Register.{all_wait, chain, design, no_comb, none_offered, one_bit, set_to}

-- ---- two steps: inputs with the reset off, then an edge of the clock

abbrev held : List Setting
held = set_to 0 Zero ∷ set_to 1 Zero ∷ set_to 2 One ∷ []

abbrev edge : List Setting
edge = set_to 0 One ∷ []

abbrev steps : List (List Setting)
steps = held ∷ edge ∷ []

sets : (i : ℕ) → IsTrue (is_input design i) → 1 ≡ widths design i → SetsInput design (set_to i One)
sets i input wide = record { input = input; can_be = record { wide = wide; known = refl } }

clears : (i : ℕ) → IsTrue (is_input design i) → 1 ≡ widths design i → SetsInput design (set_to i Zero)
clears i input wide = record { input = input; can_be = record { wide = wide; known = refl } }

set_all : All (All (SetsInput design)) steps
set_all =
    All-cons (All (SetsInput design)) held (edge ∷ [])
    (All-cons (SetsInput design) (set_to 0 Zero) (set_to 1 Zero ∷ set_to 2 One ∷ []) (clears 0 refl refl)
    (All-cons (SetsInput design) (set_to 1 Zero) (set_to 2 One ∷ []) (clears 1 refl refl)
    (All-cons (SetsInput design) (set_to 2 One) [] (sets 2 refl refl) (All-nil (SetsInput design)))))
    (All-cons (All (SetsInput design)) edge []
    (All-cons (SetsInput design) (set_to 0 One) [] (sets 0 refl refl) (All-nil (SetsInput design)))
    (All-nil (All (SetsInput design))))

-- ---- where they come to rest

abbrev set : State
set = run design (after_offer (power_up design) held) (Input 0 ∷ Input 1 ∷ Input 2 ∷ [])

set_rests : IsAtRest design set
set_rests =
    record {
      no_active = record {
        inputs = none_offered set.offered refl refl refl;
        processes = all_wait set.woken refl;
        drivers = λ p is. refl;
        updates = refl;
      };
      no_delayed = refl;
    }

first : IsNext design (power_up design) held set
first =
    record {
      reaches = record {
        events = Input 0 ∷ Input 1 ∷ Input 2 ∷ [];
        can = ((refl, refl), ((refl, refl), ((refl, refl), tt)));
        leads = refl;
      };
      rest = set_rests;
    }

abbrev turned : State
turned = run design (after_offer set edge) (Input 0 ∷ Run 0 ∷ [])

asked : HasNoActive design turned
asked =
    record {
      inputs = none_offered turned.offered refl refl refl;
      processes = all_wait turned.woken refl;
      drivers = λ p is. refl;
      updates = refl;
    }

abbrev end : State
end = run design turned (Activate ∷ Delayed ∷ [])

end_rests : IsAtRest design end
end_rests =
    record {
      no_active = record {
        inputs = none_offered end.offered refl refl refl;
        processes = all_wait end.woken refl;
        drivers = λ p is. refl;
        updates = refl;
      };
      no_delayed = refl;
    }

second : IsNext design set edge end
second =
    record {
      reaches = record {
        events = Input 0 ∷ Run 0 ∷ Activate ∷ Delayed ∷ [];
        can = ((refl, refl), ((refl, refl), ((asked, λ h. absurd (omega (arith, ap length h))), ((λ h. absurd (omega (arith, ap length h))), tt))));
        leads = refl;
      };
      rest = end_rests;
    }

runs : AreRuns design (power_up design) steps (set ∷ end ∷ [])
runs = (first, (second, tt))

-- ---- what is known there

inputs_known :
    (v : Values) → has_unknown (v 0) ≡ false → has_unknown (v 1) ≡ false → has_unknown (v 2) ≡ false →
    (i : ℕ) → IsTrue (is_input design i) → has_unknown (v i) ≡ false
inputs_known v clk rst a zero is = clk
inputs_known v clk rst a (suc zero) is = rst
inputs_known v clk rst a (suc (suc zero)) is = a
inputs_known v clk rst a (suc (suc (suc zero))) is = absurd (false≢true is)
inputs_known v clk rst a (suc (suc (suc (suc i)))) is = absurd (false≢true is)

bits_known : (i k : ℕ) → k < widths design i → is_unknown (bit end.value i k) ≡ false
bits_known zero k inside = one_bit One refl k inside
bits_known (suc zero) k inside = one_bit Zero refl k inside
bits_known (suc (suc zero)) k inside = one_bit One refl k inside
bits_known (suc (suc (suc zero))) k inside = one_bit One refl k inside
bits_known (suc (suc (suc (suc i)))) k inside = absurd (omega (arith, inside))

-- q has taken a's value, so that all is known
known : AreKnown design end.value
known =
    record {
      inputs = inputs_known end.value refl refl refl;
      registers = λ i k register. bits_known i k (register_inside design (λ p. 0) solvable i k register);
      latches = λ i k latch. bits_known i k (latch_inside design (λ p. 0) solvable i k latch);
    }

-- so the state is settled
settled : (f : Fill) → (n : Values) × IsSettledKnown design (λ p. chain) f end n
settled f =
    (known_settles design (λ p. chain) (λ p. 0) clean (λ p l b is. absurd (no_comb p l b is)) f).settles steps
    (λ h. absurd (omega (arith, ap length h))) set_all (set ∷ end ∷ []) runs known

-- ---- known inputs alone don't settle it: before the edge q is x

q_lasts : IsLasting design 3
q_lasts temporary = true≢false temporary.of_process.inner

inputs_alone : (i : ℕ) → IsTrue (is_input design i) → has_unknown (set.value i) ≡ false
inputs_alone = inputs_known set.value refl refl refl

not_settled : (f : Fill) (n : Values) → IsSettledKnown design (λ p. chain) f set n → ⊥
not_settled f n settled = true≢false (settled.shows 3 0 (omega arith) q_lasts).known
