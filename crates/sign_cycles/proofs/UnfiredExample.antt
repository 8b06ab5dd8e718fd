-- The register of Register.antt while its reset is active, at the falling edge of its clock: beside it `a` is given 1 and the reset
-- is released, at different moments of one run. No clock fires, so q keeps the reset's 0. A clock that falls and rises in one run is
-- no such step: q takes `a` by it, though the clock is at the end what it was.
use Rattle.std.proofs.Common.{◌≡◌, ℕ, zero, suc, false, List, [], ◌∷◌, length, refl, sym, ap, subst, inr, arith}
use Rattle.std.specs.Prelude.{◌<◌, IsTrue}
use Rattle.std.specs.List.{All}
use Rattle.std.proofs.lemmas.Bool.{false≢true, true≢false}
use Rattle.std.proofs.lemmas.List.Elements.{All-cons, All-head, All-nil}
use Rattle.rtl_bits.specs.declared.Bit.{Bit}
use Rattle.rtl_bits.specs.declared.Bit.TheVariants.{Zero, One, X, Z}
use Rattle.rtl_bits.specs.declared.Edge.TheVariants as edge
use Rattle.rtl_bits.specs.Bit.{is_unknown}
use Rattle.rtl_bits.specs.Bits.{has_unknown}
use Rattle.event_model.specs.Queue.{State, Input, Run, Delayed, Activate, HasNoActive, IsAtRest, happens, is_input, power_up, run, settled_at}
use Rattle.rtl_flat.specs.Flats.{widths}
use Rattle.event_model.specs.Writes.{Values}
use Rattle.net_model.specs.declared.fill.Fill.{Fill}
use Rattle.net_model.specs.Cycle.{Setting, given_after}
use Rattle.net_model.specs.Gates.{IsGateInput}
use Rattle.net_model.specs.Numbers.{bit}
use Rattle.net_model.specs.Solution.{IsLasting}
use Rattle.event_edges.specs.Moves.{Give, Move, Take, move_all}
use Rattle.net_rest.proofs.Rest.{latch_inside, register_inside}
use Rattle.sign_cycles.specs.Agree.{IsNext, IsSettledKnown, after_offer}
use Rattle.sign_cycles.specs.BringUp.{SetsInput}
use Rattle.sign_cycles.specs.Known.{AreKnown}
use Rattle.sign_cycles.specs.Unfired.{AreLast, IsFollowedAtOnce, IsNextMoved, IsUnfiredStep}
use Rattle.sign_cycles.proofs.BringUp.{known_settles}
use Rattle.sign_cycles.proofs.Clean.{clean, solvable}
use Rattle.sign_cycles.proofs.Register.{all_wait, chain, clock, design, itself, no_comb, no_latch, none_offered, one_bit, set_to}
use Rattle.sign_cycles.proofs.Unfired.{unfired_agrees}

-- ---- the state: the reset is active, the clock is 1, a and q are 0

abbrev held : List Setting
held = set_to 0 One ∷ set_to 1 One ∷ set_to 2 Zero ∷ []

abbrev asked : State
asked = run design (after_offer (power_up design) held) (Input 0 ∷ Input 1 ∷ Input 2 ∷ Run 0 ∷ [])

abbrev first : State
first = run design asked (Activate ∷ Delayed ∷ [])

waits : HasNoActive design asked
waits =
    record {
      inputs = none_offered asked.offered refl refl refl;
      processes = all_wait asked.woken refl;
      drivers = λ p is. refl;
      updates = refl;
    }

first_rests : IsAtRest design first
first_rests =
    record {
      no_active = record {
        inputs = none_offered first.offered refl refl refl;
        processes = all_wait first.woken refl;
        drivers = λ p is. refl;
        updates = refl;
      };
      no_delayed = refl;
    }

comes : IsNext design (power_up design) held first
comes =
    record {
      reaches = record {
        events = Input 0 ∷ Input 1 ∷ Input 2 ∷ Run 0 ∷ Activate ∷ Delayed ∷ [];
        can = ((refl, refl), ((refl, refl), ((refl, refl), ((refl, refl), ((waits, λ h. absurd (omega (arith, ap length h))), ((λ h. absurd (omega (arith, ap length h))), tt))))));
        leads = refl;
      };
      rest = first_rests;
    }

sets : (i : ℕ) (b : Bit) → IsTrue (is_input design i) → 1 ≡ widths design i → has_unknown (b ∷ []) ≡ false → SetsInput design (set_to i b)
sets i b input wide known = record { input = input; can_be = record { wide = wide; known = known } }

set_three :
    (i j k : ℕ) (a b c : Bit) → SetsInput design (set_to i a) → SetsInput design (set_to j b) → SetsInput design (set_to k c) →
    All (SetsInput design) (set_to i a ∷ set_to j b ∷ set_to k c ∷ [])
set_three i j k a b c one two three =
    All-cons (SetsInput design) (set_to i a) (set_to j b ∷ set_to k c ∷ []) one
    (All-cons (SetsInput design) (set_to j b) (set_to k c ∷ []) two (All-cons (SetsInput design) (set_to k c) [] three (All-nil (SetsInput design))))

set_held : All (All (SetsInput design)) (held ∷ [])
set_held =
    All-cons (All (SetsInput design)) held []
    (set_three 0 1 2 One One Zero (sets 0 One refl refl refl) (sets 1 One refl refl refl) (sets 2 Zero refl refl refl)) (All-nil (All (SetsInput design)))

bits_known : (i k : ℕ) → k < widths design i → is_unknown (bit first.value i k) ≡ false
bits_known zero k inside = one_bit One refl k inside
bits_known (suc zero) k inside = one_bit One refl k inside
bits_known (suc (suc zero)) k inside = one_bit Zero refl k inside
bits_known (suc (suc (suc zero))) k inside = one_bit Zero refl k inside
bits_known (suc (suc (suc (suc i)))) k inside = absurd (omega (arith, inside))

inputs_known : (i : ℕ) → IsTrue (is_input design i) → has_unknown (first.value i) ≡ false
inputs_known zero is = refl
inputs_known (suc zero) is = refl
inputs_known (suc (suc zero)) is = refl
inputs_known (suc (suc (suc zero))) is = absurd (false≢true is)
inputs_known (suc (suc (suc (suc i)))) is = absurd (false≢true is)

known : AreKnown design first.value
known =
    record {
      inputs = inputs_known;
      registers = λ i k register. bits_known i k (register_inside design (λ p. 0) solvable i k register);
      latches = λ i k latch. bits_known i k (latch_inside design (λ p. 0) solvable i k latch);
    }

settled : (f : Fill) → (n : Values) × IsSettledKnown design (λ p. chain) f first n
settled f =
    (known_settles design (λ p. chain) (λ p. 0) clean (λ p l b is. absurd (no_comb p l b is)) f).settles (held ∷ [])
    (λ h. absurd (omega (arith, ap length h))) set_held (first ∷ []) (comes, tt) known

-- ---- the step

abbrev all : List Setting
all = set_to 0 Zero ∷ set_to 2 One ∷ set_to 1 Zero ∷ []

-- nothing rises to 0
no_rise : (x : Bit) → happens edge.Pos x Zero ≡ false
no_rise Zero = refl
no_rise One = refl
no_rise X = refl
no_rise Z = refl

abbrev IsLast : Values → ℕ → Setting → Type 0
IsLast n c setting = setting.input ≡ c → setting.number ≡ given_after n all c

last : (n : Values) → AreLast design n all
last n c is =
    All-cons (IsLast n c) (set_to 0 Zero) (set_to 2 One ∷ set_to 1 Zero ∷ []) (λ same. subst (λ (i : ℕ). Zero ∷ [] ≡ given_after n all i) same refl)
    (All-cons (IsLast n c) (set_to 2 One) (set_to 1 Zero ∷ []) (λ same. subst (λ (i : ℕ). One ∷ [] ≡ given_after n all i) same refl)
    (All-cons (IsLast n c) (set_to 1 Zero) [] (λ same. subst (λ (i : ℕ). Zero ∷ [] ≡ given_after n all i) same refl) (All-nil (IsLast n c))))

no_gate : (c : ℕ) → IsGateInput design c → ⊥
no_gate c gate = no_latch gate.process gate.gate gate.admitted

abbrev IsNoGate : Setting → Type 0
IsNoGate setting = IsGateInput design setting.input → ⊥

unfired : (n : Values) → IsUnfiredStep design (λ p. chain) n all
unfired n =
    record {
      settings = set_three 0 2 1 Zero One Zero (sets 0 Zero refl refl refl) (sets 2 One refl refl refl) (sets 1 Zero refl refl refl);
      last = last n;
      no_clock = λ p events body is c clock reached.
          subst (λ (i : ℕ). happens edge.Pos (bit n i 0) (bit (given_after n all) i 0) ≡ false) (sym (itself c 0 reached)) (no_rise (bit n 0 0));
      ungated =
          All-cons IsNoGate (set_to 0 Zero) (set_to 2 One ∷ set_to 1 Zero ∷ []) (no_gate 0)
          (All-cons IsNoGate (set_to 2 One) (set_to 1 Zero ∷ []) (no_gate 2) (All-cons IsNoGate (set_to 1 Zero) [] (no_gate 1) (All-nil IsNoGate)));
    }

-- the clock falls, and only then the others are set
abbrev moves : List Move
moves =
    Give ((0, Zero ∷ []) ∷ []) ∷ Take (Input 0) ∷ Give ((2, One ∷ []) ∷ []) ∷ Give ((1, Zero ∷ []) ∷ []) ∷ Take (Input 1) ∷ Take (Input 2) ∷ []

abbrev end : State
end = move_all design first moves

end_rests : IsAtRest design end
end_rests =
    record {
      no_active = record {
        inputs = none_offered end.offered refl refl refl;
        processes = all_wait end.woken refl;
        drivers = λ p is. refl;
        updates = refl;
      };
      no_delayed = refl;
    }

moved : IsNextMoved design first all end
moved =
    record {
      moves = moves;
      can = ((refl, refl), ((refl, refl), ((refl, refl), tt)));
      gives = refl;
      leads = refl;
      rest = end_rests;
    }

-- so the state shows the numbers that follow
followed : (f : Fill) → IsFollowedAtOnce design (λ p. chain) f (settled f).0 all end
followed f =
    (unfired_agrees design (λ p. chain) (λ p. 0) clean f).agrees first (settled f).0 (settled f).1 all (unfired (settled f).0) end moved

-- among them that q is 0
q_lasts : IsLasting design 3
q_lasts temporary = true≢false temporary.of_process.inner

q_stays : (f : Fill) → bit (followed f).next 3 0 ≡ Zero
q_stays f = sym ((followed f).shows 3 0 (omega arith) (inr q_lasts)).same

-- ---- two values of one clock in one run

-- clk, a 1, the reset released, and q 0
abbrev high : Values
high zero = One ∷ []
high (suc zero) = Zero ∷ []
high (suc (suc zero)) = One ∷ []
high (suc (suc (suc zero))) = Zero ∷ []
high (suc (suc (suc (suc i)))) = []

abbrev twice : List Setting
twice = set_to 0 Zero ∷ set_to 0 One ∷ []

-- they aren't a step in which no clock fires
not_last : (n : Values) → AreLast design n twice → ⊥
not_last n last' =
    let low : ◌≡◌ {A = List Bit} (Zero ∷ []) (One ∷ []) = All-head (λ (setting : Setting). setting.input ≡ 0 → setting.number ≡ given_after n twice 0) (set_to 0 Zero) (set_to 0 One ∷ []) (last' 0 clock) refl in
    cc

abbrev pulsed : State
pulsed =
    move_all design (settled_at design high)
    (Give ((0, Zero ∷ []) ∷ []) ∷ Take (Input 0) ∷ Give ((0, One ∷ []) ∷ []) ∷ Take (Input 0) ∷ Take (Run 0) ∷ Take Activate ∷ Take Delayed ∷ [])

-- as the clock comes to what it was
clock_is : pulsed.value 0 ≡ high 0
clock_is = refl

-- and q isn't what it was
q_takes : pulsed.value 3 ≡ One ∷ []
q_takes = refl
