-- A register with a clock and a reset, `always @(posedge clk or posedge rst) if (rst) q <= 1'b0; else q <= a;`: its chain, a
-- settled state, one that follows by an edge of the clock, and a bring-up.
use Rattle.std.proofs.Common.{◌≡◌, ◌≢◌, ◌∙◌, ℕ, zero, suc, ◌<◌, Bool, true, false, List, [], ◌∷◌, length, Option, None, Some, refl, sym, ap, subst, arith}
use Rattle.std.specs.Prelude.{IsTrue, IsSome}
use Rattle.std.specs.Option.{is_some}
use Rattle.std.specs.List.{All, list_any, slice_index_or}
use Rattle.std.proofs.lemmas.Bool.{true≢false, false≢true}
use Rattle.std.proofs.lemmas.List.Elements.{All-cons, All-nil}
use Rattle.std.proofs.lemmas.List.Sorted.{IsPermutation-refl}
use Rattle.rtl_bits.specs.declared.Bit.{Bit}
use Rattle.rtl_bits.specs.declared.Bit.TheVariants.{Zero, One, X, Z}
use Rattle.rtl_bits.specs.declared.Edge.TheVariants as edge
use Rattle.rtl_bits.specs.Bit.{is_one, is_unknown}
use Rattle.rtl_bits.specs.Bits.{has_unknown, truth_bit}
use Rattle.text_ground.specs.declared.text.Spot.{Spot}
use Rattle.rtl_flat.specs.declared.signal.Signal.{Signal}
use Rattle.rtl_flat.specs.declared.signal.Kind.{Kind}
use Rattle.rtl_flat.specs.declared.signal.Kind.TheVariants.{TopInput, Var}
use Rattle.rtl_flat.specs.Expression.{Tree, Sized, Literal}
use Rattle.rtl_flat.specs.Expression as tree
use Rattle.rtl_flat.specs.Flows.{body_flow}
use Rattle.rtl_flat.specs.Paths.{MayWrite}
use Rattle.rtl_flat.specs.PathSets.{OfProcess}
use Rattle.rtl_flat.specs.Process.{Whole, Watched, Set, If, Actions, Assign, Comb, Done, Then, Doing, Edge', With}
use Rattle.rtl_flat.proofs.Paths.{decided}
use Rattle.event_model.specs.Queue.{State, Event, Input, Run, Delayed, Activate, HasNoActive, IsAtRest, doing_at, doing_of, is_assignment, is_input, power_up, run, settled_at}
use Rattle.rtl_flat.specs.Flats.{Flat, widths}
use Rattle.event_model.specs.Writes.{Values, Write}
use Rattle.net_model.specs.declared.fill.Fill.{Fill}
use Rattle.net_model.proofs.Gates.{clock_control}
use Rattle.net_model.specs.Control.{IsClockOrReset, IsPassedOn, IsReached, Itself, Through, whole_of}
use Rattle.net_model.specs.Cycle.{Chain, Guard, IsChain, Setting, Tests, Turn, is_active}
use Rattle.net_model.specs.Gates.{Gate, IsAdmitted}
use Rattle.net_model.specs.Lawful.{AreLawfulSteps}
use Rattle.net_model.specs.Numbers.{bit, digits}
use Rattle.net_model.specs.Solution.{IsSolution}
use Rattle.sign_cycles.specs.Agree.{IsNext, IsSettledKnown, after_offer}
use Rattle.sign_cycles.specs.BringUp.{IsAtLevel, IsBringUp, SetsInput, given_by, sets}

pub spot : Spot
spot = record { file = 0; at = 0 }

abbrev pub signal : Kind → Bool → Signal
signal kind output =
    record { path = []; width = 1; signed = false; low = 0; kind = kind; top_output = output; instance = 0; spot = spot }

abbrev pub bit_of : ℕ → Tree
bit_of i = Sized 1 false spot (tree.Whole i)

abbrev pub rise : ℕ → Watched
rise i = record { signal = i; selection = Whole; edge = edge.Pos; spot = spot }

abbrev pub store : Tree → Actions
store e = Then (Set (whole_of 3 spot) e true spot) Done

abbrev pub clear : Actions
clear = store (Sized 1 false spot (Literal (Zero ∷ [])))

abbrev pub body : Actions
body = Then (If (bit_of 1) clear (With (store (bit_of 2))) spot) Done

abbrev pub list : List Watched
list = rise 0 ∷ rise 1 ∷ []

-- clk, rst, a and q
abbrev pub design : Flat
design =
    record {
      signals = signal TopInput false ∷ signal TopInput false ∷ signal TopInput false ∷ signal Var true ∷ [];
      tasks = record { does = Edge' list body; instance = 0; spot = spot } ∷ [];
    }

-- ---- its chain

abbrev pub guard : Guard
guard = record { item = rise 1; test = bit_of 1; branch = clear }

abbrev pub chain : Chain
chain = record { resets = guard ∷ []; clock = rise 0; part = store (bit_of 2) }

tests_bit : (f : Fill) (n : Values) (bits : List Bit) → n 1 ≡ bits → length bits ≡ 1 → has_unknown bits ≡ false → is_one (truth_bit (digits f n (bit_of 1))) ≡ is_active n (rise 1)
tests_bit f n [] is wide known = absurd (omega (arith, wide))
tests_bit f n (Zero ∷ []) is wide known = rw is refl
tests_bit f n (One ∷ []) is wide known = rw is refl
tests_bit f n (X ∷ []) is wide known = absurd (true≢false known)
tests_bit f n (Z ∷ []) is wide known = absurd (true≢false known)
tests_bit f n (b ∷ c ∷ bits) is wide known = absurd (omega (arith, wide))

tests : Tests design guard
tests f n numbers = tests_bit f n (n 1) refl (numbers.wide 1) (numbers.known 1)

pub is_chain : IsChain design list body chain
is_chain =
    record {
      chained = (store (bit_of 2), spot, refl, refl);
      items = IsPermutation-refl list;
      tests = All-cons (Tests design) guard [] tests (All-nil (Tests design));
    }

-- ---- a settled state: a is 1, all else is 0

abbrev pub first : Values
first zero = Zero ∷ []
first (suc zero) = Zero ∷ []
first (suc (suc zero)) = One ∷ []
first (suc (suc (suc zero))) = Zero ∷ []
first (suc (suc (suc (suc i)))) = []

abbrev pub low : State
low = settled_at design first

at_rest : IsAtRest design low
at_rest =
    record {
      no_active = record { inputs = λ i is. refl; processes = λ p is. refl; drivers = λ p is. refl; updates = refl };
      no_delayed = refl;
    }

first_wide : (i : ℕ) → length (first i) ≡ widths design i
first_wide zero = refl
first_wide (suc zero) = refl
first_wide (suc (suc zero)) = refl
first_wide (suc (suc (suc zero))) = refl
first_wide (suc (suc (suc (suc i)))) = refl

first_known : (i : ℕ) → has_unknown (first i) ≡ false
first_known zero = refl
first_known (suc zero) = refl
first_known (suc (suc zero)) = refl
first_known (suc (suc (suc zero))) = refl
first_known (suc (suc (suc (suc i)))) = refl

pub one_bit : (b : Bit) → is_unknown b ≡ false → (k : ℕ) → k < 1 → is_unknown (slice_index_or (b ∷ []) k X) ≡ false
one_bit b known zero below = known
one_bit b known (suc k) below = absurd (omega (arith, below))

bits_known : (i k : ℕ) → k < widths design i → is_unknown (bit first i k) ≡ false
bits_known zero k inside = one_bit Zero refl k inside
bits_known (suc zero) k inside = one_bit Zero refl k inside
bits_known (suc (suc zero)) k inside = one_bit One refl k inside
bits_known (suc (suc (suc zero))) k inside = one_bit Zero refl k inside
bits_known (suc (suc (suc (suc i)))) k inside = absurd (omega (arith, inside))

abbrev has_edges : Option Doing → Bool
has_edges None = true
has_edges (Some (Assign target e)) = false
has_edges (Some (Comb list' body')) = false
has_edges (Some (Edge' events body')) = true

edges_alone : (p : ℕ) → has_edges (doing_at design p) ≡ true
edges_alone zero = refl
edges_alone (suc p) = refl

no_other : (p : ℕ) (o : Option Doing) → doing_at design p ≡ o → has_edges o ≡ false → ⊥
no_other p o is edges = true≢false (sym (edges_alone p) ∙ ap has_edges is ∙ edges)

pub register_written : MayWrite (body_flow (widths design) body) 3 0
register_written = (decided (body_flow (widths design) body) 3 0).writes.0 refl

all_sourced : (i k : ℕ) → k < widths design i → is_input design i ≡ false → ((p : ℕ) → OfProcess MayWrite design.signals design.tasks p i k → ⊥) → ⊥
all_sourced zero k inside input none = true≢false input
all_sourced (suc zero) k inside input none = true≢false input
all_sourced (suc (suc zero)) k inside input none = true≢false input
all_sourced (suc (suc (suc zero))) zero inside input none = none 0 register_written
all_sourced (suc (suc (suc zero))) (suc k) inside input none = omega (arith, inside)
all_sourced (suc (suc (suc (suc i)))) k inside input none = omega (arith, inside)

solution : (f : Fill) → IsSolution design f first first first
solution f =
    record {
      numbers = record { wide = first_wide; known = first_known };
      inputs = λ i is. refl;
      kept = λ i k is. refl;
      assigns = λ p target e is. absurd (no_other p (Some (Assign target e)) is refl);
      blocks = λ p list' body' is. absurd (no_other p (Some (Comb list' body')) is refl);
      others = λ i k inside input none. absurd (all_sourced i k inside input none);
    }

settled : (f : Fill) → IsSettledKnown design (λ p. chain) f low first
settled f =
    record {
      rest = at_rest;
      wide = first_wide;
      shows = λ i k inside lasts. record { known = bits_known i k inside; same = refl };
      drivers = λ p target e is. absurd (no_other p (Some (Assign target e)) is refl);
      solution = solution f;
      resets = λ p events body' is guard' active. absurd (false≢true (ap is_some active));
    }

-- ---- an edge of the clock, after which q is 1

pub clock : IsClockOrReset design 0
clock =
    record {
      input = refl;
      signal = 0;
      reached = Itself;
      edges = record { process = 0; events = list; body = body; does = refl; waits = refl };
    }

abbrev pub rises : Setting
rises = record { input = 0; number = One ∷ [] }

one_zero : ◌≢◌ {A = Bit} One Zero
one_zero h = true≢false (ap is_one h)

pub lawful : AreLawfulSteps design first (Turn rises ∷ [])
lawful = (
  record {
    control = clock_control design 0 clock;
    can_be = record { wide = refl; known = refl };
    other = λ h. one_zero (ap (λ bits. slice_index_or bits 0 X) h);
  },
  tt,
)

abbrev events : List Event
events = Input 0 ∷ Run 0 ∷ Activate ∷ Delayed ∷ []

abbrev high : State
high = run design (after_offer low (rises ∷ [])) events

shows_one : bit high.value 3 0 ≡ One
shows_one = refl

pub some_delayed : (us : List Write) (others : List (List Write)) → ◌≢◌ {A = List (List Write)} (us ∷ others) []
some_delayed us others h = omega (arith, ap (λ (all : List (List Write)). length all) h)

pub none_offered : (o : ℕ → Option (List Bit)) → o 0 ≡ None → o 1 ≡ None → o 2 ≡ None → (i : ℕ) → IsTrue (is_input design i) → o i ≡ None
none_offered o clk rst a zero is = clk
none_offered o clk rst a (suc zero) is = rst
none_offered o clk rst a (suc (suc zero)) is = a
none_offered o clk rst a (suc (suc (suc zero))) is = absurd (false≢true is)
none_offered o clk rst a (suc (suc (suc (suc i)))) is = absurd (false≢true is)

pub none_assigned : (p : ℕ) → is_assignment (doing_at design p) ≡ false
none_assigned zero = refl
none_assigned (suc p) = refl

pub all_wait : (woken : ℕ → Bool) → woken 0 ≡ false → (p : ℕ) → IsSome (doing_at design p) → woken p ≡ false
all_wait woken waits zero there = waits
all_wait woken waits (suc p) there = absurd (false≢true there)

high_rests : IsAtRest design high
high_rests =
    record {
      no_active = record {
        inputs = none_offered high.offered refl refl refl;
        processes = all_wait high.woken refl;
        drivers = λ p is. absurd (false≢true (sym (none_assigned p) ∙ is));
        updates = refl;
      };
      no_delayed = refl;
    }

abbrev pub ran : State
ran = run design (after_offer low (rises ∷ [])) (Input 0 ∷ Run 0 ∷ [])

pub asked : HasNoActive design ran
asked =
    record {
      inputs = none_offered ran.offered refl refl refl;
      processes = all_wait ran.woken refl;
      drivers = λ p is. absurd (false≢true (sym (none_assigned p) ∙ is));
      updates = refl;
    }

rises_next : IsNext design low (rises ∷ []) high
rises_next =
    record {
      reaches = record {
        events = events;
        can = ((refl, refl), ((refl, refl), ((asked, λ h. absurd (omega (arith, ap length h))), ((λ h. absurd (omega (arith, ap length h))), tt))));
        leads = refl;
      };
      rest = high_rests;
    }

-- ---- a bring-up: one step that sets all inputs, with the reset active

abbrev pub set_to : ℕ → Bit → Setting
set_to i b = record { input = i; number = b ∷ [] }

abbrev all_set : List Setting
all_set = set_to 0 Zero ∷ set_to 1 One ∷ set_to 2 One ∷ []

each_set : (i : ℕ) → IsTrue (is_input design i) → IsTrue (list_any (sets i) (all_set ∷ []))
each_set zero is = refl
each_set (suc zero) is = refl
each_set (suc (suc zero)) is = refl
each_set (suc (suc (suc zero))) is = absurd (false≢true is)
each_set (suc (suc (suc (suc i)))) is = absurd (false≢true is)

-- nothing goes through ports
no_port : (i j : ℕ) → IsPassedOn design i j → ⊥
no_port i j h =
    no_other h.process (Some (Assign (whole_of j h.connection.spot) h.value)) (ap doing_of h.connection.there ∙ ap Some h.connection.does) refl

-- there is no block without edges, and so no latch
pub no_comb : (p : ℕ) (events : Option (List Watched)) (other : Actions) → doing_at design p ≡ Some (Comb events other) → ⊥
no_comb p events other does = no_other p (Some (Comb events other)) does refl

pub no_latch : (p : ℕ) (gate : Gate) → IsAdmitted design p gate → ⊥
no_latch p gate admitted = no_comb p admitted.latch.list admitted.latch.body admitted.latch.does

pub itself : (c i : ℕ) → IsReached design c i → c ≡ i
itself c i Itself = refl
itself c i (Through i' j reached passed) = absurd (no_port i' j passed)

resets_on : IsAtLevel design (given_by (power_up design).value (all_set ∷ [])) guard
resets_on c input reached =
    subst (λ (i : ℕ). bit (given_by (power_up design).value (all_set ∷ [])) i 0 ≡ One) (sym (itself c 1 reached)) refl

are_set : All (SetsInput design) all_set
are_set =
    All-cons (SetsInput design) (set_to 0 Zero) (set_to 1 One ∷ set_to 2 One ∷ []) (record { input = refl; can_be = record { wide = refl; known = refl } })
    (All-cons (SetsInput design) (set_to 1 One) (set_to 2 One ∷ []) (record { input = refl; can_be = record { wide = refl; known = refl } })
    (All-cons (SetsInput design) (set_to 2 One) [] (record { input = refl; can_be = record { wide = refl; known = refl } }) (All-nil (SetsInput design))))

bring_up : IsBringUp design (λ p. chain) (all_set ∷ [])
bring_up =
    record {
      some_step = λ h. absurd (omega (arith, ap length h));
      settings = All-cons (All (SetsInput design)) all_set [] are_set (All-nil (All (SetsInput design)));
      all_set = each_set;
      resets = λ p list' body' is. All-cons (IsAtLevel design (given_by (power_up design).value (all_set ∷ []))) guard [] resets_on (All-nil (IsAtLevel design (given_by (power_up design).value (all_set ∷ []))));
      gates = λ p gate admitted. absurd (no_latch p gate admitted);
    }
