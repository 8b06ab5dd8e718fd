-- A register without a reset before it is known, `always @(posedge clk) q <= d; assign y = q ? 1'b1 : 1'b0;`: a settled state in
-- which q and y are x, both numbers that they may have, marks, and the state after an edge.
use Rattle.std.proofs.Common.{◌≡◌, ◌<◌, ◌==◌, ◌||◌, ℕ, zero, suc, Bool, true, false, List, [], ◌∷◌, length, Option, None, Some, refl, sym, ap, subst, arith}
use Rattle.std.specs.Prelude.{IsSome, IsTrue}
use Rattle.std.specs.Option.{is_some}
use Rattle.std.proofs.lemmas.Bool.{and_parts, eqb-true, false≢true, true≢false}
use Rattle.rtl_bits.specs.declared.Bit.{Bit}
use Rattle.rtl_bits.specs.declared.Bit.TheVariants.{Zero, One, X}
use Rattle.rtl_bits.specs.declared.Edge.TheVariants as edge
use Rattle.rtl_bits.specs.Bits.{has_unknown}
use Rattle.text_ground.specs.declared.text.Spot.{Spot}
use Rattle.rtl_flat.specs.declared.signal.Signal.{Signal}
use Rattle.rtl_flat.specs.declared.signal.Kind.{Kind}
use Rattle.rtl_flat.specs.declared.signal.Kind.TheVariants.{Net, TopInput, Var}
use Rattle.rtl_flat.specs.Expression.{Tree, Sized, Chosen, Literal}
use Rattle.rtl_flat.specs.Expression as tree
use Rattle.rtl_flat.specs.Flows.{all_bits, body_flow, flow_of, may_target}
use Rattle.rtl_flat.specs.Paths.{MayWrite}
use Rattle.rtl_flat.specs.PathSets.{OfProcess}
use Rattle.rtl_flat.specs.Process.{Whole, Piece, Watched, Set, Actions, Assign, Comb, Done, Then, Doing, Edge'}
use Rattle.rtl_flat.specs.Value.{value}
use Rattle.rtl_flat.proofs.Paths.{decided}
use Rattle.event_model.specs.Queue.{State, Event, Input, Evaluate, Update, Run, Delayed, Activate, HasNoActive, IsAtRest, doing_at, drive_now, is_assignment, is_input, run, settled_at}
use Rattle.rtl_flat.specs.Flats.{Flat, widths}
use Rattle.event_model.specs.Writes.{Values, driven}
use Rattle.net_model.specs.declared.fill.Fill.{Fill}
use Rattle.net_model.specs.Control.{whole_of}
use Rattle.net_model.specs.Cycle.{Chain, Setting}
use Rattle.net_model.specs.Numbers.{bit, digits}
use Rattle.net_model.specs.Solution.{IsSolution}
use Rattle.net_covers.specs.Marks.{AreMarks, IsMarked}
use Rattle.net_covers.specs.event_covers.Covers.{IsPlainTree, MayBe}
use Rattle.sign_cycles.specs.Agree.{IsNext, after_offer}
use Rattle.sign_unknown.specs.Laws.{AreStartMarks}
use Rattle.sign_unknown.specs.Unknown.{IsCompletion, IsSettledPartly}

spot : Spot
spot = record { file = 0; at = 0 }

abbrev signal : Kind → Bool → Signal
signal kind output =
    record { path = []; width = 1; signed = false; low = 0; kind = kind; top_output = output; instance = 0; spot = spot }

abbrev bit_of : ℕ → Tree
bit_of i = Sized 1 false spot (tree.Whole i)

abbrev constant : Bit → Tree
constant b = Sized 1 false spot (Literal (b ∷ []))

abbrev rise : Watched
rise = record { signal = 0; selection = Whole; edge = edge.Pos; spot = spot }

abbrev store : Actions
store = Then (Set (whole_of 2 spot) (bit_of 1) true spot) Done

abbrev picked : Tree
picked = Sized 1 false spot (Chosen (bit_of 2) (constant One) (constant Zero))

-- clk, d, q and y
abbrev design : Flat
design =
    record {
      signals = signal TopInput false ∷ signal TopInput false ∷ signal Var false ∷ signal Net true ∷ [];
      tasks = record { does = Edge' (rise ∷ []) store; instance = 0; spot = spot } ∷ record { does = Assign (whole_of 3 spot) picked; instance = 0; spot = spot } ∷ [];
    }

abbrev chains : ℕ → Chain
chains p = record { resets = []; clock = rise; part = store }

-- clk is 0, d is 1, and q and y are one bit
abbrev both : Bit → Values
both b zero = Zero ∷ []
both b (suc zero) = One ∷ []
both b (suc (suc zero)) = b ∷ []
both b (suc (suc (suc zero))) = b ∷ []
both b (suc (suc (suc (suc i)))) = []

abbrev unknown : State
unknown = settled_at design (both X)

-- ---- its processes

nets : (P : List Piece → Tree → Type 0) → P (whole_of 3 spot) picked → (p : ℕ) (target : List Piece) (e : Tree) → doing_at design p ≡ Some (Assign target e) → P target e
nets P given zero target e is = absurd (cc)
nets P given (suc zero) target e is =
    let left : whole_of 3 spot ≡ target = cc in
    let right : picked ≡ e = cc in
    subst (λ t. P t e) left (subst (P (whole_of 3 spot)) right given)
nets P given (suc (suc p)) target e is = absurd (cc)

no_comb : (p : ℕ) (list : Option (List Watched)) (body : Actions) → doing_at design p ≡ Some (Comb list body) → ⊥
no_comb zero list body is = absurd (cc)
no_comb (suc zero) list body is = absurd (cc)
no_comb (suc (suc p)) list body is = absurd (cc)

-- what is no bit of a signal
past : (j i k : ℕ) → j < 4 → all_bits (widths design) j (suc (suc (suc (suc i)))) k ≡ true → ⊥
past j i k below h =
    let same = eqb-true (suc (suc (suc (suc i)))) j (and_parts (suc (suc (suc (suc i))) == j) _ h).0 in
    omega (arith, below, same)

one : (a : Bool) → (a || false) ≡ true → a ≡ true
one true h = refl
one false h = h

two : (a : Bool) → ((a || false) || false) ≡ true → a ≡ true
two true h = refl
two false h = h

-- y has what its driver gives of q
y_driven : (b : Bit) (i k : ℕ) → may_target (widths design) (whole_of 3 spot) i k ≡ true → bit (both b) i k ≡ bit (driven (widths design) (whole_of 3 spot) (b ∷ [])) i k
y_driven b zero k is = absurd (false≢true is)
y_driven b (suc zero) k is = absurd (false≢true is)
y_driven b (suc (suc zero)) k is = absurd (false≢true is)
y_driven b (suc (suc (suc zero))) k is = refl
y_driven b (suc (suc (suc (suc i)))) k is = absurd (past 3 i k (omega arith) (one (all_bits (widths design) 3 (suc (suc (suc (suc i)))) k) is))

-- ---- the settled state

wide : (b : Bit) (i : ℕ) → length (both b i) ≡ widths design i
wide b zero = refl
wide b (suc zero) = refl
wide b (suc (suc zero)) = refl
wide b (suc (suc (suc zero))) = refl
wide b (suc (suc (suc (suc i)))) = refl

inputs_known : (i : ℕ) → IsTrue (is_input design i) → has_unknown (both X i) ≡ false
inputs_known zero is = refl
inputs_known (suc zero) is = refl
inputs_known (suc (suc zero)) is = absurd (false≢true is)
inputs_known (suc (suc (suc zero))) is = absurd (false≢true is)
inputs_known (suc (suc (suc (suc i)))) is = refl

at_rest : IsAtRest design unknown
at_rest =
    record {
      no_active = record { inputs = λ i is. refl; processes = λ p is. refl; drivers = λ p is. refl; updates = refl };
      no_delayed = refl;
    }

settled : IsSettledPartly design chains unknown
settled =
    record {
      rest = at_rest;
      wide = wide X;
      inputs = inputs_known;
      registers = λ i k register reset. absurd (reset k register refl);
      drivers = λ p target e is. ap (drive_now (both X)) is;
      driven = nets (λ target e. (i k : ℕ) → may_target (widths design) target i k ≡ true → bit (both X) i k ≡ bit (driven (widths design) target (value (both X) e)) i k) (y_driven X);
      consistent = λ p list body is. absurd (no_comb p list body is);
    }

-- ---- its completions

may : (b : Bit) (i k : ℕ) → MayBe (bit (both X) i k) (bit (both b) i k)
may b zero k known = refl
may b (suc zero) k known = refl
may b (suc (suc zero)) zero known = absurd (true≢false known)
may b (suc (suc zero)) (suc k) known = refl
may b (suc (suc (suc zero))) zero known = absurd (true≢false known)
may b (suc (suc (suc zero))) (suc k) known = refl
may b (suc (suc (suc (suc i)))) k known = refl

same_inputs : (b : Bit) (i : ℕ) → IsTrue (is_input design i) → both X i ≡ both b i
same_inputs b zero is = refl
same_inputs b (suc zero) is = refl
same_inputs b (suc (suc zero)) is = absurd (false≢true is)
same_inputs b (suc (suc (suc zero))) is = absurd (false≢true is)
same_inputs b (suc (suc (suc (suc i)))) is = refl

q_written : MayWrite (body_flow (widths design) store) 2 0
q_written = (decided (body_flow (widths design) store) 2 0).writes.0 refl

y_written : MayWrite (flow_of (widths design) (Assign (whole_of 3 spot) picked)) 3 0
y_written = (decided (flow_of (widths design) (Assign (whole_of 3 spot) picked)) 3 0).writes.0 refl

all_sourced : (i k : ℕ) → k < widths design i → is_input design i ≡ false → ((p : ℕ) → OfProcess MayWrite design.signals design.tasks p i k → ⊥) → ⊥
all_sourced zero k inside input none = true≢false input
all_sourced (suc zero) k inside input none = true≢false input
all_sourced (suc (suc zero)) zero inside input none = none 0 q_written
all_sourced (suc (suc zero)) (suc k) inside input none = omega (arith, inside)
all_sourced (suc (suc (suc zero))) zero inside input none = none 1 y_written
all_sourced (suc (suc (suc zero))) (suc k) inside input none = omega (arith, inside)
all_sourced (suc (suc (suc (suc i)))) k inside input none = omega (arith, inside)

module _ (f : Fill) (b : Bit) (known : has_unknown (b ∷ []) ≡ false) (picks : digits f (both b) picked ≡ b ∷ []) where
  number_known : (i : ℕ) → has_unknown (both b i) ≡ false
  number_known zero = refl
  number_known (suc zero) = refl
  number_known (suc (suc zero)) = known
  number_known (suc (suc (suc zero))) = known
  number_known (suc (suc (suc (suc i)))) = refl

  solution : IsSolution design f (both b) (both b) (both b)
  solution =
      record {
        numbers = record { wide = wide b; known = number_known };
        inputs = λ i is. refl;
        kept = λ i k is. refl;
        assigns = nets (λ target e. (i k : ℕ) → may_target (widths design) target i k ≡ true → bit (both b) i k ≡ bit (driven (widths design) target (digits f (both b) e)) i k)
            (subst (λ bits. (i k : ℕ) → may_target (widths design) (whole_of 3 spot) i k ≡ true → bit (both b) i k ≡ bit (driven (widths design) (whole_of 3 spot) bits) i k) (sym picks) (y_driven b));
        blocks = λ p list body is. absurd (no_comb p list body is);
        others = λ i k inside input none. absurd (all_sourced i k inside input none);
      }

  completes : IsCompletion design chains f unknown (both b)
  completes =
      record {
        inputs = same_inputs b;
        registers = λ i k either. may b i k;
        solution = solution;
        resets = λ p events body is guard active. absurd (false≢true (ap is_some active));
      }

as_zero : (f : Fill) → IsCompletion design chains f unknown (both Zero)
as_zero f = completes f Zero refl refl

as_one : (f : Fill) → IsCompletion design chains f unknown (both One)
as_one f = completes f One refl refl

-- ---- marks

abbrev marked : ℕ → Bool
marked zero = false
marked (suc zero) = false
marked (suc (suc zero)) = true
marked (suc (suc (suc zero))) = true
marked (suc (suc (suc (suc i)))) = false

q_marked : (i k : ℕ) → MayWrite (body_flow (widths design) store) i k → marked i ≡ true
q_marked zero k h = absurd (false≢true ((decided (body_flow (widths design) store) zero k).writes.1 h))
q_marked (suc zero) k h = absurd (false≢true ((decided (body_flow (widths design) store) 1 k).writes.1 h))
q_marked (suc (suc zero)) k h = refl
q_marked (suc (suc (suc zero))) k h = refl
q_marked (suc (suc (suc (suc i)))) k h =
    absurd (past 2 i k (omega arith) (two (all_bits (widths design) 2 (suc (suc (suc (suc i)))) k) ((decided (body_flow (widths design) store) (suc (suc (suc (suc i)))) k).writes.1 h)))

y_marked : (i k : ℕ) → MayWrite (flow_of (widths design) (Assign (whole_of 3 spot) picked)) i k → marked i ≡ true
y_marked zero k h = absurd (false≢true ((decided (flow_of (widths design) (Assign (whole_of 3 spot) picked)) zero k).writes.1 h))
y_marked (suc zero) k h = absurd (false≢true ((decided (flow_of (widths design) (Assign (whole_of 3 spot) picked)) 1 k).writes.1 h))
y_marked (suc (suc zero)) k h = refl
y_marked (suc (suc (suc zero))) k h = refl
y_marked (suc (suc (suc (suc i)))) k h =
    absurd (past 3 i k (omega arith) (two (all_bits (widths design) 3 (suc (suc (suc (suc i)))) k) ((decided (flow_of (widths design) (Assign (whole_of 3 spot) picked)) (suc (suc (suc (suc i)))) k).writes.1 h)))

written_marked : (p : ℕ) (does : Doing) → doing_at design p ≡ Some does → (i k : ℕ) → MayWrite (flow_of (widths design) does) i k → marked i ≡ true
written_marked zero does is i k h =
    let same : does ≡ Edge' (rise ∷ []) store = cc in
    q_marked i k (subst (λ one. MayWrite (flow_of (widths design) one) i k) same h)
written_marked (suc zero) does is i k h =
    let same : does ≡ Assign (whole_of 3 spot) picked = cc in
    y_marked i k (subst (λ one. MayWrite (flow_of (widths design) one) i k) same h)
written_marked (suc (suc p)) does is i k h = absurd (cc)

clocked : (p : ℕ) (events : List Watched) (body : Actions) → doing_at design p ≡ Some (Edge' events body) → IsMarked design (λ i. marked i ≡ true) body
clocked zero events body is =
    let same : store ≡ body = cc in
    subst (IsMarked design (λ i. marked i ≡ true)) same (record { decides = λ i k choice. absurd (false≢true choice); plain = (tt, tt) })
clocked (suc zero) events body is = absurd (cc)
clocked (suc (suc p)) events body is = absurd (cc)

are_marks : AreMarks design (λ i. marked i ≡ true)
are_marks =
    record {
      spreads = λ p does is j l i k outside doubt h. written_marked p does is i k h;
      nets = nets (λ target e. IsPlainTree e) (tt, tt, tt);
      blocks = λ p list body is. absurd (no_comb p list body is);
      clocked = clocked;
    }

start_marks : AreStartMarks design chains (λ i. marked i ≡ true)
start_marks =
    record {
      marks = are_marks;
      registers = λ i k register free.
          absurd (free (written_marked register.process (Edge' register.events register.body) register.does i k register.may));
      latches = λ i k latch.
          absurd (no_comb latch.process latch.admitted.latch.list latch.admitted.latch.body latch.admitted.latch.does);
    }

-- ---- an edge of the clock, after which q and y are 1, whatever q was taken for

abbrev rises : Setting
rises = record { input = 0; number = One ∷ [] }

abbrev events : List Event
events = Input 0 ∷ Run 0 ∷ Activate ∷ Delayed ∷ Evaluate 1 ∷ Update 1 ∷ []

abbrev high : State
high = run design (after_offer unknown (rises ∷ [])) events

shows_known : (bit high.value 2 0 ≡ One) × (bit high.value 3 0 ≡ One)
shows_known = (refl, refl)

none_offered : (o : ℕ → Option (List Bit)) → o 0 ≡ None → o 1 ≡ None → (i : ℕ) → IsTrue (is_input design i) → o i ≡ None
none_offered o clk d zero is = clk
none_offered o clk d (suc zero) is = d
none_offered o clk d (suc (suc zero)) is = absurd (false≢true is)
none_offered o clk d (suc (suc (suc zero))) is = absurd (false≢true is)
none_offered o clk d (suc (suc (suc (suc i)))) is = absurd (false≢true is)

all_wait : (woken : ℕ → Bool) → woken 0 ≡ false → woken 1 ≡ false → (p : ℕ) → IsSome (doing_at design p) → woken p ≡ false
all_wait woken first second zero there = first
all_wait woken first second (suc zero) there = second
all_wait woken first second (suc (suc p)) there = absurd (false≢true there)

none_pending : (pending : ℕ → Option (List Bit)) → pending 1 ≡ None → (p : ℕ) → IsTrue (is_assignment (doing_at design p)) → pending p ≡ None
none_pending pending none zero is = absurd (false≢true is)
none_pending pending none (suc zero) is = none
none_pending pending none (suc (suc p)) is = absurd (false≢true is)

abbrev ran : State
ran = run design (after_offer unknown (rises ∷ [])) (Input 0 ∷ Run 0 ∷ [])

asked : HasNoActive design ran
asked =
    record {
      inputs = none_offered ran.offered refl refl;
      processes = all_wait ran.woken refl refl;
      drivers = none_pending ran.pending refl;
      updates = refl;
    }

rises_next : IsNext design unknown (rises ∷ []) high
rises_next =
    record {
      reaches = record {
        events = events;
        can = ((refl, refl), ((refl, refl), ((asked, λ h. absurd (omega (arith, ap length h))), ((λ h. absurd (omega (arith, ap length h))), ((refl, refl), ((refl, refl), tt))))));
        leads = refl;
      };
      rest = record {
        no_active = record {
          inputs = none_offered high.offered refl refl;
          processes = all_wait high.woken refl refl;
          drivers = none_pending high.pending refl;
          updates = refl;
        };
        no_delayed = refl;
      };
    }
