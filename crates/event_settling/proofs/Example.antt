-- `always @(posedge clk) q <= a; assign y = q;` of one bit: a design with a clock that settles by level.
use Rattle.std.proofs.Common.{◌≡◌, ◌+◌, ◌∙◌, ◌⊎◌, ◌==◌, ◌&&◌, ◌||◌, ◌<◌, ℕ, zero, suc, Bool, true, false, List, [], ◌∷◌, Option, None, Some, refl, sym, subst, inl, inr, arith}
use Rattle.std.specs.Prelude.{IsTrue}
use Rattle.std.specs.List.{All}
use Rattle.std.proofs.lemmas.Bool.{eqb-true, false≢true}
use Rattle.std.proofs.lemmas.List.Elements.{All-cons, All-nil}
use Rattle.rtl_bits.specs.declared.Edge.TheVariants.{Pos}
use Rattle.text_ground.specs.declared.text.Spot.{Spot}
use Rattle.rtl_flat.specs.declared.signal.Signal.{Signal}
use Rattle.rtl_flat.specs.declared.signal.Kind.{Kind}
use Rattle.rtl_flat.specs.declared.signal.Kind.TheVariants.{Net, TopInput, Var}
use Rattle.rtl_flat.specs.Expression.{Tree, Sized}
use Rattle.rtl_flat.specs.Expression as tree
use Rattle.rtl_flat.specs.Flows.{body_flow, flow_of}
use Rattle.rtl_flat.specs.Levels.{IsArrow, IsBehindCycle, IsLevel, IsNode, Chain, Here, Then}
use Rattle.rtl_flat.specs.Paths.{MayWrite, MayWriteNow, ReadsOutside}
use Rattle.rtl_flat.specs.PathSets.{Lists, OfProcess}
use Rattle.rtl_flat.specs.Process.{Actions, Assign, Comb, Doing, Edge', Piece, Set, Task, Watched, Whole}
use Rattle.rtl_flat.specs.Process as part
use Rattle.rtl_flat.specs.Signs.{Has}
use Rattle.rtl_flat.specs.WellFormed.{AreApart, IsAssignment, IsFixed, IsProcess, IsSelection, IsWatched, has_edge}
use Rattle.rtl_flat.proofs.Paths.{decided}
use Rattle.event_model.specs.Queue.{doing_at}
use Rattle.rtl_flat.specs.Flats.{Flat, widths}
use Rattle.net_model.specs.Control.{InClockCone, IsFromTop, Itself}
use Rattle.event_runs.specs.event_laws.Steady.{AreLawful}
use Rattle.event_runs.proofs.event_laws_proofs.Steady.{lawful_processes}
use Rattle.event_runs.proofs.event_laws_proofs.Within.{may_read_outside}
use Rattle.event_runs.proofs.Writers.{to_process}
use Rattle.event_settling.specs.Conditions.{AreRulesKept}
use Rattle.event_settling.specs.Settling.{AlwaysSettles, IsSettling}
use Rattle.event_settling.proofs.Conditions.{rules_settle}
use Rattle.event_settling.proofs.Rests.{always_settled}

abbrev spot : Spot
spot = record { file = 0; at = 0 }

abbrev signal : Kind → Signal
signal kind = record { path = []; width = 1; signed = false; low = 0; kind = kind; top_output = false; instance = 0; spot = spot }

abbrev signals : List Signal
signals = signal TopInput ∷ signal TopInput ∷ signal Var ∷ signal Net ∷ []

abbrev piece : ℕ → Piece
piece i = record { signal = i; selection = Whole; spot = spot }

abbrev whole : ℕ → Tree
whole i = Sized 1 false spot (tree.Whole i)

abbrev clock : Watched
clock = record { signal = 0; selection = Whole; edge = Pos; spot = spot }

abbrev body : Actions
body = part.Then (Set (piece 2 ∷ []) (whole 1) true spot) part.Done

abbrev register : Doing
register = Edge' (clock ∷ []) body

abbrev link : Doing
link = Assign (piece 3 ∷ []) (whole 2)

abbrev task : Doing → Task
task does = record { does = does; instance = 0; spot = spot }

abbrev pub design : Flat
design = record { signals = signals; tasks = task register ∷ task link ∷ [] }

abbrev pub level : ℕ → Option ℕ
level zero = None
level (suc p) = Some 0

-- ---- what is read and written

first_of_and : (a b : Bool) → (((a && b) || false) || false) ≡ true → a ≡ true
first_of_and true b h = refl
first_of_and false b h = h

register_writes : (i k : ℕ) → MayWrite (flow_of (widths design) register) i k → i ≡ 2
register_writes i k h =
    eqb-true i 2 (first_of_and (i == 2) _ ((decided (flow_of (widths design) register) i k).writes.1 h))

link_writes : (i k : ℕ) → MayWrite (flow_of (widths design) link) i k → i ≡ 3
link_writes i k h =
    eqb-true i 3 (first_of_and (i == 3) _ ((decided (flow_of (widths design) link) i k).writes.1 h))

first_of_and' : (a b : Bool) → ((a && b) || false) ≡ true → a ≡ true
first_of_and' true b h = refl
first_of_and' false b h = h

link_reads : (i k : ℕ) → ReadsOutside (flow_of (widths design) link) i k → i ≡ 2
link_reads i k h =
    eqb-true i 2 (first_of_and' (i == 2) _ ((decided (flow_of (widths design) link) i k).reads.1 (may_read_outside _ i k h)))

-- ---- levels

abbrev Arrow : ℕ → ℕ → Type 0
Arrow = IsArrow design.signals design.tasks

only_node : (p : ℕ) → IsNode design.tasks p → p ≡ 1
only_node zero h = absurd h
only_node (suc zero) h = refl
only_node (suc (suc p)) h = absurd h

apart : (s k : ℕ) → OfProcess MayWrite design.signals design.tasks 1 s k → OfProcess ReadsOutside design.signals design.tasks 1 s k → ⊥
apart s k writes reads =
    let e = link_writes s k writes in
    let f = link_reads s k reads in
    omega (arith, e, f)

no_arrow : (p q : ℕ) → Arrow p q → ⊥
no_arrow p q arrow = by_wanted arrow.wanted
  where
    at : p ≡ 1
    at = only_node p arrow.«from»

    to : q ≡ 1
    to = only_node q arrow.to

    by_wanted :
        OfProcess ReadsOutside design.signals design.tasks q arrow.signal arrow.bit ⊎ ((p ≡ q → ⊥) × Lists design.signals design.tasks q arrow.signal arrow.bit) →
        ⊥
    by_wanted (inl reads) =
        apart arrow.signal arrow.bit
        (subst (λ (j : ℕ). OfProcess MayWrite design.signals design.tasks j arrow.signal arrow.bit) at arrow.written)
        (subst (λ (j : ℕ). OfProcess ReadsOutside design.signals design.tasks j arrow.signal arrow.bit) to reads)
    by_wanted (inr other) = other.0 (at ∙ sym to)

no_chain : (n p q : ℕ) → Chain Arrow n p q → n ≡ 0
no_chain n p q (Here r) = refl
no_chain n p q (Then m a b r chain arrow) = absurd (no_arrow b r arrow)

no_cycle : (p : ℕ) → IsBehindCycle Arrow p → ⊥
no_cycle p h = let e = no_chain (suc h.round) h.node h.node h.cycle in omega (arith, e)

levels : (p : ℕ) → p < 2 → IsLevel design.signals design.tasks p (level p)
levels zero below = record { of_node = λ node. absurd node; of_edge = λ none. refl }
levels (suc zero) below =
    record {
      of_node = λ node. (no_cycle 1, record { start = 1; chain = Here 1; most = λ m q chain. let e = no_chain m q 1 chain in omega (arith, e) });
      of_edge = λ none. absurd (none tt);
    }
levels (suc (suc p)) below = absurd (omega (arith, below))

-- ---- the design is lawful

abbrev CanBe : Piece → Type 0
CanBe one = IsSelection signals one.signal one.selection

abbrev IsA : Kind → Piece → Type 0
IsA kind one = Has (λ s. s.kind ≡ kind) signals one.signal

abbrev IsKnown : Piece → Type 0
IsKnown one = IsFixed one.selection

assigns :
    (kind : Kind) (target source : ℕ) → target < 4 → source < 4 → widths design target ≡ 1 → widths design source ≡ 1 →
    IsA kind (piece target) → IsAssignment signals kind (piece target ∷ []) (whole source)
assigns kind target source inside inside' one one' is =
    record {
      parts = All-cons CanBe (piece target) [] inside (All-nil CanBe);
      kinds = All-cons (IsA kind) (piece target) [] is (All-nil (IsA kind));
      not_empty = omega (arith, one);
      at_most = omega (arith, one);
      sized = record {
        widths = (omega arith, record { not_empty = omega (arith, one'); inside = omega (arith, one'); whole = λ _. one' }, inside');
        signs = ((λ signed. absurd (cc)), tt);
      };
      covered = omega (arith, one);
    }

watched : IsWatched signals clock
watched = record { inside = omega arith; whole = λ edge. tt; one_bit = λ edge. refl }

register_is : IsProcess signals register
register_is = (
  All-cons (IsWatched signals) clock [] watched (All-nil (IsWatched signals)),
  refl,
  (assigns Var 2 1 (omega arith) (omega arith) refl refl refl, tt),
)

link_is : IsProcess signals link
link_is =
    (assigns Net 3 2 (omega arith) (omega arith) refl refl refl, All-cons IsKnown (piece 3) [] tt (All-nil IsKnown), (All-nil (AreApart signals (piece 3)), tt))

abbrev CanDo : Task → Type 0
CanDo one = IsProcess signals one.does

pub lawful : AreLawful design
lawful = lawful_processes design (All-cons CanDo (task register) (task link ∷ []) register_is (All-cons CanDo (task link) [] link_is (All-nil CanDo)))

-- ---- it keeps the rules, so that it settles

no_comb : (p : ℕ) (list : Option (List Watched)) (b : Actions) → doing_at design p ≡ Some (Comb list b) → ⊥
no_comb zero list b e = cc
no_comb (suc zero) list b e = cc
no_comb (suc (suc p)) list b e = let z : None ≡ Some (Comb list b) = e in cc

-- the one block with an edge
edge_is : (p : ℕ) (events : List Watched) (b : Actions) → doing_at design p ≡ Some (Edge' events b) → (clock ∷ [] ≡ events) × (body ≡ b)
edge_is zero events b e = let f : register ≡ Edge' events b = cc in (cc, cc)
edge_is (suc zero) events b e = absurd (cc)
edge_is (suc (suc p)) events b e = absurd (let z : None ≡ Some (Edge' events b) = e in cc)

never_now : (i k : ℕ) → MayWriteNow (body_flow (widths design) body) i k → ⊥
never_now i k now = false≢true ((decided (body_flow (widths design) body) i k).now.1 now)

writer : (p i k : ℕ) → OfProcess MayWrite design.signals design.tasks p i k → i ≡ 2 + p
writer zero i k h = register_writes i k h
writer (suc zero) i k h = link_writes i k h
writer (suc (suc p)) i k h = absurd h

abbrev HasEdge : Watched → Type 0
HasEdge item = IsTrue (has_edge item.edge)

abbrev IsClock : Watched → Type 0
IsClock item = IsFromTop design item.signal

edges : All HasEdge (clock ∷ [])
edges = All-cons HasEdge clock [] refl (All-nil HasEdge)

clocks : All IsClock (clock ∷ [])
clocks =
    All-cons IsClock clock [] (record { top = 0; input = refl; reached = Itself }) (All-nil IsClock)

kept : AreRulesKept design level
kept =
    record {
      levels = levels;
      no_cycle = no_cycle;
      temporaries = λ p events b e i k now.
          absurd (never_now i k (subst (λ (x : Actions). MayWriteNow (body_flow (widths design) x) i k) (sym (edge_is p events b e).1) now));
      no_late = λ p list b e i k late. no_comb p list b e;
      select = λ p list b e. absurd (no_comb p list b e);
      alone = λ p q does other e f i k may may'.
          let first = writer p i k (to_process MayWrite design p i k does e may) in
          let second = writer q i k (to_process MayWrite design q i k other f may') in
          omega (arith, first, second);
      edges = λ p events b e. subst (All HasEdge) (edge_is p events b e).0 edges;
      clocks = λ p events b e. subst (All IsClock) (edge_is p events b e).0 clocks;
    }

pub settling : IsSettling design level (InClockCone design)
settling = rules_settle design lawful level kept

-- no step of it is ever stopped
always : AlwaysSettles design level
always = always_settled design lawful level (InClockCone design) settling
