-- Signals that clocks and resets reach, and who writes and reads them.
use Rattle.std.proofs.Common.{◌≡◌, ◌∙◌, ◌⊎◌, ◌<◌, ◌==◌, ℕ, zero, suc, true, false, List, [], ◌∷◌, Option, None, Some, refl, sym, ap, subst, inl, inr, arith}
use Rattle.std.specs.Prelude.{IsTrue}
use Rattle.std.specs.List.{slice_get}
use Rattle.std.specs.Option.{IsSomeAnd}
use Rattle.std.proofs.lemmas.Bool.{and_from, and_parts, eq-eqb, le-leb, lt-ltb, cases_eq, eqb-true, false≢true, or_cases, or_left}
use Rattle.std.proofs.lemmas.List.Elements.{All-get_or, All-head}
use Rattle.std.proofs.lemmas.Option.{get_or_from_slice_get, slice_get_within}
use Rattle.text_ground.specs.declared.text.Spot.{Spot}
use Rattle.rtl_flat.specs.declared.signal.Signal.{Signal}
use Rattle.rtl_flat.specs.declared.signal.Kind.TheVariants.{Net, Var}
use Rattle.rtl_flat.specs.Expression.{Tree}
use Rattle.rtl_flat.specs.Flows.{flow_of, may_select, may_target, reads}
use Rattle.rtl_flat.specs.Paths.{MayRead, MayWrite, ReadsOutside}
use Rattle.rtl_flat.specs.PathSets.{IsTemporaryOf, Uses, items_list, listed}
use Rattle.rtl_flat.specs.Process.{Selection, Whole, BitAt, BitBy, Part, Piece, Watched, Actions, Doing, Assign, Edge', Task}
use Rattle.rtl_flat.specs.Signs.{Has, width_in}
use Rattle.rtl_flat.specs.WellFormed.{IsWatched, IsWhole}
use Rattle.rtl_flat.proofs.Paths.{decided}
use Rattle.event_model.specs.Queue.{doing_at, doing_of, is_input, is_input_of}
use Rattle.rtl_flat.specs.Flats.{Flat, widths}
use Rattle.net_model.specs.Control.{IsClockOrReset, IsPassedOn, IsReached, InClockCone, Itself, Through, waits_for, whole_of}
use Rattle.event_runs.proofs.event_laws_proofs.Within.{may_read_outside}
use Rattle.event_edges.specs.Synchronous.{IsItem, IsSynchronous}
use Rattle.event_edges.proofs.Hearing.{passing}

-- ---- processes and signals

-- what holds of the task with a number, where it is known what it does
pub at_task : (d : Flat) (p : ℕ) (does : Doing) → doing_at d p ≡ Some does → (P : Task → Type 0) → ((task : Task) → task.does ≡ does → P task) → IsSomeAnd (slice_get d.tasks p) P
at_task d p does is P h = by (slice_get d.tasks p) is
  where
    by : (o : Option Task) → doing_of o ≡ Some does → IsSomeAnd o P
    by None e = absurd (cc)
    by (Some task) e = h task (let same : task.does ≡ does = cc in same)

pub of_task : (d : Flat) (p : ℕ) (does : Doing) → doing_at d p ≡ Some does → (P : Doing → Type 0) → IsSomeAnd (slice_get d.tasks p) (λ task. P task.does) → P does
of_task d p does is P h = by (slice_get d.tasks p) is h
  where
    by : (o : Option Task) → doing_of o ≡ Some does → IsSomeAnd o (λ task. P task.does) → P does
    by None e h = absurd h
    by (Some task) e h = subst P (let same : task.does ≡ does = cc in same) h

-- a temporary is used by no other process
module _ (d : Flat) (p i : ℕ) (temporary : IsTemporaryOf d.signals d.tasks p i) where
  pub unread : (q : ℕ) (does : Doing) → doing_at d q ≡ Some does → (q ≡ p → ⊥) → (k : ℕ) → MayRead (flow_of (widths d) does) i k → ⊥
  unread q does is other k reads =
      temporary.alone q other (at_task d q does is (λ task. Uses (widths d) task i)
      (λ task same. record { bit = k; used = inr (inl (subst (λ x. MayRead (flow_of (widths d) x) i k) (sym same) reads)) }))

  pub unlisted : (q : ℕ) (does : Doing) → doing_at d q ≡ Some does → (q ≡ p → ⊥) → (k : ℕ) → listed (widths d) does i k ≡ true → ⊥
  unlisted q does is other k lists =
      temporary.alone q other (at_task d q does is (λ task. Uses (widths d) task i)
      (λ task same. record { bit = k; used = inr (inr (subst (λ x. listed (widths d) x i k ≡ true) (sym same) lists)) }))

  pub not_outside : (does : Doing) → doing_at d p ≡ Some does → (k : ℕ) → ReadsOutside (flow_of (widths d) does) i k → ⊥
  not_outside does is =
      of_task d p does is (λ x. (k : ℕ) → ReadsOutside (flow_of (widths d) x) i k → ⊥) temporary.inside

-- a process that reads no temporary of another
pub unread_outside :
    (d : Flat) (p i : ℕ) → IsTemporaryOf d.signals d.tasks p i → (q : ℕ) (does : Doing) → doing_at d q ≡ Some does →
    (k : ℕ) → ReadsOutside (flow_of (widths d) does) i k → ⊥
unread_outside d p i temporary q does is k reads =
    elim (cases_eq q p) [
      | inl same ↦ not_outside d p i temporary does (ap (doing_at d) (sym same) ∙ is) k reads
      | inr other ↦ unread d p i temporary q does is other k (may_read_outside (flow_of (widths d) does) i k reads)
    ]

-- an assignment reads and may write
pub assign_reads : (ws : ℕ → ℕ) (target : List Piece) (e : Tree) (i k : ℕ) → reads ws e i k ≡ true → MayRead (flow_of ws (Assign target e)) i k
assign_reads ws target e i k h =
    (decided (flow_of ws (Assign target e)) i k).reads.0 (or_left (reads ws e i k) _ h)

pub assign_writes : (ws : ℕ → ℕ) (target : List Piece) (e : Tree) (i k : ℕ) → may_target ws target i k ≡ true → MayWrite (flow_of ws (Assign target e)) i k
assign_writes ws target e i k h =
    (decided (flow_of ws (Assign target e)) i k).writes.0 (or_left (may_target ws target i k) _ h)

-- a whole signal of one bit is written
pub whole_bit : (ws : ℕ → ℕ) (j : ℕ) (spot : Spot) → ws j ≡ 1 → may_target ws (whole_of j spot) j 0 ≡ true
whole_bit ws j spot one =
    let inside : 0 < ws j = omega (arith, one) in
    or_left (may_select ws j Whole j 0) false
    (and_from _ _ (eq-eqb j j refl) (and_from _ _ (le-leb 0 0 (omega arith)) (and_from _ _ (lt-ltb 0 (ws j) inside) (lt-ltb 0 (ws j) inside))))

-- a signal has one kind
input_kind : (o : Option Signal) → is_input_of o ≡ true → IsSomeAnd o (λ s. s.kind ≡ Var) → ⊥
input_kind None is var = var
input_kind (Some s) is var =
    let input : is_input_of (Some s) ≡ true = is in
    absurd (false≢true (sym (ap (λ k. is_input_of (Some (record s { kind = k }))) var) ∙ input))

input_net : (o : Option Signal) → is_input_of o ≡ true → IsSomeAnd o (λ s. s.kind ≡ Net) → ⊥
input_net None is net = net
input_net (Some s) is net =
    let input : is_input_of (Some s) ≡ true = is in
    absurd (false≢true (sym (ap (λ k. is_input_of (Some (record s { kind = k }))) net) ∙ input))

net_kind : (o : Option Signal) → IsSomeAnd o (λ s. s.kind ≡ Net) → IsSomeAnd o (λ s. s.kind ≡ Var) → ⊥
net_kind None net var = net
net_kind (Some s) net var = cc

abbrev pub IsVariable : Flat → ℕ → Type 0
IsVariable d i = Has (λ s. s.kind ≡ Var) d.signals i

-- a bit of a selection is of its signal
pub of_signal : (ws : ℕ → ℕ) (signal : ℕ) (selection : Selection) (i k : ℕ) → may_select ws signal selection i k ≡ true → i ≡ signal
of_signal ws signal Whole i k is = eqb-true i signal (and_parts (i == signal) _ is).0
of_signal ws signal (BitAt low index) i k is = eqb-true i signal (and_parts (i == signal) _ is).0
of_signal ws signal (BitBy low index) i k is = eqb-true i signal (and_parts (i == signal) _ is).0
of_signal ws signal (Part low width) i k is = eqb-true i signal (and_parts (i == signal) _ is).0

exact_width : (n : ℕ) (signals : List Signal) (i : ℕ) → Has (λ s. s.width ≡ n) signals i → width_in signals i ≡ n
exact_width n [] i h = absurd h
exact_width n (s ∷ signals) zero h = h
exact_width n (s ∷ signals) (suc i) h = exact_width n signals i h

-- an item that is listed
pub record IsListed (ws : ℕ → ℕ) (events : List Watched) (i k : ℕ) : Type 0 where
  pub place : ℕ
  pub item : Watched
  pub there : slice_get events place ≡ Some item
  pub same : i ≡ item.signal

pub listed_item : (ws : ℕ → ℕ) (events : List Watched) (i k : ℕ) → items_list ws events i k ≡ true → IsListed ws events i k
listed_item ws [] i k h = absurd (false≢true h)
listed_item ws (item ∷ events) i k h =
    elim (or_cases (may_select ws item.signal item.selection i k) (items_list ws events i k) h) [
      | inl here ↦ record { place = 0; item = item; there = refl; same = of_signal ws item.signal item.selection i k here }
      | inr later ↦
          let one = listed_item ws events i k later in
          record { place = suc one.place; item = one.item; there = one.there; same = one.same }
    ]

-- ---- the cone

module _ (d : Flat) (sync : IsSynchronous d) where
  -- what a connection does
  pub connection_does : (i j : ℕ) (passed : IsPassedOn d i j) → doing_at d passed.process ≡ Some (Assign (whole_of j passed.connection.spot) passed.value)
  connection_does i j passed = ap doing_of passed.connection.there ∙ ap Some passed.connection.does

  pub port_net : (i j : ℕ) → IsPassedOn d i j → Has (λ s. s.kind ≡ Net) d.signals j
  port_net i j passed =
      All-head (λ (piece : Piece). Has (λ s. s.kind ≡ Net) d.signals piece.signal) _ []
      (sync.lawful passed.process _ (connection_does i j passed)).0.kinds

  -- it writes the port
  pub port_written : (i j : ℕ) (passed : IsPassedOn d i j) → MayWrite (flow_of (widths d) (Assign (whole_of j passed.connection.spot) passed.value)) j 0
  port_written i j passed = assign_writes (widths d) (whole_of j passed.connection.spot) passed.value j 0
      (whole_bit (widths d) j passed.connection.spot passed.port_bit)

  -- no variable is reached from an input
  pub reached_apart : (c : ℕ) → IsTrue (is_input d c) → (i : ℕ) → IsReached d c i → IsVariable d i → ⊥
  reached_apart c input _ Itself var = input_kind (slice_get d.signals c) input var
  reached_apart c input _ (Through k j r passed) var = net_kind (slice_get d.signals j) (port_net k j passed) var

  -- a signal is reached from one input alone
  pub one_start : (c c' i i' : ℕ) → IsTrue (is_input d c) → IsTrue (is_input d c') → i ≡ i' → IsReached d c i → IsReached d c' i' → c ≡ c'
  one_start c c' _ _ input input' e Itself Itself = e
  one_start c c' _ _ input input' e Itself (Through k j r passed) =
      absurd (input_net (slice_get d.signals c) input (subst (λ x. Has (λ s. s.kind ≡ Net) d.signals x) (sym e) (port_net k j passed)))
  one_start c c' _ _ input input' e (Through k j r passed) Itself =
      absurd (input_net (slice_get d.signals c') input' (subst (λ x. Has (λ s. s.kind ≡ Net) d.signals x) e (port_net k j passed)))
  one_start c c' _ _ input input' e (Through k j r passed) (Through k' j' r' passed') =
      one_start c c' k k' input input' source r r'
    where
      process : passed.process ≡ passed'.process
      process =
          sync.alone passed.process passed'.process _ _ (connection_does k j passed) (connection_does k' j' passed') j 0 (port_written k j passed)
          (subst (λ x. MayWrite (flow_of (widths d) (Assign (whole_of j' passed'.connection.spot) passed'.value)) x 0) (sym e) (port_written k' j' passed'))

      value : passed.value ≡ passed'.value
      value =
          let does : Some (Assign (whole_of j passed.connection.spot) passed.value) ≡ Some (Assign (whole_of j' passed'.connection.spot) passed'.value) = sym (connection_does k j passed) ∙ ap (doing_at d) process ∙ connection_does k' j' passed' in
          cc

      source : k ≡ k'
      source = passed'.alone.alone k passed.alone.bit (ap (λ t. reads (widths d) t k passed.alone.bit) (sym value) ∙ passed.alone.read)

  -- ---- events of processes

  module _ (p : ℕ) (events : List Watched) (body : Actions) (item : Watched) (is : IsItem d p events body item) where
    watched : IsWatched d.signals item
    watched =
        let all = (sync.lawful p (Edge' events body) is.does).0 in
        subst (IsWatched d.signals) (get_or_from_slice_get events is.place item item is.there)
        (All-get_or (IsWatched d.signals) events is.place item (slice_get_within events is.place item is.there) all)

    pub item_width : widths d item.signal ≡ 1
    item_width =
        exact_width 1 d.signals item.signal (watched.one_bit (sync.edges p events body item is))

    pub item_whole : item.selection ≡ Whole
    item_whole = by item.selection refl
      where
        whole : IsWhole item.selection
        whole = watched.whole (sync.edges p events body item is)

        by : (selection : Selection) → item.selection ≡ selection → selection ≡ Whole
        by Whole e = refl
        by (BitAt low index) e = absurd (subst IsWhole e whole)
        by (BitBy low index) e = absurd (subst IsWhole e whole)
        by (Part low width) e = absurd (subst IsWhole e whole)

    pub item_fixed : IsVariable d item.signal → ⊥
    item_fixed =
        let top = sync.clocks p events body item is in
        reached_apart top.top top.input item.signal top.reached

    -- the input from which it comes is a clock or a reset
    pub item_clock : (c : ℕ) → IsTrue (is_input d c) → IsReached d c item.signal → IsClockOrReset d c
    item_clock c input reached =
        record {
          input = input;
          signal = item.signal;
          reached = reached;
          edges = record {
            process = p;
            events = events;
            body = body;
            does = is.does;
            waits = passing (waits_for item.signal) events is.place item is.there
                (and_from _ _ (eq-eqb item.signal item.signal refl) (sync.edges p events body item is));
          };
        }

    -- it comes from a given input or it doesn't
    pub item_reached : (c : ℕ) → IsTrue (is_input d c) → IsReached d c item.signal ⊎ (IsReached d c item.signal → ⊥)
    item_reached c input =
        let top = sync.clocks p events body item is in
        elim (cases_eq top.top c) [
          | inl same ↦ inl (subst (λ x. IsReached d x item.signal) same top.reached)
          | inr other ↦ inr (λ reached. other (one_start top.top c item.signal item.signal top.input input refl top.reached reached))
        ]

    pub item_in_cone : InClockCone d item.signal
    item_in_cone =
        let top = sync.clocks p events body item is in
        record { clock = top.top; is_clock = item_clock top.top top.input top.reached; reached = top.reached }
