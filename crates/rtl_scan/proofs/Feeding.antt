-- The rows of who feeds whom, from what each process adds to them.
use Rattle.std.proofs.Common.{ℕ, zero, suc, ◌≡◌, ◌∙◌, ◌<◌, ◌≤◌, ◌+◌, replicate, ◌^◌, arith, Bool, true, false, List, [], ◌∷◌, ◌++◌, map, length, get_or, Option, Some, None, refl, sym, ap, subst, inl, inr}
use Rattle.std.specs.Prelude.{Vec, ◌⊎◌, ◌↔◌}
use Rattle.std.specs.declared.alloc.Global.{Global}
use Rattle.std.specs.List.{slice_get}
use Rattle.std.specs.Option.{IsSomeAnd}
use Rattle.std.proofs.lemmas.Bool.{cases_eq}
use Rattle.std.proofs.lemmas.Option.{slice_get_within, slice_get_read}
use Rattle.std.proofs.lemmas.List.{length-append, get_or_append_left, get_or_push, get_or_default}
use Rattle.rtl_flat.specs.declared.signal.Signal.{Signal}
use Rattle.rtl_flat.specs.Signs.{width_in}
use Rattle.rtl_flat.specs.Process.{Task, Doing, Assign, Comb, Edge', task, doing}
use Rattle.rtl_flat.specs.Paths.{BitSet, Flow, MayWrite, ReadsOutside, may_write, reads_outside}
use Rattle.rtl_flat.specs.Flows.{flow_of}
use Rattle.rtl_flat.specs.PathSets.{Lists, OfProcess, listed}
use Rattle.rtl_flat.specs.Levels.{HasNoEdge, IsNode, IsArrow, Chain, Here, Then, IsBehindCycle, IsLevelIn, IsLevel}
use Rattle.rtl_flat.proofs.Paths.{decided}
use Rattle.rtl_flat.specs.declared.act.Process.{Process}
use Rattle.rtl_flat.specs.declared.design.Design.{Design}
use Rattle.rtl_flat.specs.Flats.{flat, widths}
use Rattle.rtl_scan.proofs.Processes.{below_next, there, back, length-tasks}
use Rattle.rtl_scan.specs.Graph.{row, ArrowIn, AreRows, AreDepths}
use Rattle.rtl_scan.specs.declared.bits.Row.{Row}
use Rattle.rtl_scan.specs.declared.arrows.Writer.{Writer}
use Rattle.rtl_scan.specs.declared.arrows.Feeders.{Feeders}
use Rattle.rtl_scan.specs.Accesses.{AreAccesses, AreOfEach}
use Rattle.rtl_scan.specs.Sets.{has_rows}
use Rattle.rtl_scan.specs.Arrows.{Among, InTable, Grows, MayCome, FedBy, AreSeen, Gathers, is_node, IsWriting, IsNoted, AreWriters, IsAwaited, IsFed, AreFeeders, AreFed, AreArrows, level_of, AreKept, AreLevels, AreAccessed, AreOf, IsFeeding, lists_count}
use Rattle.rtl_scan.specs.declared.accesses.Accesses.{Accesses}
use Rattle.rtl_scan.specs.declared.bits.Bits.{Bits}
use Rattle.rtl_scan.specs.declared.feeds.Accessed.{Accessed}
use Rattle.rtl_scan.specs.declared.feeds.Waits.{Waits}
use Rattle.rtl_scan.specs.declared.feeds.Waits.TheVariants.{ReadsAndLists}
use Rattle.rtl_scan.proofs.Tables.{gathers_then, among_at}

module _ (ws : ℕ → ℕ) (task : Task) where
  -- by what it reads, and by what it lists
  pub feeds_noted : (waits : Waits) → lists_count waits ≡ true → (table : List (Vec Writer Global)) (node : Bool) → node ≡ is_node task.does → node ≡ true → (reads lists : List Row) → ((s k : ℕ) → has_rows reads s k ≡ reads_outside (flow_of ws task.does) s k) → ((s k : ℕ) → has_rows lists s k ≡ listed ws task.does s k) → (old mid new : Feeders) → Gathers (FedBy table (has_rows reads) true old.process) old mid → Gathers (FedBy table (has_rows lists) false mid.process) mid new → Gathers (λ p. IsFed waits ws table p old.process task) old new
  feeds_noted waits counts table node is some reads lists at at' old mid new one two =
      gathers_then (FedBy table (has_rows reads) true old.process) (FedBy table (has_rows lists) false mid.process) (λ p. IsFed waits ws table p old.process task) old mid new (λ p. (
        λ h. elim h [
          | inl ((s, k, bit, writes), come) ↦ (sym is ∙ some, inl (s, k, sym (at s k) ∙ bit, writes))
          | inr ((s, k, bit, writes), come) ↦ (sym is ∙ some, inr (counts, λ e. apart mid.process p come (e ∙ sym one.same), (s, k, sym (at' s k) ∙ bit, writes)))
        ],
        λ h. elim h.1 [
          | inl (s, k, bit, writes) ↦ inl ((s, k, at s k ∙ bit, writes), inl refl)
          | inr (counts', other, (s, k, bit, writes)) ↦ inr ((s, k, at' s k ∙ bit, writes), inr (λ e. other (e ∙ one.same)))
        ],
      )) one two
    where
      apart : (q p : ℕ) → MayCome false q p → p ≡ q → ⊥
      apart q p (inl e) same = cc
      apart q p (inr other) same = other same

  -- from none
  pub feeders_are : (waits : Waits) (table : List (Vec Writer Global)) (number : ℕ) (old new : Feeders) → old.process ≡ number → old.row.items ≡ [] → Gathers (λ p. IsFed waits ws table p old.process task) old new → AreFeeders waits ws table task number old.seen.items new
  feeders_are waits table number old new is empty h = record {
    each = λ most p. (
      λ i. elim ((h.each (start most) p).0 i) [
        | inl was ↦ absurd (subst (λ (xs : List ℕ). Among xs p) empty was)
        | inr fed ↦ subst (λ (q : ℕ). IsFed waits ws table p q task) is fed
      ],
      λ fed. (h.each (start most) p).1 (inr (subst (λ (q : ℕ). IsFed waits ws table p q task) (sym is) fed)),
    );
    most = λ most p. subst (λ (q : ℕ). get_or new.seen.items p 0 ≤ q + 1) (h.same ∙ is) ((h.seen (start most)).most p);
  }
    where
      start : ((p : ℕ) → get_or old.seen.items p 0 ≤ number) → AreSeen old
      start most = record {
        most = λ p. let fits = most p in omega arith;
        there = λ p e. absurd (let fits = most p in omega arith);
      }

pub writers_none : (ws : ℕ → ℕ) (tasks : List Task) (table : List (Vec Writer Global)) → table ≡ [] → AreWriters ws tasks 0 table
writers_none ws tasks table empty = record {
  each = λ p s k. (
    λ h. absurd (subst (λ (t : List (Vec Writer Global)). InTable t p s k) empty h),
    λ h. absurd (let less = h.0 in omega arith),
  );
}

pub writers_more : (ws : ℕ → ℕ) (tasks : List Task) (n : ℕ) (task : Task) → slice_get tasks n ≡ Some task → (old new : List (Vec Writer Global)) → AreWriters ws tasks n old → Grows (IsNoted ws task n) old new → AreWriters ws tasks (n + 1) new
writers_more ws tasks n task at old new h grows = record {
  each = λ p s k. (
    λ i. elim ((grows.each p s k).0 i) [
      | inl was ↦ let (less, one) = (h.each p s k).0 was in (omega arith, one)
      | inr here ↦ (let e = here.1 in omega arith, subst (λ (j : ℕ). IsSomeAnd (slice_get tasks j) (IsWriting ws s k)) (sym here.1) (there (IsWriting ws s k) tasks n task at here.0))
    ],
    λ i. elim (below_next p n i.0) [
      | inl before ↦ (grows.each p s k).1 (inl ((h.each p s k).1 (before, i.1)))
      | inr last ↦ (grows.each p s k).1 (inr (back (IsWriting ws s k) tasks n p task at last i.1, last))
    ],
  );
}

-- ---- rows that are pushed

row_last : (rows : List (Vec ℕ Global)) (v : Vec ℕ Global) (q : ℕ) → q ≡ length rows → row (rows ++ v ∷ []) q ≡ v.items
row_last [] v zero e = refl
row_last [] v (suc q) e = absurd (omega arith)
row_last (x ∷ rows) v zero e = absurd (omega arith)
row_last (x ∷ rows) v (suc q) e = row_last rows v q (omega arith)

row_other : (rows : List (Vec ℕ Global)) (v : Vec ℕ Global) (q : ℕ) → (q ≡ length rows → ⊥) → row (rows ++ v ∷ []) q ≡ row rows q
row_other [] v zero other = absurd (other refl)
row_other [] v (suc q) other = refl
row_other (x ∷ rows) v zero other = refl
row_other (x ∷ rows) v (suc q) other = row_other rows v q (λ e. other (ap suc e))

zeros_most : (n x : ℕ) → get_or (replicate n 0) x 0 ≤ 0
zeros_most zero x = omega arith
zeros_most (suc n) zero = omega arith
zeros_most (suc n) (suc x) = zeros_most n x

pub fed_none : (waits : Waits) (ws : ℕ → ℕ) (tasks : List Task) (table : List (Vec Writer Global)) (rows : List (Vec ℕ Global)) (seen : List ℕ) (n : ℕ) → rows ≡ [] → seen ≡ replicate n 0 → AreFed waits ws tasks table 0 rows × ((p : ℕ) → get_or seen p 0 ≤ 0)
fed_none waits ws tasks table rows seen n empty zeros = (
  record {
    each = λ p q. (
      λ h. absurd (subst (λ (t : List (Vec ℕ Global)). Among (row t q) p) empty h),
      λ h. absurd (let less = h.0 in omega arith),
    );
    same_length = ap length empty;
  },
  λ p. subst (λ (xs : List ℕ). get_or xs p 0 ≤ 0) (sym zeros) (zeros_most n p),
)

pub fed_more : (waits : Waits) (ws : ℕ → ℕ) (tasks : List Task) (table : List (Vec Writer Global)) (n : ℕ) (task : Task) → slice_get tasks n ≡ Some task → (old new : List (Vec ℕ Global)) (seen : List ℕ) (found : Feeders) → AreFed waits ws tasks table n old × ((p : ℕ) → get_or seen p 0 ≤ n) → AreFeeders waits ws table task n seen found → new ≡ old ++ found.row ∷ [] → AreFed waits ws tasks table (n + 1) new × ((p : ℕ) → get_or found.seen.items p 0 ≤ n + 1)
fed_more waits ws tasks table n task at old new seen found (h, most) are pushed = (
  record {
    each = λ p q. elim (cases_eq q n) [
      | inl e ↦
          let is : row new q ≡ found.row.items
          = ap (λ t. row t q) pushed ∙ row_last old found.row q (e ∙ sym h.same_length) in (
            λ i. (omega arith, subst (λ (j : ℕ). IsSomeAnd (slice_get tasks j) (IsFed waits ws table p j)) (sym e) (there (IsFed waits ws table p n) tasks n task at ((are.each most p).0 (subst (λ (xs : List ℕ). Among xs p) is i)))),
            λ i. subst (λ (xs : List ℕ). Among xs p) (sym is) ((are.each most p).1 (back (IsFed waits ws table p n) tasks n n task at refl (subst (λ (j : ℕ). IsSomeAnd (slice_get tasks j) (IsFed waits ws table p j)) e i.1))),
          )
      | inr other ↦
          let is : row new q ≡ row old q
          = ap (λ t. row t q) pushed ∙ row_other old found.row q (λ e. other (e ∙ h.same_length)) in (
            λ i. let (less, one) = (h.each p q).0 (subst (λ (xs : List ℕ). Among xs p) is i) in (omega arith, one),
            λ i. subst (λ (xs : List ℕ). Among xs p) (sym is) ((h.each p q).1 (let less = i.0 in omega arith, i.1)),
          )
    ];
    same_length = ap length pushed ∙ length-append old (found.row ∷ []) ∙ ap (λ m. m + 1) h.same_length;
  },
  are.most most,
)

-- ---- arrows

pub edge_node : (does : Doing) → is_node does ≡ true → HasNoEdge does
edge_node (Assign target value) h = tt
edge_node (Comb list body) h = tt
edge_node (Edge' events body) h = cc

pub node_edge : (does : Doing) → HasNoEdge does → is_node does ≡ true
node_edge (Assign target value) h = refl
node_edge (Comb list body) h = refl
node_edge (Edge' events body) h = absurd h

weaker : (P Q : Task → Type 0) (o : Option Task) → ((t : Task) → P t → Q t) → IsSomeAnd o P → IsSomeAnd o Q
weaker P Q None f h = h
weaker P Q (Some t) f h = f t h

both_hold : (P Q : Task → Type 0) (o : Option Task) → IsSomeAnd o P → IsSomeAnd o Q → IsSomeAnd o (λ t. P t × Q t)
both_hold P Q None h k = h
both_hold P Q (Some t) h k = (h, k)

pub out_of : (P : Task → Type 0) (o : Option Task) → IsSomeAnd o P → (t : Task) × (o ≡ Some t) × P t
out_of P None h = absurd h
out_of P (Some t) h = (t, refl, h)

module _ (waits : Waits) (signals : List Signal) (tasks : List Task) (table : List (Vec Writer Global)) (rows : List (Vec ℕ Global)) (w : AreWriters (width_in signals) tasks (length tasks) table) (each : (p q : ℕ) → Among (row rows q) p ↔ ((q < length tasks) × IsSomeAnd (slice_get tasks q) (IsFed waits (width_in signals) table p q))) where
  abbrev ws : ℕ → ℕ
  ws = width_in signals

  module _ (p q : ℕ) where
    awaited_arrow : (bits : BitSet) → IsAwaited table bits p → (s k : ℕ) × (bits s k ≡ true) × IsSomeAnd (slice_get tasks p) (IsWriting ws s k)
    awaited_arrow bits (s, k, bit, writes) = (s, k, bit, ((w.each p s k).0 writes).1)

    node_p : (s k : ℕ) → IsSomeAnd (slice_get tasks p) (IsWriting ws s k) → IsNode tasks p
    node_p s k = weaker (IsWriting ws s k) (λ t. HasNoEdge t.does) (slice_get tasks p) (λ t i. edge_node t.does i.0)

    written_p : (s k : ℕ) → IsSomeAnd (slice_get tasks p) (IsWriting ws s k) → OfProcess MayWrite signals tasks p s k
    written_p s k = weaker (IsWriting ws s k) (λ t. MayWrite (flow_of ws t.does) s k) (slice_get tasks p) (λ t i. (decided (flow_of ws t.does) s k).writes.0 i.1)

    to_arrow : Among (row rows q) p → IsFeeding waits signals tasks p q
    to_arrow h =
        let (task, at, (node, wants)) = out_of (IsFed waits ws table p q) (slice_get tasks q) ((each p q).0 h).1 in
        let node_q : IsNode tasks q = there (λ t. HasNoEdge t.does) tasks q task at (edge_node task.does node) in
        elim wants [
          | inl reads ↦
              let (s, k, bit, by) = awaited_arrow (reads_outside (flow_of ws task.does)) reads in record {
                «from» = node_p s k by;
                to = node_q;
                signal = s;
                bit = k;
                written = written_p s k by;
                wanted = inl (there (λ t. ReadsOutside (flow_of ws t.does) s k) tasks q task at ((decided (flow_of ws task.does) s k).outside.0 bit));
              }
          | inr (counts, other, lists) ↦
              let (s, k, bit, by) = awaited_arrow (listed ws task.does) lists in record {
                «from» = node_p s k by;
                to = node_q;
                signal = s;
                bit = k;
                written = written_p s k by;
                wanted = inr (counts, other, there (λ t. listed ws t.does s k ≡ true) tasks q task at bit);
              }
        ]

    of_arrow : IsFeeding waits signals tasks p q → Among (row rows q) p
    of_arrow a =
        let s = a.signal in
        let k = a.bit in
        let (writer', at_p, (edge_p, may)) = out_of (λ t. HasNoEdge t.does × MayWrite (flow_of ws t.does) s k) (slice_get tasks p) (both_hold (λ t. HasNoEdge t.does) (λ t. MayWrite (flow_of ws t.does) s k) (slice_get tasks p) a.«from» a.written) in
        let bit = (decided (flow_of ws writer'.does) s k).writes.1 may in
        let in_table : InTable table p s k = (w.each p s k).1 (slice_get_within tasks p writer' at_p, there (IsWriting ws s k) tasks p writer' at_p (node_edge writer'.does edge_p, bit)) in
        let (reader, at_q, edge_q) = out_of (λ t. HasNoEdge t.does) (slice_get tasks q) a.to in
        let wants : IsAwaited table (reads_outside (flow_of ws reader.does)) p ⊎ ((lists_count waits ≡ true) × (p ≡ q → ⊥) × IsAwaited table (listed ws reader.does) p)
        = elim a.wanted [
          | inl reads ↦ inl (s, k, (decided (flow_of ws reader.does) s k).outside.1 (back (λ t. ReadsOutside (flow_of ws t.does) s k) tasks q q reader at_q refl reads), in_table)
          | inr (counts, other, lists) ↦ inr (counts, other, (s, k, back (λ t. listed ws t.does s k ≡ true) tasks q q reader at_q refl lists, in_table))
        ] in
        (each p q).1 (slice_get_within tasks q reader at_q, there (IsFed waits ws table p q) tasks q reader at_q (node_edge reader.does edge_q, wants))

  arrows_are : length rows ≡ length tasks → AreArrows waits signals tasks rows
  arrows_are same = record {
    same_length = same;
    each = λ p q. (
      λ h. to_arrow p q ((among_at (row rows q) p).1 h),
      λ h. (among_at (row rows q) p).0 (of_arrow p q h),
    );
  }

pub arrows_fed : (waits : Waits) (signals : List Signal) (tasks : List Task) (n : ℕ) (table slice : List (Vec Writer Global)) → n ≡ length tasks → slice ≡ table → AreWriters (width_in signals) tasks n table → (rows : List (Vec ℕ Global)) → AreFed waits (width_in signals) tasks slice n rows → AreArrows waits signals tasks rows
arrows_fed waits signals tasks n table slice is there' w rows fed =
    let all : AreWriters (width_in signals) tasks (length tasks) table
    = subst (λ (m : ℕ). AreWriters (width_in signals) tasks m table) is w in
    let fed' : AreFed waits (width_in signals) tasks table (length tasks) rows
    = subst (λ (m : ℕ). AreFed waits (width_in signals) tasks table m rows) is (subst (λ (t : List (Vec Writer Global)). AreFed waits (width_in signals) tasks t n rows) there' fed) in
    arrows_are waits signals tasks table rows all fed'.each fed'.same_length

pub rows_of_arrows : (waits : Waits) (signals : List Signal) (tasks : List Task) (rows : List (Vec ℕ Global)) → AreArrows waits signals tasks rows → length tasks < 2 ^ 32 → AreRows rows
rows_of_arrows waits signals tasks rows h few = record {
  few = let same = h.same_length in omega arith;
  inside = λ q j less.
      let arrow = (h.each (get_or (row rows q) j 0) q).0 (j, less, refl) in
      let (task, at, node) = out_of (λ t. HasNoEdge t.does) (slice_get tasks (get_or (row rows q) j 0)) arrow.«from» in
      let below = slice_get_within tasks (get_or (row rows q) j 0) task at in
      subst (λ (m : ℕ). get_or (row rows q) j 0 < m) (sym h.same_length) below;
}

-- ---- levels

-- an arrow of the level graph
pub level_arrows : (signals : List Signal) (tasks : List Task) (rows : List (Vec ℕ Global)) → AreArrows ReadsAndLists signals tasks rows → (p q : ℕ) → ArrowIn rows p q ↔ IsArrow signals tasks p q
level_arrows signals tasks rows arrows p q = (
  λ h.
      let a = (arrows.each p q).0 h in record {
        «from» = a.«from»;
        to = a.to;
        signal = a.signal;
        bit = a.bit;
        written = a.written;
        wanted = elim a.wanted [ inl reads ↦ inl reads | inr (counts, other, lists) ↦ inr (other, lists) ];
      },
  λ a. (arrows.each p q).1 (record {
    «from» = a.«from»;
    to = a.to;
    signal = a.signal;
    bit = a.bit;
    written = a.written;
    wanted = elim a.wanted [ inl reads ↦ inl reads | inr (other, lists) ↦ inr (refl, other, lists) ];
  }),
)

module _ (A B : ℕ → ℕ → Type 0) (f : (p q : ℕ) → A p q → B p q) where
  pub chain_map : (n p q : ℕ) → Chain A n p q → Chain B n p q
  chain_map _ _ _ (Here p) = Here p
  chain_map _ _ _ (Then n p q r chain arrow) = Then n p q r (chain_map n p q chain) (f q r arrow)

  behind_map : (p : ℕ) → IsBehindCycle A p → IsBehindCycle B p
  behind_map p h = record {
    node = h.node;
    round = h.round;
    cycle = chain_map (suc h.round) h.node h.node h.cycle;
    length = h.length;
    chain = chain_map h.length h.node p h.chain;
  }

pub level_map : (A B : ℕ → ℕ → Type 0) → ((p q : ℕ) → A p q ↔ B p q) → (p : ℕ) (level : Option ℕ) → IsLevelIn A p level → IsLevelIn B p level
level_map A B same p None h = behind_map A B (λ p q. (same p q).0) p h
level_map A B same p (Some n) h = (
  λ behind. h.0 (behind_map B A (λ p q. (same p q).1) p behind),
  record {
    start = h.1.start;
    chain = chain_map A B (λ p q. (same p q).0) n h.1.start p h.1.chain;
    most = λ m q chain. h.1.most m q (chain_map B A (λ p q. (same p q).1) m q p chain);
  },
)

level_is : (signals : List Signal) (tasks : List Task) (rows : List (Vec ℕ Global)) → AreArrows ReadsAndLists signals tasks rows → (p : ℕ) (task : Task) → slice_get tasks p ≡ Some task → (depth : Option ℕ) → IsLevelIn (ArrowIn rows) p depth → IsLevel signals tasks p (level_of (is_node task.does) depth)
level_is signals tasks rows arrows p task at depth h = by (is_node task.does) refl
  where
    by : (b : Bool) → is_node task.does ≡ b → IsLevel signals tasks p (level_of b depth)
    by true e = record {
      of_node = λ node. level_map (ArrowIn rows) (IsArrow signals tasks) (level_arrows signals tasks rows arrows) p depth h;
      of_edge = λ none. absurd (none (there (λ t. HasNoEdge t.does) tasks p task at (edge_node task.does e)));
    }
    by false e = record {
      of_node = λ node. absurd (let yes = node_edge task.does (back (λ t. HasNoEdge t.does) tasks p p task at refl node) in let no' : true ≡ false = sym yes ∙ e in cc);
      of_edge = λ none. refl;
    }

pub found : (processes : List Process) (p : ℕ) → p < length processes → (x : Process) × (slice_get processes p ≡ Some x) × (slice_get (map task processes) p ≡ Some (task x))
found [] p below = absurd (omega arith)
found (x ∷ processes) zero below = (x, refl, refl)
found (x ∷ processes) (suc p) below = found processes p (omega arith)

pub levels_are : (signals : List Signal) (processes : List Process) (rows : List (Vec ℕ Global)) (depths levels : List (Option ℕ)) → AreArrows ReadsAndLists signals (map task processes) rows → (there' : List (Vec ℕ Global)) → there' ≡ rows → AreDepths there' depths → (slice : List (Option ℕ)) → slice ≡ depths → AreKept processes slice (length processes) levels → AreLevels signals (map task processes) levels
levels_are signals processes rows depths levels arrows there' same are slice same' kept =
    let len = length-tasks processes in
    let deep : AreDepths rows depths = subst (λ (x : List (Vec ℕ Global)). AreDepths x depths) same are in
    let kept' : AreKept processes depths (length processes) levels
    = subst (λ (x : List (Option ℕ)). AreKept processes x (length processes) levels) same' kept in
    record {
      same_length = kept'.same_length ∙ len;
      each = λ p below.
          let inside : p < length processes = omega arith in
          let (x, at, at_task) = found processes p inside in
          let rows_len = arrows.same_length in
          let row_inside : p < length rows = omega arith in
          subst (λ (o : Option ℕ). IsLevel signals (map task processes) p o) (sym (kept'.each p x inside at))
          (level_is signals (map task processes) rows arrows p (task x) at_task (get_or depths p None) (deep.each p row_inside));
    }

pub kept_more : (processes : List Process) (depths : List (Option ℕ)) (n : ℕ) (levels new : List (Option ℕ)) (x : Process) (d b : Option ℕ) → length depths ≡ length processes → n < length processes → x ≡ get_or processes n x → b ≡ level_of (is_node (doing x.does)) (get_or depths n d) → new ≡ levels ++ b ∷ [] → AreKept processes depths n levels → AreKept processes depths (n + 1) new
kept_more processes depths n levels new x d b same inside read is pushed h =
    subst (λ (xs : List (Option ℕ)). AreKept processes depths (n + 1) xs) (sym pushed) (record {
      same_length = length-append levels (b ∷ []) ∙ ap (λ m. m + 1) h.same_length;
      each = λ p y less at. elim (below_next p n less) [
        | inl before ↦ get_or_append_left levels (b ∷ []) None p (subst (λ (m : ℕ). p < m) (sym h.same_length) before) ∙ h.each p y before at
        | inr last ↦
            let e : Some x ≡ Some y = sym (slice_get_read processes (length processes) n x refl inside read) ∙ ap (slice_get processes) (sym last) ∙ at in
            let one : x ≡ y = cc in
            get_or_push levels b None p (h.same_length ∙ sym last) ∙ is
            ∙ ap (λ z. level_of (is_node (doing z.does)) (get_or depths n d)) one
            ∙ ap (level_of (is_node (doing y.does))) (get_or_default depths n d None (omega arith))
            ∙ ap (λ i. level_of (is_node (doing y.does)) (get_or depths i None)) (sym last)
      ];
    })

-- ---- what processes access

-- two tests that mean one thing
same_test : (a b : Bool) (P : Type 0) → a ≡ true ↔ P → b ≡ true ↔ P → a ≡ b
same_test true true P of_a of_b = refl
same_test true false P of_a of_b = sym (of_b.1 (of_a.0 refl))
same_test false true P of_a of_b = of_a.1 (of_b.0 refl)
same_test false false P of_a of_b = refl

module _ (signals : List Signal) (tasks : List Task) (kept : List Bits) where
  abbrev widths' : ℕ → ℕ
  widths' = width_in signals

  -- the bits of paths, by the test that decides them
  path_bits : (P : Flow → ℕ → ℕ → Type 0) (f : Flow → BitSet) → ((flow : Flow) (s k : ℕ) → f flow s k ≡ true ↔ P flow s k) → AreOfEach (OfProcess P signals tasks) (length tasks) kept → AreOf (λ t. f (flow_of widths' t.does)) tasks kept
  path_bits P f decides are = record {
    many = are.many;
    each = λ p bits task at at_task s k.
        let holds = λ (t : Task). P (flow_of widths' t.does) s k in
        let is = (are.each p bits at).bits s k in
        same_test (has_rows bits.rows.items s k) (f (flow_of widths' task.does) s k) (holds task)
        (λ h. back holds tasks p p task at_task refl (is.0 h), λ h. is.1 (there holds tasks p task at_task h))
        (decides (flow_of widths' task.does) s k);
  }

  list_bits : AreOfEach (Lists signals tasks) (length tasks) kept → AreOf (λ t. listed widths' t.does) tasks kept
  list_bits are = record {
    many = are.many;
    each = λ p bits task at at_task s k.
        let holds = λ (t : Task). listed widths' t.does s k ≡ true in
        let is = (are.each p bits at).bits s k in
        same_test (has_rows bits.rows.items s k) (listed widths' task.does s k) (holds task)
        (λ h. back holds tasks p p task at_task refl (is.0 h), λ h. is.1 (there holds tasks p task at_task h))
        (λ h. h, λ h. h);
  }

pub accessed_are : (design : Design) (found : Accesses) → AreAccesses (flat design).signals (flat design).tasks found → (given : Accessed) → given.design.now ≡ design → given.writes.now ≡ found.writes.items → given.reads.now ≡ found.reads.items → given.lists.now ≡ found.lists.items → AreAccessed given
accessed_are design found' are given is writes reads lists = record {
  writes = let d = flat design in subst (λ x. AreOf (λ t. may_write (flow_of (widths (flat x)) t.does)) (flat x).tasks given.writes.now) (sym is)
      (subst (λ xs. AreOf (λ t. may_write (flow_of (widths d) t.does)) d.tasks xs) (sym writes)
      (path_bits d.signals d.tasks found'.writes.items MayWrite may_write (λ flow s k. (decided flow s k).writes) are.writes));
  reads = let d = flat design in subst (λ x. AreOf (λ t. reads_outside (flow_of (widths (flat x)) t.does)) (flat x).tasks given.reads.now) (sym is)
      (subst (λ xs. AreOf (λ t. reads_outside (flow_of (widths d) t.does)) d.tasks xs) (sym reads)
      (path_bits d.signals d.tasks found'.reads.items ReadsOutside reads_outside (λ flow s k. (decided flow s k).outside) are.reads));
  lists = let d = flat design in subst (λ x. AreOf (λ t. listed (widths (flat x)) t.does) (flat x).tasks given.lists.now) (sym is)
      (subst (λ xs. AreOf (λ t. listed (widths d) t.does) d.tasks xs) (sym lists)
      (list_bits d.signals d.tasks found'.lists.items are.lists));
}

-- the bits of one process
pub bits_at : (set : Task → BitSet) (tasks : List Task) (kept : List Bits) → AreOf set tasks kept → (p : ℕ) (bits : Bits) (task : Task) → p < length tasks → bits ≡ get_or kept p bits → slice_get tasks p ≡ Some task → (slice : List Row) → slice ≡ (get_or kept p bits).rows.items → (s k : ℕ) → has_rows slice s k ≡ set task s k
bits_at set tasks kept are p bits task inside read at slice same s k =
    ap (λ rows. has_rows rows s k) (same ∙ ap (λ (b : Bits). b.rows.items) (sym read))
    ∙ are.each p bits task (slice_get_read kept (length tasks) p bits (sym are.many) inside read) at s k
