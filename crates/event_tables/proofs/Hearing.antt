-- What processes hear in tables.
use Rattle.std.proofs.Common.{ℕ, ◌≡◌, ◌∙◌, ◌<◌, ◌+◌, arith, Bool, true, false, not, ◌&&◌, ◌||◌, List, [], ◌∷◌, map, drop, length, Option, None, Some, Vec, refl, sym, ap, subst, inl, inr}
use Rattle.std.specs.Prelude.{◌==◌, nat_lt, ◌↔◌}
use Rattle.std.specs.List.{All, list_any, slice_get}
use Rattle.std.specs.Cmp.{both_ways}
use Rattle.std.specs.Option.{IsSomeAnd}
use Rattle.std.specs.declared.alloc.Global.{Global}
use Rattle.std.proofs.lemmas.Bool.{cases_eq, cases_lt, eq-eqb, ne_eqb, lt-ltb, le-ltb}
use Rattle.std.proofs.lemmas.List.Elements.{All-nil}
use Rattle.std.proofs.lemmas.Option.{slice_get_past}
use Rattle.rtl_bits.specs.declared.Bit.{Bit}
use Rattle.rtl_bits.specs.declared.Edge.TheVariants.{No}
use Rattle.rtl_flat.specs.declared.act.EventItem.{EventItem}
use Rattle.rtl_flat.specs.declared.signal.Signal.{Signal}
use Rattle.rtl_flat.specs.Signs.{width_in}
use Rattle.rtl_flat.specs.Expression.{Tree}
use Rattle.rtl_flat.specs.Process.{Piece, Actions, Doing, Assign, Comb, Edge', Task, watched, task}
use Rattle.rtl_flat.specs.Paths.{BitSet, ReadsOutside, reads_outside}
use Rattle.rtl_flat.specs.Flows.{reads, targets, flow_of}
use Rattle.rtl_flat.specs.PathSets.{OfProcess, Lists, listed}
use Rattle.rtl_flat.proofs.Paths.{decided}
use Rattle.event_write.specs.rtl_scan.declared.bits.Row.{Row}
use Rattle.event_write.specs.rtl_scan.Sets.{has_row, has_rows}
use Rattle.event_write.proofs.rtl_scan_proofs.Places.{width_past}
use Rattle.event_model.specs.Queue.{happens, hears, item_hears, doing_of, doing_at}
use Rattle.rtl_flat.specs.Flats.{Flat, widths}
use Rattle.event_write.specs.declared.listener.Listener.{Listener}
use Rattle.event_write.specs.Listeners.{AreBelow, heard_by}
use Rattle.event_write.specs.QueueState.{row}
use Rattle.event_tables.specs.Hearing.{Ear, ear_from, listens_of, listens_at, Hears, AreHeard}
use Rattle.event_tables.proofs.Deaf.{deaf}
use Rattle.event_tables.proofs.Ears.{bits_ear, silent, hears_is, hears_nothing, hears_then, hears_same, row_past}

-- ---- rows of bits

abbrev pub rows_ear : List Row → Ear
rows_ear rows s k a b = has_rows rows s k && happens No a b

shared : (a b c : Bool) → ((a || b) && c) ≡ ((a && c) || (b && c))
shared true b true = refl
shared true b false = no b
  where
    no : (b : Bool) → false ≡ (b && false)
    no true = refl
    no false = refl
shared false b c = refl

pub rows_none : (process : ℕ) (rows : List Row) (i : ℕ) (table : List (Vec Listener Global)) → drop i rows ≡ [] → Hears process (rows_ear (drop i rows)) table table
rows_none process rows i table is =
    hears_nothing process (rows_ear (drop i rows)) table (λ s within k a b. ap (λ rs. rows_ear rs s k a b) is)

pub rows_more : (process : ℕ) (rows : List Row) (i : ℕ) (one : Row) → drop i rows ≡ one ∷ drop (i + 1) rows → (old mid new : List (Vec Listener Global)) → Hears process (bits_ear one No) old mid → Hears process (rows_ear (drop (i + 1) rows)) mid new → Hears process (rows_ear (drop i rows)) old new
rows_more process rows i one is old mid new first others =
    hears_then process (bits_ear one No) (rows_ear (drop (i + 1) rows)) (rows_ear (drop i rows)) old mid new
    (λ s k a b. ap (λ rs. rows_ear rs s k a b) is ∙ shared (has_row one s k) (has_rows (drop (i + 1) rows) s k) (happens No a b))
    first others

-- ---- items

abbrev pub items_ear : (ℕ → ℕ) → List EventItem → Ear
items_ear ws items s k a b = list_any (item_hears ws s k a b) (map watched items)

pub items_none : (ws : ℕ → ℕ) (process : ℕ) (items : List EventItem) (i : ℕ) (table : List (Vec Listener Global)) → drop i items ≡ [] → Hears process (items_ear ws (drop i items)) table table
items_none ws process items i table is =
    hears_nothing process (items_ear ws (drop i items)) table (λ s within k a b. ap (λ xs. items_ear ws xs s k a b) is)

pub items_more : (ws : ℕ → ℕ) (process : ℕ) (items : List EventItem) (i : ℕ) (item : EventItem) (bits : Row) → drop i items ≡ item ∷ drop (i + 1) items → ((s k : ℕ) (a b : Bit) → bits_ear bits item.edge s k a b ≡ item_hears ws s k a b (watched item)) → (old mid new : List (Vec Listener Global)) → Hears process (bits_ear bits item.edge) old mid → Hears process (items_ear ws (drop (i + 1) items)) mid new → Hears process (items_ear ws (drop i items)) old new
items_more ws process items i item bits is means old mid new first others =
    hears_then process (bits_ear bits item.edge) (items_ear ws (drop (i + 1) items)) (items_ear ws (drop i items)) old mid new
    (λ s k a b. ap (λ xs. items_ear ws xs s k a b) is ∙ ap (λ t. t || items_ear ws (drop (i + 1) items) s k a b) (sym (means s k a b)))
    first others

-- ---- one process

-- the bits that an assignment reads
outside_is : (ws : ℕ → ℕ) (target : List Piece) (e : Tree) (s k : ℕ) → reads_outside (flow_of ws (Assign target e)) s k ≡ reads ws e s k
outside_is ws target e s k = last (reads ws e s k) (not (targets ws target s k))
  where
    last : (a b : Bool) → (a || (b && false)) ≡ a
    last true b = refl
    last false true = refl
    last false false = refl

pub exact_reads : (signals : List Signal) (tasks : List Task) (p : ℕ) (task : Task) → slice_get tasks p ≡ Some task → (target : List Piece) (e : Tree) → task.does ≡ Assign target e → (bits : BitSet) → ((s k : ℕ) → bits s k ≡ true ↔ OfProcess ReadsOutside signals tasks p s k) → (s k : ℕ) → bits s k ≡ reads (width_in signals) e s k
exact_reads signals tasks p task at target e is bits are s k =
    both_ways (bits s k) (reads (width_in signals) e s k)
    (λ b. sym (outside_is (width_in signals) target e s k) ∙ (decided (flow_of (width_in signals) (Assign target e)) s k).outside.1 (there ((are s k).0 b)))
    (λ r. (are s k).1 (back ((decided (flow_of (width_in signals) (Assign target e)) s k).outside.0 (outside_is (width_in signals) target e s k ∙ r))))
  where
    there : OfProcess ReadsOutside signals tasks p s k → ReadsOutside (flow_of (width_in signals) (Assign target e)) s k
    there h =
        subst (λ (does : Doing). ReadsOutside (flow_of (width_in signals) does) s k) is
        (subst (λ (o : Option Task). IsSomeAnd o (λ t. ReadsOutside (flow_of (width_in signals) t.does) s k)) at h)

    back : ReadsOutside (flow_of (width_in signals) (Assign target e)) s k → OfProcess ReadsOutside signals tasks p s k
    back h =
        subst (λ (o : Option Task). IsSomeAnd o (λ t. ReadsOutside (flow_of (width_in signals) t.does) s k)) (sym at)
        (subst (λ (does : Doing). ReadsOutside (flow_of (width_in signals) does) s k) (sym is) h)

pub exact_lists : (signals : List Signal) (tasks : List Task) (p : ℕ) (task : Task) → slice_get tasks p ≡ Some task → (bits : BitSet) → ((s k : ℕ) → bits s k ≡ true ↔ Lists signals tasks p s k) → (s k : ℕ) → bits s k ≡ listed (width_in signals) task.does s k
exact_lists signals tasks p task at bits are s k =
    both_ways (bits s k) (listed (width_in signals) task.does s k)
    (λ b. subst (λ (o : Option Task). IsSomeAnd o (λ t. listed (width_in signals) t.does s k ≡ true)) at ((are s k).0 b))
    (λ r. (are s k).1 (subst (λ (o : Option Task). IsSomeAnd o (λ t. listed (width_in signals) t.does s k ≡ true)) (sym at) r))

module _ (d : Flat) (p : ℕ) (t : Task) (at : slice_get d.tasks p ≡ Some t) where
  does_at : (does : Doing) → t.does ≡ does → doing_at d p ≡ Some does
  does_at does is = ap (λ o. doing_of o) at ∙ ap (λ x. Some x) is

  pub assignment_hears : (target : List Piece) (e : Tree) → t.does ≡ Assign target e → (rows : List Row) → ((s k : ℕ) → has_rows rows s k ≡ reads (widths d) e s k) → (old new : List (Vec Listener Global)) → Hears p (rows_ear rows) old new → Hears p (listens_at d p) old new
  assignment_hears target e is rows are old new h =
      hears_same p (rows_ear rows) (listens_at d p) old new
      (λ s k a b. ap (λ r. r && happens No a b) (are s k) ∙ ap (λ o. listens_of (widths d) o s k a b) (sym (does_at (Assign target e) is))) h

  pub star_hears : (body : Actions) → t.does ≡ Comb None body → (rows : List Row) → ((s k : ℕ) → has_rows rows s k ≡ listed (widths d) t.does s k) → (old new : List (Vec Listener Global)) → Hears p (rows_ear rows) old new → Hears p (listens_at d p) old new
  star_hears body is rows are old new h =
      hears_same p (rows_ear rows) (listens_at d p) old new
      (λ s k a b. ap (λ r. r && happens No a b) (are s k ∙ ap (λ does. listed (widths d) does s k) is) ∙ ap (λ o. listens_of (widths d) o s k a b) (sym (does_at (Comb None body) is))) h

  pub list_hears : (items : List EventItem) (body : Actions) → t.does ≡ Comb (Some (map watched items)) body → (old new : List (Vec Listener Global)) → Hears p (items_ear (widths d) items) old new → Hears p (listens_at d p) old new
  list_hears items body is old new h =
      hears_same p (items_ear (widths d) items) (listens_at d p) old new
      (λ s k a b. ap (λ o. listens_of (widths d) o s k a b) (sym (does_at (Comb (Some (map watched items)) body) is))) h

  pub edges_hear : (items : List EventItem) (body : Actions) → t.does ≡ Edge' (map watched items) body → (old new : List (Vec Listener Global)) → Hears p (items_ear (widths d) items) old new → Hears p (listens_at d p) old new
  edges_hear items body is old new h =
      hears_same p (items_ear (widths d) items) (listens_at d p) old new
      (λ s k a b. ap (λ o. listens_of (widths d) o s k a b) (sym (does_at (Edge' (map watched items) body) is))) h

-- ---- all processes

pub heard_none : (d : Flat) (rows : List (Vec Listener Global)) → length rows ≡ length d.signals → ((i : ℕ) → row rows i ≡ []) → AreHeard d 0 rows
heard_none d rows same empty = record {
  same_length = same;
  inside = λ i. subst (λ (xs : List Listener). All (λ l. AreBelow (length d.tasks) l) xs) (sym (empty i)) (All-nil (λ l. AreBelow (length d.tasks) l));
  heard = λ i p a b within. ap (λ xs. heard_by xs p a b) (empty i) ∙ ap (λ t. t && hears (widths d) i a b (doing_at d p)) (sym (le-ltb p 0 (omega arith)));
}

pub heard_more : (d : Flat) (n : ℕ) (old new : List (Vec Listener Global)) → n < length d.tasks → AreHeard d n old → Hears n (listens_at d n) old new → AreHeard d (n + 1) new
heard_more d n old new few was more = record {
  same_length = more.same_length ∙ was.same_length;
  inside = λ i. more.inside (length d.tasks) i few (was.inside i);
  heard = λ i p a b within.
      more.heard i p a b (let same = was.same_length in omega (arith, within, same))
      ∙ ap (λ t. t || ((n == p) && ear_from (listens_at d n) i 0 a b)) (was.heard i p a b within)
      ∙ elim (cases_eq n p) [
        | inl e ↦ one i p a b e
        | inr apart ↦ other i p a b apart
      ];
}
  where
    one : (i p : ℕ) (a b : List Bit) → n ≡ p → ((nat_lt p n && hears (widths d) i a b (doing_at d p)) || ((n == p) && ear_from (listens_at d n) i 0 a b)) ≡ (nat_lt p (n + 1) && hears (widths d) i a b (doing_at d p))
    one i p a b e =
        ap (λ t. (t && hears (widths d) i a b (doing_at d p)) || ((n == p) && ear_from (listens_at d n) i 0 a b)) (le-ltb p n (omega (arith, e)))
        ∙ ap (λ t. t && ear_from (listens_at d n) i 0 a b) (eq-eqb n p e)
        ∙ ap (λ q. ear_from (listens_at d q) i 0 a b) e
        ∙ sym (hears_is (widths d) i a b (doing_at d p))
        ∙ ap (λ t. t && hears (widths d) i a b (doing_at d p)) (sym (lt-ltb p (n + 1) (omega (arith, e))))

    same_test : (p : ℕ) → (n ≡ p → ⊥) → nat_lt p n ≡ nat_lt p (n + 1)
    same_test p apart = elim (cases_lt p n) [
      | inl below ↦ lt-ltb p n below ∙ sym (lt-ltb p (n + 1) (omega (arith, below)))
      | inr above ↦ le-ltb p n above ∙ sym (le-ltb p (n + 1) (omega (arith, above, apart)))
    ]

    last : (x : Bool) → (x || false) ≡ x
    last true = refl
    last false = refl

    other : (i p : ℕ) (a b : List Bit) → (n ≡ p → ⊥) → ((nat_lt p n && hears (widths d) i a b (doing_at d p)) || ((n == p) && ear_from (listens_at d n) i 0 a b)) ≡ (nat_lt p (n + 1) && hears (widths d) i a b (doing_at d p))
    other i p a b apart =
        ap (λ t. (nat_lt p n && hears (widths d) i a b (doing_at d p)) || (t && ear_from (listens_at d n) i 0 a b)) (ne_eqb n p apart)
        ∙ last (nat_lt p n && hears (widths d) i a b (doing_at d p))
        ∙ ap (λ t. t && hears (widths d) i a b (doing_at d p)) (same_test p apart)

-- where all processes hear what they are sensitive to
pub all_hear : (d : Flat) (rows : List (Vec Listener Global)) → AreHeard d (length d.tasks) rows → (i p : ℕ) (old new : List Bit) → heard_by (row rows i) p old new ≡ hears (widths d) i old new (doing_at d p)
all_hear d rows are i p old new =
    elim (cases_lt i (length d.signals)) [
      | inl within ↦ are.heard i p old new within ∙ elim (cases_lt p (length d.tasks)) [
        | inl below ↦ ap (λ t. t && hears (widths d) i old new (doing_at d p)) (lt-ltb p (length d.tasks) below)
        | inr past ↦ ap (λ t. t && hears (widths d) i old new (doing_at d p)) (le-ltb p (length d.tasks) past) ∙ sym (ap (λ o. hears (widths d) i old new (doing_of o)) (slice_get_past d.tasks p past))
      ]
      | inr past ↦ ap (λ xs. heard_by xs p old new) (row_past rows i (let same = are.same_length in omega (arith, past, same)))
          ∙ sym (hears_is (widths d) i old new (doing_at d p) ∙ silent (listens_at d p) i 0 old new (λ j a b. deaf (widths d) i (sym (width_past d.signals i past)) (doing_at d p) j a b))
    ]
