-- The signals that wait, one after another, and the processes that read them.
use Rattle.std.proofs.Common.{ℕ, zero, suc, ◌≡◌, ◌∙◌, ◌+◌, ◌<◌, ◌≤◌, Bool, true, false, not, ◌&&◌, ◌||◌, List, [], ◌∷◌, ◌++◌, Some, length, map, take, get_or, set, replicate, refl, sym, ap, subst, inl, inr, arith, ◌↔◌}
use Rattle.std.specs.Prelude.{Vec, ◌==◌, nat_lt}
use Rattle.std.specs.declared.alloc.Global.{Global}
use Rattle.std.proofs.lemmas.Bool.{and_from, and_parts, cases_eq, eq-eqb, eqb-true, false≢true, or_cases, or_left, or_right}
use Rattle.std.specs.List.{slice_get}
use Rattle.std.specs.Option.{IsSomeAnd}
use Rattle.std.proofs.lemmas.List.{length-replicate, length-set, take_more}
use Rattle.check_chains.specs.rtl_scan.declared.bits.Row.{Row}
use Rattle.check_chains.specs.rtl_scan.Sets.{IsInOrder, has_rows}
use Rattle.check_chains.specs.rtl_scan.Usage.{has_row_of}
use Rattle.check_chains.proofs.rtl_scan_proofs.Processes.{below_next, length-tasks}
use Rattle.rtl_flat.specs.declared.design.Design.{Design}
use Rattle.rtl_flat.specs.Flows.{flow_of}
use Rattle.rtl_flat.specs.Paths.{BitSet, MayWrite, reads_outside}
use Rattle.rtl_flat.proofs.Paths.{decided}
use Rattle.rtl_flat.specs.PathSets.{IsTemporary}
use Rattle.rtl_flat.specs.Process.{Task, task}
use Rattle.rtl_flat.specs.Signs.{width_in}
use Rattle.rtl_rule.specs.Parts.{has_some, is_clocked, written}
use Rattle.rtl_flat.specs.Flats.{Flat, flat, widths}
use Rattle.net_model.specs.Gates.{IsAdmitted, IsLatchBit}
use Rattle.net_model.specs.Solution.{IsLasting}
use Rattle.check_chains.specs.Chains.{chain_of, has_chain}
use Rattle.check_chains.proofs.check_found_proofs.Inside.{outside_inside, written_inside}
use Rattle.check_chains.proofs.check_found_proofs.Signals.{rows_have_some}
use Rattle.check_unknown.specs.declared.doubt.Spread.{Spread}
use Rattle.check_unknown.specs.Spreading.{Among, AreLatches, AreReaders, IsReader, IsSpreading, IsStarting, Marks, Notes, Reaches, Reads, Visits, bucket, is_marked, is_seen, is_unset, reads, starts, writes}
use Rattle.check_unknown.specs.Unknowns.{IsDoubtful, IsUnreset, Behind, Latched, Unreset}
use Rattle.check_unknown.proofs.Doubts.{got, got_back, marked_in}
use Rattle.rtl_rule.proofs.Below.{some_at, some_found}
use Rattle.check_unknown.proofs.Processes.{same_some}
use Rattle.check_unknown.proofs.Spreading.{among_before, among_last, among_push, has_row_append, width_there}

pub there_below : {A : Type 0} (xs : List A) (n : ℕ) (x : A) → slice_get xs n ≡ Some x → n < length xs
there_below [] n x h = absurd (cc)
there_below (y ∷ xs) zero x h = omega arith
there_below (y ∷ xs) (suc n) x h = let below = there_below xs n x h in omega (arith, below)

may_below : {A : Type 0} (xs : List A) (n : ℕ) (P : A → Type 0) → IsSomeAnd (slice_get xs n) P → n < length xs
may_below [] n P h = absurd h
may_below (x ∷ xs) zero P h = omega arith
may_below (x ∷ xs) (suc n) P h = let below = may_below xs n P h in omega (arith, below)

-- a reader is a process of the design
pub reader_there : (design : Design) (p : ℕ) → IsReader (flat design) p → p < length design.processes.items
reader_there design p one =
    let below = there_below (map task design.processes.items) p one.task one.there in
    let count = length-tasks design.processes.items in
    omega (arith, below, count)

pub among_at : (xs : List ℕ) (i default : ℕ) → i < length xs → Among xs (get_or xs i default)
among_at [] i default inside = absurd (omega (arith, inside))
among_at (x ∷ xs) zero default inside = inl refl
among_at (x ∷ xs) (suc i) default inside = inr (among_at xs i default (omega (arith, inside)))

none_among : (xs : List ℕ) (x : ℕ) → xs ≡ [] → Among xs x → ⊥
none_among xs x is h = subst (λ (ys : List ℕ). Among ys x) is h

all_unmarked : (n s : ℕ) → get_or (replicate n false) s false ≡ false
all_unmarked zero s = refl
all_unmarked (suc n) zero = refl
all_unmarked (suc n) (suc s) = all_unmarked n s

none_marked : (marks : List Bool) (n s : ℕ) → marks ≡ replicate n false → get_or marks s false ≡ true → ⊥
none_marked marks n s is h =
    false≢true (sym (ap (λ (ms : List Bool). get_or ms s false) is ∙ all_unmarked n s) ∙ h)

not_true : (b : Bool) → not b ≡ true → b ≡ false
not_true true h = absurd (false≢true h)
not_true false h = refl

not_both : (b : Bool) → (b ≡ true → ⊥) → not b ≡ true
not_both true h = absurd (h refl)
not_both false h = refl

-- a set has bits only of signals that are there
some_there : (d : Flat) (bits : BitSet) (s : ℕ) → has_some (widths d) bits s ≡ true → s < length d.signals
some_there d bits s h =
    let at_bit = some_found (widths d s) (bits s) h in
    let k = at_bit.number in
    let below = at_bit.below in
    let bit = at_bit.is in
    let wide : 0 < width_in d.signals s = omega (arith, below) in
    width_there d.signals s wide

-- ---- where it starts

pub starting_none : (d : Flat) (spread : Spread) (n : ℕ) → n ≡ length d.signals → spread.marked.items ≡ replicate n false → spread.waiting.items ≡ [] → IsStarting d 0 spread
starting_none d spread n same marked waiting =
    record {
      same_length = ap length marked ∙ length-replicate n false ∙ same;
      sound = λ s h. absurd (none_marked spread.marked.items n s marked h);
      began = λ s is below. absurd (omega (arith, below));
      latched = λ s k is below. absurd (omega (arith, below));
      waiting = λ s h. absurd (none_among spread.waiting.items s waiting h);
      waits = λ s h. absurd (none_marked spread.marked.items n s marked h);
    }

module _ (d : Flat) (temporaries gated : List Bool) (each : (s : ℕ) → slice_get temporaries s ≡ Some true ↔ IsTemporary d.signals d.tasks s) (latches : AreLatches d gated) (p : ℕ) (task : Task) (there : slice_get d.tasks p ≡ Some task) where
  abbrev resets : Task → Bool
  resets one = has_chain (λ chain. nat_lt 0 (length chain.resets)) (chain_of d one.does)

  abbrev latch : Bool
  latch = get_or gated p false

  lasts : (s : ℕ) → not (get_or temporaries s false) ≡ true → IsLasting d s
  lasts s kept is =
      false≢true (sym (ap not (got_back temporaries s ((each s).1 is))) ∙ kept)

  stays : (s : ℕ) → IsLasting d s → not (get_or temporaries s false) ≡ true
  stays s lasting =
      not_both (get_or temporaries s false) (λ h. lasting ((each s).0 (got temporaries s h)))

  is_unreset : (s : ℕ) → is_clocked task.does && not (resets task) ≡ true → writes d task s ≡ true → IsLasting d s → IsUnreset d s
  is_unreset s free own lasting =
      let (clocked, no_reset) = and_parts (is_clocked task.does) (not (resets task)) free in
      record {
        process = p;
        task = task;
        there = there;
        clocked = clocked;
        register = record { inside = some_there d (written d task.does) s own; writes = own; kept = lasting };
        no_reset = not_true (resets task) no_reset;
      }

  latch_bit : (s : ℕ) → latch ≡ true → writes d task s ≡ true → IsLasting d s → (k : ℕ) × IsLatchBit d s k
  latch_bit s is own lasting =
      let (gate, admitted) = (latches p).0 (got gated p is) in
      let at_bit = some_found (widths d s) (written d task.does s) own in
      let may = (decided (flow_of (widths d) task.does) s at_bit.number).writes.0 at_bit.is in (
        at_bit.number,
        record {
          process = p;
          gate = gate;
          admitted = admitted;
          may = subst (λ o. IsSomeAnd o (λ one. MayWrite (flow_of (width_in d.signals) one.does) s at_bit.number)) (sym there) may;
          lasting = lasting;
        },
      )

  is_doubtful : (s : ℕ) → starts d temporaries latch task s ≡ true → IsDoubtful d s
  is_doubtful s h =
      let (unset, own) = and_parts (is_unset d latch task.does) (writes d task s && not (get_or temporaries s false)) h in
      let (writes', kept) = and_parts (writes d task s) (not (get_or temporaries s false)) own in
      elim (or_cases latch (is_clocked task.does && not (resets task)) unset) [
        | inl is ↦ let (k, bit) = latch_bit s is writes' (lasts s kept) in Latched s k bit
        | inr free ↦ Unreset s (is_unreset s free writes' (lasts s kept))
      ]

  starts_at : (s : ℕ) (is : IsUnreset d s) → is.process ≡ p → starts d temporaries latch task s ≡ true
  starts_at s is here =
      let same = same_some task is.task (sym there ∙ subst (λ k. slice_get d.tasks k ≡ Some is.task) here is.there) in
      subst (λ (one : Task). starts d temporaries latch one s ≡ true) (sym same)
      (and_from (is_unset d latch is.task.does) (writes d is.task s && not (get_or temporaries s false))
      (or_right latch (is_clocked is.task.does && not (resets is.task)) (and_from (is_clocked is.task.does) (not (resets is.task)) is.clocked (ap not is.no_reset)))
      (and_from (writes d is.task s) (not (get_or temporaries s false)) is.register.writes (stays s is.register.kept)))

  latch_starts : (s k : ℕ) (is : IsLatchBit d s k) → is.process ≡ p → starts d temporaries latch task s ≡ true
  latch_starts s k is here =
      let marked = got_back gated p ((latches p).1 (is.gate, subst (λ q. IsAdmitted d q is.gate) here is.admitted)) in
      let may : MayWrite (flow_of (widths d) task.does) s k =
      subst (λ o. IsSomeAnd o (λ one. MayWrite (flow_of (width_in d.signals) one.does) s k)) (ap (slice_get d.tasks) here ∙ there) is.may in
      let bit = (decided (flow_of (widths d) task.does) s k).writes.1 may in
      let own = some_at (widths d s) (written d task.does s) k (written_inside (widths d) task.does s k bit) bit in
      and_from (is_unset d latch task.does) (writes d task s && not (get_or temporaries s false))
      (or_left latch (is_clocked task.does && not (resets task)) marked)
      (and_from (writes d task s) (not (get_or temporaries s false)) own (stays s is.lasting))

  pub starting_more : (old new : Spread) → Marks (starts d temporaries latch task) old new → IsStarting d p old → IsStarting d (p + 1) new
  starting_more old new m h =
      record {
        same_length = m.same_length ∙ h.same_length;
        sound = λ s marked. elim (m.from s marked) [
          | inl before ↦ h.sound s before
          | inr later ↦ is_doubtful s later.0
        ];
        began = λ s is below. elim (below_next is.process p below) [
          | inl before ↦ m.keeps s (h.began s is before)
          | inr here ↦
              let inside = is.register.inside in
              let same = h.same_length in
              m.to s (omega (arith, inside, same)) (starts_at s is here)
        ];
        latched = λ s k is below. elim (below_next is.process p below) [
          | inl before ↦ m.keeps s (h.latched s k is before)
          | inr here ↦
              let start = latch_starts s k is here in
              let own = (and_parts (is_unset d latch task.does) (writes d task s && not (get_or temporaries s false)) start).1 in
              let inside = some_there d (written d task.does) s (and_parts (writes d task s) (not (get_or temporaries s false)) own).0 in
              let same = h.same_length in
              m.to s (omega (arith, inside, same)) start
        ];
        waiting = λ s w. elim (m.only s w) [
          | inl before ↦ m.keeps s (h.waiting s before)
          | inr marked ↦ marked
        ];
        waits = λ s marked. elim (m.from s marked) [
          | inl before ↦ m.waits s (h.waits s before)
          | inr later ↦ later.1
        ];
      }

-- ---- who reads a signal

pub bucket_get : (table : List (Vec ℕ Global)) (s : ℕ) (default : Vec ℕ Global) → s < length table → (get_or table s default).items ≡ bucket table s
bucket_get [] s default h = absurd (omega (arith, h))
bucket_get (x ∷ table) zero default h = refl
bucket_get (x ∷ table) (suc s) default h = bucket_get table s default (omega (arith, h))

bucket_set : (table : List (Vec ℕ Global)) (place : ℕ) (v : Vec ℕ Global) → place < length table → bucket (set table place v) place ≡ v.items
bucket_set [] place v h = absurd (omega (arith, h))
bucket_set (x ∷ table) zero v h = refl
bucket_set (x ∷ table) (suc place) v h = bucket_set table place v (omega (arith, h))

bucket_other : (table : List (Vec ℕ Global)) (place : ℕ) (v : Vec ℕ Global) (b : ℕ) → (b ≡ place → ⊥) → bucket (set table place v) b ≡ bucket table b
bucket_other [] place v b h = refl
bucket_other (x ∷ table) zero v zero h = absurd (h refl)
bucket_other (x ∷ table) zero v (suc b) h = refl
bucket_other (x ∷ table) (suc place) v zero h = refl
bucket_other (x ∷ table) (suc place) v (suc b) h =
    bucket_other table place v b (λ e. h (ap suc e))

-- an empty row more
pub bucket_empty : (table : List (Vec ℕ Global)) (v : Vec ℕ Global) → v.items ≡ [] → ((b : ℕ) → bucket table b ≡ []) → (b : ℕ) → bucket (table ++ v ∷ []) b ≡ []
bucket_empty [] v is none zero = is
bucket_empty [] v is none (suc b) = refl
bucket_empty (x ∷ table) v is none zero = none zero
bucket_empty (x ∷ table) v is none (suc b) = bucket_empty table v is (λ s. none (suc s)) b

pub notes_none : (P : ℕ → Bool) (p : ℕ) (old : List (Vec ℕ Global)) → ((s : ℕ) → s < length old → P s ≡ true → ⊥) → Notes P p old old
notes_none P p old none =
    record { same_length = refl; from = λ s q h. inl h; keeps = λ s q h. h; to = λ s there h. absurd (none s there h) }

pub notes_past : (i p : ℕ) (old : List (Vec ℕ Global)) → length old ≤ i → Notes (λ s. s == i) p old old
notes_past i p old past =
    notes_none (λ s. s == i) p old (λ s there h. let same = eqb-true s i h in omega (arith, same, there, past))

pub notes_one : (i p : ℕ) (old : List (Vec ℕ Global)) (v : Vec ℕ Global) → i < length old → v.items ≡ bucket old i ++ p ∷ [] → Notes (λ s. s == i) p old (set old i v)
notes_one i p old v inside is =
    record {
      same_length = length-set old i v;
      from = λ s q h. elim (cases_eq s i) [
        | inl here ↦ elim (among_push (bucket old i) p q (subst (λ (xs : List ℕ). Among xs q) (at s here) h)) [
          | inl before ↦ inl (subst (λ j. Among (bucket old j) q) (sym here) before)
          | inr last ↦ inr (last, eq-eqb s i here)
        ]
        | inr other ↦ inl (subst (λ (xs : List ℕ). Among xs q) (bucket_other old i v s other) h)
      ];
      keeps = λ s q h. elim (cases_eq s i) [
        | inl here ↦ subst (λ (xs : List ℕ). Among xs q) (sym (at s here)) (among_before (bucket old i) p q (subst (λ j. Among (bucket old j) q) here h))
        | inr other ↦ subst (λ (xs : List ℕ). Among xs q) (sym (bucket_other old i v s other)) h
      ];
      to = λ s there h. subst (λ (xs : List ℕ). Among xs p) (sym (at s (eqb-true s i h))) (among_last (bucket old i) p);
    }
  where
    at : (s : ℕ) → s ≡ i → bucket (set old i v) s ≡ bucket old i ++ p ∷ []
    at s here = ap (bucket (set old i v)) here ∙ bucket_set old i v inside ∙ is

notes_both : (P Q R : ℕ → Bool) (p : ℕ) (a b c : List (Vec ℕ Global)) → ((s : ℕ) → R s ≡ (P s || Q s)) → Notes P p a b → Notes Q p b c → Notes R p a c
notes_both P Q R p a b c is h k =
    record {
      same_length = k.same_length ∙ h.same_length;
      from = λ s q m. elim (k.from s q m) [
        | inl before ↦ elim (h.from s q before) [
          | inl first ↦ inl first
          | inr then' ↦ inr (then'.0, is s ∙ or_left (P s) (Q s) then'.1)
        ]
        | inr later ↦ inr (later.0, is s ∙ or_right (P s) (Q s) later.1)
      ];
      keeps = λ s q m. k.keeps s q (h.keeps s q m);
      to = λ s there m. elim (or_cases (P s) (Q s) (sym (is s) ∙ m)) [
        | inl first ↦ k.keeps s p (h.to s there first)
        | inr second ↦ k.to s (let e = h.same_length in omega (arith, there, e)) second
      ];
    }

pub notes_more : (rows : List Row) (p i : ℕ) (default : Row) → i < length rows → (first old new : List (Vec ℕ Global)) → Notes (has_row_of (take i rows)) p first old → Notes (λ s. s == (get_or rows i default).signal.0) p old new → Notes (has_row_of (take (i + 1) rows)) p first new
notes_more rows p i default inside first old new h k =
    notes_both (has_row_of (take i rows)) (λ s. s == (get_or rows i default).signal.0) (has_row_of (take (i + 1) rows)) p first old new
    (λ s. ap (λ rs. has_row_of rs s) (take_more rows i default inside) ∙ has_row_append (take i rows) (get_or rows i default) s) h k

-- the same signals by another test
pub notes_as : (P Q : ℕ → Bool) (p : ℕ) (old new : List (Vec ℕ Global)) → ((s : ℕ) → Q s ≡ P s) → Notes P p old new → Notes Q p old new
notes_as P Q p old new is h =
    record {
      same_length = h.same_length;
      from = λ s q m. elim (h.from s q m) [ inl before ↦ inl before | inr put ↦ inr (put.0, is s ∙ put.1) ];
      keeps = h.keeps;
      to = λ s there m. h.to s there (sym (is s) ∙ m);
    }

pub reads_are : (d : Flat) (task : Task) (rows : List Row) → ((s k : ℕ) → has_rows rows s k ≡ reads_outside (flow_of (widths d) task.does) s k) → IsInOrder rows → (s : ℕ) → reads d task s ≡ has_row_of rows s
reads_are d task rows are order s =
    sym (rows_have_some (widths d) (reads_outside (flow_of (widths d) task.does)) rows (record { order = order; same = are; inside = outside_inside (widths d) task.does }) s)

pub readers_none : (d : Flat) (table : List (Vec ℕ Global)) → length table ≡ length d.signals → ((s : ℕ) → bucket table s ≡ []) → AreReaders d 0 table
readers_none d table same none =
    record {
      same_length = same;
      sound = λ s p h. absurd (none_among (bucket table s) p (none s) h);
      all = λ s p task below there r. absurd (omega (arith, below));
    }

pub readers_more : (d : Flat) (p : ℕ) (task : Task) → slice_get d.tasks p ≡ Some task → (old new : List (Vec ℕ Global)) → Notes (reads d task) p old new → AreReaders d p old → AreReaders d (p + 1) new
readers_more d p task there old new n h =
    record {
      same_length = n.same_length ∙ h.same_length;
      sound = λ s q m. elim (n.from s q m) [
        | inl before ↦ h.sound s q before
        | inr put ↦ subst (λ k. Reads d s k) (sym put.0) (record { task = task; there = there; reads = put.1 })
      ];
      all = λ s q other below here r. elim (below_next q p below) [
        | inl before ↦ n.keeps s q (h.all s q other before here r)
        | inr same ↦
            let is = same_some task other (sym there ∙ subst (λ k. slice_get d.tasks k ≡ Some other) same here) in
            let own = subst (λ (t : Task). reads d t s ≡ true) (sym is) r in
            let inside = some_there d (reads_outside (flow_of (widths d) task.does)) s own in
            let wide = h.same_length in
            subst (λ k. Among (bucket new s) k) (sym same) (n.to s (omega (arith, inside, wide)) own)
      ];
    }

-- ---- the readers of one signal

pub reaches_none : (d : Flat) (seen : List Bool) (spread : Spread) → Reaches d [] seen spread seen spread
reaches_none d seen spread =
    record { same_length = refl; now = λ p h. absurd h; stay = λ q h. h; count = refl; spreads = λ current h. h }

pub reaches_more : (d : Flat) (row : List ℕ) (i default : ℕ) → i < length row → (first : List Bool) (from : Spread) (seen : List Bool) (old : Spread) (seen' : List Bool) (new : Spread) → Reaches d (take i row) first from seen old → Visits d (get_or row i default) seen old seen' new → Reaches d (take (i + 1) row) first from seen' new
reaches_more d row i default inside first from seen old seen' new h v =
    record {
      same_length = v.same_length ∙ h.same_length;
      now = λ p m. elim (among_push (take i row) (get_or row i default) p (subst (λ (xs : List ℕ). Among xs p) (take_more row i default inside) m)) [
        | inl before ↦ v.stay p (h.now p before)
        | inr last ↦ subst (λ k. is_seen seen' k ≡ true) (sym last) v.now
      ];
      stay = λ q m. v.stay q (h.stay q m);
      count = v.count ∙ h.count;
      spreads = λ current m. v.spreads current (h.spreads current m);
    }

-- ---- one signal after another

-- before the first
pub spreading_first : (d : Flat) (spread : Spread) (n m : ℕ) → n ≡ length d.tasks → (seen : List Bool) → seen ≡ replicate m false → IsStarting d n spread → IsSpreading d (length d.signals) seen spread
spreading_first d spread n m count seen unseen h =
    record {
      same_length = h.same_length;
      sound = h.sound;
      began = λ s is. h.began s is (let below = there_below d.tasks is.process is.task is.there in omega (arith, below, count));
      latched = λ s k is. h.latched s k is (let below = may_below d.tasks is.process _ is.may in omega (arith, below, count));
      waiting = h.waiting;
      done = λ p task there was s w. absurd (none_marked seen m p unseen was);
      closed = λ s p task marked there r. inr (inl (h.waits s marked));
    }

-- the last that waits is taken
pub popped : (d : Flat) (seen : List Bool) (old new : Spread) (signal : ℕ) → new.marked.items ≡ old.marked.items → old.waiting.items ≡ new.waiting.items ++ signal ∷ [] → IsSpreading d (length d.signals) seen old → IsSpreading d signal seen new
popped d seen old new signal marks waits h =
    record {
      same_length = ap length marks ∙ h.same_length;
      sound = λ s m. h.sound s (was s m);
      began = λ s is. now s (h.began s is);
      latched = λ s k is. now s (h.latched s k is);
      waiting = λ s w. now s (h.waiting s (subst (λ (xs : List ℕ). Among xs s) (sym waits) (among_before new.waiting.items signal s w)));
      done = λ p task there looked s w. now s (h.done p task there looked s w);
      closed = λ s p task m there r. elim (h.closed s p task (was s m) there r) [
        | inl past ↦
            let inside = marked_in old.marked.items s (was s m) in
            let same = h.same_length in
            absurd (omega (arith, past, inside, same))
        | inr rest ↦ elim rest [
          | inl waiting ↦ elim (among_push new.waiting.items signal s (subst (λ (xs : List ℕ). Among xs s) waits waiting)) [
            | inl before ↦ inr (inl before)
            | inr last ↦ inl last
          ]
          | inr looked ↦ inr (inr looked)
        ]
      ];
    }
  where
    was : (s : ℕ) → is_marked new s ≡ true → is_marked old s ≡ true
    was s m = sym (ap (λ (ms : List Bool). get_or ms s false) marks) ∙ m

    now : (s : ℕ) → is_marked old s ≡ true → is_marked new s ≡ true
    now s m = ap (λ (ms : List Bool). get_or ms s false) marks ∙ m

-- what waits is a signal of the design that may be x
pub waits_marked : (d : Flat) (seen : List Bool) (old : Spread) (signal : ℕ) (before : List ℕ) → old.waiting.items ≡ before ++ signal ∷ [] → IsSpreading d (length d.signals) seen old → (signal < length d.signals) × IsDoubtful d signal
waits_marked d seen old signal before waits h =
    let marked = h.waiting signal (subst (λ (xs : List ℕ). Among xs signal) (sym waits) (among_last before signal)) in
    let inside = marked_in old.marked.items signal marked in
    let same = h.same_length in
    (omega (arith, inside, same), h.sound signal marked)

pub is_reader : (d : Flat) (n : ℕ) (table : List (Vec ℕ Global)) → AreReaders d n table → (signal : ℕ) → IsDoubtful d signal → (p : ℕ) → Among (bucket table signal) p → IsReader d p
is_reader d n table readers signal doubtful p h =
    let one = readers.sound signal p h in
    record { signal = signal; task = one.task; there = one.there; doubtful = doubtful; reads = one.reads }

-- all its readers were looked at
pub reached : (d : Flat) (n : ℕ) (table : List (Vec ℕ Global)) → n ≡ length d.tasks → AreReaders d n table → (signal : ℕ) (seen : List Bool) (old : Spread) (seen' : List Bool) (new : Spread) → Reaches d (bucket table signal) seen old seen' new → IsSpreading d signal seen old → IsSpreading d (length d.signals) seen' new
reached d n table count readers signal seen old seen' new r h =
    let all = r.spreads signal h in
    record {
      same_length = all.same_length;
      sound = all.sound;
      began = all.began;
      latched = all.latched;
      waiting = all.waiting;
      done = all.done;
      closed = λ s p task marked there reads'. elim (all.closed s p task marked there reads') [
        | inl here ↦
            let below = there_below d.tasks p task there in
            inr (inr (r.now p (readers.all signal p task (omega (arith, below, count)) there (subst (λ j. reads d task j ≡ true) here reads'))))
        | inr rest ↦ inr rest
      ];
    }

-- nothing waits any more
complete : (d : Flat) (seen : List Bool) (spread : Spread) → IsSpreading d (length d.signals) seen spread → spread.waiting.items ≡ [] → (s : ℕ) → IsDoubtful d s → is_marked spread s ≡ true
complete d seen spread h none _ (Unreset s is) = h.began s is
complete d seen spread h none _ (Latched s k is) = h.latched s k is
complete d seen spread h none _ (Behind p s t task there doubtful reads' writes') =
    let marked = complete d seen spread h none t doubtful in
    elim (h.closed t p task marked there reads') [
      | inl past ↦
          let inside = marked_in spread.marked.items t marked in
          let same = h.same_length in
          absurd (omega (arith, past, inside, same))
      | inr rest ↦ elim rest [
        | inl waiting ↦ absurd (none_among spread.waiting.items t none waiting)
        | inr looked ↦ h.done p task there looked s writes'
      ]
    ]

pub spread_all : (d : Flat) (seen : List Bool) (spread : Spread) → IsSpreading d (length d.signals) seen spread → spread.waiting.items ≡ [] → (s : ℕ) → slice_get spread.marked.items s ≡ Some true ↔ IsDoubtful d s
spread_all d seen spread h none s =
    (λ is. h.sound s (got_back spread.marked.items s is), λ is. got spread.marked.items s (complete d seen spread h none s is))
