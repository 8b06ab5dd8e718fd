-- Parts of a pass that follow one another.
use Rattle.std.proofs.Common.{ℕ, ◌≡◌, ◌∙◌, Bool, true, false, not, ◌&&◌, ◌||◌, List, [], Some, refl, sym, ap}
use Rattle.rtl_flat.specs.Process.{Action, Actions, Then, Branches, NoBranch, Branch}
use Rattle.rtl_flat.specs.Paths.{BitSet, either, Step, Read, Write, reads_bit, may_write_bit, may_write_late, Flow, End, Do, Fork, Ways, Last, More, some, every, first, some_way, every_way, first_way}
use Rattle.rtl_flat.specs.Flows.{action_then, actions_then, body_flow, ways}
use Rattle.rtl_flat.proofs.Flows.{some_action, every_action, first_action}
use Rattle.rtl_scan.specs.declared.bits.Row.{Row}
use Rattle.rtl_scan.specs.declared.scan.Counted.{Counted}
use Rattle.rtl_scan.specs.declared.scan.Counted.TheVariants.{Nothing, Blocking, All}
use Rattle.rtl_scan.specs.declared.scan.Sets.{Sets}
use Rattle.rtl_scan.specs.Sets.{has, has_rows, Adds}
use Rattle.rtl_scan.specs.Counting.{counts, counts_as_sure}
use Rattle.rtl_scan.proofs.Bools.{or_assoc}
use Rattle.rtl_scan.specs.Scan.{Scanned, WayScanned, AlsoScanned, FlowScanned, WaysScanned, FlowAlso, ItemsAlso, Reads, Commits, Restores, some_item, every_item, first_item}

-- ---- Bools

nothing_more : (a d : Bool) → a ≡ (a || (not d && false))
nothing_more true d = refl
nothing_more false true = refl
nothing_more false false = refl

or_false : (a : Bool) → a ≡ (a || false)
or_false true = refl
or_false false = refl

-- a set that grows by two reads, the second after some sure writes
reads_then : (r d p q s : Bool) → ((r || (not d && p)) || (not (d || s) && q)) ≡ (r || (not d && (p || (not s && q))))
reads_then true d p q s = refl
reads_then false true p q s = refl
reads_then false false true q s = refl
reads_then false false false q s = refl

logs_then : (l d s s' : Bool) → ((l || (not d && s)) || (not (d || s) && s')) ≡ (l || (not d && (s || s')))
logs_then true d s s' = refl
logs_then false true s s' = refl
logs_then false false true s' = refl
logs_then false false false s' = refl

reads_also : (r d p q : Bool) → ((r || (not d && p)) || (not d && q)) ≡ (r || (not d && (p || q)))
reads_also true d p q = refl
reads_also false true p q = refl
reads_also false false p q = refl

kept_also : (d s s' : Bool) → ((not d && s) && (d || s')) ≡ (not d && (s && s'))
kept_also true s s' = refl
kept_also false true s' = refl
kept_also false false s' = refl

kept_twice : (k d s s' : Bool) → ((k && (d || s)) && (d || s')) ≡ (k && (d || (s && s')))
kept_twice false d s s' = refl
kept_twice true true s s' = refl
kept_twice true false s s' = refl

kept_all : (k d : Bool) → k ≡ (k && (d || true))
kept_all false d = refl
kept_all true true = refl
kept_all true false = refl

taken_back : (d s : Bool) → ((d || s) && not (not d && s)) ≡ d
taken_back true s = refl
taken_back false true = refl
taken_back false false = refl

no_more : (d : Bool) → false ≡ (not d && false)
no_more true = refl
no_more false = refl

fork_done : (d w : Bool) → (d || (not d && w)) ≡ (d || w)
fork_done true w = refl
fork_done false w = refl

fork_log : (l d w : Bool) → (l || (not d && (not d && w))) ≡ (l || (not d && w))
fork_log true d w = refl
fork_log false true w = refl
fork_log false false w = refl

fork_reads : (r d b f w : Bool) → ((r || (not d && b)) || (not d && f)) ≡ (r || (not d && (b || (f || (not w && false)))))
fork_reads true d b f w = refl
fork_reads false true b f w = refl
fork_reads false false true f w = refl
fork_reads false false false true w = refl
fork_reads false false false false true = refl
fork_reads false false false false false = refl

-- ---- statements

pub scanned_none : (counted : Counted) (t : Sets) (log : List Row) → FlowScanned counted End t log t log
scanned_none counted t log = record {
  reads = λ s k. nothing_more (has t.reads.masks s k) (has t.done.masks s k);
  writes = λ s k. or_false (has t.writes.masks s k);
  late = λ s k. or_false (has t.late.masks s k);
  done = λ s k. or_false (has t.done.masks s k);
  logged = λ s k. nothing_more (has_rows log s k) (has t.done.masks s k);
}

pub scanned_then : (r w n s r' w' n' s' : BitSet) (t t1 t2 : Sets) (l l1 l2 : List Row) → Scanned r w n s t l t1 l1 → Scanned r' w' n' s' t1 l1 t2 l2 → Scanned (λ i k. r i k || (not (s i k) && r' i k)) (λ i k. w i k || w' i k) (λ i k. n i k || n' i k) (λ i k. s i k || s' i k) t l t2 l2
scanned_then r w n s r' w' n' s' t t1 t2 l l1 l2 a b = record {
  reads = λ i k. b.reads i k ∙ ap (λ x. x || (not (has t1.done.masks i k) && r' i k)) (a.reads i k)
      ∙ ap (λ x. (has t.reads.masks i k || (not (has t.done.masks i k) && r i k)) || (not x && r' i k)) (a.done i k)
      ∙ reads_then (has t.reads.masks i k) (has t.done.masks i k) (r i k) (r' i k) (s i k);
  writes = λ i k. b.writes i k ∙ ap (λ x. x || w' i k) (a.writes i k) ∙ or_assoc (has t.writes.masks i k) (w i k) (w' i k);
  late = λ i k. b.late i k ∙ ap (λ x. x || n' i k) (a.late i k) ∙ or_assoc (has t.late.masks i k) (n i k) (n' i k);
  done = λ i k. b.done i k ∙ ap (λ x. x || s' i k) (a.done i k) ∙ or_assoc (has t.done.masks i k) (s i k) (s' i k);
  logged = λ i k. b.logged i k ∙ ap (λ x. x || (not (has t1.done.masks i k) && s' i k)) (a.logged i k)
      ∙ ap (λ x. (has_rows l i k || (not (has t.done.masks i k) && s i k)) || (not x && s' i k)) (a.done i k)
      ∙ logs_then (has_rows l i k) (has t.done.masks i k) (s i k) (s' i k);
}

pub scanned_same : (r w n s r' w' n' s' : BitSet) (t u : Sets) (l m : List Row) → ((i k : ℕ) → r i k ≡ r' i k) → ((i k : ℕ) → w i k ≡ w' i k) → ((i k : ℕ) → n i k ≡ n' i k) → ((i k : ℕ) → s i k ≡ s' i k) → Scanned r w n s t l u m → Scanned r' w' n' s' t l u m
scanned_same r w n s r' w' n' s' t u l m er ew en es a = record {
  reads = λ i k. a.reads i k ∙ ap (λ x. has t.reads.masks i k || (not (has t.done.masks i k) && x)) (er i k);
  writes = λ i k. a.writes i k ∙ ap (λ x. has t.writes.masks i k || x) (ew i k);
  late = λ i k. a.late i k ∙ ap (λ x. has t.late.masks i k || x) (en i k);
  done = λ i k. a.done i k ∙ ap (λ x. has t.done.masks i k || x) (es i k);
  logged = λ i k. a.logged i k ∙ ap (λ x. has_rows l i k || (not (has t.done.masks i k) && x)) (es i k);
}

-- a statement and those behind it
pub action_scanned : (counted : Counted) (ws : ℕ → ℕ) (a : Action) (b : Actions) (t t1 t2 : Sets) (l l1 l2 : List Row) → FlowScanned counted (action_then ws a End) t l t1 l1 → FlowScanned counted (actions_then ws b End) t1 l1 t2 l2 → FlowScanned counted (actions_then ws (Then a b) End) t l t2 l2
action_scanned counted ws a b t t1 t2 l l1 l2 x y =
    scanned_same _ _ _ _ _ _ _ _ t t2 l l2
    (λ i k. sym (first_action (reads_bit i k) (counts counted i k) ws a (actions_then ws b End)))
    (λ i k. sym (some_action (may_write_bit i k) ws a (actions_then ws b End)))
    (λ i k. sym (some_action (may_write_late i k) ws a (actions_then ws b End)))
    (λ i k. sym (every_action (counts counted i k) ws a (actions_then ws b End)))
    (scanned_then (λ i k. first (reads_bit i k) (counts counted i k) (action_then ws a End)) (λ i k. some (may_write_bit i k) (action_then ws a End)) (λ i k. some (may_write_late i k) (action_then ws a End)) (λ i k. every (counts counted i k) (action_then ws a End)) (λ i k. first (reads_bit i k) (counts counted i k) (actions_then ws b End)) (λ i k. some (may_write_bit i k) (actions_then ws b End)) (λ i k. some (may_write_late i k) (actions_then ws b End)) (λ i k. every (counts counted i k) (actions_then ws b End)) t t1 t2 l l1 l2 x y)

-- ---- ways

-- a way is scanned, and what it surely wrote is taken back
pub way_scanned : (counted : Counted) (flow : Flow) (t t1 t2 : Sets) (log : List Row) → FlowScanned counted flow t [] t1 log → Restores log t1 t2 → WaysScanned counted (Last flow) t t2 log
way_scanned counted flow t t1 t2 log a b = record {
  reads = λ i k. b.reads i k ∙ a.reads i k;
  writes = λ i k. b.writes i k ∙ a.writes i k;
  late = λ i k. b.late i k ∙ a.late i k;
  done = λ i k. b.done i k ∙ ap (λ x. x && not (has_rows log i k)) (a.done i k)
      ∙ ap (λ x. (has t.done.masks i k || every (counts counted i k) flow) && not x) (a.logged i k)
      ∙ taken_back (has t.done.masks i k) (every (counts counted i k) flow);
  sure_rows = λ i k. a.logged i k;
}

-- the way past all items
pub way_none : (counted : Counted) (t : Sets) → WaysScanned counted (Last End) t t []
way_none counted t = record {
  reads = λ s k. nothing_more (has t.reads.masks s k) (has t.done.masks s k);
  writes = λ s k. or_false (has t.writes.masks s k);
  late = λ s k. or_false (has t.late.masks s k);
  done = λ s k. refl;
  sure_rows = λ s k. no_more (has t.done.masks s k);
}

pub also_scanned : (counted : Counted) (flow : Flow) (t t1 t2 : Sets) (log kept both : List Row) → FlowScanned counted flow t [] t1 log → ((s k : ℕ) → has_rows both s k ≡ (has_rows kept s k && has t1.done.masks s k)) → Restores log t1 t2 → FlowAlso counted flow t kept t2 both
also_scanned counted flow t t1 t2 log kept both a c b = record {
  reads = λ i k. b.reads i k ∙ a.reads i k;
  writes = λ i k. b.writes i k ∙ a.writes i k;
  late = λ i k. b.late i k ∙ a.late i k;
  done = λ i k. b.done i k ∙ ap (λ x. x && not (has_rows log i k)) (a.done i k)
      ∙ ap (λ x. (has t.done.masks i k || every (counts counted i k) flow) && not x) (a.logged i k)
      ∙ taken_back (has t.done.masks i k) (every (counts counted i k) flow);
  sure_rows = λ i k. c i k ∙ ap (λ x. has_rows kept i k && x) (a.done i k);
}

pub also_none : (counted : Counted) (ws : ℕ → ℕ) (t : Sets) (kept : List Row) → ItemsAlso counted ws NoBranch t kept t kept
also_none counted ws t kept = record {
  reads = λ s k. nothing_more (has t.reads.masks s k) (has t.done.masks s k);
  writes = λ s k. or_false (has t.writes.masks s k);
  late = λ s k. or_false (has t.late.masks s k);
  done = λ s k. refl;
  sure_rows = λ s k. kept_all (has_rows kept s k) (has t.done.masks s k);
}

pub also_then : (r w n s r' w' n' s' : BitSet) (t t1 t2 : Sets) (kept kept1 kept2 : List Row) → AlsoScanned r w n s t kept t1 kept1 → AlsoScanned r' w' n' s' t1 kept1 t2 kept2 → AlsoScanned (either r r') (either w w') (either n n') (λ i k. s i k && s' i k) t kept t2 kept2
also_then r w n s r' w' n' s' t t1 t2 kept kept1 kept2 a b = record {
  reads = λ i k. b.reads i k ∙ ap (λ x. x || (not (has t1.done.masks i k) && r' i k)) (a.reads i k)
      ∙ ap (λ x. (has t.reads.masks i k || (not (has t.done.masks i k) && r i k)) || (not x && r' i k)) (a.done i k)
      ∙ reads_also (has t.reads.masks i k) (has t.done.masks i k) (r i k) (r' i k);
  writes = λ i k. b.writes i k ∙ ap (λ x. x || w' i k) (a.writes i k) ∙ or_assoc (has t.writes.masks i k) (w i k) (w' i k);
  late = λ i k. b.late i k ∙ ap (λ x. x || n' i k) (a.late i k) ∙ or_assoc (has t.late.masks i k) (n i k) (n' i k);
  done = λ i k. b.done i k ∙ a.done i k;
  sure_rows = λ i k. b.sure_rows i k ∙ ap (λ x. x && (has t1.done.masks i k || s' i k)) (a.sure_rows i k)
      ∙ ap (λ x. (has_rows kept i k && (has t.done.masks i k || s i k)) && (x || s' i k)) (a.done i k)
      ∙ kept_twice (has_rows kept i k) (has t.done.masks i k) (s i k) (s' i k);
}

pub way_also : (r w n s r' w' n' s' : BitSet) (t t1 t2 : Sets) (kept kept2 : List Row) → WayScanned r w n s t t1 kept → AlsoScanned r' w' n' s' t1 kept t2 kept2 → WayScanned (either r r') (either w w') (either n n') (λ i k. s i k && s' i k) t t2 kept2
way_also r w n s r' w' n' s' t t1 t2 kept kept2 a b = record {
  reads = λ i k. b.reads i k ∙ ap (λ x. x || (not (has t1.done.masks i k) && r' i k)) (a.reads i k)
      ∙ ap (λ x. (has t.reads.masks i k || (not (has t.done.masks i k) && r i k)) || (not x && r' i k)) (a.done i k)
      ∙ reads_also (has t.reads.masks i k) (has t.done.masks i k) (r i k) (r' i k);
  writes = λ i k. b.writes i k ∙ ap (λ x. x || w' i k) (a.writes i k) ∙ or_assoc (has t.writes.masks i k) (w i k) (w' i k);
  late = λ i k. b.late i k ∙ ap (λ x. x || n' i k) (a.late i k) ∙ or_assoc (has t.late.masks i k) (n i k) (n' i k);
  done = λ i k. b.done i k ∙ a.done i k;
  sure_rows = λ i k. b.sure_rows i k ∙ ap (λ x. x && (has t1.done.masks i k || s' i k)) (a.sure_rows i k)
      ∙ ap (λ x. (not (has t.done.masks i k) && s i k) && (x || s' i k)) (a.done i k)
      ∙ kept_also (has t.done.masks i k) (s i k) (s' i k);
}

-- ---- the ways of a case

some_ways : (f : Step → Bool) (ws : ℕ → ℕ) (way : Flow) (items : Branches) → (some f way || some_item f ws items) ≡ some_way f (ways ws (Some way) items)
some_ways f ws way NoBranch = sym (or_false (some f way))
some_ways f ws way (Branch labels body others) =
    ap (λ x. some f way || x) (some_ways f ws (body_flow ws body) others)

every_ways : (f : Step → Bool) (ws : ℕ → ℕ) (way : Flow) (items : Branches) → (every f way && every_item f ws items) ≡ every_way f (ways ws (Some way) items)
every_ways f ws way NoBranch = and_true (every f way)
  where
    and_true : (a : Bool) → (a && true) ≡ a
    and_true true = refl
    and_true false = refl
every_ways f ws way (Branch labels body others) =
    ap (λ x. every f way && x) (every_ways f ws (body_flow ws body) others)

first_ways : (f g : Step → Bool) (ws : ℕ → ℕ) (way : Flow) (items : Branches) → (first f g way || first_item f g ws items) ≡ first_way f g (ways ws (Some way) items)
first_ways f g ws way NoBranch = sym (or_false (first f g way))
first_ways f g ws way (Branch labels body others) =
    ap (λ x. first f g way || x) (first_ways f g ws (body_flow ws body) others)

way_same : (r w n s r' w' n' s' : BitSet) (t u : Sets) (kept : List Row) → ((i k : ℕ) → r i k ≡ r' i k) → ((i k : ℕ) → w i k ≡ w' i k) → ((i k : ℕ) → n i k ≡ n' i k) → ((i k : ℕ) → s i k ≡ s' i k) → WayScanned r w n s t u kept → WayScanned r' w' n' s' t u kept
way_same r w n s r' w' n' s' t u kept er ew en es a = record {
  reads = λ i k. a.reads i k ∙ ap (λ x. has t.reads.masks i k || (not (has t.done.masks i k) && x)) (er i k);
  writes = λ i k. a.writes i k ∙ ap (λ x. has t.writes.masks i k || x) (ew i k);
  late = λ i k. a.late i k ∙ ap (λ x. has t.late.masks i k || x) (en i k);
  done = a.done;
  sure_rows = λ i k. a.sure_rows i k ∙ ap (λ x. not (has t.done.masks i k) && x) (es i k);
}

-- a way, and the items of a case
pub items_scanned : (counted : Counted) (ws : ℕ → ℕ) (way : Flow) (items : Branches) (t t1 t2 : Sets) (kept kept2 : List Row) → WaysScanned counted (Last way) t t1 kept → ItemsAlso counted ws items t1 kept t2 kept2 → WaysScanned counted (ways ws (Some way) items) t t2 kept2
items_scanned counted ws way items t t1 t2 kept kept2 a b =
    way_same _ _ _ _ _ _ _ _ t t2 kept2
    (λ i k. first_ways (reads_bit i k) (counts counted i k) ws way items)
    (λ i k. some_ways (may_write_bit i k) ws way items)
    (λ i k. some_ways (may_write_late i k) ws way items)
    (λ i k. every_ways (counts counted i k) ws way items)
    (way_also (λ i k. first (reads_bit i k) (counts counted i k) way) (λ i k. some (may_write_bit i k) way) (λ i k. some (may_write_late i k) way) (λ i k. every (counts counted i k) way) (λ i k. first_item (reads_bit i k) (counts counted i k) ws items) (λ i k. some_item (may_write_bit i k) ws items) (λ i k. some_item (may_write_late i k) ws items) (λ i k. every_item (counts counted i k) ws items) t t1 t2 kept kept2 a b)

-- two ways
pub both_scanned : (counted : Counted) (one other : Flow) (t t1 t2 : Sets) (kept kept2 : List Row) → WaysScanned counted (Last one) t t1 kept → FlowAlso counted other t1 kept t2 kept2 → WaysScanned counted (More one (Last other)) t t2 kept2
both_scanned counted one other t t1 t2 kept kept2 a b =
    way_also (λ i k. first (reads_bit i k) (counts counted i k) one) (λ i k. some (may_write_bit i k) one) (λ i k. some (may_write_late i k) one) (λ i k. every (counts counted i k) one) (λ i k. first (reads_bit i k) (counts counted i k) other) (λ i k. some (may_write_bit i k) other) (λ i k. some (may_write_late i k) other) (λ i k. every (counts counted i k) other) t t1 t2 kept kept2 a b

-- an item, and those behind it
pub item_scanned : (counted : Counted) (ws : ℕ → ℕ) (labels : _) (body : Actions) (others : Branches) (t t1 t2 : Sets) (kept kept1 kept2 : List Row) → FlowAlso counted (body_flow ws body) t kept t1 kept1 → ItemsAlso counted ws others t1 kept1 t2 kept2 → ItemsAlso counted ws (Branch labels body others) t kept t2 kept2
item_scanned counted ws labels body others t t1 t2 kept kept1 kept2 a b =
    also_then (λ i k. first (reads_bit i k) (counts counted i k) (body_flow ws body)) (λ i k. some (may_write_bit i k) (body_flow ws body)) (λ i k. some (may_write_late i k) (body_flow ws body)) (λ i k. every (counts counted i k) (body_flow ws body)) (λ i k. first_item (reads_bit i k) (counts counted i k) ws others) (λ i k. some_item (may_write_bit i k) ws others) (λ i k. some_item (may_write_late i k) ws others) (λ i k. every_item (counts counted i k) ws others) t t1 t2 kept kept1 kept2 a b

-- ---- forks

counts_read : (counted : Counted) (bits : BitSet) (s k : ℕ) → counts counted s k (Read bits) ≡ false
counts_read Nothing bits s k = refl
counts_read Blocking bits s k = refl
counts_read All bits s k = refl

-- a test is read, the ways are scanned, and what all of them surely wrote stays
pub fork_scanned : (counted : Counted) (bits : BitSet) (all : Ways) (t t1 t2 t3 : Sets) (log log' kept : List Row) → Reads bits t t1 → WaysScanned counted all t1 t2 kept → Commits kept t2 log t3 log' → FlowScanned counted (Do (Read bits) (Fork all End)) t log t3 log'
fork_scanned counted bits all t t1 t2 t3 log log' kept a b c = record {
  reads = λ i k.
      let w = every_way (counts counted i k) all in
      let f = first_way (reads_bit i k) (counts counted i k) all in
      c.reads i k ∙ b.reads i k ∙ ap (λ x. x || (not (has t1.done.masks i k) && f)) (a.reads i k)
      ∙ ap (λ x. (has t.reads.masks i k || (not (has t.done.masks i k) && bits i k)) || (not x && f)) (a.done i k)
      ∙ fork_reads (has t.reads.masks i k) (has t.done.masks i k) (bits i k) f w
      ∙ ap (λ x. has t.reads.masks i k || (not (has t.done.masks i k) && (bits i k || (not x && (f || (not w && false)))))) (sym (counts_read counted bits i k));
  writes = λ i k. c.writes i k ∙ b.writes i k ∙ ap (λ x. x || some_way (may_write_bit i k) all) (a.writes i k)
      ∙ ap (λ x. has t.writes.masks i k || x) (or_false (some_way (may_write_bit i k) all));
  late = λ i k. c.late i k ∙ b.late i k ∙ ap (λ x. x || some_way (may_write_late i k) all) (a.late i k)
      ∙ ap (λ x. has t.late.masks i k || x) (or_false (some_way (may_write_late i k) all));
  done = λ i k.
      let w = every_way (counts counted i k) all in
      c.done i k ∙ ap (λ x. x || has_rows kept i k) (b.done i k ∙ a.done i k) ∙ ap (λ x. has t.done.masks i k || x) (b.sure_rows i k)
      ∙ ap (λ x. has t.done.masks i k || (not x && w)) (a.done i k) ∙ fork_done (has t.done.masks i k) w
      ∙ ap (λ x. has t.done.masks i k || x) (or_false w)
      ∙ ap (λ x. has t.done.masks i k || (x || (w || false))) (sym (counts_read counted bits i k));
  logged = λ i k.
      let w = every_way (counts counted i k) all in
      c.logged i k ∙ ap (λ x. has_rows log i k || (not x && has_rows kept i k)) (b.done i k ∙ a.done i k)
      ∙ ap (λ x. has_rows log i k || (not (has t.done.masks i k) && x)) (b.sure_rows i k)
      ∙ ap (λ x. has_rows log i k || (not (has t.done.masks i k) && (not x && w))) (a.done i k)
      ∙ fork_log (has_rows log i k) (has t.done.masks i k) w
      ∙ ap (λ x. has_rows log i k || (not (has t.done.masks i k) && x)) (or_false w)
      ∙ ap (λ x. has_rows log i k || (not (has t.done.masks i k) && (x || (w || false)))) (sym (counts_read counted bits i k));
}

-- ---- single statements

counts_write : (counted : Counted) (delayed : Bool) (may sure : BitSet) (s k : ℕ) → counts_as_sure counted delayed ≡ true → counts counted s k (Write delayed may sure) ≡ sure s k
counts_write Nothing delayed may sure s k e = absurd (cc)
counts_write Blocking delayed may sure s k e = ap (λ d. d && sure s k) e
counts_write All delayed may sure s k e = refl

counts_late : (counted : Counted) (delayed : Bool) (may sure : BitSet) (s k : ℕ) → counts_as_sure counted delayed ≡ false → counts counted s k (Write delayed may sure) ≡ false
counts_late Nothing delayed may sure s k e = refl
counts_late Blocking delayed may sure s k e = ap (λ d. d && sure s k) e
counts_late All delayed may sure s k e = absurd (cc)

-- rows that have the bits of a set are read
pub rows_read : (bits : BitSet) (rows : List Row) (t u : Sets) → Adds bits [] rows → Reads (has_rows rows) t u → Reads bits t u
rows_read bits rows t u adds a = record {
  reads = λ s k. a.reads s k ∙ ap (λ x. has t.reads.masks s k || (not (has t.done.masks s k) && x)) (adds.at s k);
  writes = a.writes;
  late = a.late;
  done = a.done;
}

-- a read, and what follows it
pub read_scanned : (counted : Counted) (bits : BitSet) (rest : Flow) (t t1 t2 : Sets) (log log' : List Row) → Reads bits t t1 → FlowScanned counted rest t1 log t2 log' → FlowScanned counted (Do (Read bits) rest) t log t2 log'
read_scanned counted bits rest t t1 t2 log log' a b = record {
  reads = λ i k.
      let f = first (reads_bit i k) (counts counted i k) rest in
      b.reads i k ∙ ap (λ x. x || (not (has t1.done.masks i k) && f)) (a.reads i k)
      ∙ ap (λ x. (has t.reads.masks i k || (not (has t.done.masks i k) && bits i k)) || (not x && f)) (a.done i k)
      ∙ reads_also (has t.reads.masks i k) (has t.done.masks i k) (bits i k) f
      ∙ ap (λ x. has t.reads.masks i k || (not (has t.done.masks i k) && (bits i k || (not x && f)))) (sym (counts_read counted bits i k));
  writes = λ i k. b.writes i k ∙ ap (λ x. x || some (may_write_bit i k) rest) (a.writes i k);
  late = λ i k. b.late i k ∙ ap (λ x. x || some (may_write_late i k) rest) (a.late i k);
  done = λ i k. b.done i k ∙ ap (λ x. x || every (counts counted i k) rest) (a.done i k)
      ∙ ap (λ x. has t.done.masks i k || (x || every (counts counted i k) rest)) (sym (counts_read counted bits i k));
  logged = λ i k. b.logged i k ∙ ap (λ x. has_rows log i k || (not x && every (counts counted i k) rest)) (a.done i k)
      ∙ ap (λ x. has_rows log i k || (not (has t.done.masks i k) && (x || every (counts counted i k) rest))) (sym (counts_read counted bits i k));
}

module _ (delayed : Bool) (may sure : BitSet) (t u : Sets) (log log' : List Row) (writes : (s k : ℕ) → has u.writes.masks s k ≡ (has t.writes.masks s k || may s k)) (lates : (s k : ℕ) → has u.late.masks s k ≡ (has t.late.masks s k || (delayed && may s k))) (reads : (s k : ℕ) → has u.reads.masks s k ≡ has t.reads.masks s k) where
  -- a write that counts as sure
  pub write_counts : (counted : Counted) → counts_as_sure counted delayed ≡ true → ((s k : ℕ) → (has u.done.masks s k ≡ (has t.done.masks s k || sure s k)) × (has_rows log' s k ≡ (has_rows log s k || (not (has t.done.masks s k) && sure s k)))) → FlowScanned counted (Do (Write delayed may sure) End) t log u log'
  write_counts counted e more = record {
    reads = λ s k. reads s k ∙ nothing_read (has t.reads.masks s k) (has t.done.masks s k) (counts counted s k (Write delayed may sure));
    writes = λ s k. writes s k ∙ ap (λ x. has t.writes.masks s k || x) (or_false (may s k));
    late = λ s k. lates s k ∙ ap (λ x. has t.late.masks s k || x) (or_false (delayed && may s k));
    done = λ s k. (more s k).0 ∙ ap (λ x. has t.done.masks s k || x) (sym (counts_write counted delayed may sure s k e) ∙ or_false (counts counted s k (Write delayed may sure)));
    logged = λ s k. (more s k).1 ∙ ap (λ x. has_rows log s k || (not (has t.done.masks s k) && x)) (sym (counts_write counted delayed may sure s k e) ∙ or_false (counts counted s k (Write delayed may sure)));
  }
    where
      nothing_read : (r d c : Bool) → r ≡ (r || (not d && (false || (not c && false))))
      nothing_read true d c = refl
      nothing_read false true c = refl
      nothing_read false false true = refl
      nothing_read false false false = refl

  -- one that doesn't
  pub write_late : (counted : Counted) → counts_as_sure counted delayed ≡ false → ((s k : ℕ) → has u.done.masks s k ≡ has t.done.masks s k) → ((s k : ℕ) → has_rows log' s k ≡ has_rows log s k) → FlowScanned counted (Do (Write delayed may sure) End) t log u log'
  write_late counted e done logged = record {
    reads = λ s k. reads s k ∙ nothing_read (has t.reads.masks s k) (has t.done.masks s k) (counts counted s k (Write delayed may sure));
    writes = λ s k. writes s k ∙ ap (λ x. has t.writes.masks s k || x) (or_false (may s k));
    late = λ s k. lates s k ∙ ap (λ x. has t.late.masks s k || x) (or_false (delayed && may s k));
    done = λ s k. done s k ∙ or_false (has t.done.masks s k) ∙ ap (λ x. has t.done.masks s k || (x || false)) (sym (counts_late counted delayed may sure s k e));
    logged = λ s k. logged s k ∙ nothing_more (has_rows log s k) (has t.done.masks s k) ∙ ap (λ x. has_rows log s k || (not (has t.done.masks s k) && (x || false))) (sym (counts_late counted delayed may sure s k e));
  }
    where
      nothing_read : (r d c : Bool) → r ≡ (r || (not d && (false || (not c && false))))
      nothing_read true d c = refl
      nothing_read false true c = refl
      nothing_read false false true = refl
      nothing_read false false false = refl
