-- The signals whose edges are waited for as marks, and what is reached by links that pass a signal on.
use Rattle.std.proofs.Common.{◌≡◌, ◌∙◌, ℕ, zero, suc, ◌+◌, ◌<◌, ◌==◌, ◌&&◌, if◌then◌else◌, Bool, true, false, List, [], ◌∷◌, ◌++◌, length, map, get_or, replicate, take, drop, Option, None, Some, refl, sym, ap, subst, inl, inr, arith, append-nil}
use Rattle.std.specs.Prelude.{◌⊎◌, Vec}
use Rattle.std.specs.List.{flat_map, list_any, slice_get}
use Rattle.std.specs.Option.{IsSomeAnd}
use Rattle.std.specs.declared.alloc.Global.{Global}
use Rattle.std.proofs.lemmas.Bool.{and_from, and_parts, both_ways, cases_eq, eq-eqb, eqb-true, false≢true, or_cases, or_left, or_right}
use Rattle.std.proofs.lemmas.Option.{none-some, same_Some}
use Rattle.std.proofs.Math.Seq.{take-append_seam}
use Rattle.std.proofs.lemmas.List.{take_more}
use Rattle.std.proofs.lemmas.List.Concat.{flat_map-append}
use Rattle.rtl_flat.specs.declared.design.Design.{Design}
use Rattle.rtl_flat.specs.declared.signal.Signal.{Signal}
use Rattle.rtl_flat.specs.declared.act.Process.{Process}
use Rattle.rtl_flat.specs.Process.{Watched, Doing, Assign, Comb, Edge', Task, doing, task}
use Rattle.rtl_flat.specs.WellFormed.{has_edge}
use Rattle.event_model.specs.Queue.{doing_at, doing_of, is_input_of}
use Rattle.net_model.specs.Control.{IsEdgeSignal, IsPassedOn, IsReached, Itself, Through, waits_for}
use Rattle.rtl_flat.specs.Flats.{Flat, flat}
use Rattle.check_chains.proofs.check_found_proofs.Sites.{task_count}
use Rattle.check_chains.specs.rtl_scan.Arrows.{Among}
use Rattle.check_chains.specs.rtl_scan.Graph.{row}
use Rattle.check_gates.specs.declared.reach.Link.{Link}
use Rattle.check_gates.specs.Waits.{AreEdgeMarks, waited, waited_by}
use Rattle.check_gates.specs.Passed.{ArePassing, GetsPassing}
use Rattle.check_gates.specs.Links.{AreRows}
use Rattle.check_gates.specs.Passed.{IsPassing, IsPassingLink}
use Rattle.check_gates.specs.Reach.{HasLink, Here, Onward, Reaches}
use Rattle.check_gates.specs.Tops.{AreMarkedAlso}
use Rattle.check_gates.proofs.Linked.{bit_inside, links_cases, links_left, links_right}
use Rattle.check_gates.proofs.Reached.{among_cases, among_left, among_right, none_marked}
use Rattle.check_gates.proofs.Topped.{marked_more}

-- ---- links

pub gets_none : (d : Flat) (task : Task) (link : Option Link) (links : List Link) → IsPassingLink d task link → link ≡ None → GetsPassing d task links links
gets_none d task link links is none =
    record { each = λ i j. (λ h. inl h, from i j) }
  where
    from : (i j : ℕ) → HasLink links i j ⊎ IsPassing d task i j → HasLink links i j
    from i j (inl h) = h
    from i j (inr h) = absurd (none-some _ (sym none ∙ (is.each i j).1 h))

pub gets_one : (d : Flat) (task : Task) (link : Option Link) (one : Link) (links new : List Link) → IsPassingLink d task link → link ≡ Some one → new ≡ links ++ one ∷ [] → GetsPassing d task links new
gets_one d task link one links new is some more =
    record { each = λ i j. (λ h. to i j (links_cases links (one ∷ []) i j (subst (λ l. HasLink l i j) more h)), λ h. subst (λ l. HasLink l i j) (sym more) (from i j h)) }
  where
    to : (i j : ℕ) → HasLink links i j ⊎ HasLink (one ∷ []) i j → HasLink links i j ⊎ IsPassing d task i j
    to i j (inl h) = inl h
    to i j (inr (inl h)) = inr ((is.each i j).0 (some ∙ (λ n. Some (record { source = sym h.0 n; target = sym h.1 n }))))
    to i j (inr (inr none)) = absurd none

    from : (i j : ℕ) → HasLink links i j ⊎ IsPassing d task i j → HasLink (links ++ one ∷ []) i j
    from i j (inl h) = links_left links (one ∷ []) i j h
    from i j (inr h) =
        let same : one ≡ record { source = i; target = j } = same_Some _ _ (sym some ∙ (is.each i j).1 h) in
        links_right links (one ∷ []) i j (inl (sym (ap (λ (l : Link). l.source) same), sym (ap (λ (l : Link). l.target) same)))

pub passing_none : (d : Flat) → ArePassing d 0 []
passing_none d =
    record { each = λ i j. (λ h. absurd h, λ h. absurd (omega (arith, h.1))) }

pub passing_next : (d : Flat) (n : ℕ) (task : Task) (old new : List Link) → slice_get d.tasks n ≡ Some task → ArePassing d n old → GetsPassing d task old new → ArePassing d (n + 1) new
passing_next d n task old new there are gets =
    record { each = λ i j. (λ h. to i j ((gets.each i j).0 h), λ h. (gets.each i j).1 (from i j h)) }
  where
    to : (i j : ℕ) → HasLink old i j ⊎ IsPassing d task i j → (p : ℕ) × (p < n + 1) × IsSomeAnd (slice_get d.tasks p) (λ task. IsPassing d task i j)
    to i j (inl h) = let (p, below, is) = (are.each i j).0 h in (p, omega (arith, below), is)
    to i j (inr h) = (n, omega arith, subst (λ o. IsSomeAnd o (λ task. IsPassing d task i j)) (sym there) h)

    from : (i j : ℕ) → (p : ℕ) × (p < n + 1) × IsSomeAnd (slice_get d.tasks p) (λ task. IsPassing d task i j) → HasLink old i j ⊎ IsPassing d task i j
    from i j (p, below, is) = elim (cases_eq p n) [
      | inl same ↦ inr (subst (λ o. IsSomeAnd o (λ task. IsPassing d task i j)) (ap (slice_get d.tasks) same ∙ there) is)
      | inr other ↦ inl ((are.each i j).1 (p, omega (arith, below, other), is))
    ]

-- ---- what is reached

some_there : {A : Type 0} (xs : List A) (p : ℕ) (P : A → Type 0) → IsSomeAnd (slice_get xs p) P → (x : A) × (slice_get xs p ≡ Some x) × P x
some_there [] p P h = absurd h
some_there (x ∷ xs) zero P h = (x, refl, h)
some_there (x ∷ xs) (suc p) P h = some_there xs p P h

there_below : {A : Type 0} (xs : List A) (p : ℕ) (x : A) → slice_get xs p ≡ Some x → p < length xs
there_below [] p x h = absurd (none-some _ h)
there_below (y ∷ xs) zero x h = omega arith
there_below (y ∷ xs) (suc p) x h = let below = there_below xs p x h in omega (arith, below)

module _ (d : Flat) (links : List Link) (rows : List (Vec ℕ Global)) (are : AreRows (length d.signals) links rows) (all : ArePassing d (length d.tasks) links) where
  passed_from : (i j : ℕ) → Among (row rows i) j → IsPassedOn d i j
  passed_from i j among =
      let (p, below, is) = (all.each i j).0 ((are.each i j).0 among).1 in
      let (task, there, it) = some_there d.tasks p (λ task. IsPassing d task i j) is in
      record {
        process = p;
        value = it.value;
        connection = record { task = task; spot = it.spot; there = there; does = it.does; outside = it.outside };
        alone = it.alone;
        one_bit = it.one_bit;
        port_bit = it.port_bit;
      }

  passed_to : (i j : ℕ) → IsPassedOn d i j → Among (row rows i) j
  passed_to i j is =
      let of_task : IsPassing d is.connection.task i j =
      record { spot = is.connection.spot; value = is.value; does = is.connection.does; alone = is.alone; one_bit = is.one_bit; port_bit = is.port_bit; outside = is.connection.outside } in
      (are.each i j).1 (
        bit_inside d.signals i is.one_bit,
        (all.each i j).1 (is.process, there_below d.tasks is.process is.connection.task is.connection.there, subst (λ o. IsSomeAnd o (λ task. IsPassing d task i j)) (sym is.connection.there) of_task),
      )

  pub reached_from : (c k : ℕ) → Reaches rows c k → IsReached d c k
  reached_from c k Here = Itself
  reached_from c k (Onward i j from among below) = Through i j (reached_from c i from) (passed_from i j among)

  pub reached_to : (c k : ℕ) → IsReached d c k → Reaches rows c k
  reached_to c k Itself = Here
  reached_to c k (Through i j from is) =
      let size = are.size in
      let inside = bit_inside d.signals j is.port_bit in
      Onward i j (reached_to c i from) (passed_to i j is) (omega (arith, size, inside))

-- ---- edges

abbrev if_edge : ℕ → Bool → List ℕ
if_edge signal true = signal ∷ []
if_edge signal false = []

among_edge : (signal s : ℕ) (edge : Bool) → Among (if_edge signal edge) s → (signal == s) && edge ≡ true
among_edge signal s true (inl same) = and_from (signal == s) true (eq-eqb signal s (sym same)) refl
among_edge signal s true (inr none) = absurd none
among_edge signal s false none = absurd none

edge_among : (signal s : ℕ) (edge : Bool) → (signal == s) && edge ≡ true → Among (if_edge signal edge) s
edge_among signal s true h = inl (sym (eqb-true signal s (and_parts (signal == s) true h).0))
edge_among signal s false h = absurd (false≢true (and_parts (signal == s) false h).1)

if_is : (signal : ℕ) (edge : Bool) → if_edge signal edge ≡ (if edge then signal ∷ [] else [])
if_is signal true = refl
if_is signal false = refl

waits_among : (events : List Watched) (s : ℕ) → Among (flat_map waited_by events) s → list_any (waits_for s) events ≡ true
waits_among [] s h = absurd h
waits_among (item ∷ events) s h = elim (among_cases (waited_by item) (flat_map waited_by events) s h) [
  | inl here ↦ or_left (waits_for s item) (list_any (waits_for s) events)
      (among_edge item.signal s (has_edge item.edge) (subst (λ l. Among l s) (sym (if_is item.signal (has_edge item.edge))) here))
  | inr later ↦ or_right (waits_for s item) (list_any (waits_for s) events) (waits_among events s later)
]

among_waits : (events : List Watched) (s : ℕ) → list_any (waits_for s) events ≡ true → Among (flat_map waited_by events) s
among_waits [] s h = absurd (false≢true h)
among_waits (item ∷ events) s h = elim (or_cases (waits_for s item) (list_any (waits_for s) events) h) [
  | inl here ↦ among_left (waited_by item) (flat_map waited_by events) s
      (subst (λ l. Among l s) (if_is item.signal (has_edge item.edge)) (edge_among item.signal s (has_edge item.edge) here))
  | inr later ↦ among_right (waited_by item) (flat_map waited_by events) s (among_waits events s later)
]

-- the signals that some processes wait for edges of
module _ (d : Flat) where
  edge_of : (tasks : List Task) (s : ℕ) → Among (flat_map (λ (task : Task). waited task.does) tasks) s → (p : ℕ) × (task : Task) × (slice_get tasks p ≡ Some task) × Among (waited task.does) s
  edge_of [] s h = absurd h
  edge_of (task ∷ tasks) s h = elim (among_cases (waited task.does) (flat_map (λ (one : Task). waited one.does) tasks) s h) [
    | inl here ↦ (0, task, refl, here)
    | inr later ↦ let (p, one, there, is) = edge_of tasks s later in (suc p, one, there, is)
  ]

  edge_in : (tasks : List Task) (s p : ℕ) (task : Task) → slice_get tasks p ≡ Some task → Among (waited task.does) s → Among (flat_map (λ (task : Task). waited task.does) tasks) s
  edge_in [] s p task there is = absurd (none-some _ there)
  edge_in (one ∷ tasks) s zero task there is =
      let same : one ≡ task = same_Some one task there in
      among_left (waited one.does) (flat_map (λ (one : Task). waited one.does) tasks) s (subst (λ (t : Task). Among (waited t.does) s) (sym same) is)
  edge_in (one ∷ tasks) s (suc p) task there is =
      among_right (waited one.does) (flat_map (λ (one : Task). waited one.does) tasks) s (edge_in tasks s p task there is)

  waits_in : (does : Doing) (s p : ℕ) → doing_at d p ≡ Some does → Among (waited does) s → IsEdgeSignal d s
  waits_in (Assign target value) s p is h = absurd h
  waits_in (Comb list body) s p is h = absurd h
  waits_in (Edge' events body) s p is h =
      record { process = p; events = events; body = body; does = is; waits = waits_among events s h }

  pub edge_signal : (s : ℕ) → Among (flat_map (λ (task : Task). waited task.does) d.tasks) s → IsEdgeSignal d s
  edge_signal s h =
      let (p, task, there, is) = edge_of d.tasks s h in waits_in task.does s p (ap doing_of there) is

  pub signal_edge : (s : ℕ) → IsEdgeSignal d s → Among (flat_map (λ (task : Task). waited task.does) d.tasks) s
  signal_edge s is =
      let (task, there, same) = by_task (slice_get d.tasks is.process) refl is.does in
      edge_in d.tasks s is.process task there (subst (λ does. Among (waited does) s) (sym same) (among_waits is.events s is.waits))
    where
      by_task : (o : Option Task) → slice_get d.tasks is.process ≡ o → doing_of o ≡ Some (Edge' is.events is.body) → (task : Task) × (slice_get d.tasks is.process ≡ Some task) × (task.does ≡ Edge' is.events is.body)
      by_task None e h = absurd (none-some _ h)
      by_task (Some task) e h = (task, e, same_Some task.does _ h)

-- ---- marks

pub marked_nothing : (marks : List Bool) → AreMarkedAlso [] marks marks
marked_nothing marks = record { size = refl; each = λ k. (λ h. inl h, from k) }
  where
    from : (k : ℕ) → (get_or marks k false ≡ true) ⊎ ((k < length marks) × ⊥) → get_or marks k false ≡ true
    from k (inl h) = h
    from k (inr h) = absurd h.1

pub any_from : (marks : List Bool) (places : List ℕ) → list_any (λ place. get_or marks place false) places ≡ true → (k : ℕ) × Among places k × (get_or marks k false ≡ true)
any_from marks [] h = absurd (false≢true h)
any_from marks (place ∷ places) h = elim (or_cases (get_or marks place false) (list_any (λ place. get_or marks place false) places) h) [
  | inl here ↦ (place, inl refl, here)
  | inr later ↦ let (k, among, is) = any_from marks places later in (k, inr among, is)
]

pub any_to : (marks : List Bool) (places : List ℕ) (k : ℕ) → Among places k → get_or marks k false ≡ true → list_any (λ place. get_or marks place false) places ≡ true
any_to marks [] k among is = absurd among
any_to marks (place ∷ places) k (inl same) is =
    or_left (get_or marks place false) (list_any (λ place. get_or marks place false) places) (ap (λ p. get_or marks p false) (sym same) ∙ is)
any_to marks (place ∷ places) k (inr later) is =
    or_right (get_or marks place false) (list_any (λ place. get_or marks place false) places) (any_to marks places k later is)

pub input_below : (signals : List Signal) (c : ℕ) → is_input_of (slice_get signals c) ≡ true → c < length signals
input_below [] c h = absurd (false≢true h)
input_below (s ∷ signals) zero h = omega arith
input_below (s ∷ signals) (suc c) h = let below = input_below signals c h in omega (arith, below)

module _ (d : Flat) where
  pub edge_marks : (old marks : List Bool) → old ≡ replicate (length d.signals) false → length old ≡ length d.signals → AreMarkedAlso (flat_map (λ (task : Task). waited task.does) d.tasks) old marks → AreEdgeMarks d marks
  edge_marks old marks none size marked =
      record { size = marked.size ∙ size; each = λ s. (λ h. to s ((marked.each s).0 h), from s) }
    where
      to : (s : ℕ) → (get_or old s false ≡ true) ⊎ ((s < length old) × Among (flat_map (λ (task : Task). waited task.does) d.tasks) s) → (s < length d.signals) × IsEdgeSignal d s
      to s (inl h) = absurd (both_ways (get_or old s false) (ap (λ l. get_or l s false) none ∙ none_marked (length d.signals) s) h)
      to s (inr h) = (subst (λ n. s < n) size h.0, edge_signal d s h.1)

      from : (s : ℕ) → (s < length d.signals) × IsEdgeSignal d s → get_or marks s false ≡ true
      from s h = (marked.each s).1 (inr (subst (λ n. s < n) (sym size) h.0, signal_edge d s h.1))

  pub reached_below : (c s : ℕ) → c < length d.signals → IsReached d c s → s < length d.signals
  reached_below c s inside Itself = inside
  reached_below c s inside (Through i j from is) = bit_inside d.signals j is.port_bit

pub got : (marks : List Bool) (s : ℕ) → slice_get marks s ≡ Some true → get_or marks s false ≡ true
got [] s h = absurd (none-some _ h)
got (mark ∷ marks) zero h = same_Some mark true h
got (mark ∷ marks) (suc s) h = got marks s h

pub marked_there : (marks : List Bool) (s : ℕ) → get_or marks s false ≡ true → slice_get marks s ≡ Some true
marked_there [] s h = absurd (false≢true h)
marked_there (mark ∷ marks) zero h = ap Some h
marked_there (mark ∷ marks) (suc s) h = marked_there marks s h

-- ---- what loops keep

pub task_there : (design : Design) (n : ℕ) → n < length design.processes.items → (task : Task) × (slice_get (flat design).tasks n ≡ Some task)
task_there design n below = there (flat design).tasks n (omega (arith, below, task_count design))
  where
    there : (tasks : List Task) (n : ℕ) → n < length tasks → (task : Task) × (slice_get tasks n ≡ Some task)
    there [] n below = absurd (omega (arith, below))
    there (task ∷ tasks) zero below = (task, refl)
    there (task ∷ tasks) (suc n) below = there tasks n (omega (arith, below))

-- the marks of one element more
pub marked_next : {X : Type 0} (f : X → List ℕ) (xs : List X) (n : ℕ) (x : X) (first old new : List Bool) → n < length xs → x ≡ get_or xs n x → AreMarkedAlso (flat_map f (take n xs)) first old → AreMarkedAlso (f x) old new → AreMarkedAlso (flat_map f (take (n + 1) xs)) first new
marked_next f xs n x first old new below is before more =
    let last : take (n + 1) xs ≡ take n xs ++ x ∷ [] = take_more xs n x below ∙ ap (λ y. take n xs ++ y ∷ []) (sym is) in
    let next : flat_map f (take (n + 1) xs) ≡ flat_map f (take n xs) ++ f x =
    ap (flat_map f) last ∙ flat_map-append f (take n xs) (x ∷ []) ∙ ap (λ l. flat_map f (take n xs) ++ l) (append-nil (f x)) in
    subst (λ all. AreMarkedAlso all first new) (sym next) (marked_more (flat_map f (take n xs)) (f x) first old new before more)

pub marked_over : {X Y : Type 0} (g : X → Y) (f : Y → List ℕ) (xs : List X) → flat_map (λ x. f (g x)) xs ≡ flat_map f (map g xs)
marked_over g f [] = refl
marked_over g f (x ∷ xs) = ap (λ l. f (g x) ++ l) (marked_over g f xs)

pub waits_of : (processes : List Process) → flat_map (λ (process : Process). waited (doing process.does)) processes ≡ flat_map (λ (task : Task). waited task.does) (map task processes)
waits_of [] = refl
waits_of (process ∷ processes) = ap (λ l. waited (doing process.does) ++ l) (waits_of processes)

-- a vector whose elements were all written
pub written : (size : ℕ) (new old : List Bool) → size ≡ length old → length new ≡ length old → take size (new ++ drop (length new) old) ≡ new
written size new old is same =
    ap (λ n. take n (new ++ drop (length new) old)) (is ∙ sym same) ∙ take-append_seam new (drop (length new) old)
