-- Marks of clocks, of gates and of processes.
use Rattle.std.proofs.Common.{◌≡◌, ◌∙◌, ℕ, ◌+◌, ◌<◌, Bool, true, false, if◌then◌else◌, List, [], ◌∷◌, length, get_or, replicate, Option, Some, None, refl, sym, ap, subst, inl, inr, arith}
use Rattle.std.specs.Prelude.{◌⊎◌, ◌↔◌, Vec}
use Rattle.std.specs.List.{flat_map, list_any, slice_get}
use Rattle.std.specs.declared.alloc.Global.{Global}
use Rattle.std.proofs.lemmas.Bool.{both_ways, cases_eq}
use Rattle.std.proofs.lemmas.List.{length-replicate}
use Rattle.std.proofs.lemmas.Option.{none-some, slice_get_within}
use Rattle.rtl_bits.specs.declared.Bit.{Bit}
use Rattle.rtl_bits.specs.declared.Bit.TheVariants as bit
use Rattle.rtl_bits.specs.Bits.{same_bit}
use Rattle.rtl_bits.proofs.Tables.{same_from_bit}
use Rattle.rtl_flat.specs.Flats.{Flat}
use Rattle.rtl_flat.specs.Process.{Comb, Task}
use Rattle.event_model.specs.Queue.{doing_of, is_input_of}
use Rattle.net_model.specs.Control.{IsClockOrReset}
use Rattle.net_model.specs.Gates.{Gate, IsAdmitted, IsGateInput, IsGatedLatch}
use Rattle.net_model.proofs.Gates.{from_input}
use Rattle.check_chains.specs.rtl_scan.Arrows.{Among}
use Rattle.check_gates.specs.Admitted.{AreGates, IsGatedProcess, gate_of, gates_of}
use Rattle.check_gates.specs.Latches.{AreClocks, IsOpenAt, open_input, own_input, own_process}
use Rattle.check_gates.specs.Links.{AreRows}
use Rattle.check_gates.specs.Passed.{ArePassing}
use Rattle.check_gates.specs.Reach.{Reaches}
use Rattle.check_gates.specs.Tops.{AreMarkedAlso}
use Rattle.check_gates.specs.Waits.{AreEdgeMarks, ReachesMarked}
use Rattle.check_gates.specs.declared.gate.Gate as declared
use Rattle.check_gates.specs.declared.reach.Link.{Link}
use Rattle.check_gates.proofs.Fitting.{get_any}
use Rattle.check_gates.proofs.Latched.{In, in_head, in_map, in_nothing, in_split, in_tail, map_in}
use Rattle.check_gates.proofs.Reached.{among_cases, among_left, among_right, none_marked}
use Rattle.check_gates.proofs.Waiting.{any_from, any_to, got, input_below, marked_there, reached_below, reached_from, reached_to}

abbrev pub blank : declared.Gate
blank =
    record { process = record { 0 = 0 }; signal = record { 0 = 0 }; input = record { 0 = 0 }; opens_at = bit.Zero }

abbrev pub gate_there : List declared.Gate → ℕ → declared.Gate
gate_there gates n = get_or gates n blank

pub gate_is : (gates : List declared.Gate) (n : ℕ) → n < length gates → gate_there gates n ≡ get_or gates n (gate_there gates n)
gate_is gates n below = get_any gates n blank (gate_there gates n) below

-- ---- clocks and resets

pub reaches_is : (rows : List (Vec ℕ Global)) (marks : List Bool) (start : ℕ) (found : List ℕ) → ((k : ℕ) → Among found k ↔ Reaches rows start k) → list_any (λ place. get_or marks place false) found ≡ true ↔ ReachesMarked rows marks start
reaches_is rows marks start found is = (
  λ h. let (k, among, at) = any_from marks found h in record { signal = k; reached = (is k).0 among; marked = at },
  λ h. any_to marks found h.signal ((is h.signal).1 h.reached) h.marked,
)

module _ (d : Flat) where
  pub clock_below : (c : ℕ) → IsClockOrReset d c → c < length d.signals
  clock_below c clock = input_below d.signals c clock.input

  pub clocks_none : (marks : List Bool) → marks ≡ replicate (length d.signals) false → AreClocks d 0 marks
  clocks_none marks none =
      record {
        size = ap length none ∙ length-replicate (length d.signals) false;
        each = λ c. (λ h. absurd (both_ways (get_or marks c false) (ap (λ l. get_or l c false) none ∙ none_marked (length d.signals) c) h), λ h. absurd (omega (arith, h.0)));
      }

  pub clocks_pass : (n : ℕ) (marks : List Bool) → AreClocks d n marks → (IsClockOrReset d n → ⊥) → AreClocks d (n + 1) marks
  clocks_pass n marks are other =
      record { size = are.size; each = λ c. (λ h. let (below, is) = (are.each c).0 h in (omega (arith, below), is), λ h. back c h.0 h.1) }
    where
      back : (c : ℕ) → c < n + 1 → IsClockOrReset d c → get_or marks c false ≡ true
      back c below is = elim (cases_eq c n) [
        | inl same ↦ absurd (other (subst (IsClockOrReset d) same is))
        | inr apart ↦ (are.each c).1 (omega (arith, below, apart), is)
      ]

  pub clocks_next : (n : ℕ) (old new : List Bool) → AreClocks d n old → IsClockOrReset d n → AreMarkedAlso (n ∷ []) old new → AreClocks d (n + 1) new
  clocks_next n old new are here marked =
      record { size = marked.size ∙ are.size; each = λ c. (λ h. to c ((marked.each c).0 h), λ h. (marked.each c).1 (from c h.0 h.1)) }
    where
      to : (c : ℕ) → (get_or old c false ≡ true) ⊎ ((c < length old) × Among (n ∷ []) c) → (c < n + 1) × IsClockOrReset d c
      to c (inl h) = let (below, is) = (are.each c).0 h in (omega (arith, below), is)
      to c (inr (below, inl same)) =
          (omega (arith, same), subst (IsClockOrReset d) (sym same) here)
      to c (inr (below, inr none)) = absurd none

      from : (c : ℕ) → c < n + 1 → IsClockOrReset d c → (get_or old c false ≡ true) ⊎ ((c < length old) × Among (n ∷ []) c)
      from c below is = elim (cases_eq c n) [
        | inl same ↦ let inside = clock_below c is in let size = are.size in inr (omega (arith, inside, size), inl same)
        | inr apart ↦ inl ((are.each c).1 (omega (arith, below, apart), is))
      ]

  pub clock_marks : (marks : List Bool) → AreClocks d (length d.signals) marks → (c : ℕ) → get_or marks c false ≡ true ↔ IsClockOrReset d c
  clock_marks marks are c =
      (λ h. ((are.each c).0 h).1, λ is. (are.each c).1 (clock_below c is, is))

  module _ (links : List Link) (rows : List (Vec ℕ Global)) (are : AreRows (length d.signals) links rows) (all : ArePassing d (length d.tasks) links) (edges : List Bool) (marked : AreEdgeMarks d edges) where
    pub clock_is : (n : ℕ) → is_input_of (slice_get d.signals n) ≡ true → ReachesMarked rows edges n → IsClockOrReset d n
    clock_is n top it =
        record {
          input = top;
          signal = it.signal;
          reached = reached_from d links rows are all n it.signal it.reached;
          edges = ((marked.each it.signal).0 it.marked).1;
        }

    pub clock_reaches : (n : ℕ) → IsClockOrReset d n → ReachesMarked rows edges n
    clock_reaches n clock =
        record {
          signal = clock.signal;
          reached = reached_to d links rows are all n clock.signal clock.reached;
          marked = (marked.each clock.signal).1 (reached_below d n clock.signal (clock_below n clock) clock.reached, clock.edges);
        }

-- ---- what lists make

pub among_flat : {X : Type 0} (f : X → List ℕ) (xs : List X) (k : ℕ) → Among (flat_map f xs) k ↔ ((x : X) × In xs x × Among (f x) k)
among_flat {X} f xs k = (to xs, λ h. from xs h.0 h.1 h.2)
  where
    to : (xs : List X) → Among (flat_map f xs) k → (x : X) × In xs x × Among (f x) k
    to [] h = absurd h
    to (x ∷ xs) h = elim (among_cases (f x) (flat_map f xs) k h) [
      | inl here ↦ (x, in_head x xs, here)
      | inr later ↦ let (y, at, among) = to xs later in (y, in_tail x xs y at, among)
    ]

    from : (xs : List X) (x : X) → In xs x → Among (f x) k → Among (flat_map f xs) k
    from [] x at among = absurd (in_nothing x at)
    from (y ∷ xs) x at among = elim (in_split y xs x at) [
      | inl here ↦ among_left (f y) (flat_map f xs) k (subst (λ (z : X). Among (f z) k) (sym here) among)
      | inr later ↦ among_right (f y) (flat_map f xs) k (from xs x later among)
    ]

-- marks from nothing
pub marks_are : (n : ℕ) (places : List ℕ) (old new : List Bool) → old ≡ replicate n false → AreMarkedAlso places old new → (k : ℕ) → get_or new k false ≡ true ↔ ((k < n) × Among places k)
marks_are n places old new none marked k =
    (λ h. to ((marked.each k).0 h), λ h. (marked.each k).1 (inr (subst (λ m. k < m) (sym size) h.0, h.1)))
  where
    size : length old ≡ n
    size = ap length none ∙ length-replicate n false

    to : (get_or old k false ≡ true) ⊎ ((k < length old) × Among places k) → (k < n) × Among places k
    to (inl h) = absurd (both_ways (get_or old k false) (ap (λ l. get_or l k false) none ∙ none_marked n k) h)
    to (inr h) = (subst (λ m. k < m) size h.0, h.1)

-- ---- latches that are open at a value

same_self : (b : Bit) → same_bit b b ≡ true
same_self bit.Zero = refl
same_self bit.One = refl
same_self bit.X = refl
same_self bit.Z = refl

open_among : (opens : Bit) (x : declared.Gate) (c : ℕ) → Among (open_input opens x) c → (x.input.0 ≡ c) × (x.opens_at ≡ opens)
open_among opens x c h = by (same_bit x.opens_at opens) refl h
  where
    by : (b : Bool) → same_bit x.opens_at opens ≡ b → Among (if b then x.input.0 ∷ [] else []) c → (x.input.0 ≡ c) × (x.opens_at ≡ opens)
    by true e (inl same) = (sym same, same_from_bit x.opens_at opens e)
    by true e (inr none) = absurd none
    by false e none = absurd none

among_open : (opens : Bit) (x : declared.Gate) → x.opens_at ≡ opens → Among (open_input opens x) x.input.0
among_open opens x same =
    subst (λ (b : Bool). Among (if b then x.input.0 ∷ [] else []) x.input.0) (sym (ap (λ b. same_bit b opens) same ∙ same_self opens)) (inl refl)

pub open_marks : (n : ℕ) (gates : List declared.Gate) (opens : Bit) (old new : List Bool) → old ≡ replicate n false → AreMarkedAlso (flat_map (open_input opens) gates) old new → (c : ℕ) → get_or new c false ≡ true ↔ ((c < n) × IsOpenAt (gates_of gates) opens c)
open_marks n gates opens old new none marked c =
    (λ h. let (below, among) = (are c).0 h in (below, to ((among_flat (open_input opens) gates c).0 among)), λ h. (are c).1 (h.0, (among_flat (open_input opens) gates c).1 (from h.1)))
  where
    are : (k : ℕ) → get_or new k false ≡ true ↔ ((k < n) × Among (flat_map (open_input opens) gates) k)
    are = marks_are n (flat_map (open_input opens) gates) old new none marked

    to : ((x : declared.Gate) × In gates x × Among (open_input opens x) c) → IsOpenAt (gates_of gates) opens c
    to (x, at, among) =
        let (input, value) = open_among opens x c among in
        (x.process.0, (gate_of x).1, in_map gate_of gates x at, input, value)

    from : IsOpenAt (gates_of gates) opens c → (x : declared.Gate) × In gates x × Among (open_input opens x) c
    from (p, gate, at, input, value) =
        let (x, its, same) = map_in gate_of gates (p, gate) at in
        let own : (gate_of x).1 ≡ gate = ap (λ (v : ℕ × Gate). v.1) same in
        let here : x.input.0 ≡ c = ap (λ (g : Gate). g.input) own ∙ input in
        (x, its, subst (Among (open_input opens x)) here (among_open opens x (ap (λ (g : Gate). g.opens) own ∙ value)))

-- ---- processes, inputs and signals of gates

module _ (d : Flat) (gates : List declared.Gate) (are : AreGates d (gates_of gates)) where
  pub admitted_in : (x : declared.Gate) → In gates x → IsAdmitted d x.process.0 (gate_of x).1
  admitted_in x at = (are.each x.process.0 (gate_of x).1).1 (in_map gate_of gates x at)

  pub in_admitted : (p : ℕ) (gate : Gate) → IsAdmitted d p gate → (x : declared.Gate) × In gates x × (gate_of x ≡ (p, gate))
  in_admitted p gate is = map_in gate_of gates (p, gate) ((are.each p gate).0 is)

  task_below : (p : ℕ) (gate : Gate) → IsGatedLatch d p gate → p < length d.tasks
  task_below p gate latch = by (slice_get d.tasks p) refl latch.does
    where
      by : (o : Option Task) → slice_get d.tasks p ≡ o → doing_of o ≡ Some (Comb latch.list latch.body) → p < length d.tasks
      by None e h = absurd (none-some _ h)
      by (Some task) e h = slice_get_within d.tasks p task e

  pub process_marks : (n : ℕ) (old new : List Bool) → n ≡ length d.tasks → old ≡ replicate n false → AreMarkedAlso (flat_map own_process gates) old new → (p : ℕ) → slice_get new p ≡ Some true ↔ IsGatedProcess d p
  process_marks n old new size none marked p = (λ h. to (got new p h), λ h. marked_there new p (from h))
    where
      has : (k : ℕ) → get_or new k false ≡ true ↔ ((k < n) × Among (flat_map own_process gates) k)
      has = marks_are n (flat_map own_process gates) old new none marked

      own : (x : declared.Gate) → Among (own_process x) p → x.process.0 ≡ p
      own x (inl same) = sym same
      own x (inr none) = absurd none

      to : get_or new p false ≡ true → IsGatedProcess d p
      to h =
          let (x, at, among) = (among_flat own_process gates p).0 ((has p).0 h).1 in
          ((gate_of x).1, subst (λ q. IsAdmitted d q (gate_of x).1) (own x among) (admitted_in x at))

      from : IsGatedProcess d p → get_or new p false ≡ true
      from (gate, is) =
          let (x, at, same) = in_admitted p gate is in
          let here : p ≡ x.process.0 = sym (ap (λ (v : ℕ × Gate). v.0) same) in
          let below = task_below p gate is.latch in
          (has p).1 (omega (arith, below, size), (among_flat own_process gates p).1 (x, at, inl here))

  pub input_marks : (n : ℕ) (old new : List Bool) → n ≡ length d.signals → old ≡ replicate n false → AreMarkedAlso (flat_map own_input gates) old new → (c : ℕ) → slice_get new c ≡ Some true ↔ IsGateInput d c
  input_marks n old new size none marked c = (λ h. to (got new c h), λ h. marked_there new c (from h))
    where
      has : (k : ℕ) → get_or new k false ≡ true ↔ ((k < n) × Among (flat_map own_input gates) k)
      has = marks_are n (flat_map own_input gates) old new none marked

      own : (x : declared.Gate) → Among (own_input x) c → x.input.0 ≡ c
      own x (inl same) = sym same
      own x (inr none) = absurd none

      to : get_or new c false ≡ true → IsGateInput d c
      to h =
          let (x, at, among) = (among_flat own_input gates c).0 ((has c).0 h).1 in
          record { process = x.process.0; gate = (gate_of x).1; admitted = admitted_in x at; same = own x among }

      from : IsGateInput d c → get_or new c false ≡ true
      from is =
          let (x, at, same) = in_admitted is.process is.gate is.admitted in
          let here : c ≡ x.input.0 = sym (ap (λ (v : ℕ × Gate). v.1.input) same ∙ is.same) in
          let latch = is.admitted.latch in
          let inside = input_below d.signals is.gate.input (from_input d is.gate.input is.gate.signal latch.comes) in
          let its = is.same in
          (has c).1 (omega (arith, inside, size, its), (among_flat own_input gates c).1 (x, at, inl here))
