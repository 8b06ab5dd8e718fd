-- The control cone as marks.
use Rattle.std.proofs.Common.{◌≡◌, ◌∙◌, ℕ, zero, suc, ◌+◌, ◌<◌, ◌==◌, ◌&&◌, if◌then◌else◌, Bool, true, false, List, [], ◌∷◌, ◌++◌, length, map, get_or, replicate, take, drop, Option, None, Some, refl, sym, ap, subst, inl, inr, arith, append-nil}
use Rattle.std.specs.Prelude.{◌⊎◌, ◌↔◌, Vec}
use Rattle.std.specs.List.{flat_map, list_any, slice_get}
use Rattle.std.specs.Option.{IsSomeAnd}
use Rattle.std.specs.declared.alloc.Global.{Global}
use Rattle.std.proofs.lemmas.Bool.{and_from, and_parts, both_ways, cases_eq, eq-eqb, eqb-true, false≢true, or_cases, or_left, or_right}
use Rattle.std.proofs.lemmas.Option.{none-some, same_Some}
use Rattle.std.proofs.Math.Seq.{take-append_seam}
use Rattle.std.proofs.lemmas.List.{take_more}
use Rattle.std.proofs.lemmas.List.Concat.{flat_map-append}
use Rattle.rtl_flat.specs.declared.design.Design.{Design}
use Rattle.rtl_flat.specs.declared.signal.Kind.{Kind}
use Rattle.rtl_flat.specs.declared.signal.Kind.TheVariants.{TopInput, Net, Var}
use Rattle.rtl_flat.specs.declared.signal.Signal.{Signal}
use Rattle.rtl_flat.specs.declared.act.Process.{Process}
use Rattle.rtl_flat.specs.Process.{Watched, Doing, Assign, Comb, Edge', Task, doing, task}
use Rattle.rtl_flat.specs.WellFormed.{has_edge}
use Rattle.event_model.specs.Queue.{doing_at, doing_of, is_input_kind, is_input_of}
use Rattle.net_model.proofs.Gates.{clock_control, control_input}
use Rattle.net_model.specs.Control.{IsClockOrReset, IsEdgeSignal, IsPassedOn, IsReached, Itself, Through, waits_for}
use Rattle.net_model.specs.Gates.{InCone, IsControl, IsGateInput}
use Rattle.rtl_flat.specs.Flats.{Flat, flat}
use Rattle.check_gates.proofs.check_chains_proofs.check_found_proofs.Sites.{task_count}
use Rattle.check_gates.specs.check_chains.rtl_scan.Arrows.{Among}
use Rattle.check_gates.specs.check_chains.rtl_scan.Graph.{row}
use Rattle.check_gates.specs.declared.reach.Link.{Link}
use Rattle.check_clocks.specs.Cone.{AreConed, IsConed, IsSpread, ReachesControl, is_control}
use Rattle.check_gates.specs.Waits.{AreEdgeMarks, ReachesMarked, waited, waited_by}
use Rattle.check_gates.specs.Passed.{ArePassing, GetsPassing}
use Rattle.check_gates.specs.Links.{AreRows}
use Rattle.check_gates.specs.Passed.{IsPassing, IsPassingLink}
use Rattle.check_gates.specs.Reach.{HasLink, Here, Onward, Reaches}
use Rattle.check_gates.specs.Tops.{AreMarkedAlso}
use Rattle.check_gates.proofs.Reached.{none_marked}
use Rattle.check_gates.proofs.Waiting.{any_from, any_to, got, input_below, marked_there, reached_below, reached_from, reached_to}

module _ (rows : List (Vec ℕ Global)) (edges : List Bool) (gate : Bool) (top : ℕ) (found : List ℕ) (is : (k : ℕ) → Among found k ↔ Reaches rows top k) where
  pub turns_to : is_control gate edges found ≡ true → ReachesControl rows edges gate top
  turns_to any = elim (or_cases gate (list_any (λ place. get_or edges place false) found) any) [
    | inl open_to ↦ inl open_to
    | inr some ↦ let (k, among, at) = any_from edges found some in inr (record { signal = k; reached = (is k).0 among; marked = at })
  ]

  pub turns_from : ReachesControl rows edges gate top → is_control gate edges found ≡ true
  turns_from (inl open_to) = or_left gate (list_any (λ place. get_or edges place false) found) open_to
  turns_from (inr it) =
      or_right gate (list_any (λ place. get_or edges place false) found) (any_to edges found it.signal ((is it.signal).1 it.reached) it.marked)

  pub spread_all : (old new : List Bool) → is_control gate edges found ≡ true → AreMarkedAlso found old new → IsSpread rows edges gate top old new
  spread_all old new any marked =
      record { size = marked.size; each = λ k. (λ h. to k ((marked.each k).0 h), λ h. (marked.each k).1 (from k h)) }
    where
      to : (k : ℕ) → (get_or old k false ≡ true) ⊎ ((k < length old) × Among found k) → (get_or old k false ≡ true) ⊎ ((k < length old) × Reaches rows top k × ReachesControl rows edges gate top)
      to k (inl h) = inl h
      to k (inr h) = inr (h.0, (is k).0 h.1, turns_to any)

      from : (k : ℕ) → (get_or old k false ≡ true) ⊎ ((k < length old) × Reaches rows top k × ReachesControl rows edges gate top) → (get_or old k false ≡ true) ⊎ ((k < length old) × Among found k)
      from k (inl h) = inl h
      from k (inr h) = inr (h.0, (is k).1 h.1)

  pub spread_none : (old : List Bool) → is_control gate edges found ≡ false → IsSpread rows edges gate top old old
  spread_none old none = record { size = refl; each = λ k. (λ h. inl h, from k) }
    where
      from : (k : ℕ) → (get_or old k false ≡ true) ⊎ ((k < length old) × Reaches rows top k × ReachesControl rows edges gate top) → get_or old k false ≡ true
      from k (inl h) = h
      from k (inr h) = absurd (both_ways (is_control gate edges found) none (turns_from h.2))

-- ---- the cone

module _ (d : Flat) where
  -- a mark among those of gates
  pub gate_marked : (marks : List Bool) (n : ℕ) (b : Bool) → b ≡ get_or marks n false → slice_get marks n ≡ Some true ↔ IsGateInput d n → b ≡ true ↔ IsGateInput d n
  gate_marked marks n b is each =
      (λ h. each.0 (marked_there marks n (sym is ∙ h)), λ gate. is ∙ got marks n (each.1 gate))

  pub coned_none : (marks : List Bool) → marks ≡ replicate (length d.signals) false → length marks ≡ length d.signals → AreConed d 0 marks
  coned_none marks none size =
      record { size = size; each = λ s. (λ h. absurd (both_ways (get_or marks s false) (ap (λ l. get_or l s false) none ∙ none_marked (length d.signals) s) h), λ h. absurd (omega (arith, h.1.below))) }

  more : (n s : ℕ) → IsConed d n s → IsConed d (n + 1) s
  more n s is =
      let under = is.below in
      record { control = is.control; below = omega (arith, under); is_control = is.is_control; reached = is.reached }

  pub coned_pass : (n : ℕ) (marks : List Bool) → AreConed d n marks → is_input_of (slice_get d.signals n) ≡ false → AreConed d (n + 1) marks
  coned_pass n marks are other =
      record { size = are.size; each = λ s. (λ h. let is = (are.each s).0 h in (is.0, more n s is.1), λ h. (are.each s).1 (h.0, less s h.1)) }
    where
      less : (s : ℕ) → IsConed d (n + 1) s → IsConed d n s
      less s is = elim (cases_eq is.control n) [
        | inl same ↦ absurd (both_ways (is_input_of (slice_get d.signals n)) other (ap (λ c. is_input_of (slice_get d.signals c)) (sym same) ∙ control_input d is.control is.is_control))
        | inr apart ↦ let under = is.below in record { control = is.control; below = omega (arith, under, apart); is_control = is.is_control; reached = is.reached }
      ]

  module _ (links : List Link) (rows : List (Vec ℕ Global)) (are : AreRows (length d.signals) links rows) (all : ArePassing d (length d.tasks) links) (edges : List Bool) (marked : AreEdgeMarks d edges) where
    pub coned_next : (n : ℕ) (gate : Bool) → gate ≡ true ↔ IsGateInput d n → (old new : List Bool) → AreConed d n old → is_input_of (slice_get d.signals n) ≡ true → IsSpread rows edges gate n old new → AreConed d (n + 1) new
    coned_next n gate is_gate old new before top spread =
        record { size = spread.size ∙ before.size; each = λ s. (λ h. to s ((spread.each s).0 h), λ h. (spread.each s).1 (from s h)) }
      where
        control : ReachesControl rows edges gate n → IsControl d n
        control (inl open_to) = inr (is_gate.0 open_to)
        control (inr it) =
            clock_control d n (record {
              input = top;
              signal = it.signal;
              reached = reached_from d links rows are all n it.signal it.reached;
              edges = ((marked.each it.signal).0 it.marked).1;
            })

        to : (s : ℕ) → (get_or old s false ≡ true) ⊎ ((s < length old) × Reaches rows n s × ReachesControl rows edges gate n) → (s < length d.signals) × IsConed d (n + 1) s
        to s (inl h) = let is = (before.each s).0 h in (is.0, more n s is.1)
        to s (inr h) = (
          subst (λ m. s < m) before.size h.0,
          record { control = n; below = omega arith; is_control = control h.2; reached = reached_from d links rows are all n s h.1 },
        )

        reaches : (c : ℕ) → c ≡ n → IsControl d c → ReachesControl rows edges gate n
        reaches c same (inr gate_input) = inl (is_gate.1 (subst (IsGateInput d) same gate_input))
        reaches c same (inl is) =
            let inside = input_below d.signals c is.input in
            inr (record {
              signal = is.signal;
              reached = reached_to d links rows are all n is.signal (subst (λ m. IsReached d m is.signal) same is.reached);
              marked = (marked.each is.signal).1 (reached_below d c is.signal inside is.reached, is.edges);
            })

        from : (s : ℕ) → (s < length d.signals) × IsConed d (n + 1) s → (get_or old s false ≡ true) ⊎ ((s < length old) × Reaches rows n s × ReachesControl rows edges gate n)
        from s h = elim (cases_eq h.1.control n) [
          | inl same ↦ inr (
            subst (λ m. s < m) (sym before.size) h.0,
            reached_to d links rows are all n s (subst (λ m. IsReached d m s) same h.1.reached),
            reaches h.1.control same h.1.is_control,
          )
          | inr apart ↦ inl ((before.each s).1 (h.0, (let under = h.1.below in record { control = h.1.control; below = omega (arith, under, apart); is_control = h.1.is_control; reached = h.1.reached })))
        ]

  pub cone_each : (marks : List Bool) → AreConed d (length d.signals) marks → (s : ℕ) → slice_get marks s ≡ Some true ↔ InCone d s
  cone_each marks are s = (to, from)
    where
      to : slice_get marks s ≡ Some true → InCone d s
      to h =
          let is = ((are.each s).0 (got marks s h)).1 in
          record { control = is.control; is_control = is.is_control; reached = is.reached }

      from : InCone d s → slice_get marks s ≡ Some true
      from is =
          let inside = input_below d.signals is.control (control_input d is.control is.is_control) in
          marked_there marks s ((are.each s).1 (
            reached_below d is.control s inside is.reached,
            record { control = is.control; below = inside; is_control = is.is_control; reached = is.reached },
          ))
