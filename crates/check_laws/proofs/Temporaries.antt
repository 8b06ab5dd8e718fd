-- Which signals are temporaries is decided by their bits.
use Rattle.std.proofs.Common.{◌≡◌, ◌<◌, ℕ, Bool, true, false, ◌||◌, List, [], ◌∷◌, length, Option, None, Some, refl, ap, inl, inr, ◌⊎◌}
use Rattle.std.specs.List.{slice_get}
use Rattle.std.specs.Option.{IsSomeAnd}
use Rattle.std.proofs.lemmas.Bool.{cases_eq, false≢true, or_cases, or_left, or_right}
use Rattle.std.proofs.lemmas.Option.{slice_get_within}
use Rattle.rtl_flat.specs.declared.signal.Kind.TheVariants.{Var}
use Rattle.rtl_flat.specs.declared.signal.Signal.{Signal}
use Rattle.rtl_flat.specs.Flows.{body_flow, flow_of, may_select, reads}
use Rattle.rtl_flat.specs.Paths.{MayRead, MayWrite, MayWriteLate, ReadsOutside, may_read, may_write, may_write_delayed, reads_outside}
use Rattle.rtl_flat.specs.PathSets.{IsTemporary, IsTemporaryOf, Uses, Writes, items_list, listed}
use Rattle.rtl_flat.specs.Process.{Watched, Doing, Assign, Comb, Edge', Task}
use Rattle.rtl_flat.specs.Signs.{width_in}
use Rattle.rtl_flat.proofs.Paths.{decided}
use Rattle.event_model.specs.Queue.{doing_at, doing_of}
use Rattle.net_laws.specs.event_laws.Steady.{AreLawful}
use Rattle.net_laws.proofs.event_laws_proofs.Within.{may_read_outside, read_inside, reads_inside, target_inside}
use Rattle.rtl_flat.specs.Flats.{Flat, widths}
use Rattle.check_laws.specs.Designs.{BlockingState, TemporariesDecided}
use Rattle.check_laws.proofs.Designs.{blocking_decided, late_may, process_inside}
use Rattle.check_laws.proofs.Decisions.{Decided, both, equal_kind, is_false, neither, some_number, some_of, there_decided}

-- ---- the bits that a process uses

module _ (d : Flat) (lawful : AreLawful d) where
  pub reads_within : (p : ℕ) (does : Doing) → doing_at d p ≡ Some does → (i k : ℕ) → MayRead (flow_of (widths d) does) i k → k < widths d i
  reads_within p (Assign target value) is i k read =
      elim (or_cases (reads (widths d) value i k) false ((decided (flow_of (widths d) (Assign target value)) i k).reads.1 read)) [
        | inl here ↦ reads_inside (widths d) value i k here
        | inr none ↦ absurd (false≢true none)
      ]
  reads_within p (Comb list body) is i k read =
      read_inside d.signals body (lawful p (Comb list body) is).1 i k read
  reads_within p (Edge' events body) is i k read =
      read_inside d.signals body (lawful p (Edge' events body) is).2 i k read

  items_within : (items : List Watched) (i k : ℕ) → items_list (widths d) items i k ≡ true → k < widths d i
  items_within [] i k h = absurd (false≢true h)
  items_within (item ∷ items) i k h =
      elim (or_cases (may_select (widths d) item.signal item.selection i k) (items_list (widths d) items i k) h) [
        | inl here ↦
            target_inside (widths d) (record { signal = item.signal; selection = item.selection; spot = item.spot } ∷ []) i k (or_left (may_select (widths d) item.signal item.selection i k) false here)
        | inr there ↦ items_within items i k there
      ]

  pub lists_within : (p : ℕ) (does : Doing) → doing_at d p ≡ Some does → (i k : ℕ) → listed (widths d) does i k ≡ true → k < widths d i
  lists_within p (Assign target value) is i k h = absurd (false≢true h)
  lists_within p (Comb None body) is i k h =
      reads_within p (Comb None body) is i k ((decided (body_flow (widths d) body) i k).reads.0 h)
  lists_within p (Comb (Some items) body) is i k h = items_within items i k h
  lists_within p (Edge' events body) is i k h = items_within events i k h

  module _ (p : ℕ) (task : Task) (there : slice_get d.tasks p ≡ Some task) (s : ℕ) where
    writes_decided : Decided (Writes (width_in d.signals) task s)
    writes_decided = by_bit (some_number (MayWrite (flow_of (width_in d.signals) task.does) s) (may_write (flow_of (width_in d.signals) task.does) s) (widths d s) (λ k is. (decided (flow_of (width_in d.signals) task.does) s k).writes.0 is) (λ k h. (decided (flow_of (width_in d.signals) task.does) s k).writes.1 h) (λ k h. process_inside d lawful p task.does (ap doing_of there) s k h))
      where
        by_bit : Decided ((k : ℕ) × MayWrite (flow_of (width_in d.signals) task.does) s k) → Decided (Writes (width_in d.signals) task s)
        by_bit (inl (k, h)) = inl (record { bit = k; written = h })
        by_bit (inr refutes) = inr (λ h. refutes (h.bit, h.written))

    late_decided : Decided ((k : ℕ) → MayWriteLate (flow_of (width_in d.signals) task.does) s k → ⊥)
    late_decided = by_bit (some_number (MayWriteLate (flow_of (width_in d.signals) task.does) s) (may_write_delayed (flow_of (width_in d.signals) task.does) s) (widths d s) (λ k is. (decided (flow_of (width_in d.signals) task.does) s k).late.0 is) (λ k h. (decided (flow_of (width_in d.signals) task.does) s k).late.1 h) (λ k h. process_inside d lawful p task.does (ap doing_of there) s k (late_may (flow_of (width_in d.signals) task.does) s k h)))
      where
        by_bit : Decided ((k : ℕ) × MayWriteLate (flow_of (width_in d.signals) task.does) s k) → Decided ((k : ℕ) → MayWriteLate (flow_of (width_in d.signals) task.does) s k → ⊥)
        by_bit (inl (k, h)) = inr (λ none. none k h)
        by_bit (inr refutes) = inl (λ k h. refutes (k, h))

    outside_decided : Decided ((k : ℕ) → ReadsOutside (flow_of (width_in d.signals) task.does) s k → ⊥)
    outside_decided = by_bit (some_number (ReadsOutside (flow_of (width_in d.signals) task.does) s) (reads_outside (flow_of (width_in d.signals) task.does) s) (widths d s) (λ k is. (decided (flow_of (width_in d.signals) task.does) s k).outside.0 is) (λ k h. (decided (flow_of (width_in d.signals) task.does) s k).outside.1 h) (λ k h. reads_within p task.does (ap doing_of there) s k (may_read_outside (flow_of (width_in d.signals) task.does) s k h)))
      where
        by_bit : Decided ((k : ℕ) × ReadsOutside (flow_of (width_in d.signals) task.does) s k) → Decided ((k : ℕ) → ReadsOutside (flow_of (width_in d.signals) task.does) s k → ⊥)
        by_bit (inl (k, h)) = inr (λ none. none k h)
        by_bit (inr refutes) = inl (λ k h. refutes (k, h))

    abbrev UsesBit : ℕ → Type 0
    UsesBit k =
        MayWrite (flow_of (width_in d.signals) task.does) s k ⊎ (MayRead (flow_of (width_in d.signals) task.does) s k ⊎ (listed (width_in d.signals) task.does s k ≡ true))

    uses_bit : ℕ → Bool
    uses_bit k =
        may_write (flow_of (width_in d.signals) task.does) s k || (may_read (flow_of (width_in d.signals) task.does) s k || listed (width_in d.signals) task.does s k)

    uses_to : (k : ℕ) → uses_bit k ≡ true → UsesBit k
    unfolding uses_bit
    uses_to k h =
        elim (or_cases _ _ h) [
          | inl writes ↦ inl ((decided (flow_of (width_in d.signals) task.does) s k).writes.0 writes)
          | inr rest ↦ inr (elim (or_cases _ _ rest) [
            | inl read ↦ inl ((decided (flow_of (width_in d.signals) task.does) s k).reads.0 read)
            | inr lists ↦ inr lists
          ])
        ]

    uses_back : (k : ℕ) → UsesBit k → uses_bit k ≡ true
    unfolding uses_bit
    uses_back k (inl writes) = or_left _ _ ((decided (flow_of (width_in d.signals) task.does) s k).writes.1 writes)
    uses_back k (inr (inl read)) =
        or_right _ _ (or_left _ _ ((decided (flow_of (width_in d.signals) task.does) s k).reads.1 read))
    uses_back k (inr (inr lists)) = or_right _ _ (or_right _ _ lists)

    uses_within : (k : ℕ) → UsesBit k → k < widths d s
    uses_within k (inl writes) = process_inside d lawful p task.does (ap doing_of there) s k writes
    uses_within k (inr (inl read)) = reads_within p task.does (ap doing_of there) s k read
    uses_within k (inr (inr lists)) = lists_within p task.does (ap doing_of there) s k lists

    uses_decided : Decided (Uses (width_in d.signals) task s)
    uses_decided = by_bit (some_number UsesBit uses_bit (widths d s) uses_to uses_back uses_within)
      where
        by_bit : Decided ((k : ℕ) × UsesBit k) → Decided (Uses (width_in d.signals) task s)
        by_bit (inl (k, h)) = inl (record { bit = k; used = h })
        by_bit (inr refutes) = inr (λ h. refutes (h.bit, h.used))

  -- ---- temporaries

  module _ (s p : ℕ) where
    -- another process that uses the signal
    abbrev IsOther : ℕ → Type 0
    IsOther q = (q ≡ p → ⊥) × IsSomeAnd (slice_get d.tasks q) (λ task. Uses (width_in d.signals) task s)

    other_decided : (q : ℕ) → Decided (IsOther q)
    other_decided q =
        both (q ≡ p → ⊥) (IsSomeAnd (slice_get d.tasks q) (λ task. Uses (width_in d.signals) task s)) (neither (q ≡ p) (cases_eq q p))
        (there_decided (λ task. Uses (width_in d.signals) task s) (slice_get d.tasks q) (λ task there. uses_decided q task there s))

    task_below : (P : Task → Type 0) (q : ℕ) → IsSomeAnd (slice_get d.tasks q) P → q < length d.tasks
    task_below P q h = by_task (slice_get d.tasks q) refl h
      where
        by_task : (o : Option Task) → slice_get d.tasks q ≡ o → IsSomeAnd o P → q < length d.tasks
        by_task None e none = absurd none
        by_task (Some task) e is = slice_get_within d.tasks q task e

    alone_decided : Decided ((q : ℕ) → (q ≡ p → ⊥) → IsSomeAnd (slice_get d.tasks q) (λ task. Uses (width_in d.signals) task s) → ⊥)
    alone_decided = by_other (some_of IsOther other_decided (length d.tasks) (λ q h. task_below (λ task. Uses (width_in d.signals) task s) q h.1))
      where
        by_other : Decided ((q : ℕ) × IsOther q) → Decided ((q : ℕ) → (q ≡ p → ⊥) → IsSomeAnd (slice_get d.tasks q) (λ task. Uses (width_in d.signals) task s) → ⊥)
        by_other (inl (q, h)) = inr (λ none. none q h.0 h.1)
        by_other (inr refutes) = inl (λ q other uses. refutes (q, (other, uses)))

    of_process_decided : Decided (IsTemporaryOf d.signals d.tasks p s)
    of_process_decided =
        by_parts
        (there_decided (λ (x : Signal). x.kind ≡ Var) (slice_get d.signals s) (λ x there. equal_kind x.kind))
        (there_decided (λ (x : Signal). x.top_output ≡ false) (slice_get d.signals s) (λ x there. is_false x.top_output))
        (there_decided (λ task. Writes (width_in d.signals) task s) (slice_get d.tasks p) (λ task there. writes_decided p task there s))
        (there_decided (λ task. (k : ℕ) → MayWriteLate (flow_of (width_in d.signals) task.does) s k → ⊥) (slice_get d.tasks p) (λ task there. late_decided p task there s))
        (there_decided (λ task. (k : ℕ) → ReadsOutside (flow_of (width_in d.signals) task.does) s k → ⊥) (slice_get d.tasks p) (λ task there. outside_decided p task there s))
        alone_decided
      where
        by_parts : Decided (IsSomeAnd (slice_get d.signals s) (λ x. x.kind ≡ Var)) → Decided (IsSomeAnd (slice_get d.signals s) (λ x. x.top_output ≡ false)) → Decided (IsSomeAnd (slice_get d.tasks p) (λ task. Writes (width_in d.signals) task s)) → Decided (IsSomeAnd (slice_get d.tasks p) (λ task. (k : ℕ) → MayWriteLate (flow_of (width_in d.signals) task.does) s k → ⊥)) → Decided (IsSomeAnd (slice_get d.tasks p) (λ task. (k : ℕ) → ReadsOutside (flow_of (width_in d.signals) task.does) s k → ⊥)) → Decided ((q : ℕ) → (q ≡ p → ⊥) → IsSomeAnd (slice_get d.tasks q) (λ task. Uses (width_in d.signals) task s) → ⊥) → Decided (IsTemporaryOf d.signals d.tasks p s)
        by_parts (inl a) (inl b) (inl c) (inl e) (inl f) (inl g) =
            inl (record { variable = a; inner = b; writes = c; blocking = e; inside = f; alone = g })
        by_parts (inr a) b c e f g = inr (λ h. a h.variable)
        by_parts (inl a) (inr b) c e f g = inr (λ h. b h.inner)
        by_parts (inl a) (inl b) (inr c) e f g = inr (λ h. c h.writes)
        by_parts (inl a) (inl b) (inl c) (inr e) f g = inr (λ h. e h.blocking)
        by_parts (inl a) (inl b) (inl c) (inl e) (inr f) g = inr (λ h. f h.inside)
        by_parts (inl a) (inl b) (inl c) (inl e) (inl f) (inr g) = inr (λ h. g h.alone)

pub temporaries_decided : (d : Flat) → TemporariesDecided d
temporaries_decided d lawful s =
    by_process (some_of (λ p. IsTemporaryOf d.signals d.tasks p s) (of_process_decided d lawful s) (length d.tasks) (λ p h. task_below d lawful s p (λ task. Writes (width_in d.signals) task s) p h.writes))
  where
    by_process : Decided ((p : ℕ) × IsTemporaryOf d.signals d.tasks p s) → IsTemporary d.signals d.tasks s ⊎ (IsTemporary d.signals d.tasks s → ⊥)
    by_process (inl (p, h)) = inl (record { process = p; of_process = h })
    by_process (inr refutes) = inr (λ h. refutes (h.process, h.of_process))

-- A1
pub blocking_state : (d : Flat) → BlockingState d
blocking_state d lawful = blocking_decided d (temporaries_decided d lawful) lawful
