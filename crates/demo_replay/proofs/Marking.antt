-- Marks of signals: temporaries, and what processes with edges may write.
use Rattle.std.proofs.Common.{◌≡◌, ◌∙◌, ◌==◌, ◌<◌, ◌+◌, ℕ, zero, suc, Bool, true, false, List, [], ◌∷◌, length, map, replicate, Some, refl, sym, ap, subst, inl, inr, arith}
use Rattle.std.specs.Prelude.{◌↔◌}
use Rattle.std.specs.List.{slice_get}
use Rattle.std.proofs.lemmas.Bool.{cases_eq, eq-eqb, eqb-true, false≢true, or_cases, or_left, or_right}
use Rattle.std.proofs.lemmas.List.{length-replicate}
use Rattle.rtl_flat.specs.Process.{Task}
use Rattle.rtl_rule.specs.Parts.{has_some, is_clocked, written}
use Rattle.rtl_flat.specs.Flats.{Flat, widths}
use Rattle.event_queue.specs.rtl_scan.declared.bits.Row.{Row}
use Rattle.event_queue.specs.rtl_scan.Arrows.{Among}
use Rattle.event_queue.specs.rtl_scan.Sets.{IsInOrder, has_rows}
use Rattle.event_queue.specs.rtl_scan.Usage.{has_row_of}
use Rattle.netlist_eval.specs.check_gates.Tops.{AreMarkedAlso}
use Rattle.netlist_eval.proofs.check_found_proofs.Inside.{written_inside}
use Rattle.netlist_eval.proofs.check_found_proofs.Signals.{AreRows, row_below, rows_have_some}
use Rattle.demo_replay.specs.Tables.{AreClockedBelow, MarksWritten, WritesBelow, is_marked}

-- ---- marks

pub marked : (marks : List Bool) (s : ℕ) → slice_get marks s ≡ Some true ↔ is_marked marks s ≡ true
marked [] s = (λ h. absurd (cc), λ h. absurd (false≢true h))
marked (m ∷ marks) zero = (λ h. cc, λ h. ap Some h)
marked (m ∷ marks) (suc s) = marked marks s

pub unmarked : (n s : ℕ) → is_marked (replicate n false) s ≡ false
unmarked zero s = refl
unmarked (suc n) zero = refl
unmarked (suc n) (suc s) = unmarked n s

-- ---- what processes with edges may write

among_rows : (rows : List Row) (s : ℕ) → has_row_of rows s ≡ true ↔ Among (map (λ (row : Row). row.signal.0) rows) s
among_rows [] s = (λ h. false≢true h, λ h. absurd h)
among_rows (row ∷ rows) s = (
  λ h.
      elim (or_cases (s == row.signal.0) (has_row_of rows s) h) [
        | inl here ↦ inl (eqb-true s row.signal.0 here)
        | inr later ↦ inr ((among_rows rows s).0 later)
      ],
  λ h.
      elim h [
        | inl here ↦ or_left (s == row.signal.0) (has_row_of rows s) (eq-eqb s row.signal.0 here)
        | inr later ↦ or_right (s == row.signal.0) (has_row_of rows s) ((among_rows rows s).1 later)
      ],
)

pub marks_written : (d : Flat) (p : ℕ) (rows : List Row) (old new : List Bool) → ((task : Task) → slice_get d.tasks p ≡ Some task → (s k : ℕ) → has_rows rows s k ≡ written d task.does s k) → IsInOrder rows → length old ≡ length d.signals → AreMarkedAlso (map (λ (row : Row). row.signal.0) rows) old new → MarksWritten d p old new
marks_written d p rows old new same order count also =
    record {
      count = also.size;
      each = λ task is s.
          let rows_are : AreRows (widths d) (written d task.does) rows = record { order = order; same = same task is; inside = written_inside (widths d) task.does } in (
            λ h.
                elim ((also.each s).0 h) [
                  | inl before ↦ inl before
                  | inr new ↦ inr (sym (rows_have_some (widths d) (written d task.does) rows rows_are s) ∙ (among_rows rows s).1 new.1)
                ],
            λ h.
                elim h [
                  | inl before ↦ (also.each s).1 (inl before)
                  | inr writes ↦
                      let row = rows_have_some (widths d) (written d task.does) rows rows_are s ∙ writes in
                      let inside : s < length old = subst (λ n. s < n) (sym count) (row_below d (written d task.does) rows rows_are s row) in
                      (also.each s).1 (inr (inside, (among_rows rows s).0 row))
                ],
          );
    }

pub none_clocked : (d : Flat) → AreClockedBelow d 0 (replicate (length d.signals) false)
none_clocked d =
    record {
      count = length-replicate (length d.signals) false;
      each = λ s. (λ h. absurd (false≢true (sym (unmarked (length d.signals) s) ∙ h)), λ h. absurd (omega (arith, h.below)));
    }

more_below : (d : Flat) (n s : ℕ) → WritesBelow d n s → WritesBelow d (n + 1) s
more_below d n s h =
    record {
      process = h.process;
      below = omega (arith, h.below);
      task = h.task;
      there = h.there;
      waits = h.waits;
      writes = h.writes;
    }

-- the process with a number waits for edges
pub clocked_next : (d : Flat) (n : ℕ) (task : Task) (old new : List Bool) → slice_get d.tasks n ≡ Some task → is_clocked task.does ≡ true → AreClockedBelow d n old → MarksWritten d n old new → AreClockedBelow d (n + 1) new
clocked_next d n task old new is waits before marks =
    record {
      count = marks.count ∙ before.count;
      each = λ s. (
        λ h.
            elim ((marks.each task is s).0 h) [
              | inl m ↦ more_below d n s ((before.each s).0 m)
              | inr writes ↦ record { process = n; below = omega arith; task = task; there = is; waits = waits; writes = writes }
            ],
        λ h. to s h,
      );
    }
  where
    to : (s : ℕ) → WritesBelow d (n + 1) s → is_marked new s ≡ true
    to s h =
        elim (cases_eq h.process n) [
          | inl here ↦
              let same : task ≡ h.task = of_some (sym is ∙ ap (slice_get d.tasks) (sym here) ∙ h.there) in
              (marks.each task is s).1 (inr (ap (λ (one : Task). has_some (widths d) (written d one.does) s) same ∙ h.writes))
          | inr other ↦
              (marks.each task is s).1 (inl ((before.each s).1 (record { process = h.process; below = omega (arith, h.below, other); task = h.task; there = h.there; waits = h.waits; writes = h.writes })))
        ]
      where
        of_some : {x y : Task} → Some x ≡ Some y → x ≡ y
        of_some e = cc

-- it doesn't
pub unclocked_next : (d : Flat) (n : ℕ) (task : Task) (marks : List Bool) → slice_get d.tasks n ≡ Some task → is_clocked task.does ≡ false → AreClockedBelow d n marks → AreClockedBelow d (n + 1) marks
unclocked_next d n task marks is waits before =
    record {
      count = before.count;
      each = λ s. (λ h. more_below d n s ((before.each s).0 h), λ h. (before.each s).1 (below s h));
    }
  where
    below : (s : ℕ) → WritesBelow d (n + 1) s → WritesBelow d n s
    below s h =
        elim (cases_eq h.process n) [
          | inl here ↦
              let same : task ≡ h.task = of_some (sym is ∙ ap (slice_get d.tasks) (sym here) ∙ h.there) in
              absurd (false≢true (sym waits ∙ ap (λ (one : Task). is_clocked one.does) same ∙ h.waits))
          | inr other ↦ record { process = h.process; below = omega (arith, h.below, other); task = h.task; there = h.there; waits = h.waits; writes = h.writes }
        ]
      where
        of_some : {x y : Task} → Some x ≡ Some y → x ≡ y
        of_some e = cc
