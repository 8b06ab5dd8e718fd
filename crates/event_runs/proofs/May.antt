-- What may be written at once, or late, may be written.
use Rattle.std.proofs.Common.{◌≡◌, ℕ, Bool, true, not, List, [], ◌∷◌, inl, inr}
use Rattle.std.specs.List.{list_any}
use Rattle.std.proofs.lemmas.Bool.{and_parts, or_cases, or_left, or_right}
use Rattle.rtl_flat.specs.Paths.{Flow, MayWrite, MayWriteLate, MayWriteNow, Read, Step, Write, may_write_bit, may_write_late, may_write_now}
use Rattle.rtl_flat.specs.PathSets.{OfProcess}
use Rattle.rtl_flat.specs.Flats.{Flat}
use Rattle.event_runs.proofs.Writers.{of_process, to_process}

any_more : (f g : Step → Bool) → ((x : Step) → f x ≡ true → g x ≡ true) → (path : List Step) → list_any f path ≡ true → list_any g path ≡ true
any_more f g more [] h = h
any_more f g more (x ∷ path) h =
    elim (or_cases (f x) (list_any f path) h) [
      | inl here ↦ or_left (g x) (list_any g path) (more x here)
      | inr there ↦ or_right (g x) (list_any g path) (any_more f g more path there)
    ]

now_step : (i k : ℕ) (x : Step) → may_write_now i k x ≡ true → may_write_bit i k x ≡ true
now_step i k (Read bits) h = h
now_step i k (Write delayed may sure) h = (and_parts (not delayed) (may i k) h).1

late_step : (i k : ℕ) (x : Step) → may_write_late i k x ≡ true → may_write_bit i k x ≡ true
late_step i k (Read bits) h = h
late_step i k (Write delayed may sure) h = (and_parts delayed (may i k) h).1

pub now_may : (flow : Flow) (i k : ℕ) → MayWriteNow flow i k → MayWrite flow i k
now_may flow i k h =
    record {
      path = h.path;
      is_path = h.is_path;
      written = any_more (may_write_now i k) (may_write_bit i k) (now_step i k) h.path h.written;
    }

pub late_may : (flow : Flow) (i k : ℕ) → MayWriteLate flow i k → MayWrite flow i k
late_may flow i k h =
    record {
      path = h.path;
      is_path = h.is_path;
      written = any_more (may_write_late i k) (may_write_bit i k) (late_step i k) h.path h.written;
    }

pub process_now : (d : Flat) (q i k : ℕ) → OfProcess MayWriteNow d.signals d.tasks q i k → OfProcess MayWrite d.signals d.tasks q i k
process_now d q i k h =
    let (does, here, may) = of_process MayWriteNow d q i k h in
    to_process MayWrite d q i k does here (now_may _ i k may)

pub process_late : (d : Flat) (q i k : ℕ) → OfProcess MayWriteLate d.signals d.tasks q i k → OfProcess MayWrite d.signals d.tasks q i k
process_late d q i k h =
    let (does, here, may) = of_process MayWriteLate d q i k h in
    to_process MayWrite d q i k does here (late_may _ i k may)
