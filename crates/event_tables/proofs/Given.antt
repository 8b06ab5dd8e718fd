-- What the processes in rows give to nets.
use Rattle.std.proofs.Common.{ℕ, zero, suc, ◌≡◌, ◌∙◌, ◌<◌, ◌+◌, arith, true, false, List, [], ◌∷◌, ◌++◌, drop, length, Some, Vec, refl, sym, ap, subst, inl, inr}
use Rattle.std.specs.List.{All, slice_get}
use Rattle.std.specs.declared.alloc.Global.{Global}
use Rattle.std.proofs.lemmas.Bool.{cases_Bool, cases_lt, ne_eqb, cond-true, cond-false}
use Rattle.std.proofs.lemmas.List.{drop_all}
use Rattle.std.proofs.lemmas.List.Elements.{All-nil, All-head, All-tail, All-push, All-weaker}
use Rattle.rtl_bits.specs.declared.Bit.{Bit}
use Rattle.rtl_flat.specs.declared.act.ProcId.{ProcId}
use Rattle.rtl_flat.specs.Process.{Task}
use Rattle.event_write.proofs.rtl_scan_proofs.Places.{width_past}
use Rattle.event_model.specs.Writes.{no_drive}
use Rattle.event_model.specs.Queue.{doing_of, doing_at, drive_with, resolved_from, resolved}
use Rattle.rtl_flat.specs.Flats.{Flat, widths}
use Rattle.event_write.specs.event_tally.Targets.{drives_of}
use Rattle.event_write.proofs.event_tally_proofs.Lengths.{resolved_length, undriven}
use Rattle.event_write.specs.QueueState.{row, driven_with, resolved_by}
use Rattle.event_tables.specs.Driving.{drives, ends_in, list_with, Enters, given_by, AreDriven}
use Rattle.event_tables.proofs.Ears.{row_past}

-- the process with a number
abbrev pub number : ℕ → ProcId
number n = record { 0 = n }

given_push : (d : Flat) (ps : List ProcId) (p : ProcId) (driver : ℕ → List Bit) (i : ℕ) (others : List Bit) → given_by d (ps ++ p ∷ []) driver i others ≡ given_by d ps driver i (driven_with (widths d) (doing_at d p.0) (driver p.0) i others)
given_push d [] p driver i others = refl
given_push d (q ∷ ps) p driver i others =
    ap (driven_with (widths d) (doing_at d q.0) (driver q.0) i) (given_push d ps p driver i others)

given_alone : (d : Flat) (ps : List ProcId) (driver : ℕ → List Bit) (i : ℕ) → given_by d ps driver i (no_drive (widths d) i) ≡ resolved_by d ps driver i
given_alone d [] driver i = refl
given_alone d (p ∷ ps) driver i =
    ap (driven_with (widths d) (doing_at d p.0) (driver p.0) i) (given_alone d ps driver i)

-- a number isn't the last of smaller ones
not_last : (xs : List ProcId) (n : ℕ) → All (λ p. p.0 < n) xs → ends_in xs n ≡ false
not_last [] n below = refl
not_last (x ∷ []) n below =
    let less = All-head (λ p. p.0 < n) x [] below in
    ne_eqb x.0 n (λ e. omega (arith, less, e))
not_last (x ∷ y ∷ xs) n below = not_last (y ∷ xs) n (All-tail (λ p. p.0 < n) x (y ∷ xs) below)

pub task_there : (tasks : List Task) (n : ℕ) → n < length tasks → (t : Task) × (slice_get tasks n ≡ Some t) × (drop n tasks ≡ t ∷ drop (n + 1) tasks)
task_there [] n h = absurd (omega (arith, h))
task_there (t ∷ tasks) zero h = (t, refl, refl)
task_there (t ∷ tasks) (suc n) h =
    let (u, at, rest) = task_there tasks n (omega (arith, h)) in
    let next : suc (n + 1) ≡ suc n + 1 = omega arith in
    (u, at, rest ∙ ap (λ m. u ∷ drop m (t ∷ tasks)) next)

pub driven_none : (d : Flat) (rows : List (Vec ProcId Global)) → length rows ≡ length d.signals → ((i : ℕ) → row rows i ≡ []) → AreDriven d 0 rows
driven_none d rows same empty = record {
  same_length = same;
  below = λ i. subst (λ (xs : List ProcId). All (λ p. p.0 < 0) xs) (sym (empty i)) (All-nil (λ p. p.0 < 0));
  given = λ driver i within. ap (λ xs. given_by d xs driver i (resolved d driver i)) (empty i);
}

-- ---- one process more

module _ (d : Flat) (n : ℕ) (old new : List (Vec ProcId Global)) (was : AreDriven d n old) (more : Enters (number n) (drives d n) old new) where
  within_old : (i : ℕ) → i < length d.signals → i < length old
  within_old i within = let same = was.same_length in omega (arith, within, same)

  row_more : (i : ℕ) → i < length d.signals → drives d n i ≡ true → row new i ≡ row old i ++ number n ∷ []
  row_more i within e =
      more.rows i (within_old i within) ∙ cond-true (drives d n i) (list_with (number n) (row old i)) (row old i) e
      ∙ cond-false (ends_in (row old i) n) (row old i) (row old i ++ number n ∷ []) (not_last (row old i) n (was.below i))

  row_same : (i : ℕ) → i < length d.signals → drives d n i ≡ false → row new i ≡ row old i
  row_same i within e =
      more.rows i (within_old i within) ∙ cond-false (drives d n i) (list_with (number n) (row old i)) (row old i) e

  below_next : (xs : List ProcId) → All (λ p. p.0 < n) xs → All (λ p. p.0 < n + 1) xs
  below_next xs h = All-weaker (λ p. p.0 < n) (λ p. p.0 < n + 1) (λ p less. omega (arith, less)) xs h

  new_below : (i : ℕ) → All (λ p. p.0 < n + 1) (row new i)
  new_below i =
      elim (cases_lt i (length d.signals)) [
        | inl within ↦ elim (cases_Bool (drives d n i)) [
          | inl e ↦ subst (λ (xs : List ProcId). All (λ p. p.0 < n + 1) xs) (sym (row_more i within e)) (All-push (λ p. p.0 < n + 1) (row old i) (number n) (below_next (row old i) (was.below i)) (omega arith))
          | inr e ↦ subst (λ (xs : List ProcId). All (λ p. p.0 < n + 1) xs) (sym (row_same i within e)) (below_next (row old i) (was.below i))
        ]
        | inr past ↦ subst (λ (xs : List ProcId). All (λ p. p.0 < n + 1) xs) (sym (row_past new i (let same = more.same_length in let first = was.same_length in omega (arith, past, same, first)))) (All-nil (λ p. p.0 < n + 1))
      ]

  module _ (t : Task) (at : slice_get d.tasks n ≡ Some t) (here : drop n d.tasks ≡ t ∷ drop (n + 1) d.tasks) where
    rest : (ℕ → List Bit) → ℕ → List Bit
    rest driver i = resolved_from (widths d) (n + 1) (drop (n + 1) d.tasks) driver i

    does_at : doing_at d n ≡ Some t.does
    does_at = ap (λ o. doing_of o) at

    -- what was given, with the process itself
    before : (driver : ℕ → List Bit) (i : ℕ) → i < length d.signals → given_by d (row old i) driver i (drive_with (widths d) t.does (driver n) i (rest driver i)) ≡ resolved d driver i
    unfolding rest
    before driver i within =
        ap (λ ts. given_by d (row old i) driver i (resolved_from (widths d) n ts driver i)) (sym here)
        ∙ was.given driver i within

    new_given : (driver : ℕ → List Bit) (i : ℕ) → i < length d.signals → given_by d (row new i) driver i (rest driver i) ≡ resolved d driver i
    unfolding rest
    new_given driver i within =
        elim (cases_Bool (drives d n i)) [
          | inl e ↦
              ap (λ xs. given_by d xs driver i (rest driver i)) (row_more i within e)
              ∙ given_push d (row old i) (number n) driver i (rest driver i)
              ∙ ap (λ o. given_by d (row old i) driver i (driven_with (widths d) o (driver n) i (rest driver i))) does_at
              ∙ before driver i within
          | inr e ↦
              ap (λ xs. given_by d xs driver i (rest driver i)) (row_same i within e)
              ∙ ap (given_by d (row old i) driver i) (sym (undriven (widths d) t.does (driver n) i (rest driver i) (ap (λ o. drives_of o i) (sym does_at) ∙ e) (resolved_length (widths d) (n + 1) (drop (n + 1) d.tasks) driver i)))
              ∙ before driver i within
        ]

pub driven_more : (d : Flat) (n : ℕ) (old new : List (Vec ProcId Global)) → n < length d.tasks → AreDriven d n old → Enters (number n) (drives d n) old new → AreDriven d (n + 1) new
unfolding rest
driven_more d n old new few was more =
    let (t, at, here) = task_there d.tasks n few in
    record {
      same_length = more.same_length ∙ was.same_length;
      below = new_below d n old new was more;
      given = new_given d n old new was more t at here;
    }

-- ---- all processes

empty_list : {A : Type 0} (xs : List A) → length xs ≡ 0 → xs ≡ []
empty_list [] h = refl
empty_list (x ∷ xs) h = absurd (omega (arith, h))

pub all_drive : (d : Flat) (rows : List (Vec ProcId Global)) → AreDriven d (length d.tasks) rows → (driver : ℕ → List Bit) (i : ℕ) → resolved_by d (row rows i) driver i ≡ resolved d driver i
all_drive d rows are driver i =
    elim (cases_lt i (length d.signals)) [
      | inl within ↦
          sym (given_alone d (row rows i) driver i)
          ∙ ap (λ ts. given_by d (row rows i) driver i (resolved_from (widths d) (length d.tasks) ts driver i)) (sym (drop_all (length d.tasks) d.tasks (omega arith)))
          ∙ are.given driver i within
      | inr past ↦
          let no_width : 0 ≡ widths d i = width_past d.signals i past in
          let same = are.same_length in
          ap (λ xs. resolved_by d xs driver i) (row_past rows i (omega (arith, past, same)))
          ∙ empty_list (no_drive (widths d) i) (resolved_length (widths d) 0 [] driver i ∙ sym no_width)
          ∙ sym (empty_list (resolved d driver i) (resolved_length (widths d) 0 d.tasks driver i ∙ sym no_width))
    ]
