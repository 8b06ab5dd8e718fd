-- Processes that are put into rows.
use Rattle.std.proofs.Common.{ℕ, zero, suc, ◌≡◌, ◌∙◌, ◌<◌, ◌≤◌, ◌+◌, ◌-◌, arith, Bool, true, false, cond, ◌||◌, List, [], ◌∷◌, ◌++◌, drop, length, set, map, Option, Some, Vec, refl, sym, ap, inl, inr}
use Rattle.std.specs.Prelude.{◌==◌}
use Rattle.std.specs.List.{slice_get}
use Rattle.std.specs.Option.{unwrap_or}
use Rattle.std.specs.declared.alloc.Global.{Global}
use Rattle.std.proofs.lemmas.Bool.{cases_Bool, cases_eq, eq-eqb, ne_eqb, cond-true, cond-false}
use Rattle.std.proofs.lemmas.List.{length-set}
use Rattle.std.proofs.lemmas.Option.{none-some}
use Rattle.rtl_flat.specs.declared.act.ProcId.{ProcId}
use Rattle.rtl_flat.specs.declared.act.TargetPart.{TargetPart}
use Rattle.rtl_flat.specs.Process.{Piece, Doing, Assign, Comb, Edge', Task, Actions, Watched, piece}
use Rattle.rtl_flat.specs.Expression.{Tree}
use Rattle.event_model.specs.Queue.{doing_of, doing_at}
use Rattle.rtl_flat.specs.Flats.{Flat}
use Rattle.event_write.specs.QueueState.{row}
use Rattle.event_write.specs.event_tally.Targets.{names, drives_of}
use Rattle.event_tables.specs.Driving.{drives, ends_in, list_with, Enters}
use Rattle.event_tables.proofs.Ears.{row_set, row_other}

-- the last one that is seen
pub last_is : (xs : List ProcId) (n : ℕ) (x : ProcId) (p : ℕ) → n ≡ length xs - 1 → Some x ≡ slice_get xs n → (x.0 == p) ≡ ends_in xs p
last_is [] n x p at is = absurd (none-some x (sym is))
last_is (y ∷ []) zero x p at is = ap (λ (o : Option ProcId). (unwrap_or {T = ProcId} o (record { 0 = 0 })).0 == p) is
last_is (y ∷ []) (suc n) x p at is = absurd (omega (arith, at))
last_is (y ∷ z ∷ ys) zero x p at is = absurd (omega (arith, at))
last_is (y ∷ z ∷ ys) (suc n) x p at is = last_is (z ∷ ys) n x p (omega (arith, at)) is

push_ends : (xs : List ProcId) (p : ProcId) → ends_in (xs ++ p ∷ []) p.0 ≡ true
push_ends [] p = eq-eqb p.0 p.0 refl
push_ends (x ∷ []) p = eq-eqb p.0 p.0 refl
push_ends (x ∷ y ∷ xs) p = push_ends (y ∷ xs) p

-- who is entered twice is entered once
entered_twice : (p : ProcId) (xs : List ProcId) → list_with p (list_with p xs) ≡ list_with p xs
entered_twice p xs =
    elim (cases_Bool (ends_in xs p.0)) [
      | inl e ↦ ap (list_with p) (cond-true (ends_in xs p.0) xs (xs ++ p ∷ []) e)
      | inr e ↦
          let is : list_with p xs ≡ xs ++ p ∷ [] = cond-false (ends_in xs p.0) xs (xs ++ p ∷ []) e in
          ap (list_with p) is ∙ cond-true (ends_in (xs ++ p ∷ []) p.0) (xs ++ p ∷ []) ((xs ++ p ∷ []) ++ p ∷ []) (push_ends xs p) ∙ sym is
    ]

joined : (p : ProcId) (a b : Bool) (xs : List ProcId) → cond b (list_with p (cond a (list_with p xs) xs)) (cond a (list_with p xs) xs) ≡ cond (a || b) (list_with p xs) xs
joined p true true xs = entered_twice p xs
joined p true false xs = refl
joined p false true xs = refl
joined p false false xs = refl

pub enters_nothing : (p : ProcId) (which : ℕ → Bool) (rows : List (Vec ProcId Global)) → ((i : ℕ) → i < length rows → which i ≡ false) → Enters p which rows rows
enters_nothing p which rows none = record {
  same_length = refl;
  rows = λ i within. sym (cond-false (which i) (list_with p (row rows i)) (row rows i) (none i within));
}

pub enters_then : (p : ProcId) (f g h : ℕ → Bool) (x y z : List (Vec ProcId Global)) → ((i : ℕ) → h i ≡ (f i || g i)) → Enters p f x y → Enters p g y z → Enters p h x z
enters_then p f g h x y z is one two = record {
  same_length = two.same_length ∙ one.same_length;
  rows = λ i within.
      two.rows i (let same = one.same_length in omega (arith, within, same))
      ∙ ap (λ xs. cond (g i) (list_with p xs) xs) (one.rows i within)
      ∙ joined p (f i) (g i) (row x i)
      ∙ ap (λ b. cond b (list_with p (row x i)) (row x i)) (sym (is i));
}

pub enters_same : (p : ProcId) (f g : ℕ → Bool) (x y : List (Vec ProcId Global)) → ((i : ℕ) → f i ≡ g i) → Enters p f x y → Enters p g x y
enters_same p f g x y is one = record {
  same_length = one.same_length;
  rows = λ i within. one.rows i within ∙ ap (λ b. cond b (list_with p (row x i)) (row x i)) (is i);
}

-- a row that isn't there
pub enters_past : (p : ProcId) (signal : ℕ) (rows : List (Vec ProcId Global)) → length rows ≤ signal → Enters p (λ i. i == signal) rows rows
enters_past p signal rows past =
    enters_nothing p (λ i. i == signal) rows (λ i within. ne_eqb i signal (λ e. omega (arith, within, past, e)))

-- a row where the process is the last one
pub enters_again : (p : ProcId) (signal : ℕ) (rows : List (Vec ProcId Global)) → ends_in (row rows signal) p.0 ≡ true → Enters p (λ i. i == signal) rows rows
enters_again p signal rows ends = record {
  same_length = refl;
  rows = λ i within. elim (cases_eq i signal) [
    | inl e ↦ sym (ap (λ b. cond b (list_with p (row rows i)) (row rows i)) (eq-eqb i signal e) ∙ cond-true (ends_in (row rows i) p.0) (row rows i) (row rows i ++ p ∷ []) (ap (λ j. ends_in (row rows j) p.0) e ∙ ends))
    | inr apart ↦ sym (ap (λ b. cond b (list_with p (row rows i)) (row rows i)) (ne_eqb i signal apart))
  ];
}

-- a process more in the row of a signal
pub enters_pushed : (p : ProcId) (signal : ℕ) (old : List (Vec ProcId Global)) (v : Vec ProcId Global) → signal < length old → ends_in (row old signal) p.0 ≡ false → v.items ≡ row old signal ++ p ∷ [] → Enters p (λ i. i == signal) old (set old signal v)
enters_pushed p signal old v within ends is = record {
  same_length = length-set old signal v;
  rows = λ i inside. elim (cases_eq i signal) [
    | inl e ↦
        ap (row (set old signal v)) e ∙ row_set old signal v within ∙ is
        ∙ sym (cond-false (ends_in (row old signal) p.0) (row old signal) (row old signal ++ p ∷ []) ends)
        ∙ ap (λ j. list_with p (row old j)) (sym e)
        ∙ sym (ap (λ b. cond b (list_with p (row old i)) (row old i)) (eq-eqb i signal e))
    | inr apart ↦
        row_other old signal v i apart
        ∙ sym (ap (λ b. cond b (list_with p (row old i)) (row old i)) (ne_eqb i signal apart))
  ];
}

-- ---- parts of a target

pub parts_none : (p : ProcId) (parts : List TargetPart) (i : ℕ) (rows : List (Vec ProcId Global)) → drop i parts ≡ [] → Enters p (names (map piece (drop i parts))) rows rows
parts_none p parts i rows is =
    enters_nothing p (names (map piece (drop i parts))) rows (λ s within. ap (λ ps. names (map piece ps) s) is)

pub parts_more : (p : ProcId) (parts : List TargetPart) (i : ℕ) (one : TargetPart) → drop i parts ≡ one ∷ drop (i + 1) parts → (old mid new : List (Vec ProcId Global)) → Enters p (λ s. s == one.signal.0) old mid → Enters p (names (map piece (drop (i + 1) parts))) mid new → Enters p (names (map piece (drop i parts))) old new
parts_more p parts i one is old mid new first others =
    enters_then p (λ s. s == one.signal.0) (names (map piece (drop (i + 1) parts))) (names (map piece (drop i parts))) old mid new
    (λ s. ap (λ ps. names (map piece ps) s) is) first others

-- ---- processes

module _ (d : Flat) (p : ProcId) (t : Task) (at : slice_get d.tasks p.0 ≡ Some t) where
  does_at : (does : Doing) → t.does ≡ does → doing_at d p.0 ≡ Some does
  does_at does is = ap (λ o. doing_of o) at ∙ ap (λ x. Some x) is

  pub assignment_enters : (target : List Piece) (e : Tree) → t.does ≡ Assign target e → (old new : List (Vec ProcId Global)) → Enters p (names target) old new → Enters p (drives d p.0) old new
  assignment_enters target e is old new h =
      enters_same p (names target) (drives d p.0) old new
      (λ i. ap (λ o. drives_of o i) (sym (does_at (Assign target e) is))) h

  pub comb_enters : (list : Option (List Watched)) (body : Actions) → t.does ≡ Comb list body → (rows : List (Vec ProcId Global)) → Enters p (drives d p.0) rows rows
  comb_enters list body is rows =
      enters_nothing p (drives d p.0) rows (λ i within. ap (λ o. drives_of o i) (does_at (Comb list body) is))

  pub edge_enters : (events : List Watched) (body : Actions) → t.does ≡ Edge' events body → (rows : List (Vec ProcId Global)) → Enters p (drives d p.0) rows rows
  edge_enters events body is rows =
      enters_nothing p (drives d p.0) rows (λ i within. ap (λ o. drives_of o i) (does_at (Edge' events body) is))
