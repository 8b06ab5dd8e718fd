-- What is heard among changes.
use Rattle.std.proofs.Common.{ℕ, zero, suc, ◌≡◌, ◌∙◌, ◌<◌, ◌≤◌, ◌+◌, arith, Bool, true, false, ◌&&◌, ◌||◌, List, [], ◌∷◌, ◌++◌, drop, length, set, get_or, Option, None, Some, Vec, refl, sym, ap, subst, inl, inr}
use Rattle.std.specs.Prelude.{◌==◌}
use Rattle.std.specs.List.{All}
use Rattle.std.specs.declared.alloc.Global.{Global}
use Rattle.std.proofs.lemmas.Bool.{cases_eq, eq-eqb, ne_eqb}
use Rattle.std.proofs.lemmas.List.{length-set}
use Rattle.rtl_bits.specs.declared.Bit.{Bit}
use Rattle.rtl_bits.specs.declared.Edge.{Edge}
use Rattle.rtl_bits.specs.Bits.{is_one_at}
use Rattle.rtl_flat.specs.declared.act.ProcId.{ProcId}
use Rattle.rtl_flat.specs.Process.{Doing}
use Rattle.event_write.specs.rtl_scan.declared.bits.Row.{Row}
use Rattle.event_write.specs.rtl_scan.Sets.{has_row}
use Rattle.event_model.specs.Queue.{happens, hears, hears_from as listened_from}
use Rattle.event_write.specs.declared.listener.Listener.{Listener}
use Rattle.event_write.specs.Listeners.{AreBelow, hears_from, heard_by}
use Rattle.event_write.specs.QueueState.{row}
use Rattle.event_tables.specs.Hearing.{Ear, ear_from, listens_of, Hears, Joins}

pub or_none : (a b : Bool) → b ≡ false → (a || b) ≡ a
or_none true b e = refl
or_none false b e = e

pub or_assoc : (a b c : Bool) → ((a || b) || c) ≡ (a || (b || c))
or_assoc true b c = refl
or_assoc false b c = refl

and_none : (a b : Bool) → b ≡ false → (a && b) ≡ false
and_none true b e = e
and_none false b e = refl

mixed : (a b c d : Bool) → ((a || b) || (c || d)) ≡ ((a || c) || (b || d))
mixed true b c d = refl
mixed false true true d = refl
mixed false true false d = refl
mixed false false c d = refl

gathered : (x q f g : Bool) → ((x || (q && f)) || (q && g)) ≡ (x || (q && (f || g)))
gathered true q f g = refl
gathered false true f g = refl
gathered false false f g = refl

-- ---- ears

pub silent : (ear : Ear) (s k : ℕ) (old new : List Bit) → ((j : ℕ) (a b : Bit) → ear s j a b ≡ false) → ear_from ear s k old new ≡ false
silent ear s k [] new h = refl
silent ear s k (a ∷ old) [] h = refl
silent ear s k (a ∷ old) (b ∷ new) h =
    ap (λ t. t || ear_from ear s (k + 1) old new) (h k a b) ∙ silent ear s (k + 1) old new h

pub same_ear : (f g : Ear) (s k : ℕ) (old new : List Bit) → ((j : ℕ) (a b : Bit) → f s j a b ≡ g s j a b) → ear_from f s k old new ≡ ear_from g s k old new
same_ear f g s k [] new h = refl
same_ear f g s k (a ∷ old) [] h = refl
same_ear f g s k (a ∷ old) (b ∷ new) h =
    ap (λ t. t || ear_from f s (k + 1) old new) (h k a b)
    ∙ ap (λ t. g s k a b || t) (same_ear f g s (k + 1) old new h)

-- an ear that hears what two others hear
pub both_ears : (f g h : Ear) (s k : ℕ) (old new : List Bit) → ((j : ℕ) (a b : Bit) → h s j a b ≡ (f s j a b || g s j a b)) → ear_from h s k old new ≡ (ear_from f s k old new || ear_from g s k old new)
both_ears f g h s k [] new is = refl
both_ears f g h s k (a ∷ old) [] is = refl
both_ears f g h s k (a ∷ old) (b ∷ new) is =
    ap (λ t. t || ear_from h s (k + 1) old new) (is k a b)
    ∙ ap (λ t. (f s k a b || g s k a b) || t) (both_ears f g h s (k + 1) old new is)
    ∙ mixed (f s k a b) (g s k a b) (ear_from f s (k + 1) old new) (ear_from g s (k + 1) old new)

-- ---- processes and listeners as ears

does_hear : (ws : ℕ → ℕ) (s k : ℕ) (old new : List Bit) (does : Doing) → listened_from ws s k old new does ≡ ear_from (listens_of ws (Some does)) s k old new
does_hear ws s k [] new does = refl
does_hear ws s k (a ∷ old) [] does = refl
does_hear ws s k (a ∷ old) (b ∷ new) does =
    ap (λ t. listens_of ws (Some does) s k a b || t) (does_hear ws s (k + 1) old new does)

pub hears_is : (ws : ℕ → ℕ) (s : ℕ) (old new : List Bit) (does : Option Doing) → hears ws s old new does ≡ ear_from (listens_of ws does) s 0 old new
hears_is ws s old new None = sym (silent (listens_of ws None) s 0 old new (λ j a b. refl))
hears_is ws s old new (Some does) = does_hear ws s 0 old new does

abbrev pub bits_ear : Row → Edge → Ear
bits_ear bits edge s k a b = has_row bits s k && happens edge a b

bits_heard : (edge : Edge) (bits : Row) (s k : ℕ) (old new : List Bit) → (s == bits.signal.0) ≡ true → hears_from edge bits.mask k old new ≡ ear_from (bits_ear bits edge) s k old new
bits_heard edge bits s k [] new e = refl
bits_heard edge bits s k (a ∷ old) [] e = refl
bits_heard edge bits s k (a ∷ old) (b ∷ new) e =
    ap (λ t. (is_one_at bits.mask k && happens edge a b) || t) (bits_heard edge bits s (k + 1) old new e)
    ∙ ap (λ t. ((t && is_one_at bits.mask k) && happens edge a b) || ear_from (bits_ear bits edge) s (k + 1) old new) (sym e)

-- ---- rows

pub row_set : {A : Type 0} (rows : List (Vec A Global)) (i : ℕ) (v : Vec A Global) → i < length rows → row (set rows i v) i ≡ v.items
row_set [] i v h = absurd (omega (arith, h))
row_set (x ∷ rows) zero v h = refl
row_set (x ∷ rows) (suc i) v h = row_set rows i v (omega (arith, h))

pub row_other : {A : Type 0} (rows : List (Vec A Global)) (i : ℕ) (v : Vec A Global) (j : ℕ) → (j ≡ i → ⊥) → row (set rows i v) j ≡ row rows j
row_other [] i v j h = refl
row_other (x ∷ rows) zero v zero h = absurd (h refl)
row_other (x ∷ rows) zero v (suc j) h = refl
row_other (x ∷ rows) (suc i) v zero h = refl
row_other (x ∷ rows) (suc i) v (suc j) h = row_other rows i v j (λ e. h (ap suc e))

pub row_past : {A : Type 0} (rows : List (Vec A Global)) (i : ℕ) → length rows ≤ i → row rows i ≡ []
row_past [] i h = refl
row_past (x ∷ rows) zero h = absurd (omega (arith, h))
row_past (x ∷ rows) (suc i) h = row_past rows i (omega (arith, h))

pub row_get : {A : Type 0} (rows : List (Vec A Global)) (i : ℕ) (d : Vec A Global) → i < length rows → (get_or rows i d).items ≡ row rows i
row_get [] i d h = absurd (omega (arith, h))
row_get (x ∷ rows) zero d h = refl
row_get (x ∷ rows) (suc i) d h = row_get rows i d (omega (arith, h))

-- an empty row more
pub row_empty : {A : Type 0} (rows : List (Vec A Global)) (v : Vec A Global) (i : ℕ) → v.items ≡ [] → row (rows ++ v ∷ []) i ≡ row rows i
row_empty [] v zero e = e
row_empty [] v (suc i) e = refl
row_empty (x ∷ rows) v zero e = refl
row_empty (x ∷ rows) v (suc i) e = row_empty rows v i e

-- what a loop has still to go over
pub left : {A : Type 0} (xs : List A) (i : ℕ) (d : A) → i < length xs → drop i xs ≡ get_or xs i d ∷ drop (i + 1) xs
left [] i d h = absurd (omega (arith, h))
left (x ∷ xs) zero d h = refl
left (x ∷ xs) (suc i) d h =
    let next : suc (i + 1) ≡ suc i + 1 = omega arith in
    left xs i d (omega (arith, h)) ∙ ap (λ n. get_or xs i d ∷ drop n (x ∷ xs)) next

-- ---- what a process hears in tables

abbrev Inside : ℕ → List Listener → Type 0
Inside n ls = All (λ l. AreBelow n l) ls

pub hears_nothing : (process : ℕ) (ear : Ear) (rows : List (Vec Listener Global)) → ((s : ℕ) → s < length rows → (k : ℕ) (a b : Bit) → ear s k a b ≡ false) → Hears process ear rows rows
hears_nothing process ear rows none = record {
  same_length = refl;
  inside = λ n i below all. all;
  heard = λ i p a b within. sym (or_none (heard_by (row rows i) p a b) ((process == p) && ear_from ear i 0 a b) (and_none (process == p) (ear_from ear i 0 a b) (silent ear i 0 a b (none i within))));
}

pub hears_then : (process : ℕ) (f g h : Ear) (x y z : List (Vec Listener Global)) → ((s k : ℕ) (a b : Bit) → h s k a b ≡ (f s k a b || g s k a b)) → Hears process f x y → Hears process g y z → Hears process h x z
hears_then process f g h x y z is one two = record {
  same_length = two.same_length ∙ one.same_length;
  inside = λ n i below all. two.inside n i below (one.inside n i below all);
  heard = λ i p a b within.
      two.heard i p a b (let same = one.same_length in omega (arith, within, same))
      ∙ ap (λ t. t || ((process == p) && ear_from g i 0 a b)) (one.heard i p a b within)
      ∙ gathered (heard_by (row x i) p a b) (process == p) (ear_from f i 0 a b) (ear_from g i 0 a b)
      ∙ ap (λ t. heard_by (row x i) p a b || ((process == p) && t)) (sym (both_ears f g h i 0 a b (is i)));
}

pub hears_same : (process : ℕ) (f g : Ear) (x y : List (Vec Listener Global)) → ((s k : ℕ) (a b : Bit) → f s k a b ≡ g s k a b) → Hears process f x y → Hears process g x y
hears_same process f g x y is one = record {
  same_length = one.same_length;
  inside = one.inside;
  heard = λ i p a b within.
      one.heard i p a b within
      ∙ ap (λ t. heard_by (row x i) p a b || ((process == p) && t)) (same_ear f g i 0 a b (is i));
}

-- a process more that hears by the row of a signal
pub hears_joined : (process : ProcId) (edge : Edge) (bits : Row) (old : List (Vec Listener Global)) (v : Vec Listener Global) → bits.signal.0 < length old → Joins process edge bits.mask (row old bits.signal.0) v.items → Hears process.0 (bits_ear bits edge) old (set old bits.signal.0 v)
hears_joined process edge bits old v within more = record {
  same_length = length-set old bits.signal.0 v;
  inside = λ n i below all. elim (cases_eq i bits.signal.0) [
    | inl e ↦ subst (λ (xs : List Listener). Inside n xs) (sym (here i e)) (more.inside n below (subst (λ (j : ℕ). Inside n (row old j)) e all))
    | inr apart ↦ subst (λ (xs : List Listener). Inside n xs) (sym (row_other old bits.signal.0 v i apart)) all
  ];
  heard = λ i p a b inside. elim (cases_eq i bits.signal.0) [
    | inl e ↦ ap (λ xs. heard_by xs p a b) (here i e) ∙ more.heard p a b
        ∙ ap (λ j. heard_by (row old j) p a b || ((process.0 == p) && hears_from edge bits.mask 0 a b)) (sym e)
        ∙ ap (λ t. heard_by (row old i) p a b || ((process.0 == p) && t)) (bits_heard edge bits i 0 a b (eq-eqb i bits.signal.0 e))
    | inr apart ↦ ap (λ xs. heard_by xs p a b) (row_other old bits.signal.0 v i apart)
        ∙ sym (or_none (heard_by (row old i) p a b) ((process.0 == p) && ear_from (bits_ear bits edge) i 0 a b) (and_none (process.0 == p) (ear_from (bits_ear bits edge) i 0 a b) (silent (bits_ear bits edge) i 0 a b (λ j x y. ap (λ t. (t && is_one_at bits.mask j) && happens edge x y) (ne_eqb i bits.signal.0 apart)))))
  ];
}
  where
    here : (i : ℕ) → i ≡ bits.signal.0 → row (set old bits.signal.0 v) i ≡ v.items
    here i e = ap (row (set old bits.signal.0 v)) e ∙ row_set old bits.signal.0 v within

-- a row that isn't there
pub hears_past : (process : ℕ) (edge : Edge) (bits : Row) (rows : List (Vec Listener Global)) → length rows ≤ bits.signal.0 → Hears process (bits_ear bits edge) rows rows
hears_past process edge bits rows past =
    hears_nothing process (bits_ear bits edge) rows
    (λ s within k a b. ap (λ t. (t && is_one_at bits.mask k) && happens edge a b) (ne_eqb s bits.signal.0 (λ e. omega (arith, within, past, e))))
