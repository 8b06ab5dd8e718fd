-- A write that a process hears is over a bit to which the process is sensitive.
use Rattle.std.proofs.Common.{◌≡◌, ◌∙◌, ◌+◌, ℕ, zero, suc, Bool, true, false, ◌||◌, List, [], ◌∷◌, get_or, Option, None, Some, refl, sym, ap, inl, inr, arith}
use Rattle.std.specs.List.{list_any, slice_get}
use Rattle.std.proofs.lemmas.Bool.{and_parts, and_right, cases_Bool, false≢true, or_cases, or_left, or_right}
use Rattle.std.proofs.lemmas.List.{ext_get_or}
use Rattle.rtl_bits.specs.declared.Bit.{Bit}
use Rattle.rtl_bits.specs.declared.Bit.TheVariants.{Zero, One, X, Z}
use Rattle.rtl_bits.specs.declared.Edge.{Edge}
use Rattle.rtl_bits.specs.declared.Edge.TheVariants.{No, Pos, Neg}
use Rattle.rtl_flat.specs.Flows.{may_select, reads}
use Rattle.rtl_flat.specs.PathSets.{items_list, listed}
use Rattle.rtl_flat.specs.Process.{Watched, Doing, Assign, Comb, Edge'}
use Rattle.event_model.specs.Queue.{doing_at, happens, hears, hears_from, item_hears, listens}
use Rattle.rtl_flat.specs.Flats.{Flat, widths}
use Rattle.event_model.specs.Traces.{covers}
use Rattle.event_model.specs.Writes.{Values, Write, written}
use Rattle.event_runs.specs.event_laws.Steady.{HaveWidths, IsWithin}
use Rattle.event_runs.proofs.event_laws_proofs.Lengths.{fits, written_length}
use Rattle.event_runs.proofs.event_laws_proofs.Written.{written_out}
use Rattle.event_edges.specs.Synchronous.{sensitive}

-- ---- tests and lists

pub falsely : (b : Bool) → (b ≡ true → ⊥) → b ≡ false
falsely b never =
    elim (cases_Bool b) [
      | inl holds ↦ absurd (never holds)
      | inr is ↦ is
    ]

pub or_none : (x : Bool) → (x || false) ≡ x
or_none true = refl
or_none false = refl

-- an element of a list that passes a test
pub record IsPassing (A : Type 0) (test : A → Bool) (xs : List A) : Type 0 where
  pub place : ℕ
  pub item : A
  pub there : slice_get xs place ≡ Some item
  pub passes : test item ≡ true

pub find : {A : Type 0} (test : A → Bool) (xs : List A) → list_any test xs ≡ true → IsPassing A test xs
find test [] h = absurd (false≢true h)
find test (x ∷ xs) h =
    elim (or_cases (test x) (list_any test xs) h) [
      | inl here ↦ record { place = 0; item = x; there = refl; passes = here }
      | inr later ↦
          let one = find test xs later in
          record { place = suc one.place; item = one.item; there = one.there; passes = one.passes }
    ]

pub passing : {A : Type 0} (test : A → Bool) (xs : List A) (place : ℕ) (x : A) → slice_get xs place ≡ Some x → test x ≡ true → list_any test xs ≡ true
passing test [] place x there h = absurd (cc)
passing test (y ∷ xs) zero x there h =
    let same : y ≡ x = cc in
    or_left (test y) (list_any test xs) (ap test same ∙ h)
passing test (y ∷ xs) (suc place) x there h =
    or_right (test y) (list_any test xs) (passing test xs place x there h)

-- tests that agree on each element
pub any_same : {A : Type 0} (f g : A → Bool) (xs : List A) → ((place : ℕ) (x : A) → slice_get xs place ≡ Some x → f x ≡ g x) → list_any f xs ≡ list_any g xs
any_same f g [] same = refl
any_same f g (x ∷ xs) same =
    ap (λ b. b || list_any f xs) (same 0 x refl)
    ∙ ap (λ b. g x || b) (any_same f g xs (λ place y there. same (suc place) y there))

or_swap : (a b c e : Bool) → ((a || b) || (c || e)) ≡ ((a || c) || (b || e))
or_swap true b c e = refl
or_swap false true true e = refl
or_swap false true false e = refl
or_swap false false c e = refl

pub any_either : {A : Type 0} (f g : A → Bool) (xs : List A) → list_any (λ x. f x || g x) xs ≡ (list_any f xs || list_any g xs)
any_either f g [] = refl
any_either f g (x ∷ xs) =
    ap (λ b. (f x || g x) || b) (any_either f g xs) ∙ or_swap (f x) (g x) (list_any f xs) (list_any g xs)

-- ---- changes

-- what stays is no event
pub happens_same : (edge : Edge) (a : Bit) → happens edge a a ≡ false
happens_same No Zero = refl
happens_same No One = refl
happens_same No X = refl
happens_same No Z = refl
happens_same Pos Zero = refl
happens_same Pos One = refl
happens_same Pos X = refl
happens_same Pos Z = refl
happens_same Neg Zero = refl
happens_same Neg One = refl
happens_same Neg X = refl
happens_same Neg Z = refl

none_hear : (ws : ℕ → ℕ) (s k : ℕ) (a : Bit) (items : List Watched) → list_any (item_hears ws s k a a) items ≡ false
none_hear ws s k a [] = refl
none_hear ws s k a (item ∷ items) =
    ap (λ b. b || list_any (item_hears ws s k a a) items) (and_right (may_select ws item.signal item.selection s k) _ (happens_same item.edge a))
    ∙ none_hear ws s k a items

pub listens_same : (ws : ℕ → ℕ) (s k : ℕ) (a : Bit) (does : Doing) → listens ws s k a a does ≡ false
listens_same ws s k a (Assign target e) = and_right (reads ws e s k) _ (happens_same No a)
listens_same ws s k a (Comb None body) = and_right (listed ws (Comb None body) s k) _ (happens_same No a)
listens_same ws s k a (Comb (Some items) body) = none_hear ws s k a items
listens_same ws s k a (Edge' events body) = none_hear ws s k a events

items_hear : (ws : ℕ → ℕ) (s k : ℕ) (a b : Bit) (items : List Watched) → list_any (item_hears ws s k a b) items ≡ true → items_list ws items s k ≡ true
items_hear ws s k a b [] h = absurd (false≢true h)
items_hear ws s k a b (item ∷ items) h =
    elim (or_cases (item_hears ws s k a b item) (list_any (item_hears ws s k a b) items) h) [
      | inl here ↦
          or_left (may_select ws item.signal item.selection s k) (items_list ws items s k)
          (and_parts (may_select ws item.signal item.selection s k) (happens item.edge a b) here).0
      | inr later ↦
          or_right (may_select ws item.signal item.selection s k) (items_list ws items s k) (items_hear ws s k a b items later)
    ]

listens_to : (ws : ℕ → ℕ) (s k : ℕ) (a b : Bit) (does : Doing) → listens ws s k a b does ≡ true → sensitive ws does s k ≡ true
listens_to ws s k a b (Assign target e) h = (and_parts (reads ws e s k) (happens No a b) h).0
listens_to ws s k a b (Comb None body) h = (and_parts (listed ws (Comb None body) s k) (happens No a b) h).0
listens_to ws s k a b (Comb (Some items) body) h = items_hear ws s k a b items h
listens_to ws s k a b (Edge' events body) h = items_hear ws s k a b events h

-- the place of a change that is heard
record IsHeardAt (ws : ℕ → ℕ) (s : ℕ) (does : Doing) (k : ℕ) (old new : List Bit) : Type 0 where
  place : ℕ
  listens : listens ws s (k + place) (get_or old place X) (get_or new place X) does ≡ true

heard_at : (ws : ℕ → ℕ) (s : ℕ) (does : Doing) (k : ℕ) (old new : List Bit) → hears_from ws s k old new does ≡ true → IsHeardAt ws s does k old new
heard_at ws s does k [] new h = absurd (false≢true h)
heard_at ws s does k (a ∷ old) [] h = absurd (false≢true h)
heard_at ws s does k (a ∷ old) (b ∷ new) h =
    elim (or_cases (listens ws s k a b does) (hears_from ws s (k + 1) old new does) h) [
      | inl here ↦
          let at : k + 0 ≡ k = omega arith in
          record { place = 0; listens = ap (λ j. listens ws s j a b does) at ∙ here }
      | inr later ↦
          let one = heard_at ws s does (k + 1) old new later in
          let at : k + suc one.place ≡ k + 1 + one.place = omega arith in
          record { place = suc one.place; listens = ap (λ j. listens ws s j (get_or old one.place X) (get_or new one.place X) does) at ∙ one.listens }
    ]

-- ---- writes

-- a bit that a write is over and to which a process is sensitive
pub record IsHeard (d : Flat) (w : Write) (does : Doing) : Type 0 where
  pub bit : ℕ
  pub over : covers w.signal bit w ≡ true
  pub listened : sensitive (widths d) does w.signal bit ≡ true

pub hearing :
    (d : Flat) (v : Values) (w : Write) (does : Doing) → HaveWidths d v → IsWithin (widths d) w →
    hears (widths d) w.signal (v w.signal) (written v w w.signal) (Some does) ≡ true → IsHeard d w does
hearing d v w does have inside h =
    elim (cases_Bool (covers w.signal one.place w)) [
      | inl over ↦ record { bit = one.place; over = over; listened = listens_to ws w.signal one.place old new does listened }
      | inr out ↦
          let same = written_out d v w have inside w.signal one.place out in
          absurd (false≢true (sym (listens_same ws w.signal one.place old does) ∙ ap (λ b. listens ws w.signal one.place old b does) (sym same) ∙ listened))
    ]
  where
    ws : ℕ → ℕ
    ws = widths d

    one : IsHeardAt (widths d) w.signal does 0 (v w.signal) (written v w w.signal)
    one = heard_at (widths d) w.signal does 0 (v w.signal) (written v w w.signal) h

    old : Bit
    old = get_or (v w.signal) one.place X

    new : Bit
    new = get_or (written v w w.signal) one.place X

    listened : listens (widths d) w.signal one.place (get_or (v w.signal) one.place X) (get_or (written v w w.signal) one.place X) does ≡ true
    listened =
        let at : one.place ≡ 0 + one.place = omega arith in
        ap (λ j. listens (widths d) w.signal j (get_or (v w.signal) one.place X) (get_or (written v w w.signal) one.place X) does) at ∙ one.listens

-- a process that is sensitive to no bit that a write is over doesn't hear it
pub deaf :
    (d : Flat) (v : Values) (w : Write) (p : ℕ) → HaveWidths d v → IsWithin (widths d) w →
    ((does : Doing) → doing_at d p ≡ Some does → (k : ℕ) → covers w.signal k w ≡ true → sensitive (widths d) does w.signal k ≡ true → ⊥) →
    hears (widths d) w.signal (v w.signal) (written v w w.signal) (doing_at d p) ≡ false
deaf d v w p have inside none = by (doing_at d p) refl
  where
    by : (o : Option Doing) → doing_at d p ≡ o → hears (widths d) w.signal (v w.signal) (written v w w.signal) o ≡ false
    by None is = refl
    by (Some does) is =
        falsely (hears (widths d) w.signal (v w.signal) (written v w w.signal) (Some does))
        (λ h. let one = hearing d v w does have inside h in none does is one.bit one.over one.listened)

-- a signal of which a write is over no bit stays as it was
pub signal_kept :
    (d : Flat) (v : Values) (w : Write) → HaveWidths d v → IsWithin (widths d) w → (i : ℕ) →
    ((k : ℕ) → covers i k w ≡ true → ⊥) → written v w i ≡ v i
signal_kept d v w have inside i none =
    ext_get_or X (written v w i) (v i) (written_length v w (fits d v w have inside) i)
    (λ k below. written_out d v w have inside i k (falsely (covers i k w) (none k)))
