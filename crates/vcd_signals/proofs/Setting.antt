-- Values that are set.
use Rattle.std.proofs.Common.{◌≡◌, ◌∙◌, ◌<◌, ◌==◌, ◌||◌, ℕ, zero, suc, Bool, true, false, cond, if◌then◌else◌, List, [], ◌∷◌, ◌++◌, length, map, get_or, replicate, refl, sym, ap, subst, arith}
use Rattle.std.specs.Prelude.{Option, None, Some, Vec}
use Rattle.std.specs.List.{slice_get}
use Rattle.std.specs.declared.alloc.Global.{Global}
use Rattle.std.proofs.lemmas.Bool.{cases_eq, cond-true, cond-false, eq-eqb, eqb-true, false≢true, ne_eqb}
use Rattle.std.proofs.lemmas.List.Folds.{list_any-append}
use Rattle.std.proofs.lemmas.Option.{slice_get_within}
use mathlib.Core.Logic.{⊎_elim}
use Rattle.rtl_bits.specs.declared.Bit.{Bit}
use Rattle.rtl_bits.specs.declared.Bit.TheVariants.{X}
use Rattle.rtl_flat.specs.declared.expr.SigId.{SigId}
use Rattle.rtl_flat.specs.declared.signal.Signal.{Signal}
use Rattle.rtl_flat.specs.Signs.{width_in}
use Rattle.rtl_flat.specs.Value.{store}
use Rattle.vcd_read.specs.Filling.{filled}
use Rattle.vcd_read.specs.Frames.{Written, written_over}
use Rattle.vcd_signals.specs.Recording.{AreFollowed, has, is_code, row, value_after}

-- ---- signals

pub width_get : (signals : List Signal) (i : ℕ) (d : Signal) → i < length signals → (get_or signals i d).width ≡ width_in signals i
width_get [] i d inside = absurd (omega arith)
width_get (one ∷ signals) zero d inside = refl
width_get (one ∷ signals) (suc i) d inside = width_get signals i d (omega arith)

pub width_there : (signals : List Signal) (i : ℕ) (signal : Signal) → slice_get signals i ≡ Some signal → width_in signals i ≡ signal.width
width_there [] i signal is = absurd (cc)
width_there (one ∷ signals) zero signal is = by is
  where
    by : Some one ≡ Some signal → one.width ≡ signal.width
    by e = cc
width_there (one ∷ signals) (suc i) signal is = width_there signals i signal is

pub unknown_at : (signals : List Signal) (i : ℕ) → i < length signals → store (map (λ (signal : Signal). replicate signal.width X) signals) i ≡ replicate (width_in signals i) X
unknown_at [] i inside = absurd (omega arith)
unknown_at (one ∷ signals) zero inside = refl
unknown_at (one ∷ signals) (suc i) inside = unknown_at signals i (omega arith)

-- ---- codes

pub code_is : (own : Option (Option ℕ)) (code : ℕ) → is_code own code ≡ true → own ≡ Some (Some code)
code_is None code is = absurd (false≢true is)
code_is (Some None) code is = absurd (false≢true is)
code_is (Some (Some one)) code is = ap (λ (k : ℕ). Some (Some k)) (eqb-true one code is)

pub code_within : (codes : List (Option ℕ)) (i code : ℕ) → is_code (slice_get codes i) code ≡ true → i < length codes
code_within codes i code is = slice_get_within codes i (Some code) (code_is (slice_get codes i) code is)

-- ---- a value that is set

pub at_place : (new old : List (List Bit)) (place : ℕ) (F : ℕ → List Bit → List Bit) → store new place ≡ F place (store old place) → ((i : ℕ) → (place ≡ i → ⊥) → store new i ≡ store old i) → (i : ℕ) → store new i ≡ cond (place == i) (F i (store old i)) (store old i)
at_place new old place F here others i =
    ⊎_elim
    (λ same. subst (λ (k : ℕ). store new k ≡ F k (store old k)) same here ∙ sym (cond-true (place == i) (F i (store old i)) (store old i) (eq-eqb place i same)))
    (λ other. others i other ∙ sym (cond-false (place == i) (F i (store old i)) (store old i) (ne_eqb place i other)))
    (cases_eq place i)

pub after_own : (own : Option (Option ℕ)) (width : ℕ) (change : Written) (value : List Bit) → is_code own change.code ≡ true → value_after own width change value ≡ written_over value (filled width change.bits)
after_own own width change value is = cond-true (is_code own change.code) (written_over value (filled width change.bits)) value is

pub after_other : (own : Option (Option ℕ)) (width : ℕ) (change : Written) (value : List Bit) → is_code own change.code ≡ false → value_after own width change value ≡ value
after_other own width change value is = cond-false (is_code own change.code) (written_over value (filled width change.bits)) value is

over_over : (value : List Bit) (bits : Option (List Bit)) → written_over (written_over value bits) bits ≡ written_over value bits
over_over value None = refl
over_over value (Some bits) = refl

pub after_twice : (own : Option (Option ℕ)) (width : ℕ) (change : Written) (value : List Bit) → value_after own width change (value_after own width change value) ≡ value_after own width change value
after_twice own width change value = by (is_code own change.code)
  where
    by : (t : Bool) → (if t then written_over (if t then written_over value (filled width change.bits) else value) (filled width change.bits) else (if t then written_over value (filled width change.bits) else value)) ≡ (if t then written_over value (filled width change.bits) else value)
    by true = over_over value (filled width change.bits)
    by false = refl

-- one signal more is set
pub set_more : (followers : List SigId) (signal : SigId) (i : ℕ) (F : List Bit → List Bit) (value : List Bit) → ((v : List Bit) → F (F v) ≡ F v) → cond (signal.0 == i) (F (cond (has followers i) (F value) value)) (cond (has followers i) (F value) value) ≡ cond (has (followers ++ signal ∷ []) i) (F value) value
set_more followers signal i F value twice =
    by (has followers i) (signal.0 == i)
    ∙ ap (λ t. cond t (F value) value) (sym (list_any-append (λ (s : SigId). s.0 == i) followers (signal ∷ [])))
  where
    by : (a b : Bool) → cond b (F (cond a (F value) value)) (cond a (F value) value) ≡ cond (a || (b || false)) (F value) value
    by true true = twice value
    by true false = refl
    by false true = refl
    by false false = refl

-- a signal that isn't among those of a code doesn't have it
pub set_those : (table : List (Vec SigId Global)) (codes : List (Option ℕ)) (width : ℕ) (change : Written) (value : List Bit) (i : ℕ) → AreFollowed table codes (length codes) → cond (has (row table change.code) i) (value_after (slice_get codes i) width change value) value ≡ value_after (slice_get codes i) width change value
set_those table codes width change value i followed =
    by (has (row table change.code) i) refl (is_code (slice_get codes i) change.code) refl
  where
    by : (h : Bool) → has (row table change.code) i ≡ h → (t : Bool) → is_code (slice_get codes i) change.code ≡ t → cond h (value_after (slice_get codes i) width change value) value ≡ value_after (slice_get codes i) width change value
    by true h t is = refl
    by false h true is =
        absurd (false≢true (sym h ∙ followed i change.code (code_within codes i change.code is) (code_is (slice_get codes i) change.code is)))
    by false h false is = sym (after_other (slice_get codes i) width change value is)
