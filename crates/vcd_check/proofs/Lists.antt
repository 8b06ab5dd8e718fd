-- Lists of one element, settings, and the steps that they are read as.
use Rattle.std.proofs.Common.{◌≡◌, ◌∙◌, ◌<◌, ◌≤◌, ◌+◌, ◌&&◌, ℕ, zero, suc, Bool, true, false, not, cond, if◌then◌else◌, List, [], ◌∷◌, ◌++◌, length, map, take, drop, get_or, refl, sym, ap, subst, append_assoc, arith}
use Rattle.std.specs.Prelude.{None, Option, Some}
use Rattle.std.specs.List.{filter, list_all}
use Rattle.std.proofs.lemmas.Bool.{and_parts, cond-true, cond-false, false≢true}
use Rattle.rtl_bits.specs.declared.Bit.{Bit}
use Rattle.event_model.specs.Writes.{Values}
use Rattle.net_model.specs.Cycle.{Setting, Turn}
use Rattle.demo_told.specs.Same.{are_same}
use Rattle.vcd_signals.specs.Signals.{Sight}
use Rattle.vcd_check.specs.Checks.{data_steps}
use Rattle.vcd_check.specs.Departure.{change_of, changed, is_known, or_none, read_as, with_change}

pub single : {A : Type 0} (xs : List A) (x : A) → 1 ≤ length xs → length xs < 2 → x ≡ get_or xs 0 x → xs ≡ x ∷ []
single [] x some few is = absurd (omega arith)
single (y ∷ []) x some few is = ap (λ z. z ∷ []) (sym is)
single (y ∷ z ∷ xs) x some few is = absurd (omega arith)

pub read_turn : (control : Setting) (settings : List Setting) → read_as (control ∷ []) settings ≡ Some (Turn control ∷ data_steps settings)
read_turn control [] = refl
read_turn control (one ∷ others) = refl

-- ---- changes

pub change_none : (old : List Bit) (i : ℕ) (bits : List Bit) → are_same bits old ≡ true → change_of old i (Some bits) ≡ None
change_none old i bits same = cond-true (are_same bits old) None (Some (record { input = i; number = bits })) same

pub change_some : (old : List Bit) (i : ℕ) (bits : List Bit) → are_same bits old ≡ false → change_of old i (Some bits) ≡ Some (record { input = i; number = bits })
change_some old i bits same = cond-false (are_same bits old) None (Some (record { input = i; number = bits })) same

-- ---- lists that are filtered

pub kept_more : {A : Type 0} (test : A → Bool) (front rest : List A) (x : A) (all : List A) → front ++ filter test (x ∷ rest) ≡ all → test x ≡ true → (front ++ x ∷ []) ++ filter test rest ≡ all
kept_more test front rest x all is here =
    append_assoc front (x ∷ []) (filter test rest)
    ∙ ap (λ l. front ++ l) (sym (cond-true (test x) (x ∷ filter test rest) (filter test rest) here))
    ∙ is

pub left_more : {A : Type 0} (test : A → Bool) (front rest : List A) (x : A) (all : List A) → front ++ filter test (x ∷ rest) ≡ all → test x ≡ false → front ++ filter test rest ≡ all
left_more test front rest x all is here =
    ap (λ l. front ++ l) (sym (cond-false (test x) (x ∷ filter test rest) (filter test rest) here)) ∙ is
