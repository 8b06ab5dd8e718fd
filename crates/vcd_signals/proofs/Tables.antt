-- The signals of codes.
use Rattle.std.proofs.Common.{◌≡◌, ◌∙◌, ◌<◌, ◌≤◌, ◌==◌, ◌&&◌, ◌||◌, ℕ, zero, suc, Bool, true, false, List, [], ◌∷◌, ◌++◌, length, get_or, refl, sym, ap, arith}
use Rattle.std.specs.Prelude.{Vec}
use Rattle.std.specs.declared.alloc.Global.{Global}
use Rattle.std.proofs.Math.ListN.{set}
use Rattle.std.proofs.lemmas.Bool.{cases_eq, eq-eqb, false≢true, ne_eqb}
use Rattle.std.proofs.lemmas.List.Folds.{list_any-append}
use mathlib.Core.Logic.{⊎_elim}
use Rattle.rtl_flat.specs.declared.expr.SigId.{SigId}
use Rattle.vcd_signals.specs.Recording.{has, row}

abbrev Table : Type 0
Table = List (Vec SigId Global)

pub row_push : (table : Table) (v : Vec SigId Global) (code : ℕ) → v.items ≡ [] → row (table ++ v ∷ []) code ≡ row table code
row_push [] v zero none = none
row_push [] v (suc code) none = refl
row_push (one ∷ table) v zero none = refl
row_push (one ∷ table) v (suc code) none = row_push table v code none

pub row_get : (table : Table) (place : ℕ) (d : Vec SigId Global) → place < length table → (get_or table place d).items ≡ row table place
row_get [] place d inside = absurd (omega arith)
row_get (one ∷ table) zero d inside = refl
row_get (one ∷ table) (suc place) d inside = row_get table place d (omega arith)

pub row_past : (table : Table) (code : ℕ) → length table ≤ code → row table code ≡ []
row_past [] code past = refl
row_past (one ∷ table) zero past = absurd (omega arith)
row_past (one ∷ table) (suc code) past = row_past table code (omega arith)

row_here : (table : Table) (place : ℕ) (v : Vec SigId Global) → place < length table → row (set table place v) place ≡ v.items
row_here [] place v inside = absurd (omega arith)
row_here (one ∷ table) zero v inside = refl
row_here (one ∷ table) (suc place) v inside = row_here table place v (omega arith)

row_other : (table : Table) (place : ℕ) (v : Vec SigId Global) (code : ℕ) → (code ≡ place → ⊥) → row (set table place v) code ≡ row table code
row_other [] place v code other = refl
row_other (one ∷ table) zero v zero other = absurd (other refl)
row_other (one ∷ table) zero v (suc code) other = refl
row_other (one ∷ table) (suc place) v zero other = refl
row_other (one ∷ table) (suc place) v (suc code) other = row_other table place v code (λ e. other (ap suc e))

either : (x t : Bool) (b : Bool) → b ≡ true → (x || t) ≡ (x || (b && t))
either x t true is = refl
either x t false is = absurd (false≢true is)

neither : (x t : Bool) (b : Bool) → b ≡ false → x ≡ (x || (b && t))
neither true t b is = refl
neither false t true is = absurd (false≢true (sym is))
neither false t false is = refl

one_any : (signal : SigId) (i : ℕ) → has (signal ∷ []) i ≡ (signal.0 == i)
one_any signal i = last (signal.0 == i)
  where
    last : (t : Bool) → (t || false) ≡ t
    last true = refl
    last false = refl

-- a row with one signal more
pub row_set : (table : Table) (place : ℕ) (v : Vec SigId Global) (signal : SigId) → place < length table → v.items ≡ row table place ++ signal ∷ [] → (code i : ℕ) → has (row (set table place v) code) i ≡ (has (row table code) i || ((code == place) && (signal.0 == i)))
row_set table place v signal inside is code i =
    ⊎_elim
    (λ same. ap (λ c. has (row (set table place v) c) i) same
    ∙ ap (λ l. has l i) (row_here table place v inside ∙ is)
    ∙ list_any-append (λ (s : SigId). s.0 == i) (row table place) (signal ∷ [])
    ∙ ap (λ t. has (row table place) i || t) (one_any signal i)
    ∙ ap (λ c. has (row table c) i || (signal.0 == i)) (sym same)
    ∙ either (has (row table code) i) (signal.0 == i) (code == place) (eq-eqb code place same))
    (λ other. ap (λ l. has l i) (row_other table place v code other)
    ∙ neither (has (row table code) i) (signal.0 == i) (code == place) (ne_eqb code place other))
    (cases_eq code place)
