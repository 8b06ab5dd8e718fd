use Rattle.std.proofs.Common.{◌≡◌, ℕ, Bool, List, Option, sym, inl, inr}
use Rattle.std.proofs.lemmas.Bool.{cases_eq}
use Rattle.agenda.specs.Agendas.{IsLowest}
use Rattle.agenda.proofs.Order.{ahead_one_way}

-- What every agenda's lowest member meets.

-- there is one lowest member
pub lowest_once : (levels : List (Option ℕ)) (flags : List Bool) (p q : ℕ) → IsLowest levels flags p → IsLowest levels flags q → p ≡ q
lowest_once levels flags p q i j =
    elim (cases_eq p q) [
      | inl e ↦ e
      | inr ne ↦ absurd (ahead_one_way levels p q (i.before q j.member (λ e. ne (sym e))) (j.before p i.member ne))
    ]
