-- What is left of a number.
use Rattle.std.specs.Prelude.{ℕ, ◌+◌, ◌-◌, nat_le, true, false, Option, None, Some}
use Rattle.std.specs.Option.{is_some}
use Rattle.std.proofs.Common.{◌≡◌, ◌∙◌, ◌≤◌, ◌<◌, ap, refl, sym, arith, inl, inr}
use Rattle.std.proofs.lemmas.Bool.{cases_Bool, cases_lt}
use Rattle.std.proofs.lemmas.Bool.Decides.{nat_tests}
use Rattle.elab_nodes.specs.Spares.{spared}

pub some_spared : (most count : ℕ) → is_some (spared most count) ≡ nat_le count most
some_spared most count = elim (cases_Bool (nat_le count most)) [
  | inl yes' ↦ rw yes' refl
  | inr no' ↦ rw no' refl
]

pub spared_some : (most count : ℕ) → count ≤ most → spared most count ≡ Some (most - count)
spared_some most count h =
    let few : nat_le count most ≡ true = grind (arith, nat_tests) in
    rw few refl

pub spared_none : (most count : ℕ) → most < count → spared most count ≡ None
spared_none most count h =
    let many : nat_le count most ≡ false = grind (arith, nat_tests) in
    rw many refl

-- so many are left behind them
pub spared_behind : (most count left : ℕ) → spared most count ≡ Some left → left ≡ most - count
spared_behind most count left is = elim (cases_lt most count) [
  | inl many ↦
      let none = spared_none most count many in
      absurd cc
  | inr few ↦
      let some = spared_some most count few in
      cc
]

-- and there were no fewer
pub spared_few : (most count left : ℕ) → spared most count ≡ Some left → count ≤ most
spared_few most count left is = elim (cases_lt most count) [
  | inl many ↦
      let none = spared_none most count many in
      absurd cc
  | inr few ↦ few
]

pub spared_zero : (most : ℕ) → spared most 0 ≡ Some most
spared_zero most =
    let none : 0 ≤ most = omega arith in
    let same : most - 0 ≡ most = omega arith in
    spared_some most 0 none ∙ ap Some same

-- ---- one number after the other

abbrev pub spared_on : Option ℕ → ℕ → Option ℕ
spared_on None count = None
spared_on (Some left) count = spared left count

behind_some : (most a b : ℕ) → a ≤ most → spared most (a + b) ≡ spared (most - a) b
behind_some most a b h = elim (cases_lt most (a + b)) [
  | inl many ↦
      let less : most - a < b = omega arith in
      spared_none most (a + b) many ∙ sym (spared_none (most - a) b less)
  | inr few ↦
      let less : b ≤ most - a = omega arith in
      let same : most - (a + b) ≡ most - a - b = omega arith in
      spared_some most (a + b) few ∙ ap Some same ∙ sym (spared_some (most - a) b less)
]

pub spared_more : (most a b : ℕ) → spared most (a + b) ≡ spared_on (spared most a) b
spared_more most a b = elim (cases_lt most a) [
  | inl many ↦
      let more : most < a + b = omega arith in
      spared_none most (a + b) more ∙ sym (ap (λ o. spared_on o b) (spared_none most a many))
  | inr few ↦ behind_some most a b few ∙ sym (ap (λ o. spared_on o b) (spared_some most a few))
]
