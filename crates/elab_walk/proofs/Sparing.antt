-- How many extras are left.
use Rattle.std.specs.Prelude.{ℕ, ◌-◌, nat_le}
use Rattle.std.proofs.Common.{◌≡◌, arith, inl, inr, refl}
use Rattle.std.proofs.lemmas.Bool.{cases_Bool}
use Rattle.std.proofs.lemmas.Bool.Decides.{nat_tests}
use Rattle.elab_parts.specs.elab_nodes.Spares.{spared}
use Rattle.elab_walk.specs.Leavings.{spare_or}

-- what is left behind a module that has room
pub spare_is : (most count : ℕ) → spare_or (spared most count) ≡ most - count
spare_is most count = elim (cases_Bool (nat_le count most)) [
  | inl yes' ↦ rw yes' refl
  | inr no' ↦
      let none : most - count ≡ 0 = grind (arith, nat_tests) in
      rw no' cc
]
