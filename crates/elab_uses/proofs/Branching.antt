-- The notes of the branches of an `if` that are left.
use Rattle.std.specs.Prelude.{[], ◌++◌, Ok, Err}
use Rattle.std.proofs.Common.{◌≡◌, ◌∙◌, ap, refl, sym, inl, inr}
use Rattle.std.proofs.lemmas.Bool.{cases_Bool}
use Rattle.std.proofs.lemmas.List.{append-nil}
use Rattle.rtl_const.specs.Constant.{Outcome, is_true}
use Rattle.elab_body.specs.declared.branches.Chosen.{Chosen}
use Rattle.elab_body.specs.declared.branches.Chosen.TheVariants.{Taken, Otherwise, Both}
use Rattle.elab_body.specs.Courses.{chosen}
use Rattle.elab_standard.specs.declared.uses.Home.{Home}
use Rattle.elab_uses.specs.Bodies.{Uses, branch_uses, notes_in}
use Rattle.elab_uses.specs.Branches.{chosen_uses}
use Rattle.elab_uses.proofs.Rows.{notes_append}

branch_chosen : (outcome : Outcome) (taken otherwise : Uses) → branch_uses outcome taken otherwise ≡ chosen_uses (chosen outcome) taken otherwise
branch_chosen (Ok number) taken otherwise = elim (cases_Bool (is_true number)) [
  | inl yes' ↦ rw yes' refl
  | inr no' ↦ rw no' refl
]
branch_chosen (Err cause) taken otherwise = refl

pub branch_notes : (home : Home) (outcome : Outcome) (taken : Uses) → notes_in home (branch_uses outcome taken []) ≡ notes_in home (chosen_uses (chosen outcome) taken [])
branch_notes home outcome taken = ap (notes_in home) (branch_chosen outcome taken [])

parts : (home : Home) (left : Chosen) (taken otherwise : Uses) → notes_in home (chosen_uses left taken otherwise) ≡ notes_in home (chosen_uses left taken []) ++ notes_in home (chosen_uses left [] otherwise)
parts home Taken taken otherwise = sym (append-nil (notes_in home taken))
parts home Otherwise taken otherwise = refl
parts home Both taken otherwise =
    notes_append home taken otherwise
    ∙ ap (λ xs. notes_in home xs ++ notes_in home otherwise) (sym (append-nil taken))

-- those of the one branch come before those of the other
pub else_notes : (home : Home) (outcome : Outcome) (taken otherwise : Uses) → notes_in home (branch_uses outcome taken otherwise) ≡ notes_in home (chosen_uses (chosen outcome) taken []) ++ notes_in home (chosen_uses (chosen outcome) [] otherwise)
else_notes home outcome taken otherwise =
    ap (notes_in home) (branch_chosen outcome taken otherwise) ∙ parts home (chosen outcome) taken otherwise
