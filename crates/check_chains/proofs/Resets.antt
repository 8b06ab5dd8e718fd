-- Statements that give a signal a constant.
use Rattle.std.proofs.Common.{◌≡◌, ◌∙◌, ℕ, Bool, List, [], ◌∷◌, map, ap, subst}
use Rattle.text_ground.specs.declared.text.Spot.{Spot}
use Rattle.rtl_flat.specs.declared.act.Act.{Act}
use Rattle.rtl_flat.specs.declared.act.Act.TheVariants as act
use Rattle.rtl_flat.specs.declared.act.Target.{Target}
use Rattle.rtl_flat.specs.declared.act.TargetPart.{TargetPart}
use Rattle.rtl_flat.specs.declared.expr.Select.{Select}
use Rattle.rtl_flat.specs.declared.expr.Select.TheVariants as select
use Rattle.rtl_flat.specs.declared.expr.SizedExpr.{SizedExpr}
use Rattle.rtl_flat.specs.Flats.{Flat}
use Rattle.rtl_flat.specs.Process.{action, piece, selection}
use Rattle.check_chains.specs.Chains.{resets_to}
use Rattle.check_chains.specs.Inner.{targets_whole}

pub whole_piece : (xs : List TargetPart) (x : TargetPart) → xs ≡ x ∷ [] → x.select ≡ select.Whole → targets_whole x.signal.0 (map piece xs)
whole_piece xs x one is =
    (x.spot, ap (map piece) one ∙ ap (λ (s : Select). record { signal = x.signal.0; selection = selection s; spot = x.spot } ∷ []) is)

module _ (d : Flat) (one : Act) (target : Target) (value : SizedExpr) (delayed : Bool) (spot : Spot) (is : one ≡ act.Set target value delayed spot) (parts : List TargetPart) (same : parts ≡ target.parts.items) where
  pub not_whole : ((s : ℕ) → targets_whole s (map piece parts) → ⊥) → (s : ℕ) → resets_to d s (action one) → ⊥
  not_whole none s h =
      let P : Act → Type 0 = λ a. resets_to d s (action a) in
      let (at, whole, constant) = subst P is h in
      none s (at, ap (map piece) same ∙ whole)
