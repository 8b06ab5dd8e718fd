-- A run that takes a path of its body, and one that takes none.
use Rattle.std.proofs.Common.{◌≡◌, ◌∙◌, ℕ, true, false, List, [], ◌∷◌, ◌++◌, refl, ap}
use Rattle.rtl_bits.specs.declared.Bit.TheVariants.{Zero, One}
use Rattle.text_ground.specs.declared.text.Spot.{Spot}
use Rattle.rtl_flat.specs.declared.act.CaseKind.TheVariants.{Plain}
use Rattle.rtl_flat.specs.Expression.{Tree, Sized, Literal}
use Rattle.rtl_flat.specs.Expression as tree
use Rattle.rtl_flat.specs.Paths.{Step}
use Rattle.rtl_flat.specs.Process.{Piece, Whole, Set, Case, Actions, Done, Then, Without, NoBranch, Branch}
use Rattle.event_model.specs.Traces.{FollowsPath}
use Rattle.event_model.specs.Writes.{Values}

spot : Spot
spot = record { file = 0; at = 0 }

abbrev ws : ℕ → ℕ
ws i = 1

abbrev whole : ℕ → Tree
whole i = Sized 1 false spot (tree.Whole i)

abbrev piece : ℕ → Piece
piece i = record { signal = i; selection = Whole; spot = spot }

-- `y = a;`
abbrev copies : Actions
copies = Then (Set (piece 1 ∷ []) (whole 0) false spot) Done

-- `(* full_case *) case (a) 1'b0: y = a; endcase`
abbrev promises : Actions
promises =
    Then (Case Plain true false (whole 0) (Branch (Sized 1 false spot (Literal (Zero ∷ [])) ∷ []) copies NoBranch) Without spot) Done

abbrev zeros : Values
zeros i = Zero ∷ []

abbrev ones : Values
ones i = One ∷ []

copy_follows : (v : Values) → FollowsPath ws v copies
copy_follows v = (_, refl, (_, refl, refl))

-- where an item matches the run takes its way
promise_follows : FollowsPath ws zeros promises
promise_follows = (_, refl, (_, [], refl, (_, refl, (_, refl, refl)), refl))

no_step : (xs ys : List Step) (x : Step) (zs : List Step) → [] ≡ xs ++ ys → xs ≡ x ∷ zs → ⊥
no_step [] ys x zs none some = absurd (cc)
no_step (y ∷ xs) ys x zs none some = absurd (let e : [] ≡ y ∷ (xs ++ ys) = none in cc)

-- where none does, it takes no way at all
tail_of : List Step → List Step
tail_of [] = []
tail_of (x ∷ xs) = xs

promise_fails : FollowsPath ws ones promises → ⊥
unfolding tail_of
promise_fails (after, is, (way, rest, parts, (behind, begins, others), end)) =
    no_step way rest _ behind (ap tail_of is ∙ parts) begins
