use Rattle.std.proofs.Common.{◌≡◌, ◌≤◌, ◌∷◌, ℕ, List, length, get_or}
use Rattle.net_model.specs.Block.{Maps}
use Rattle.net_body.specs.declared.arms.Aside.{Aside}
use Rattle.net_body.specs.Asides.{AreAside}
use Rattle.net_body.specs.Marks.{maps, view_at}
use Rattle.net_body.proofs.Siding.{EachBelow, IsAt}
use Rattle.net_body.proofs.arms.add.Given as goal

abbrev pub invariant-loop-place : goal.invariant-loop-place
invariant-loop-place l =
    ((m : Maps) (arms : List Maps) → AreAside m arms l.initial.asides → EachBelow (IsAt m (maps l.numbers l.marks ∷ arms)) l.place l.asides)
    × ((i : ℕ) (a : Aside) → l.place ≤ i → get_or l.asides i a ≡ get_or l.initial.asides i a)
    × ((i : ℕ) → view_at (λ aside. length aside.number) 0 l.asides i ≡ view_at (λ aside. length aside.number) 0 l.initial.asides i)
    × ((i : ℕ) → view_at (λ aside. length aside.mark.next) 0 l.asides i ≡ view_at (λ aside. length aside.mark.next) 0 l.initial.asides i)
    × ((i : ℕ) → view_at (λ aside. length aside.sum) 0 l.asides i ≡ view_at (λ aside. length aside.sum) 0 l.initial.asides i)
