use Rattle.std.proofs.Common.{◌≡◌, ◌<◌, ℕ, List}
use Rattle.rtl_flat.specs.Value.{store}
use Rattle.net_model.specs.Block.{Maps, joined_arms}
use Rattle.net_body.specs.Asides.{AreAside}
use Rattle.net_body.proofs.arms.join_numbers.Given as goal

abbrev pub invariant-loop-place : goal.invariant-loop-place
invariant-loop-place l =
    (m : Maps) (arms : List Maps) → AreAside m arms l.asides → (i : ℕ) → i < l.place → store l.numbers i ≡ (joined_arms m arms).now i
