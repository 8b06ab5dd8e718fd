-- Lists that are two lists.
use Rattle.std.specs.Prelude.{Bool, List, [], ◌∷◌, ◌++◌, ◌||◌, ◌&&◌}
use Rattle.std.specs.List.{list_all, list_any}
use Rattle.std.proofs.Common.{◌≡◌, refl, arith}
use Rattle.rtl_tree.specs.TreeExpr.{Formula}

pub any_append : (test : Formula → Bool) (a b : List Formula) → list_any test (a ++ b) ≡ list_any test a || list_any test b
any_append test [] b = refl
any_append test (x ∷ a) b = grind (arith, any_append test a b)

pub all_append : (test : Formula → Bool) (a b : List Formula) → list_all test (a ++ b) ≡ list_all test a && list_all test b
all_append test [] b = refl
all_append test (x ∷ a) b = grind (arith, all_append test a b)
