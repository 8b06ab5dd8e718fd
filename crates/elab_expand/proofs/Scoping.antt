-- What names mean.
use Rattle.std.proofs.Common.{◌≡◌, Option, None, Some, refl}
use Rattle.elab_scope.specs.declared.known.Known.{Known}
use Rattle.elab_expand.specs.Scoping.{first_found}

-- what is found first of three
pub first_of_three : (a b c : Option Known) → first_found (first_found a b) c ≡ first_found a (first_found b c)
first_of_three (Some found) b c = refl
first_of_three None b c = refl
