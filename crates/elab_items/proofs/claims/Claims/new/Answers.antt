use Rattle.std.specs.Prelude.{ℕ, List}
use Rattle.std.proofs.Common.{ap}
use Rattle.name_map.specs.Values.{Values}
use Rattle.elab_items.specs.declared.claims.Claim.{Claim}
use Rattle.elab_items.specs.Claims.{claim_or_none}
use Rattle.elab_items.proofs.claims.Claims.new.Goals as goal

pub returns : goal.returns
returns c = ap (λ (values : Values Claim). (λ (other : List ℕ). claim_or_none (values other))) c.new.ensures
