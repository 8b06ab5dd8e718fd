use Rattle.std.specs.Prelude.{ℕ, List}
use Rattle.std.proofs.Common.{◌∙◌, ap}
use Rattle.name_map.specs.Values.{Values, values_of}
use Rattle.name_map.proofs.Reading.{read_with}
use Rattle.elab_items.specs.declared.claims.Claim.{Claim}
use Rattle.elab_items.specs.Claims.{claim_or_none}
use Rattle.elab_items.proofs.claims.Claims.put.Goals as goal

pub returns : goal.returns
returns c =
    ap (λ (values : Values Claim). (λ (other : List ℕ). claim_or_none (values other))) c.in_ok-put.ensures.ok
    ∙ read_with claim_or_none (values_of c.args.self.now.known) c.args.name.now c.args.claim
