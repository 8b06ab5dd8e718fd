use Rattle.std.proofs.Common.{◌∙◌, ap, sym, subst, [], ◌∷◌, ◌++◌, List, Option}
use Rattle.text_ground.specs.declared.text.Spot.{Spot}
use Rattle.rtl_flat.specs.declared.expr.SigId.{SigId}
use Rattle.rtl_flat.specs.Process.{action, task}
use Rattle.rtl_rule.specs.declared.finding.Finding.{Finding}
use Rattle.rtl_rule.specs.declared.rule.Rule.{Rule}
use Rattle.rtl_rule.specs.Parts.{found_at, within}
use Rattle.rtl_flat.specs.Flats.{flat}
use Rattle.check_found.specs.Gathered.{Gets}
use Rattle.check_found.proofs.Gathering.{gets_one}
use Rattle.check_case.specs.Cases.{first_in}
use Rattle.check_case.specs.Claims.{IsFalse, claim_at, rule_of}
use Rattle.check_case.proofs.claims.push_claim.Goals as goal

pub returns : goal.returns
returns c = λ p.
    let d = flat c.args.design.now in
    let claim = c.args.claim in
    let old = c.args.found.now.items in
    let process = c.args.process.now in
    let site = within (p, task process) (action c.args.one.now) in
    let pushed = c.in_ok-push.ensures.items
    ∙ ap (λ (rule : Rule). old ++ found_at rule site c.first_in.result c.place.result ∷ []) c.rule.ensures
    ∙ ap (λ (signal : Option SigId). old ++ found_at (rule_of claim) site signal c.place.result ∷ []) c.first_in.ensures
    ∙ ap (λ (spot : Spot). old ++ found_at (rule_of claim) site (first_in d (action c.args.one.now)) spot ∷ []) c.place.ensures in
    subst (λ (new : List Finding). Gets (IsFalse d claim) (claim_at d claim) (site ∷ []) old new) (sym pushed)
    (gets_one (IsFalse d claim) (claim_at d claim) old site (sym c.in_ok-wrong.ensures ∙ c.if-not-wrong.false))
