use Rattle.std.proofs.Common.{◌∙◌, ap, subst, map, List}
use Rattle.std.proofs.lemmas.List.{take_all}
use Rattle.rtl_flat.specs.Process.{Action, action, task}
use Rattle.rtl_rule.specs.Parts.{At, within}
use Rattle.rtl_flat.specs.Flats.{flat}
use Rattle.check_found.specs.Gathered.{Gets}
use Rattle.check_case.specs.Claims.{IsFalse, claim_at}
use Rattle.check_case.proofs.Claimed.{gets_next, map_twice}
use Rattle.check_case.proofs.claims.push_claims.Goals as goal

pub loop-one-preserved : goal.loop-one-preserved
loop-one-preserved c = λ p.
    let d = flat c.args.design.now in
    let claim = c.args.claim in
    gets_next (IsFalse d claim) (claim_at d claim) (λ one. within (p, task c.args.process.now) (action one.now)) c.deref-one-items.result.now c.loop-one.one-index c.one-item.result c.loop-one-test.true c.one-item.is c.args.found.now.items c.loop-one.found.items c.push_claim.new.found.items (c.loop-one.invariant p) (c.in_ok-push_claim.ensures p)

pub returns : goal.returns
returns c = λ p.
    let d = flat c.args.design.now in
    let claim = c.args.claim in
    let site = within (p, task c.args.process.now) in
    subst (λ (sites : List (At Action)). Gets (IsFalse d claim) (claim_at d claim) sites c.args.found.now.items c.loop-one.found.items)
    (ap (map (λ one. site (action one.now))) (take_all c.loop-one.one-index c.deref-one-items.result.now c.loop-one-test.false ∙ c.deref-one-items.ensures.value)
    ∙ map_twice site (λ one. action one.now) c.in_ok-all.all.items ∙ ap (map site) c.in_ok-all.ensures)
    (c.loop-one.invariant p)
