use Rattle.std.proofs.Common.{◌∙◌, ap, sym, List, ◌&&◌, not}
use Rattle.std.proofs.lemmas.Result.{IfOk-weaker}
use Rattle.rtl_flat.specs.declared.act.Act.{Act}
use Rattle.rtl_flat.specs.declared.act.CaseItem.{CaseItem}
use Rattle.rtl_flat.specs.Expression.{tree}
use Rattle.rtl_flat.specs.Process.{Case, action}
use Rattle.rtl_flat.specs.Flats.{flat, widths}
use Rattle.check_parts.specs.rtl_scan.Bodies.{branches_of, other_of}
use Rattle.check_parts.proofs.rtl_scan_proofs.Bodies.{case_is}
use Rattle.check_case.specs.declared.claims.Claim.{Claim}
use Rattle.check_case.specs.Cases.{all_disjoint, is_false_full}
use Rattle.check_case.specs.Claims.{claims_falsely}
use Rattle.check_case.proofs.claims.is_false.Goals as goal

pub returns-in-Full : goal.returns-in-Full
returns-in-Full c =
    let d = flat c.args.design.now in
    let one = c.in-Case in
    IfOk-weaker c.is_false_full.result _ _
    (λ wrong is.
    is one.parallel one.spot
    ∙ ap (λ (items : List CaseItem). is_false_full (widths d) (Case one.kind one.full one.parallel (tree one.selector) (branches_of items) (other_of one.fallback) one.spot)) c.deref.ensures.value
    ∙ sym (ap (λ (a : Act). claims_falsely d c.args.claim (action a)) one.is
    ∙ ap (claims_falsely d c.args.claim) (case_is one.kind one.full one.parallel one.selector one.items one.fallback one.spot)
    ∙ ap (λ (claim : Claim). claims_falsely d claim (Case one.kind one.full one.parallel (tree one.selector) (branches_of one.items.items) (other_of one.fallback) one.spot)) c.in-Full.is))
    c.is_false_full.ensures

pub returns-in-Parallel : goal.returns-in-Parallel
returns-in-Parallel c =
    let d = flat c.args.design.now in
    let one = c.in-Case in
    IfOk-weaker c.is_false_parallel.result _ _
    (λ wrong is.
    is
    ∙ ap (λ (items : List CaseItem). one.parallel && not (all_disjoint (branches_of items))) c.deref-in-Parallel.ensures.value
    ∙ sym (ap (λ (a : Act). claims_falsely d c.args.claim (action a)) one.is
    ∙ ap (claims_falsely d c.args.claim) (case_is one.kind one.full one.parallel one.selector one.items one.fallback one.spot)
    ∙ ap (λ (claim : Claim). claims_falsely d claim (Case one.kind one.full one.parallel (tree one.selector) (branches_of one.items.items) (other_of one.fallback) one.spot)) c.in-Parallel.is))
    c.is_false_parallel.ensures
