use Rattle.std.specs.Prelude.{map}
use Rattle.std.proofs.Common.{◌≡◌, ◌<◌, ◌+◌, ◌*◌, ◌++◌, ◌∙◌, ap, sym, arith, Bor}
use Rattle.std.proofs.lemmas.Result.{on_ok_weaker}
use Rattle.rtl_flat.specs.declared.act.Act.{Act}
use Rattle.rtl_flat.specs.Process.{action, body_of}
use Rattle.rtl_flat.specs.WellFormed.{statements}
use Rattle.rtl_rule.specs.Parts.{all_branches, all_of, all_other}
use Rattle.rtl_scan.specs.Bodies.{branches_of, other_of}
use Rattle.rtl_scan.specs.Loads.{load, other_load, items_load}
use Rattle.rtl_scan.proofs.Weights.{if_load, case_load, block_load, act_load, item_load}
use Rattle.check_parts.specs.Kept.{actions}
use Rattle.check_parts.proofs.Within.{if_within, case_within, block_within, two_pushed}
use Rattle.check_parts.proofs.statements.+body.Goals as goal

pub push_body-push_statement-requires : goal.push_body-push_statement-requires
push_body-push_statement-requires t c =
    let part = act_load c.args.body.now c.loop-one.one-index c.one-item.result c.loop-one-test.true c.one-item.is in
    let is : 4 * load c.args.body.now + 1 ≡ t = c.decreases in
    let less : 4 * statements (action c.one-item.result) < t = omega arith in
    (less, tt)

pub push_branches-push_body-requires : goal.push_branches-push_body-requires
push_branches-push_body-requires t c =
    let part = item_load c.args.items.now c.loop-item.item-index c.item-item.result c.loop-item-test.true c.item-item.is in
    let is : 4 * items_load c.args.items.now + 3 ≡ t = c.decreases in
    let same = ap load c.deref.ensures.value in
    let less : 4 * load c.deref.result.now + 1 < t = omega arith in
    (less, tt)

pub push_statement-push_body-requires : goal.push_statement-push_body-requires
push_statement-push_body-requires t c =
    let part = if_load c.args.one.now c.in-If.test c.in-If.yes c.in-If.no c.in-If.spot c.in-If.is in
    let is : 4 * statements (action c.args.one.now) ≡ t = c.decreases in
    let same = ap load c.deref.ensures.value in
    let less : 4 * load c.deref.result.now + 1 < t = omega arith in
    (less, tt)

pub push_statement-push_other-requires : goal.push_statement-push_other-requires
push_statement-push_other-requires t c =
    let part = if_load c.args.one.now c.in-If.test c.in-If.yes c.in-If.no c.in-If.spot c.in-If.is in
    let is : 4 * statements (action c.args.one.now) ≡ t = c.decreases in
    let less : 4 * other_load c.in-If.no + 3 < t = omega arith in
    (less, tt)

pub push_statement-push_branches-requires : goal.push_statement-push_branches-requires
push_statement-push_branches-requires t c =
    let part = case_load c.args.one.now c.in-Case.kind c.in-Case.full c.in-Case.parallel c.in-Case.selector c.in-Case.items c.in-Case.fallback c.in-Case.spot c.in-Case.is in
    let is : 4 * statements (action c.args.one.now) ≡ t = c.decreases in
    let same = ap items_load c.deref-in-Case.ensures.value in
    let less : 4 * items_load c.deref-in-Case.result.now + 3 < t = omega arith in
    (less, tt)

pub push_statement-push_other-requires-in-Case : goal.push_statement-push_other-requires-in-Case
push_statement-push_other-requires-in-Case t c =
    let part = case_load c.args.one.now c.in-Case.kind c.in-Case.full c.in-Case.parallel c.in-Case.selector c.in-Case.items c.in-Case.fallback c.in-Case.spot c.in-Case.is in
    let is : 4 * statements (action c.args.one.now) ≡ t = c.decreases in
    let less : 4 * other_load c.in-Case.fallback + 3 < t = omega arith in
    (less, tt)

pub push_statement-push_body-requires-in-Block : goal.push_statement-push_body-requires-in-Block
push_statement-push_body-requires-in-Block t c =
    let part = block_load c.args.one.now c.in-Block.body c.in-Block.is in
    let is : 4 * statements (action c.args.one.now) ≡ t = c.decreases in
    let same = ap load c.deref-in-Block.ensures.value in
    let less : 4 * load c.deref-in-Block.result.now + 1 < t = omega arith in
    (less, tt)

pub push_statement-returns-in_ok-push_body-in-If : goal.push_statement-returns-in_ok-push_body-in-If
push_statement-returns-in_ok-push_body-in-If t c =
    on_ok_weaker c.push_other.result
    (λ pushed. two_pushed (λ (one : Bor Act). action one.now) c.args.found.now.items c.push-in-If.new.self.items c.args.one
    (actions c.push_body.new.found.items) (actions c.push_other.new.found.items) (all_of (body_of (map action c.deref.result.now))) (all_other (other_of c.in-If.no)) _
    c.in_ok-push-in-If.ensures.items c.in_ok-push_body-in-If.ensures pushed
    (if_within c.args.one.now c.in-If.test c.in-If.yes c.in-If.no c.in-If.spot c.in-If.is c.deref.result.now c.deref.ensures.value))
    c.push_other.ensures

pub push_statement-returns-in_ok-push_branches-in-Case : goal.push_statement-returns-in_ok-push_branches-in-Case
push_statement-returns-in_ok-push_branches-in-Case t c =
    on_ok_weaker c.push_other-in-Case.result
    (λ pushed. two_pushed (λ (one : Bor Act). action one.now) c.args.found.now.items c.push-in-Case.new.self.items c.args.one
    (actions c.push_branches.new.found.items) (actions c.push_other-in-Case.new.found.items) (all_branches (branches_of c.deref-in-Case.result.now)) (all_other (other_of c.in-Case.fallback)) _
    c.in_ok-push-in-Case.ensures.items c.in_ok-push_branches-in-Case.ensures pushed
    (case_within c.args.one.now c.in-Case.kind c.in-Case.full c.in-Case.parallel c.in-Case.selector c.in-Case.items c.in-Case.fallback c.in-Case.spot c.in-Case.is c.deref-in-Case.result.now c.deref-in-Case.ensures.value))
    c.push_other-in-Case.ensures

pub push_statement-returns-in-Block : goal.push_statement-returns-in-Block
push_statement-returns-in-Block t c =
    on_ok_weaker c.push_body-in-Block.result
    (λ pushed. pushed ∙ ap (λ own. actions c.args.found.now.items ++ own) (sym (block_within c.args.one.now c.in-Block.body c.in-Block.is c.deref-in-Block.result.now c.deref-in-Block.ensures.value)))
    c.push_body-in-Block.ensures
