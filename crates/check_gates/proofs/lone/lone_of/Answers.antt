use Rattle.check_gates.proofs.Ifs.{block_not_lone, case_not_lone, else_not_lone, lone_is, set_not_lone}
use Rattle.check_gates.proofs.lone.lone_of.Goals as goal

pub returns-in-None : goal.returns-in-None
returns-in-None c =
    lone_is c.args.one.now c.in-If.test c.in-If.yes c.in-If.no c.in-If.spot c.in-If.is c.in-None.is c.deref.result.now c.deref.ensures.value

pub returns-in-Some : goal.returns-in-Some
returns-in-Some c =
    else_not_lone c.args.one.now c.in-If.test c.in-If.yes c.in-If.no c.in-If.spot c.in-If.is c.in-Some.field-0 c.in-Some.is

pub returns-in-Set : goal.returns-in-Set
returns-in-Set c =
    set_not_lone c.args.one.now c.in-Set.target c.in-Set.value c.in-Set.delayed c.in-Set.spot c.in-Set.is

pub returns-in-Case : goal.returns-in-Case
returns-in-Case c =
    case_not_lone c.args.one.now c.in-Case.kind c.in-Case.full c.in-Case.parallel c.in-Case.selector c.in-Case.items c.in-Case.fallback c.in-Case.spot c.in-Case.is

pub returns-in-Block : goal.returns-in-Block
returns-in-Block c = block_not_lone c.args.one.now c.in-Block.field-0 c.in-Block.is
