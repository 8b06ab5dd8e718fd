use Rattle.std.proofs.lemmas.Result.{IfOk-weaker}
use Rattle.rtl_flat.specs.Process.{doing, task}
use Rattle.check_found.proofs.Sites.{task_at}
use Rattle.check_chains.proofs.Bad.{branch_formed, has_chain, no_chain}
use Rattle.check_chains.proofs.branches.has_bad_reset.Goals as goal

pub has_bad-requires-clause-lawful : goal.has_bad-requires-clause-lawful
has_bad-requires-clause-lawful c =
    branch_formed c.args.design.now c.args.p.0 c.index.result.now c.requires.there c.index.ensures c.in_ok-chain_of.field-0 c.in_ok-chain_of.ensures c.in-Some.chain c.in-Some.is c.deref.result.now c.deref.ensures.value

pub returns-in-None : goal.returns-in-None
returns-in-None c =
    no_chain c.args.design.now c.args.p.0 c.index.result.now c.requires.there c.index.ensures c.in_ok-chain_of.field-0 c.in_ok-chain_of.ensures c.in-None.is

pub returns-in_ok-registers-in-Some : goal.returns-in_ok-registers-in-Some
returns-in_ok-registers-in-Some c =
    let design = c.args.design.now in
    let x = c.index.result.now in
    let are = c.in_ok-registers-in-Some.ensures (task x) (task_at design c.args.p.0 x c.requires.there c.index.ensures) in
    IfOk-weaker c.has_bad.result _ _
    (λ bad decides t there. has_chain design c.args.p.0 x c.requires.there c.index.ensures c.in_ok-chain_of.field-0 c.in_ok-chain_of.ensures c.in-Some.chain c.in-Some.is c.deref.result.now c.deref.ensures.value bad (decides (doing x.does) are) t there)
    c.has_bad.ensures
