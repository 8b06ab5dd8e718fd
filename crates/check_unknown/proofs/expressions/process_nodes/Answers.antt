use Rattle.std.proofs.Common.{◌∙◌, ap, map}
use Rattle.std.proofs.lemmas.Result.{IfOk-weaker}
use Rattle.rtl_flat.specs.Expression.{tree}
use Rattle.rtl_flat.specs.Process.{Task}
use Rattle.rtl_flat.specs.Flats.{flat}
use Rattle.check_unknown.specs.Lists.{AreNodes}
use Rattle.check_unknown.specs.Unknowns.{all_nodes}
use Rattle.check_unknown.proofs.Processes.{same_task}
use Rattle.check_unknown.proofs.expressions.process_nodes.Goals as goal

pub returns : goal.returns
returns c =
    IfOk-weaker c.all_nodes.result _ (λ all. AreNodes (flat c.args.design.now) c.args.p.0 (map (λ e. tree e.now) all.items))
    (λ all is. λ other there. is ∙ ap (λ (t : Task). all_nodes t.does) (same_task c.args.design.now.processes.items c.args.p.0 c.index.result.now c.requires c.index.ensures other there))
    c.all_nodes.ensures
