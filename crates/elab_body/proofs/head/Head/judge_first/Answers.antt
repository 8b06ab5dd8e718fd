use Rattle.elab_nodes.specs.elab_scope.Names.{meanings}
use Rattle.elab_body.proofs.Indices.{indexed_undone}
use Rattle.elab_body.proofs.head.Head.judge_first.Goals as goal

pub returns-clause-same : goal.returns-clause-same
returns-clause-same c =
    indexed_undone (meanings c.args.names.now) (meanings c.set_index.new.self) (meanings c.set_index-2.new.self) c.args.self.index.now.text _ c.get-before.result c.set_index.ensures c.get-before.ensures c.set_index-2.ensures
