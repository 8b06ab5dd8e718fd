use Rattle.std.proofs.Common.{◌∙◌, ap}
use Rattle.rtl_tree.specs.TreeExpr.{formula, identifier}
use Rattle.elab_nodes.specs.elab_scope.Expressions.{constant_faults}
use Rattle.elab_nodes.specs.elab_scope.Names.{meanings}
use Rattle.elab_body.specs.Bodies.{head_faults, in_head, index_faults, loop_faults, stepped_faults}
use Rattle.elab_body.specs.Courses.{course, head_of}
use Rattle.elab_body.specs.Steps.{faulty, passed}
use Rattle.elab_body.proofs.Passing.{passed_four}
use Rattle.elab_body.proofs.head.Head.judge.Goals as goal

pub returns-clause-told : goal.returns-clause-told
unfolding loop_faults
returns-clause-told c =
    passed_four (course c.args.so_far) (course c.index-so_far.result) (course c.judge_constant-so_far.result) (course c.judge_first-so_far.result) (course c.stepped.result)
    (index_faults (identifier c.args.self.index.now) (meanings c.args.names.now c.args.self.index.now.text))
    (constant_faults (meanings c.args.names.now) (formula c.args.self.start.now))
    (head_faults (meanings c.args.names.now) (head_of c.args.self) (in_head (meanings c.args.names.now) (formula c.args.self.start.now)))
    (stepped_faults (identifier c.args.self.index.now) (identifier c.args.self.stepped.now) (meanings c.args.names.now c.args.self.stepped.now.text))
    (c.index-so_far.ensures ∙ ap (λ known. passed (course c.args.so_far) (faulty (index_faults (identifier c.args.self.index.now) known))) c.find.ensures)
    c.judge_constant-so_far.ensures
    c.judge_first-so_far.ensures.told
    (c.stepped.ensures
    ∙ ap (λ known. passed (course c.judge_first-so_far.result) (faulty (stepped_faults (identifier c.args.self.index.now) (identifier c.args.self.stepped.now) known)))
    (c.find-2.ensures ∙ ap (λ scope. scope c.args.self.stepped.now.text) c.judge_first-so_far.ensures.same))
