use Rattle.std.proofs.Common.{rules, ◌≤◌, ◌-◌, length, map, reverse, sym, subst}
use Rattle.rtl_tree.specs.Symbols.{terminal}
use Rattle.text_survey.specs.Rule.{rule}
use Rattle.text_survey.specs.Machine.{symbol_at, moved}
use Rattle.text_survey.specs.Surveys.{state}
use Rattle.text_survey.proofs.Laws.Loops.{Stop, moves_on, moves_not, less, within, stuck, over, led, so_starts, so_on, through, through_deep}
use Rattle.text_survey.proofs.machine.survey.Goals as goal

pub loop-task-smaller : goal.loop-task-smaller
loop-task-smaller c =
    less c.loop-task.machine.rest.now c.step.new.self.rest.now c.loop-task.machine.tasks.items c.pop.new.self.items c.step.new.self.tasks.items c.in-Some.task c.in-Some.ensures.items
    (moves_on (moved (rule c.in-Some.task (symbol_at (map terminal c.loop-task.machine.rest.now))) (reverse c.pop.new.self.items) (map terminal c.loop-task.machine.rest.now))
    c.in_ok-step.field-0 (state c.step.new.self) c.if-not-branch.false c.in_ok-step.ensures.step)

pub loop-task-init : goal.loop-task-init
loop-task-init c = so_starts (map terminal c.args.tokens.now) c.push.new.self.items c.in_ok-new.field-0 (search rules) c.in_ok-new.ensures

pub loop-task-preserved : goal.loop-task-preserved
loop-task-preserved c =
    so_on (map terminal c.args.tokens.now) (map terminal c.loop-task.machine.rest.now) c.loop-task.machine.tasks.items c.pop.new.self.items c.in-Some.task (state c.step.new.self) c.loop-task.machine.depths c.step.new.self.depths c.in-Some.ensures.items c.loop-task.invariant
    (moves_on (moved (rule c.in-Some.task (symbol_at (map terminal c.loop-task.machine.rest.now))) (reverse c.pop.new.self.items) (map terminal c.loop-task.machine.rest.now))
    c.in_ok-step.field-0 (state c.step.new.self) c.if-not-branch.false c.in_ok-step.ensures.step)
    (c.in_ok-step.ensures.read c.if-not-branch.false)

pub overflow_sub-result : goal.overflow_sub-result
overflow_sub-result c =
    subst (λ r. length r ≤ length c.args.tokens.now) (sym (c.in_ok-step.ensures.kept c.if-not-branch.true))
    (within c.args.tokens.now c.loop-task.machine.rest.now (reverse c.loop-task.machine.tasks.items) (led (map terminal c.args.tokens.now) (map terminal c.loop-task.machine.rest.now) (reverse c.loop-task.machine.tasks.items) c.loop-task.machine.depths c.loop-task.invariant))

pub returns-then-not-branch : goal.returns-then-not-branch
returns-then-not-branch c =
    subst (λ r. Stop (map terminal c.args.tokens.now) (length c.args.tokens.now - length r))
    (sym (c.in_ok-step.ensures.kept c.if-not-branch.true))
    (stuck c.args.tokens.now c.loop-task.machine.rest.now c.loop-task.machine.tasks.items c.pop.new.self.items c.in-Some.task c.in-Some.ensures.items (led (map terminal c.args.tokens.now) (map terminal c.loop-task.machine.rest.now) (reverse c.loop-task.machine.tasks.items) c.loop-task.machine.depths c.loop-task.invariant)
    (moves_not (moved (rule c.in-Some.task (symbol_at (map terminal c.loop-task.machine.rest.now))) (reverse c.pop.new.self.items) (map terminal c.loop-task.machine.rest.now))
    c.in_ok-step.field-0 (state c.step.new.self) c.if-not-branch.true c.in_ok-step.ensures.step))

pub overflow_sub-result-then-not-is_empty : goal.overflow_sub-result-then-not-is_empty
overflow_sub-result-then-not-is_empty c = within c.args.tokens.now c.loop-task.machine.rest.now (reverse c.loop-task.machine.tasks.items) (led (map terminal c.args.tokens.now) (map terminal c.loop-task.machine.rest.now) (reverse c.loop-task.machine.tasks.items) c.loop-task.machine.depths c.loop-task.invariant)

pub returns-then-not-is_empty : goal.returns-then-not-is_empty
returns-then-not-is_empty c =
    over c.args.tokens.now c.loop-task.machine.rest.now c.loop-task.machine.tasks.items (search rules) (led (map terminal c.args.tokens.now) (map terminal c.loop-task.machine.rest.now) (reverse c.loop-task.machine.tasks.items) c.loop-task.machine.depths c.loop-task.invariant) (λ e. absurd (search (rules, e)))

pub returns-in-Some-deeper : goal.returns-in-Some-deeper
returns-in-Some-deeper c =
    through_deep c.args.tokens.now c.loop-task.machine.rest.now c.loop-task.machine.tasks.items c.loop-task.machine.depths c.deeper.result c.in-Some-deeper.at (search rules) (search rules) c.loop-task.invariant c.deeper.ensures c.in-Some-deeper.is

pub returns : goal.returns
returns c =
    through c.args.tokens.now c.loop-task.machine.rest.now c.loop-task.machine.tasks.items c.loop-task.machine.depths c.deeper.result (search rules) (search rules) c.loop-task.invariant c.deeper.ensures (search rules)
