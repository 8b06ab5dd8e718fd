use Rattle.std.proofs.Common.{arith}
use Rattle.desk_stages.specs.Stages.{head_lines}
use Rattle.desk_stages.proofs.Lengths.{short_text, stage_behind, stages_behind}
use Rattle.desk_stages.proofs.stages_text.Goals as goal

pub loop-stage-preserved : goal.loop-stage-preserved
loop-stage-preserved c = record {
  some = omega arith;
  text = stages_behind head_lines c.loop-stage.out.items c.push_stage.new.out.items c.loop-stage.stage c.loop-stage.invariant.some c.loop-stage.invariant.text c.in_ok-push_stage.ensures;
  short = stage_behind c.loop-stage.out.items c.push_stage.new.out.items c.loop-stage.stage (omega arith) c.in_ok-push_stage.ensures c.loop-stage.invariant.short;
}

pub returns-clause-short : goal.returns-clause-short
returns-clause-short c =
    let items = short_text c.loop-stage.out.items c.push_numbered.new.out.items c.extend_from_slice-2.new.self.items c.args.count c.loop-stage.stage
    (omega arith) (omega arith) c.in_ok-push_numbered.ensures c.in_ok-extend_from_slice-2.ensures.items c.loop-stage.invariant.short in
    omega (arith, items, c.extend_from_slice-2.new.self.ok)
