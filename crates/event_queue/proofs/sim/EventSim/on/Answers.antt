use Rattle.std.proofs.Common.{◌∙◌, List, Vec, length, refl, ap}
use Rattle.std.specs.declared.alloc.Global.{Global}
use Rattle.rtl_flat.specs.declared.act.ProcId.{ProcId}
use Rattle.rtl_flat.specs.declared.design.Design.{Design}
use Rattle.rtl_flat.specs.Flats.{flat}
use Rattle.event_queue.proofs.Beginning.{holding, levels_are}
use Rattle.event_queue.proofs.sim.EventSim.on.Goals as goal

pub first_queue-requires-clause-table : goal.first_queue-requires-clause-table
first_queue-requires-clause-table c =
    ap (λ (rows : List (Vec ProcId Global)). length rows) c.deref.ensures.value ∙ c.in_ok-fanout.ensures.tables.driven ∙ ap (λ (d : Design). length d.signals.items) c.in_ok-fanout.ensures.design

pub invariant_of-result : goal.invariant_of-result
invariant_of-result c =
    record {
      is_sim = holding c.args.design.now c.args.start.now c.in_ok-levels.levels.items c.in_ok-fanout.fanout c.in_ok-queue.queue c.in_ok-costs.costs c.budget_of-budget.result
          c.in_ok-fanout.ensures.tables c.in_ok-fanout.ensures.design c.in_ok-costs.ensures c.budget_of-budget.ensures.budget c.in_ok-queue.ensures;
    }

pub returns : goal.returns
returns c =
    record {
      design = ap flat c.in_ok-fanout.ensures.design;
      state = c.in_ok-queue.ensures.state;
      left = c.budget_of-budget.ensures.budget;
      free = refl;
      levels = levels_are c.args.design.now c.args.levels.now c.in_ok-queue.queue.woken.levels (c.in_ok-queue.ensures.levels ∙ c.in_ok-levels.ensures.items) c.requires.each;
    }
