use Rattle.std.proofs.Common.{◌+◌, ◌*◌, List, map, drop}
use Rattle.rtl_flat.specs.Signs.{width_in}
use Rattle.rtl_flat.specs.Process.{action, body_of}
use Rattle.rtl_flat.specs.WellFormed.{statements}
use Rattle.rtl_flat.specs.Flows.{body_flow}
use Rattle.rtl_scan.specs.declared.bits.Row.{Row}
use Rattle.rtl_scan.specs.declared.scan.Sets.{Sets}
use Rattle.rtl_scan.specs.Scan.{FlowScanned, ItemsAlso}
use Rattle.rtl_scan.specs.Bodies.{branches_of}
use Rattle.rtl_scan.specs.Loads.{load, other_load, items_load}
use Rattle.rtl_scan.proofs.steps.Pass.+pass.Given as goal

abbrev pub invariant-also_items-loop-item : goal.invariant-also_items-loop-item
invariant-also_items-loop-item l =
    (u : Sets) (left : List Row) → ItemsAlso l.self.counted (width_in l.self.widths.signals.now) (branches_of (drop l.item-index l.items)) l.sets l.kept.items u left → ItemsAlso l.self.counted (width_in l.self.widths.signals.now) (branches_of l.items) l.fn.sets l.fn.kept.items u left

abbrev pub invariant-statements-loop-act : goal.invariant-statements-loop-act
invariant-statements-loop-act l =
    (u : Sets) (log : List Row) → FlowScanned l.self.counted (body_flow (width_in l.self.widths.signals.now) (body_of (map action (drop l.act-index l.acts)))) l.sets l.log.items u log → FlowScanned l.self.counted (body_flow (width_in l.self.widths.signals.now) (body_of (map action l.acts))) l.fn.sets l.fn.log.items u log

abbrev pub decreases-statements : goal.decreases-statements
decreases-statements l = 8 * load l.acts.now + 1

abbrev pub decreases-statement : goal.decreases-statement
decreases-statement l = 8 * statements (action l.act.now)

abbrev pub decreases-branches : goal.decreases-branches
decreases-branches l = 8 * (load l.yes.now + other_load l.no.now) + 5

abbrev pub decreases-other_way : goal.decreases-other_way
decreases-other_way l = 8 * other_load l.no.now + 4

abbrev pub decreases-cases : goal.decreases-cases
decreases-cases l = 8 * (items_load l.items.now + other_load l.fallback.now) + 5

abbrev pub decreases-items_alone : goal.decreases-items_alone
decreases-items_alone l = 8 * items_load l.items.now + 4

abbrev pub decreases-also_items : goal.decreases-also_items
decreases-also_items l = 8 * items_load l.items.now + 3

abbrev pub decreases-way : goal.decreases-way
decreases-way l = 8 * load l.body.now + 2

abbrev pub decreases-also_way : goal.decreases-also_way
decreases-also_way l = 8 * load l.body.now + 2
