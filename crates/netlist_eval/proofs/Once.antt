-- What holds in one way only, and so follows from what a simulator keeps.
use Rattle.std.proofs.Common.{ℕ, List}
use Rattle.std.specs.List.{All}
use Rattle.std.proofs.Props.{props}
use Rattle.rtl_bits.specs.declared.Bit.{Bit}
use Rattle.rtl_flat.specs.declared.design.Design.{Design}
use Rattle.rtl_flat.specs.Propositions.{body_one}
use Rattle.rtl_flat.specs.Flats.{Flat}
use Rattle.event_model.specs.Writes.{Values}
use Rattle.net_model.specs.declared.fill.Fill.{Fill}
use Rattle.net_model.specs.Cycle.{Chain, IsCycle, Setting, Step}
use Rattle.net_model.specs.Solution.{IsSolution}
use Rattle.infer_regs.specs.net_list.declared.clocked.Clocked.{Clocked}
use Rattle.net_turn.specs.net_body.declared.maps.Maps.{Maps}
use Rattle.net_order.specs.net_solve.Laws.{AreApart}
use Rattle.net_turn.specs.net_settle.Work.{IsAble}
use Rattle.net_turn.specs.net_settle.Settle.{SetsInput}
use Rattle.net_turn.specs.Sources.{CanRun}
use Rattle.netlist_eval.specs.Steps.{Starts}

bit_set : IsSet Bit
bit_set = hlevel props

pub able_one : (m : Maps) → IsProp (IsAble m)
able_one m = hlevel (props, bit_set)

pub apart_one : (d : Flat) → IsProp (AreApart d)
apart_one d = hlevel props

can_run_one : (design : Design) (one : Clocked) → IsProp (CanRun design one)
can_run_one design one = hlevel (props, body_one design.signals.items)

pub can_one : (design : Design) (all : List Clocked) → IsProp (All (CanRun design) all)
can_one design all = hlevel (props, can_run_one design)

solution_one : (d : Flat) (f : Fill) (held given n : Values) → IsProp (IsSolution d f held given n)
solution_one d f held given n = hlevel (props, bit_set)

pub cycle_one : (d : Flat) (chains : ℕ → Chain) (f : Fill) (old : Values) (step : Step) (new : Values) → IsProp (IsCycle d chains f old step new)
cycle_one d chains f old step new = hlevel (props, bit_set, solution_one d f old new new)

pub starts_one : (d : Flat) (chains : ℕ → Chain) (f : Fill) (start n : Values) → IsProp (Starts d chains f start n)
starts_one d chains f start n = hlevel (props, bit_set, solution_one d f start n n)

pub sets_one : (d : Flat) (setting : Setting) → IsProp (SetsInput d setting)
sets_one d setting = hlevel props

pub sets_all_one : (d : Flat) (all : List Setting) → IsProp (All (SetsInput d) all)
sets_all_one d all = hlevel (props, sets_one d)
