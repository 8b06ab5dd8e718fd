use Rattle.std.proofs.Common.{◌≡◌, ◌∙◌, ◌<◌, [], ◌∷◌, Bool, true, false, length, get_or, sym, subst, arith}
use Rattle.std.specs.Prelude.{◌↔◌}
use Rattle.std.proofs.lemmas.List.{get_or_default}
use Rattle.rtl_flat.specs.Flats.{flat}
use Rattle.check_loops.specs.Loops.{AreLevelLoops, IsOnLevelCycle}
use Rattle.check_loops.proofs.check_found_proofs.Sites.{next_below, task_count}
use Rattle.check_assign.specs.Assigned.{IsCombLoop, comb_loop_at}
use Rattle.check_assign.proofs.Turns.{task_of}
use Rattle.check_assign.proofs.loops.comb_loop.Goals as goal

pub push_loop-requires-clause-on_cycle : goal.push_loop-requires-clause-on_cycle
push_loop-requires-clause-on_cycle c =
    let d = flat c.args.scans.now.design.now in
    let n = c.loop-number.number in
    let answers = c.in_ok-on_cycle.on_cycle.items in
    let are : AreLevelLoops d.signals d.tasks answers = c.in_ok-on_cycle.ensures in
    let count = task_count c.args.scans.now.design.now in
    let below : n < length d.tasks = omega arith in
    let inside : n < length answers = omega (arith, are.same_length) in
    let is : c.index.result.now ≡ get_or answers n false = c.index.ensures ∙ get_or_default answers n c.index.result.now false inside in
    subst (λ (b : Bool). b ≡ true ↔ IsOnLevelCycle d.signals d.tasks n) (sym is) (are.each n below)

pub loop-number-preserved : goal.loop-number-preserved
loop-number-preserved c =
    let d = flat c.args.scans.now.design.now in
    let n = c.loop-number.number in
    let (one, there) = task_of c.args.scans.now.design.now n (omega arith) in
    next_below (IsCombLoop d) (comb_loop_at d) (λ does. does ∷ []) d n one c.loop-number.found.items c.push_loop.new.found.items there c.loop-number.invariant (c.in_ok-push_loop.ensures one there)
