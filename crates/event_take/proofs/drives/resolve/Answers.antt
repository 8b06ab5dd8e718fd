use Rattle.std.proofs.Common.{◌≡◌, ◌<◌, ◌+◌, ◌-◌, ◌∙◌, List, ◌∷◌, length, drop, get_or, replicate, ap, sym, arith}
use Rattle.std.proofs.lemmas.List.{drop_all, length-map}
use Rattle.rtl_bits.specs.declared.Bit.{Bit}
use Rattle.rtl_bits.specs.declared.Bit.TheVariants.{Z}
use Rattle.rtl_flat.specs.declared.act.ProcId.{ProcId}
use Rattle.rtl_flat.specs.declared.signal.Signal.{Signal}
use Rattle.rtl_flat.specs.Process.{task}
use Rattle.rtl_flat.specs.Signs.{width_in}
use Rattle.event_write.proofs.rtl_scan_proofs.Labels.{left_at}
use Rattle.event_write.proofs.rtl_scan_proofs.Processes.{widths_fit}
use Rattle.event_model.specs.Queue.{doing_at}
use Rattle.rtl_flat.specs.Flats.{widths}
use Rattle.event_write.specs.QueueState.{design_of, driven_with, resolved_by, row, state}
use Rattle.event_write.proofs.Targets.{some_bits}
use Rattle.event_write.proofs.Writing.{row_at}
use Rattle.event_take.proofs.drives.resolve.Goals as goal

pub filled-given-requires-clause-not_empty : goal.filled-given-requires-clause-not_empty
filled-given-requires-clause-not_empty c =
    let design = c.args.fanout.now.design.now in
    let some = some_bits design.instances.items design.signals.items design.is_design.each_signal c.args.net.0 c.requires.there in
    let width = c.width_of.ensures in
    let same = ap (λ (ss : List Signal). width_in ss c.args.net.0) c.deref.ensures.value in
    omega (arith, some, width, same)

pub filled-given-requires-clause-at_most : goal.filled-given-requires-clause-at_most
filled-given-requires-clause-at_most c =
    let design = c.args.fanout.now.design.now in
    let most = widths_fit design.instances.items design.signals.items design.is_design.each_signal c.args.net.0 in
    let width = c.width_of.ensures in
    let same = ap (λ (ss : List Signal). width_in ss c.args.net.0) c.deref.ensures.value in
    omega (arith, most, width, same)

pub loop-behind-init : goal.loop-behind-init
loop-behind-init c =
    let d = design_of c.args.fanout.now in
    let net = c.args.net.0 in
    let rows = c.args.fanout.now.drivers.items in
    let there = c.requires.there in
    let count = c.requires.fanout.driven in
    let is = row_at rows net c.index-drivers.result.now (omega (arith, there, count)) c.index-drivers.ensures in
    let len = c.len-count.ensures in
    let fits = c.index-drivers.result.now.ok.0 in
    let same = ap length is in
    let width = c.width_of.ensures ∙ ap (λ (ss : List Signal). width_in ss net) c.deref.ensures.value in
    let none = drop_all (c.len-count.result - 0) (row rows net) (omega (arith, len, fits, same)) in (
      c.filled-given.ensures.bits ∙ ap (λ n. replicate n Z) width ∙ ap (λ (ps : List ProcId). resolved_by d ps (state c.args.queue.now).driver net) (sym none),
      c.filled-given.ensures.width ∙ width,
    )

pub drive_with-given-requires-clause-inside : goal.drive_with-given-requires-clause-inside
drive_with-given-requires-clause-inside c =
    let net = c.args.net.0 in
    let processes = c.args.fanout.now.design.now.processes.items in
    let rows = c.args.fanout.now.drivers.items in
    let there = c.requires.there in
    let count = c.requires.fanout.driven in
    let is = row_at rows net c.index-drivers.result.now (omega (arith, there, count)) c.index-drivers.ensures in
    let len = c.len-count.ensures in
    let fits = c.index-drivers.result.now.ok.0 in
    let same = ap length is in
    let test = c.loop-behind-test.true in
    let k = c.len-count.result - 1 - c.loop-behind.behind in
    let within : k < length (row rows net) = omega (arith, len, fits, same, test) in
    let here : c.index-process.result.now ≡ get_or (row rows net) k c.index-process.result.now =
    c.index-process.ensures ∙ ap (λ (ps : List ProcId). get_or ps k c.index-process.result.now) (sym is) in
    let inside = c.requires.fanout.drivers_inside net k c.index-process.result.now within in
    let all = length-map processes task in
    let same_number : c.index-process.result.now.0 ≡ (get_or (row rows net) k c.index-process.result.now).0 = ap (λ (q : ProcId). q.0) here in
    omega (arith, same_number, inside, all)

pub loop-behind-preserved : goal.loop-behind-preserved
loop-behind-preserved c =
    let d = design_of c.args.fanout.now in
    let net = c.args.net.0 in
    let rows = c.args.fanout.now.drivers.items in
    let there = c.requires.there in
    let count = c.requires.fanout.driven in
    let is = row_at rows net c.index-drivers.result.now (omega (arith, there, count)) c.index-drivers.ensures in
    let len = c.len-count.ensures in
    let fits = c.index-drivers.result.now.ok.0 in
    let same = ap length is in
    let test = c.loop-behind-test.true in
    let process = c.index-process.result.now in
    let driver = (state c.args.queue.now).driver in
    let k = c.len-count.result - 1 - c.loop-behind.behind in
    let within : k < length (row rows net) = omega (arith, len, fits, same, test) in
    let here : process ≡ get_or (row rows net) k process = c.index-process.ensures ∙ ap (λ (ps : List ProcId). get_or ps k process) (sym is) in
    let left : drop k (row rows net) ≡ process ∷ drop (k + 1) (row rows net) = left_at (row rows net) k process within here in
    let next : k + 1 ≡ c.len-count.result - c.loop-behind.behind = omega (arith, len, fits, same, test) in
    let now : k ≡ c.len-count.result - (c.loop-behind.behind + 1) = omega (arith, len, fits, same, test) in (
      c.drive_with-given.ensures.bits
          ∙ ap (λ (bs : List Bit). driven_with (widths d) (doing_at d process.0) (driver process.0) net bs) (c.loop-behind.invariant.0 ∙ ap (λ n. resolved_by d (drop n (row rows net)) driver net) (sym next))
          ∙ ap (λ (ps : List ProcId). resolved_by d ps driver net) (sym left)
          ∙ ap (λ n. resolved_by d (drop n (row rows net)) driver net) now,
      c.drive_with-given.ensures.width,
    )
