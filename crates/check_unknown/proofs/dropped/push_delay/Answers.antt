use Rattle.std.proofs.Common.{◌≡◌, ◌∙◌, ◌<◌, List, map, length, get_or, None, Option, sym, ap, arith}
use Rattle.std.specs.Option.{unwrap_or}
use Rattle.std.proofs.lemmas.Option.{slice_get_past, unwrap_or-slice_get}
use Rattle.rtl_flat.specs.declared.act.Process.{Process}
use Rattle.rtl_flat.specs.declared.expr.SigId.{SigId}
use Rattle.rtl_flat.specs.Process.{task}
use Rattle.rtl_rule.specs.declared.rule.Rule.TheVariants.{DelayIgnored}
use Rattle.rtl_rule.specs.Parts.{first_of, written}
use Rattle.rtl_flat.specs.Flats.{flat}
use Rattle.check_chains.proofs.rtl_scan_proofs.Processes.{length-tasks, task_at}
use Rattle.check_unknown.specs.Lists.{at_spot}
use Rattle.check_unknown.proofs.Regions.{delay_nowhere, delay_there}
use Rattle.check_unknown.proofs.dropped.push_delay.Goals as goal

pub returns-in_default : goal.returns-in_default
returns-in_default c =
    let processes = c.args.design.now.processes.items in
    let past = c.in_default.ensures.lookup.3 in
    let seen = ap length c.deref.ensures.value in
    let count = length-tasks processes in
    delay_nowhere (flat c.args.design.now) c.args.delay.now c.args.found.now.items (slice_get_past (map task processes) c.args.delay.now.process.0 (omega (arith, past, seen, count)))

pub returns : goal.returns
returns c =
    let d = flat c.args.design.now in
    let processes = c.args.design.now.processes.items in
    let p = c.args.delay.now.process.0 in
    let one = c.in-Some.process.now in
    let (below, read) = c.in-Some.ensures.lookup.3 in
    let seen = ap length c.deref.ensures.value in
    let inside : p < length processes = omega (arith, below, seen) in
    let there = task_at processes p one inside (read one ∙ ap (λ (ps : List Process). get_or ps p one) c.deref.ensures.value) in
    let first : get_or c.args.firsts.now p None ≡ first_of d (written d (task one).does)
    = sym (unwrap_or-slice_get c.args.firsts.now p None) ∙ ap (λ (o : Option (Option SigId)). unwrap_or o None) (c.requires.each p (task one) inside there) in
    c.in_ok-push.ensures.items
    ∙ delay_there d c.args.delay.now (task one) c.args.found.now.items (at_spot DelayIgnored (get_or c.args.firsts.now p None) one.instance c.args.delay.now.spot) there
    (ap (λ (s : Option SigId). at_spot DelayIgnored s one.instance c.args.delay.now.spot) first)
