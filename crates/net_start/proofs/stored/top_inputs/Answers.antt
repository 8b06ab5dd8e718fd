use Rattle.std.proofs.Common.{◌≡◌, ◌∙◌, ◌≤◌, length, refl, sym, arith}
use Rattle.std.specs.Prelude.{IsTrue}
use Rattle.event_model.specs.Queue.{is_input}
use Rattle.rtl_flat.specs.Flats.{flat}
use Rattle.net_start.specs.Stored.{places}
use Rattle.net_start.proofs.Listed.{all_below, few_more, next_below}
use Rattle.net_start.proofs.Started.{top_there}
use Rattle.net_start.proofs.stored.top_inputs.Goals as goal

pub loop-number-preserved : goal.loop-number-preserved
loop-number-preserved c =
    let d = flat c.args.design.now in
    let n = c.loop-number.number in
    let found = c.loop-number.found.items in
    let e = c.is_top.ensures in
    record {
      below = next_below (λ s. IsTrue (is_input d s)) n found c.push_if.new.found.items (record { 0 = n }) c.is_top.result refl (λ h. sym e ∙ h, λ h. e ∙ h) c.in_ok-push_if.ensures c.loop-number.invariant.below;
      few = few_more found c.push_if.new.found.items (record { 0 = n }) c.is_top.result n c.in_ok-push_if.ensures c.loop-number.invariant.few;
    }

pub returns-clause-all : goal.returns-clause-all
returns-clause-all c =
    let d = flat c.args.design.now in
    let count : c.len-number-end.result ≡ length d.signals = c.len-number-end.ensures ∙ c.args.design.now.signals.ok.0 in
    let past : length d.signals ≤ c.loop-number.number = omega (arith, count) in
    all_below (λ s. IsTrue (is_input d s)) c.loop-number.number (places c.loop-number.found.items) c.loop-number.invariant.below
    (λ s is. let inside = top_there d s is in omega (arith, inside, past))
