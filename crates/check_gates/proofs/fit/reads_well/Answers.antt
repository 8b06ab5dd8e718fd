use Rattle.std.proofs.Common.{◌∙◌, List, map, ap}
use Rattle.rtl_flat.specs.Flats.{flat}
use Rattle.rtl_flat.specs.Process.{action, body_of}
use Rattle.check_chains.specs.rtl_scan.declared.bits.Row.{Row}
use Rattle.check_chains.specs.rtl_scan.Sets.{has, has_rows}
use Rattle.check_gates.proofs.Fitting.{reads_are}
use Rattle.check_gates.proofs.fit.reads_well.Goals as goal

pub returns : goal.returns
returns c = λ one there.
    let d = flat c.args.scans.now.design.now in
    let clear = reads_are d one.does (body_of (map action c.args.branch.now)) c.args.signal.0 c.deref-2.result.now c.deref-3.result.now (has c.in_ok-written.written.masks) (has c.in_ok-read.read.masks)
    (λ s k. c.in_ok-written.ensures s k ∙ ap (λ (rs : List Row). has_rows rs s k) c.deref.ensures.value ∙ c.written.ensures.bits one there s k)
    (λ s k. ap (λ (rs : List Row). has_rows rs s k) c.deref-2.ensures.value ∙ c.read_outside.ensures.bits one there s k)
    (λ s k. ap (λ (rs : List Row). has_rows rs s k) c.deref-3.ensures.value ∙ c.in_ok-listed.ensures one there s k)
    (λ s k. c.in_ok-read.ensures s k) in
    (λ h. clear.0 (c.are_clear.ensures.0 h), λ well. c.are_clear.ensures.1 (clear.1 well))
