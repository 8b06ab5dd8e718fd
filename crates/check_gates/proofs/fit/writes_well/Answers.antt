use Rattle.std.proofs.Common.{◌∙◌, ℕ, List, map, ap}
use Rattle.std.proofs.lemmas.Bool.{both_ways, false≢true}
use Rattle.rtl_flat.specs.Flats.{flat}
use Rattle.rtl_flat.specs.Process.{action, body_of}
use Rattle.check_chains.specs.rtl_scan.declared.bits.Row.{Row}
use Rattle.check_chains.specs.rtl_scan.Sets.{has, has_rows}
use Rattle.check_gates.proofs.Fitting.{holds_from, holds_to, to_within, within_to}
use Rattle.check_gates.proofs.fit.writes_well.Goals as goal

pub returns-then-not-have_other : goal.returns-then-not-have_other
returns-then-not-have_other c = λ one there.
    let d = flat c.args.scans.now.design.now in
    let may = λ (s k : ℕ). ap (λ (rs : List Row). has_rows rs s k) c.deref.ensures.value ∙ c.written.ensures.bits one there s k in
    (λ h. absurd (false≢true h), λ well. absurd (both_ways c.have_other.result c.if-not-have_other.true (c.have_other.ensures.1 (holds_to d one.does c.deref.result.now may (body_of (map action c.args.branch.now)) c.temporaries.result.now c.temporaries.ensures well))))

pub returns : goal.returns
returns c = λ one there.
    let d = flat c.args.scans.now.design.now in
    let branch = body_of (map action c.args.branch.now) in
    let may = λ (s k : ℕ). ap (λ (rs : List Row). has_rows rs s k) c.deref.ensures.value ∙ c.written.ensures.bits one there s k in
    let may-2 = λ (s k : ℕ). ap (λ (rs : List Row). has_rows rs s k) c.deref-2.ensures.value ∙ c.written.ensures.bits one there s k in
    let sure = λ (s k : ℕ). c.in_ok-sure.ensures s k in (
      λ h. record {
        writes = within_to d one.does c.deref-2.result.now may-2 branch (has c.in_ok-sure.sure.masks) sure (c.are_within.ensures.0 h);
        holds = holds_from d one.does c.deref.result.now may branch c.temporaries.result.now c.temporaries.ensures (c.have_other.ensures.0 c.if-not-have_other.false);
      },
      λ well. c.are_within.ensures.1 (to_within d one.does c.deref-2.result.now may-2 branch (has c.in_ok-sure.sure.masks) sure well),
    )
