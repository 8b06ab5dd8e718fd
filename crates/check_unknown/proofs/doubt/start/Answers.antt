use Rattle.std.proofs.Common.{◌≡◌, ◌∙◌, ◌&&◌, not, true, false, List, get_or, sym, ap}
use Rattle.std.proofs.lemmas.Bool.{and_parts, both_ways}
use Rattle.std.proofs.lemmas.Result.{on_ok_weaker}
use Rattle.rtl_flat.specs.Process.{Task, doing}
use Rattle.rtl_flat.specs.Flats.{flat}
use Rattle.check_chains.specs.rtl_scan.declared.bits.Row.{Row}
use Rattle.check_chains.specs.rtl_scan.Usage.{has_row_of}
use Rattle.check_unknown.specs.Spreading.{is_unset, starts, writes}
use Rattle.check_unknown.proofs.Processes.{same_task}
use Rattle.check_unknown.proofs.Spreading.{marks_as, marks_none, writes_are}
use Rattle.check_unknown.proofs.doubt.start.Goals as goal

pub returns-then-not-unset : goal.returns-then-not-unset
returns-then-not-unset c = λ other there.
    let d = flat c.args.scans.now.design.now in
    let temporaries = c.args.temporaries.now in
    let latch = get_or c.args.gated.now c.args.p.0 false in
    let same = same_task c.args.scans.now.design.now.processes.items c.args.p.0 c.index.result.now c.requires.there c.index.ensures other there in
    let unset : is_unset d latch other.does ≡ false
    = ap (λ (t : Task). is_unset d latch t.does) (sym same) ∙ ap (λ b. is_unset d b (doing c.index.result.now.does)) (sym c.is_latch.ensures) ∙ sym c.in_ok-unset.ensures ∙ c.if-not-unset.true in
    marks_none (starts d temporaries latch other) c.args.spread.now
    (λ s inside h. absurd (both_ways (is_unset d latch other.does) unset (and_parts (is_unset d latch other.does) (writes d other s && not (get_or temporaries s false)) h).0))

pub returns : goal.returns
returns c =
    let d = flat c.args.scans.now.design.now in
    let one = c.index.result.now in
    let temporaries = c.args.temporaries.now in
    let latch = get_or c.args.gated.now c.args.p.0 false in
    let rows = c.deref.result.now in
    on_ok_weaker c.mark_kept.result
    (λ h. λ other there.
    let same = same_task c.args.scans.now.design.now.processes.items c.args.p.0 one c.requires.there c.index.ensures other there in
    let unset : is_unset d latch other.does ≡ true
    = ap (λ (t : Task). is_unset d latch t.does) (sym same) ∙ ap (λ b. is_unset d b (doing one.does)) (sym c.is_latch.ensures) ∙ sym c.in_ok-unset.ensures ∙ c.if-not-unset.false in
    marks_as (λ s. has_row_of rows s && not (get_or temporaries s false)) (starts d temporaries latch other) c.args.spread.now c.mark_kept.new.self
    (λ s.
    ap (λ b. b && (writes d other s && not (get_or temporaries s false))) unset
    ∙ ap (λ b. b && not (get_or temporaries s false)) (writes_are d other c.written.result.now.rows.items (c.written.ensures.bits other there) c.written.ensures.order s ∙ ap (λ (rs : List Row). has_row_of rs s) (sym c.deref.ensures.value)))
    h)
    c.mark_kept.ensures
