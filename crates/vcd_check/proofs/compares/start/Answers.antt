use Rattle.std.proofs.Common.{◌≡◌, ◌∙◌, ◌<◌, ℕ, List, drop, length, ap, subst, sym}
use Rattle.std.specs.List.{slice_get}
use Rattle.std.proofs.Math.Numerals.{add-one}
use Rattle.vcd_signals.specs.Recording.{IsAt, sights_of}
use Rattle.vcd_signals.specs.Signals.{Sight}
use Rattle.vcd_check.specs.Checks.{watched_of}
use Rattle.vcd_check.specs.Departure.{from_start}
use Rattle.vcd_check.proofs.Going.{element, from_no, from_yes, same_on, same_sights, start_seen}
use Rattle.vcd_check.proofs.compares.start.Goals as goal

pub is_start-requires : goal.is_start-requires
is_start-requires c =
    let old = c.args.recorder.now in
    let now = c.loop-frame.recorder in
    let after = c.go_to.new.self in
    let k = c.loop-frame.frame in
    let inv = c.loop-frame.invariant in
    let inside : k < length (sights_of old) = subst (λ (m : ℕ). k < m) c.count-frame-end.ensures c.loop-frame-test.true in
    let found = element (sights_of old) k inside in
    let sight = found.0 in
    let there = found.1 in
    let at : IsAt after sight = c.go_to.ensures.at sight (ap (λ (l : List Sight). slice_get l k) (same_sights old now inv.same) ∙ there) in
    at.is_recorder

pub returns-then-is_start-clause-recorder : goal.returns-then-is_start-clause-recorder
returns-then-is_start-clause-recorder c =
    let old = c.args.recorder.now in
    let now = c.loop-frame.recorder in
    let after = c.go_to.new.self in
    let k = c.loop-frame.frame in
    let inv = c.loop-frame.invariant in
    let inside : k < length (sights_of old) = subst (λ (m : ℕ). k < m) c.count-frame-end.ensures c.loop-frame-test.true in
    let found = element (sights_of old) k inside in
    let sight = found.0 in
    let there = found.1 in
    let at : IsAt after sight = c.go_to.ensures.at sight (ap (λ (l : List Sight). slice_get l k) (same_sights old now inv.same) ∙ there) in
    at.is_recorder

pub returns-then-is_start-clause-start : goal.returns-then-is_start-clause-start
returns-then-is_start-clause-start c =
    let old = c.args.recorder.now in
    let now = c.loop-frame.recorder in
    let after = c.go_to.new.self in
    let k = c.loop-frame.frame in
    let inv = c.loop-frame.invariant in
    let inside : k < length (sights_of old) = subst (λ (m : ℕ). k < m) c.count-frame-end.ensures c.loop-frame-test.true in
    let found = element (sights_of old) k inside in
    let sight = found.0 in
    let there = found.1 in
    let at : IsAt after sight = c.go_to.ensures.at sight (ap (λ (l : List Sight). slice_get l k) (same_sights old now inv.same) ∙ there) in
    let watched = watched_of c.args.basis.now in
    let starts = start_seen watched after sight at ∙ sym c.is_start.ensures ∙ c.if-is_start.true in (
      inside,
      inv.from ∙ from_yes watched (sights_of old) k sight there starts,
      λ one is. c.go_to.ensures.at one (ap (λ (l : List Sight). slice_get l k) (same_sights old now inv.same) ∙ is),
      sym c.is_start.ensures ∙ c.if-is_start.true,
    )

pub loop-frame-preserved : goal.loop-frame-preserved
loop-frame-preserved c =
    let old = c.args.recorder.now in
    let now = c.loop-frame.recorder in
    let after = c.go_to.new.self in
    let k = c.loop-frame.frame in
    let inv = c.loop-frame.invariant in
    let inside : k < length (sights_of old) = subst (λ (m : ℕ). k < m) c.count-frame-end.ensures c.loop-frame-test.true in
    let found = element (sights_of old) k inside in
    let sight = found.0 in
    let there = found.1 in
    let at : IsAt after sight = c.go_to.ensures.at sight (ap (λ (l : List Sight). slice_get l k) (same_sights old now inv.same) ∙ there) in
    let watched = watched_of c.args.basis.now in
    let starts = start_seen watched after sight at ∙ sym c.is_start.ensures ∙ c.if-is_start.false in
    record {
      is_recorder = at.is_recorder;
      same = same_on old now after inv.same c.go_to.ensures.same;
      from = inv.from ∙ from_no watched (sights_of old) k sight there starts ∙ ap (λ (m : ℕ). from_start watched (drop m (sights_of old))) (sym (add-one k));
    }
