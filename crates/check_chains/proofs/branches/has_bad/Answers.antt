use Rattle.std.proofs.Common.{◌≤◌, length, map, arith}
use Rattle.std.proofs.lemmas.List.{length-map}
use Rattle.rtl_flat.specs.Flats.{flat}
use Rattle.check_chains.specs.Views.{guard_view}
use Rattle.check_chains.proofs.Bad.{all_good, more_good, one_bad, view_at}
use Rattle.check_chains.proofs.branches.has_bad.Goals as goal

pub is_reset_branch-requires-clause-lawful : goal.is_reset_branch-requires-clause-lawful
is_reset_branch-requires-clause-lawful c =
    let there = view_at guard_view c.args.resets.now c.loop-guard.guard-index c.guard-item.result c.loop-guard-test.true c.guard-item.is in
    c.requires.lawful c.loop-guard.guard-index (guard_view c.guard-item.result) there

pub returns-then-not-branch : goal.returns-then-not-branch
returns-then-not-branch c =
    let there = view_at guard_view c.args.resets.now c.loop-guard.guard-index c.guard-item.result c.loop-guard-test.true c.guard-item.is in
    λ does are.
    one_bad (flat c.args.design.now) (map guard_view c.args.resets.now) does c.loop-guard.guard-index (guard_view c.guard-item.result) there c.in_ok-is_reset_branch.field-0 c.if-not-branch.true (c.in_ok-is_reset_branch.ensures does are)

pub loop-guard-preserved : goal.loop-guard-preserved
loop-guard-preserved c =
    let there = view_at guard_view c.args.resets.now c.loop-guard.guard-index c.guard-item.result c.loop-guard-test.true c.guard-item.is in
    λ does are.
    more_good (flat c.args.design.now) (map guard_view c.args.resets.now) does c.loop-guard.guard-index (guard_view c.guard-item.result) there ((c.in_ok-is_reset_branch.ensures does are).0 c.if-not-branch.false) (c.loop-guard.invariant does are)

pub returns : goal.returns
returns c =
    let size = length-map c.args.resets.now guard_view in
    let past : length (map guard_view c.args.resets.now) ≤ c.loop-guard.guard-index
    = omega (arith, size, c.loop-guard-test.false) in
    λ does are.
    all_good (flat c.args.design.now) (map guard_view c.args.resets.now) does c.loop-guard.guard-index past (c.loop-guard.invariant does are)
