use Rattle.std.specs.Borrow.{Bor}
use Rattle.std.proofs.Common.{◌∙◌, ◌≤◌, ℕ, length, map, sym, ap, arith}
use Rattle.std.proofs.lemmas.Bool.{false≢true}
use Rattle.std.proofs.lemmas.List.{length-map}
use Rattle.rtl_flat.specs.declared.act.Act.{Act}
use Rattle.rtl_flat.specs.Process.{action, body_of}
use Rattle.rtl_rule.specs.Parts.{all_of}
use Rattle.rtl_flat.specs.Flats.{flat}
use Rattle.check_chains.specs.Chains.{resets_to}
use Rattle.check_chains.proofs.Bad.{statement_at, was_new, was_there}
use Rattle.check_chains.proofs.Formed.{formed_at}
use Rattle.check_chains.proofs.Given.{all_given, gives_again, gives_none, gives_other, more_given, none_given}
use Rattle.check_chains.proofs.branches.is_reset_branch.Goals as goal

pub loop-one-init : goal.loop-one-init
loop-one-init c =
    none_given (flat c.args.design.now) (all_of (body_of (map action c.args.branch.now))) c.args.registers.now c.new-seen.result c.new-seen.ensures.empty

pub reset_of-requires-clause-lawful : goal.reset_of-requires-clause-lawful
reset_of-requires-clause-lawful c =
    let statements = all_of (body_of (map action c.args.branch.now)) in
    let there = statement_at statements c.in_ok-statements.statements.items c.deref-one-items.result.now c.deref-one-items.ensures.value c.in_ok-statements.ensures c.loop-one.one-index c.one-item.result c.loop-one-test.true c.one-item.is in
    formed_at c.args.design.now.signals.items (body_of (map action c.args.branch.now)) c.requires.lawful c.loop-one.one-index (action c.one-item.result.now) there

pub returns-in_default : goal.returns-in_default
returns-in_default c =
    let statements = all_of (body_of (map action c.args.branch.now)) in
    let there = statement_at statements c.in_ok-statements.statements.items c.deref-one-items.result.now c.deref-one-items.ensures.value c.in_ok-statements.ensures c.loop-one.one-index c.one-item.result c.loop-one-test.true c.one-item.is in
    let none : (s : ℕ) → resets_to (flat c.args.design.now) s (action c.one-item.result.now) → ⊥
    = rw c.in_default.is at c.in_ok-signal.ensures in
    λ does are. (
      λ h. absurd (false≢true h),
      λ good. absurd (gives_none (flat c.args.design.now) statements c.args.registers.now c.loop-one.one-index c.loop-one.seen c.loop-one.invariant (action c.one-item.result.now) there does are none good),
    )

pub returns-then-not-contains : goal.returns-then-not-contains
returns-then-not-contains c =
    let statements = all_of (body_of (map action c.args.branch.now)) in
    let there = statement_at statements c.in_ok-statements.statements.items c.deref-one-items.result.now c.deref-one-items.ensures.value c.in_ok-statements.ensures c.loop-one.one-index c.one-item.result c.loop-one-test.true c.one-item.is in
    let resets : resets_to (flat c.args.design.now) c.in-Some.signal.0 (action c.one-item.result.now)
    = rw c.in-Some.is at c.in_ok-signal.ensures in
    λ does are. (
      λ h. absurd (false≢true h),
      λ good. absurd (gives_other (flat c.args.design.now) statements c.args.registers.now c.loop-one.one-index c.loop-one.seen c.loop-one.invariant (action c.one-item.result.now) there does are c.in-Some.signal.0 resets (sym c.contains.ensures ∙ c.if-not-contains.true) good),
    )

pub returns-then-not-branch : goal.returns-then-not-branch
returns-then-not-branch c =
    let statements = all_of (body_of (map action c.args.branch.now)) in
    let there = statement_at statements c.in_ok-statements.statements.items c.deref-one-items.result.now c.deref-one-items.ensures.value c.in_ok-statements.ensures c.loop-one.one-index c.one-item.result c.loop-one-test.true c.one-item.is in
    let resets : resets_to (flat c.args.design.now) c.in-Some.signal.0 (action c.one-item.result.now)
    = rw c.in-Some.is at c.in_ok-signal.ensures in
    λ does are. (
      λ h. absurd (false≢true h),
      λ good. absurd (gives_again (flat c.args.design.now) statements c.args.registers.now c.loop-one.one-index c.loop-one.seen c.loop-one.invariant (action c.one-item.result.now) there does are c.in-Some.signal.0 resets (was_there _ _ c.in_ok-add.ensures.new c.if-not-branch.true) good),
    )

pub loop-one-preserved : goal.loop-one-preserved
loop-one-preserved c =
    let statements = all_of (body_of (map action c.args.branch.now)) in
    let there = statement_at statements c.in_ok-statements.statements.items c.deref-one-items.result.now c.deref-one-items.ensures.value c.in_ok-statements.ensures c.loop-one.one-index c.one-item.result c.loop-one-test.true c.one-item.is in
    let resets : resets_to (flat c.args.design.now) c.in-Some.signal.0 (action c.one-item.result.now)
    = rw c.in-Some.is at c.in_ok-signal.ensures in
    more_given (flat c.args.design.now) statements c.args.registers.now c.loop-one.one-index c.loop-one.seen c.loop-one.invariant (action c.one-item.result.now) there c.in-Some.signal.0 resets (sym c.contains.ensures ∙ c.if-not-contains.false) (was_new _ _ c.in_ok-add.ensures.new c.if-not-branch.false) c.add.new.found (λ q. c.in_ok-add.ensures.added q)

pub returns : goal.returns
returns c =
    let statements = all_of (body_of (map action c.args.branch.now)) in
    let count = ap length c.in_ok-statements.ensures in
    let size = length-map c.in_ok-statements.statements.items (λ (one : Bor Act). action one.now) in
    let viewed = ap length c.deref-one-items.ensures.value in
    let past : length statements ≤ c.loop-one.one-index
    = omega (arith, count, size, viewed, c.loop-one-test.false) in
    all_given (flat c.args.design.now) statements c.args.registers.now c.loop-one.one-index c.loop-one.seen past c.loop-one.invariant c.is_subset.result c.is_subset.ensures
