use Rattle.std.proofs.Common.{refl, inl, inr}
use Rattle.infer_regs.proofs.Judging.{derived, level, refuted, shape, turned}
use Rattle.infer_regs.proofs.broken.first_broken.Goals as goal

pub returns-then-has_derived : goal.returns-then-has_derived
returns-then-has_derived c = λ t there.
    let design = c.args.design.now in
    let p = c.args.p.0 in
    let x = c.index.result.now in
    let items = c.events_of-events.result.now in
    let s3 = level design p x c.requires.there c.index.ensures t there items c.events_of-events.ensures c.has_level.result c.has_level.ensures in
    let a7 = derived design p x c.requires.there c.index.ensures t there _ _ _ _ c.requires.facts c.requires.waits items c.events_of-events.ensures c.has_derived.result c.has_derived.ensures in
    inr (refuted _ s3 c.if-has_level.false, inl (a7.0 c.if-has_derived.true, refl))

pub returns-then-branch : goal.returns-then-branch
returns-then-branch c = λ t there.
    let design = c.args.design.now in
    let p = c.args.p.0 in
    let x = c.index.result.now in
    let items = c.events_of-events.result.now in
    let s3 = level design p x c.requires.there c.index.ensures t there items c.events_of-events.ensures c.has_level.result c.has_level.ensures in
    let a7 = derived design p x c.requires.there c.index.ensures t there _ _ _ _ c.requires.facts c.requires.waits items c.events_of-events.ensures c.has_derived.result c.has_derived.ensures in
    let r1 = shape design p x c.requires.there c.index.ensures t there c.in_ok-is_shapeless.field-0 c.in_ok-is_shapeless.ensures in
    inr (refuted _ s3 c.if-has_level.false, inr (refuted _ a7 c.if-has_derived.false, inl (r1.0 c.if-branch.true, refl)))

pub returns-then-branch-2 : goal.returns-then-branch-2
returns-then-branch-2 c = λ t there.
    let design = c.args.design.now in
    let p = c.args.p.0 in
    let x = c.index.result.now in
    let items = c.events_of-events.result.now in
    let s3 = level design p x c.requires.there c.index.ensures t there items c.events_of-events.ensures c.has_level.result c.has_level.ensures in
    let a7 = derived design p x c.requires.there c.index.ensures t there _ _ _ _ c.requires.facts c.requires.waits items c.events_of-events.ensures c.has_derived.result c.has_derived.ensures in
    let r1 = shape design p x c.requires.there c.index.ensures t there c.in_ok-is_shapeless.field-0 c.in_ok-is_shapeless.ensures in
    let r2 = turned design p x c.requires.there c.index.ensures t there c.in_ok-has_turned.field-0 c.in_ok-has_turned.ensures in
    inr (refuted _ s3 c.if-has_level.false, inr (refuted _ a7 c.if-has_derived.false, inr (refuted _ r1 c.if-branch.false, inl (r2.0 c.if-branch-2.true, refl))))

pub returns-then-branch-3 : goal.returns-then-branch-3
returns-then-branch-3 c = λ t there.
    let design = c.args.design.now in
    let p = c.args.p.0 in
    let x = c.index.result.now in
    let items = c.events_of-events.result.now in
    let s3 = level design p x c.requires.there c.index.ensures t there items c.events_of-events.ensures c.has_level.result c.has_level.ensures in
    let a7 = derived design p x c.requires.there c.index.ensures t there _ _ _ _ c.requires.facts c.requires.waits items c.events_of-events.ensures c.has_derived.result c.has_derived.ensures in
    let r1 = shape design p x c.requires.there c.index.ensures t there c.in_ok-is_shapeless.field-0 c.in_ok-is_shapeless.ensures in
    let r2 = turned design p x c.requires.there c.index.ensures t there c.in_ok-has_turned.field-0 c.in_ok-has_turned.ensures in
    inr (refuted _ s3 c.if-has_level.false, inr (refuted _ a7 c.if-has_derived.false, inr (refuted _ r1 c.if-branch.false, inr (refuted _ r2 c.if-branch-2.false, inl ((c.in_ok-has_bad_reset.ensures t there).0 c.if-branch-3.true, refl)))))

pub returns : goal.returns
returns c = λ t there.
    let design = c.args.design.now in
    let p = c.args.p.0 in
    let x = c.index.result.now in
    let items = c.events_of-events.result.now in
    let s3 = level design p x c.requires.there c.index.ensures t there items c.events_of-events.ensures c.has_level.result c.has_level.ensures in
    let a7 = derived design p x c.requires.there c.index.ensures t there _ _ _ _ c.requires.facts c.requires.waits items c.events_of-events.ensures c.has_derived.result c.has_derived.ensures in
    let r1 = shape design p x c.requires.there c.index.ensures t there c.in_ok-is_shapeless.field-0 c.in_ok-is_shapeless.ensures in
    let r2 = turned design p x c.requires.there c.index.ensures t there c.in_ok-has_turned.field-0 c.in_ok-has_turned.ensures in
    (refuted _ s3 c.if-has_level.false, (refuted _ a7 c.if-has_derived.false, (refuted _ r1 c.if-branch.false, (refuted _ r2 c.if-branch-2.false, (refuted _ (c.in_ok-has_bad_reset.ensures t there) c.if-branch-3.false, tt)))))
