use Rattle.std.proofs.Common.{◌≡◌, ◌∙◌, ◌+◌, ◌++◌, [], ◌∷◌, ◌<◌, ◌≤◌, ◌≢◌, Global, Vec, ap, arith, length, refl, subst, sym}
use Rattle.std.proofs.lemmas.List.{length-map}
use Rattle.elab_walk.specs.Trails.{placement}
use Rattle.elab_walk.specs.Visits.{scope_in}
use Rattle.elab_flat.specs.declared.works.Child.{Child}
use Rattle.elab_flat.specs.Held.{depth_of}
use Rattle.elab_flat.proofs.Keeping.{AreKeptTo, is_known, keep_end, keep_low, keep_own, keep_past}
use Rattle.elab_flat.proofs.works.children_under.Goals as goal
use Rattle.elab_flat.proofs.works.children_under.Goals.{then-deep-depth-2+in_ok-push, else-deep-depth-2}

pub returns-then-deep-depth : goal.returns-then-deep-depth
returns-then-deep-depth c =
    let d = depth_of (placement c.args.at.now) in
    let other = c.other-item.result in
    let own : d ≡ length c.args.at.now.visit.way.items = length-map _ _ in
    let its : depth_of (placement other) ≡ length other.visit.way.items = length-map _ _ in
    let low : depth_of (placement other) ≤ d = omega (arith, own, its, c.len-depth.ensures, c.len-deep.ensures, c.if-deep-depth.true) in
    keep_low d c.args.behind.now c.loop-other.other-index other c.loop-other.made.items c.loop-other-test.true c.other-item.is low c.loop-other.invariant

pub loop-other-preserved : goal.loop-other-preserved
loop-other-preserved c =
    let d = depth_of (placement c.args.at.now) in
    let other = c.other-item.result in
    let own : d ≡ length c.args.at.now.visit.way.items = length-map _ _ in
    let its : depth_of (placement other) ≡ length other.visit.way.items = length-map _ _ in
    elim c.if-deep-depth-2.branch [
      | then-deep-depth-2+in_ok-push w ↦
          let child : Child = record { base = other.base; names = w.names_of.result } in
          let made : c.if-deep-depth-2.made.items ≡ c.loop-other.made.items ++ child ∷ [] = ap (λ (v : Vec Child Global). v.items) w.made-is ∙ w.in_ok-push.ensures.items in
          let at : depth_of (placement other) ≡ d + 1 = omega (arith, own, its, c.len-depth.ensures, c.len-deep.ensures, w.if-deep-depth-2.true) in
          let known = is_known other.base w.names_of.result (scope_in (placement other).visit) w.names_of.ensures in
          subst (AreKeptTo d c.args.behind.now (c.loop-other.other-index + 1)) (sym made) (keep_own d c.args.behind.now c.loop-other.other-index other c.loop-other.made.items child c.loop-other-test.true c.other-item.is at refl known c.loop-other.invariant)
      | else-deep-depth-2 w ↦
          let deeper : d < depth_of (placement other) = omega (arith, own, its, c.len-depth.ensures, c.len-deep.ensures, c.if-deep-depth.false) in
          let isnt : depth_of (placement other) ≢ d + 1 = grind (arith, own, its, c.len-depth.ensures, c.len-deep.ensures, w.if-deep-depth-2.false) in
          let made : c.if-deep-depth-2.made.items ≡ c.loop-other.made.items = ap (λ (v : Vec Child Global). v.items) w.made-is in
          subst (AreKeptTo d c.args.behind.now (c.loop-other.other-index + 1)) (sym made) (keep_past d c.args.behind.now c.loop-other.other-index other c.loop-other.made.items c.loop-other-test.true c.other-item.is deeper isnt c.loop-other.invariant)
    ]

pub returns : goal.returns
returns c =
    let d = depth_of (placement c.args.at.now) in
    keep_end d c.args.behind.now c.loop-other.other-index c.loop-other.made.items (omega (arith, c.loop-other-test.false)) c.loop-other.invariant
