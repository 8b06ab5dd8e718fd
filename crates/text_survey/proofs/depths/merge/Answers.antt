use Rattle.std.proofs.Common.{rules, ◌≡◌, reverse, length, [], ◌∷◌, ◌++◌, sym, ap, ◌∙◌, arith}
use Rattle.std.proofs.lemmas.List.{length-append}
use Rattle.text_survey.specs.Depths as spec
use Rattle.text_survey.proofs.Profiles.{merge_start, merge_turn, merge_done, back_turn, no_less}
use Rattle.text_survey.proofs.depths.merge.Goals as goal
use Rattle.text_survey.proofs.depths.merge.Goals.{then-len, else-len}

pub loop-place-init : goal.loop-place-init
loop-place-init c =
    elim c.if-len.branch [
      | then-len w ↦ (merge_start c.args.a.items c.args.b.items c.if-len.deeper.0.items c.if-len.deeper.1.items c.clear.new.self.items (search rules) (search rules) (search rules), search rules)
      | else-len w ↦ (search rules, search rules)
    ]

pub loop-place-smaller-in-Continue-1 : goal.loop-place-smaller-in-Continue-1
loop-place-smaller-in-Continue-1 c = omega (arith, ap length c.in-Some.ensures.items, length-append c.pop.new.self.items (c.in-Some.place ∷ []))

pub loop-place-preserved-in-Continue-1 : goal.loop-place-preserved-in-Continue-1
loop-place-preserved-in-Continue-1 c = (
  ap (λ t. t ++ spec.merged (reverse c.pop-in-Some.new.self.items) (reverse c.pop.new.self.items)) (c.in_ok-push.ensures.items ∙ ap (λ n. c.loop-place.both.items ++ n ∷ []) c.min.ensures)
      ∙ merge_turn c.loop-place.both.items c.loop-place.deeper.items c.loop-place.other.items c.pop-in-Some.new.self.items c.pop.new.self.items _ c.in-Some-pop.at c.in-Some.place c.in-Some-pop.ensures.items c.in-Some.ensures.items c.loop-place.invariant.0,
  omega (arith, c.loop-place.invariant.1, ap length c.in-Some.ensures.items, length-append c.pop.new.self.items (c.in-Some.place ∷ []), ap length c.in-Some-pop.ensures.items, length-append c.pop-in-Some.new.self.items (c.in-Some-pop.at ∷ [])),
)

pub loop-place-smaller : goal.loop-place-smaller
loop-place-smaller c = omega (arith, ap length c.in-Some.ensures.items, length-append c.pop.new.self.items (c.in-Some.place ∷ []))

pub loop-place-preserved : goal.loop-place-preserved
loop-place-preserved c =
    absurd (no_less c.loop-place.deeper.items c.loop-place.other.items c.pop.new.self.items c.in-Some.place (search rules) c.in-Some.ensures.items c.loop-place.invariant.1)

pub loop-place-2-init : goal.loop-place-2-init
loop-place-2-init c = merge_done c.loop-place.both.items c.loop-place.deeper.items c.loop-place.other.items _ (search rules) c.loop-place.invariant.0

pub loop-place-2-smaller : goal.loop-place-2-smaller
loop-place-2-smaller c = omega (arith, ap length c.in-Some-pop-2.ensures.items, length-append c.pop-in-loop-place-2.new.self.items (c.in-Some-pop-2.place ∷ []))

pub loop-place-2-preserved : goal.loop-place-2-preserved
loop-place-2-preserved c =
    ap (λ d. c.pop-in-loop-place-2.new.self.items ++ reverse d) c.in_ok-push-2.ensures.items
    ∙ back_turn c.loop-place-2.both.items c.pop-in-loop-place-2.new.self.items c.loop-place-2.deeper.items _ c.in-Some-pop-2.place c.in-Some-pop-2.ensures.items c.loop-place-2.invariant

pub returns : goal.returns
returns c =
    let none : c.loop-place-2.both.items ≡ [] = search rules in
    ap (λ t. t ++ reverse c.loop-place-2.deeper.items) (sym none) ∙ c.loop-place-2.invariant
