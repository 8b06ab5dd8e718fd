use Rattle.std.proofs.Common.{◌∙◌, ◌++◌, ◌≤◌, ◌+◌, length, drop, sym, ap, subst, inl, inr, arith, append_assoc}
use Rattle.std.specs.Prelude.{◌⊎◌}
use Rattle.std.proofs.lemmas.List.{take_rest}
use Rattle.check_found.proofs.Merged.{IsMerging, merged_all, merging, take_left, take_right}
use Rattle.check_found.proofs.order.merged.Goals as goal
use Rattle.check_found.proofs.order.merged.Goals.{then-loop-i-test+else-j-other, else-loop-i-test}

pub loop-i-init : goal.loop-i-init
loop-i-init c = (
  omega arith,
  omega arith,
  λ a b is_a is_b.
      subst (λ all. IsMerging all c.args.one.now c.args.other.now c.args.one.now c.args.other.now) (sym c.in_ok-all.ensures.items)
      (merging c.args.one.now c.args.other.now a b is_a is_b),
)

pub loop-i-preserved-then-is_before : goal.loop-i-preserved-then-is_before
loop-i-preserved-then-is_before c = (
  c.loop-i.invariant.0,
  omega arith,
  λ a b is_a is_b.
      subst (λ all. IsMerging all (drop c.loop-i.i c.args.one.now) (drop (c.loop-i.j + 1) c.args.other.now) c.args.one.now c.args.other.now) (sym c.in_ok-push.ensures.items)
      (take_right c.args.one.now c.args.other.now c.loop-i.all.items c.loop-i.i c.loop-i.j _ _ (omega arith) (omega arith)
      (c.loop-i.invariant.2 a b is_a is_b) (sym c.is_before.ensures ∙ c.if-is_before.true)),
)

pub loop-i-preserved : goal.loop-i-preserved
loop-i-preserved c = (
  omega arith,
  c.loop-i.invariant.1,
  λ a b is_a is_b.
      subst (λ all. IsMerging all (drop (c.loop-i.i + 1) c.args.one.now) (drop c.loop-i.j c.args.other.now) c.args.one.now c.args.other.now) (sym c.in_ok-push-2.ensures.items)
      (take_left c.args.one.now c.args.other.now c.loop-i.all.items c.loop-i.i c.loop-i.j _ _ (omega arith) (omega arith)
      (c.loop-i.invariant.2 a b is_a is_b) (sym c.is_before.ensures ∙ c.if-is_before.false)),
)

pub returns : goal.returns
returns c = λ a b is_a is_b.
    let used : (length c.args.one.now ≤ c.loop-i.i) ⊎ (length c.args.other.now ≤ c.loop-i.j) =
    elim c.loop-i-test.branch [
      | then-loop-i-test+else-j-other w ↦ inr (omega arith)
      | else-loop-i-test w ↦ inl (omega arith)
    ] in
    c.in_ok-extend_from_slice-2.ensures.items
    ∙ ap (λ l. c.extend_from_slice.new.self.items ++ l) (take_rest c.args.other.now c.loop-i.j)
    ∙ ap (λ l. l ++ drop c.loop-i.j c.args.other.now) (c.in_ok-extend_from_slice.ensures.items ∙ ap (λ l. c.loop-i.all.items ++ l) (take_rest c.args.one.now c.loop-i.i))
    ∙ append_assoc c.loop-i.all.items (drop c.loop-i.i c.args.one.now) (drop c.loop-i.j c.args.other.now)
    ∙ merged_all c.loop-i.all.items c.args.one.now c.args.other.now a b c.loop-i.i c.loop-i.j (c.loop-i.invariant.2 a b is_a is_b) used is_a is_b
