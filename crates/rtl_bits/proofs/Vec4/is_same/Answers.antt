use Rattle.std.proofs.Common.{◌≡◌, rules}
use Rattle.rtl_bits.proofs.PlaneLemmas.{widths_from_same, vals_from_same, unks_from_same, same_from_planes}
use Rattle.rtl_bits.proofs.Vec4.is_same.Goals as goal
use Rattle.std.proofs.lemmas.Bool.{false≢true}

pub returns-then-self-o : goal.returns-then-self-o
returns-then-self-o c =
    (λ h. absurd (false≢true h), λ e. absurd (c.if-self-o.true (widths_from_same _ _ _ _ _ _ _ _ c.self.view_is c.o.view_is e)))

pub returns-then-self-o-2 : goal.returns-then-self-o-2
returns-then-self-o-2 c =
    (λ h. absurd (false≢true h), λ e. absurd (c.if-self-o-2.true (vals_from_same _ _ _ _ _ _ _ _ c.self.view_is c.o.view_is c.self.invariant c.o.invariant e)))

pub returns : goal.returns
returns c = (
  λ h. same_from_planes _ _ _ _ _ _ _ _ c.self.view_is c.o.view_is c.if-self-o.false c.if-self-o-2.false (search (rules, h)),
  λ e. let same : c.self.inside.unk ≡ c.o.inside.unk = unks_from_same _ _ _ _ _ _ _ _ c.self.view_is c.o.view_is c.self.invariant c.o.invariant e in search (rules, same),
)
