use Rattle.std.proofs.Common.{◌∙◌, List, map, ap, sym, subst}
use Rattle.std.specs.Prelude.{MatchOption}
use Rattle.rtl_flat.specs.declared.act.Act.{Act}
use Rattle.rtl_flat.specs.Process.{Actions, action, body_of}
use Rattle.check_gates.specs.Forms.{IsLone, IsNotLone}
use Rattle.check_gates.proofs.Ifs.{several_not_lone}
use Rattle.check_gates.proofs.lone.lone_if.Goals as goal

pub returns-in_err-only : goal.returns-in_err-only
returns-in_err-only c =
    rw (c.from_residual.ensures, ← c.opened.ensures) (several_not_lone c.opened.result.now (λ h. c.in_err-only.ensures h))

pub returns : goal.returns
returns c =
    subst (λ (all : Actions). MatchOption c.lone_of.result (IsNotLone all) (IsLone all))
    (sym (ap (λ (xs : List Act). body_of (map action xs)) c.in_ok-only.ensures) ∙ c.opened.ensures) c.lone_of.ensures
