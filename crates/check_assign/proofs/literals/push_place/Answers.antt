use Rattle.std.proofs.Common.{◌≡◌, ◌∙◌, ◌++◌, true, false, append-nil, sym, ap}
use Rattle.rtl_flat.specs.Expression.{tree}
use Rattle.rtl_rule.specs.Parts.{is_literal_with, is_z}
use Rattle.check_assign.proofs.Zeds.{z_none, z_some}
use Rattle.check_assign.proofs.literals.push_place.Goals as goal

pub returns-then-not-is_z_literal : goal.returns-then-not-is_z_literal
returns-then-not-is_z_literal c = λ otherwise.
    let old = c.args.spots.now.items in
    let none : is_literal_with is_z (tree c.args.e.now) ≡ false = cc in
    sym (ap (λ zs. old ++ zs) (z_none otherwise (tree c.args.e.now) none) ∙ append-nil old)

pub returns : goal.returns
returns c = λ otherwise.
    let old = c.args.spots.now.items in
    let some : is_literal_with is_z (tree c.args.e.now) ≡ true = cc in
    c.in_ok-push.ensures.items ∙ sym (ap (λ zs. old ++ zs) (z_some otherwise (tree c.args.e.now) some))
