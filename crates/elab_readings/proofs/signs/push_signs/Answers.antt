use Rattle.std.proofs.Common.{◌≡◌, ◌∙◌, ◌++◌, [], ap, append-nil, arith, length, map, sym}
use Rattle.std.specs.List.{flat_map}
use Rattle.std.proofs.lemmas.Bool.Decides.{nat_tests}
use Rattle.rtl_tree.specs.TreeExpr.{identifier}
use Rattle.elab_uses.specs.elab_items.Declarations.{declaration}
use Rattle.elab_uses.specs.elab_items.Rosters.{listing}
use Rattle.elab_uses.specs.elab_scope.Names.{meanings}
use Rattle.elab_readings.specs.Signs.{signed_here}
use Rattle.elab_readings.proofs.Steps.{none_in}
use Rattle.elab_readings.proofs.Unsigned.{no_signs}
use Rattle.elab_readings.proofs.signs.push_signs.Goals as goal

pub returns-then-is_empty : goal.returns-then-is_empty
returns-then-is_empty c =
    let signed = c.in_ok-signed.signed in
    let few : length signed.items ≡ 0 = grind (arith, nat_tests, c.is_empty.ensures, c.if-is_empty.true, signed.ok) in
    let none : flat_map signed_here (map declaration c.args.entries.now) ≡ [] =
    sym c.in_ok-signed.ensures ∙ ap (map (λ name. identifier name.now)) (none_in signed.items few) in
    sym (append-nil c.args.made.now.items)
    ∙ ap (λ notes. c.args.made.now.items ++ notes) (sym (no_signs c.args.home c.args.base (meanings c.args.names.now) (map listing c.args.listings.now) (map declaration c.args.entries.now) none))
