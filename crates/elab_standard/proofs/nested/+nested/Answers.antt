use Rattle.std.proofs.Common.{arith}
use Rattle.std.proofs.lemmas.Grind.{common_steps}
use Rattle.elab_standard.specs.Scopes.{scopes}
use Rattle.elab_standard.proofs.Views.{repeat_nested}
use Rattle.elab_standard.proofs.nested.+nested.Goals as goal

pub push_nested-returns-in-Repeat : goal.push_nested-returns-in-Repeat
push_nested-returns-in-Repeat t c =
    let told = repeat_nested c.args.home (scopes c.args.kept.now) _ c.in-Repeat.times c.in-Repeat.parts c.args.e.now c.in-Repeat.is in
    grind (arith, common_steps, told)
