use Rattle.std.proofs.Common.{◌∷◌, [], ◌++◌, ap, ◌∙◌}
use Rattle.std.specs.Prelude.{decimal}
use Rattle.demo_trials.proofs.Demos.{behind_both}
use Rattle.demo_trials.proofs.demo.behind_number.Goals as goal

pub returns-clause-malformed : goal.returns-clause-malformed
returns-clause-malformed c =
    behind_both c.behind-2.result c.args.text.now (decimal c.args.number) (32 ∷ []) c.in_ok-rest.rest.now
    (c.in_ok-rest.ensures ∙ ap (λ h. h ++ c.in_ok-rest.rest.now) (c.as_bytes.ensures.value ∙ c.format.ensures.text))
    c.behind-2.ensures
