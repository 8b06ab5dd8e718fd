use Rattle.std.proofs.Common.{rules, ◌∙◌, ap, take}
use Rattle.text_survey.specs.Depths as spec
use Rattle.text_survey.proofs.Profiles.{kept_least, least_levels}
use Rattle.text_survey.proofs.depths.Depths.deeper.Goals as goal

pub returns : goal.returns
returns c s h =
    c.least.ensures ∙ ap (λ l. spec.least_of (take c.saturating_sub-levels.result l)) c.deref.ensures.value ∙ least_levels c.in_ok-profile.profile.items c.saturating_sub-levels.result c.args.limit (search rules)
    ∙ kept_least c.args.self.now.places.items c.args.self.now.profiles.items c.pop.new.self.items c.in_ok-profile.profile s c.args.limit c.in_ok-profile.ensures.items h
