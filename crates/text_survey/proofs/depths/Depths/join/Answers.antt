use Rattle.std.proofs.Common.{◌∙◌, ◌++◌, ◌∷◌, [], ap}
use Rattle.text_survey.proofs.Profiles.{kept_join}
use Rattle.text_survey.proofs.depths.Depths.join.Goals as goal

pub returns : goal.returns
returns c s h =
    rw (ap (λ v. v.items) c.merged.ensures.places)
    (kept_join c.args.self.now.places.items c.args.self.now.profiles.items c.pop.new.self.items c.pop-2.new.self.items c.push-2.new.self.items c.in-Some.last c.in-Some-pop.other c.in_ok-joined.joined s
    c.in-Some.ensures.items c.in-Some-pop.ensures.items c.in_ok-joined.ensures.merged (c.in_ok-push-2.ensures.items ∙ ap (λ v. v.items ++ c.in_ok-joined.joined ∷ []) c.merged.ensures.profiles) h)
