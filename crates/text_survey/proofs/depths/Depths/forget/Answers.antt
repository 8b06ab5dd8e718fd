use Rattle.std.proofs.Common.{rules}
use Rattle.text_survey.proofs.Profiles.{Behind, behind_some, behind_none, kept_forget, kept_forget_none}
use Rattle.text_survey.proofs.depths.Depths.forget.Goals as goal

pub returns-then-len-gt1 : goal.returns-then-len-gt1
returns-then-len-gt1 c s h =
    let gone : Behind c.args.self.now.places.items c.pop-place.new.self.items = search (rules, behind_some, behind_none) in
    search (rules, gone, h, kept_forget)

pub returns-else-len-gt1 : goal.returns-else-len-gt1
returns-else-len-gt1 c s h =
    let gone : Behind c.args.self.now.places.items c.pop-place.new.self.items = search (rules, behind_some, behind_none) in
    search (rules, gone, h, kept_forget_none)
