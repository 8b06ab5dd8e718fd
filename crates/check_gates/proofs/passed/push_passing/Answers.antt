use Rattle.rtl_flat.specs.Flats.{flat}
use Rattle.check_gates.proofs.Waiting.{gets_none, gets_one}
use Rattle.check_gates.proofs.Linked.{none_of}
use Rattle.check_gates.proofs.passed.push_passing.Goals as goal

pub returns-in_ok-push : goal.returns-in_ok-push
returns-in_ok-push c = λ task there.
    gets_one (flat c.args.scans.now.design.now) task _ c.in-Some.link c.args.links.now.items c.push.new.self.items (c.passing_link.ensures task there) c.in-Some.is c.in_ok-push.ensures.items

pub returns-in_default : goal.returns-in_default
returns-in_default c = λ task there.
    gets_none (flat c.args.scans.now.design.now) task _ c.args.links.now.items (c.passing_link.ensures task there) (none_of _ (λ link is. c.in_default.not-Some link is))
