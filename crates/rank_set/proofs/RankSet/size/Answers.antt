use Rattle.std.proofs.Common.{ap, length, sym, ◌∙◌}
use Rattle.rank_set.proofs.Views.{length-flags_of}
use Rattle.rank_set.proofs.RankSet.size.Goals as goal

pub returns : goal.returns
returns c = sym (length-flags_of c.self.inside.words.items c.self.inside.size) ∙ ap length c.self.view_is
