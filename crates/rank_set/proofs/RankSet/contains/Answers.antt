use Rattle.std.proofs.Common.{ap, sym, ◌∙◌, false, arith}
use Rattle.std.proofs.lemmas.Bool.{le-ltb}
use Rattle.std.proofs.lemmas.List.{get_or_past}
use Rattle.rank_set.specs.Ranks.{flag}
use Rattle.rank_set.specs.Words.{has, flags_of}
use Rattle.rank_set.proofs.Views.{flag_within, length-flags_of}
use Rattle.rank_set.proofs.RankSet.contains.Goals as goal

pub returns-then-rank-self : goal.returns-then-rank-self
returns-then-rank-self c =
    c.has_bit.ensures
    ∙ ap (λ words. has words c.args.rank) c.deref.ensures.value
    ∙ sym (flag_within c.self.inside.words.items c.self.inside.size c.args.rank c.if-rank-self.true)
    ∙ ap (λ flags. flag flags c.args.rank) c.self.view_is

pub returns-else-rank-self : goal.returns-else-rank-self
returns-else-rank-self c =
    let flags = flags_of c.self.inside.words.items c.self.inside.size in
    le-ltb c.args.rank c.self.inside.size c.if-rank-self.false
    ∙ sym (get_or_past flags c.args.rank false (let e = length-flags_of c.self.inside.words.items c.self.inside.size in omega arith))
    ∙ ap (λ flags. flag flags c.args.rank) c.self.view_is
