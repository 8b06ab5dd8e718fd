use Rattle.std.proofs.Common.{rules, subst}
use Rattle.std.specs.List.Sorted.{IsPermutation}
use Rattle.std.proofs.lemmas.Fn.{always_returns_same}
use Rattle.agenda.specs.Agendas.{level_at}
use Rattle.agenda.specs.Rankings.{key_of}
use Rattle.agenda.proofs.Sorted.{ranking_is}
use Rattle.agenda.proofs.ranking.numbers_by_level.Goals as goal

pub returns : goal.returns
returns c =
    let levels = c.args.levels.now in
    let numbers = c.sort_by_key.new.self.items in
    ranking_is levels numbers
    (subst (λ old. IsPermutation old numbers) c.in_ok-numbers.ensures c.sort_by_key.ensures.permutation)
    (c.in_ok-sort_by_key.ensures.sorted (λ p. key_of (level_at levels p) p) (always_returns_same _ _ _ (λ a r q k. search rules)))
