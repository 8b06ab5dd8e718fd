use Rattle.std.proofs.Common.{rules}
use Rattle.std.proofs.lemmas.List.Sorted.{answers_always}
use Rattle.rtl_rule.specs.Order.{rank_of}
use Rattle.check_found.proofs.Ordered.{sorted_ranked}
use Rattle.check_found.proofs.order.ranked.Goals as goal

pub returns : goal.returns
returns c =
    sorted_ranked c.args.findings.items c.sort_by_key.new.self.items c.sort_by_key.ensures.permutation
    (c.in_ok-sort_by_key.ensures.sorted rank_of (answers_always _ _ _ (λ f a r g h. search rules)))
