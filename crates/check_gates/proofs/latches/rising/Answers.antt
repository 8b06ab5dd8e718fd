use Rattle.std.proofs.Common.{◌∙◌, ◌++◌, ◌↔◌, ap, eqb, sym, subst}
use Rattle.std.proofs.lemmas.List.Filters.{dedup_is}
use Rattle.std.proofs.lemmas.Map.Keys.{IsStrictlyIncreasing-dedup}
use Rattle.std.specs.List.{dedup}
use Rattle.check_chains.specs.rtl_scan.Arrows.{Among, AreRising}
use Rattle.check_gates.proofs.Latched.{rising_each, rising_from}
use Rattle.check_gates.proofs.latches.rising.Goals as goal

pub returns-clause-rising : goal.returns-clause-rising
returns-clause-rising c =
    let xs = c.sort_unstable.new.self.items in
    let is = dedup_is eqb xs c.dedup.new.self.items c.dedup.ensures.filtered in
    subst AreRising (sym is) (rising_from _ (IsStrictlyIncreasing-dedup xs (λ k d from below. c.sort_unstable.ensures.sorted k d from below)))

pub returns-clause-each : goal.returns-clause-each
returns-clause-each c = λ k.
    let xs = c.sort_unstable.new.self.items in
    let is = dedup_is eqb xs c.dedup.new.self.items c.dedup.ensures.filtered in
    let all = c.in_ok-extend_from_slice.ensures.items ∙ ap (λ l. l ++ c.args.all.now) c.new-found.ensures.items in
    subst (λ l. Among l k ↔ Among c.args.all.now k) (sym is)
    (subst (λ l. Among (dedup eqb xs) k ↔ Among l k) all (rising_each c.extend_from_slice.new.self.items xs c.sort_unstable.ensures.permutation k))
