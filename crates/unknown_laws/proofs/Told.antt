-- Where X4, U1 and U2 have no finding in the list of all findings, they have none.
use Rattle.std.proofs.Common.{◌≡◌, Bool, true, false, List, [], ◌∷◌, ◌++◌, map, refl, subst}
use Rattle.std.specs.Prelude.{if◌then◌else◌}
use Rattle.std.proofs.lemmas.Bool.{both_ways}
use Rattle.rtl_flat.specs.Flats.{Parts}
use Rattle.rtl_rule.specs.declared.finding.Finding.{Finding}
use Rattle.rtl_rule.specs.declared.rule.Rule.TheVariants as rule
use Rattle.rtl_rule.specs.Order.{comes_before, placed, ranked}
use Rattle.rtl_rule.specs.Sites.{AreFindings, AreThose}
use Rattle.rtl_rule.proofs.Lists.{Each, each_false, each_left, each_right}
use Rattle.check_unknown.specs.Unknowns.{IsCaseEquality, IsDoubtfulChoice, at_choice, at_node}
use Rattle.unknown_laws.specs.Doubt.{FreeTellsNone}

module _ (P : Finding → Type 0) where
  -- what holds of each finding in order holds of each
  each_placed : (finding : Finding) (all : List Finding) → Each P (placed finding all) → P finding × Each P all
  each_placed finding [] h = (h.0, tt)
  each_placed finding (first ∷ all) h =
      by_order (comes_before first finding) (λ k. each_placed finding all k) h
    where
      by_order : (b : Bool) → (Each P (placed finding all) → P finding × Each P all) → Each P (if b then first ∷ placed finding all else finding ∷ first ∷ all) → P finding × Each P (first ∷ all)
      by_order true more h' = let rest = more h'.1 in (rest.0, (h'.0, rest.1))
      by_order false more h' = (h'.0, h'.1)

  each_ranked : (all : List Finding) → Each P (ranked all) → Each P all
  each_ranked [] h = tt
  each_ranked (first ∷ all) h =
      let rest = each_placed first (ranked all) h in (rest.0, each_ranked all rest.1)

  unranked : (findings all : List Finding) → findings ≡ ranked all → Each P findings → Each P all
  unranked findings all is h = each_ranked all (subst (Each P) is h)

  -- a rule all of whose findings are refuted has none
  none_of : {A : Type 0} (Breaks : A → Type 0) (finding_at : A → Finding) (sites : List A) (findings : List Finding) → ((site : A) → P (finding_at site) → ⊥) → AreFindings Breaks finding_at sites findings → Each P findings → AreFindings Breaks finding_at sites []
  none_of Breaks finding_at sites findings refutes are h =
      by_broken are.broken are.those (subst (Each P) are.shown h)
    where
      by_broken : (broken : List _) → AreThose Breaks sites broken → Each P (map finding_at broken) → AreFindings Breaks finding_at sites []
      by_broken [] those h' = record { broken = []; those = those; shown = refl }
      by_broken (one ∷ others) those h' = absurd (refutes one h'.0)

pub free_tells_none : (d : Parts) → FreeTellsNone d
free_tells_none d among x4 u1 u2 findings are free =
    let P = λ (one : Finding). among one.rule ≡ true → ⊥ in
    let each = each_false (λ (one : Finding). among one.rule) findings (λ is. both_ways _ free is) in
    let before = are.sense ++ are.assigned ++ are.clocked ++ are.reset ++ are.cases in
    let all = unranked P findings (before ++ are.unknown ++ are.readings) are.in_order each in
    let own = each_right P before are.unknown (each_left P (before ++ are.unknown) are.readings all) in
    let of = are.are_unknown in
    let known = of.literal ++ of.range ++ of.divide in
    let parts = unranked P are.unknown (of.literal ++ of.range ++ of.divide ++ of.equality ++ of.delay ++ of.initial ++ of.region ++ of.optimism ++ of.wild) of.in_order own in
    let to_optimism = each_left P (known ++ of.equality ++ of.delay ++ of.initial ++ of.region ++ of.optimism) of.wild parts in
    let to_region = each_left P (known ++ of.equality ++ of.delay ++ of.initial ++ of.region) of.optimism to_optimism in
    let to_initial = each_left P (known ++ of.equality ++ of.delay ++ of.initial) of.region to_region in
    let to_delay = each_left P (known ++ of.equality ++ of.delay) of.initial to_initial in
    let to_equality = each_left P (known ++ of.equality) of.delay to_delay in
    record {
      x4 = none_of P IsCaseEquality (at_node rule.CaseEquality d.flat) _ of.equality (λ site h. h x4) of.are_equality (each_right P known of.equality to_equality);
      u1 = none_of P (IsDoubtfulChoice d.flat) (at_choice rule.XOptimism d.flat) _ of.optimism (λ site h. h u1) of.are_optimism (each_right P (known ++ of.equality ++ of.delay ++ of.initial ++ of.region) of.optimism to_optimism);
      u2 = none_of P (IsDoubtfulChoice d.flat) (at_choice rule.WildSelector d.flat) _ of.wild (λ site h. h u2) of.are_wild (each_right P (known ++ of.equality ++ of.delay ++ of.initial ++ of.region ++ of.optimism) of.wild parts);
    }
