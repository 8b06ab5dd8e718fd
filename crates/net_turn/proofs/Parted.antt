-- The parts of a body that is a chain.
use Rattle.std.proofs.Common.{◌≡◌, ◌≤◌, ℕ, zero, suc, List, [], ◌∷◌, refl, sym, ap, subst, inl, inr, arith}
use Rattle.std.specs.List.{slice_get}
use Rattle.std.specs.Option.{IsSomeAnd}
use Rattle.rtl_flat.specs.Flows.{body_flow}
use Rattle.rtl_flat.specs.Paths.{MayWrite, may_write_bit}
use Rattle.rtl_flat.specs.Process.{Set, If, Case, Block, Actions, Done, Then, With}
use Rattle.rtl_flat.specs.WellFormed.{IsBody}
use Rattle.rtl_flat.proofs.Paths.{decided}
use Rattle.rtl_flat.specs.Flats.{Flat}
use Rattle.net_model.specs.Cycle.{Chain, Guard, IsChained, opened}
use Rattle.net_settle.proofs.net_laws_proofs.Parts.{Gives, other_gives, taken_gives}
use Rattle.net_list.proofs.chain_laws_proofs.Branches.{IsLawfulGuard, chain_lawful}
use Rattle.rtl_rule.proofs.Lists.{Each}
use Rattle.net_settle.specs.net_body.Levels.{levels_of}
use Rattle.net_turn.specs.Runs.{IsPartOf}

each_at : (P : Guard → Type 0) (xs : List Guard) (k : ℕ) (body : Actions) (Q : Actions → Type 0) → ((x : Guard) → P x → Q x.branch) → Each P xs → IsSomeAnd (slice_get xs k) (λ x. x.branch ≡ body) → Q body
each_at P [] k body Q use' h is = absurd is
each_at P (x ∷ xs) zero body Q use' h is = subst Q is (use' x h.0)
each_at P (x ∷ xs) (suc k) body Q use' h is = each_at P xs k body Q use' h.1 is

-- ---- what parts may write

opened_flow : (ws : ℕ → ℕ) (body : Actions) → body_flow ws (opened body) ≡ body_flow ws body
opened_flow ws Done = refl
opened_flow ws (Then (Set target e delayed spot) others) = refl
opened_flow ws (Then (If test taken other spot) others) = refl
opened_flow ws (Then (Case kind full parallel selector branches fallback spot) others) = refl
opened_flow ws (Then (Block body) Done) = opened_flow ws body
opened_flow ws (Then (Block body) (Then one others)) = refl

chain_gives : (ws : ℕ → ℕ) (Q : ℕ → ℕ → Type 0) (resets : List Guard) (part body : Actions) → IsChained resets part body → Gives may_write_bit Q (body_flow ws body) → Each (λ (guard : Guard). Gives may_write_bit Q (body_flow ws guard.branch)) resets × Gives may_write_bit Q (body_flow ws part)
chain_gives ws Q [] part body chained gives = (tt, subst (λ b. Gives may_write_bit Q (body_flow ws b)) chained gives)
chain_gives ws Q (guard ∷ others) part body (other, spot, is, rest) gives =
    let own : Gives may_write_bit Q (body_flow ws (Then (If guard.test guard.branch (With other) spot) Done))
    = subst (λ b. Gives may_write_bit Q (body_flow ws b)) is (subst (λ flow. Gives may_write_bit Q flow) (sym (opened_flow ws body)) gives) in
    let more = chain_gives ws Q others part other rest (other_gives ws may_write_bit Q guard.test guard.branch (With other) spot own) in
    ((taken_gives ws may_write_bit Q guard.test guard.branch (With other) spot own, more.0), more.1)

pub part_may : (ws : ℕ → ℕ) (chain : Chain) (body : Actions) → IsChained chain.resets chain.part body → (part : Actions) → IsPartOf chain part → (i k : ℕ) → MayWrite (body_flow ws part) i k → MayWrite (body_flow ws body) i k
part_may ws chain body chained part (inl is) i k may =
    let gives = (chain_gives ws (MayWrite (body_flow ws body)) chain.resets chain.part body chained (λ j l h. (decided (body_flow ws body) j l).writes.0 h)).1 in
    gives i k ((decided (body_flow ws chain.part) i k).writes.1 (subst (λ b. MayWrite (body_flow ws b) i k) is may))
part_may ws chain body chained part (inr (k', there)) i k may =
    let all = (chain_gives ws (MayWrite (body_flow ws body)) chain.resets chain.part body chained (λ j l h. (decided (body_flow ws body) j l).writes.0 h)).0 in
    each_at (λ (guard : Guard). Gives may_write_bit (MayWrite (body_flow ws body)) (body_flow ws guard.branch)) chain.resets k' part
    (λ b. Gives may_write_bit (MayWrite (body_flow ws body)) (body_flow ws b)) (λ x h. h) all there i k ((decided (body_flow ws part) i k).writes.1 may)

-- ---- they are lawful

pub part_lawful : (d : Flat) (chain : Chain) (body : Actions) → IsChained chain.resets chain.part body → IsBody d.signals body → (part : Actions) → IsPartOf chain part → IsBody d.signals part
part_lawful d chain body chained lawful part (inl is) =
    subst (IsBody d.signals) (sym is) (chain_lawful d.signals chain.resets chain.part body chained lawful).1
part_lawful d chain body chained lawful part (inr (k, there)) =
    each_at (IsLawfulGuard d.signals) chain.resets k part (IsBody d.signals) (λ x h. h.1) (chain_lawful d.signals chain.resets chain.part body chained lawful).0 there

-- ---- they want no more room

opened_levels : (body : Actions) → levels_of (opened body) ≡ levels_of body
opened_levels Done = refl
opened_levels (Then (Set target e delayed spot) others) = refl
opened_levels (Then (If test taken other spot) others) = refl
opened_levels (Then (Case kind full parallel selector branches fallback spot) others) = refl
opened_levels (Then (Block body) Done) = let own = opened_levels body in omega (arith, own)
opened_levels (Then (Block body) (Then one others)) = refl

chain_levels : (most : ℕ) (resets : List Guard) (part body : Actions) → IsChained resets part body → levels_of body ≤ most → Each (λ (guard : Guard). levels_of guard.branch ≤ most) resets × (levels_of part ≤ most)
chain_levels most [] part body chained small = (tt, subst (λ b. levels_of b ≤ most) chained small)
chain_levels most (guard ∷ others) part body (other, spot, is, rest) small =
    let own = opened_levels body in
    let same = ap levels_of is in
    let more = chain_levels most others part other rest (omega (arith, own, same, small)) in
    ((omega (arith, own, same, small), more.0), more.1)

pub part_levels : (chain : Chain) (body : Actions) → IsChained chain.resets chain.part body → (part : Actions) → IsPartOf chain part → levels_of part ≤ levels_of body
part_levels chain body chained part (inl is) =
    let small = (chain_levels (levels_of body) chain.resets chain.part body chained (omega arith)).1 in
    subst (λ b. levels_of b ≤ levels_of body) (sym is) small
part_levels chain body chained part (inr (k, there)) =
    each_at (λ (guard : Guard). levels_of guard.branch ≤ levels_of body) chain.resets k part (λ b. levels_of b ≤ levels_of body) (λ x h. h)
    (chain_levels (levels_of body) chain.resets chain.part body chained (omega arith)).0 there
