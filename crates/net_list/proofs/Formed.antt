-- The chains of a design whose processes that wait for edges have no fault.
use Rattle.std.proofs.Common.{◌≡◌, ◌∙◌, ℕ, zero, suc, true, List, [], ◌∷◌, Option, None, Some, refl, sym, ap, subst}
use Rattle.std.specs.List.{All, slice_get}
use Rattle.std.specs.Option.{IsSomeAnd, unwrap_or}
use Rattle.std.proofs.lemmas.List.Elements.{All-head, All-tail}
use Rattle.rtl_flat.specs.declared.design.Design.{Design}
use Rattle.rtl_flat.specs.declared.signal.Signal.{Signal}
use Rattle.rtl_flat.specs.Process.{Watched, Actions, Doing, Edge', Task}
use Rattle.rtl_flat.specs.WellFormed.{IsProcess}
use Rattle.event_model.specs.Queue.{doing_of}
use Rattle.rtl_flat.specs.Flats.{flat, Flat}
use Rattle.net_model.specs.Cycle.{AreChains, IsChain}
use Rattle.rtl_rule.specs.declared.rule.Rule.{Rule}
use Rattle.rtl_rule.specs.declared.rule.Rule.TheVariants.{MixedEdges, ResetPolarity, ResetShape}
use Rattle.chain_laws.specs.check_chains.Chains.{chain_of}
use Rattle.rtl_rule.specs.Parts.{is_clocked}
use Rattle.chain_laws.specs.Chained.{HasChain}
use Rattle.chain_laws.proofs.Chained.{chains_hold}
use Rattle.net_list.specs.Chosen.{chain_in, chains_of, no_chain}
use Rattle.net_list.specs.Faults.{AreFormed, IsFault}

-- ---- a process

pub lawful_at : (signals : List Signal) (tasks : List Task) (p : ℕ) (task : Task) → All (λ one. IsProcess signals one.does) tasks → slice_get tasks p ≡ Some task → IsProcess signals task.does
lawful_at signals [] p task all there = absurd (cc)
lawful_at signals (one ∷ tasks) zero task all there =
    let same : one ≡ task = cc in
    subst (λ (t : Task). IsProcess signals t.does) same (All-head (λ (t : Task). IsProcess signals t.does) one tasks all)
lawful_at signals (one ∷ tasks) (suc p) task all there =
    lawful_at signals tasks p task (All-tail (λ (t : Task). IsProcess signals t.does) one tasks all) there

-- the process that does something
pub task_of : (tasks : List Task) (p : ℕ) (does : Doing) → doing_of (slice_get tasks p) ≡ Some does → (task : Task) × (slice_get tasks p ≡ Some task) × (task.does ≡ does)
task_of tasks p does e = by_task (slice_get tasks p) refl e
  where
    by_task : (o : Option Task) → slice_get tasks p ≡ o → doing_of o ≡ Some does → (task : Task) × (slice_get tasks p ≡ Some task) × (task.does ≡ does)
    by_task None there is = absurd (cc)
    by_task (Some task) there is = (task, there, cc)

-- a process that waits for edges, and of which three rules have no finding, has a chain
pub chain_at : (d : Flat) (p : ℕ) (task : Task) (events : List Watched) (body : Actions) → task.does ≡ Edge' events body → IsProcess d.signals task.does → (IsFault d p task MixedEdges → ⊥) → (IsFault d p task ResetShape → ⊥) → (IsFault d p task ResetPolarity → ⊥) → HasChain d events body
chain_at d p task events body is lawful levels shaped straight =
    by_does task.does is lawful levels shaped straight
  where
    by_does : (does : Doing) → does ≡ Edge' events body → IsProcess d.signals does → (IsFault d p (record task { does = does }) MixedEdges → ⊥) → (IsFault d p (record task { does = does }) ResetShape → ⊥) → (IsFault d p (record task { does = does }) ResetPolarity → ⊥) → HasChain d events body
    by_does does e lawful' levels' shaped' straight' =
        chains_hold d events body (subst (IsProcess d.signals) e lawful')
        (subst (λ x. IsFault d p (record task { does = x }) MixedEdges → ⊥) e levels')
        (subst (λ x. IsFault d p (record task { does = x }) ResetShape → ⊥) e shaped')
        (subst (λ x. IsFault d p (record task { does = x }) ResetPolarity → ⊥) e straight')

-- ---- all of them

pub are_chains : (design : Design) → AreFormed (flat design) → AreChains (flat design) (chains_of (flat design))
are_chains design formed p events body is =
    let d = flat design in
    let (task, there, does) = task_of d.tasks p (Edge' events body) is in
    let waits : is_clocked task.does ≡ true = ap is_clocked does in
    let free : (rule : Rule) → IsFault d p task rule → ⊥ = λ rule fault. formed p (record {
      waits = subst (λ o. IsSomeAnd o (λ one. is_clocked one.does ≡ true)) (sym there) waits;
      rule = rule;
      fault = subst (λ o. IsSomeAnd o (λ one. IsFault d p one rule)) (sym there) fault;
    }) in
    let found = chain_at d p task events body does (lawful_at d.signals d.tasks p task design.is_design.each_process there) (free MixedEdges) (free ResetShape) (free ResetPolarity) in
    let same : chains_of d p ≡ found.chain =
    ap (λ o. unwrap_or (chain_in d o) no_chain) there ∙ ap (λ x. unwrap_or (chain_of d x) no_chain) does ∙ ap (λ o. unwrap_or o no_chain) found.is_chain in
    subst (IsChain (flat design) events body) (sym same) found.chained
