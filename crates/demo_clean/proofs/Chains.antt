-- The chains of the processes of a lawful design that have no fault.
use Rattle.std.proofs.Common.{◌≡◌, ◌∙◌, true, sym, ap, subst}
use Rattle.std.specs.List.{All}
use Rattle.std.specs.Option.{IsSomeAnd, unwrap_or}
use Rattle.rtl_flat.specs.Process.{Edge'}
use Rattle.rtl_flat.specs.WellFormed.{IsProcess}
use Rattle.net_model.specs.Cycle.{AreChains, IsChain}
use Rattle.rtl_rule.specs.declared.rule.Rule.{Rule}
use Rattle.rtl_rule.specs.declared.rule.Rule.TheVariants.{MixedEdges, ResetPolarity, ResetShape}
use Rattle.rtl_flat.specs.Flats.{Flat}
use Rattle.rtl_rule.specs.Parts.{is_clocked}
use Rattle.check_clean.specs.check_chains.Chains.{chain_of}
use Rattle.demo_replay.specs.net_list.Chosen.{chain_in, chains_of, no_chain}
use Rattle.demo_replay.specs.net_list.Faults.{AreFormed, IsFault}
use Rattle.demo_replay.proofs.net_list_proofs.Formed.{chain_at, lawful_at, task_of}

pub are_chains : (d : Flat) → All (λ task. IsProcess d.signals task.does) d.tasks → AreFormed d → AreChains d (chains_of d)
are_chains d lawful formed p events body is =
    let (task, there, does) = task_of d.tasks p (Edge' events body) is in
    let waits : is_clocked task.does ≡ true = ap is_clocked does in
    let free : (rule : Rule) → IsFault d p task rule → ⊥ = λ rule fault. formed p (record {
      waits = subst (λ o. IsSomeAnd o (λ one. is_clocked one.does ≡ true)) (sym there) waits;
      rule = rule;
      fault = subst (λ o. IsSomeAnd o (λ one. IsFault d p one rule)) (sym there) fault;
    }) in
    let found = chain_at d p task events body does (lawful_at d.signals d.tasks p task lawful there) (free MixedEdges) (free ResetShape) (free ResetPolarity) in
    let same : chains_of d p ≡ found.chain =
    ap (λ o. unwrap_or (chain_in d o) no_chain) there ∙ ap (λ x. unwrap_or (chain_of d x) no_chain) does ∙ ap (λ o. unwrap_or o no_chain) found.is_chain in
    subst (IsChain d events body) (sym same) found.chained
