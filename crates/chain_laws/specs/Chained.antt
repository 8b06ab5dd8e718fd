-- The chain of a process that waits for edges, where S3, R1 and R2 have no finding (IEEE 1364.1-2002 section 5.2.2).
-- Worked examples: crates/sign_cycles/proofs/Register.antt.
use Rattle.std.specs.Prelude.{◌≡◌, true, List, Some}
use Rattle.std.specs.List.{list_any}
use Rattle.rtl_flat.specs.Process.{Watched, Actions, Edge'}
use Rattle.rtl_flat.specs.WellFormed.{IsProcess}
use Rattle.rtl_flat.specs.Flats.{Flat}
use Rattle.net_model.specs.Cycle.{Chain, Guard, IsChain}
use Rattle.check_sense.specs.Sense.{first_level, has_item}
use Rattle.check_chains.specs.Chains.{chain_of, has_chain, is_shapeless, is_turned, tested}

-- a process that has a chain
pub record HasChain (d : Flat) (events : List Watched) (body : Actions) : Type 0 where
  pub chain : Chain
  pub is_chain : chain_of d (Edge' events body) ≡ Some chain
  pub chained : IsChain d events body chain

-- where each item has an edge, the body has the shape, and tests are at the levels of edges, there is a chain
abbrev pub ChainsHold : Flat → Type 0
ChainsHold d =
    (events : List Watched) (body : Actions) → IsProcess d.signals (Edge' events body) →
    (has_item (first_level (Edge' events body)) ≡ true → ⊥) →
    (is_shapeless d (Edge' events body) ≡ true → ⊥) →
    (has_chain (λ chain. list_any (λ (guard : Guard). is_turned guard.item.edge (tested d guard.test)) chain.resets) (chain_of d (Edge' events body)) ≡ true → ⊥) →
    HasChain d events body
