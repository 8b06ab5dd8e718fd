-- A process without a reset makes its registers doubtful.
use Rattle.std.proofs.Common.{◌≡◌, ◌∙◌, ℕ, Bool, true, false, List, [], ◌∷◌, None, length, map, refl, sym, ap, subst, arith}
use Rattle.std.specs.Prelude.{nat_lt, if◌then◌else◌}
use Rattle.std.specs.List.{list_all}
use Rattle.std.proofs.lemmas.List.Sorted.{length_permutation}
use Rattle.rtl_flat.specs.Flats.{Flat, widths}
use Rattle.rtl_flat.specs.Flows.{flow_of}
use Rattle.rtl_flat.specs.Process.{Actions, Doing, Edge', Watched}
use Rattle.rtl_flat.specs.WellFormed.{has_edge}
use Rattle.rtl_flat.proofs.Paths.{decided}
use Rattle.net_model.specs.Cycle.{Chain, Guard}
use Rattle.net_model.specs.Solution.{IsRegisterBit}
use Rattle.rtl_rule.specs.Parts.{has_some, is_clocked, written}
use Rattle.rtl_rule.proofs.Below.{some_at}
use Rattle.check_unknown.specs.check_chains.Chains.{chain_in, chain_of, has_chain}
use Rattle.check_unknown.specs.Unknowns.{IsUnreset, Unreset}
use Rattle.check_laws.specs.event_laws.Steady.{AreLawful}
use Rattle.check_laws.proofs.Designs.{process_inside}
use Rattle.check_laws.proofs.Sites.{signal_there, task_of}
use Rattle.unknown_laws.specs.Doubt.{RegistersAreReset}

-- whether a process has a chain with a reset
abbrev has_reset : Flat → Doing → Bool
has_reset d does = has_chain (λ (chain : Chain). nat_lt 0 (length chain.resets)) (chain_of d does)

-- one event is a clock
single : (d : Flat) (events : List Watched) (body : Actions) → length events ≡ 1 → has_reset d (Edge' events body) ≡ false
single d [] body one = absurd (omega (arith, one))
single d (first ∷ []) body one = by_edge (list_all (λ (item : Watched). has_edge item.edge) (first ∷ []))
  where
    by_edge : (b : Bool) → has_chain (λ (chain : Chain). nat_lt 0 (length chain.resets)) (if b then chain_in d 0 (first ∷ []) body else None) ≡ false
    by_edge true = refl
    by_edge false = refl
single d (first ∷ second ∷ others) body one = absurd (omega (arith, one))

unreset : (d : Flat) → AreLawful d → (i k : ℕ) (register : IsRegisterBit d i k) → length register.events ≡ 1 → IsUnreset d i
unreset d lawful i k register one =
    let does = Edge' register.events register.body in
    let at = task_of d register.process does register.does in
    let inside = process_inside d lawful register.process does register.does i k register.may in
    let writes : has_some (widths d) (written d does) i ≡ true =
    some_at (widths d i) (written d does i) k inside ((decided (flow_of (widths d) does) i k).writes.1 register.may) in
    record {
      process = register.process;
      task = at.task;
      there = at.there;
      clocked = ap is_clocked at.is;
      register = record {
        inside = signal_there d.signals i k inside;
        writes = subst (λ one. has_some (widths d) (written d one) i ≡ true) (sym at.is) writes;
        kept = register.lasting;
      };
      no_reset = ap (has_reset d) at.is ∙ single d register.events register.body one;
    }

pub registers_reset : (d : Flat) → RegistersAreReset d
registers_reset d lawful chains chained i k register sure none =
    let chain = chains register.process in
    let items = (chained register.process register.events register.body register.does).items in
    let all = λ (resets : List Guard). chain.clock ∷ map (λ (guard : Guard). guard.item) resets in
    let as_many = length_permutation register.events (all chain.resets) items in
    let one : length (all chain.resets) ≡ 1 = ap (λ resets. length (all resets)) none in
    sure (Unreset i (unreset d lawful i k register (sym as_many ∙ one)))
