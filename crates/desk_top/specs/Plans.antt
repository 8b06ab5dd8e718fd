-- What a simulation has to do when all is read, and how its lines reach a sink as they come.
use Rattle.std.specs.Prelude.{◌≡◌, ◌≢◌, ℕ, List, [], Option, Result, Ok, Err, false, ⊤}
use Rattle.std.specs.Io.KnownBytes.{Appends}
use Rattle.std.specs.List.{All}
use Rattle.rtl_flat.specs.Flats.{DesignParts, flat_in}
use Rattle.desk_steps.specs.Fitting.{AreFitting}
use Rattle.desk_steps.specs.Steps.{Steps, steps as plain}
use Rattle.desk_top.specs.declared.deliver.Stop.{Stop}
use Rattle.desk_top.specs.declared.deliver.Stop.TheVariants.{Unread, NoFile, Memory}
use Rattle.desk_top.specs.declared.simulate.Plan.{Plan}
use Rattle.desk_top.specs.declared.simulate.Plan.TheVariants.{Told, Run}
use Rattle.desk_top.specs.Delivery.{Outcome, Delivers, IsCut, gave_up, no_file, outcome_of, stop_status}
use Rattle.desk_top.specs.Outcome.{IsShowing}

-- the plan has this outcome, unless a read failed or memory ran out
abbrev pub IsPlan : (Outcome → Type 0) → Result Plan Stop → Type 0
IsPlan IsWanted (Ok (Told work)) = IsWanted (outcome_of work)
IsPlan IsWanted (Ok (Run design steps)) =
    (outcome : Outcome) → IsShowing (flat_in design) (plain steps) outcome → IsWanted outcome
IsPlan IsWanted (Err NoFile) = IsWanted no_file
IsPlan IsWanted (Err Unread) = ⊤
IsPlan IsWanted (Err Memory) = ⊤

-- the steps of a plan set inputs of its design
abbrev pub HasFitting : Result Plan Stop → Type 0
HasFitting (Ok (Told work)) = ⊤
HasFitting (Ok (Run design steps)) =
    All (λ step. AreFitting design.signals.items step.items) steps.steps.items
HasFitting (Err stop) = ⊤

-- the lines that steps show are delivered, or, where memory ran out, a front of them or nothing
pub record IsStreamed (design : DesignParts) (steps : Steps) (status : ℕ) (before now : Option (List ℕ)) : Type 0 where
  pub read : status ≢ 4
  pub delivered : gave_up status ≡ false → (wanted : Outcome) × IsShowing design steps wanted × Delivers wanted status before now
  pub cut : status ≡ 20 → IsCut (IsShowing design steps) before now

-- the plan is carried out, or nothing is written where there is none
abbrev pub Performs : Result Plan Stop → ℕ → Option (List ℕ) → Option (List ℕ) → Type 0
Performs (Ok (Told work)) status before now = (gave_up status ≡ false) × Delivers (outcome_of work) status before now
Performs (Ok (Run design steps)) status before now = IsStreamed (flat_in design) (plain steps) status before now
Performs (Err stop) status before now = (status ≡ stop_status stop) × Appends before now []
