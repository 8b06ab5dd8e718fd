-- A design without findings of the first grade settles by level, and every run of it ends.
use Rattle.std.proofs.Common.{ℕ, [], Option, Some, subst, sym, refl}
use Rattle.std.specs.Prelude.{◌≡◌, List}
use Rattle.rtl_flat.specs.Process.{Watched, Actions, Comb}
use Rattle.event_model.specs.Queue.{State, doing_at, offer}
use Rattle.check_laws.specs.event_settling.Conditions.{AllSelectIn}
use Rattle.check_laws.proofs.event_settling_proofs.Conditions.{rules_settle}
use Rattle.check_laws.proofs.event_settling_proofs.Ends as every
use Rattle.check_laws.proofs.event_settling_proofs.Rests as by_level
use Rattle.check_laws.specs.event_settling.Ending.{IsReached}
use Rattle.check_laws.specs.event_settling.Settling.{Fits, IsBegun}
use Rattle.check_laws.specs.event_laws.Steady.{AreLawful}
use Rattle.rtl_bits.specs.declared.Bit.{Bit}
use Rattle.rtl_rule.specs.declared.finding.Finding.{Finding}
use Rattle.check_all.specs.Findings.{AreAllFindings, IsClean}
use Rattle.check_clean.specs.Levelled.{AreLevels, RestsByLevel}
use Rattle.net_model.specs.Control.{InClockCone}
use Rattle.rtl_flat.specs.Flats.{Parts, widths}
use Rattle.check_all.specs.check_unknown.Unknowns.{AreSelectRange}
use Rattle.check_laws.specs.Cases.{Does, IsBodyOf}
use Rattle.check_laws.proofs.Clocks.{derived_clock}
use Rattle.check_laws.proofs.Designs.{comb_loop, mixed_edges, nonblocking_comb, several_drivers}
use Rattle.check_laws.proofs.Sites.{task_of}
use Rattle.check_laws.proofs.Targets.{select_targets}
use Rattle.check_laws.proofs.Temporaries.{blocking_state}
use Rattle.check_clean.specs.Ending.{EndsByRules}
use Rattle.check_clean.specs.Promise.{SettlesByRules}
use Rattle.check_clean.proofs.Depths.{are_levels, levels}
use Rattle.check_all.proofs.Without.{no_finding}
use Rattle.check_clean.proofs.Sources.{sources_decided}

pub settles : (d : Parts) → SettlesByRules d
settles d lawful findings are is level levels =
    let none = no_finding d findings are is in
    record {
      levels = levels;
      no_cycle = comb_loop d.flat none.a6;
      temporaries = blocking_state d.flat lawful none.a1;
      no_late = nonblocking_comb d.flat lawful none.a2;
      select = select none.x2;
      alone = several_drivers d.flat lawful none.a4;
      edges = mixed_edges d.flat none.s3;
      clocks = derived_clock d.flat (sources_decided d.flat) none.a7;
    }
  where
    select : AreSelectRange d.flat [] → (p : ℕ) (list : Option (List Watched)) (body : Actions) → doing_at d.flat p ≡ Some (Comb list body) → AllSelectIn (widths d.flat) body
    select none p list body is' =
        let at = task_of d.flat p (Comb list body) is' in
        let of_body : IsBodyOf d.flat p body = record { task = at.task; there = at.there; does = subst (λ x. Does x body) (sym at.is) refl } in
        select_targets d.flat lawful none p body of_body

pub ends : (d : Parts) → EndsByRules d
ends d lawful findings are is s step reached fits =
    let loops = (no_finding d findings are is).a6 in
    let level = levels d.flat lawful loops in
    let kept = settles d lawful findings are is level (are_levels d.flat lawful loops) in
    every.ends d.flat lawful level (InClockCone d.flat) (rules_settle d.flat lawful level kept) (offer s step)
    (every.steps_start d.flat lawful s step reached fits)

-- the states behind what a step offers are ones in which it may begin
pub levelled : (d : Parts) → AreLawful d.flat → (findings : List Finding) → AreAllFindings d findings → IsClean findings → (level : ℕ → Option ℕ) → AreLevels d.flat level → RestsByLevel d.flat level
levelled d lawful findings are is level levels =
    let settling = rules_settle d.flat lawful level (settles d lawful findings are is level levels) in
    let begun : (s : State) (step : List (ℕ × List Bit)) → IsReached d.flat s → Fits d.flat step → IsBegun d.flat (offer s step) =
    (λ s step reached fits.
    let start = every.steps_start d.flat lawful s step reached fits in
    record { orderly = start.orderly; drivers = start.drivers }) in
    record {
      rests = λ s step reached fits.
          let come = by_level.rests d.flat lawful level (InClockCone d.flat) settling (offer s step) (begun s step reached fits) in
          record {
            spent = come.spent;
            state = come.state;
            run = come.run;
            within = come.within;
            rest = come.rest (λ none. (every.steps_start d.flat lawful s step reached fits).delayed);
          };
      never_dear = λ s t step spent left reached fits run all dear.
          by_level.settles d.flat lawful level (InClockCone d.flat) settling (offer s step) t spent left (begun s step reached fits) run all dear;
    }
