-- A demonstration that is run again shows one thing.
use Rattle.std.specs.Prelude.{IsTrue}
use Rattle.std.proofs.Common.{◌≡◌, ◌∙◌, ◌⊎◌, ◌<◌, ℕ, List, length, refl, sym, ap, subst, inl, inr, arith}
use Rattle.rtl_bits.specs.declared.Bit.{Bit}
use Rattle.event_model.specs.Queue.{is_input}
use Rattle.demo_clean.proofs.net_start_proofs.Listed.{all_same}
use Rattle.rtl_flat.specs.Flats.{Flat}
use Rattle.demo_trials.specs.Trials.{step_count}
use Rattle.demo_told.specs.declared.demo.Demo.{Demo}
use Rattle.demo_told.specs.declared.demo.Shown.{Shown}
use Rattle.demo_clean.specs.demo_replay.declared.fault.Part.{Part}
use Rattle.demo_clean.specs.demo_replay.declared.fault.Part.TheVariants as part
use Rattle.demo_clean.specs.demo_replay.declared.fault.ReplayFault.{ReplayFault}
use Rattle.demo_clean.specs.demo_replay.declared.fault.ReplayFault.TheVariants.{Illegal, NoNetlist, Unsettled, Same, Memory}
use Rattle.demo_clean.specs.demo_replay.Replays.{Gives, IsIllegal, IsLegal, IsNoStep, IsReplayFault, IsReplayed, IsStep, IsUnsettled}
use Rattle.demo_clean.specs.demo_replay.Runs.{IsStuck, Reaches}
use Rattle.demo_clean.specs.demo_replay.Setups.{Setup}
use Rattle.demo_laws.proofs.Firsts.{lacks_none, setup_once, stuck_once}
use Rattle.demo_laws.proofs.Trials.{not_behind, reach_once}
use Rattle.demo_laws.specs.Laws.{AreProcesses}

-- ---- what a demonstration names

no_step : (d : Flat) (trial step : ℕ) → IsStep d trial step → IsNoStep d trial step → ⊥
no_step d trial step is isnt =
    let first = is.first in
    let last = is.last in
    let same : isnt.tops ≡ is.tops = all_same (λ s. IsTrue (is_input d s)) isnt.tops is.tops isnt.are_tops is.are_tops in
    elim isnt.outside as (λ _. ⊥) [
      | inl none ↦ absurd (omega (arith, first, none))
      | inr past ↦ let past' : step_count trial (length is.tops) < step = subst (λ (xs : List ℕ). step_count trial (length xs) < step) same past in absurd (omega (arith, last, past'))
    ]

pub not_legal : (d : Flat) (demo : Demo) (it : Part) → IsIllegal d demo it → IsLegal d demo → ⊥
not_legal d demo part.Trial is legal = let small = legal.trial in absurd (omega (arith, is, small))
not_legal d demo part.Step is legal = no_step d demo.trial demo.step legal.step is.1
not_legal d demo part.Signal is legal =
    let inside = legal.inside in
    elim is.2 as (λ _. ⊥) [
      | inl past ↦ absurd (omega (arith, inside, past))
      | inr temporary ↦ legal.lasting temporary
    ]

part_once : (d : Flat) (demo : Demo) (one other : Part) → IsIllegal d demo one → IsIllegal d demo other → one ≡ other
part_once d demo part.Trial part.Trial is is' = refl
part_once d demo part.Trial part.Step is is' = let small = is'.0 in absurd (omega (arith, is, small))
part_once d demo part.Trial part.Signal is is' = let small = is'.0 in absurd (omega (arith, is, small))
part_once d demo part.Step part.Trial is is' = let small = is.0 in absurd (omega (arith, is', small))
part_once d demo part.Step part.Step is is' = refl
part_once d demo part.Step part.Signal is is' = absurd (no_step d demo.trial demo.step is'.1 is.1)
part_once d demo part.Signal part.Trial is is' = let small = is.0 in absurd (omega (arith, is', small))
part_once d demo part.Signal part.Step is is' = absurd (no_step d demo.trial demo.step is.1 is'.1)
part_once d demo part.Signal part.Signal is is' = refl

-- ---- what it shows

module _ (design : Flat) (lawful : AreProcesses design) (demo : Demo) where
  abbrev d : Flat
  d = design

  gives_once :
      (a b a' b' : List Bit) → IsLegal d demo → Gives d demo a b → Gives d demo a' b' → (a ≡ a') × (b ≡ b')
  gives_once a b a' b' legal one other =
      let reaches = subst (λ (u : Setup). Reaches d u demo.trial other.moments other.state other.numbers) (setup_once d other.setup one.setup other.is_setup one.is_setup) other.reaches in
      let same = reach_once design lawful one.setup one.is_setup one.reaches.netlist demo.trial one.moments other.moments one.state other.state one.numbers other.numbers one.reaches reaches (one.count ∙ sym other.count) in (
        one.simulated_is ∙ ap (λ s. s.value demo.signal.0) same.states ∙ sym other.simulated_is,
        one.synthesised_is ∙ same.numbers demo.signal.0 legal.lasting ∙ sym other.synthesised_is,
      )

  not_unsettled : (a b : List Bit) (step : ℕ) → Gives d demo a b → IsUnsettled d demo step → ⊥
  not_unsettled a b step gives unsettled =
      let stuck = subst (λ (u : Setup). IsStuck d u demo.trial unsettled.moments) (setup_once d unsettled.setup gives.setup unsettled.is_setup gives.is_setup) unsettled.stuck in
      let count = gives.count in
      let count' = unsettled.count in
      let before = unsettled.before in
      not_behind design lawful gives.setup gives.is_setup gives.reaches.netlist demo.trial gives.moments unsettled.moments gives.state gives.numbers gives.reaches stuck (omega (arith, count, count', before))

  unsettled_once : (step step' : ℕ) → IsUnsettled d demo step → IsUnsettled d demo step' → step ≡ step'
  unsettled_once step step' one other =
      let stuck = subst (λ (u : Setup). IsStuck d u demo.trial other.moments) (setup_once d other.setup one.setup other.is_setup one.is_setup) other.stuck in
      let same = stuck_once design lawful one.setup one.is_setup demo.trial one.moments other.moments one.stuck stuck in
      let count = one.count in
      let count' = other.count in
      omega (arith, same, count, count')

  pub one_replay : (one other : Shown) → IsReplayed d demo one → IsReplayed d demo other → one ≡ other
  one_replay one other is is' =
      let same = gives_once one.simulated one.synthesised other.simulated other.synthesised is.legal is.gives is'.gives in
      ap (λ (bits : List Bit). record one { simulated = bits }) same.0 ∙ ap (λ (bits : List Bit). record other { synthesised = bits }) same.1

  pub no_fault : (shown : Shown) (fault : ReplayFault) → IsReplayed d demo shown → IsReplayFault d demo fault → fault ≡ Memory
  no_fault shown (Illegal it) is fault = absurd (not_legal d demo it fault is.legal)
  no_fault shown NoNetlist is fault = absurd (lacks_none d fault.1 is.gives.reaches.netlist)
  no_fault shown (Unsettled step) is fault = absurd (not_unsettled shown.simulated shown.synthesised step is.gives fault.1)
  no_fault shown (Same value) is fault =
      let same = gives_once shown.simulated shown.synthesised value value is.legal is.gives fault.1 in
      absurd (is.differ (same.0 ∙ sym same.1))
  no_fault shown Memory is fault = refl

  -- two faults are one, unless memory ran out
  abbrev Agree : ReplayFault → ReplayFault → Type 0
  Agree one other = (one ≡ other) ⊎ ((one ≡ Memory) ⊎ (other ≡ Memory))

  pub one_fault : (one other : ReplayFault) → IsReplayFault d demo one → IsReplayFault d demo other → Agree one other
  one_fault Memory other is is' = inr (inl refl)
  one_fault (Illegal it) Memory is is' = inr (inr refl)
  one_fault NoNetlist Memory is is' = inr (inr refl)
  one_fault (Unsettled step) Memory is is' = inr (inr refl)
  one_fault (Same value) Memory is is' = inr (inr refl)
  one_fault (Illegal it) (Illegal it') is is' = inl (ap (λ (x : Part). Illegal x) (part_once d demo it it' is is'))
  one_fault (Illegal it) NoNetlist is is' = absurd (not_legal d demo it is is'.0)
  one_fault (Illegal it) (Unsettled step) is is' = absurd (not_legal d demo it is is'.0)
  one_fault (Illegal it) (Same value) is is' = absurd (not_legal d demo it is is'.0)
  one_fault NoNetlist (Illegal it) is is' = absurd (not_legal d demo it is' is.0)
  one_fault (Unsettled step) (Illegal it) is is' = absurd (not_legal d demo it is' is.0)
  one_fault (Same value) (Illegal it) is is' = absurd (not_legal d demo it is' is.0)
  one_fault NoNetlist NoNetlist is is' = inl refl
  one_fault NoNetlist (Unsettled step) is is' = absurd (lacks_none d is.1 is'.1.stuck.netlist)
  one_fault NoNetlist (Same value) is is' = absurd (lacks_none d is.1 is'.1.reaches.netlist)
  one_fault (Unsettled step) NoNetlist is is' = absurd (lacks_none d is'.1 is.1.stuck.netlist)
  one_fault (Same value) NoNetlist is is' = absurd (lacks_none d is'.1 is.1.reaches.netlist)
  one_fault (Unsettled step) (Unsettled step') is is' = inl (ap (λ (x : ℕ). Unsettled x) (unsettled_once step step' is.1 is'.1))
  one_fault (Unsettled step) (Same value) is is' = absurd (not_unsettled value value step is'.1 is.1)
  one_fault (Same value) (Unsettled step) is is' = absurd (not_unsettled value value step is.1 is'.1)
  one_fault (Same value) (Same value') is is' = inl (ap (λ (x : List Bit). Same x) (gives_once value value value' value' is.0 is.1 is'.1).0)
