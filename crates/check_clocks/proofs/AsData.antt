-- The signals of the control cone that a process reads as data.
use Rattle.std.proofs.Common.{◌≡◌, ◌∙◌, ℕ, zero, suc, ◌<◌, Bool, true, false, cond, if◌then◌else◌, List, [], ◌∷◌, length, Option, None, Some, refl, ap, inl, inr, arith}
use Rattle.std.specs.Prelude.{◌↔◌, slice_index_or}
use Rattle.std.specs.List.{slice_get}
use Rattle.std.proofs.lemmas.Bool.{both_ways, cases_Bool}
use Rattle.text_ground.specs.declared.text.Spot.{Spot}
use Rattle.rtl_flat.specs.Process.{Task}
use Rattle.rtl_rule.specs.declared.finding.Finding.{Finding}
use Rattle.rtl_rule.specs.declared.rule.Rule.TheVariants.{ClockAsData}
use Rattle.rtl_rule.specs.Parts.{At, within}
use Rattle.rtl_flat.specs.Flats.{Flat}
use Rattle.net_model.specs.Gates.{Gate, IsGateOf}
use Rattle.check_gates.specs.Admitted.{AreGates}
use Rattle.check_gates.specs.check_chains.check_found.Gathered.{Gets, signal_numbers, task_sites}
use Rattle.check_clocks.specs.Uses.{is_gate_in}
use Rattle.check_clocks.proofs.Gated.{gate_in}
use Rattle.check_clocks.specs.Clocks.{IsClockAsData, clock_as_data_at, data_places, is_some_place}
use Rattle.check_gates.specs.check_chains.check_found.Marked.{Shows, joined, least_of, shown}
use Rattle.check_gates.proofs.check_chains_proofs.check_found_proofs.Places.{least_is}
use Rattle.check_gates.proofs.check_chains_proofs.check_found_proofs.Shown.{Tells, gets_shown}

-- ---- marks

abbrev is_among : List Bool → ℕ → Bool
is_among marks s = slice_index_or marks s false

pub marked_is : (marks : List Bool) (s : ℕ) → slice_get marks s ≡ Some true ↔ is_among marks s ≡ true
marked_is marks s = (to marks s, from marks s)
  where
    to : (marks : List Bool) (s : ℕ) → slice_get marks s ≡ Some true → is_among marks s ≡ true
    to [] s h = absurd (cc)
    to (b ∷ marks) zero h = cc
    to (b ∷ marks) (suc s) h = to marks s h

    from : (marks : List Bool) (s : ℕ) → is_among marks s ≡ true → slice_get marks s ≡ Some true
    from [] s h = absurd (cc)
    from (b ∷ marks) zero h = cc
    from (b ∷ marks) (suc s) h = from marks s h

pub marked_below : (marks : List Bool) (s : ℕ) → slice_get marks s ≡ Some true → s < length marks
marked_below [] s h = absurd (cc)
marked_below (b ∷ marks) zero h = omega arith
marked_below (b ∷ marks) (suc s) h =
    let below = marked_below marks s h in omega (arith, below)

-- ---- one process

module _ (InCone : ℕ → Type 0) (d : Flat) (marks : List Bool) (are : (s : ℕ) → slice_get marks s ≡ Some true ↔ InCone s) (gates : List (ℕ × Gate)) (are_gates : AreGates d gates) where
  inside : length marks ≡ length d.signals → (site : At ℕ) → IsClockAsData InCone d site → site.it < length d.signals
  inside size site breaks =
      let below = marked_below marks site.it ((are site.it).1 breaks.in_cone) in
      omega (arith, below, size)

  -- what the first place of a signal, or none, says of it
  tells_places : (p : ℕ) (task : Task) (s : ℕ) → is_among marks s ≡ true → (IsGateOf d p s → ⊥) → (places : List Spot) → data_places d (within (p, task) s) ≡ places → Tells (IsClockAsData InCone d) (clock_as_data_at d) ClockAsData task.instance (p, task) s (least_of places)
  tells_places p task s there free [] same =
      λ breaks. absurd (both_ways (is_some_place (data_places d (within (p, task) s))) (ap is_some_place same) breaks.as_data)
  tells_places p task s there free (x ∷ xs) same = by_least (least_of (x ∷ xs)) refl
    where
      some_first : (o : Option Spot) → joined (Some x) o ≡ None → ⊥
      some_first None h = absurd (cc)
      some_first (Some other) h = absurd (cc)

      by_least : (found : Option Spot) → least_of (x ∷ xs) ≡ found → Tells (IsClockAsData InCone d) (clock_as_data_at d) ClockAsData task.instance (p, task) s found
      by_least None is = absurd (some_first (least_of xs) is)
      by_least (Some spot) is = (
        record { in_cone = (are s).0 ((marked_is marks s).1 there); not_gate = free; as_data = ap is_some_place same },
        ap (λ (at : Spot). shown ClockAsData task.instance (s, at)) (least_is task.spot (data_places d (within (p, task) s)) spot (ap least_of same ∙ is)),
      )

  tells_site : (p : ℕ) (task : Task) (s : ℕ) (found : Option Spot) → found ≡ least_of (if is_gate_in gates p s then [] else data_places d (within (p, task) s)) → Tells (IsClockAsData InCone d) (clock_as_data_at d) ClockAsData task.instance (p, task) s (cond (is_among marks s) found None)
  tells_site p task s found is =
      elim (cases_Bool (is_among marks s)) as (λ _. Tells (IsClockAsData InCone d) (clock_as_data_at d) ClockAsData task.instance (p, task) s (cond (is_among marks s) found None)) [
        | inl there ↦ rw (there, is) (by_gate there (is_gate_in gates p s) refl)
        | inr other ↦ rw other (λ breaks. both_ways (is_among marks s) other ((marked_is marks s).0 ((are s).1 breaks.in_cone)))
      ]
    where
      by_gate : is_among marks s ≡ true → (b : Bool) → is_gate_in gates p s ≡ b → Tells (IsClockAsData InCone d) (clock_as_data_at d) ClockAsData task.instance (p, task) s (least_of (if b then [] else data_places d (within (p, task) s)))
      by_gate there true gate = λ breaks. breaks.not_gate ((gate_in d gates are_gates p s).0 gate)
      by_gate there false other =
          tells_places p task s there (λ gate. both_ways (is_gate_in gates p s) other ((gate_in d gates are_gates p s).1 gate)) (data_places d (within (p, task) s)) refl

  -- what is shown of a process is what the rule finds of it
  pub data_gets : length marks ≡ length d.signals → (p : ℕ) (task : Task) (firsts : ℕ → Option Spot) → ((s : ℕ) → firsts s ≡ least_of (if is_gate_in gates p s then [] else data_places d (within (p, task) s))) → (old new : List Finding) → Shows ClockAsData task.instance (λ s. cond (is_among marks s) (firsts s) None) old new → Gets (IsClockAsData InCone d) (clock_as_data_at d) (task_sites (signal_numbers d) p task) old new
  data_gets size p task firsts is old new shows =
      gets_shown (IsClockAsData InCone d) (clock_as_data_at d) ClockAsData task.instance d p task (λ s breaks. inside size (within (p, task) s) breaks) (λ s. cond (is_among marks s) (firsts s) None) (λ s. tells_site p task s (firsts s) (is s)) old new shows
