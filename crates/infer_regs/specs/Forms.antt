-- What a process that waits for edges is to inference, and the inputs that are clocks, resets or gates (IEEE 1364.1-2002
-- sections 5.2.2 and 5.3).
use Rattle.std.specs.Prelude.{◌≡◌, ◌⊎◌, ◌↔◌, ℕ, List, [], ◌∷◌, map, Some}
use Rattle.rtl_flat.specs.Process.{Watched, Task, watched}
use Rattle.rtl_flat.specs.Flats.{Flat}
use Rattle.net_model.specs.Gates.{IsControl}
use Rattle.net_model.specs.Cycle.{Chain, Guard}
use Rattle.rtl_rule.specs.declared.rule.Rule.{Rule}
use Rattle.rtl_rule.specs.declared.rule.Rule.TheVariants.{MixedEdges, DerivedClock, ResetShape, ResetPolarity, ResetValue}
use Rattle.net_list.specs.rtl_scan.Arrows.{Among, AreRising}
use Rattle.net_list.specs.check_chains.Chains.{chain_of}
use Rattle.net_list.specs.Faults.{IsFault}
use Rattle.infer_regs.specs.declared.forms.Form.{Form}
use Rattle.infer_regs.specs.declared.forms.Form.TheVariants.{Bad, Clock}

-- ---- forms

-- the rules that decide the form, in the order of the table
abbrev pub form_rules : List Rule
form_rules = MixedEdges ∷ DerivedClock ∷ ResetShape ∷ ResetPolarity ∷ ResetValue ∷ []

-- the first of some rules of which something holds
abbrev pub IsFirstOf : (Rule → Type 0) → List Rule → Rule → Type 0
IsFirstOf P [] rule = ⊥
IsFirstOf P (one ∷ others) rule = (P one × (rule ≡ one)) ⊎ ((P one → ⊥) × IsFirstOf P others rule)

-- it holds of none of them
abbrev pub AreNone : (Rule → Type 0) → List Rule → Type 0
AreNone P [] = Unit {0}
AreNone P (one ∷ others) = (P one → ⊥) × AreNone P others

-- the clock and the resets of a chain, the strongest reset first
pub record HasItems (d : Flat) (task : Task) (clock : Watched) (resets : List Watched) : Type 0 where
  pub chain : Chain
  pub is_chain : chain_of d task.does ≡ Some chain
  pub clock_is : chain.clock ≡ clock
  pub resets_are : map (λ (guard : Guard). guard.item) chain.resets ≡ resets

-- the first rule that has a finding on the process; or where none has, its clock and its resets
abbrev pub IsForm : Flat → ℕ → Task → Form → Type 0
IsForm d p task (Bad rule) = IsFirstOf (IsFault d p task) form_rules rule
IsForm d p task (Clock clock resets) =
    AreNone (IsFault d p task) form_rules
    × HasItems d task (watched clock.now) (map (λ item. watched item.now) resets.items)

-- ---- controls

-- the top inputs that are clocks, resets or gates, in order, each once
pub record AreControls (d : Flat) (found : List ℕ) : Type 0 where
  pub rising : AreRising found
  pub each : (s : ℕ) → Among found s ↔ IsControl d s
