-- Every lawful step from a settled state leads to settled states, at numbers that follow, so simulation agrees with
-- synthesis.
use Rattle.std.proofs.Common.{◌≡◌, ◌∙◌, ℕ, refl, sym, inl, inr}
use Rattle.rtl_bits.specs.declared.Bit.{Bit}
use Rattle.rtl_flat.specs.Process.{Watched}
use Rattle.rtl_flat.specs.Flats.{Flat, widths}
use Rattle.event_model.specs.Writes.{Values}
use Rattle.net_model.specs.declared.fill.Fill.{Fill}
use Rattle.net_model.specs.declared.fill.Fill.TheVariants as fill
use Rattle.net_model.specs.Block.{block_bit}
use Rattle.net_model.specs.Cycle.{Chain, Data, Guard, Turn, item_bit}
use Rattle.net_model.specs.Numbers.{bit}
use Rattle.net_model.specs.Solution.{IsLasting}
use Rattle.net_rest.proofs.net_laws_proofs.Laws.{fills_agree}
use Rattle.net_rest.specs.Rest.{numbers_of}
use Rattle.sign_cycles.specs.Round.{IsSettled}
use Rattle.sign_cycles.specs.Agree.{Agree, AreReset}
use Rattle.sign_cycles.specs.Formed.{IsCleanClocked}
use Rattle.sign_cycles.specs.Laws.{KnownForBoth, RegistersAre, StepsFollow, TurnsFollow}
use Rattle.sign_cycles.proofs.Alone.{steps_alone}
use Rattle.sign_cycles.proofs.Chains.{IsUsable, branches_usable, strongest_is, strongest_same}
use Rattle.sign_cycles.proofs.DataSteps.{settled_both, settled_round}
use Rattle.sign_cycles.proofs.Edges as edge
use Rattle.sign_cycles.proofs.GateSteps.{data_known, gate_follows}
use Rattle.sign_cycles.proofs.Lists.{agree_by_steps}

module _ (d : Flat) (chains : ℕ → Chain) (level : ℕ → ℕ) (clean : IsCleanClocked d chains level) (f : Fill) where
  -- by a step of one clock or reset
  pub turns_follow : TurnsFollow d chains f
  turns_follow s n known setting clock turns t next =
      edge.turn_follows d chains level clean f s n known setting clock turns t next

  pub register_is : RegistersAre d chains f
  register_is s n known setting clock turns t next i k register =
      edge.register_is d chains level clean f s n known setting clock turns t next i k register

  pub steps_follow : StepsFollow d chains f
  steps_follow s n known (Data all) lawful t next = data_known d chains level clean f s n known all lawful t next
  steps_follow s n known (Turn setting) lawful t next =
      elim lawful.control [
        | inl clock ↦ turns_follow s n known setting clock lawful t next
        | inr gate ↦ gate_follows d chains level clean f s n known setting gate lawful.can_be t next
      ]

  pub agreement : Agree d chains f
  agreement = agree_by_steps d chains f steps_follow (steps_alone d chains level clean f)

-- ---- both fills

-- what is the same for both fills is so for any two
any_fills : (of_fill : Fill → Bit) → of_fill fill.Zero ≡ of_fill fill.One → (f g : Fill) → of_fill f ≡ of_fill g
any_fills of_fill same fill.Zero fill.Zero = refl
any_fills of_fill same fill.Zero fill.One = same
any_fills of_fill same fill.One fill.Zero = sym same
any_fills of_fill same fill.One fill.One = refl

pub known_both : (d : Flat) (chains : ℕ → Chain) (level : ℕ → ℕ) → IsCleanClocked d chains level → KnownForBoth d chains
known_both d chains level clean f g s n known = edge.settled_known d chains g s m other resets
  where
    m : Values
    m = numbers_of d g s.value

    settled : IsSettled d f s n
    settled = settled_round d chains f s n known

    other : IsSettled d g s m
    other = settled_both d level clean.solvable f g s n settled

    same : (i k : ℕ) → IsLasting d i → bit m i k ≡ bit n i k
    same i k lasts = sym (other.shows i k lasts) ∙ settled.shows i k lasts

    resets : AreReset d chains g m
    resets p events body is guard found i k may lasts =
        let items = edge.of_items d chains level clean p events body is (λ (item : Watched). item_bit n item ≡ item_bit m item)
        (λ item here. sym (same item.signal 0 (edge.item_lasts d chains level clean p events body is item here))) in
        let active = strongest_same d n m (chains p).resets items ∙ found in
        let all = branches_usable d (chains p).resets (chains p).part body (clean.formed p events body is).chained.chained (edge.usable d chains level clean p events body is) in
        let branch = strongest_is d (λ (one : Guard). IsUsable d one.branch) m (chains p).resets all guard found in
        same i k lasts
        ∙ known.resets p events body is guard active i k may lasts
        ∙ any_fills (λ (x : Fill). block_bit (widths d) x n guard.branch i k)
        (fills_agree d n guard.branch i k settled.solution.numbers branch.lawful branch.tame branch.split) f g
        ∙ edge.strongest_constant d chains level clean p events body is g m n m settled.solution.numbers other.solution.numbers guard found i k may lasts
