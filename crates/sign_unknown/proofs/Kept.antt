-- What is kept from step to step: a state at rest beside numbers that it tells.
use Rattle.std.proofs.Common.{◌≡◌, ◌∙◌, ℕ, true, List, Option, Some, refl, sym, ap, subst, inl, inr}
use Rattle.std.specs.Prelude.{IsTrue, unwrap_or}
use Rattle.std.specs.List.{All}
use Rattle.std.proofs.lemmas.List.Elements.{All-nil}
use Rattle.rtl_bits.specs.Bit.{is_unknown}
use Rattle.rtl_bits.specs.Bits.{same_bit}
use Rattle.rtl_flat.specs.Expression.{Tree}
use Rattle.rtl_flat.specs.Flows.{body_flow}
use Rattle.rtl_flat.specs.Paths.{MayWrite}
use Rattle.rtl_flat.specs.Process.{Actions, Assign, Comb, Piece, Watched}
use Rattle.rtl_flat.specs.Value.{value}
use Rattle.event_model.specs.Queue.{State, IsAtRest, doing_at, is_assignment, is_input, offer, run}
use Rattle.rtl_flat.specs.Flats.{Flat, widths}
use Rattle.event_model.specs.Traces.{FollowsPath, Same}
use Rattle.event_model.specs.Writes.{Values, driven}
use Rattle.net_model.specs.declared.fill.Fill.{Fill}
use Rattle.net_model.specs.Block.{block_bit}
use Rattle.net_model.specs.Cycle.{Chain, Setting, given_after}
use Rattle.net_model.specs.Numbers.{AreNumbers, bit}
use Rattle.net_model.specs.Solution.{IsLasting, IsRegisterBit, IsSolution, start}
use Rattle.sign_cycles.specs.net_rest.event_laws.Steady.{HaveWidths, IsWithin}
use Rattle.sign_cycles.specs.net_rest.event_runs.Nets.{AreWide, given_with}
use Rattle.sign_cycles.specs.net_rest.event_runs.Plain.{IsConsistent}
use Rattle.sign_cycles.proofs.net_rest_proofs.event_runs_proofs.Late.{late_none}
use Rattle.sign_cycles.proofs.net_rest_proofs.event_runs_proofs.Nets.{resolved_from}
use Rattle.sign_cycles.specs.net_rest.Rest.{AreHeld, IsHeldBit, IsIdle, IsSolvable}
use Rattle.sign_cycles.proofs.net_rest_proofs.Computing.{closed_bit, computed_bit}
use Rattle.sign_cycles.proofs.net_rest_proofs.Rest.{gate_has, latch_keeps, live_by, solution_rests}
use Rattle.net_covers.specs.Marks.{AreMarks, Tells}
use Rattle.net_covers.proofs.Rest.{rests_tell}
use Rattle.sign_cycles.specs.Agree.{AreReset, IsNext}
use Rattle.sign_cycles.specs.Round.{IsArrived}
use Rattle.sign_cycles.proofs.DataSteps.{given_pairs, pairs}
use Rattle.sign_cycles.proofs.Settled.{IsUnderWay, arrives, way_offer, way_run}
use Rattle.sign_unknown.specs.Laws.{AreStartMarks}
use Rattle.sign_unknown.specs.Unknown.{IsCompletion, IsSettledPartly}
use Rattle.sign_unknown.proofs.Cone.{Drives}

-- ---- bits

pub tells_move :
    (Doubt : ℕ → Type 0) (v n v' n' : Values) (i k : ℕ) → Same v' v i k → Same n' n i k → Tells Doubt v n i k → Tells Doubt v' n' i k
tells_move Doubt v n v' n' i k here there tells =
    record {
      may = λ known. here ∙ tells.may (ap is_unknown (sym here) ∙ known) ∙ sym there;
      same = λ free. here ∙ tells.same free ∙ sym there;
    }

pub tells_same : (Doubt : ℕ → Type 0) (v n : Values) (i k : ℕ) → Same v n i k → Tells Doubt v n i k
tells_same Doubt v n i k same = record { may = λ known. same; same = λ free. same }

-- ---- states

pub record IsKept (d : Flat) (chains : ℕ → Chain) (f : Fill) (Doubt : ℕ → Type 0) (s : State) (n : Values) : Type 0 where
  pub rest : IsAtRest d s
  pub wide : HaveWidths d s.value
  pub inputs : (i : ℕ) → IsTrue (is_input d i) → s.value i ≡ n i
  pub drivers :
      (p : ℕ) (target : List Piece) (e : Tree) → doing_at d p ≡ Some (Assign target e) → s.driver p ≡ value s.value e
  pub driven : Drives d s.value
  pub consistent :
      (p : ℕ) (list : Option (List Watched)) (body : Actions) → doing_at d p ≡ Some (Comb list body) →
      FollowsPath (widths d) s.value body → IsConsistent d s.value body
  -- each bit that lasts tells the number's
  pub tells : (i k : ℕ) → IsLasting d i → Tells Doubt s.value n i k
  pub solution : IsSolution d f n n n
  pub resets : AreReset d chains f n

module _ (d : Flat) (level : ℕ → ℕ) (solvable : IsSolvable d level) where
  -- numbers after a step stay where nothing changes
  module _ (f : Fill) (n m : Values) (old : AreNumbers d n) (solution : IsSolution d f n m m) where
    pub next_holds : AreHeld d n m
    next_holds i k is = sym (latch_keeps d level solvable f n m m old solution i k is)

    pub next_idle : IsIdle d m m
    next_idle = solution_rests d level solvable f n m m old solution next_holds

    still_block :
        (p : ℕ) (list : Option (List Watched)) (body : Actions) → doing_at d p ≡ Some (Comb list body) →
        (i k : ℕ) → MayWrite (body_flow (widths d) body) i k → IsLasting d i → bit m i k ≡ block_bit (widths d) f (start d body m m) body i k
    still_block p list body here i k may lasts =
        elim (live_by d level solvable p list body here m m (gate_has d level solvable m m next_idle body)) [
          | inl closed ↦
              let gated = solvable.gated p list body here closed.0 closed.1 in
              sym (closed_bit d level solvable p list body here m m solution.numbers solution.numbers closed.0 gated
              (ap (λ b. same_bit b closed.0.opens) (gate_has d level solvable m m next_idle body closed.0 gated) ∙ closed.2) f i k may)
          | inr live ↦
              solution.blocks p list body here i k may lasts
              ∙ computed_bit d level solvable p list body here n m old solution.numbers f m solution.numbers.wide (λ j l outside. refl) live i k may lasts
              ∙ sym (computed_bit d level solvable p list body here m m solution.numbers solution.numbers f m solution.numbers.wide (λ j l outside. refl) live i k may lasts)
        ]

    pub still : IsSolution d f m m m
    still =
        record {
          numbers = solution.numbers;
          inputs = solution.inputs;
          kept = solution.kept;
          assigns = solution.assigns;
          blocks = still_block;
          others = solution.others;
        }

  module _ (chains : ℕ → Chain) (f : Fill) (Doubt : ℕ → Type 0) where
    -- ---- where it begins

    pub kept_start : (s : State) (n : Values) → AreStartMarks d chains Doubt → IsSettledPartly d chains s → IsCompletion d chains f s n → IsKept d chains f Doubt s n
    kept_start s n marks settled completion =
        record {
          rest = settled.rest;
          wide = settled.wide;
          inputs = completion.inputs;
          drivers = settled.drivers;
          driven = settled.driven;
          consistent = λ p list body here follows. settled.consistent p list body here;
          tells = rests_tell d level solvable Doubt marks.marks f n n n s.value s.value completion.solution.numbers (λ i k is. refl) completion.solution
              (record {
                wide = settled.wide;
                inputs = λ i is. refl;
                kept = λ i k is. refl;
                held = λ i k is. refl;
                driven = settled.driven;
                consistent = λ p list body here follows. settled.consistent p list body here;
              })
              completion.inputs
              (λ i k register.
              record {
                may = completion.registers i k (inl register);
                same = λ free.
                    completion.registers i k (inl register) (settled.registers i k register (marks.registers i k register free));
              })
              (λ i k held.
              record {
                may = completion.registers i k (inr held.latch);
                same = λ free. absurd (free (marks.latches i k held.latch));
              });
          solution = completion.solution;
          resets = completion.resets;
        }

    -- ---- on the way from it

    module _ (s : State) (n : Values) (kept : IsKept d chains f Doubt s n) where
      pub kept_idle : IsIdle d s.value s.value
      kept_idle =
          record {
            wide = kept.wide;
            inputs = λ i is. refl;
            kept = λ i k is. refl;
            held = λ i k is. refl;
            driven = kept.driven;
            consistent = kept.consistent;
          }

      pub kept_way : IsUnderWay d n s
      kept_way =
          record {
            orderly = record {
              steady = record {
                within = record {
                  offered = λ i bits input is. absurd (let none = sym is ∙ kept.rest.no_active.inputs i input in cc);
                  activated = rw kept.rest.no_active.updates (All-nil (All (IsWithin (widths d))));
                  delayed = rw kept.rest.no_delayed (All-nil (All (IsWithin (widths d))));
                };
                widths = kept.wide;
                up_to_date = λ p target e here waits.
                    ap (λ o. unwrap_or o (s.driver p)) (kept.rest.no_active.drivers p (ap is_assignment here)) ∙ kept.drivers p target e here;
              };
              late = late_none d s kept.rest.no_active.updates kept.rest.no_delayed;
            };
            resolved = resolved_from d solvable.lawful s solvable.sole (λ p target e here i k is sole.
                kept.driven p target e here i k is
                ∙ ap (λ bits. bit (driven (widths d) target bits) i k) (sym (kept.drivers p target e here)));
            offered = record {
              wide = λ i is. kept.solution.numbers.wide i;
              comes = λ i is.
                  ap (λ o. unwrap_or o (s.value i)) (kept.rest.no_active.inputs i is) ∙ kept.inputs i is;
            };
            ran = λ p. true;
            has_run = λ p. refl;
            still = λ p list body here plain waits ran follows. kept.consistent p list body here follows;
          }

      -- ---- where a step comes to rest

      module _ (all : List Setting) (wide : AreWide d (pairs all)) (t : State) (next : IsNext d s all t) where
        pub kept_arrived : IsArrived d (given_with n (pairs all)) t
        kept_arrived =
            let events = next.reaches.events in
            subst (IsArrived d (given_with n (pairs all))) next.reaches.leads
            (arrives d level solvable (given_with n (pairs all)) (run d (offer s (pairs all)) events)
            (way_run d level solvable (given_with n (pairs all)) (offer s (pairs all)) events next.reaches.can
            (way_offer d level solvable n s (pairs all) wide kept_way))
            (subst (IsAtRest d) (sym next.reaches.leads) next.rest))

        -- it is beside numbers that follow, where it tells those of registers, and closed latches have stayed
        pub kept_next :
            (m : Values) → AreMarks d Doubt → ((i : ℕ) → IsTrue (is_input d i) → m i ≡ given_after n all i) → IsSolution d f n m m → AreReset d chains f m →
            ((i k : ℕ) → IsRegisterBit d i k → Tells Doubt t.value m i k) → ((i k : ℕ) → IsHeldBit d m i k → Same t.value s.value i k) →
            IsKept d chains f Doubt t m
        kept_next m marks inputs solution resets registers latches =
            record {
              rest = arrived.rest;
              wide = arrived.orderly.steady.widths;
              inputs = same_inputs;
              drivers = arrived.drivers;
              driven = arrived.driven;
              consistent = arrived.consistent;
              tells = rests_tell d level solvable Doubt marks f n m m t.value t.value old (next_holds f n m old solution) solution
                  (record {
                    wide = arrived.orderly.steady.widths;
                    inputs = λ i is. refl;
                    kept = λ i k is. refl;
                    held = λ i k is. refl;
                    driven = arrived.driven;
                    consistent = arrived.consistent;
                  })
                  same_inputs registers
                  (λ i k is.
                  tells_move Doubt s.value n t.value m i k (latches i k is) (sym (next_holds f n m old solution i k is)) (kept.tells i k is.latch.lasting));
              solution = still f n m old solution;
              resets = resets;
            }
          where
            old : AreNumbers d n
            old = kept.solution.numbers

            arrived : IsArrived d (given_with n (pairs all)) t
            arrived = kept_arrived

            same_inputs : (i : ℕ) → IsTrue (is_input d i) → t.value i ≡ m i
            same_inputs i is =
                arrived.inputs i is ∙ ap (λ (v : Values). v i) (given_pairs n all) ∙ sym (inputs i is)
