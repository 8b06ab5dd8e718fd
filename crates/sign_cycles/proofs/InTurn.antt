-- Where no clock fires, inputs that are set one after another lead to the same numbers as all at once.
use Rattle.std.proofs.Common.{◌≡◌, ◌∙◌, ◌⊎◌, ℕ, Bool, true, false, cond, List, [], ◌∷◌, get_or, Option, None, Some, refl, sym, ap, subst, inl, inr}
use Rattle.std.specs.Prelude.{IsTrue}
use Rattle.std.specs.List.{All}
use Rattle.std.proofs.lemmas.Bool.{cases_eq, cond-true}
use Rattle.std.proofs.lemmas.List.Elements.{All-head, All-tail}
use Rattle.rtl_bits.specs.declared.Bit.{Bit}
use Rattle.rtl_bits.specs.declared.Bit.TheVariants.{X}
use Rattle.rtl_bits.specs.Bits.{same_bit}
use Rattle.rtl_flat.specs.Flows.{body_flow}
use Rattle.rtl_flat.specs.Paths.{MayWrite}
use Rattle.rtl_flat.specs.Process.{Watched, Actions, Edge'}
use Rattle.event_model.specs.Queue.{doing_at, happens, is_input}
use Rattle.rtl_flat.specs.Flats.{Flat, widths}
use Rattle.event_model.specs.Traces.{Same}
use Rattle.event_model.specs.Writes.{Values, put}
use Rattle.event_edges.proofs.event_laws_proofs.Lengths.{put_at, put_other}
use Rattle.net_model.specs.declared.fill.Fill.{Fill}
use Rattle.net_model.specs.Block.{block_bit}
use Rattle.net_model.specs.Control.{IsClockOrReset, IsFromTop}
use Rattle.net_model.specs.Cycle.{Chain, Data, Guard, IsCycle, Setting, Step, Turn, given_after, is_active, item_bit, level, register_bit, reset_bit, settings, strongest}
use Rattle.net_model.specs.Gates.{IsGateInput, IsLatchBit, is_open}
use Rattle.net_model.specs.Lawful.{AreLawfulSteps, IsLawfulStep}
use Rattle.net_model.specs.Numbers.{AreNumbers, bit}
use Rattle.net_model.specs.Solution.{IsLasting, IsSolution}
use Rattle.net_model.proofs.Gates.{gate_is_input}
use Rattle.event_edges.specs.Synchronous.{IsItem}
use Rattle.event_edges.proofs.Cone.{item_clock}
use Rattle.event_edges.proofs.Hearing.{happens_same}
use Rattle.net_rest.specs.Rest.{AreGivenAlike, AreHeld, IsHeldBit}
use Rattle.net_rest.proofs.Laws.{alone}
use Rattle.net_rest.proofs.Rest.{latch_keeps}
use Rattle.sign_cycles.specs.Agree.{AreCycles, AreReset, AreSame}
use Rattle.sign_cycles.specs.Formed.{IsCleanClocked}
use Rattle.sign_cycles.specs.Unfired.{AreInTurn, IsCycleAtOnce, IsUnfiredStep, SetsTo, last_of}
use Rattle.sign_cycles.proofs.Alone.{reached_number}
use Rattle.sign_cycles.proofs.Beside.{given_leaves}
use Rattle.sign_cycles.proofs.BringUp.{only_one}
use Rattle.sign_cycles.proofs.Chains.{strongest_same}
use Rattle.sign_cycles.proofs.DataSteps.{given_pairs}
use Rattle.sign_cycles.proofs.Edges.{of_clock, of_items, strongest_constant}
use Rattle.sign_cycles.proofs.Held.{gates_left, given_left, latch_gate}
use Rattle.sign_cycles.proofs.Resets as reset

-- inputs that are set to what they are at the end stay, or are so
towards : (end v : Values) (all : List Setting) → All (λ (setting : Setting). setting.number ≡ end setting.input) all → (i : ℕ) → (given_after v all i ≡ v i) ⊎ (given_after v all i ≡ end i)
towards end v [] to i = inl refl
towards end v (setting ∷ all) to i =
    elim (towards end (put v setting.input setting.number) all (All-tail (λ (one : Setting). one.number ≡ end one.input) setting all to) i) [
      | inr e ↦ inr e
      | inl e ↦
          elim (cases_eq i setting.input) [
            | inl same ↦
                inr (e ∙ put_at v setting.input i setting.number same ∙ All-head (λ (one : Setting). one.number ≡ end one.input) setting all to ∙ ap end (sym same))
            | inr other ↦ inl (e ∙ put_other v setting.input i setting.number other)
          ]
    ]

module _ (d : Flat) (chains : ℕ → Chain) (level_of : ℕ → ℕ) (clean : IsCleanClocked d chains level_of) (f : Fill) (n : Values) (solution : IsSolution d f n n n) (reset_at : AreReset d chains f n) (all : List Setting) (unfired : IsUnfiredStep d chains n all) where
  abbrev end : Values
  end = given_after n all

  end_gate : (g : ℕ) → IsGateInput d g → end g ≡ n g
  end_gate g gate =
      ap (λ (v : Values). v g) (sym (given_pairs n all)) ∙ given_left n g all (gates_left d all unfired.ungated g gate)

  -- ---- clocks and resets in numbers

  module _ (p : ℕ) (events : List Watched) (body : Actions) (is : doing_at d p ≡ Some (Edge' events body)) where
    module _ (item : Watched) (here : IsItem d p events body item) where
      top : IsFromTop d item.signal
      top = clean.synchronous.clocks p events body item here

      top_clock : IsClockOrReset d top.top
      top_clock = item_clock d clean.synchronous p events body item here top.top top.input top.reached

      -- an item has its input's bit
      at_top : (held v : Values) → IsSolution d f held v v → item_bit v item ≡ bit v top.top 0
      at_top held v solved = reached_number d clean.synchronous f held v v solved top.top top_clock item.signal top.reached

      item_same : (held v held' u : Values) → IsSolution d f held v v → IsSolution d f held' u u → v top.top ≡ u top.top → item_bit v item ≡ item_bit u item
      item_same held v held' u one other same =
          at_top held v one ∙ ap (λ (bits : List Bit). get_or bits 0 X) same ∙ sym (at_top held' u other)

    abbrev clock : Watched
    clock = (chains p).clock

    clock_item : IsItem d p events body clock
    clock_item = of_clock d chains level_of clean p events body is (IsItem d p events body) (λ one here. here)

    -- the clock doesn't fire
    quiet :
        (held v held' u : Values) → IsSolution d f held v v → IsSolution d f held' u u →
        ((c : ℕ) → IsClockOrReset d c → (u c ≡ v c) ⊎ ((v c ≡ n c) × (u c ≡ end c))) →
        happens (chains p).clock.edge (item_bit v (chains p).clock) (item_bit u (chains p).clock) ≡ false
    quiet held v held' u one other goes =
        elim (goes (top clock clock_item).top (top_clock clock clock_item)) [
          | inl same ↦
              ap (happens clock.edge (item_bit v clock)) (sym (item_same clock clock_item held v held' u one other (sym same)))
              ∙ happens_same clock.edge (item_bit v clock)
          | inr turned ↦
              ap (λ (x : Bit). happens clock.edge x (item_bit u clock)) (at_top clock clock_item held v one ∙ ap (λ (bits : List Bit). get_or bits 0 X) turned.0)
              ∙ ap (happens clock.edge (bit n (top clock clock_item).top 0)) (at_top clock clock_item held' u other ∙ ap (λ (bits : List Bit). get_or bits 0 X) turned.1)
              ∙ unfired.no_clock p events body is (top clock clock_item).top (top_clock clock clock_item) (top clock clock_item).reached
        ]

    -- so registers stay but for their resets
    unclocked :
        (held v held' u : Values) → IsSolution d f held v v → IsSolution d f held' u u →
        ((c : ℕ) → IsClockOrReset d c → (u c ≡ v c) ⊎ ((v c ≡ n c) × (u c ≡ end c))) →
        (i k : ℕ) → register_bit (widths d) f v u (chains p) i k ≡ reset_bit (widths d) f v (strongest u (chains p).resets) (bit v i k) i k
    unclocked held v held' u one other goes i k =
        ap (λ (x : Bool). reset_bit (widths d) f v (strongest u (chains p).resets) (cond x (block_bit (widths d) f v (chains p).part i k) (bit v i k)) i k)
        (quiet held v held' u one other goes)

    -- where the resets are the same, the strongest is
    resets_same :
        (held v held' u : Values) → IsSolution d f held v v → IsSolution d f held' u u → ((c : ℕ) → IsClockOrReset d c → v c ≡ u c) →
        strongest v (chains p).resets ≡ strongest u (chains p).resets
    resets_same held v held' u one other same =
        strongest_same d v u (chains p).resets
        (of_items d chains level_of clean p events body is (λ (item : Watched). item_bit v item ≡ item_bit u item)
        (λ item here. item_same item here held v held' u one other (same (top item here).top (top_clock item here))))

  -- ---- numbers on the way

  -- inputs are as they were or as they will be, registers have what an active reset gives or what they had, and latches hold
  record IsOnWay (m : Values) : Type 0 where
    held : Values
    held_are : AreNumbers d held
    holds : AreHeld d held m
    solved : IsSolution d f held m m
    inputs : (i : ℕ) → IsTrue (is_input d i) → (m i ≡ n i) ⊎ (m i ≡ end i)
    registers :
        (p : ℕ) (events : List Watched) (body : Actions) → doing_at d p ≡ Some (Edge' events body) →
        (i k : ℕ) → MayWrite (body_flow (widths d) body) i k → IsLasting d i →
        bit m i k ≡ reset_bit (widths d) f n (strongest m (chains p).resets) (bit n i k) i k
    latches : (i k : ℕ) (latch : IsLatchBit d i k) → is_open n latch.gate ≡ false → Same m n i k

  begins : IsOnWay n
  begins =
      record {
        held = n;
        held_are = solution.numbers;
        holds = λ i k is. refl;
        solved = solution;
        inputs = λ i input. inl refl;
        registers = λ p events body is i k may lasts. at_first p events body is i k may lasts (strongest n (chains p).resets) refl;
        latches = λ i k latch closed. refl;
      }
    where
      at_first :
          (p : ℕ) (events : List Watched) (body : Actions) → doing_at d p ≡ Some (Edge' events body) →
          (i k : ℕ) → MayWrite (body_flow (widths d) body) i k → IsLasting d i → (o : Option Guard) → strongest n (chains p).resets ≡ o →
          bit n i k ≡ reset_bit (widths d) f n o (bit n i k) i k
      at_first p events body is i k may lasts None e = refl
      at_first p events body is i k may lasts (Some guard) e = reset_at p events body is guard e i k may lasts

  gate_kept : (m : Values) → IsOnWay m → (g : ℕ) → IsGateInput d g → m g ≡ n g
  gate_kept m way g gate =
      elim (way.inputs g (gate_is_input d g gate)) [
        | inl same ↦ same
        | inr at_end ↦ at_end ∙ end_gate g gate
      ]

  -- ---- one step

  module _ (m : Values) (way : IsOnWay m) (m' : Values) (solved : IsSolution d f m m' m') (moved : (i : ℕ) → IsTrue (is_input d i) → (m' i ≡ m i) ⊎ (m' i ≡ end i)) where
    -- a clock or a reset that changes goes from what it was at first to what it is at the end
    goes : (c : ℕ) → IsClockOrReset d c → (m' c ≡ m c) ⊎ ((m c ≡ n c) × (m' c ≡ end c))
    goes c is_clock =
        elim (moved c is_clock.input) [
          | inl same ↦ inl same
          | inr at_end ↦
              elim (way.inputs c is_clock.input) [
                | inl before ↦ inr (before, at_end)
                | inr there ↦ inl (at_end ∙ sym there)
              ]
        ]

    module _ (p : ℕ) (events : List Watched) (body : Actions) (is : doing_at d p ≡ Some (Edge' events body)) (i k : ℕ) (may : MayWrite (body_flow (widths d) body) i k) (lasts : IsLasting d i) where
      -- a reset that has become inactive was active at first
      was_active : strongest m' (chains p).resets ≡ None → (guard : Guard) → strongest m (chains p).resets ≡ Some guard → strongest n (chains p).resets ≡ Some guard
      was_active none guard found =
          elim (goes (top p events body is guard.item item).top (top_clock p events body is guard.item item)) [
            | inl same ↦
                absurd (let no : ◌≡◌ {A = Option Guard} (Some guard) None = sym (chosen m' (ap (λ (x : Bit). same_bit x (level guard.item.edge)) (item_same p events body is guard.item item m m' way.held m solved way.solved same) ∙ only.1)) ∙ none in cc)
            | inr turned ↦
                chosen n (ap (λ (x : Bit). same_bit x (level guard.item.edge)) (item_same p events body is guard.item item n n way.held m solution way.solved (sym turned.0)) ∙ only.1)
          ]
        where
          only : ((chains p).resets ≡ guard ∷ []) × (is_active m guard.item ≡ true)
          only = only_one d chains level_of clean m (chains p).resets (clean.formed p events body is).one_reset guard found

          item : IsItem d p events body guard.item
          item = reset.item d chains level_of clean f p events body is guard only.0

          chosen : (v : Values) → is_active v guard.item ≡ true → strongest v (chains p).resets ≡ Some guard
          chosen v on = ap (strongest v) only.0 ∙ cond-true (is_active v guard.item) (Some guard) None on

      stays : strongest m' (chains p).resets ≡ None → bit m i k ≡ bit n i k
      stays none = way.registers p events body is i k may lasts ∙ by_guard (strongest m (chains p).resets) refl
        where
          by_guard : (o : Option Guard) → strongest m (chains p).resets ≡ o → reset_bit (widths d) f n o (bit n i k) i k ≡ bit n i k
          by_guard None e = refl
          by_guard (Some guard) e = sym (reset_at p events body is guard (was_active none guard e) i k may lasts)

      by_turn : register_bit (widths d) f m m' (chains p) i k ≡ reset_bit (widths d) f n (strongest m' (chains p).resets) (bit n i k) i k
      by_turn =
          unclocked p events body is way.held m m m' way.solved solved goes i k ∙ by_guard (strongest m' (chains p).resets) refl
        where
          by_guard : (o : Option Guard) → strongest m' (chains p).resets ≡ o → reset_bit (widths d) f m o (bit m i k) i k ≡ reset_bit (widths d) f n o (bit n i k) i k
          by_guard None e = stays e
          by_guard (Some guard) e =
              strongest_constant d chains level_of clean p events body is f m' m n way.solved.numbers solution.numbers guard e i k may lasts

      by_data : ((c : ℕ) → IsClockOrReset d c → m c ≡ m' c) → bit m i k ≡ reset_bit (widths d) f n (strongest m' (chains p).resets) (bit n i k) i k
      by_data same =
          way.registers p events body is i k may lasts
          ∙ ap (λ (o : Option Guard). reset_bit (widths d) f n o (bit n i k) i k) (resets_same p events body is way.held m m m' way.solved solved same)

    inputs_after : (i : ℕ) → IsTrue (is_input d i) → (m' i ≡ n i) ⊎ (m' i ≡ end i)
    inputs_after i input =
        elim (moved i input) [
          | inr at_end ↦ inr at_end
          | inl same ↦
              elim (way.inputs i input) [
                | inl before ↦ inl (same ∙ before)
                | inr there ↦ inr (same ∙ there)
              ]
        ]

    abbrev HaveStepped : Type 0
    HaveStepped =
        (p : ℕ) (events : List Watched) (body : Actions) → doing_at d p ≡ Some (Edge' events body) →
        (i k : ℕ) → MayWrite (body_flow (widths d) body) i k → IsLasting d i →
        bit m' i k ≡ reset_bit (widths d) f n (strongest m' (chains p).resets) (bit n i k) i k

    way_after : HaveStepped → IsOnWay m'
    way_after stepped =
        record {
          held = m;
          held_are = way.solved.numbers;
          holds = λ i k is. sym (latch_keeps d level_of clean.solvable f m m' m' way.solved.numbers solved i k is);
          solved = solved;
          inputs = inputs_after;
          registers = stepped;
          latches = λ i k latch closed.
              latch_keeps d level_of clean.solvable f m m' m' way.solved.numbers solved i k
              (record { latch = latch; closed = ap (λ (bits : List Bit). same_bit (get_or bits 0 X) latch.gate.opens) (gate_after latch.gate.input (latch_gate d i k latch)) ∙ closed })
              ∙ way.latches i k latch closed;
        }
      where
        gate_after : (g : ℕ) → IsGateInput d g → m' g ≡ n g
        gate_after g gate =
            elim (inputs_after g (gate_is_input d g gate)) [
              | inl same ↦ same
              | inr at_end ↦ at_end ∙ end_gate g gate
            ]

  step_after : (m : Values) → IsOnWay m → (given : Values) (step : Step) → IsLawfulStep d given step → SetsTo end step → (m' : Values) → IsCycle d chains f m step m' → IsOnWay m'
  step_after m way given (Data set) lawful to m' cycle =
      let moved = λ (i : ℕ) (input : IsTrue (is_input d i)). subst (λ (x : List Bit). (x ≡ m i) ⊎ (x ≡ end i)) (sym (cycle.inputs i input)) (towards end m set to i) in
      let same = λ (c : ℕ) (is_clock : IsClockOrReset d c). sym (cycle.inputs c is_clock.input ∙ given_leaves d m set lawful c is_clock) in
      way_after m way m' cycle.rest moved
      (λ p events body is i k may lasts.
      cycle.registers p events body is i k may lasts ∙ by_data m way m' cycle.rest moved p events body is i k may lasts same)
  step_after m way given (Turn setting) lawful to m' cycle =
      let moved = λ (i : ℕ) (input : IsTrue (is_input d i)). subst (λ (x : List Bit). (x ≡ m i) ⊎ (x ≡ end i)) (sym (cycle.inputs i input)) (towards end m (setting ∷ []) to i) in
      way_after m way m' cycle.rest moved
      (λ p events body is i k may lasts.
      cycle.registers p events body is i k may lasts ∙ by_turn m way m' cycle.rest moved p events body is i k may lasts)

  all_after :
      (m : Values) → IsOnWay m → (given : Values) (steps : List Step) → AreLawfulSteps d given steps → All (SetsTo end) steps →
      (numbers : List Values) → AreCycles d chains f m steps numbers → IsOnWay (last_of m numbers)
  all_after m way given [] lawful to [] follow = way
  all_after m way given [] lawful to (m' ∷ numbers) follow = absurd follow
  all_after m way given (step ∷ steps) lawful to [] follow = absurd follow
  all_after m way given (step ∷ steps) lawful to (m' ∷ numbers) follow =
      all_after m' (step_after m way given step lawful.0 (All-head (SetsTo end) step steps to) m' follow.0) (given_after given (settings step)) steps lawful.1
      (All-tail (SetsTo end) step steps to) numbers follow.1

  -- ---- at the end

  abbrev IsEnd : Values → Type 0
  IsEnd m = (i : ℕ) → IsTrue (is_input d i) → m i ≡ end i

  -- numbers that come to the same inputs are the same
  module _ (m m' : Values) (way : IsOnWay m) (way' : IsOnWay m') (at_end : IsEnd m) (at_end' : IsEnd m') where
    same_inputs : (i : ℕ) → IsTrue (is_input d i) → m i ≡ m' i
    same_inputs i input = at_end i input ∙ sym (at_end' i input)

    -- latches that are closed at the end were closed at first
    closed_first : (v : Values) → IsOnWay v → (i k : ℕ) (is : IsHeldBit d v i k) → is_open n is.latch.gate ≡ false
    closed_first v on i k is =
        ap (λ (bits : List Bit). same_bit (get_or bits 0 X) is.latch.gate.opens) (sym (gate_kept v on is.latch.gate.input (latch_gate d i k is.latch)))
        ∙ is.closed

    alike : AreGivenAlike d m m'
    alike =
        record {
          inputs = same_inputs;
          registers = λ i k register.
              let p = register.process in
              way.registers p register.events register.body register.does i k register.may register.lasting
              ∙ ap (λ (o : Option Guard). reset_bit (widths d) f n o (bit n i k) i k)
              (resets_same p register.events register.body register.does way.held m way'.held m' way.solved way'.solved (λ c is_clock. same_inputs c is_clock.input))
              ∙ sym (way'.registers p register.events register.body register.does i k register.may register.lasting);
          latches = λ i k is.
              let closed = closed_first m way i k is in
              way.latches i k is.latch closed ∙ sym (way'.latches i k is.latch closed);
        }

    same_end : AreSame d m m'
    same_end i k lasts =
        alone d level_of clean.solvable f f way.held way'.held m m' m m' way.held_are way'.held_are way.holds way'.holds alike way.solved way'.solved i k lasts

  -- what is set at once is one step on the way
  at_once : (next : Values) → IsCycleAtOnce d chains f n all next → IsOnWay next
  at_once next cycle =
      let moved = λ (i : ℕ) (input : IsTrue (is_input d i)). inr (cycle.inputs i input) in
      way_after n begins next cycle.rest moved
      (λ p events body is i k may lasts.
      cycle.registers p events body is i k may lasts ∙ by_turn n begins next cycle.rest moved p events body is i k may lasts)

  pub at_once_alone : (next other : Values) → IsCycleAtOnce d chains f n all next → IsCycleAtOnce d chains f n all other → AreSame d next other
  at_once_alone next other cycle cycle' = same_end next other (at_once next cycle) (at_once other cycle') cycle.inputs cycle'.inputs

  pub in_turn_at_once :
      (next : Values) → IsCycleAtOnce d chains f n all next → (steps : List Step) (numbers : List Values) →
      AreInTurn d chains f n all steps numbers → AreSame d (last_of n numbers) next
  in_turn_at_once next cycle steps numbers turns =
      same_end (last_of n numbers) next (all_after n begins n steps turns.lawful turns.to numbers turns.follow) (at_once next cycle) turns.end cycle.inputs
