-- Steps of data and of gates: registers stay, known or not, and what an active reset gives is there.
use Rattle.std.proofs.Common.{◌≡◌, ◌≢◌, ◌∙◌, ℕ, Bool, false, cond, List, [], ◌∷◌, Option, None, Some, refl, sym, ap, subst}
use Rattle.std.specs.Prelude.{IsTrue}
use Rattle.std.specs.List.{All}
use Rattle.std.proofs.lemmas.List.Elements.{All-cons, All-head, All-nil, All-tail}
use Rattle.rtl_flat.specs.Flows.{body_flow}
use Rattle.rtl_flat.specs.Paths.{MayWrite}
use Rattle.rtl_flat.specs.Process.{Watched, Actions, Edge'}
use Rattle.event_model.specs.Queue.{State, IsAtRest, doing_at, happens, is_input, offer}
use Rattle.rtl_flat.specs.Flats.{Flat, widths}
use Rattle.event_model.specs.Traces.{Same}
use Rattle.event_model.specs.Writes.{Values}
use Rattle.net_model.specs.declared.fill.Fill.{Fill}
use Rattle.net_model.specs.Block.{block_bit}
use Rattle.net_model.specs.Control.{IsClockOrReset}
use Rattle.net_model.specs.Cycle.{Chain, Data, Guard, IsCycle, Setting, Turn, clocked_bit, given_after, item_bit, register_bit, reset_bit, strongest}
use Rattle.net_model.specs.Numbers.{AreNumbers, bit}
use Rattle.net_model.specs.Solution.{IsLasting, IsRegisterBit, IsSolution}
use Rattle.sign_cycles.specs.event_edges.Quiet.{SetData}
use Rattle.sign_cycles.specs.event_edges.Synchronous.{IsItem}
use Rattle.sign_cycles.proofs.event_edges_proofs.Hearing.{happens_same}
use Rattle.sign_cycles.proofs.event_edges_proofs.Laws.{at_data, data_quiet}
use Rattle.sign_cycles.proofs.event_edges_proofs.Moves.{set_wide}
use Rattle.sign_cycles.specs.net_rest.event_runs.Nets.{given_with}
use Rattle.sign_cycles.specs.net_rest.Rest.{IsHeldBit}
use Rattle.sign_cycles.proofs.net_rest_proofs.event_runs_proofs.Inputs.{offer_is, orderly_offer}
use Rattle.sign_cycles.proofs.net_rest_proofs.Rest.{held_as}
use Rattle.net_covers.specs.Marks.{AreMarks}
use Rattle.sign_cycles.specs.Agree.{AreReset, IsNext}
use Rattle.sign_cycles.specs.Formed.{IsCleanClocked}
use Rattle.sign_cycles.proofs.Chains.{strongest_same}
use Rattle.sign_cycles.proofs.DataSteps.{SetsUnclocked, given_pairs, pairs}
use Rattle.sign_cycles.proofs.Edges.{of_clock, of_items, stay_reset, strongest_constant}
use Rattle.sign_cycles.proofs.Held.{Leave, given_left}
use Rattle.sign_unknown.proofs.Cone.{items_same}
use Rattle.sign_unknown.proofs.Kept.{IsKept, kept_next, kept_way, next_idle, tells_move}

-- what sets no clock leaves clocks
unclocked_leave : (d : Flat) (all : List Setting) → All (SetsUnclocked d) all → (c : ℕ) → IsClockOrReset d c → Leave c all
unclocked_leave d [] set c clock = All-nil (λ (one : Setting). one.input ≢ c)
unclocked_leave d (setting ∷ all) set c clock =
    All-cons (λ (one : Setting). one.input ≢ c) setting all
    (λ same. (All-head (SetsUnclocked d) setting all set).0.no_clock (subst (IsClockOrReset d) (sym same) clock))
    (unclocked_leave d all (All-tail (SetsUnclocked d) setting all set) c clock)

-- after a step of one clock, reset or gate, registers whose resets are active have their constants
pub turn_reset :
    (d : Flat) (chains : ℕ → Chain) (level : ℕ → ℕ) → IsCleanClocked d chains level → (f : Fill) (n m : Values) → AreNumbers d n →
    (setting : Setting) → IsCycle d chains f n (Turn setting) m → AreReset d chains f m
turn_reset d chains level clean f n m are setting cycle p events body is guard found i k may lasts =
    cycle.registers p events body is i k may lasts
    ∙ ap (λ (o : Option Guard). reset_bit (widths d) f n o (clocked_bit (widths d) f n m (chains p).clock (chains p).part i k) i k) found
    ∙ strongest_constant d chains level clean p events body is f m n m are cycle.rest.numbers guard found i k may lasts

module _ (d : Flat) (chains : ℕ → Chain) (level : ℕ → ℕ) (clean : IsCleanClocked d chains level) (f : Fill) (Doubt : ℕ → Type 0) (marks : AreMarks d Doubt) (s : State) (n : Values) (kept : IsKept d chains f Doubt s n) (all : List Setting) (set : All (SetsUnclocked d) all) (given : SetData d (pairs all)) (t : State) (next : IsNext d s all t) (held : (i k : ℕ) → IsHeldBit d (given_with n (pairs all)) i k → Same t.value s.value i k) where
  -- registers have what they had
  register_stays : (i k : ℕ) → IsRegisterBit d i k → Same t.value s.value i k
  register_stays i k register =
      let offers = offer_is s (pairs all) in
      ap (λ (u : State). bit u.value i k) (sym next.reaches.leads)
      ∙ at_data d clean.synchronous (offer s (pairs all)) next.reaches.events next.reaches.can
      (orderly_offer d s (pairs all) (set_wide d (pairs all) given) (kept_way d level clean.solvable chains f Doubt s n kept).orderly)
      (data_quiet d clean.synchronous s (pairs all) kept.rest given)
      (ap (λ (u : State). u.activated) offers ∙ kept.rest.no_active.updates)
      (ap (λ (u : State). u.delayed) offers ∙ kept.rest.no_delayed)
      (subst (IsAtRest d) (sym next.reaches.leads) next.rest) register.process register.events register.body register.does i k register.may
      ∙ ap (λ (u : State). bit u.value i k) offers

  module _ (m : Values) (inputs : (i : ℕ) → IsTrue (is_input d i) → m i ≡ given_after n all i) (solution : IsSolution d f n m m) where
    old : AreNumbers d n
    old = kept.solution.numbers

    pub items : (p : ℕ) (events : List Watched) (body : Actions) (item : Watched) → IsItem d p events body item → item_bit m item ≡ item_bit n item
    items =
        items_same d clean.synchronous m n solution.numbers.wide old.wide (next_idle d level clean.solvable f n m old solution).driven
        (next_idle d level clean.solvable f n n old kept.solution).driven
        (λ c clock. inputs c clock.input ∙ ap (λ (v : Values). v c) (sym (given_pairs n all)) ∙ given_left n c all (unclocked_leave d all set c clock))

    -- no clock fires, and what an active reset gives is there
    pub register_same :
        (p : ℕ) (events : List Watched) (body : Actions) → doing_at d p ≡ Some (Edge' events body) →
        (i k : ℕ) → MayWrite (body_flow (widths d) body) i k → IsLasting d i → register_bit (widths d) f n m (chains p) i k ≡ bit n i k
    register_same p events body is i k may lasts =
        ap (λ (o : Option Guard). reset_bit (widths d) f n o (clocked_bit (widths d) f n m clock (chains p).part i k) i k) same
        ∙ by_guard (strongest n (chains p).resets) refl
      where
        clock : Watched
        clock = (chains p).clock

        same : strongest m (chains p).resets ≡ strongest n (chains p).resets
        same =
            strongest_same d m n (chains p).resets
            (of_items d chains level clean p events body is (λ (item : Watched). item_bit m item ≡ item_bit n item) (items p events body))

        quiet : happens clock.edge (item_bit n clock) (item_bit m clock) ≡ false
        quiet =
            ap (happens clock.edge (item_bit n clock)) (of_clock d chains level clean p events body is (λ (item : Watched). item_bit m item ≡ item_bit n item) (items p events body))
            ∙ happens_same clock.edge (item_bit n clock)

        by_guard : (o : Option Guard) → strongest n (chains p).resets ≡ o → reset_bit (widths d) f n o (clocked_bit (widths d) f n m clock (chains p).part i k) i k ≡ bit n i k
        by_guard None e =
            ap (λ (x : Bool). cond x (block_bit (widths d) f n (chains p).part i k) (bit n i k)) quiet
        by_guard (Some guard) e = sym (kept.resets p events body is guard e i k may lasts)

    -- so the state is beside the numbers that follow
    pub unclocked : AreReset d chains f m → ((i k : ℕ) → IsRegisterBit d i k → Same m n i k) → IsKept d chains f Doubt t m
    unclocked resets registers =
        kept_next d level clean.solvable chains f Doubt s n kept all (set_wide d (pairs all) given) t next m marks inputs solution resets
        (λ i k register.
        tells_move Doubt s.value n t.value m i k (register_stays i k register) (registers i k register) (kept.tells i k register.lasting))
        (λ i k is.
        held i k (held_as d level clean.solvable m (given_with n (pairs all)) (λ j input. inputs j input ∙ ap (λ (v : Values). v j) (sym (given_pairs n all))) i k is))

  -- ---- data, and a gate

  pub data_kept : (m : Values) → IsCycle d chains f n (Data all) m → IsKept d chains f Doubt t m
  data_kept m cycle =
      let registers : (i k : ℕ) → IsRegisterBit d i k → Same m n i k = λ i k register. cycle.registers register.process register.events register.body register.does i k register.may register.lasting in
      unclocked m cycle.inputs cycle.rest
      (stay_reset d chains level clean f n m kept.solution.numbers cycle.rest.numbers (items m cycle.inputs cycle.rest) registers kept.resets) registers

  pub gate_kept : (setting : Setting) → all ≡ setting ∷ [] → (m : Values) → IsCycle d chains f n (Turn setting) m → IsKept d chains f Doubt t m
  gate_kept setting one m cycle =
      let inputs : (i : ℕ) → IsTrue (is_input d i) → m i ≡ given_after n all i = λ i is. cycle.inputs i is ∙ ap (λ (some : List Setting). given_after n some i) (sym one) in
      unclocked m inputs cycle.rest (turn_reset d chains level clean f n m kept.solution.numbers setting cycle) (λ i k register.
      cycle.registers register.process register.events register.body register.does i k register.may register.lasting
      ∙ register_same m inputs cycle.rest register.process register.events register.body register.does i k register.may register.lasting)
