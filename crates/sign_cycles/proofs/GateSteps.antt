-- Steps that set no clock and no reset: data steps, and steps of a latch's gate.
use Rattle.std.proofs.Common.{◌≡◌, ◌≢◌, ◌∙◌, ℕ, Bool, false, cond, List, [], ◌∷◌, Option, None, Some, refl, sym, ap, subst, inr}
use Rattle.std.specs.List.{All}
use Rattle.std.proofs.lemmas.List.Elements.{All-cons, All-head, All-nil, All-tail}
use Rattle.rtl_flat.specs.Flows.{body_flow}
use Rattle.rtl_flat.specs.Paths.{MayWrite}
use Rattle.rtl_flat.specs.Process.{Watched, Actions, Edge'}
use Rattle.event_model.specs.Queue.{State, doing_at, happens}
use Rattle.rtl_flat.specs.Flats.{Flat, widths}
use Rattle.event_model.specs.Traces.{Same}
use Rattle.event_model.specs.Writes.{Values}
use Rattle.net_model.specs.declared.fill.Fill.{Fill}
use Rattle.net_model.specs.Block.{block_bit}
use Rattle.net_model.specs.Cycle.{Chain, Guard, Setting, Turn, clocked_bit, item_bit, register_bit, reset_bit, strongest}
use Rattle.net_model.specs.Gates.{IsGateInput}
use Rattle.net_model.specs.Lawful.{IsSetting, SetsData}
use Rattle.net_model.specs.Numbers.{bit}
use Rattle.net_model.specs.Solution.{IsLasting, IsRegisterBit}
use Rattle.net_model.proofs.Gates.{gate_is_input}
use Rattle.event_edges.specs.event_runs.Nets.{given_with}
use Rattle.net_rest.specs.Rest.{IsHeldBit}
use Rattle.event_edges.specs.Synchronous.{IsItem}
use Rattle.event_edges.proofs.Cone.{item_in_cone}
use Rattle.event_edges.proofs.Hearing.{happens_same}
use Rattle.sign_cycles.specs.Agree.{IsNext, IsSettledKnown}
use Rattle.sign_cycles.specs.Formed.{IsCleanClocked}
use Rattle.sign_cycles.specs.Laws.{DataFollows, DataStaysKnown, IsDataFollowed, IsFollowed}
use Rattle.sign_cycles.specs.Round.{IsSettled}
use Rattle.sign_cycles.proofs.Chains.{strongest_same}
use Rattle.sign_cycles.proofs.DataSteps.{SetsUnclocked, are_settings, cone_stays, data_are_unclocked, pairs, settled_round, to_next}
use Rattle.sign_cycles.proofs.Edges as edge
use Rattle.sign_cycles.proofs.Held.{Leave, gate_no_clock, held_turn, held_unset, latch_gate}
use Rattle.sign_cycles.proofs.Settled.{are_wide}

-- data leave gates
pub data_leave : (d : Flat) (all : List Setting) → All (SetsData d) all → (c : ℕ) → IsGateInput d c → Leave c all
data_leave d [] set c gate = All-nil (λ (one : Setting). one.input ≢ c)
data_leave d (setting ∷ all) set c gate =
    All-cons (λ (one : Setting). one.input ≢ c) setting all
    (λ same. (All-head (SetsData d) setting all set).data_input.no_control (inr (subst (IsGateInput d) (sym same) gate)))
    (data_leave d all (All-tail (SetsData d) setting all set) c gate)

module _ (d : Flat) (chains : ℕ → Chain) (level : ℕ → ℕ) (clean : IsCleanClocked d chains level) (f : Fill) where
  -- so latches that are closed after data hold
  data_held :
      (s : State) (n : Values) → IsSettled d f s n → (all : List Setting) → All (SetsData d) all → (t : State) → IsNext d s all t →
      (i k : ℕ) → IsHeldBit d (given_with n (pairs all)) i k → Same t.value s.value i k
  data_held s n settled all set t next i k is =
      held_unset d chains level clean f s n settled all (are_wide d (pairs all) (are_settings d all (data_are_unclocked d all set))) i k is
      (data_leave d all set is.latch.gate.input (latch_gate d i k is.latch)) t next

  pub data_follows : DataFollows d chains f
  data_follows s n settled all set t next =
      to_next d level clean.solvable clean.synchronous f s n settled all (data_are_unclocked d all set) t next (data_held s n settled all set t next) chains

  -- ---- where registers keep their resets

  module _ (s : State) (n : Values) (known : IsSettledKnown d chains f s n) (all : List Setting) (set : All (SetsUnclocked d) all) (t : State) (next : IsNext d s all t) (holds : (i k : ℕ) → IsHeldBit d (given_with n (pairs all)) i k → Same t.value s.value i k) where
    settled : IsSettled d f s n
    settled = settled_round d chains f s n known

    pub unclocked : IsDataFollowed d chains f n all t
    unclocked = to_next d level clean.solvable clean.synchronous f s n settled all set t next holds chains

    -- clocks and resets stay
    items : (p : ℕ) (events : List Watched) (body : Actions) (item : Watched) → IsItem d p events body item → item_bit unclocked.next item ≡ item_bit n item
    items p events body item here =
        let lasts = edge.item_lasts d chains level clean p events body here.does item here in
        sym (unclocked.settled.shows item.signal 0 lasts)
        ∙ cone_stays d level clean.solvable clean.synchronous f s n settled all set t next holds item.signal 0 (item_in_cone d clean.synchronous p events body item here)
        ∙ settled.shows item.signal 0 lasts

    stays : (i k : ℕ) → IsRegisterBit d i k → bit unclocked.next i k ≡ bit n i k
    stays i k register =
        unclocked.follows.registers register.process register.events register.body register.does i k register.may register.lasting

    pub unclocked_known : IsSettledKnown d chains f t unclocked.next
    unclocked_known =
        edge.settled_known d chains f t unclocked.next unclocked.settled
        (edge.stay_reset d chains level clean f n unclocked.next settled.solution.numbers unclocked.follows.rest.numbers items stays known.resets)

    -- no clock fires, and what an active reset gives is there
    pub register_stays :
        (p : ℕ) (events : List Watched) (body : Actions) → doing_at d p ≡ Some (Edge' events body) →
        (i k : ℕ) → MayWrite (body_flow (widths d) body) i k → IsLasting d i →
        bit n i k ≡ register_bit (widths d) f n unclocked.next (chains p) i k
    register_stays p events body is i k may lasts =
        by_guard (strongest n (chains p).resets) refl
        ∙ ap (λ (o : Option Guard). reset_bit (widths d) f n o (clocked_bit (widths d) f n unclocked.next clock (chains p).part i k) i k) (sym same)
      where
        clock : Watched
        clock = (chains p).clock

        same : strongest unclocked.next (chains p).resets ≡ strongest n (chains p).resets
        same =
            strongest_same d unclocked.next n (chains p).resets
            (edge.of_items d chains level clean p events body is (λ (item : Watched). item_bit unclocked.next item ≡ item_bit n item) (items p events body))

        quiet : happens (chains p).clock.edge (item_bit n (chains p).clock) (item_bit unclocked.next (chains p).clock) ≡ false
        quiet =
            ap (happens clock.edge (item_bit n clock)) (edge.of_clock d chains level clean p events body is (λ (item : Watched). item_bit unclocked.next item ≡ item_bit n item) (items p events body))
            ∙ happens_same clock.edge (item_bit n clock)

        by_guard : (o : Option Guard) → strongest n (chains p).resets ≡ o → bit n i k ≡ reset_bit (widths d) f n o (clocked_bit (widths d) f n unclocked.next (chains p).clock (chains p).part i k) i k
        by_guard None e =
            sym (ap (λ (x : Bool). cond x (block_bit (widths d) f n (chains p).part i k) (bit n i k)) quiet)
        by_guard (Some guard) e = known.resets p events body is guard e i k may lasts

  pub data_known : DataStaysKnown d chains f
  data_known s n known all set t next =
      let set' = data_are_unclocked d all set in
      let holds = data_held s n (settled_round d chains f s n known) all set t next in
      let one = unclocked s n known all set' t next holds in
      record { next = one.next; follows = one.follows; settled = unclocked_known s n known all set' t next holds }

  -- ---- a gate

  pub gate_follows :
      (s : State) (n : Values) → IsSettledKnown d chains f s n → (setting : Setting) → IsGateInput d setting.input → IsSetting d setting →
      (t : State) → IsNext d s (setting ∷ []) t → IsFollowed d chains f n (Turn setting) t
  gate_follows s n known setting gate can_be t next =
      let one = unclocked s n known (setting ∷ []) set t next holds in
      record {
        next = one.next;
        follows = record {
          inputs = one.follows.inputs;
          registers = λ p events body is i k may lasts.
              one.follows.registers p events body is i k may lasts
              ∙ register_stays s n known (setting ∷ []) set t next holds p events body is i k may lasts;
          rest = one.follows.rest;
        };
        settled = unclocked_known s n known (setting ∷ []) set t next holds;
      }
    where
      set : All (SetsUnclocked d) (setting ∷ [])
      set =
          All-cons (SetsUnclocked d) setting [] (record { input = gate_is_input d setting.input gate; no_clock = gate_no_clock d setting.input gate }, can_be)
          (All-nil (SetsUnclocked d))

      holds : (i k : ℕ) → IsHeldBit d (given_with n (pairs (setting ∷ []))) i k → Same t.value s.value i k
      holds i k is = held_turn d chains level clean f s n (settled_round d chains f s n known) setting can_be i k is t next
