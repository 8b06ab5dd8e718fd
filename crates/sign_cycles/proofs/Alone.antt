-- A step from numbers leads to numbers that are alike, but for temporaries.
use Rattle.std.proofs.Common.{◌≡◌, ◌∙◌, ℕ, cond, List, [], ◌∷◌, get_or, replicate, Option, None, Some, refl, sym, ap, inl}
use Rattle.std.proofs.lemmas.List.{ext_get_or}
use Rattle.rtl_bits.specs.declared.Bit.{Bit}
use Rattle.rtl_bits.specs.declared.Bit.TheVariants.{X, Z}
use Rattle.rtl_bits.specs.Bits.{extended, replaced, selected}
use Rattle.text_ground.specs.declared.text.Spot.{Spot}
use Rattle.rtl_flat.specs.Flows.{body_flow}
use Rattle.rtl_flat.specs.Paths.{MayWrite}
use Rattle.rtl_flat.specs.Process.{Watched, Actions, Assign, Edge'}
use Rattle.event_model.specs.Queue.{doing_at, happens}
use Rattle.rtl_flat.specs.Flats.{Flat, widths}
use Rattle.event_model.specs.Writes.{Values, driven, no_drive}
use Rattle.event_edges.proofs.event_laws_proofs.Lengths.{put_at}
use Rattle.net_model.specs.declared.fill.Fill.{Fill}
use Rattle.net_model.specs.Block.{block_bit}
use Rattle.net_model.specs.Control.{IsClockOrReset, IsPassedOn, IsReached, Itself, Through, whole_of}
use Rattle.net_model.specs.Cycle.{Chain, Data, Guard, IsCycle, Step, Turn, clocked_bit, item_bit, register_bit, reset_bit, settings, stepped_bit, strongest}
use Rattle.net_model.specs.Numbers.{AreNumbers, bit, digits}
use Rattle.net_model.specs.Solution.{IsLasting, IsSolution}
use Rattle.net_rest.proofs.net_laws_proofs.Laws.{tame_depends}
use Rattle.net_rest.specs.Rest.{AreGivenAlike, AreHeld}
use Rattle.net_rest.proofs.Levels.{read_lasts}
use Rattle.net_rest.proofs.Laws.{alone}
use Rattle.net_rest.proofs.Rest.{held_as, latch_keeps}
use Rattle.sign_cycles.proofs.Settled.{input_lasts}
use Rattle.event_edges.specs.Synchronous.{IsItem, IsSynchronous}
use Rattle.event_edges.proofs.Cone.{connection_does, item_clock, whole_bit}
use Rattle.event_edges.proofs.Ports.{one_bit}
use Rattle.sign_cycles.specs.Agree.{AreSame}
use Rattle.sign_cycles.specs.Formed.{IsCleanClocked}
use Rattle.sign_cycles.specs.Laws.{StepsAreAlone}
use Rattle.sign_cycles.proofs.Chains.{part_reads, part_usable, strongest_same}
use Rattle.sign_cycles.proofs.Edges.{item_lasts, of_clock, of_items, strongest_constant, usable}
use Rattle.sign_cycles.proofs.Lists.{GivesAlike, given_alike}

-- ---- clocks and resets in numbers

-- what a driver of one bit gives to its signal
driven_port : (ws : ℕ → ℕ) (j : ℕ) (spot : Spot) (b : Bit) → ws j ≡ 1 → driven ws (whole_of j spot) (b ∷ []) j ≡ b ∷ []
driven_port ws j spot b one =
    put_at (no_drive ws) j j (replaced 0 (selected 0 (ws j) (b ∷ [])) (replicate (ws j) Z)) refl
    ∙ ap (λ (n : ℕ). replaced 0 (selected 0 n (b ∷ [])) (replicate n Z)) one

module _ (d : Flat) (sync : IsSynchronous d) (f : Fill) (held given v : Values) (solution : IsSolution d f held given v) where
  -- the port to which a clock or a reset goes on has its number
  port_number : (c : ℕ) → IsClockOrReset d c → (k j : ℕ) → IsReached d c k → IsPassedOn d k j → bit v j 0 ≡ bit v k 0
  port_number c clock k j reached passed =
      let p = passed.process in
      let spot = passed.connection.spot in
      let is = connection_does d sync k j passed in
      let port = sync.heard p (Assign (whole_of j spot) passed.value) is k passed.alone.bit (record { clock = c; is_clock = clock; reached = reached }) passed.alone.read in
      let source : v k ≡ bit v k 0 ∷ [] = one_bit (v k) (bit v k 0) (solution.numbers.wide k ∙ passed.one_bit) refl in
      solution.assigns p (whole_of j spot) passed.value is j 0 (whole_bit (widths d) j spot passed.port_bit)
      ∙ ap (λ e. bit (driven (widths d) (whole_of j spot) (digits f v e)) j 0) port.link.copy
      ∙ ap (λ l. bit (driven (widths d) (whole_of j spot) (extended 1 port.link.signed l)) j 0) source
      ∙ ap (λ l. get_or l 0 X) (driven_port (widths d) j spot (bit v k 0) passed.port_bit)

  -- all that is reached from a clock or a reset has its number
  pub reached_number : (c : ℕ) → IsClockOrReset d c → (i : ℕ) → IsReached d c i → bit v i 0 ≡ bit v c 0
  reached_number c clock _ Itself = refl
  reached_number c clock _ (Through k j reached passed) =
      port_number c clock k j reached passed ∙ reached_number c clock k reached

-- ---- steps

module _ (d : Flat) (chains : ℕ → Chain) (level : ℕ → ℕ) (clean : IsCleanClocked d chains level) (f : Fill) (n m : Values) (first : AreNumbers d n) (second : AreNumbers d m) (same : AreSame d n m) (step : Step) (next other : Values) (one : IsCycle d chains f n step next) (two : IsCycle d chains f m step other) where
  same_inputs : GivesAlike d n m
  same_inputs i input =
      ext_get_or X (n i) (m i) (first.wide i ∙ sym (second.wide i)) (λ k below. same i k (input_lasts d i input))

  new_inputs : GivesAlike d next other
  new_inputs i input =
      one.inputs i input ∙ given_alike d n m (settings step) same_inputs i input ∙ sym (two.inputs i input)

  module _ (p : ℕ) (events : List Watched) (body : Actions) (is : doing_at d p ≡ Some (Edge' events body)) where
    item_new : (item : Watched) → IsItem d p events body item → item_bit next item ≡ item_bit other item
    item_new item here =
        let top = clean.synchronous.clocks p events body item here in
        let top_clock = item_clock d clean.synchronous p events body item here top.top top.input top.reached in
        reached_number d clean.synchronous f n next next one.rest top.top top_clock item.signal top.reached
        ∙ ap (λ l. get_or l 0 X) (new_inputs top.top top.input)
        ∙ sym (reached_number d clean.synchronous f m other other two.rest top.top top_clock item.signal top.reached)

    item_old : (item : Watched) → IsItem d p events body item → item_bit n item ≡ item_bit m item
    item_old item here = same item.signal 0 (item_lasts d chains level clean p events body is item here)

    module _ (i k : ℕ) (may : MayWrite (body_flow (widths d) body) i k) (lasts : IsLasting d i) where
      part_same : block_bit (widths d) f n (chains p).part i k ≡ block_bit (widths d) f m (chains p).part i k
      part_same =
          let chained = (clean.formed p events body is).chained.chained in
          let part = part_usable d (chains p).resets (chains p).part body chained (usable d chains level clean p events body is) in
          tame_depends d f n m (chains p).part i k first second part.lawful part.tame part.split
          (λ j l outside. same j l (read_lasts d p (Edge' events body) is j l (part_reads d (chains p).resets (chains p).part body chained j l outside)))
          (inl (same i k lasts))

      clocked_same : clocked_bit (widths d) f n next (chains p).clock (chains p).part i k ≡ clocked_bit (widths d) f m other (chains p).clock (chains p).part i k
      clocked_same =
          let clock = (chains p).clock in
          let old : item_bit n clock ≡ item_bit m clock = of_clock d chains level clean p events body is (λ (item : Watched). item_bit n item ≡ item_bit m item) item_old in
          let new : item_bit next clock ≡ item_bit other clock = of_clock d chains level clean p events body is (λ (item : Watched). item_bit next item ≡ item_bit other item) item_new in
          ap (λ (x : Bit). cond (happens clock.edge x (item_bit next clock)) (block_bit (widths d) f n (chains p).part i k) (bit n i k)) old
          ∙ ap (λ (x : Bit). cond (happens clock.edge (item_bit m clock) x) (block_bit (widths d) f n (chains p).part i k) (bit n i k)) new
          ∙ ap (λ (x : Bit). cond (happens clock.edge (item_bit m clock) (item_bit other clock)) x (bit n i k)) part_same
          ∙ ap (λ (x : Bit). cond (happens clock.edge (item_bit m clock) (item_bit other clock)) (block_bit (widths d) f m (chains p).part i k) x) (same i k lasts)

      register_same : register_bit (widths d) f n next (chains p) i k ≡ register_bit (widths d) f m other (chains p) i k
      register_same =
          ap (λ (x : Bit). reset_bit (widths d) f n (strongest next (chains p).resets) x i k) clocked_same
          ∙ by_guard (strongest next (chains p).resets) refl (clocked_bit (widths d) f m other (chains p).clock (chains p).part i k)
          ∙ ap (λ (o : Option Guard). reset_bit (widths d) f m o (clocked_bit (widths d) f m other (chains p).clock (chains p).part i k) i k)
          (strongest_same d next other (chains p).resets (of_items d chains level clean p events body is (λ (item : Watched). item_bit next item ≡ item_bit other item) item_new))
        where
          by_guard : (o : Option Guard) → strongest next (chains p).resets ≡ o → (x : Bit) → reset_bit (widths d) f n o x i k ≡ reset_bit (widths d) f m o x i k
          by_guard None e x = refl
          by_guard (Some guard) e x =
              strongest_constant d chains level clean p events body is f next n m first second guard e i k may lasts

      stepped_same : (step' : Step) → stepped_bit (widths d) f n next (chains p) step' i k ≡ stepped_bit (widths d) f m other (chains p) step' i k
      stepped_same (Data all) = same i k lasts
      stepped_same (Turn setting) = register_same

  -- closed latches keep what they have
  holds : AreHeld d n next
  holds i k is = sym (latch_keeps d level clean.solvable f n next next first one.rest i k is)

  holds_other : AreHeld d m other
  holds_other i k is = sym (latch_keeps d level clean.solvable f m other other second two.rest i k is)

  given_same : AreGivenAlike d next other
  given_same =
      record {
        inputs = new_inputs;
        registers = λ i k register.
            one.registers register.process register.events register.body register.does i k register.may register.lasting
            ∙ stepped_same register.process register.events register.body register.does i k register.may register.lasting step
            ∙ sym (two.registers register.process register.events register.body register.does i k register.may register.lasting);
        latches = λ i k held.
            sym (holds i k held) ∙ same i k held.latch.lasting
            ∙ holds_other i k (held_as d level clean.solvable next other new_inputs i k held);
      }

  step_alone : AreSame d next other
  step_alone =
      alone d level clean.solvable f f n m next other next other first second holds holds_other given_same one.rest two.rest

pub steps_alone : (d : Flat) (chains : ℕ → Chain) (level : ℕ → ℕ) → IsCleanClocked d chains level → (f : Fill) → StepsAreAlone d chains f
steps_alone d chains level clean f n m first second same step next other one two =
    step_alone d chains level clean f n m first second same step next other one two
