-- Values at rest are known and solve the equations, and no others do.
use Rattle.std.proofs.Common.{◌≡◌, ◌∙◌, ◌<◌, ℕ, true, false, List, Option, Some, get_or, refl, sym, ap, inl, inr, arith}
use Rattle.std.specs.Prelude.{◌⊎◌, IsTrue}
use Rattle.std.proofs.lemmas.Bool.{cases_Bool, false_from_ne_true, or_from, or_left}
use Rattle.std.proofs.lemmas.List.{ext_get_or}
use Rattle.rtl_bits.specs.declared.Bit.TheVariants.{X}
use Rattle.rtl_bits.specs.Bit.{is_unknown}
use Rattle.rtl_bits.specs.Bits.{has_unknown, same_bit}
use Rattle.rtl_flat.specs.Expression.{Tree}
use Rattle.rtl_flat.specs.Flows.{body_flow, flow_of, may_target}
use Rattle.rtl_flat.specs.Levels.{HasNoEdge}
use Rattle.rtl_flat.specs.Paths.{MayWrite, ReadsOutside, may_write}
use Rattle.rtl_flat.specs.Process.{Actions, Assign, Comb, Doing, Edge', Piece, Watched}
use Rattle.rtl_flat.specs.Value.{value}
use Rattle.rtl_flat.proofs.Paths.{decided}
use Rattle.event_model.specs.Queue.{doing_at, is_input}
use Rattle.rtl_flat.specs.Flats.{Flat, widths}
use Rattle.event_model.specs.Traces.{FollowsPath, Same}
use Rattle.event_model.specs.Writes.{Values, driven}
use Rattle.event_runs.specs.event_laws.Steady.{HaveWidths}
use Rattle.event_runs.specs.event_laws.Laws.{after_body}
use Rattle.event_runs.proofs.event_laws_proofs.Laws.{writes_inside}
use Rattle.net_model.specs.declared.fill.Fill.{Fill}
use Rattle.net_model.specs.declared.fill.Fill.TheVariants as fill
use Rattle.net_model.specs.Block.{block_bit}
use Rattle.net_model.specs.Gates.{Gate, IsAdmitted, IsLatchBit, is_open}
use Rattle.net_model.specs.Numbers.{AreNumbers, bit, digits}
use Rattle.net_model.specs.Solution.{IsLasting, IsRegisterBit, IsSolution, start}
use Rattle.event_runs.specs.Plain.{IsConsistent}
use Rattle.event_runs.proofs.Signals.{net_variable, target_may, target_net}
use Rattle.event_runs.proofs.Writers.{from_process, to_process}
use Rattle.net_laws.proofs.Known.{KnownBit, known_at}
use Rattle.net_rest.specs.Rest.{AreAlike, AreGiven, AreGivenAlike, AreHeld, IsGated, IsHeldBit, IsIdle, IsSolvable, is_written, numbers_of}
use Rattle.net_rest.proofs.Computing.{after_known, after_same, closed_bit, closed_stays, computed_bit, driven_known, others_stay, takes_path, value_digits, value_known, value_same}
use Rattle.net_rest.proofs.Latches.{IsLive, carried, live_as}
use Rattle.net_rest.proofs.Levels.{assign_reads, by_level, read_inside, read_lasts}
use Rattle.net_rest.proofs.Numbers.{are_numbers, has_source, number_fill, number_same, past_ends, writer_of}

module _ (d : Flat) (level : ℕ → ℕ) (solvable : IsSolvable d level) where
  -- a net is no temporary
  pub net_lasts : (p : ℕ) (target : List Piece) (e : Tree) → doing_at d p ≡ Some (Assign target e) → (i k : ℕ) → may_target (widths d) target i k ≡ true → IsLasting d i
  net_lasts p target e here i k is temporary =
      net_variable d i (target_net d solvable.lawful p target e here i k is) temporary.of_process.variable

  -- a register bit lies inside its signal
  pub register_inside : (i k : ℕ) → IsRegisterBit d i k → k < widths d i
  register_inside i k is =
      writes_inside d is.body i k (solvable.lawful is.process (Edge' is.events is.body) is.does).2 is.may

  -- a known bit that lasts is its number
  same_number : (f : Fill) (v : Values) (i k : ℕ) → k < widths d i → IsLasting d i → KnownBit (bit v i k) → Same (numbers_of d f v) v i k
  same_number f v i k inside lasts known =
      number_same d f v i k inside (has_source d i k (solvable.sourced i k inside lasts)) known

  -- what a continuous assignment may write is of its target
  pub its_target : (p : ℕ) (target : List Piece) (e : Tree) → doing_at d p ≡ Some (Assign target e) → (i k : ℕ) → MayWrite (flow_of (widths d) (Assign target e)) i k → may_target (widths d) target i k ≡ true
  its_target p target e here i k may =
      target_may d solvable.lawful p target e here i k (to_process MayWrite d p i k (Assign target e) here may)

  -- ---- known bits

  -- what a process reads outside is its number, where it is known
  same_outside :
      (v : Values) (p : ℕ) (does : Doing) → doing_at d p ≡ Some does →
      ((j l : ℕ) → ReadsOutside (flow_of (widths d) does) j l → KnownBit (bit v j l)) →
      (j l : ℕ) → ReadsOutside (flow_of (widths d) does) j l → Same (numbers_of d fill.Zero v) v j l
  same_outside v p does here before j l outside =
      same_number fill.Zero v j l (read_inside d solvable.lawful p does here j l outside) (read_lasts d p does here j l outside) (before j l outside)

  -- a net is known where its driver has the value of its expression and that reads known bits
  pub assign_known :
      (v : Values) → HaveWidths d v → (p : ℕ) (target : List Piece) (e : Tree) → (here : doing_at d p ≡ Some (Assign target e)) →
      ((j l : ℕ) → ReadsOutside (flow_of (widths d) (Assign target e)) j l → KnownBit (bit v j l)) → (i k : ℕ) → may_target (widths d) target i k ≡ true →
      bit v i k ≡ bit (driven (widths d) target (value v e)) i k → KnownBit (bit v i k)
  assign_known v wide p target e here before i k is has =
      let numbers = are_numbers d fill.Zero v in
      let same = value_same d level solvable p target e here v (numbers_of d fill.Zero v) wide numbers.wide
      (λ j l reads'. sym (same_outside v p (Assign target e) here before j l (assign_reads (widths d) target e j l reads'))) in
      let known = ap has_unknown same ∙ value_known d level solvable p target e here fill.Zero (numbers_of d fill.Zero v) numbers in
      ap is_unknown has ∙ driven_known d level solvable p target e here v wide known i k is

  -- a block's bit is known where it is no closed latch, is consistent and reads known bits
  pub computed_known :
      (v : Values) → HaveWidths d v → (p : ℕ) (list : Option (List Watched)) (body : Actions) → (here : doing_at d p ≡ Some (Comb list body)) →
      ((j l : ℕ) → ReadsOutside (flow_of (widths d) (Comb list body)) j l → KnownBit (bit v j l)) →
      (FollowsPath (widths d) v body → IsConsistent d v body) → IsLive d v body →
      (i k : ℕ) → MayWrite (body_flow (widths d) body) i k → IsLasting d i → KnownBit (bit v i k)
  computed_known v wide p list body here before consistent live i k may lasts =
      let agree = same_outside v p (Comb list body) here before in
      let numbers = are_numbers d fill.Zero v in
      let follows = takes_path d level solvable p list body here (numbers_of d fill.Zero v) v numbers wide agree in
      ap is_unknown (sym (consistent follows i k lasts))
      ∙ after_known d level solvable p list body here (numbers_of d fill.Zero v) v numbers wide agree
      (live_as d body v (numbers_of d fill.Zero v) (λ j l outside. sym (agree j l outside)) live) i k may lasts

  -- ---- latches that are closed

  -- a process is a latch whose gate is closed
  abbrev pub IsClosed : ℕ → Values → Type 0
  IsClosed p given = (gate : Gate) × IsAdmitted d p gate × (is_open given gate ≡ false)

  -- such a one holds what it may write
  pub held_bit :
      (p : ℕ) (list : Option (List Watched)) (body : Actions) → doing_at d p ≡ Some (Comb list body) → (given : Values) → IsClosed p given →
      (i k : ℕ) → MayWrite (body_flow (widths d) body) i k → IsLasting d i → IsHeldBit d given i k
  held_bit p list body here given (gate, admitted, closed) i k may lasts =
      record {
        latch = record { process = p; gate = gate; admitted = admitted; may = to_process MayWrite d p i k (Comb list body) here may; lasting = lasts };
        closed = closed;
      }

  -- a latch bit is one that its process may write
  pub latch_may : (i k : ℕ) (is : IsLatchBit d i k) → MayWrite (body_flow (widths d) is.admitted.latch.body) i k
  latch_may i k is =
      let latch = is.admitted.latch in
      from_process MayWrite d is.process i k (Comb latch.list latch.body) latch.does is.may

  -- and lies inside its signal
  pub latch_inside : (i k : ℕ) → IsLatchBit d i k → k < widths d i
  latch_inside i k is =
      let latch = is.admitted.latch in
      writes_inside d latch.body i k (solvable.lawful is.process (Comb latch.list latch.body) latch.does).1 (latch_may i k is)

  pub held_inside : (given : Values) (i k : ℕ) → IsHeldBit d given i k → k < widths d i
  held_inside given i k held = latch_inside i k held.latch

  -- each other block is live, where gates have the bits of their inputs
  pub live_by :
      (p : ℕ) (list : Option (List Watched)) (body : Actions) → doing_at d p ≡ Some (Comb list body) → (given v : Values) →
      ((gate : Gate) → IsGated d body gate → bit v gate.signal 0 ≡ bit given gate.input 0) → IsClosed p given ⊎ IsLive d v body
  live_by p list body here given v carries =
      elim ((solvable.computing p list body here).computes) [
        | inl computes ↦ inr (inl computes)
        | inr (gate, admitted) ↦
            let gated = solvable.gated p list body here gate admitted in
            elim (cases_Bool (is_open given gate)) [
              | inl is ↦ inr (inr (gate, gated, ap (λ b. same_bit b gate.opens) (carries gate gated) ∙ is))
              | inr closed ↦ inl (gate, admitted, closed)
            ]
      ]

  -- gates have the bits of their inputs at rest
  pub gate_has : (given v : Values) → IsIdle d given v → (body : Actions) (gate : Gate) → IsGated d body gate → bit v gate.signal 0 ≡ bit given gate.input 0
  gate_has given v idle body gate gated =
      carried d v idle.wide idle.driven gate.input gate.signal gated.behind ∙ ap (λ bits. get_or bits 0 X) (idle.inputs gate.input gated.input)

  -- what is held where inputs are the same
  pub held_as : (given given' : Values) → ((i : ℕ) → IsTrue (is_input d i) → given i ≡ given' i) → (i k : ℕ) → IsHeldBit d given i k → IsHeldBit d given' i k
  held_as given given' same i k is =
      let latch = is.latch.admitted.latch in
      let gated = solvable.gated is.latch.process latch.list latch.body latch.does is.latch.gate is.latch.admitted in
      record {
        latch = is.latch;
        closed = ap (λ bits. same_bit (get_or bits 0 X) is.latch.gate.opens) (sym (same is.latch.gate.input gated.input)) ∙ is.closed;
      }

  -- ---- values at rest

  module _ (given v : Values) (are : AreGiven d given) (idle : IsIdle d given v) where
    input_known : (i k : ℕ) → IsTrue (is_input d i) → k < widths d i → KnownBit (bit v i k)
    input_known i k is inside =
        let size = idle.wide i in
        known_at (v i) k (ap has_unknown (idle.inputs i is) ∙ are.inputs i is) (omega (arith, size, inside))

    register_known : (i k : ℕ) → IsRegisterBit d i k → KnownBit (bit v i k)
    register_known i k is = ap is_unknown (idle.kept i k is) ∙ are.registers i k is

    known_step :
        (p : ℕ) (does : Doing) → doing_at d p ≡ Some does → HasNoEdge does → ((j l : ℕ) → ReadsOutside (flow_of (widths d) does) j l → KnownBit (bit v j l)) →
        (i k : ℕ) → MayWrite (flow_of (widths d) does) i k → IsLasting d i → KnownBit (bit v i k)
    known_step p (Edge' events body) here node before i k may lasts = absurd node
    known_step p (Assign target e) here node before i k may lasts =
        let is = its_target p target e here i k may in
        assign_known v idle.wide p target e here before i k is (idle.driven p target e here i k is)
    known_step p (Comb list body) here node before i k may lasts =
        elim (live_by p list body here given v (gate_has given v idle body)) [
          | inl closed ↦
              let held = held_bit p list body here given closed i k may lasts in
              ap is_unknown (idle.held i k held) ∙ are.latches i k held
          | inr live ↦ computed_known v idle.wide p list body here before (idle.consistent p list body here) live i k may lasts
        ]

    all_known : (i k : ℕ) → k < widths d i → IsLasting d i → KnownBit (bit v i k)
    all_known = by_level d level solvable (λ i k. KnownBit (bit v i k)) input_known register_known known_step

    pub known_at_rest : (f : Fill) → AreAlike d v (numbers_of d f v)
    known_at_rest f i k lasts =
        past_ends d v (numbers_of d f v) idle.wide (are_numbers d f v).wide i k
        (λ inside. sym (same_number f v i k inside lasts (all_known i k inside lasts)))

    -- they solve the equations
    module _ (f : Fill) (held : Values) (held_are : AreNumbers d held) (holds : AreHeld d held given) where
      abbrev n : Values
      n = numbers_of d f v

      outside_same : (p : ℕ) (does : Doing) → doing_at d p ≡ Some does → (j l : ℕ) → ReadsOutside (flow_of (widths d) does) j l → Same n v j l
      outside_same p does here j l outside = sym (known_at_rest f j l (read_lasts d p does here j l outside))

      solved_input : (i : ℕ) → IsTrue (is_input d i) → n i ≡ given i
      solved_input i is =
          ext_get_or X (n i) (v i) ((are_numbers d f v).wide i ∙ sym (idle.wide i))
          (λ k below.
          let size = (are_numbers d f v).wide i in
          let inside : k < widths d i = omega (arith, below, size) in
          number_same d f v i k inside (or_left (is_input d i) (is_written d i k) is) (input_known i k is inside))
          ∙ idle.inputs i is

      solved_assign :
          (p : ℕ) (target : List Piece) (e : Tree) → doing_at d p ≡ Some (Assign target e) → (i k : ℕ) → may_target (widths d) target i k ≡ true →
          bit n i k ≡ bit (driven (widths d) target (digits f n e)) i k
      solved_assign p target e here i k is =
          let numbers = are_numbers d f v in
          let same = value_same d level solvable p target e here v n idle.wide numbers.wide
          (λ j l reads'. sym (outside_same p (Assign target e) here j l (assign_reads (widths d) target e j l reads'))) in
          sym (known_at_rest f i k (net_lasts p target e here i k is))
          ∙ idle.driven p target e here i k is
          ∙ ap (λ bits. bit (driven (widths d) target bits) i k) (same ∙ sym (value_digits d level solvable p target e here f n numbers))

      solved_block :
          (p : ℕ) (list : Option (List Watched)) (body : Actions) → doing_at d p ≡ Some (Comb list body) →
          (i k : ℕ) → MayWrite (body_flow (widths d) body) i k → IsLasting d i → bit n i k ≡ block_bit (widths d) f (start d body held n) body i k
      solved_block p list body here i k may lasts =
          let numbers = are_numbers d f v in
          let agree = outside_same p (Comb list body) here in
          elim (live_by p list body here given v (gate_has given v idle body)) [
            | inl closed ↦
                let is = held_bit p list body here given closed i k may lasts in
                let gated = solvable.gated p list body here closed.0 closed.1 in
                let shut : same_bit (bit n closed.0.signal 0) closed.0.opens ≡ false
                = ap (λ b. same_bit b closed.0.opens) (agree closed.0.signal 0 gated.outside ∙ gate_has given v idle body closed.0 gated) ∙ closed.2 in
                sym (known_at_rest f i k lasts)
                ∙ idle.held i k is
                ∙ sym (holds i k is)
                ∙ sym (closed_bit d level solvable p list body here held n held_are numbers closed.0 gated shut f i k may)
            | inr live ↦
                let follows = takes_path d level solvable p list body here n v numbers idle.wide agree in
                sym (known_at_rest f i k lasts)
                ∙ sym (idle.consistent p list body here follows i k lasts)
                ∙ sym (computed_bit d level solvable p list body here held n held_are numbers f v idle.wide agree (live_as d body v n (λ j l outside. sym (agree j l outside)) live) i k may lasts)
          ]

      pub solved : IsSolution d f held given n
      solved =
          record {
            numbers = are_numbers d f v;
            inputs = solved_input;
            kept = λ i k is.
                same_number f v i k (register_inside i k is) is.lasting (register_known i k is) ∙ idle.kept i k is;
            assigns = solved_assign;
            blocks = solved_block;
            others = λ i k inside no_input none.
                number_fill d f v i k inside
                (or_from (is_input d i) (is_written d i k) no_input
                (false_from_ne_true (is_written d i k) (λ is. let (p, may) = writer_of d i k is in none p may)));
          }

  -- ---- solutions

  module _ (f : Fill) (held given n : Values) (held_are : AreNumbers d held) (solution : IsSolution d f held given n) where
    -- a net has the value of its expression
    net_has : (p : ℕ) (target : List Piece) (e : Tree) → doing_at d p ≡ Some (Assign target e) → (i k : ℕ) → may_target (widths d) target i k ≡ true → bit n i k ≡ bit (driven (widths d) target (value n e)) i k
    net_has p target e here i k is =
        solution.assigns p target e here i k is
        ∙ ap (λ bits. bit (driven (widths d) target bits) i k) (value_digits d level solvable p target e here f n solution.numbers)

    -- so gates have the bits of their inputs
    gate_is : (body : Actions) (gate : Gate) → IsGated d body gate → bit n gate.signal 0 ≡ bit given gate.input 0
    gate_is body gate gated =
        carried d n solution.numbers.wide net_has gate.input gate.signal gated.behind ∙ ap (λ bits. get_or bits 0 X) (solution.inputs gate.input gated.input)

    -- a latch that is closed keeps what is held
    pub latch_keeps : (i k : ℕ) → IsHeldBit d given i k → Same n held i k
    latch_keeps i k is =
        let latch = is.latch.admitted.latch in
        let gated = solvable.gated is.latch.process latch.list latch.body latch.does is.latch.gate is.latch.admitted in
        let may = latch_may i k is.latch in
        let shut : same_bit (bit n is.latch.gate.signal 0) is.latch.gate.opens ≡ false
        = ap (λ b. same_bit b is.latch.gate.opens) (gate_is latch.body is.latch.gate gated) ∙ is.closed in
        solution.blocks is.latch.process latch.list latch.body latch.does i k may is.latch.lasting
        ∙ closed_bit d level solvable is.latch.process latch.list latch.body latch.does held n held_are solution.numbers is.latch.gate gated shut f i k may

    -- a block that isn't closed leaves its bits
    computed_stays :
        (p : ℕ) (list : Option (List Watched)) (body : Actions) → doing_at d p ≡ Some (Comb list body) → IsLive d n body →
        (i k : ℕ) → MayWrite (body_flow (widths d) body) i k → IsLasting d i → Same (after_body d n body) n i k
    computed_stays p list body here live i k may lasts =
        sym (computed_bit d level solvable p list body here held n held_are solution.numbers f n solution.numbers.wide (λ j l outside. refl) live i k may lasts)
        ∙ sym (solution.blocks p list body here i k may lasts)

    block_stays :
        (p : ℕ) (list : Option (List Watched)) (body : Actions) → doing_at d p ≡ Some (Comb list body) →
        (i k : ℕ) → MayWrite (body_flow (widths d) body) i k → IsLasting d i → Same (after_body d n body) n i k
    block_stays p list body here i k may lasts =
        elim (live_by p list body here given n (gate_is body)) [
          | inl closed ↦
              let gated = solvable.gated p list body here closed.0 closed.1 in
              closed_stays d level solvable p list body here closed.0 gated n solution.numbers.wide
              (ap (λ b. same_bit b closed.0.opens) (gate_is body closed.0 gated) ∙ closed.2) i k
          | inr live ↦ computed_stays p list body here live i k may lasts
        ]

    pub solution_rests : AreHeld d held given → IsIdle d given n
    solution_rests holds =
        record {
          wide = solution.numbers.wide;
          inputs = solution.inputs;
          kept = solution.kept;
          held = λ i k is. latch_keeps i k is ∙ holds i k is;
          driven = net_has;
          consistent = λ p list body here follows i k lasts.
              elim (cases_Bool (may_write (body_flow (widths d) body) i k)) [
                | inl may ↦ block_stays p list body here i k ((decided (body_flow (widths d) body) i k).writes.0 may) lasts
                | inr cannot ↦ others_stay d level solvable p list body here n solution.numbers.wide i k cannot
              ];
        }

  -- ---- two solutions

  module _ (f g : Fill) (held held' given given' n m : Values) (held_are : AreNumbers d held) (held_are' : AreNumbers d held') (holds : AreHeld d held given) (holds' : AreHeld d held' given') (alike : AreGivenAlike d given given') (one : IsSolution d f held given n) (other : IsSolution d g held' given' m) where
    -- what is held of one is held of the other
    held_alike : (i k : ℕ) → IsHeldBit d given i k → IsHeldBit d given' i k
    held_alike i k is = held_as given given' alike.inputs i k is

    held_same : (i k : ℕ) → IsHeldBit d given i k → Same n m i k
    held_same i k is =
        latch_keeps f held given n held_are one i k is ∙ holds i k is ∙ alike.latches i k is
        ∙ sym (latch_keeps g held' given' m held_are' other i k (held_alike i k is) ∙ holds' i k (held_alike i k is))

    same_step :
        (p : ℕ) (does : Doing) → doing_at d p ≡ Some does → HasNoEdge does → ((j l : ℕ) → ReadsOutside (flow_of (widths d) does) j l → Same n m j l) →
        (i k : ℕ) → MayWrite (flow_of (widths d) does) i k → IsLasting d i → Same n m i k
    same_step p (Edge' events body) here node before i k may lasts = absurd node
    same_step p (Assign target e) here node before i k may lasts =
        let is = its_target p target e here i k may in
        let same = value_same d level solvable p target e here n m one.numbers.wide other.numbers.wide
        (λ j l reads'. before j l (assign_reads (widths d) target e j l reads')) in
        net_has f held given n held_are one p target e here i k is
        ∙ ap (λ bits. bit (driven (widths d) target bits) i k) same
        ∙ sym (net_has g held' given' m held_are' other p target e here i k is)
    same_step p (Comb list body) here node before i k may lasts =
        elim (live_by p list body here given n (gate_is f held given n held_are one body)) [
          | inl closed ↦ held_same i k (held_bit p list body here given closed i k may lasts)
          | inr live ↦
              sym (block_stays f held given n held_are one p list body here i k may lasts)
              ∙ after_same d level solvable p list body here n m one.numbers other.numbers.wide before live i k may lasts
              ∙ block_stays g held' given' m held_are' other p list body here i k may lasts
        ]

    pub alone : AreAlike d n m
    alone i k lasts =
        past_ends d n m one.numbers.wide other.numbers.wide i k (λ inside.
        by_level d level solvable (Same n m) (λ j l is inside'. ap (λ bits. get_or bits l X) (one.inputs j is ∙ alike.inputs j is ∙ sym (other.inputs j is)))
        (λ j l is. one.kept j l is ∙ alike.registers j l is ∙ sym (other.kept j l is)) same_step i k inside lasts)
