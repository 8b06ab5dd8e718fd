-- The numbers of a netlist after a step, and where it begins, are the same in each bit that lasts.
use Rattle.std.specs.Prelude.{IsTrue}
use Rattle.std.proofs.Common.{◌≡◌, ◌∙◌, ◌<◌, ◌==◌, ℕ, suc, Bool, true, false, cond, if◌then◌else◌, List, [], ◌∷◌, map, length, get_or, All, Option, None, Some, refl, sym, ap, subst, inl, inr, arith}
use Rattle.std.specs.List.{slice_get}
use Rattle.std.specs.Option.{IsSomeAnd}
use Rattle.std.proofs.Math.Path.{fun_ext}
use Rattle.std.proofs.lemmas.List.{ext_get_or}
use Rattle.std.proofs.lemmas.List.Sorted.{All-permutation}
use Rattle.std.proofs.lemmas.Option.{slice_get-get_or}
use Rattle.rtl_bits.specs.declared.Bit.{Bit}
use Rattle.rtl_bits.specs.declared.Bit.TheVariants.{X}
use Rattle.rtl_bits.specs.Bits.{same_bit}
use Rattle.rtl_flat.specs.declared.signal.Kind.{Kind}
use Rattle.rtl_flat.specs.declared.signal.Kind.TheVariants.{TopInput, Net, Var}
use Rattle.rtl_flat.specs.declared.signal.Signal.{Signal}
use Rattle.rtl_flat.specs.Flows.{body_flow}
use Rattle.rtl_flat.specs.Process.{Actions, Edge', Watched}
use Rattle.rtl_flat.specs.WellFormed.{IsBody}
use Rattle.rtl_flat.proofs.Paths.{decided}
use Rattle.event_model.specs.Queue.{doing_at, happens, is_input, is_input_kind, is_input_of}
use Rattle.rtl_flat.specs.Flats.{Flat, widths}
use Rattle.event_model.specs.Writes.{Values, put}
use Rattle.net_model.specs.declared.fill.Fill.{Fill}
use Rattle.net_model.specs.Block.{block_bit}
use Rattle.net_model.specs.Cycle.{Chain, Guard, IsCycle, Setting, Step, Data, Turn, clocked_bit, given_after, is_active, item_bit, level, register_bit, reset_bit, settings, stepped_bit, strongest}
use Rattle.net_model.specs.Numbers.{AreNumbers, bit}
use Rattle.net_model.specs.Solution.{IsLasting, IsSolution}
use Rattle.rtl_rule.specs.declared.rule.Rule.TheVariants.{DerivedClock}
use Rattle.rtl_rule.specs.Parts.{is_clocked, within}
use Rattle.demo_clean.specs.rtl_scan.Arrows.{Among}
use Rattle.demo_clean.specs.check_clocks.Clocks.{IsDerivedClock, events_of}
use Rattle.demo_clean.proofs.chain_laws_proofs.Branches.{IsLawfulGuard, chain_lawful}
use Rattle.rtl_rule.proofs.Lists.{Each, each_from, each_map}
use Rattle.demo_clean.proofs.net_settle_proofs.Carried.{carried}
use Rattle.demo_clean.proofs.net_laws_proofs.Known.{both}
use Rattle.demo_clean.specs.net_list.Chosen.{chains_of}
use Rattle.demo_clean.specs.net_list.Faults.{AreFormed, IsFault}
use Rattle.demo_clean.proofs.net_list_proofs.Formed.{task_of}
use Rattle.demo_clean.specs.net_rest.Rest.{AreAlike}
use Rattle.demo_clean.proofs.net_rest_proofs.Levels.{read_lasts}
use Rattle.demo_clean.specs.net_settle.Settle.{IsSolved}
use Rattle.demo_clean.specs.net_start.Start.{IsStart}
use Rattle.demo_clean.proofs.net_start_proofs.Listed.{all_same}
use Rattle.demo_clean.specs.net_start.Stored.{IsStored}
use Rattle.demo_clean.specs.netlist_eval.Steps.{HasNoCycle, IsBegun, Starts}
use Rattle.demo_laws.proofs.Branches.{IsSafe, chain_safe}
use Rattle.demo_laws.proofs.Held.{late_lasts, same_solutions}
use Rattle.demo_laws.proofs.Live.{same_bit as body_bit}
use Rattle.demo_laws.proofs.Stable.{bit_stable}
use Rattle.demo_clean.proofs.Chains.{are_chains}
use Rattle.demo_laws.specs.Laws.{AreProcesses}
use Rattle.demo_laws.proofs.Lawful.{behind, is_top, lawful_flat}

-- ---- any design

input_var : (kind : Kind) → is_input_kind kind ≡ true → kind ≡ Var → ⊥
input_var TopInput is same = absurd (cc)
input_var Net is same = absurd (cc)
input_var Var is same = absurd (cc)

-- an input is no temporary
pub input_lasts : (d : Flat) (i : ℕ) → IsTrue (is_input d i) → IsLasting d i
input_lasts d i input temporary = by (slice_get d.signals i) input temporary.of_process.variable
  where
    by : (o : Option Signal) → is_input_of o ≡ true → IsSomeAnd o (λ x. x.kind ≡ Var) → ⊥
    by None is none = none
    by (Some signal) is same = input_var signal.kind is same

-- the number of a signal that lasts
pub alike_list : (d : Flat) (n m : Values) → AreNumbers d n → AreNumbers d m → AreAlike d n m → (i : ℕ) → IsLasting d i → n i ≡ m i
alike_list d n m are are' alike i lasts =
    ext_get_or X (n i) (m i) (are.wide i ∙ sym (are'.wide i)) (λ k below. alike i k lasts)

given_same : (n m : Values) (all : List Setting) (i : ℕ) → n i ≡ m i → given_after n all i ≡ given_after m all i
given_same n m [] i e = e
given_same n m (one ∷ others) i e =
    given_same (put n one.input one.number) (put m one.input one.number) others i
    (ap (λ bits. if i == one.input then one.number else bits) e)

strongest_same : (n m : Values) (resets : List Guard) → Each (λ (guard : Guard). item_bit n guard.item ≡ item_bit m guard.item) resets → strongest n resets ≡ strongest m resets
strongest_same n m [] same = refl
strongest_same n m (guard ∷ others) same =
    ap (λ (b : Bit). cond (same_bit b (level guard.item.edge)) (Some guard) (strongest n others)) same.0
    ∙ ap (λ (o : Option Guard). cond (is_active m guard.item) (Some guard) o) (strongest_same n m others same.1)

strongest_each : (P : Guard → Type 0) (n : Values) (resets : List Guard) → Each P resets → (guard : Guard) → strongest n resets ≡ Some guard → P guard
strongest_each P n [] all guard is = absurd (cc)
strongest_each P n (one ∷ others) all guard is = by (strongest_each P n others all.1 guard) (is_active n one.item) is
  where
    by : (strongest n others ≡ Some guard → P guard) → (b : Bool) → cond b (Some one) (strongest n others) ≡ Some guard → P guard
    by rest true found = let same : one ≡ guard = cc in subst P same all.0
    by rest false found = rest found

place_of : (xs : List ℕ) (s : ℕ) → Among xs s → (j : ℕ) × (j < length xs) × (get_or xs j 0 ≡ s)
place_of [] s among = absurd among
place_of (x ∷ xs) s (inl same) = (0, omega arith, sym same)
place_of (x ∷ xs) s (inr later) = let (j, below, is) = place_of xs s later in (suc j, omega (arith, below), is)

-- ---- a design that has a netlist

module _ (design : Flat) (lawful : AreProcesses design) (formed : AreFormed design) (no_cycle : HasNoCycle design) where
  abbrev d : Flat
  d = design

  abbrev chains : ℕ → Chain
  chains = chains_of design

  -- what comes from a top input is the same where inputs are
  items_same :
      (f : Fill) (held given n held' given' m : Values) → IsSolution d f held given n → IsSolution d f held' given' m →
      ((i : ℕ) → IsTrue (is_input d i) → n i ≡ m i) → (p : ℕ) (events : List Watched) (body : Actions) →
      doing_at d p ≡ Some (Edge' events body) → All (λ (item : Watched). item_bit n item ≡ item_bit m item) events
  items_same f held given n held' given' m one other inputs p events body is k e below =
      let item = get_or events k e in
      let (task, there, does) = task_of d.tasks p (Edge' events body) is in
      let found : slice_get (events_of task.does) k ≡ Some item = ap (λ x. slice_get (events_of x) k) does ∙ slice_get-get_or events k e below in
      bit_stable (item_bit n item) (item_bit m item) (λ differ.
      let derived : IsDerivedClock design (within (p, task) item)
      = inl (λ top comes.
      let back = behind design top item.signal comes in
      differ (carried d f held given n one top item.signal back
      ∙ ap (λ bits. get_or bits 0 X) (inputs top (is_top design top comes.input))
      ∙ sym (carried d f held' given' m other top item.signal back))) in
      let fault : IsFault design p task DerivedClock = (k, subst (λ o. IsSomeAnd o (λ one. IsDerivedClock design (within (p, task) one))) (sym found) derived) in
      formed p (record {
        waits = subst (λ o. IsSomeAnd o (λ one. is_clocked one.does ≡ true)) (sym there) (ap is_clocked does);
        rule = DerivedClock;
        fault = subst (λ o. IsSomeAnd o (λ one. IsFault design p one DerivedClock)) (sym there) fault;
      }))

  -- so are the clock and the resets of a process
  record SameItems (n m : Values) (p : ℕ) : Type 0 where
    clock : item_bit n (chains p).clock ≡ item_bit m (chains p).clock
    resets : Each (λ (guard : Guard). item_bit n guard.item ≡ item_bit m guard.item) (chains p).resets

  chain_items : (n m : Values) (p : ℕ) (events : List Watched) (body : Actions) → doing_at d p ≡ Some (Edge' events body) → All (λ (item : Watched). item_bit n item ≡ item_bit m item) events → SameItems n m p
  chain_items n m p events body is all =
      let P = λ (item : Watched). item_bit n item ≡ item_bit m item in
      let each = each_from P ((chains p).clock ∷ map (λ (guard : Guard). guard.item) (chains p).resets) (All-permutation P events ((chains p).clock ∷ map (λ (guard : Guard). guard.item) (chains p).resets) (are_chains design lawful formed p events body is).items all) in
      record { clock = each.0; resets = each_map P (λ (guard : Guard). guard.item) (chains p).resets each.1 }

  -- ---- registers

  module _ (f : Fill) (old old' : Values) (are : AreNumbers d old) (are' : AreNumbers d old') (alike : AreAlike d old old') where
    abbrev Lasts : ℕ → ℕ → Type 0
    Lasts i k = IsLasting d i

    part_same : (part : Actions) → IsBody d.signals part → IsSafe (widths d) Lasts part → (i k : ℕ) → IsLasting d i → block_bit (widths d) f old part i k ≡ block_bit (widths d) f old' part i k
    part_same part lawful safe i k lasts =
        body_bit d f Lasts old old' are are'.wide alike part lawful safe.reads_outside safe.late i k lasts

    module _ (new new' : Values) (p : ℕ) (events : List Watched) (body : Actions) (is : doing_at d p ≡ Some (Edge' events body)) (before : SameItems old old' p) (after : SameItems new new' p) where
      safe_body : IsSafe (widths d) Lasts body
      safe_body = record {
        reads_outside = λ i k h. read_lasts d p (Edge' events body) is i k ((decided (body_flow (widths d) body) i k).outside.0 h);
        late = λ i k h. late_lasts d p (Edge' events body) is i k ((decided (body_flow (widths d) body) i k).late.0 h);
      }

      abbrev chain : Chain
      chain = chains p

      safe : Each (λ (guard : Guard). IsSafe (widths d) Lasts guard.branch) chain.resets × IsSafe (widths d) Lasts chain.part
      safe = chain_safe (widths d) Lasts chain.resets chain.part body (are_chains design lawful formed p events body is).chained safe_body

      sound : Each (IsLawfulGuard d.signals) chain.resets × IsBody d.signals chain.part
      sound = chain_lawful d.signals chain.resets chain.part body (are_chains design lawful formed p events body is).chained (lawful_flat design lawful p (Edge' events body) is).2

      clocked_same : (i k : ℕ) → IsLasting d i → clocked_bit (widths d) f old new chain.clock chain.part i k ≡ clocked_bit (widths d) f old' new' chain.clock chain.part i k
      clocked_same i k lasts =
          ap (λ b. cond (happens chain.clock.edge b (item_bit new chain.clock)) (block_bit (widths d) f old chain.part i k) (bit old i k)) before.clock
          ∙ ap (λ b. cond (happens chain.clock.edge (item_bit old' chain.clock) b) (block_bit (widths d) f old chain.part i k) (bit old i k)) after.clock
          ∙ both (cond (happens chain.clock.edge (item_bit old' chain.clock) (item_bit new' chain.clock))) (block_bit (widths d) f old chain.part i k) (block_bit (widths d) f old' chain.part i k) (bit old i k) (bit old' i k)
          (part_same chain.part sound.1 safe.1 i k lasts) (alike i k lasts)

      register_same : (i k : ℕ) → IsLasting d i → register_bit (widths d) f old new chain i k ≡ register_bit (widths d) f old' new' chain i k
      register_same i k lasts =
          by_guard (strongest new chain.resets) refl (clocked_bit (widths d) f old new chain.clock chain.part i k)
          ∙ ap (λ x. reset_bit (widths d) f old' (strongest new chain.resets) x i k) (clocked_same i k lasts)
          ∙ ap (λ o. reset_bit (widths d) f old' o (clocked_bit (widths d) f old' new' chain.clock chain.part i k) i k) (strongest_same new new' chain.resets after.resets)
        where
          by_guard : (o : Option Guard) → strongest new chain.resets ≡ o → (x : Bit) → reset_bit (widths d) f old o x i k ≡ reset_bit (widths d) f old' o x i k
          by_guard None found x = refl
          by_guard (Some guard) found x =
              part_same guard.branch (strongest_each (IsLawfulGuard d.signals) new chain.resets sound.0 guard found).1
              (strongest_each (λ (one : Guard). IsSafe (widths d) Lasts one.branch) new chain.resets safe.0 guard found) i k lasts

      stepped_same : (step : Step) (i k : ℕ) → IsLasting d i → stepped_bit (widths d) f old new chain step i k ≡ stepped_bit (widths d) f old' new' chain step i k
      stepped_same (Data all) i k lasts = alike i k lasts
      stepped_same (Turn setting) i k lasts = register_same i k lasts

  -- ---- a step

  pub cycle_once :
      (f : Fill) (old old' : Values) → IsSolved d f old → IsSolved d f old' → AreAlike d old old' → (step : Step) (new new' : Values) →
      IsCycle d chains f old step new → IsCycle d chains f old' step new' → AreAlike d new new'
  cycle_once f old old' solved solved' alike step new new' one other =
      same_solutions d (lawful_flat design lawful) no_cycle f old old' new new' new new' are are' alike
      (record {
        inputs = inputs;
        registers = λ i k register.
            let p = register.process in
            let items = items_same f solved.0 old old solved'.0 old' old' solved.1 solved'.1 (λ j input. alike_list d old old' are are' alike j (input_lasts d j input)) p register.events register.body register.does in
            let items' = items_same f old new new old' new' new' one.rest other.rest inputs p register.events register.body register.does in
            one.registers p register.events register.body register.does i k register.may register.lasting
            ∙ stepped_same f old old' are are' alike new new' p register.events register.body register.does
            (chain_items old old' p register.events register.body register.does items)
            (chain_items new new' p register.events register.body register.does items') step i k register.lasting
            ∙ sym (other.registers p register.events register.body register.does i k register.may register.lasting);
      })
      one.rest other.rest
    where
      are : AreNumbers d old
      are = solved.1.numbers

      are' : AreNumbers d old'
      are' = solved'.1.numbers

      inputs : (i : ℕ) → IsTrue (is_input d i) → new i ≡ new' i
      inputs i input =
          one.inputs i input
          ∙ given_same old old' (settings step) i (alike_list d old old' solved.1.numbers solved'.1.numbers alike i (input_lasts d i input))
          ∙ sym (other.inputs i input)

  -- ---- the beginning

  start_once : (f : Fill) (stored tops : List ℕ) (registers inputs : List (List Bit)) (start start' : Values) → ((i : ℕ) → IsTrue (is_input d i) → Among tops i) → IsStart d f stored registers tops inputs start → IsStart d f stored registers tops inputs start' → start ≡ start'
  start_once f stored tops registers inputs start start' tops_are one other =
      fun_ext (λ i. by i (is_input d i) refl)
    where
      by : (i : ℕ) (b : Bool) → is_input d i ≡ b → start i ≡ start' i
      by i true is =
          let (j, below, at) = place_of tops i (tops_are i is) in
          ap start (sym at) ∙ one.inputs_are j below ∙ sym (other.inputs_are j below) ∙ ap start' at
      by i false isnt =
          ext_get_or X (start i) (start' i) (one.numbers.wide i ∙ sym (other.numbers.wide i))
          (λ k below.
          let long = one.numbers.wide i in
          let inside : k < widths d i = omega (arith, below, long) in
          bit_stable (bit start i k) (bit start' i k) (λ differ.
          let not_among : Among stored i → ⊥
          = λ among.
          let (j, below', at) = place_of stored i among in
          let inside' : k < widths d (get_or stored j 0) = subst (λ s. k < widths d s) (sym at) inside in
          differ (ap (λ s. bit start s k) (sym at) ∙ one.registers_are j below' k inside' ∙ sym (other.registers_are j below' k inside') ∙ ap (λ s. bit start' s k) at) in
          differ (one.others i k inside isnt not_among ∙ sym (other.others i k inside isnt not_among))))

  pub begun_once :
      (f : Fill) (registers inputs : List (List Bit)) (n m : Values) →
      IsBegun d chains f registers inputs n → IsBegun d chains f registers inputs m → AreAlike d n m
  begun_once f registers inputs n m one other =
      let stored : other.stored ≡ one.stored = all_same (IsStored d) other.stored one.stored other.are_stored one.are_stored in
      let tops : other.tops ≡ one.tops = all_same (λ s. IsTrue (is_input d s)) other.tops one.tops other.are_tops one.are_tops in
      let start : other.start ≡ one.start
      = sym (start_once f one.stored one.tops registers inputs one.start other.start (λ i input. (one.are_tops.each i).1 input) one.is_start
      (subst (λ xs. IsStart d f xs registers one.tops inputs other.start) stored (subst (λ xs. IsStart d f other.stored registers xs inputs other.start) tops other.is_start))) in
      let starts = subst (λ (u : Values). Starts d chains f u m) start other.starts in
      let same_inputs : (i : ℕ) → IsTrue (is_input d i) → n i ≡ m i = λ i input. one.starts.inputs i input ∙ sym (starts.inputs i input) in
      same_solutions d (lawful_flat design lawful) no_cycle f one.start one.start n m n m one.is_start.numbers one.is_start.numbers (λ i k lasts. refl)
      (record {
        inputs = same_inputs;
        registers = λ i k register.
            let p = register.process in
            let items = items_same f one.start n n one.start m m one.starts.solution starts.solution same_inputs p register.events register.body register.does in
            one.starts.registers p register.events register.body register.does i k register.may register.lasting
            ∙ ap (λ o. reset_bit (widths d) f one.start o (bit one.start i k) i k) (strongest_same n m (chains p).resets (chain_items n m p register.events register.body register.does items).resets)
            ∙ sym (starts.registers p register.events register.body register.does i k register.may register.lasting);
      })
      one.starts.solution starts.solution
