-- The numbers with which a solution is worked out, where registers have what their processes give to them.
use Rattle.std.specs.Prelude.{IsTrue}
use Rattle.std.proofs.Common.{◌≡◌, ◌∙◌, ◌<◌, ◌==◌, ℕ, zero, suc, false, cond, if◌then◌else◌, List, [], ◌∷◌, All, length, Option, Some, get_or, refl, sym, ap, subst, arith}
use Rattle.std.specs.List.{slice_get}
use Rattle.std.proofs.lemmas.Bool.{false≢true}
use Rattle.std.proofs.lemmas.List.{ext_get_or, length-map}
use Rattle.std.proofs.lemmas.List.Elements.{All-head, All-tail}
use Rattle.rtl_bits.specs.declared.Bit.{Bit}
use Rattle.rtl_bits.specs.declared.Bit.TheVariants.{Zero, One, X, Z}
use Rattle.rtl_bits.specs.declared.Edge.{Edge}
use Rattle.rtl_bits.specs.declared.Edge.TheVariants.{No, Pos, Neg}
use Rattle.rtl_flat.specs.Flows.{body_flow}
use Rattle.rtl_flat.specs.Paths.{MayWrite}
use Rattle.rtl_flat.specs.PathSets.{OfProcess}
use Rattle.rtl_flat.specs.Process.{Actions, Comb, Edge', Watched}
use Rattle.event_model.specs.declared.setting.Setting.{Setting}
use Rattle.event_model.specs.Queue.{doing_at, happens, is_input}
use Rattle.rtl_flat.specs.Flats.{Flat, widths}
use Rattle.event_model.specs.Traces.{Same}
use Rattle.event_model.specs.Writes.{Values, put}
use Rattle.net_settle.specs.event_laws.Steady.{AreLawful}
use Rattle.net_settle.proofs.event_runs_proofs.Writers.{to_process}
use Rattle.net_model.specs.declared.fill.Fill.{Fill}
use Rattle.net_model.specs.Block.{block_bit}
use Rattle.net_model.specs.Control.{IsBehind}
use Rattle.net_model.specs.Cycle as cycle
use Rattle.net_model.specs.Cycle.{Chain, IsCycle, Turn, clocked_bit, given_after, register_bit, reset_bit, strongest}
use Rattle.net_model.specs.Numbers.{AreNumbers, bit, fill_bit}
use Rattle.net_model.specs.Solution.{IsSolution}
use Rattle.net_list.specs.check_chains.Views.{chain_view}
use Rattle.net_list.specs.declared.clocked.Clocked.{Clocked}
use Rattle.net_settle.proofs.Carried.{carried}
use Rattle.net_settle.proofs.Cycles as cycles
use Rattle.net_settle.specs.Settle.{SetsInput, setting_view}
use Rattle.net_settle.proofs.Given.{given_numbers, given_other}
use Rattle.net_settle.specs.net_solve.Laws.{AreApart, IsBeginning, place}
use Rattle.net_settle.proofs.net_solve_proofs.Worked.{no_input_written}
use Rattle.net_turn.specs.Runs.{ArePut, AreRuns, Run, active_of, numbers_of, run_at, run_bit, run_from, runs_of, settings_of, numbers_with}
use Rattle.net_turn.specs.Sources.{AreSources, IsSource, processes_of}
use Rattle.net_turn.proofs.Chosen.{run_gives, run_part, strongest_is}

-- ---- lists

some_at : {A : Type 0} (xs : List A) (t : ℕ) → t < length xs → (x : A) × (slice_get xs t ≡ Some x)
some_at [] t below = absurd (omega (arith, below))
some_at (x ∷ xs) zero below = (x, refl)
some_at (x ∷ xs) (suc t) below = some_at xs t (omega (arith, below))

run_is : (old new : Values) (all : List Clocked) (t : ℕ) (one : Clocked) → slice_get all t ≡ Some one → run_at (runs_of old new all) t ≡ run_from old new one
run_is old new [] t one e = absurd (cc)
run_is old new (x ∷ all) zero one e = let same : x ≡ one = cc in ap (run_from old new) same
run_is old new (x ∷ all) (suc t) one e = run_is old new all t one e

process_is : (all : List Clocked) (t : ℕ) (one : Clocked) → slice_get all t ≡ Some one → place (processes_of all) t ≡ one.process.0
process_is [] t one e = absurd (cc)
process_is (x ∷ all) zero one e = let same : x ≡ one = cc in ap (λ (y : Clocked). y.process.0) same
process_is (x ∷ all) (suc t) one e = process_is all t one e

all_at : (P : Clocked → Type 0) (all : List Clocked) (t : ℕ) (one : Clocked) → All P all → slice_get all t ≡ Some one → P one
all_at P [] t one h e = absurd (cc)
all_at P (x ∷ all) zero one h e = let same : x ≡ one = cc in subst P same (All-head P x all h)
all_at P (x ∷ all) (suc t) one h e = all_at P all t one (All-tail P x all h) e

-- ---- inputs that are set

given_same : (n m : Values) (all : List cycle.Setting) (i : ℕ) → n i ≡ m i → given_after n all i ≡ given_after m all i
given_same n m [] i e = e
given_same n m (one ∷ others) i e =
    given_same (put n one.input one.number) (put m one.input one.number) others i
    (ap (λ bits. if i == one.input then one.number else bits) e)

-- no change is no event
happens_same : (edge : Edge) (b : Bit) → happens edge b b ≡ false
happens_same No Zero = refl
happens_same No One = refl
happens_same No X = refl
happens_same No Z = refl
happens_same Pos Zero = refl
happens_same Pos One = refl
happens_same Pos X = refl
happens_same Pos Z = refl
happens_same Neg Zero = refl
happens_same Neg One = refl
happens_same Neg X = refl
happens_same Neg Z = refl

module _ (d : Flat) (f : Fill) (old : Values) (chains : ℕ → Chain) (all : List Clocked) (sources : AreSources d chains all) (turn : Option Setting) where
  abbrev ws : ℕ → ℕ
  ws = widths d

  abbrev runs : List Run
  runs = runs_of old (numbers_with old turn) all

  as_many : length runs ≡ length all
  as_many = length-map all (run_from old (numbers_with old turn))

  -- the process at a place
  record At (t : ℕ) : Type 0 where
    one : Clocked
    run : run_at runs t ≡ run_from old (numbers_with old turn) one
    process : place (processes_of all) t ≡ one.process.0
    source : IsSource d chains one

  at : (t : ℕ) → t < length all → At t
  at t below =
      let (one, there) = some_at all t below in
      record { one = one; run = run_is old (numbers_with old turn) all t one there; process = process_is all t one there; source = all_at (IsSource d chains) all t one sources.each there }

  pub are_runs : AreRuns d runs
  are_runs = record {
    once = λ s t less below same.
        let below' : t < length all = omega (arith, below, as_many) in
        let first = at s (omega (arith, less, below')) in
        let later = at t below' in
        sources.once s t less below'
        (first.process ∙ (sym (ap (λ (r : Run). r.process) first.run) ∙ (same ∙ (ap (λ (r : Run). r.process) later.run ∙ sym later.process))));
    lawful = λ t below body e.
        let here = at t (omega (arith, below, as_many)) in
        here.source.lawful body (run_part old (numbers_with old turn) here.one body (sym (ap (λ (r : Run). r.body) here.run) ∙ e));
    own = λ t below body e i k may.
        let here = at t (omega (arith, below, as_many)) in
        subst (λ (p : ℕ). OfProcess MayWrite d.signals d.tasks p i k) (sym (ap (λ (r : Run). r.process) here.run))
        (here.source.own body (run_part old (numbers_with old turn) here.one body (sym (ap (λ (r : Run). r.body) here.run) ∙ e)) i k may);
  }

  module _ (lawful : AreLawful d) (apart : AreApart d) (are : AreNumbers d old) (sets : All (SetsInput d) (settings_of turn)) (kept : Values) (numbers : AreNumbers d kept) (put_all : ArePut d f old runs (length runs) kept) where
    -- the numbers with the input that is set
    abbrev given : Values
    given = numbers_with kept turn

    -- what no process writes that waits for an edge
    stays : (i k : ℕ) → ((p : ℕ) (events : List Watched) (body : Actions) → doing_at d p ≡ Some (Edge' events body) → OfProcess MayWrite d.signals d.tasks p i k → ⊥) → Same kept old i k
    stays i k none =
        put_all.others i k (λ t below may.
        let here = at t (omega (arith, below, as_many)) in
        none here.one.process.0 here.source.events here.source.body here.source.does
        (subst (λ (p : ℕ). OfProcess MayWrite d.signals d.tasks p i k) (ap (λ (r : Run). r.process) here.run) may))

    input_stays : (i : ℕ) → IsTrue (is_input d i) → kept i ≡ old i
    input_stays i input =
        let size = numbers.wide i in
        let size' = are.wide i in
        ext_get_or X (kept i) (old i) (size ∙ sym size') (λ k below.
        stays i k (λ p events body here may. no_input_written d lawful p i k may input))

    pub input_given : (i : ℕ) → IsTrue (is_input d i) → given i ≡ numbers_with old turn i
    input_given i input = given_same kept old (settings_of turn) i (input_stays i input)

    -- what is no input is as it was kept
    other_given : (i : ℕ) → (IsTrue (is_input d i) → ⊥) → given i ≡ kept i
    other_given i none = given_other d kept (settings_of turn) sets i none

    pub given_are : AreNumbers d given
    given_are = given_numbers d kept (settings_of turn) numbers sets

    -- ---- where solutions begin

    pub begins : ((i k : ℕ) → k < ws i → is_input d i ≡ false → ((p : ℕ) → OfProcess MayWrite d.signals d.tasks p i k → ⊥) → bit old i k ≡ fill_bit f) → IsBeginning d f old given given
    begins filled = record {
      numbers = given_are;
      inputs = λ i is. refl;
      kept = λ i k is. refl;
      latched = λ p list body here i k may.
          let may' = to_process MayWrite d p i k (Comb list body) here may in
          ap (λ bits. get_or bits k X) (other_given i (λ input. no_input_written d lawful p i k may' input))
          ∙ stays i k (λ q events body' there own. not_both q list body events body' there (apart p q i k may' own) here);
      others = λ i k inside no_input none.
          ap (λ bits. get_or bits k X) (other_given i (λ input. false≢true (sym no_input ∙ input)))
          ∙ (stays i k (λ p events body here own. none p own) ∙ filled i k inside no_input none);
    }
      where
        not_both : (q : ℕ) {p : ℕ} (list : Option (List Watched)) (body : Actions) (events : List Watched) (body' : Actions) → doing_at d q ≡ Some (Edge' events body') → p ≡ q → doing_at d p ≡ Some (Comb list body) → ⊥
        not_both q list body events body' there same here =
            let both : Some (Comb list body) ≡ Some (Edge' events body') = sym here ∙ (ap (doing_at d) same ∙ there) in absurd (cc)

    -- ---- what registers have

    module _ (new : Values) (solution : IsSolution d f old given new) where
      carried_new : (top i : ℕ) → IsTrue (is_input d top) → IsBehind d top i → bit new i 0 ≡ bit (numbers_with old turn) top 0
      carried_new top i input behind =
          carried d f old given new solution top i behind
          ∙ ap (λ bits. get_or bits 0 X) (solution.inputs top input ∙ input_given top input)

      -- a register bit has what its process ran gave
      record Ran (p i k : ℕ) : Type 0 where
        one : Clocked
        chain : chains p ≡ chain_view one.chain
        source : IsSource d chains one
        is : bit given i k ≡ reset_bit ws f old (strongest new (chain_view one.chain).resets) (cond (happens (chain_view one.chain).clock.edge (bit old one.clock.0 0) (bit (numbers_with old turn) one.clock.0 0)) (block_bit ws f old (chain_view one.chain).part i k) (bit old i k)) i k

      ran : (p : ℕ) (events : List Watched) (body : Actions) → doing_at d p ≡ Some (Edge' events body) → (i k : ℕ) → MayWrite (body_flow ws body) i k → Ran p i k
      ran p events body here i k may =
          let (t, below, is) = sources.there p events body here in
          let there = at t below in
          let may' = to_process MayWrite d p i k (Edge' events body) here may in
          let same : p ≡ there.one.process.0 = sym is ∙ there.process in
          let own = subst (λ (q : ℕ). OfProcess MayWrite d.signals d.tasks q i k) (same ∙ sym (ap (λ (r : Run). r.process) there.run)) may' in
          let tops = numbers_of there.one.resets.items in
          let chain = chain_view there.one.chain in
          let edge = happens chain.clock.edge (bit old there.one.clock.0 0) (bit (numbers_with old turn) there.one.clock.0 0) in
          let resets = strongest_is d new (numbers_with old turn) carried_new tops chain.resets there.source.resets in
          record {
            one = there.one;
            chain = ap chains same ∙ there.source.chain;
            source = there.source;
            is = ap (λ bits. get_or bits k X) (other_given i (λ input. no_input_written d lawful p i k may' input))
                ∙ (put_all.taken t (omega (arith, below, as_many)) i k own
                ∙ (ap (λ (r : Run). run_bit ws f old r.body i k) there.run
                ∙ (run_gives ws f old (active_of (numbers_with old turn) chain.resets tops) edge chain.part i k
                ∙ ap (λ o. reset_bit ws f old o (cond edge (block_bit ws f old chain.part i k) (bit old i k)) i k) (sym resets))));
          }

      -- from a solution, as the definition says
      pub turned_is : ((top i : ℕ) → IsBehind d top i → bit old i 0 ≡ bit old top 0) → (p : ℕ) (events : List Watched) (body : Actions) → doing_at d p ≡ Some (Edge' events body) → (i k : ℕ) → MayWrite (body_flow ws body) i k → bit given i k ≡ register_bit ws f old new (chains p) i k
      turned_is carried_old p events body here i k may =
          let it = ran p events body here i k may in
          let chain = chain_view it.one.chain in
          let before : bit old chain.clock.signal 0 ≡ bit old it.one.clock.0 0 = carried_old it.one.clock.0 chain.clock.signal it.source.clock.behind in
          let after : bit new chain.clock.signal 0 ≡ bit (numbers_with old turn) it.one.clock.0 0 = carried_new it.one.clock.0 chain.clock.signal it.source.clock.input it.source.clock.behind in
          let clocked : cond (happens chain.clock.edge (bit old it.one.clock.0 0) (bit (numbers_with old turn) it.one.clock.0 0)) (block_bit ws f old chain.part i k) (bit old i k) ≡ clocked_bit ws f old new chain.clock chain.part i k
          = ap (λ b. cond (happens chain.clock.edge b (bit (numbers_with old turn) it.one.clock.0 0)) (block_bit ws f old chain.part i k) (bit old i k)) (sym before)
          ∙ ap (λ b. cond (happens chain.clock.edge (bit old chain.clock.signal 0) b) (block_bit ws f old chain.part i k) (bit old i k)) (sym after) in
          it.is
          ∙ (ap (λ b. reset_bit ws f old (strongest new chain.resets) b i k) clocked
          ∙ ap (λ (c : Chain). register_bit ws f old new c i k) (sym it.chain))

      -- where no input is set
      pub begun_is : numbers_with old turn ≡ old → (p : ℕ) (events : List Watched) (body : Actions) → doing_at d p ≡ Some (Edge' events body) → (i k : ℕ) → MayWrite (body_flow ws body) i k → bit given i k ≡ reset_bit ws f old (strongest new (chains p).resets) (bit old i k) i k
      begun_is unset p events body here i k may =
          let it = ran p events body here i k may in
          let chain = chain_view it.one.chain in
          let quiet : happens chain.clock.edge (bit old it.one.clock.0 0) (bit (numbers_with old turn) it.one.clock.0 0) ≡ false
          = ap (λ (n : Values). happens chain.clock.edge (bit old it.one.clock.0 0) (bit n it.one.clock.0 0)) unset
          ∙ happens_same chain.clock.edge (bit old it.one.clock.0 0) in
          it.is
          ∙ (ap (λ b. reset_bit ws f old (strongest new chain.resets) (cond b (block_bit ws f old chain.part i k) (bit old i k)) i k) quiet
          ∙ ap (λ (c : Chain). reset_bit ws f old (strongest new c.resets) (bit old i k) i k) (sym it.chain))

-- ---- a step

pub turn_cycle :
    (d : Flat) (f : Fill) (held old : Values) (chains : ℕ → Chain) (all : List Clocked) (setting : Setting) → AreSources d chains all →
    AreLawful d → AreApart d → IsSolution d f held old old → All (SetsInput d) (settings_of (Some setting)) → (kept : Values) → AreNumbers d kept →
    ArePut d f old (runs_of old (numbers_with old (Some setting)) all) (length (runs_of old (numbers_with old (Some setting)) all)) kept →
    (new : Values) → IsSolution d f old (numbers_with kept (Some setting)) new → IsCycle d chains f old (Turn (setting_view setting)) new
turn_cycle d f held old chains all setting sources lawful apart solved sets kept numbers put_all new solution =
    cycles.cycle d chains f old (Turn (setting_view setting)) (numbers_with kept (Some setting)) new
    (record {
      inputs = λ i input. input_given d f old chains all sources (Some setting) lawful apart solved.numbers sets kept numbers put_all i input;
      registers = λ p events body here i k may lasts.
          turned_is d f old chains all sources (Some setting) lawful apart solved.numbers sets kept numbers put_all new solution
          (carried d f held old old solved) p events body here i k may;
    })
    solution
