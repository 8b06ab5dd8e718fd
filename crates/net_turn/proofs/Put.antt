-- What is put aside while processes run one after another, each from the old numbers.
use Rattle.std.proofs.Common.{◌≡◌, ◌∙◌, ◌<◌, ◌+◌, ℕ, false, List, Option, None, Some, length, get_or, refl, sym, ap, subst, inl, inr, arith}
use Rattle.std.proofs.lemmas.Bool.{cases_eq, cases_lt}
use Rattle.std.proofs.lemmas.List.{ext_get_or}
use Rattle.rtl_bits.specs.declared.Bit.{Bit}
use Rattle.rtl_bits.specs.declared.Bit.TheVariants.{X}
use Rattle.rtl_bits.specs.Bit.{is_unknown, xor_bit}
use Rattle.rtl_bits.specs.Bits.{has_unknown, tabulate}
use Rattle.rtl_bits.specs.Inside.{length-tabulate}
use Rattle.rtl_bits.proofs.Lists.{get_or-tabulate}
use Rattle.rtl_flat.specs.Flows.{body_flow, flow_of}
use Rattle.rtl_flat.specs.Paths.{MayWrite}
use Rattle.rtl_flat.specs.PathSets.{OfProcess}
use Rattle.rtl_flat.specs.Process.{Actions, Assign, Comb, Doing, Edge'}
use Rattle.rtl_flat.specs.WellFormed.{IsBody}
use Rattle.event_model.specs.Queue.{doing_at}
use Rattle.rtl_flat.specs.Flats.{Flat, widths}
use Rattle.event_model.specs.Traces.{Same}
use Rattle.event_model.specs.Writes.{Values, put}
use Rattle.net_settle.specs.event_laws.Steady.{AreLawful}
use Rattle.net_settle.proofs.event_laws_proofs.Lengths.{put_at, put_other}
use Rattle.net_settle.proofs.event_runs_proofs.Writers.{of_process}
use Rattle.net_settle.proofs.event_laws_proofs.Within as within
use Rattle.net_model.specs.declared.fill.Fill.{Fill}
use Rattle.net_model.specs.Numbers.{AreNumbers, bit}
use Rattle.net_settle.proofs.net_laws_proofs.Known.{Known, KnownBit, known_at, known_each}
use Rattle.net_settle.proofs.net_laws_proofs.Laws.{block_known}
use Rattle.net_settle.proofs.net_rest_proofs.Numbers.{past_ends}
use Rattle.net_settle.specs.net_solve.Laws.{AreApart}
use Rattle.net_settle.proofs.net_solve_proofs.Same.{its_target}
use Rattle.net_settle.proofs.Stays.{block_stays}
use Rattle.net_settle.specs.net_body.Ends.{changed_digits}
use Rattle.net_settle.proofs.net_body_proofs.Changed.{changed_at, xor_left, xor_taken}
use Rattle.net_settle.proofs.net_body_proofs.Ended.{changed_number}
use Rattle.net_turn.specs.Runs.{ArePut, AreRuns, Run, run_at, run_bit}

-- ---- numbers

-- one signal gets a number of its width
pub put_numbers : (d : Flat) (n : Values) (i : ℕ) (bits : List Bit) → AreNumbers d n → length bits ≡ widths d i → Known bits → AreNumbers d (put n i bits)
put_numbers d n i bits are wide known = record {
  wide = λ j. elim (cases_eq j i) as (λ _. length (put n i bits j) ≡ widths d j) [
    | inl here ↦ ap length (put_at n i j bits here) ∙ (wide ∙ ap (widths d) (sym here))
    | inr other ↦ ap length (put_other n i j bits other) ∙ are.wide j
  ];
  known = λ j. elim (cases_eq j i) as (λ _. has_unknown (put n i bits j) ≡ false) [
    | inl here ↦ ap has_unknown (put_at n i j bits here) ∙ known
    | inr other ↦ ap has_unknown (put_other n i j bits other) ∙ are.known j
  ];
}

pub bit_known : (d : Flat) (n : Values) → AreNumbers d n → (i k : ℕ) → k < widths d i → KnownBit (bit n i k)
bit_known d n are i k inside = let size = are.wide i in known_at (n i) k (are.known i) (omega (arith, inside, size))

-- ---- bits of processes

-- a process writes bits that signals have
pub may_inside : (d : Flat) → AreLawful d → (p i k : ℕ) → OfProcess MayWrite d.signals d.tasks p i k → k < widths d i
may_inside d lawful p i k may =
    let (does, here, is) = of_process MayWrite d p i k may in by_doing does here is
  where
    by_doing : (does : Doing) → doing_at d p ≡ Some does → MayWrite (flow_of (widths d) does) i k → k < widths d i
    by_doing (Assign target e) here is = within.target_inside (widths d) target i k (its_target d lawful p target e here i k is)
    by_doing (Comb list body) here is = within.write_inside d.signals body (lawful p (Comb list body) here).1 i k is
    by_doing (Edge' events body) here is = within.write_inside d.signals body (lawful p (Edge' events body) here).2 i k is

module _ (d : Flat) (f : Fill) (old : Values) (are : AreNumbers d old) where
  abbrev ws : ℕ → ℕ
  ws = widths d

  -- ---- one run

  module _ (o : Option Actions) (lawful : (body : Actions) → o ≡ Some body → IsBody d.signals body) where
    pub run_known : (i k : ℕ) → k < ws i → KnownBit (run_bit ws f old o i k)
    run_known i k inside = by_run o lawful
      where
        by_run : (run : Option Actions) → ((body : Actions) → run ≡ Some body → IsBody d.signals body) → KnownBit (run_bit ws f old run i k)
        by_run None is = bit_known d old are i k inside
        by_run (Some body) is = block_known d f old body i k are (is body refl) inside

    -- it leaves what it may not write
    pub run_stays : (i k : ℕ) → ((body : Actions) → o ≡ Some body → MayWrite (body_flow ws body) i k → ⊥) → run_bit ws f old o i k ≡ bit old i k
    run_stays i k none = by_run o lawful none
      where
        by_run : (run : Option Actions) → ((body : Actions) → run ≡ Some body → IsBody d.signals body) → ((body : Actions) → run ≡ Some body → MayWrite (body_flow ws body) i k → ⊥) → run_bit ws f old run i k ≡ bit old i k
        by_run None is none' = refl
        by_run (Some body) is none' = block_stays d f i k old are.wide body (is body refl) (none' body refl)

    abbrev ran : ℕ → List Bit
    ran i = tabulate (ws i) (run_bit ws f old o i)

    ran_wide : (i : ℕ) → length (ran i) ≡ ws i
    ran_wide i = length-tabulate (ws i) (run_bit ws f old o i)

    ran_at : (i k : ℕ) → k < ws i → get_or (ran i) k X ≡ run_bit ws f old o i k
    ran_at i k inside = get_or-tabulate (ws i) (run_bit ws f old o i) k X inside

    ran_known : (i : ℕ) → Known (ran i)
    ran_known i = known_each (ran i) (λ k below.
        let size = ran_wide i in
        let inside : k < ws i = omega (arith, below, size) in
        ap is_unknown (ran_at i k inside) ∙ run_known i k inside)

    module _ (after new : Values) (have : AreNumbers d after) (is : (i : ℕ) → new i ≡ changed_digits (old i) (ran i) (after i)) where
      pub new_numbers : AreNumbers d new
      new_numbers = record {
        wide = λ i. ap length (is i) ∙ (changed_number (ws i) (old i) (ran i) (after i) (are.wide i) (ran_wide i) (have.wide i) (are.known i) (ran_known i) (have.known i)).0;
        known = λ i. ap has_unknown (is i) ∙ (changed_number (ws i) (old i) (ran i) (after i) (are.wide i) (ran_wide i) (have.wide i) (are.known i) (ran_known i) (have.known i)).1;
      }

      new_at : (i k : ℕ) → k < ws i → bit new i k ≡ xor_bit (bit after i k) (xor_bit (bit old i k) (run_bit ws f old o i k))
      new_at i k inside =
          let size = have.wide i in
          ap (λ bits. get_or bits k X) (is i)
          ∙ (changed_at (old i) (ran i) (after i) k (omega (arith, inside, size)) (ran_wide i ∙ sym (are.wide i)) (have.wide i ∙ sym (are.wide i))
          ∙ ap (λ b. xor_bit (bit after i k) (xor_bit (bit old i k) b)) (ran_at i k inside))

      pub new_left : (i k : ℕ) → run_bit ws f old o i k ≡ bit old i k → Same new after i k
      new_left i k left =
          past_ends d new after new_numbers.wide have.wide i k (λ inside.
          new_at i k inside
          ∙ (ap (λ b. xor_bit (bit after i k) (xor_bit (bit old i k) b)) left
          ∙ xor_left (bit after i k) (bit old i k) (bit_known d after have i k inside) (bit_known d old are i k inside)))

      pub new_taken : (i k : ℕ) → k < ws i → Same after old i k → bit new i k ≡ run_bit ws f old o i k
      new_taken i k inside first =
          new_at i k inside
          ∙ (ap (λ b. xor_bit b (xor_bit (bit old i k) (run_bit ws f old o i k))) first
          ∙ xor_taken (bit old i k) (run_bit ws f old o i k) (bit_known d old are i k inside) (run_known i k inside))

  -- nothing runs
  pub none_new : (after : Values) → AreNumbers d after → (i : ℕ) → after i ≡ changed_digits (old i) (tabulate (ws i) (run_bit ws f old None i)) (after i)
  none_new after have i =
      let new : Values = λ j. changed_digits (old j) (tabulate (ws j) (run_bit ws f old None j)) (after j) in
      let no_body : (body : Actions) → None ≡ Some body → IsBody d.signals body = λ body e. absurd (cc) in
      let size = (new_numbers None no_body after new have (λ j. refl)).wide i in
      let size' = have.wide i in
      ext_get_or X (after i) (new i) (size' ∙ sym size) (λ k below. sym (new_left None no_body after new have (λ j. refl) i k refl))

  -- ---- one after another

  pub none_put : (runs : List Run) → ArePut d f old runs 0 old
  none_put runs = record {
    taken = λ t below. absurd (omega (arith, below));
    others = λ i k none. refl;
  }

  module _ (lawful : AreLawful d) (apart : AreApart d) (runs : List Run) (are_runs : AreRuns d runs) (j : ℕ) (inside : j < length runs) (after new : Values) (have : AreNumbers d after) (is : (i : ℕ) → new i ≡ changed_digits (old i) (tabulate (ws i) (run_bit ws f old (run_at runs j).body i)) (after i)) (before : ArePut d f old runs j after) where
    abbrev o : Option Actions
    o = (run_at runs j).body

    -- what an earlier one writes, it leaves
    leaves : (t : ℕ) → t < j → (i k : ℕ) → OfProcess MayWrite d.signals d.tasks (run_at runs t).process i k → run_bit ws f old o i k ≡ bit old i k
    leaves t below i k may =
        run_stays o (are_runs.lawful j inside) i k (λ body e own.
        are_runs.once t j below inside (apart (run_at runs t).process (run_at runs j).process i k may (are_runs.own j inside body e i k own)))

    pub more_put : ArePut d f old runs (j + 1) new
    more_put = record {
      taken = λ t below i k may. elim (cases_lt t j) as (λ _. bit new i k ≡ run_bit ws f old (run_at runs t).body i k) [
        | inl earlier ↦
            new_left o (are_runs.lawful j inside) after new have is i k (leaves t earlier i k may)
            ∙ before.taken t earlier i k may
        | inr late ↦
            let now : t ≡ j = omega (arith, below, late) in
            let may' = subst (λ (s : ℕ). OfProcess MayWrite d.signals d.tasks (run_at runs s).process i k) now may in
            new_taken o (are_runs.lawful j inside) after new have is i k (may_inside d lawful (run_at runs j).process i k may')
            (before.others i k (λ s less own.
            are_runs.once s j less inside (apart (run_at runs s).process (run_at runs j).process i k own may')))
            ∙ ap (λ (s : ℕ). run_bit ws f old (run_at runs s).body i k) (sym now)
      ];
      others = λ i k none.
          new_left o (are_runs.lawful j inside) after new have is i k
          (run_stays o (are_runs.lawful j inside) i k (λ body e own. none j (omega arith) (are_runs.own j inside body e i k own)))
          ∙ before.others i k (λ t below. none t (omega (arith, below)));
    }
