-- Processes that are worked out in order solve the equations.
use Rattle.std.proofs.Common.{◌≡◌, ◌∙◌, ◌<◌, ◌+◌, ℕ, Bool, true, false, cond, List, Option, Some, length, get_or, refl, sym, ap, subst, inl, inr, arith}
use Rattle.std.specs.Prelude.{◌⊎◌, IsTrue}
use Rattle.std.proofs.lemmas.Bool.{cases_lt}
use Rattle.std.proofs.lemmas.List.{ext_get_or}
use Rattle.rtl_bits.specs.declared.Bit.TheVariants.{X}
use Rattle.rtl_bits.specs.Inside.{length-tabulate}
use Rattle.rtl_bits.proofs.Lists.{get_or-tabulate}
use Rattle.rtl_flat.specs.Expression.{Tree}
use Rattle.rtl_flat.specs.Flows.{body_flow, may_target}
use Rattle.rtl_flat.specs.Paths.{MayWrite, ReadsOutside, may_write}
use Rattle.rtl_flat.specs.PathSets.{OfProcess}
use Rattle.rtl_flat.specs.Process.{Actions, Assign, Comb, Doing, Edge', Piece, Watched}
use Rattle.rtl_flat.proofs.Paths.{decided}
use Rattle.event_model.specs.Queue.{doing_at, is_assignment, is_body, is_input}
use Rattle.rtl_flat.specs.Flats.{Flat, widths}
use Rattle.event_model.specs.Traces.{Same}
use Rattle.event_model.specs.Writes.{Values, driven}
use Rattle.net_model.specs.declared.fill.Fill.{Fill}
use Rattle.net_model.specs.Block.{block_bit}
use Rattle.net_model.specs.Numbers.{AreNumbers, bit, digits}
use Rattle.net_model.specs.Solution.{IsSolution, start}
use Rattle.net_rest.specs.event_laws.Steady.{AreLawful}
use Rattle.net_rest.proofs.event_runs_proofs.Signals.{assign_net, body_variable, net_input, variable_input}
use Rattle.net_rest.proofs.event_runs_proofs.Writers.{assign_may, of_process, to_process}
use Rattle.net_rest.proofs.net_laws_proofs.Laws.{block_depends, start_depends}
use Rattle.net_rest.proofs.net_laws_proofs.Starts.{start_wide}
use Rattle.net_rest.proofs.Levels.{assign_reads}
use Rattle.net_solve.specs.Laws.{AreDone, IsBeginning, IsOrder, IsWorkable, IsWorked, WorkedSolve, place}
use Rattle.net_solve.proofs.Digits.{same_digits}
use Rattle.net_solve.proofs.Same.{node_at, of_node}

-- no process writes an input
pub no_input_written : (d : Flat) → AreLawful d → (p i k : ℕ) → OfProcess MayWrite d.signals d.tasks p i k → IsTrue (is_input d i) → ⊥
no_input_written d lawful p i k may input =
    let (does, here, may') = of_process MayWrite d p i k may in by_doing does here
  where
    by_doing : (does : Doing) → doing_at d p ≡ Some does → ⊥
    by_doing (Assign target e) here = net_input d i (assign_net d lawful p (ap is_assignment here) i k may) input
    by_doing (Comb list body) here = variable_input d i (body_variable d lawful p (ap is_body here) i k may) input
    by_doing (Edge' events body) here = variable_input d i (body_variable d lawful p (ap is_body here) i k may) input

module _ (d : Flat) (workable : IsWorkable d) (f : Fill) (order : List ℕ) (begun : Values) where
  pub none_done : AreNumbers d begun → AreDone d f order begun 0 begun
  none_done numbers = record {
    numbers = numbers;
    untouched = λ i k none. refl;
    assigns = λ t less. absurd (omega (arith, less));
    blocks = λ t less. absurd (omega (arith, less));
  }

  module _ (are : IsOrder d order) where
    -- ---- one process more

    module _ (j : ℕ) (n m : Values) (inside : j < length order) (numbers : AreNumbers d begun) (done : AreDone d f order begun j n) (worked : IsWorked d f (place order j) n m) where
      abbrev now : ℕ
      now = place order j

      -- it leaves what one before it writes
      keeps_written : (t : ℕ) → t < j → (i k : ℕ) → OfProcess MayWrite d.signals d.tasks (place order t) i k → Same m n i k
      keeps_written t less i k may =
          worked.others i k (λ may'. are.once t j less inside (workable.apart (place order t) now i k may may'))

      -- and what one before it reads
      keeps_read : (t : ℕ) → t < j → (i k : ℕ) → OfProcess ReadsOutside d.signals d.tasks (place order t) i k → Same m n i k
      keeps_read t less i k read =
          worked.others i k (λ may.
          let late = are.behind j t inside (omega (arith, less, inside))
          (record { «from» = are.nodes j inside; to = are.nodes t (omega (arith, less, inside)); signal = i; bit = k; written = may; read = read }) in
          absurd (omega (arith, late, less)))

      -- nor does it read what it writes
      own_read : (i k : ℕ) → OfProcess ReadsOutside d.signals d.tasks now i k → Same m n i k
      own_read i k read =
          worked.others i k (λ may.
          let late = are.behind j j inside inside
          (record { «from» = are.nodes j inside; to = are.nodes j inside; signal = i; bit = k; written = may; read = read }) in
          absurd (omega (arith, late)))

      -- its own bits were as at the beginning
      own_begun : (i k : ℕ) → OfProcess MayWrite d.signals d.tasks now i k → Same n begun i k
      own_begun i k may =
          done.untouched i k (λ t less may'. are.once t j less inside (workable.apart (place order t) now i k may' may))

      read_same : (t : ℕ) → (t < j) ⊎ (t ≡ j) → (i k : ℕ) → OfProcess ReadsOutside d.signals d.tasks (place order t) i k → Same m n i k
      read_same t (inl less) i k read = keeps_read t less i k read
      read_same t (inr e) i k read =
          own_read i k (subst (λ (x : ℕ). OfProcess ReadsOutside d.signals d.tasks (place order x) i k) e read)

      last : (t : ℕ) → t < j + 1 → (t < j) ⊎ (t ≡ j)
      last t less = elim (cases_lt t j) [ inl below ↦ inl below | inr not_below ↦ inr (omega (arith, less, not_below)) ]

      -- the number of an assignment's expression
      same_number : (t : ℕ) → (t < j) ⊎ (t ≡ j) → (target : List Piece) (e : Tree) → doing_at d (place order t) ≡ Some (Assign target e) → digits f n e ≡ digits f m e
      same_number t which target e here =
          same_digits d f n m done.numbers.wide worked.numbers.wide e (workable.lawful (place order t) (Assign target e) here).0.sized.widths
          (λ i k reads'. sym (read_same t which i k
          (to_process ReadsOutside d (place order t) i k (Assign target e) here (assign_reads (widths d) target e i k reads'))))

      assigns_more :
          (t : ℕ) → (t < j) ⊎ (t ≡ j) → (target : List Piece) (e : Tree) → doing_at d (place order t) ≡ Some (Assign target e) →
          (i k : ℕ) → may_target (widths d) target i k ≡ true → bit m i k ≡ bit (driven (widths d) target (digits f m e)) i k
      assigns_more t (inl less) target e here i k is =
          keeps_written t less i k (to_process MayWrite d (place order t) i k (Assign target e) here (assign_may (widths d) target e i k is))
          ∙ done.assigns t less target e here i k is
          ∙ ap (λ bits. bit (driven (widths d) target bits) i k) (same_number t (inl less) target e here)
      assigns_more t (inr e') target e here i k is =
          worked.assigns target e (ap (λ x. doing_at d (place order x)) (sym e') ∙ here) i k is
          ∙ ap (λ bits. bit (driven (widths d) target bits) i k) (same_number t (inr e') target e here)

      -- the function of a block
      same_block :
          (t : ℕ) → (t < j) ⊎ (t ≡ j) → (list : Option (List Watched)) (body : Actions) → doing_at d (place order t) ≡ Some (Comb list body) →
          (i k : ℕ) → MayWrite (body_flow (widths d) body) i k →
          block_bit (widths d) f (start d body begun n) body i k ≡ block_bit (widths d) f (start d body begun m) body i k
      same_block t which list body here i k may =
          start_depends d f begun begun n m body (workable.lawful (place order t) (Comb list body) here).1 (λ a b written. refl)
          (λ a b outside own. sym (read_same t which a b (to_process ReadsOutside d (place order t) a b (Comb list body) here outside)))
          i k may

      -- at its turn a block begins with the numbers
      begins : (list : Option (List Watched)) (body : Actions) → doing_at d now ≡ Some (Comb list body) → (i : ℕ) → start d body begun n i ≡ n i
      begins list body here i =
          ext_get_or X (start d body begun n i) (n i)
          (start_size ∙ sym (done.numbers.wide i))
          (λ k below. start_bit k (omega (arith, below, start_size)) ∙ picked k (may_write (body_flow (widths d) body) i k) refl)
        where
          start_size : length (start d body begun n i) ≡ widths d i
          start_size =
              length-tabulate (widths d i) (λ k. cond (may_write (body_flow (widths d) body) i k) (bit begun i k) (bit n i k))

          start_bit : (k : ℕ) → k < widths d i → bit (start d body begun n) i k ≡ cond (may_write (body_flow (widths d) body) i k) (bit begun i k) (bit n i k)
          start_bit k inside' =
              get_or-tabulate (widths d i) (λ l. cond (may_write (body_flow (widths d) body) i l) (bit begun i l) (bit n i l)) k X inside'

          picked : (k : ℕ) (b : Bool) → may_write (body_flow (widths d) body) i k ≡ b → cond b (bit begun i k) (bit n i k) ≡ bit n i k
          picked k false is = refl
          picked k true is =
              sym (own_begun i k (to_process MayWrite d now i k (Comb list body) here ((decided (body_flow (widths d) body) i k).writes.0 is)))

      begin_block : (list : Option (List Watched)) (body : Actions) → doing_at d now ≡ Some (Comb list body) → (i k : ℕ) → block_bit (widths d) f n body i k ≡ block_bit (widths d) f (start d body begun n) body i k
      begin_block list body here i k =
          block_depends d f n (start d body begun n) body done.numbers.wide (start_wide d body begun n) (workable.lawful now (Comb list body) here).1
          (λ a b outside. alike a b) (λ a b written. alike a b) i k (alike i k)
        where
          alike : (a b : ℕ) → Same n (start d body begun n) a b
          alike a b = ap (λ bits. get_or bits b X) (sym (begins list body here a))

      blocks_more :
          (t : ℕ) → (t < j) ⊎ (t ≡ j) → (list : Option (List Watched)) (body : Actions) → doing_at d (place order t) ≡ Some (Comb list body) →
          (i k : ℕ) → MayWrite (body_flow (widths d) body) i k → bit m i k ≡ block_bit (widths d) f (start d body begun m) body i k
      blocks_more t (inl less) list body here i k may =
          keeps_written t less i k (to_process MayWrite d (place order t) i k (Comb list body) here may)
          ∙ done.blocks t less list body here i k may
          ∙ same_block t (inl less) list body here i k may
      blocks_more t (inr e) list body here i k may =
          let here' = ap (λ x. doing_at d (place order x)) (sym e) ∙ here in
          worked.blocks list body here' i k may
          ∙ begin_block list body here' i k
          ∙ same_block t (inr e) list body here i k may

      pub more_done : AreDone d f order begun (j + 1) m
      more_done = record {
        numbers = worked.numbers;
        untouched = λ i k none.
            worked.others i k (none j (omega arith)) ∙ done.untouched i k (λ t less. none t (omega (arith, less)));
        assigns = λ t less. assigns_more t (last t less);
        blocks = λ t less. blocks_more t (last t less);
      }

    -- ---- all

    module _ (held given n : Values) (beginning : IsBeginning d f held given begun) (done : AreDone d f order begun (length order) n) where
      pub all_solve : IsSolution d f held given n
      all_solve = record {
        numbers = done.numbers;
        inputs = inputs;
        kept = λ i k is.
            done.untouched i k (λ t less may.
            let same = workable.apart (place order t) is.process i k may (to_process MayWrite d is.process i k (Edge' is.events is.body) is.does is.may) in
            of_node d (place order t) (Edge' is.events is.body) (ap (doing_at d) same ∙ is.does) (are.nodes t less))
            ∙ beginning.kept i k is;
        assigns = λ p target e here i k is.
            let (t, less, same) = are.all p (node_at d p (Assign target e) here tt) in
            done.assigns t less target e (ap (doing_at d) same ∙ here) i k is;
        blocks = λ p list body here i k may lasts.
            let (t, less, same) = are.all p (node_at d p (Comb list body) here tt) in
            done.blocks t less list body (ap (doing_at d) same ∙ here) i k may
            ∙ start_depends d f begun held n n body (workable.lawful p (Comb list body) here).1
            (λ a b written. beginning.latched p list body here a b written) (λ a b outside own. refl) i k may;
        others = λ i k inside no_input none.
            done.untouched i k (λ t less may. none (place order t) may) ∙ beginning.others i k inside no_input none;
      }
        where
          inputs : (i : ℕ) → IsTrue (is_input d i) → n i ≡ given i
          inputs i is =
              ext_get_or X (n i) (begun i) (done.numbers.wide i ∙ sym (beginning.numbers.wide i))
              (λ k below. done.untouched i k (λ t less may. no_input_written d workable.lawful (place order t) i k may is))
              ∙ beginning.inputs i is

pub worked : (d : Flat) → IsWorkable d → WorkedSolve d
worked d workable = record {
  none = λ f order begun numbers. none_done d workable f order begun numbers;
  more = λ f order begun j n m are inside numbers done one. more_done d workable f order begun are j n m inside numbers done one;
  all = λ f order held given begun n are beginning done. all_solve d workable f order begun are held given n beginning done;
}
