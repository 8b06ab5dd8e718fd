-- A design without cycles has one solution.
use Rattle.std.proofs.Common.{◌≡◌, ◌∙◌, ◌<◌, ℕ, zero, suc, Bool, true, false, List, Option, None, Some, get_or, refl, sym, ap, subst, arith}
use Rattle.std.specs.Prelude.{IsTrue}
use Rattle.std.specs.List.{slice_get}
use Rattle.std.specs.Option.{IsSomeAnd}
use Rattle.std.proofs.lemmas.Bool.{false≢true}
use Rattle.rtl_bits.specs.declared.Bit.TheVariants.{X}
use Rattle.rtl_flat.specs.Expression.{Tree}
use Rattle.rtl_flat.specs.Flows.{flow_of, may_target}
use Rattle.rtl_flat.specs.Levels.{HasNoEdge, IsNode}
use Rattle.rtl_flat.specs.Paths.{MayWrite, ReadsOutside}
use Rattle.rtl_flat.specs.PathSets.{OfProcess}
use Rattle.rtl_flat.specs.Process.{Assign, Comb, Doing, Edge', Piece, Task}
use Rattle.event_model.specs.Queue.{doing_at, doing_of, is_input}
use Rattle.rtl_flat.specs.Flats.{Flat, widths}
use Rattle.event_model.specs.Traces.{Same}
use Rattle.event_model.specs.Writes.{Values, driven}
use Rattle.net_rest.specs.event_laws.Steady.{AreLawful}
use Rattle.net_model.specs.declared.fill.Fill.{Fill}
use Rattle.net_model.specs.Numbers.{bit}
use Rattle.net_model.specs.Solution.{IsLasting, IsRegisterBit, IsSolution}
use Rattle.net_rest.proofs.event_runs_proofs.Signals.{target_may}
use Rattle.net_rest.proofs.event_runs_proofs.Writers.{of_process, to_process}
use Rattle.net_rest.proofs.net_laws_proofs.Laws.{start_depends}
use Rattle.net_rest.specs.Rest.{AreAlike, is_written}
use Rattle.net_rest.proofs.Levels.{assign_reads, read_inside, read_lasts}
use Rattle.net_rest.proofs.Numbers.{past_ends, written_by, writer_of}
use Rattle.net_solve.specs.Laws.{AreSame, Ascends, HaveLikeSources}
use Rattle.net_solve.proofs.Digits.{same_digits}

pub node_at : (d : Flat) (p : ℕ) (does : Doing) → doing_at d p ≡ Some does → HasNoEdge does → IsNode d.tasks p
node_at d p does here no_edge = by_task (slice_get d.tasks p) here
  where
    by_task : (o : Option Task) → doing_of o ≡ Some does → IsSomeAnd o (λ task. HasNoEdge task.does)
    by_task None is = absurd (cc)
    by_task (Some task) is = let same : does ≡ task.does = cc in subst HasNoEdge same no_edge

pub of_node : (d : Flat) (p : ℕ) (does : Doing) → doing_at d p ≡ Some does → IsNode d.tasks p → HasNoEdge does
of_node d p does here node = by_task (slice_get d.tasks p) here node
  where
    by_task : (o : Option Task) → doing_of o ≡ Some does → IsSomeAnd o (λ task. HasNoEdge task.does) → HasNoEdge does
    by_task None is node' = absurd (cc)
    by_task (Some task) is node' = let same : task.does ≡ does = cc in subst HasNoEdge same node'

-- what an assignment may write is of its target
pub its_target : (d : Flat) → AreLawful d → (p : ℕ) (target : List Piece) (e : Tree) → doing_at d p ≡ Some (Assign target e) → (i k : ℕ) → MayWrite (flow_of (widths d) (Assign target e)) i k → may_target (widths d) target i k ≡ true
its_target d lawful p target e here i k may =
    target_may d lawful p target e here i k (to_process MayWrite d p i k (Assign target e) here may)

module _ (d : Flat) (rank : ℕ → ℕ) (lawful : AreLawful d) (ascends : Ascends d rank) where
  module _ (f : Fill) (held given given' n m : Values) (alike : HaveLikeSources d given given') (one : IsSolution d f held given n) (other : IsSolution d f held given' m) where
    -- a bit that no process without edges gives
    from_source :
        (i k : ℕ) → k < widths d i → IsLasting d i → (b c : Bool) → is_input d i ≡ b → is_written d i k ≡ c →
        ((p : ℕ) → IsNode d.tasks p → OfProcess MayWrite d.signals d.tasks p i k → Same n m i k) → Same n m i k
    from_source i k inside lasts true c is written node =
        let here : IsTrue (is_input d i) = is in
        ap (λ bits. get_or bits k X) (one.inputs i here ∙ alike.inputs i here ∙ sym (other.inputs i here))
    from_source i k inside lasts false false is none node =
        let no_one : (p : ℕ) → OfProcess MayWrite d.signals d.tasks p i k → ⊥ = λ p may. false≢true (sym none ∙ written_by d p i k may) in
        one.others i k inside is no_one ∙ sym (other.others i k inside is no_one)
    from_source i k inside lasts false true is written node =
        let (p, may) = writer_of d i k written in
        let (does, here, may') = of_process MayWrite d p i k may in
        by_writer p does here may may'
      where
        by_writer : (p : ℕ) (does : Doing) → doing_at d p ≡ Some does → OfProcess MayWrite d.signals d.tasks p i k → MayWrite (flow_of (widths d) does) i k → Same n m i k
        by_writer p (Assign target e) here may may' = node p (node_at d p (Assign target e) here tt) may
        by_writer p (Comb list body) here may may' = node p (node_at d p (Comb list body) here tt) may
        by_writer p (Edge' events body) here may may' =
            let register : IsRegisterBit d i k = record { process = p; events = events; body = body; does = here; may = may'; lasting = lasts } in
            one.kept i k register ∙ alike.registers i k register ∙ sym (other.kept i k register)

    -- one process, where it reads the same
    same_step :
        (p : ℕ) (does : Doing) → doing_at d p ≡ Some does → HasNoEdge does → ((j l : ℕ) → ReadsOutside (flow_of (widths d) does) j l → Same n m j l) →
        (i k : ℕ) → MayWrite (flow_of (widths d) does) i k → IsLasting d i → Same n m i k
    same_step p (Edge' events body) here node before i k may lasts = absurd node
    same_step p (Assign target e) here node before i k may lasts =
        let is = its_target d lawful p target e here i k may in
        one.assigns p target e here i k is
        ∙ ap (λ bits. bit (driven (widths d) target bits) i k)
        (same_digits d f n m one.numbers.wide other.numbers.wide e (lawful p (Assign target e) here).0.sized.widths
        (λ j l reads'. before j l (assign_reads (widths d) target e j l reads')))
        ∙ sym (other.assigns p target e here i k is)
    same_step p (Comb list body) here node before i k may lasts =
        one.blocks p list body here i k may lasts
        ∙ start_depends d f held held n m body (lawful p (Comb list body) here).1 (λ j l written. refl) (λ j l reads' own. before j l reads') i k may
        ∙ sym (other.blocks p list body here i k may lasts)

    -- what a process reads outside, where those that feed it give the same
    before :
        (p : ℕ) (does : Doing) → doing_at d p ≡ Some does → IsNode d.tasks p →
        ((q : ℕ) → rank q < rank p → IsNode d.tasks q → (j l : ℕ) → OfProcess MayWrite d.signals d.tasks q j l → IsLasting d j → Same n m j l) →
        (j l : ℕ) → ReadsOutside (flow_of (widths d) does) j l → Same n m j l
    before p does here node fed j l outside =
        let lasts = read_lasts d p does here j l outside in
        from_source j l (read_inside d lawful p does here j l outside) lasts (is_input d j) (is_written d j l) refl refl
        (λ q node' written.
        fed q (ascends q p (record { «from» = node'; to = node; signal = j; bit = l; written = written; read = to_process ReadsOutside d p j l does here outside }))
        node' j l written lasts)

    below : (limit p : ℕ) → rank p < limit → IsNode d.tasks p → (i k : ℕ) → OfProcess MayWrite d.signals d.tasks p i k → IsLasting d i → Same n m i k
    below zero p under node i k may lasts = absurd (omega (arith, under))
    below (suc limit) p under node i k may lasts =
        let (does, here, may') = of_process MayWrite d p i k may in
        same_step p does here (of_node d p does here node)
        (before p does here node (λ q less. below limit q (omega (arith, less, under)))) i k may' lasts

    pub alike_all : AreAlike d n m
    alike_all i k lasts =
        past_ends d n m one.numbers.wide other.numbers.wide i k (λ inside.
        from_source i k inside lasts (is_input d i) (is_written d i k) refl refl
        (λ p node may. below (suc (rank p)) p (omega arith) node i k may lasts))

pub same : (d : Flat) (rank : ℕ → ℕ) → AreLawful d → Ascends d rank → AreSame d
same d rank lawful ascends f held given given' n m alike one other =
    alike_all d rank lawful ascends f held given given' n m alike one other
