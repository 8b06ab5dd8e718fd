-- Each process without edges can be worked out, and so can all of them in an order.
use Rattle.std.proofs.Common.{◌≡◌, ◌∙◌, ◌<◌, ◌≤◌, ◌+◌, ℕ, zero, suc, Bool, true, false, cond, List, Option, None, Some, length, refl, sym, ap, subst, arith}
use Rattle.std.specs.List.{slice_get}
use Rattle.std.specs.Option.{IsSomeAnd}
use Rattle.std.proofs.lemmas.Bool.{false_from_ne_true}
use Rattle.rtl_bits.specs.declared.Bit.{Bit}
use Rattle.rtl_bits.specs.declared.Bit.TheVariants.{X}
use Rattle.rtl_bits.specs.Bit.{is_unknown}
use Rattle.rtl_bits.specs.Bits.{tabulate}
use Rattle.rtl_bits.specs.Inside.{length-tabulate}
use Rattle.rtl_bits.proofs.Lists.{get_or-tabulate}
use Rattle.rtl_flat.specs.Flows.{flow_of}
use Rattle.rtl_flat.specs.Levels.{HasNoEdge, IsNode}
use Rattle.rtl_flat.specs.Paths.{MayWrite, may_write}
use Rattle.rtl_flat.specs.PathSets.{OfProcess}
use Rattle.rtl_flat.specs.Process.{Assign, Comb, Doing, Edge', Task}
use Rattle.rtl_flat.proofs.Paths.{decided}
use Rattle.event_model.specs.Queue.{doing_at, doing_of}
use Rattle.rtl_flat.specs.Flats.{Flat, widths}
use Rattle.event_model.specs.Traces.{Same}
use Rattle.event_model.specs.Writes.{Values, driven}
use Rattle.net_model.specs.declared.fill.Fill.{Fill}
use Rattle.net_model.specs.Block.{block_bit}
use Rattle.net_model.specs.Numbers.{AreNumbers, bit, digits}
use Rattle.sign_unknown.specs.sign_cycles.net_rest.Rest.{IsSolvable}
use Rattle.net_solve.specs.Laws.{AreDone, IsOrder, IsWorkable, IsWorked, place}
use Rattle.net_solve.proofs.Same.{of_node}
use Rattle.net_solve.proofs.Worked.{worked}
use Rattle.net_solve.proofs.event_runs_proofs.Writers.{assign_may, to_process}
use Rattle.net_solve.proofs.net_rest_proofs.event_laws_proofs.Within as within
use Rattle.net_solve.proofs.net_rest_proofs.net_laws_proofs.Known.{KnownBit, known_at, known_each}
use Rattle.net_solve.proofs.net_rest_proofs.net_laws_proofs.Laws.{block_known}
use Rattle.net_solve.proofs.net_rest_proofs.Computing.{driven_known, value_digits, value_known}
use Rattle.net_solve.proofs.net_rest_proofs.Numbers.{past_ends}
use Rattle.net_solve.proofs.net_rest_proofs.Rest.{its_target}

node_does : (d : Flat) (p : ℕ) → IsNode d.tasks p → (does : Doing) × (doing_at d p ≡ Some does)
node_does d p node = by_task (slice_get d.tasks p) node
  where
    by_task : (o : Option Task) → IsSomeAnd o (λ task. HasNoEdge task.does) → (does : Doing) × (doing_of o ≡ Some does)
    by_task None is = absurd is
    by_task (Some task) is = (task.does, refl)

-- the bit that a process without edges gives
abbrev gives : (ℕ → ℕ) → Fill → Values → Doing → ℕ → ℕ → Bit
gives ws f n (Assign target e) i k = bit (driven ws target (digits f n e)) i k
gives ws f n (Comb list body) i k = block_bit ws f n body i k
gives ws f n (Edge' events body) i k = bit n i k

-- numbers after it gave its bits
abbrev given_by : (ℕ → ℕ) → Fill → Values → Doing → Values
given_by ws f n does i = tabulate (ws i) (λ k. cond (may_write (flow_of ws does) i k) (gives ws f n does i k) (bit n i k))

module _ (d : Flat) (level : ℕ → ℕ) (solvable : IsSolvable d level) (f : Fill) where
  -- ---- one process

  module _ (p : ℕ) (does : Doing) (here : doing_at d p ≡ Some does) (no_edge : HasNoEdge does) (n : Values) (are : AreNumbers d n) where
    abbrev new : Values
    new = given_by (widths d) f n does

    new_wide : (i : ℕ) → length (new i) ≡ widths d i
    new_wide i =
        length-tabulate (widths d i) (λ k. cond (may_write (flow_of (widths d) does) i k) (gives (widths d) f n does i k) (bit n i k))

    new_at :
        (i k : ℕ) → k < widths d i →
        bit new i k ≡ cond (may_write (flow_of (widths d) does) i k) (gives (widths d) f n does i k) (bit n i k)
    new_at i k inside =
        get_or-tabulate (widths d i) (λ l. cond (may_write (flow_of (widths d) does) i l) (gives (widths d) f n does i l) (bit n i l)) k X
        inside

    may_inside :
        (one : Doing) → doing_at d p ≡ Some one → HasNoEdge one → (i k : ℕ) → MayWrite (flow_of (widths d) one) i k →
        k < widths d i
    may_inside (Assign target e) is node i k may =
        within.target_inside (widths d) target i k (its_target d level solvable p target e is i k may)
    may_inside (Comb list body) is node i k may =
        within.write_inside d.signals body (solvable.lawful p (Comb list body) is).1 i k may
    may_inside (Edge' events body) is node i k may = absurd node

    given_known :
        (one : Doing) → doing_at d p ≡ Some one → HasNoEdge one → (i k : ℕ) → k < widths d i →
        MayWrite (flow_of (widths d) one) i k → KnownBit (gives (widths d) f n one i k)
    given_known (Assign target e) is node i k inside may =
        let same = value_digits d level solvable p target e is f n are in
        ap (λ bits. is_unknown (bit (driven (widths d) target bits) i k)) same
        ∙ driven_known d level solvable p target e is n are.wide (value_known d level solvable p target e is f n are) i k
        (its_target d level solvable p target e is i k may)
    given_known (Comb list body) is node i k inside may =
        block_known d f n body i k are (solvable.lawful p (Comb list body) is).1 inside
    given_known (Edge' events body) is node i k inside may = absurd node

    new_known : (i k : ℕ) → k < widths d i → KnownBit (bit new i k)
    new_known i k inside = by_may (may_write (flow_of (widths d) does) i k) refl
      where
        by_may : (b : Bool) → may_write (flow_of (widths d) does) i k ≡ b → KnownBit (bit new i k)
        by_may true may =
            ap is_unknown (new_at i k inside ∙ ap (λ b. cond b (gives (widths d) f n does i k) (bit n i k)) may)
            ∙ given_known does here no_edge i k inside ((decided (flow_of (widths d) does) i k).writes.0 may)
        by_may false cannot =
            let size = are.wide i in
            ap is_unknown (new_at i k inside ∙ ap (λ b. cond b (gives (widths d) f n does i k) (bit n i k)) cannot)
            ∙ known_at (n i) k (are.known i) (omega (arith, size, inside))

    new_gives : (i k : ℕ) → MayWrite (flow_of (widths d) does) i k → bit new i k ≡ gives (widths d) f n does i k
    new_gives i k may =
        new_at i k (may_inside does here no_edge i k may)
        ∙ ap (λ b. cond b (gives (widths d) f n does i k) (bit n i k)) ((decided (flow_of (widths d) does) i k).writes.1 may)

    new_leaves : (i k : ℕ) → (OfProcess MayWrite d.signals d.tasks p i k → ⊥) → Same new n i k
    new_leaves i k none =
        past_ends d new n new_wide are.wide i k (λ inside.
        new_at i k inside
        ∙ ap (λ b. cond b (gives (widths d) f n does i k) (bit n i k))
        (false_from_ne_true (may_write (flow_of (widths d) does) i k)
        (λ may. none (to_process MayWrite d p i k does here ((decided (flow_of (widths d) does) i k).writes.0 may)))))

    new_worked : IsWorked d f p n new
    new_worked =
        record {
          numbers = record {
            wide = new_wide;
            known = λ i. known_each (new i) (λ k below. let size = new_wide i in new_known i k (omega (arith, size, below)));
          };
          assigns = λ target e is i k may.
              let same : does ≡ Assign target e = one_doing (Assign target e) is in
              new_gives i k
              (subst (λ one. MayWrite (flow_of (widths d) one) i k) (sym same) (assign_may (widths d) target e i k may))
              ∙ ap (λ one. gives (widths d) f n one i k) same;
          blocks = λ list body is i k may.
              let same : does ≡ Comb list body = one_doing (Comb list body) is in
              new_gives i k
              (subst (λ one. MayWrite (flow_of (widths d) one) i k) (sym same) may)
              ∙ ap (λ one. gives (widths d) f n one i k) same;
          others = new_leaves;
        }
      where
        one_doing : (other : Doing) → doing_at d p ≡ Some other → does ≡ other
        one_doing other is = let whole : Some does ≡ Some other = sym here ∙ is in cc

  work_out : (p : ℕ) → IsNode d.tasks p → (n : Values) → AreNumbers d n → (m : Values) × IsWorked d f p n m
  work_out p node n are =
      let (does, here) = node_does d p node in
      (given_by (widths d) f n does, new_worked p does here (of_node d p does here node) n are)

  -- ---- all of them

  module _ (workable : IsWorkable d) (order : List ℕ) (is : IsOrder d order) (begun : Values) (are : AreNumbers d begun) where
    done_to : (j : ℕ) → j ≤ length order → (n : Values) × AreDone d f order begun j n
    done_to zero below = (begun, (worked d workable).none f order begun are)
    done_to (suc j) below =
        let inside : j < length order = omega (arith, below) in
        let (n, done) = done_to j (omega (arith, below)) in
        let (m, more) = work_out (place order j) (is.nodes j inside) n done.numbers in
        let next : j + 1 ≡ suc j = omega arith in
        (m, subst (λ t. AreDone d f order begun t m) next ((worked d workable).more f order begun j n m is inside are done more))

    pub all_done : (n : Values) × AreDone d f order begun (length order) n
    all_done = done_to (length order) (omega arith)
