-- One process that is worked out.
use Rattle.std.proofs.Common.{◌≡◌, ◌∙◌, ◌<◌, ℕ, true, cond, List, Option, Some, length, get_or, sym, ap, subst, inl, inr, arith}
use Rattle.std.proofs.lemmas.Bool.{cases_Bool, cond-false, cond-true, false_from_ne_true}
use Rattle.rtl_bits.specs.declared.Bit.{Bit}
use Rattle.rtl_bits.specs.declared.Bit.TheVariants.{X}
use Rattle.rtl_bits.specs.Bit.{is_unknown}
use Rattle.rtl_bits.specs.Bits.{tabulate}
use Rattle.rtl_bits.specs.Inside.{length-tabulate}
use Rattle.rtl_bits.proofs.Lists.{get_or-tabulate}
use Rattle.rtl_flat.specs.Expression.{Tree}
use Rattle.rtl_flat.specs.Flows.{body_flow, may_target}
use Rattle.rtl_flat.specs.Paths.{MayWrite}
use Rattle.rtl_flat.specs.Process.{Actions, Assign, Comb, Doing, Piece, Watched}
use Rattle.event_model.specs.Queue.{doing_at}
use Rattle.rtl_flat.specs.Flats.{Flat, widths}
use Rattle.event_model.specs.Writes.{Values, driven}
use Rattle.net_body.specs.event_laws.Steady.{AreLawful}
use Rattle.net_body.proofs.event_laws_proofs.Within as within
use Rattle.net_solve.proofs.event_runs_proofs.Writers.{assign_may, to_process}
use Rattle.net_model.specs.declared.fill.Fill.{Fill}
use Rattle.net_model.specs.Block.{block_bit}
use Rattle.net_model.specs.Numbers.{AreNumbers, bit, digits}
use Rattle.net_body.proofs.net_laws_proofs.Known.{KnownBit, known_at, known_each}
use Rattle.net_body.proofs.net_laws_proofs.Laws.{block_known}
use Rattle.net_solve.proofs.net_rest_proofs.Numbers.{past_ends}
use Rattle.net_solve.specs.Laws.{IsWorked}
use Rattle.net_settle.proofs.Driven.{driven_known}
use Rattle.net_settle.proofs.Stays.{block_stays}

same_doing : (one other : Doing) → Some one ≡ Some other → one ≡ other
same_doing one other same = cc

module _ (d : Flat) (f : Fill) (lawful : AreLawful d) (p : ℕ) (old new : Values) (are : AreNumbers d old) where
  -- numbers that are made bit by bit
  module _ (made : ℕ → ℕ → Bit) (is : (i : ℕ) → new i ≡ tabulate (widths d i) (made i)) (known : (i k : ℕ) → k < widths d i → KnownBit (made i k)) where
    new_wide : (i : ℕ) → length (new i) ≡ widths d i
    new_wide i = ap length (is i) ∙ length-tabulate (widths d i) (made i)

    new_bit : (i k : ℕ) → k < widths d i → bit new i k ≡ made i k
    new_bit i k inside = ap (λ bits. get_or bits k X) (is i) ∙ get_or-tabulate (widths d i) (made i) k X inside

    new_numbers : AreNumbers d new
    new_numbers = record {
      wide = new_wide;
      known = λ i. known_each (new i) (λ k below.
          let size = new_wide i in
          let inside : k < widths d i = omega (arith, below, size) in
          ap is_unknown (new_bit i k inside) ∙ known i k inside);
    }

  old_known : (i k : ℕ) → k < widths d i → KnownBit (bit old i k)
  old_known i k inside = let size = are.wide i in known_at (old i) k (are.known i) (omega (arith, inside, size))

  -- ---- a continuous assignment

  module _ (target : List Piece) (e : Tree) (here : doing_at d p ≡ Some (Assign target e)) where
    abbrev assigned : ℕ → ℕ → Bit
    assigned i k =
        cond (may_target (widths d) target i k) (bit (driven (widths d) target (digits f old e)) i k) (bit old i k)

    assigned_known : (i k : ℕ) → k < widths d i → KnownBit (assigned i k)
    assigned_known i k inside =
        elim (cases_Bool (may_target (widths d) target i k)) as (λ _. KnownBit (assigned i k)) [
          | inl may ↦
              ap is_unknown (cond-true (may_target (widths d) target i k) (bit (driven (widths d) target (digits f old e)) i k) (bit old i k) may)
              ∙ driven_known d f old are target e (lawful p (Assign target e) here) i k may
          | inr none ↦
              ap is_unknown (cond-false (may_target (widths d) target i k) (bit (driven (widths d) target (digits f old e)) i k) (bit old i k) none)
              ∙ old_known i k inside
        ]

    pub assign_worked : ((i : ℕ) → new i ≡ tabulate (widths d i) (assigned i)) → IsWorked d f p old new
    assign_worked is = record {
      numbers = new_numbers assigned is assigned_known;
      assigns = λ target' e' here' i k may.
          let same = same_doing (Assign target' e') (Assign target e) (sym here' ∙ here) in
          let one : target' ≡ target = cc in
          let other : e' ≡ e = cc in
          subst (λ (t : List Piece). may_target (widths d) t i k ≡ true → bit new i k ≡ bit (driven (widths d) t (digits f old e')) i k) (sym one)
          (subst (λ (x : Tree). may_target (widths d) target i k ≡ true → bit new i k ≡ bit (driven (widths d) target (digits f old x)) i k) (sym other)
          (given i k)) may;
      blocks = λ list body here'. absurd (not_both list body (sym here ∙ here'));
      others = λ i k none.
          past_ends d new old (new_wide assigned is assigned_known) are.wide i k (λ inside.
          new_bit assigned is assigned_known i k inside
          ∙ cond-false (may_target (widths d) target i k) (bit (driven (widths d) target (digits f old e)) i k) (bit old i k)
          (false_from_ne_true (may_target (widths d) target i k) (λ may.
          none (to_process MayWrite d p i k (Assign target e) here (assign_may (widths d) target e i k may)))));
    }
      where
        not_both : (list : Option (List Watched)) (body : Actions) → Some (Assign target e) ≡ Some (Comb list body) → ⊥
        not_both list body same = cc

        given : (i k : ℕ) → may_target (widths d) target i k ≡ true → bit new i k ≡ bit (driven (widths d) target (digits f old e)) i k
        given i k may =
            new_bit assigned is assigned_known i k (within.target_inside (widths d) target i k may)
            ∙ cond-true (may_target (widths d) target i k) (bit (driven (widths d) target (digits f old e)) i k) (bit old i k) may

  -- ---- a block

  module _ (list : Option (List Watched)) (body : Actions) (here : doing_at d p ≡ Some (Comb list body)) where
    abbrev run : ℕ → ℕ → Bit
    run i k = block_bit (widths d) f old body i k

    run_known : (i k : ℕ) → k < widths d i → KnownBit (run i k)
    run_known i k inside = block_known d f old body i k are (lawful p (Comb list body) here).1 inside

    pub block_worked : ((i : ℕ) → new i ≡ tabulate (widths d i) (run i)) → IsWorked d f p old new
    block_worked is = record {
      numbers = new_numbers run is run_known;
      assigns = λ target e here'. absurd (not_both target e (sym here ∙ here'));
      blocks = λ list' body' here' i k may.
          let same : body' ≡ body = same_body list' body' (same_doing (Comb list' body') (Comb list body) (sym here' ∙ here)) in
          subst (λ (one : Actions). MayWrite (body_flow (widths d) one) i k → bit new i k ≡ block_bit (widths d) f old one i k)
          (sym same) (given i k) may;
      others = λ i k none.
          past_ends d new old (new_wide run is run_known) are.wide i k (λ inside.
          new_bit run is run_known i k inside
          ∙ block_stays d f i k old are.wide body (lawful p (Comb list body) here).1
          (λ may. none (to_process MayWrite d p i k (Comb list body) here may)));
    }
      where
        not_both : (target : List Piece) (e : Tree) → Some (Comb list body) ≡ Some (Assign target e) → ⊥
        not_both target e same = cc

        same_body : (list' : Option (List Watched)) (body' : Actions) → Comb list' body' ≡ Comb list body → body' ≡ body
        same_body list' body' same = cc

        given : (i k : ℕ) → MayWrite (body_flow (widths d) body) i k → bit new i k ≡ block_bit (widths d) f old body i k
        given i k may =
            new_bit run is run_known i k (within.write_inside d.signals body (lawful p (Comb list body) here).1 i k may)
