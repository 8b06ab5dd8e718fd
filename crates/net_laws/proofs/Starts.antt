-- The function of a body from where it begins in the equations of a design.
use Rattle.std.proofs.Common.{◌≡◌, ◌∙◌, ◌<◌, ℕ, Bool, true, false, cond, sym, inl, inr}
use Rattle.std.proofs.lemmas.Bool.{cases_Bool, cond-false, cond-true, false≢true}
use Rattle.rtl_bits.specs.declared.Bit.TheVariants.{X}
use Rattle.rtl_bits.specs.Inside.{length-tabulate}
use Rattle.rtl_bits.proofs.Lists.{get_or-tabulate}
use Rattle.rtl_flat.specs.Flows.{body_flow}
use Rattle.rtl_flat.specs.Paths.{MayWrite, ReadsOutside, may_write}
use Rattle.rtl_flat.specs.Process.{Actions}
use Rattle.rtl_flat.specs.WellFormed.{IsBody}
use Rattle.rtl_flat.proofs.Paths.{decided}
use Rattle.rtl_flat.specs.Flats.{Flat, widths}
use Rattle.event_model.specs.Traces.{Same}
use Rattle.event_model.specs.Writes.{Values}
use Rattle.event_laws.specs.Steady.{HaveWidths}
use Rattle.event_laws.proofs.Within as within
use Rattle.net_model.specs.Numbers.{bit}
use Rattle.net_model.specs.Solution.{start}

module _ (d : Flat) (body : Actions) where
  abbrev may : ℕ → ℕ → Bool
  may = may_write (body_flow (widths d) body)

  pub start_wide : (held n : Values) → HaveWidths d (start d body held n)
  start_wide held n i =
      length-tabulate (widths d i) (λ k. cond (may i k) (bit held i k) (bit n i k))

  start_bit : (held n : Values) (i k : ℕ) → k < widths d i → bit (start d body held n) i k ≡ cond (may i k) (bit held i k) (bit n i k)
  start_bit held n i k below =
      get_or-tabulate (widths d i) (λ k. cond (may i k) (bit held i k) (bit n i k)) k X below

  -- its own bits as they are held
  start_own : (held n : Values) (i k : ℕ) → k < widths d i → may i k ≡ true → bit (start d body held n) i k ≡ bit held i k
  start_own held n i k below is =
      start_bit held n i k below ∙ cond-true (may i k) (bit held i k) (bit n i k) is

  -- and all others as they are
  start_other : (held n : Values) (i k : ℕ) → k < widths d i → may i k ≡ false → bit (start d body held n) i k ≡ bit n i k
  start_other held n i k below is =
      start_bit held n i k below ∙ cond-false (may i k) (bit held i k) (bit n i k) is

  module _ (lawful : IsBody d.signals body) (held held' n n' : Values) (own : (i k : ℕ) → MayWrite (body_flow (widths d) body) i k → Same held held' i k) where
    pub same_own : (i k : ℕ) → MayWrite (body_flow (widths d) body) i k → Same (start d body held n) (start d body held' n') i k
    same_own i k written =
        let below = within.write_inside d.signals body lawful i k written in
        let is = (decided (body_flow (widths d) body) i k).writes.1 written in
        start_own held n i k below is ∙ own i k written ∙ sym (start_own held' n' i k below is)

    pub same_outside :
        ((i k : ℕ) → ReadsOutside (body_flow (widths d) body) i k → (MayWrite (body_flow (widths d) body) i k → ⊥) → Same n n' i k) →
        (i k : ℕ) → ReadsOutside (body_flow (widths d) body) i k → Same (start d body held n) (start d body held' n') i k
    same_outside others i k read =
        let below = within.outside_inside d.signals body lawful i k read in
        elim (cases_Bool (may i k)) [
          | inl is ↦ same_own i k ((decided (body_flow (widths d) body) i k).writes.0 is)
          | inr none ↦
              start_other held n i k below none
              ∙ others i k read (λ written. false≢true (sym none ∙ (decided (body_flow (widths d) body) i k).writes.1 written))
              ∙ sym (start_other held' n' i k below none)
        ]
