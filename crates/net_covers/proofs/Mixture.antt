-- Values with some bits of one state and all others of another; and equations of bits by cases that nobody decides.
use Rattle.std.proofs.Common.{◌≡◌, ◌∙◌, ◌<◌, ℕ, true, false, cond, refl, sym, ap, inl, inr}
use Rattle.std.specs.Prelude.{◌⊎◌}
use Rattle.std.proofs.lemmas.Bool.{cases_Bool}
use Rattle.rtl_bits.specs.declared.Bit.{Bit}
use Rattle.rtl_bits.specs.declared.Bit.TheVariants.{Zero, One, X, Z}
use Rattle.rtl_bits.specs.Bit.{is_unknown}
use Rattle.rtl_bits.specs.Bits.{tabulate}
use Rattle.rtl_bits.specs.Inside.{length-tabulate}
use Rattle.rtl_bits.proofs.Lists.{get_or-tabulate}
use Rattle.rtl_flat.specs.Paths.{BitSet}
use Rattle.rtl_flat.specs.Flats.{Flat, widths}
use Rattle.event_model.specs.Traces.{Same}
use Rattle.event_model.specs.Writes.{Values}
use Rattle.event_covers.specs.Covers.{MayBe, StoresMayBe}
use Rattle.net_rest.specs.event_laws.Steady.{HaveWidths}
use Rattle.net_model.specs.Numbers.{bit}
use Rattle.net_rest.proofs.Numbers.{past_ends}

-- ---- cases

-- whether two bits are the same is decided
bits_decided : (x b : Bit) → (x ≡ b) ⊎ (x ≡ b → ⊥)
bits_decided Zero Zero = inl refl
bits_decided Zero One = inr (λ e. cc)
bits_decided Zero X = inr (λ e. cc)
bits_decided Zero Z = inr (λ e. cc)
bits_decided One Zero = inr (λ e. cc)
bits_decided One One = inl refl
bits_decided One X = inr (λ e. cc)
bits_decided One Z = inr (λ e. cc)
bits_decided X Zero = inr (λ e. cc)
bits_decided X One = inr (λ e. cc)
bits_decided X X = inl refl
bits_decided X Z = inr (λ e. cc)
bits_decided Z Zero = inr (λ e. cc)
bits_decided Z One = inr (λ e. cc)
bits_decided Z X = inr (λ e. cc)
bits_decided Z Z = inl refl

-- so an equation that holds in either case holds
pub stable : {E : Type 0} → (x b : Bit) → (E → x ≡ b) → ((E → ⊥) → x ≡ b) → x ≡ b
stable x b left right =
    elim (bits_decided x b) [
      | inl same ↦ same
      | inr other ↦ right (λ e. other (left e))
    ]

-- ---- mixtures

module _ (d : Flat) (set : BitSet) (v n : Values) where
  -- the bits of a set as the first has them, and all others as the second
  abbrev pub mixed : Values
  mixed i = tabulate (widths d i) (λ k. cond (set i k) (bit v i k) (bit n i k))

  pub mixed_wide : HaveWidths d mixed
  mixed_wide i = length-tabulate (widths d i) (λ k. cond (set i k) (bit v i k) (bit n i k))

  mixed_bit : (i k : ℕ) → k < widths d i → bit mixed i k ≡ cond (set i k) (bit v i k) (bit n i k)
  mixed_bit i k inside = get_or-tabulate (widths d i) (λ l. cond (set i l) (bit v i l) (bit n i l)) k X inside

  module _ (wide : HaveWidths d v) (wide' : HaveWidths d n) where
    pub mixed_in : (i k : ℕ) → set i k ≡ true → Same mixed v i k
    mixed_in i k is =
        past_ends d mixed v mixed_wide wide i k
        (λ inside. mixed_bit i k inside ∙ ap (λ b. cond b (bit v i k) (bit n i k)) is)

    pub mixed_out : (i k : ℕ) → set i k ≡ false → Same mixed n i k
    mixed_out i k is =
        past_ends d mixed n mixed_wide wide' i k
        (λ inside. mixed_bit i k inside ∙ ap (λ b. cond b (bit v i k) (bit n i k)) is)

    pub mixed_same : (i k : ℕ) → (set i k ≡ true → Same v n i k) → Same mixed n i k
    mixed_same i k same =
        elim (cases_Bool (set i k)) [
          | inl is ↦ mixed_in i k is ∙ same is
          | inr out ↦ mixed_out i k out
        ]

    -- it may be the second where the bits of the set may be
    pub mixed_may : ((i k : ℕ) → set i k ≡ true → MayBe (bit v i k) (bit n i k)) → StoresMayBe mixed n
    mixed_may may i k known =
        elim (cases_Bool (set i k)) [
          | inl is ↦ mixed_in i k is ∙ may i k is (ap is_unknown (sym (mixed_in i k is)) ∙ known)
          | inr out ↦ mixed_out i k out
        ]
