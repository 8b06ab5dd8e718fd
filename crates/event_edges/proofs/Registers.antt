-- Bits after writes and after updates.
use Rattle.std.proofs.Common.{◌≡◌, ◌∙◌, ℕ, Bool, true, false, List, [], ◌∷◌, ◌++◌, All, refl, sym, ap, inl, inr}
use Rattle.std.specs.Prelude.{if◌then◌else◌}
use Rattle.std.specs.List.{list_any}
use Rattle.std.proofs.lemmas.Bool.{cases_Bool, or_parts}
use Rattle.std.proofs.lemmas.List.Elements.{All-head, All-tail}
use Rattle.rtl_bits.specs.declared.Bit.{Bit}
use Rattle.rtl_flat.specs.Flats.{Flat, widths}
use Rattle.event_model.specs.Traces.{covers}
use Rattle.event_model.specs.Writes.{Values, Write, all_written, written}
use Rattle.event_runs.specs.event_laws.Steady.{HaveWidths, IsWithin}
use Rattle.event_runs.proofs.event_laws_proofs.Lengths.{have_written}
use Rattle.net_model.specs.Numbers.{bit}
use Rattle.event_runs.proofs.event_laws_proofs.Written.{written_in, written_out}
use Rattle.event_runs.specs.Writers.{are_over}
use Rattle.event_edges.specs.Registers.{update_bit, updates_bit, write_bit}

pub choose : {A : Type 0} (b : Bool) (x y : A) → b ≡ true → (if b then x else y) ≡ x
choose true x y is = refl
choose false x y is = absurd (cc)

pub refuse : {A : Type 0} (b : Bool) (x y : A) → b ≡ false → (if b then x else y) ≡ y
refuse false x y is = refl
refuse true x y is = absurd (cc)

module _ (d : Flat) (i k : ℕ) where
  written_bit : (v : Values) (w : Write) → HaveWidths d v → IsWithin (widths d) w → bit (written v w) i k ≡ write_bit i k (bit v i k) w
  written_bit v w have inside =
      elim (cases_Bool (covers i k w)) [
        | inl over ↦ written_in d v w have inside i k over ∙ sym (choose (covers i k w) _ (bit v i k) over)
        | inr out ↦ written_out d v w have inside i k out ∙ sym (refuse (covers i k w) _ (bit v i k) out)
      ]

  pub all_written_bit : (v : Values) (us : List Write) → HaveWidths d v → All (IsWithin (widths d)) us → bit (all_written v us) i k ≡ update_bit i k us (bit v i k)
  all_written_bit v [] have inside = refl
  all_written_bit v (w ∷ us) have inside =
      let here = All-head (IsWithin (widths d)) w us inside in
      all_written_bit (written v w) us (have_written d v w have here) (All-tail (IsWithin (widths d)) w us inside)
      ∙ ap (update_bit i k us) (written_bit v w have here)

pub not_updated : (i k : ℕ) (us : List Write) (b : Bit) → list_any (covers i k) us ≡ false → update_bit i k us b ≡ b
not_updated i k [] b none = refl
not_updated i k (w ∷ us) b none =
    let parts = or_parts (covers i k w) (list_any (covers i k) us) none in
    ap (update_bit i k us) (refuse (covers i k w) _ b parts.0) ∙ not_updated i k us b parts.1

pub not_over : (i k : ℕ) (us : List (List Write)) (b : Bit) → are_over i k us ≡ false → updates_bit i k us b ≡ b
not_over i k [] b none = refl
not_over i k (u ∷ us) b none =
    let parts = or_parts (list_any (covers i k) u) (are_over i k us) none in
    ap (updates_bit i k us) (not_updated i k u b parts.0) ∙ not_over i k us b parts.1

pub updates_append : (i k : ℕ) (us others : List (List Write)) (b : Bit) → updates_bit i k (us ++ others) b ≡ updates_bit i k others (updates_bit i k us b)
updates_append i k [] others b = refl
updates_append i k (u ∷ us) others b = updates_append i k us others (update_bit i k u b)
