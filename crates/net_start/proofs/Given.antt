-- Signals that get their values one after another.
use Rattle.std.proofs.Common.{◌≡◌, ◌∙◌, ◌<◌, ◌+◌, ℕ, zero, suc, List, [], ◌∷◌, length, get_or, set, sym, ap, subst, inl, inr, arith}
use Rattle.std.proofs.lemmas.Bool.{cases_eq}
use Rattle.std.proofs.lemmas.List.{get_or-set_other, get_or-set_same}
use Rattle.rtl_bits.specs.declared.Bit.{Bit}
use Rattle.rtl_flat.specs.Value.{store}
use Rattle.event_model.specs.Writes.{Values}
use Rattle.check_found.specs.rtl_scan.Arrows.{Among, AreRising}
use Rattle.net_start.specs.Listing.{AreGiven}
use Rattle.net_start.proofs.Listed.{place_among, rising_places}

module _ (signals : List ℕ) (values : List (List Bit)) (first : Values) where
  pub none_given : (numbers : List (List Bit)) → first ≡ store numbers → AreGiven signals values 0 first (store numbers)
  none_given numbers same = record {
    given = λ j below. absurd (omega (arith, below));
    left = λ i none. ap (λ n. n i) (sym same);
  }

  pub given_more :
      (n : ℕ) (old : List (List Bit)) (place : ℕ) (bits : List Bit) →
      AreRising signals → n < length signals → place ≡ get_or signals n 0 → place < length old → bits ≡ store values n →
      AreGiven signals values n first (store old) → AreGiven signals values (n + 1) first (store (set old place bits))
  given_more n old place bits rising below is inside bits_are are = record {
    given = λ j before. elim (cases_eq j n) as (λ _. get_or (set old place bits) (get_or signals j 0) [] ≡ store values j) [
      | inl same ↦
          ap (λ p. get_or (set old place bits) p []) (ap (λ m. get_or signals m 0) same ∙ sym is)
          ∙ (get_or-set_same old place bits [] inside ∙ (bits_are ∙ ap (store values) (sym same)))
      | inr other ↦
          let less : j < n = omega (arith, before, other) in
          let apart = rising_places signals rising j n less below in
          get_or-set_other old place (get_or signals j 0) bits [] (λ same. absurd (omega (arith, same, is, apart))) ∙ are.given j less
    ];
    left = λ i none.
        get_or-set_other old place i bits [] (λ same. none (subst (Among signals) (sym (same ∙ is)) (place_among signals n below)))
        ∙ are.left i none;
  }

-- a value that is read
pub read_is : (xs : List (List Bit)) (i : ℕ) (x : List Bit) → i < length xs → x ≡ get_or xs i x → x ≡ store xs i
read_is [] i x below is = absurd (omega (arith, below))
read_is (y ∷ xs) zero x below is = is
read_is (y ∷ xs) (suc i) x below is = read_is xs i x (omega (arith, below)) is
