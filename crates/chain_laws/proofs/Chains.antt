-- The chain that the rules find of a process.
use Rattle.std.proofs.Common.{◌≡◌, ◌∙◌, ℕ, zero, suc, Bool, true, false, List, [], ◌∷◌, Option, None, Some, map, refl, sym, ap, subst}
use Rattle.std.specs.Prelude.{◌==◌, if◌then◌else◌}
use Rattle.std.specs.List.Sorted.{IsPermutation}
use Rattle.std.proofs.lemmas.Bool.{eqb-true}
use Rattle.std.proofs.lemmas.List.Sorted.{IsPermutation-cons, IsPermutation-middle, IsPermutation-refl, IsPermutation-trans}
use Rattle.text_ground.specs.declared.text.Spot.{Spot}
use Rattle.rtl_flat.specs.Expression.{Tree}
use Rattle.rtl_flat.specs.Process.{Watched, If, Actions, Done, Then, With}
use Rattle.net_model.specs.Cycle.{Guard, Chain, IsChained, opened}
use Rattle.rtl_flat.specs.Flats.{Flat}
use Rattle.check_chains.specs.Chains.{Test, beside, chain_in, guarded, headed, taken_out, tested, with_item, with_test}
use Rattle.rtl_rule.proofs.Lists.{Each}

-- ---- an item that is taken out

record IsTaken (r : ℕ) (events : List Watched) (item : Watched) (others : List Watched) : Type 0 where
  signal : item.signal ≡ r
  same : IsPermutation events (item ∷ others)

abbrev first_in : Watched → Option (Watched × List Watched) → Watched
first_in otherwise None = otherwise
first_in otherwise (Some (one, rest)) = one

abbrev others_in : List Watched → Option (Watched × List Watched) → List Watched
others_in otherwise None = otherwise
others_in otherwise (Some (one, rest)) = rest

abbrev pair : Watched → List Watched → Option (Watched × List Watched)
pair one rest = Some (one, rest)

some_pair : (a b : Watched) (xs ys : List Watched) → pair a xs ≡ pair b ys → (a ≡ b) × (xs ≡ ys)
some_pair a b xs ys e =
    (ap (λ (o : Option (Watched × List Watched)). first_in a o) e, ap (λ (o : Option (Watched × List Watched)). others_in xs o) e)

taken : (r : ℕ) (events : List Watched) (item : Watched) (others : List Watched) → taken_out r events ≡ Some (item, others) → IsTaken r events item others
taken r [] item others e = absurd (cc)
taken r (first ∷ events) item others e =
    by_first (λ one rest is. taken r events one rest is) (first.signal == r) refl e
  where
    by_rest : (o : Option (Watched × List Watched)) → ((one : Watched) (rest : List Watched) → o ≡ Some (one, rest) → IsTaken r events one rest) → beside first o ≡ Some (item, others) → IsTaken r (first ∷ events) item others
    by_rest None go e' = absurd (cc)
    by_rest (Some (one, rest)) go e' =
        let found = go one rest refl in
        let same = some_pair one item (first ∷ rest) others e' in
        record {
          signal = ap (λ (x : Watched). x.signal) (sym same.0) ∙ found.signal;
          same = subst (λ x. IsPermutation (first ∷ events) (x ∷ others)) same.0 (subst (λ l. IsPermutation (first ∷ events) (one ∷ l)) same.1 (IsPermutation-trans (first ∷ events) (first ∷ one ∷ rest) (one ∷ first ∷ rest) (IsPermutation-cons first events (one ∷ rest) found.same) (IsPermutation-middle (first ∷ []) one rest)));
        }

    by_first : ((one : Watched) (rest : List Watched) → taken_out r events ≡ Some (one, rest) → IsTaken r events one rest) → (b : Bool) → (first.signal == r) ≡ b → (if b then Some (first, events) else beside first (taken_out r events)) ≡ Some (item, others) → IsTaken r (first ∷ events) item others
    by_first go true is e' =
        let same = some_pair first item events others e' in
        record {
          signal = ap (λ (x : Watched). x.signal) (sym same.0) ∙ eqb-true first.signal r is;
          same = subst (λ x. IsPermutation (first ∷ events) (x ∷ others)) same.0 (subst (λ l. IsPermutation (first ∷ events) (first ∷ l)) same.1 (IsPermutation-refl (first ∷ events)));
        }
    by_first go false isnt e' = by_rest (taken_out r events) go e'

-- ---- chains

-- a reset with its test
pub record IsTested (d : Flat) (guard : Guard) : Type 0 where
  pub test : Test
  pub is : tested d guard.test ≡ Some test
  pub signal : guard.item.signal ≡ test.signal

-- what a chain is
pub record IsFound (d : Flat) (events : List Watched) (body : Actions) (chain : Chain) : Type 0 where
  pub chained : IsChained chain.resets chain.part body
  pub items : IsPermutation events (chain.clock ∷ map (λ guard. guard.item) chain.resets)
  pub tests : Each (IsTested d) chain.resets

module _ (d : Flat) where
  -- a search that finds chains
  abbrev Finds : (List Watched → Actions → Option Chain) → Type 0
  Finds go =
      (events : List Watched) (body : Actions) (chain : Chain) → go events body ≡ Some chain → IsFound d events body chain

  alone : Finds (chain_in d zero)
  alone [] body chain e = absurd (cc)
  alone (clock ∷ []) body chain e =
      let same : record { resets = []; clock = clock; part = body } ≡ chain = cc in
      subst (IsFound d (clock ∷ []) body) same (record { chained = refl; items = IsPermutation-refl (clock ∷ []); tests = tt })
  alone (clock ∷ next ∷ others) body chain e = absurd (cc)

  module _ (go : List Watched → Actions → Option Chain) (finds : Finds go) (events : List Watched) (body : Actions) (chain : Chain) where
    module _ (test : Tree) (branch other : Actions) (spot : Spot) (is : opened body ≡ Then (If test branch (With other) spot) Done) where
      by_chain : (one : Test) → tested d test ≡ Some one → (item : Watched) (rest : List Watched) → IsTaken one.signal events item rest → (o : Option Chain) → go rest other ≡ o → guarded (record { item = item; test = test; branch = branch }) o ≡ Some chain → IsFound d events body chain
      by_chain one is_test item rest taken' None e e' = absurd (cc)
      by_chain one is_test item rest taken' (Some inner) e e' =
          let guard : Guard = record { item = item; test = test; branch = branch } in
          let found = finds rest other inner e in
          let items = map (λ (g : Guard). g.item) inner.resets in
          let same : record { resets = guard ∷ inner.resets; clock = inner.clock; part = inner.part } ≡ chain = cc (e') in
          subst (IsFound d events body) same (record {
            chained = (other, spot, is, found.chained);
            items = IsPermutation-trans events (item ∷ rest) (inner.clock ∷ item ∷ items) taken'.same (IsPermutation-trans (item ∷ rest) (item ∷ inner.clock ∷ items) (inner.clock ∷ item ∷ items) (IsPermutation-cons item rest (inner.clock ∷ items) found.items) (IsPermutation-middle (item ∷ []) inner.clock items));
            tests = (record { test = one; is = is_test; signal = taken'.signal }, found.tests);
          })

      by_item : (one : Test) → tested d test ≡ Some one → (o : Option (Watched × List Watched)) → taken_out one.signal events ≡ o → with_item go test branch other o ≡ Some chain → IsFound d events body chain
      by_item one is_test None e e' = absurd (cc)
      by_item one is_test (Some (item, rest)) e e' =
          by_chain one is_test item rest (taken one.signal events item rest e) (go rest other) refl e'

      by_test : (o : Option Test) → tested d test ≡ o → with_test go events test branch other o ≡ Some chain → IsFound d events body chain
      by_test None e e' = absurd (cc)
      by_test (Some one) e e' = by_item one e (taken_out one.signal events) refl e'

    by_body : (b : Actions) → opened body ≡ b → headed d go events b ≡ Some chain → IsFound d events body chain
    by_body (Then (If test branch (With other) spot) Done) is e =
        by_test test branch other spot is (tested d test) refl e
    by_body b is e = absurd (cc)

  pub chain_found : (n : ℕ) → Finds (chain_in d n)
  chain_found zero = alone
  chain_found (suc n) =
      λ events body chain e. by_body (chain_in d n) (chain_found n) events body chain (opened body) refl e
