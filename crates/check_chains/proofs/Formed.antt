-- The branches of resets are bodies as a design's are.
use Rattle.std.proofs.Common.{◌≡◌, ℕ, zero, suc, List, [], ◌∷◌, ◌++◌, length, Option, None, Some, refl, subst, inl, inr}
use Rattle.std.specs.List.{list_all, slice_get}
use Rattle.std.proofs.lemmas.Bool.{cases_Bool}
use Rattle.rtl_flat.specs.declared.signal.Signal.{Signal}
use Rattle.rtl_flat.specs.Expression.{Tree}
use Rattle.rtl_flat.specs.Process.{Watched, Action, Set, If, Case, Block, Actions, Done, Then, Otherwise, Without, With, Branches, NoBranch, Branch, Doing, Assign, Comb, Edge'}
use Rattle.rtl_flat.specs.WellFormed.{AreBranches, IsAction, IsBody, IsOtherwise, IsProcess, has_edge}
use Rattle.net_model.specs.Cycle.{Chain, Guard, opened}
use Rattle.rtl_rule.specs.Parts.{all_branches, all_in, all_of, all_other}
use Rattle.rtl_flat.specs.Flats.{Flat}
use Rattle.rtl_rule.proofs.Lists.{Each}
use Rattle.check_chains.specs.Chains.{Test, chain_in, chain_of, guarded, headed, taken_out, tested, with_item, with_test}

each_append : {A : Type 0} (P : A → Type 0) (xs ys : List A) → Each P xs → Each P ys → Each P (xs ++ ys)
each_append P [] ys h k = k
each_append P (x ∷ xs) ys h k = (h.0, each_append P xs ys h.1 k)

each_at : {A : Type 0} (P : A → Type 0) (xs : List A) (k : ℕ) (x : A) → Each P xs → slice_get xs k ≡ Some x → P x
each_at P [] k x h there = absurd (cc)
each_at P (y ∷ xs) zero x h there = let same : y ≡ x = cc in subst P same h.0
each_at P (y ∷ xs) (suc k) x h there = each_at P xs k x h.1 there

module _ (signals : List Signal) where
  -- ---- statements

  mutual
    in_formed : (a : Action) → IsAction signals a → Each (IsAction signals) (all_in a)
    in_formed (Set target value delayed spot) h = (h, tt)
    in_formed (If test taken other spot) h =
        (h, each_append (IsAction signals) (all_of taken) (all_other other) (of_formed taken h.1) (other_formed other h.2))
    in_formed (Case kind full parallel selector branches fallback spot) h =
        (h, each_append (IsAction signals) (all_branches branches) (all_other fallback) (branches_formed selector branches h.1) (other_formed fallback h.2))
    in_formed (Block body) h = of_formed body h

    of_formed : (body : Actions) → IsBody signals body → Each (IsAction signals) (all_of body)
    of_formed Done h = tt
    of_formed (Then first others) h =
        each_append (IsAction signals) (all_in first) (all_of others) (in_formed first h.0) (of_formed others h.1)

    other_formed : (body : Otherwise) → IsOtherwise signals body → Each (IsAction signals) (all_other body)
    other_formed Without h = tt
    other_formed (With body) h = of_formed body h

    branches_formed : (selector : Tree) (branches : Branches) → AreBranches signals selector branches → Each (IsAction signals) (all_branches branches)
    branches_formed selector NoBranch h = tt
    branches_formed selector (Branch labels body others) h =
        each_append (IsAction signals) (all_of body) (all_branches others) (of_formed body h.3) (branches_formed selector others h.4)

  -- a statement of a body
  pub formed_at : (body : Actions) → IsBody signals body → (k : ℕ) (one : Action) → slice_get (all_of body) k ≡ Some one → IsAction signals one
  formed_at body h k one there =
      each_at (IsAction signals) (all_of body) k one (of_formed body h) there

  -- ---- chains

  abbrev IsGuard : Guard → Type 0
  IsGuard guard = IsBody signals guard.branch

  opened_formed : (body : Actions) → IsBody signals body → IsBody signals (opened body)
  opened_formed Done h = h
  opened_formed (Then (Set target e delayed spot) others) h = h
  opened_formed (Then (If test taken other spot) others) h = h
  opened_formed (Then (Case kind full parallel selector branches fallback spot) others) h = h
  opened_formed (Then (Block body) Done) h = opened_formed body h.0
  opened_formed (Then (Block body) (Then one others)) h = h

  guarded_formed : (guard : Guard) (rest : Option Chain) → IsGuard guard → ((chain : Chain) → rest ≡ Some chain → Each IsGuard chain.resets) → (chain : Chain) → guarded guard rest ≡ Some chain → Each IsGuard chain.resets
  guarded_formed guard None first others chain is = absurd (cc)
  guarded_formed guard (Some inner) first others chain is =
      let same : guard ∷ inner.resets ≡ chain.resets = cc in
      subst (Each IsGuard) same (first, others inner refl)

  module _ (d : Flat) (go : List Watched → Actions → Option Chain) (of_rest : (events : List Watched) (body : Actions) (chain : Chain) → IsBody signals body → go events body ≡ Some chain → Each IsGuard chain.resets) where
    item_formed : (test : Tree) (branch other : Actions) (taken : Option (Watched × List Watched)) → IsBody signals branch → IsBody signals other → (chain : Chain) → with_item go test branch other taken ≡ Some chain → Each IsGuard chain.resets
    item_formed test branch other None first rest chain is = absurd (cc)
    item_formed test branch other (Some (item, events)) first rest chain is =
        guarded_formed (record { item = item; test = test; branch = branch }) (go events other) first
        (λ inner e. of_rest events other inner rest e) chain is

    test_formed : (events : List Watched) (test : Tree) (branch other : Actions) (one : Option Test) → IsBody signals branch → IsBody signals other → (chain : Chain) → with_test go events test branch other one ≡ Some chain → Each IsGuard chain.resets
    test_formed events test branch other None first rest chain is = absurd (cc)
    test_formed events test branch other (Some one) first rest chain is =
        item_formed test branch other (taken_out one.signal events) first rest chain is

    headed_formed : (events : List Watched) (body : Actions) → IsBody signals body → (chain : Chain) → headed d go events body ≡ Some chain → Each IsGuard chain.resets
    headed_formed events (Then (If test branch (With other) spot) Done) h chain is =
        test_formed events test branch other (tested d test) h.0.1 h.0.2 chain is
    headed_formed events _ h chain is = absurd (cc)

  in_chain_formed : (d : Flat) (n : ℕ) (events : List Watched) (body : Actions) (chain : Chain) → IsBody signals body → chain_in d n events body ≡ Some chain → Each IsGuard chain.resets
  in_chain_formed d zero [] body chain h is = absurd (cc)
  in_chain_formed d zero (clock ∷ []) body chain h is =
      let same : [] ≡ chain.resets = cc in subst (Each IsGuard) same tt
  in_chain_formed d zero (a ∷ b ∷ others) body chain h is = absurd (cc)
  in_chain_formed d (suc n) events body chain h is =
      headed_formed d (chain_in d n) (λ events body chain h is. in_chain_formed d n events body chain h is) events (opened body) (opened_formed body h) chain is

  chain_formed : (d : Flat) (does : Doing) (chain : Chain) → IsProcess signals does → chain_of d does ≡ Some chain → Each IsGuard chain.resets
  chain_formed d (Assign target value) chain h is = absurd (cc)
  chain_formed d (Comb list body) chain h is = absurd (cc)
  chain_formed d (Edge' [] body) chain h is = absurd (cc)
  chain_formed d (Edge' (first ∷ others) body) chain h is =
      elim (cases_Bool (list_all (λ (item : Watched). has_edge item.edge) (first ∷ others))) [
        | inl all ↦ in_chain_formed d (length others) (first ∷ others) body chain h.2 (rw all at is)
        | inr not' ↦ let none = rw not' at is in absurd (cc)
      ]

  -- a reset of a chain
  pub guard_formed : (d : Flat) (does : Doing) (chain : Chain) → IsProcess signals does → chain_of d does ≡ Some chain → (k : ℕ) (guard : Guard) → slice_get chain.resets k ≡ Some guard → IsBody signals guard.branch
  guard_formed d does chain h is k guard there =
      each_at IsGuard chain.resets k guard (chain_formed d does chain h is) there
