-- The chain of resets, reset by reset.
use Rattle.std.specs.Borrow.{Bor}
use Rattle.std.proofs.Common.{◌≡◌, ◌∙◌, ◌<◌, ◌≤◌, ◌+◌, ◌-◌, ℕ, suc, true, false, List, [], ◌∷◌, ◌++◌, length, map, Option, None, Some, refl, sym, ap, arith}
use Rattle.std.specs.List.{list_all}
use Rattle.std.proofs.lemmas.List.{map-append}
use Rattle.rtl_flat.specs.declared.act.EventItem.{EventItem}
use Rattle.rtl_flat.specs.Process.{Actions, Edge', Watched, action, body_of, watched}
use Rattle.rtl_flat.specs.WellFormed.{has_edge}
use Rattle.net_model.specs.Cycle as cycle
use Rattle.net_model.specs.Cycle.{opened}
use Rattle.rtl_flat.specs.Flats.{Flat}
use Rattle.check_chains.specs.Chains.{chain_in, chain_of, guarded, headed}
use Rattle.check_chains.specs.Inner.{IsStep, events_view, prefixed}
use Rattle.check_chains.specs.Views.{guard_view}
use Rattle.check_chains.specs.declared.chain.Guard.{Guard}
use Rattle.check_chains.specs.declared.chain.Step.{Step}

prefixed_push : (gs : List cycle.Guard) (g : cycle.Guard) (c : Option cycle.Chain) → prefixed (gs ++ g ∷ []) c ≡ prefixed gs (guarded g c)
prefixed_push [] g c = refl
prefixed_push (x ∷ gs) g c = ap (guarded x) (prefixed_push gs g c)

prefixed_none : (gs : List cycle.Guard) → prefixed gs None ≡ None
prefixed_none [] = refl
prefixed_none (x ∷ gs) = ap (guarded x) (prefixed_none gs)

prefixed_some : (gs : List cycle.Guard) (clock : Watched) (part : Actions) → prefixed gs (Some (record { resets = []; clock = clock; part = part })) ≡ Some (record { resets = gs; clock = clock; part = part })
prefixed_some [] clock part = refl
prefixed_some (x ∷ gs) clock part = ap (guarded x) (prefixed_some gs clock part)

-- ---- the events of a process

module _ (d : Flat) (events : List Watched) (body : Actions) where
  pub begins : list_all (λ item. has_edge item.edge) events ≡ true → chain_in d (length events - 1) events body ≡ chain_of d (Edge' events body)
  begins all = by_events events all
    where
      by_events : (events : List Watched) → list_all (λ item. has_edge item.edge) events ≡ true → chain_in d (length events - 1) events body ≡ chain_of d (Edge' events body)
      by_events [] all = refl
      by_events (first ∷ others) all =
          let count : length (first ∷ others) - 1 ≡ length others = omega arith in
          rw (all, count) refl

  pub without_edge : list_all (λ item. has_edge item.edge) events ≡ false → None ≡ chain_of d (Edge' events body)
  without_edge some' = by_events events some'
    where
      by_events : (events : List Watched) → list_all (λ item. has_edge item.edge) events ≡ false → None ≡ chain_of d (Edge' events body)
      by_events [] h = refl
      by_events (first ∷ others) h = rw h refl

-- ---- one reset more

headed_at : (d : Flat) (n m : ℕ) (events : List Watched) (body : Actions) → n ≡ suc m → chain_in d n events body ≡ headed d (chain_in d m) events (opened body)
headed_at d n m events body same = ap (λ k. chain_in d k events body) same

module _ (d : Flat) (resets : List Guard) (left : List (Bor EventItem)) (n : ℕ) (body : Actions) (more : 1 < n) where
  -- the number of events that are left, less the clock
  count : n - 1 ≡ suc (n - 2)
  count = omega arith

  abbrev So_far : Option cycle.Chain
  So_far = prefixed (map guard_view resets) (chain_in d (n - 1) (events_view left) body)

  pub step_more : (step : Step) (left' : List (Bor EventItem)) (m : ℕ) → m + 1 ≡ n → IsStep d left body step left' → (resets' : List Guard) → resets' ≡ resets ++ step.guard ∷ [] → prefixed (map guard_view resets') (chain_in d (m - 1) (events_view left') (body_of (map action step.rest.now))) ≡ So_far
  step_more step left' m fewer is resets' pushed =
      let number : n - 2 ≡ m - 1 = omega arith in
      ap (λ gs. prefixed (map guard_view gs) (chain_in d (m - 1) (events_view left') (body_of (map action step.rest.now)))) pushed
      ∙ ap (λ gs. prefixed gs (chain_in d (m - 1) (events_view left') (body_of (map action step.rest.now)))) (map-append guard_view resets (step.guard ∷ []))
      ∙ prefixed_push (map guard_view resets) (guard_view step.guard) (chain_in d (m - 1) (events_view left') (body_of (map action step.rest.now)))
      ∙ ap (prefixed (map guard_view resets)) (sym (headed_at d (n - 1) (m - 1) (events_view left) body (count ∙ ap suc number) ∙ is (chain_in d (m - 1))))

  pub step_none : ((go : List Watched → Actions → Option cycle.Chain) → headed d go (events_view left) (opened body) ≡ None) → None ≡ So_far
  step_none none =
      sym (ap (prefixed (map guard_view resets)) (headed_at d (n - 1) (n - 2) (events_view left) body count ∙ none (chain_in d (n - 2))) ∙ prefixed_none (map guard_view resets))

-- ---- the clock

module _ (d : Flat) (resets : List Guard) (left : List (Bor EventItem)) (n : ℕ) (body : Actions) (few : n ≤ 1) where
  abbrev At_end : Option cycle.Chain
  At_end = prefixed (map guard_view resets) (chain_in d (n - 1) (events_view left) body)

  none' : n - 1 ≡ 0
  none' = omega arith

  pub last_is : (before : List (Bor EventItem)) (clock : Bor EventItem) → before ≡ [] → left ≡ before ++ clock ∷ [] → Some (record { resets = map guard_view resets; clock = watched clock.now; part = body }) ≡ At_end
  last_is before clock empty is =
      sym (
      ap (λ k. prefixed (map guard_view resets) (chain_in d k (events_view left) body)) none'
      ∙ ap (λ (xs : List (Bor EventItem)). prefixed (map guard_view resets) (chain_in d 0 (events_view xs) body)) (is ∙ ap (λ xs. xs ++ clock ∷ []) empty)
      ∙ prefixed_some (map guard_view resets) (watched clock.now) body
      )

  pub none_is : (before : List (Bor EventItem)) → before ≡ [] → left ≡ before ++ [] → None ≡ At_end
  none_is before empty is =
      sym (
      ap (λ k. prefixed (map guard_view resets) (chain_in d k (events_view left) body)) none'
      ∙ ap (λ (xs : List (Bor EventItem)). prefixed (map guard_view resets) (chain_in d 0 (events_view xs) body)) (is ∙ ap (λ xs. xs ++ []) empty)
      ∙ prefixed_none (map guard_view resets)
      )
