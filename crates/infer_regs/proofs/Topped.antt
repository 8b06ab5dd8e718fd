-- The top inputs that the clock and the resets of a chain come from.
use Rattle.std.proofs.Common.{◌≡◌, ◌∙◌, ◌<◌, ◌+◌, ℕ, zero, suc, List, [], ◌∷◌, ◌++◌, length, map, get_or, take, Some, refl, sym, ap, subst, inl, inr, arith}
use Rattle.std.specs.Prelude.{Vec}
use Rattle.std.specs.List.{All, slice_get}
use Rattle.std.specs.List.Sorted.{IsPermutation}
use Rattle.std.specs.Option.{IsSomeAnd}
use Rattle.std.specs.declared.alloc.Global.{Global}
use Rattle.std.proofs.lemmas.Bool.{cases_lt}
use Rattle.std.proofs.lemmas.List.Sorted.{All-permutation}
use Rattle.rtl_flat.specs.declared.expr.SigId.{SigId}
use Rattle.rtl_flat.specs.Process.{Watched, Task}
use Rattle.net_model.specs.Cycle.{Guard}
use Rattle.rtl_rule.specs.declared.rule.Rule.TheVariants.{DerivedClock}
use Rattle.rtl_rule.specs.Parts.{At, within}
use Rattle.rtl_flat.specs.Flats.{Flat}
use Rattle.net_list.specs.rtl_scan.Arrows.{Among}
use Rattle.net_list.specs.rtl_scan.Graph.{row}
use Rattle.net_list.specs.check_chains.declared.chain.Guard as code
use Rattle.std.proofs.lemmas.List.{map-append, take_more}
use Rattle.net_list.specs.check_chains.Views.{guard_view}
use Rattle.net_list.specs.check_clocks.Clocks.{IsDerivedClock, events_of}
use Rattle.net_list.specs.check_gates.Tops.{AreTops}
use Rattle.net_list.proofs.check_gates_proofs.Topped.{comes_from}
use Rattle.rtl_rule.proofs.Lists.{Each, each_all, each_from, each_map}
use Rattle.net_list.specs.Faults.{IsFault}
use Rattle.infer_regs.specs.Taken.{AreResetTops, HasTop}

module _ (d : Flat) (tops : List (Vec ℕ Global)) (are : AreTops d (length d.signals) tops) where
  nothing : (row : List ℕ) → length row < 1 → (t : ℕ) → Among row t → ⊥
  nothing [] few t h = h
  nothing (x ∷ row) few t h = absurd (omega (arith, few))

  -- a signal that is not derived has a top input
  has_top : (site : At Watched) → (IsDerivedClock d site → ⊥) → HasTop tops site.it.signal
  has_top site sound =
      elim (cases_lt (length (row tops site.it.signal)) 1) [
        | inl none ↦ absurd (sound (inl (λ top comes. nothing (row tops site.it.signal) none top ((comes_from d tops are site.it.signal top).1 comes))))
        | inr some ↦ some
      ]

  pub each_top : (p : ℕ) (task : Task) → (IsFault d p task DerivedClock → ⊥) → Each (λ item. HasTop tops item.signal) (events_of task.does)
  each_top p task sound = go (events_of task.does) (λ n item there derived. sound (n, subst (λ o. IsSomeAnd o (λ one. IsDerivedClock d (within (p, task) one))) (sym there) derived))
    where
      go : (events : List Watched) → ((n : ℕ) (item : Watched) → slice_get events n ≡ Some item → IsDerivedClock d (within (p, task) item) → ⊥) → Each (λ item. HasTop tops item.signal) events
      go [] h = tt
      go (item ∷ events) h = (has_top (within (p, task) item) (h 0 item refl), go events (λ n one there. h (suc n) one there))

-- the clock of a chain, and its resets
module _ (tops : List (Vec ℕ Global)) (events : List Watched) (clock : Watched) (guards : List Guard) (same : IsPermutation events (clock ∷ map (λ (guard : Guard). guard.item) guards)) (each : Each (λ item. HasTop tops item.signal) events) where
  abbrev Topped : Watched → Type 0
  Topped item = HasTop tops item.signal

  all_topped : Each Topped (clock ∷ map (λ (guard : Guard). guard.item) guards)
  all_topped =
      each_from Topped (clock ∷ map (λ (guard : Guard). guard.item) guards)
      (All-permutation Topped events (clock ∷ map (λ (guard : Guard). guard.item) guards) same (each_all Topped events each))

  pub clock_topped : HasTop tops clock.signal
  clock_topped = all_topped.0

  pub guards_topped : Each (λ (guard : Guard). HasTop tops guard.item.signal) guards
  guards_topped = each_map Topped (λ (guard : Guard). guard.item) guards all_topped.1

pub viewed_topped : (tops : List (Vec ℕ Global)) (resets : List code.Guard) → Each (λ (guard : Guard). HasTop tops guard.item.signal) (map guard_view resets) → All (λ (guard : code.Guard). HasTop tops guard.item.now.signal.0) resets
viewed_topped tops resets h =
    each_all (λ (guard : code.Guard). HasTop tops guard.item.now.signal.0) resets (each_map (λ (guard : Guard). HasTop tops guard.item.signal) guard_view resets h)

-- ---- resets one after another

module _ (tops : List (Vec ℕ Global)) where
  pub reset_push : (guards : List Guard) (found : List SigId) (guard : Guard) (top : SigId) → AreResetTops tops guards found → Among (row tops guard.item.signal) top.0 → AreResetTops tops (guards ++ guard ∷ []) (found ++ top ∷ [])
  reset_push [] [] guard top h is = (is, tt)
  reset_push [] (t ∷ found) guard top h is = absurd h
  reset_push (g ∷ guards) [] guard top h is = absurd h
  reset_push (g ∷ guards) (t ∷ found) guard top h is = (h.0, reset_push guards found guard top h.1 is)

  pub reset_count : (guards : List Guard) (found : List SigId) → AreResetTops tops guards found → length found ≡ length guards
  reset_count [] [] h = refl
  reset_count [] (t ∷ found) h = absurd h
  reset_count (g ∷ guards) [] h = absurd h
  reset_count (g ∷ guards) (t ∷ found) h = let count = reset_count guards found h.1 in omega (arith, count)

  pub reset_at : (guards : List Guard) (found : List SigId) → AreResetTops tops guards found → (k : ℕ) (guard : Guard) (top : SigId) → slice_get guards k ≡ Some guard → slice_get found k ≡ Some top → Among (row tops guard.item.signal) top.0
  reset_at [] [] h k guard top there there' = absurd (cc)
  reset_at [] (t ∷ found) h k guard top there there' = absurd h
  reset_at (g ∷ guards) [] h k guard top there there' = absurd h
  reset_at (g ∷ guards) (t ∷ found) h zero guard top there there' =
      let same : g ≡ guard = cc in
      let same' : t ≡ top = cc in
      subst (λ (x : Guard). Among (row tops x.item.signal) top.0) same (subst (λ (x : SigId). Among (row tops g.item.signal) x.0) same' h.0)
  reset_at (g ∷ guards) (t ∷ found) h (suc k) guard top there there' = reset_at guards found h.1 k guard top there there'

  pub reset_next : (resets : List code.Guard) (n : ℕ) (g : code.Guard) → n < length resets → g ≡ get_or resets n g → (found : List SigId) (top : SigId) → AreResetTops tops (map guard_view (take n resets)) found → Among (row tops g.item.now.signal.0) top.0 → AreResetTops tops (map guard_view (take (n + 1) resets)) (found ++ top ∷ [])
  reset_next resets n g below is found top h among =
      let last : take (n + 1) resets ≡ take n resets ++ g ∷ [] = take_more resets n g below ∙ ap (λ y. take n resets ++ y ∷ []) (sym is) in
      subst (λ gs. AreResetTops tops gs (found ++ top ∷ [])) (sym (ap (map guard_view) last ∙ map-append guard_view (take n resets) (g ∷ [])))
      (reset_push (map guard_view (take n resets)) found (guard_view g) top h among)
