-- Resets whose branches don't do what they should.
use Rattle.std.specs.Borrow.{Bor}
use Rattle.std.proofs.Common.{◌≡◌, ◌∙◌, ◌<◌, ◌≤◌, ◌+◌, not, ℕ, Bool, true, false, List, length, map, get_or, Option, None, Some, refl, sym, ap, subst, inl, inr, arith}
use Rattle.std.specs.Prelude.{◌↔◌}
use Rattle.std.specs.List.{All, slice_get}
use Rattle.std.specs.Option.{option_map}
use Rattle.std.proofs.lemmas.Bool.{cases_eq, false≢true}
use Rattle.std.proofs.lemmas.Option.{slice_get-get_or, slice_get-map, slice_get_within}
use Rattle.rtl_flat.specs.declared.act.Act.{Act}
use Rattle.rtl_flat.specs.declared.act.Process.{Process}
use Rattle.rtl_flat.specs.declared.design.Design.{Design}
use Rattle.rtl_flat.specs.Process.{Action, Doing, Task, action, doing, task}
use Rattle.rtl_flat.specs.WellFormed.{IsBody, IsProcess}
use Rattle.net_model.specs.Cycle as cycle
use Rattle.rtl_rule.specs.Parts.{all_of, within}
use Rattle.rtl_flat.specs.Flats.{Flat, flat}
use Rattle.check_found.proofs.Sites.{task_at}
use Rattle.check_chains.specs.Branches.{HasBad}
use Rattle.check_chains.specs.Chains.{IsResetBranch, IsResetValue, chain_of}
use Rattle.check_chains.specs.Views.{chain_view, guard_view}
use Rattle.check_chains.specs.declared.chain.Chain.{Chain}
use Rattle.check_chains.specs.declared.chain.Guard.{Guard}
use Rattle.check_chains.proofs.Formed.{guard_formed}

-- an element of a list in its plain form
pub view_at : {A B : Type 0} (view : A → B) (xs : List A) (k : ℕ) (x : A) → k < length xs → x ≡ get_or xs k x → slice_get (map view xs) k ≡ Some (view x)
view_at view xs k x below is =
    slice_get-map view xs k ∙ ap (option_map view) (slice_get-get_or xs k x below ∙ ap Some (sym is))

-- a statement that a loop looks at
pub statement_at : (statements : List Action) (xs ys : List (Bor Act)) → ys ≡ xs → map (λ one. action one.now) xs ≡ statements → (k : ℕ) (x : Bor Act) → k < length ys → x ≡ get_or ys k x → slice_get statements k ≡ Some (action x.now)
statement_at statements xs ys same are k x below is =
    let plain : List (Bor Act) → List Action = map (λ one. action one.now) in
    ap (λ zs. slice_get zs k) (sym are ∙ ap plain (sym same)) ∙ view_at (λ (one : Bor Act). action one.now) ys k x below is

pub was_there : (a b : Bool) → b ≡ not a → b ≡ false → a ≡ true
was_there true b is h = refl
was_there false b is h = absurd (false≢true (sym h ∙ is))

pub was_new : (a b : Bool) → b ≡ not a → b ≡ true → a ≡ false
was_new true b is h = absurd (false≢true (sym is ∙ h))
was_new false b is h = refl

-- ---- the resets of a chain

module _ (d : Flat) (resets : List cycle.Guard) (does : Doing) where
  abbrev Good_below : ℕ → Type 0
  Good_below n = (k : ℕ) (guard : cycle.Guard) → k < n → slice_get resets k ≡ Some guard → IsResetBranch d does (all_of guard.branch)

  pub more_good : (n : ℕ) (guard : cycle.Guard) → slice_get resets n ≡ Some guard → IsResetBranch d does (all_of guard.branch) → Good_below n → Good_below (n + 1)
  more_good n guard there good before k other below is =
      elim (cases_eq k n) [
        | inl same ↦
            let equal : guard ≡ other = cc (there, is, ap (slice_get resets) same) in
            subst (λ (g : cycle.Guard). IsResetBranch d does (all_of g.branch)) equal good
        | inr apart ↦ before k other (omega (arith, below, apart)) is
      ]

  pub all_good : (n : ℕ) → length resets ≤ n → Good_below n → false ≡ true ↔ HasBad d does resets
  all_good n past good = (
    λ h. absurd (false≢true h),
    λ (k, guard, there, bad).
        let below = slice_get_within resets k guard there in
        absurd (bad (good k guard (omega (arith, below, past)) there)),
  )

  pub one_bad : (n : ℕ) (guard : cycle.Guard) → slice_get resets n ≡ Some guard → (good : Bool) → good ≡ false → good ≡ true ↔ IsResetBranch d does (all_of guard.branch) → true ≡ true ↔ HasBad d does resets
  one_bad n guard there good not' decides =
      (λ h. (n, guard, there, λ is. false≢true (sym not' ∙ decides.1 is)), λ h. refl)

-- ---- processes

module _ (design : Design) (p : ℕ) (x : Process) (below : p < length design.processes.items) (is : x ≡ get_or design.processes.items p x) where
  abbrev D : Flat
  D = flat design

  only_task : (t : Task) → slice_get D.tasks p ≡ Some t → task x ≡ t
  only_task t there = let here = task_at design p x below is in cc

  process_formed : IsProcess design.signals.items (doing x.does)
  process_formed =
      let here = task_at design p x below is in
      each D.tasks p (task x) design.is_design.each_process here
    where
      each : (tasks : List Task) (k : ℕ) (t : Task) → All (λ one. IsProcess design.signals.items one.does) tasks → slice_get tasks k ≡ Some t → IsProcess design.signals.items t.does
      each tasks k t all there =
          let inside = slice_get_within tasks k t there in
          let same : get_or tasks k t ≡ t = cc (slice_get-get_or tasks k t inside, there) in
          subst (λ (one : Task). IsProcess design.signals.items one.does) same (all k t inside)

  -- the branches of its chain
  pub branch_formed : (found : Option Chain) → option_map chain_view found ≡ chain_of D (doing x.does) → (chain : Chain) → found ≡ Some chain → (resets : List Guard) → resets ≡ chain.resets.items → (k : ℕ) (guard : cycle.Guard) → slice_get (map guard_view resets) k ≡ Some guard → IsBody design.signals.items guard.branch
  branch_formed found of chain some resets same k guard there =
      guard_formed design.signals.items D (doing x.does) (chain_view chain) process_formed (sym of ∙ ap (option_map chain_view) some) k guard
      (ap (λ (gs : List Guard). slice_get (map guard_view gs) k) (sym same) ∙ there)

  -- a process without a chain
  pub no_chain : (found : Option Chain) → option_map chain_view found ≡ chain_of D (doing x.does) → found ≡ None → (t : Task) → slice_get D.tasks p ≡ Some t → false ≡ true ↔ IsResetValue D (within (p, t) t.does)
  no_chain found of none t there =
      (λ h. absurd (false≢true h), λ bad. absurd (clash bad))
    where
      clash : IsResetValue D (within (p, t) t.does) → ⊥
      clash bad =
          let here : chain_of D (doing x.does) ≡ None = sym of ∙ ap (option_map chain_view) none in
          let is_some = ap (λ (one : Task). chain_of D one.does) (only_task t there) ∙ bad.is_chain in
          absurd (let e : None ≡ Some bad.chain = sym here ∙ is_some in cc)

  -- one with a chain
  pub has_chain : (found : Option Chain) → option_map chain_view found ≡ chain_of D (doing x.does) → (chain : Chain) → found ≡ Some chain → (resets : List Guard) → resets ≡ chain.resets.items → (bad : Bool) → bad ≡ true ↔ HasBad D (doing x.does) (map guard_view resets) → (t : Task) → slice_get D.tasks p ≡ Some t → bad ≡ true ↔ IsResetValue D (within (p, t) t.does)
  has_chain found of chain some resets same bad decides t there =
      subst (λ (one : Task). bad ≡ true ↔ IsResetValue D (within (p, one) one.does)) (only_task t there) (λ h. forward (decides.0 h), λ h. decides.1 (backward h))
    where
      chain_is : chain_of D (doing x.does) ≡ Some (chain_view chain)
      chain_is = sym of ∙ ap (option_map chain_view) some

      forward : HasBad D (doing x.does) (map guard_view resets) → IsResetValue D (within (p, task x) (doing x.does))
      forward (k, guard, at, other) = record {
        chain = chain_view chain;
        is_chain = chain_is;
        place = k;
        guard = guard;
        is_guard = ap (λ (gs : List Guard). slice_get (map guard_view gs) k) (sym same) ∙ at;
        other = other;
      }

      backward : IsResetValue D (within (p, task x) (doing x.does)) → HasBad D (doing x.does) (map guard_view resets)
      backward h =
          let equal : chain_view chain ≡ h.chain = let e : Some (chain_view chain) ≡ Some h.chain = sym chain_is ∙ h.is_chain in cc in
          (h.place, h.guard, ap (λ (gs : List Guard). slice_get (map guard_view gs) h.place) same ∙ ap (λ (c : cycle.Chain). slice_get c.resets h.place) equal ∙ h.is_guard, h.other)
