-- The sets of a process's bits as tests.
use Rattle.std.proofs.Common.{◌≡◌, ◌∙◌, ℕ, Bool, true, map, Some, sym, subst, inl, inr}
use Rattle.std.specs.Prelude.{◌↔◌}
use Rattle.std.specs.List.{slice_get}
use Rattle.std.specs.Option.{IsSomeAnd}
use Rattle.std.proofs.lemmas.Bool.{cases_Bool, false_from_ne_true, both_ways}
use Rattle.rtl_flat.specs.declared.design.Design.{Design}
use Rattle.rtl_flat.specs.Flows.{flow_of}
use Rattle.rtl_flat.specs.Paths.{BitSet, Flow}
use Rattle.rtl_flat.specs.PathSets.{Lists, OfProcess, listed}
use Rattle.rtl_flat.specs.Process.{Task, task}
use Rattle.rtl_flat.specs.Signs.{width_in}
use Rattle.rtl_flat.specs.Flats.{flat, widths}

-- two tests that mean one thing
pub same_test : (a b : Bool) (P : Type 0) → a ≡ true ↔ P → b ≡ true ↔ P → a ≡ b
same_test a b P of_a of_b =
    elim (cases_Bool a) [
      | inl holds ↦ holds ∙ sym (of_b.1 (of_a.0 holds))
      | inr fails ↦ fails ∙ sym (false_from_ne_true b (λ holds. both_ways a fails (of_a.1 (of_b.0 holds))))
    ]

-- a set of paths of a process, by the function that decides it
pub as_set :
    (P : Flow → ℕ → ℕ → Type 0) (bits : Flow → BitSet) → ((flow : Flow) (s k : ℕ) → bits flow s k ≡ true ↔ P flow s k) → (design : Design) (p : ℕ) (found : BitSet) →
    ((s k : ℕ) → found s k ≡ true ↔ OfProcess P design.signals.items (map task design.processes.items) p s k) →
    (one : Task) → slice_get (flat design).tasks p ≡ Some one → (s k : ℕ) → found s k ≡ bits (flow_of (widths (flat design)) one.does) s k
as_set P bits decides design p found is one there s k =
    let signals = design.signals.items in
    let holds = λ (task : Task). P (flow_of (width_in signals) task.does) s k in
    same_test (found s k) (bits (flow_of (width_in signals) one.does) s k) (P (flow_of (width_in signals) one.does) s k)
    (λ h. subst (λ o. IsSomeAnd o holds) there ((is s k).0 h), λ h. (is s k).1 (subst (λ o. IsSomeAnd o holds) (sym there) h))
    (decides (flow_of (width_in signals) one.does) s k)

-- what a process lists
pub as_list :
    (design : Design) (p : ℕ) (found : BitSet) → ((s k : ℕ) → found s k ≡ true ↔ Lists design.signals.items (map task design.processes.items) p s k) →
    (one : Task) → slice_get (flat design).tasks p ≡ Some one → (s k : ℕ) → found s k ≡ listed (widths (flat design)) one.does s k
as_list design p found is one there s k =
    let signals = design.signals.items in
    let holds = λ (task : Task). listed (width_in signals) task.does s k ≡ true in
    same_test (found s k) (listed (width_in signals) one.does s k) (listed (width_in signals) one.does s k ≡ true)
    (λ h. subst (λ o. IsSomeAnd o holds) there ((is s k).0 h), λ h. (is s k).1 (subst (λ o. IsSomeAnd o holds) (sym there) h))
    (λ h. h, λ h. h)
