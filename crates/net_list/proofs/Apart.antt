-- Two processes that may write one bit: the one of the greater number has a fault.
use Rattle.std.proofs.Common.{◌≡◌, ◌<◌, ◌+◌, ◌&&◌, ℕ, zero, suc, Bool, true, false, List, [], ◌∷◌, Some, sym, subst, inl, inr, arith}
use Rattle.std.specs.Prelude.{nat_lt}
use Rattle.std.specs.List.{enumerate_from, list_any, slice_get}
use Rattle.std.specs.Option.{IsSomeAnd}
use Rattle.std.proofs.lemmas.Bool.{and_from, cases_Bool, cases_order, lt-ltb, or_left, or_right}
use Rattle.rtl_flat.specs.Process.{Task}
use Rattle.rtl_rule.specs.declared.rule.Rule.TheVariants.{SeveralDrivers}
use Rattle.rtl_rule.specs.Parts.{is_clocked, written}
use Rattle.rtl_flat.specs.Flats.{Flat, widths}
use Rattle.check_assign.proofs.check_found_proofs.Inside.{written_inside}
use Rattle.rtl_rule.proofs.Below.{some_at}
use Rattle.check_assign.specs.Assigned.{lower_writes}
use Rattle.check_assign.proofs.Below.{signal_there}
use Rattle.net_list.specs.Faults.{AreAlone, AreApart, AreFormed, HasFault, IsFault}

-- an element of a list in order
any_numbered : {A : Type 0} (test : (ℕ × A) → Bool) (n : ℕ) (xs : List A) (k m : ℕ) (x : A) → slice_get xs k ≡ Some x → m ≡ n + k → test (m, x) ≡ true → list_any test (enumerate_from n xs) ≡ true
any_numbered test n [] k m x there e is = absurd (cc)
any_numbered test n (y ∷ xs) zero m x there e is =
    let same : x ≡ y = cc in
    let number : m ≡ n = omega (arith, e) in
    or_left _ _ (subst (λ a. test (n, a) ≡ true) same (subst (λ a. test (a, x) ≡ true) number is))
any_numbered test n (y ∷ xs) (suc k) m x there e is =
    or_right (test (n, y)) _ (any_numbered test (n + 1) xs k m x there (omega (arith, e)) is)

module _ (d : Flat) where
  -- a process that may write a bit that a lower one may write
  pub fault_at : (p : ℕ) (task : Task) (s k : ℕ) → written d task.does s k ≡ true → lower_writes d p s k ≡ true → IsFault d p task SeveralDrivers
  fault_at p task s k here lower =
      let inside = written_inside (widths d) task.does s k here in
      let some = some_at (widths d s) (λ n. written d task.does s n && lower_writes d p s n) k inside (and_from _ _ here lower) in
      (s, signal_there d.signals (λ n. written d task.does s n && lower_writes d p s n) s some, some)

  module _ (formed : AreFormed d) (alone : AreAlone d) where
    no_fault : (p : ℕ) (task : Task) → slice_get d.tasks p ≡ Some task → IsFault d p task SeveralDrivers → ⊥
    no_fault p task there fault =
        let has : HasFault d p SeveralDrivers = subst (λ o. IsSomeAnd o (λ one. IsFault d p one SeveralDrivers)) (sym there) fault in
        elim (cases_Bool (is_clocked task.does)) [
          | inl waits ↦ formed p (record { waits = subst (λ o. IsSomeAnd o (λ one. is_clocked one.does ≡ true)) (sym there) waits; rule = SeveralDrivers; fault = has })
          | inr flows ↦ alone p (record { flows = subst (λ o. IsSomeAnd o (λ one. is_clocked one.does ≡ false)) (sym there) flows; fault = has })
        ]

    not_lower : (p q : ℕ) (one other : Task) → slice_get d.tasks p ≡ Some one → slice_get d.tasks q ≡ Some other → (s k : ℕ) → written d one.does s k ≡ true → written d other.does s k ≡ true → q < p → ⊥
    not_lower p q one other there there' s k writes writes' below =
        no_fault p one there (fault_at p one s k writes
        (any_numbered (λ (it : ℕ × Task). nat_lt it.0 p && written d it.1.does s k) 0 d.tasks q q other there' (omega arith) (and_from _ _ (lt-ltb q p below) writes')))

pub apart : (d : Flat) → AreFormed d → AreAlone d → AreApart d
apart d formed alone p q one other there there' s k writes writes' =
    elim (cases_order p q) [
      | inl same ↦ same
      | inr (inl less) ↦ absurd (not_lower d formed alone q p other one there' there s k writes' writes less)
      | inr (inr more) ↦ absurd (not_lower d formed alone p q one other there there' s k writes writes' more)
    ]
