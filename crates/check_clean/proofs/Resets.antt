-- What a reset does is constant.
use Rattle.std.proofs.Common.{◌≡◌, ◌∙◌, ◌<◌, ◌⊎◌, ◌||◌, ℕ, zero, suc, Bool, true, false, List, [], ◌∷◌, ◌++◌, Option, None, Some, length, refl, sym, ap, subst, inl, inr, arith}
use Rattle.std.specs.Prelude.{◌==◌, if◌then◌else◌, nat_le, nat_lt}
use Rattle.std.specs.List.{list_any, slice_get}
use Rattle.std.specs.Option.{IsSomeAnd}
use Rattle.std.proofs.lemmas.Bool.{and_from, false_from_ne_true, and_parts, eq-eqb, false≢true, le-leb, lt-ltb, not-true, or_from, or_left, or_right, true_from_ne_false, true≢false}
use Rattle.text_ground.specs.declared.text.Spot.{Spot}
use Rattle.rtl_flat.specs.Expression.{Tree}
use Rattle.rtl_flat.specs.Flows.{action_then, actions_then, all_bits, body_flow, may_target, target_reads, targets, reads}
use Rattle.rtl_flat.specs.Paths.{BitSet, End, MayWrite, MayWriteNow, Read, ReadsOutside, Step, Write, either, every, may_write_now, some, writes_bit}
use Rattle.rtl_flat.specs.Process.{Piece, Action, Set, If, Case, Block, Actions, Done, Then, Doing}
use Rattle.rtl_flat.specs.Process as part
use Rattle.rtl_flat.proofs.Flows.{every_action, some_action}
use Rattle.rtl_flat.proofs.Paths.{decided}
use Rattle.check_laws.proofs.event_laws_proofs.Within.{may_read_outside, reads_inside}
use Rattle.net_model.specs.Solution.{IsLasting}
use Rattle.sign_cycles.specs.Formed.{IsConstant}
use Rattle.rtl_rule.specs.Parts.{all_in, all_of, constant_of, has_some, indices, reads_signal, unknowns}
use Rattle.rtl_flat.specs.Flats.{Flat, widths}
use Rattle.rtl_flat.specs.Value.{value}
use Rattle.rtl_rule.proofs.Below.{some_at}
use Rattle.check_laws.proofs.check_parts_proofs.OwnReads.{width_inside}
use Rattle.check_laws.specs.check_chains.Chains.{IsRegisterOf, IsResetBranch, is_known, resets_to}
use Rattle.rtl_rule.proofs.Lists.{Each, each_left, each_more, each_right}
use Rattle.check_clean.proofs.Cone.{OfStatement, quiet_statements}
use Rattle.check_clean.proofs.Unread.{Unread}

-- ---- lists by places

pub each_by_place : {A : Type 0} (P : A → Type 0) (xs : List A) → ((n : ℕ) (x : A) → slice_get xs n ≡ Some x → P x) → Each P xs
each_by_place P [] h = tt
each_by_place P (x ∷ xs) h = (h 0 x refl, each_by_place P xs (λ n y e. h (suc n) y e))

-- some element
abbrev AnyOf : {A : Type 0} → (A → Type 0) → List A → Type 0
AnyOf P [] = ⊥
AnyOf P (x ∷ xs) = P x ⊎ AnyOf P xs

any_by_place : {A : Type 0} (P : A → Type 0) (xs : List A) (n : ℕ) → IsSomeAnd (slice_get xs n) P → AnyOf P xs
any_by_place P [] n h = h
any_by_place P (x ∷ xs) zero h = inl h
any_by_place P (x ∷ xs) (suc n) h = inr (any_by_place P xs n h)

any_parts : {A : Type 0} (P : A → Type 0) (xs ys : List A) → AnyOf P (xs ++ ys) → AnyOf P xs ⊎ AnyOf P ys
any_parts P [] ys h = inr h
any_parts P (x ∷ xs) ys (inl h) = inl (inl h)
any_parts P (x ∷ xs) ys (inr h) =
    elim (any_parts P xs ys h) [
      | inl here ↦ inl (inr here)
      | inr there ↦ inr there
    ]

-- ---- statements that set registers to constants

abbrev IsSetting : Flat → Action → Type 0
IsSetting d one = (s : ℕ) × resets_to d s one

module _ (d : Flat) (ws : ℕ → ℕ) where
  -- what neither reads nor nonblocking assignments do, no such statement does
  module _ (f : Step → Bool) (no_read : (bits : BitSet) → f (Read bits) ≡ false) (no_late : (may sure : BitSet) → f (Write true may sure) ≡ false) where
    late_step : (delayed : Bool) (may sure : BitSet) → delayed ≡ true → f (Write delayed may sure) ≡ false
    late_step true may sure is = no_late may sure
    late_step false may sure is = absurd (false≢true is)

    mutual
      none_in : (a : Action) → Each (IsSetting d) (all_in a) → some f (action_then ws a End) ≡ false
      none_in (Set target e delayed spot) h =
          or_from _ _ (no_read (either (reads ws e) (target_reads ws target)))
          (or_from _ false (late_step delayed (may_target ws target) (targets ws target) (and_parts delayed (is_known (constant_of d e)) h.0.1.2).0) refl)
      none_in (If test taken other spot) h = absurd h.0.1
      none_in (Case kind full parallel selector branches fallback spot) h = absurd h.0.1
      none_in (Block body) h = none_of body h

      none_of : (body : Actions) → Each (IsSetting d) (all_of body) → some f (actions_then ws body End) ≡ false
      none_of Done h = refl
      none_of (Then first others) h =
          some_action f ws first (actions_then ws others End)
          ∙ or_from _ _ (none_in first (each_left (IsSetting d) (all_in first) (all_of others) h)) (none_of others (each_right (IsSetting d) (all_in first) (all_of others) h))

  -- the signal that one of them sets is written on every path
  module _ (i k : ℕ) (inside : k < ws i) where
    sets_whole : (target : List Piece) → (at : Spot) × (target ≡ record { signal = i; selection = part.Whole; spot = at } ∷ []) → targets ws target i k ≡ true
    sets_whole target (at, is) =
        ap (λ t. targets ws t i k) is
        ∙ or_left (all_bits ws i i k) false (and_from (i == i) _ (eq-eqb i i refl) (and_from (nat_le 0 k) _ (le-leb 0 k (omega arith)) (and_from (nat_lt k (ws i)) _ (lt-ltb k (ws i) inside) (lt-ltb k (ws i) inside))))

    mutual
      sure_in : (a : Action) → Each (IsSetting d) (all_in a) → AnyOf (resets_to d i) (all_in a) → every (writes_bit i k) (action_then ws a End) ≡ true
      sure_in (Set target e delayed spot) h (inl is) = or_left (targets ws target i k) false (sets_whole target (is.0, is.1))
      sure_in (Set target e delayed spot) h (inr none) = absurd none
      sure_in (If test taken other spot) h any = absurd h.0.1
      sure_in (Case kind full parallel selector branches fallback spot) h any = absurd h.0.1
      sure_in (Block body) h any = sure_of body h any

      sure_of : (body : Actions) → Each (IsSetting d) (all_of body) → AnyOf (resets_to d i) (all_of body) → every (writes_bit i k) (actions_then ws body End) ≡ true
      sure_of Done h any = absurd any
      sure_of (Then first others) h any =
          every_action (writes_bit i k) ws first (actions_then ws others End)
          ∙ elim (any_parts (resets_to d i) (all_in first) (all_of others) any) [
            | inl here ↦ or_left _ _ (sure_in first (each_left (IsSetting d) (all_in first) (all_of others) h) here)
            | inr there ↦ or_right _ _ (sure_of others (each_right (IsSetting d) (all_in first) (all_of others) h) there)
          ]

-- ---- what they read

module _ (d : Flat) (i k : ℕ) where
  -- a constant reads no bit
  value_unread : (e : Tree) → is_known (constant_of d e) ≡ true → Unread (widths d) i k e
  value_unread e known = by_reads (reads_signal d e) refl known
    where
      by_reads : (b : Bool) → reads_signal d e ≡ b → is_known (if b then None else Some (value (unknowns d) e)) ≡ true → Unread (widths d) i k e
      by_reads true reads_one is = absurd (false≢true is)
      by_reads false none is =
          false_from_ne_true (reads (widths d) e i k) (λ read.
          let inside = reads_inside (widths d) e i k read in
          false≢true (sym none ∙ some_at (length d.signals) (has_some (widths d) (reads (widths d) e)) i (width_inside d.signals i (omega (arith, inside))) (some_at (widths d i) (reads (widths d) e i) k inside read)))

  setting_unread : (one : Action) → IsSetting d one → OfStatement (Unread (widths d) i k) one
  setting_unread (Set target e delayed spot) is =
      (value_unread e (and_parts delayed (is_known (constant_of d e)) is.1.2).1, subst (λ t. Each (Unread (widths d) i k) (indices t ++ [])) (sym is.1.1) tt)
  setting_unread (If test taken other spot) is = absurd is.1
  setting_unread (Case kind full parallel selector branches fallback spot) is = absurd is.1
  setting_unread (Block body) is = absurd is.1

-- ---- constants

module _ (d : Flat) (does : Doing) (body branch : Actions) (within : (i k : ℕ) → MayWrite (body_flow (widths d) body) i k → k < widths d i) (some_bit : (i k : ℕ) → k < widths d i → MayWrite (body_flow (widths d) body) i k → IsLasting d i → IsRegisterOf d does i) where
  settings : IsResetBranch d does (all_of branch) → Each (IsSetting d) (all_of branch)
  settings is = each_by_place (IsSetting d) (all_of branch) (λ n one e. let found = is.each n one e in (found.0, found.2))

  no_reads : IsResetBranch d does (all_of branch) → (i k : ℕ) → ReadsOutside (body_flow (widths d) branch) i k → ⊥
  no_reads is i k outside =
      let flow = body_flow (widths d) branch in
      let quiet = quiet_statements (widths d) i k branch (each_more (IsSetting d) (OfStatement (Unread (widths d) i k)) (setting_unread d i k) (all_of branch) (settings is)) in
      true≢false (sym ((decided flow i k).reads.1 (may_read_outside flow i k outside)) ∙ quiet)

  no_blocking : IsResetBranch d does (all_of branch) → (i k : ℕ) → MayWriteNow (body_flow (widths d) branch) i k → ⊥
  no_blocking is i k writes =
      let flow = body_flow (widths d) branch in
      true≢false (sym ((decided flow i k).now.1 writes) ∙ none_of d (widths d) (may_write_now i k) (λ bits. refl) (λ may sure. refl) branch (settings is))

  always : IsResetBranch d does (all_of branch) → (i k : ℕ) → MayWrite (body_flow (widths d) body) i k → IsLasting d i → every (writes_bit i k) (body_flow (widths d) branch) ≡ true
  always is i k may lasts =
      let inside = within i k may in
      let found = is.all i (some_bit i k inside may lasts) in
      sure_of d (widths d) i k inside branch (settings is) (any_by_place (resets_to d i) (all_of branch) found.0 found.1)

  -- where it isn't refuted that a branch is so
  pub constant : ((IsResetBranch d does (all_of branch) → ⊥) → ⊥) → IsConstant d body branch
  constant none =
      record {
        reads_nothing = λ i k outside. none (λ is. no_reads is i k outside);
        sets = λ i k may lasts.
            (decided (body_flow (widths d) branch) i k).sure.0
            (true_from_ne_false (every (writes_bit i k) (body_flow (widths d) branch)) (λ missing. none (λ is. true≢false (sym (always is i k may lasts) ∙ missing))));
        late = λ i k writes. none (λ is. no_blocking is i k writes);
      }
