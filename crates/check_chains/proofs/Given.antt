-- Statements that give each register of a process one constant.
use Rattle.std.proofs.Common.{◌≡◌, ◌∙◌, ◌<◌, ◌≤◌, ◌+◌, ◌==◌, ℕ, zero, suc, Bool, true, false, cond, List, [], ◌∷◌, length, Option, Some, refl, sym, ap, subst, inl, inr, arith}
use Rattle.std.specs.Prelude.{◌↔◌, IsTrue}
use Rattle.std.specs.List.{slice_get}
use Rattle.std.specs.Option.{IsSomeAnd}
use Rattle.std.specs.Ordering.{nat_cmp}
use Rattle.std.specs.BTreeSet.{BTreeSet, contains}
use Rattle.std.proofs.lemmas.Bool.{cases_Bool, cases_eq, eq-eqb, eqb-true, false≢true}
use Rattle.rtl_flat.specs.Process.{Piece, Action, Set, If, Case, Block, Doing}
use Rattle.rtl_flat.specs.Flats.{Flat}
use Rattle.check_chains.specs.Branches.{AreGiven, AreRegisters, GivesAt}
use Rattle.check_chains.specs.Chains.{IsResetBranch, resets_to}

first_signal : List Piece → ℕ
first_signal [] = 0
first_signal (piece ∷ others) = piece.signal

-- a statement gives one signal
resets_one : (d : Flat) (one : Action) (s t : ℕ) → resets_to d s one → resets_to d t one → s ≡ t
unfolding first_signal
resets_one d (Set target e delayed spot) s t h k = ap first_signal (sym h.1 ∙ k.1)
resets_one d (If test taken other spot) s t h k = absurd h
resets_one d (Case kind full parallel selector branches fallback spot) s t h k = absurd h
resets_one d (Block body) s t h k = absurd h

module _ (d : Flat) (statements : List Action) where
  gives : (k : ℕ) (one : Action) (s : ℕ) → slice_get statements k ≡ Some one → resets_to d s one → GivesAt d statements k s
  gives k one s there h =
      subst (λ (o : Option Action). IsSomeAnd o (resets_to d s)) (sym there) h

  given : (k : ℕ) (one : Action) (s : ℕ) → slice_get statements k ≡ Some one → GivesAt d statements k s → resets_to d s one
  given k one s there h = subst (λ (o : Option Action). IsSomeAnd o (resets_to d s)) there h

  inside : (k s : ℕ) → GivesAt d statements k s → k < length statements
  inside k s h = by_list statements k h
    where
      by_list : (xs : List Action) (k : ℕ) → IsSomeAnd (slice_get xs k) (resets_to d s) → k < length xs
      by_list [] k h = absurd h
      by_list (x ∷ xs) zero h = omega arith
      by_list (x ∷ xs) (suc k) h = let below = by_list xs k h in omega arith

  module _ (registers : BTreeSet ℕ) where
    pub none_given : (seen : BTreeSet ℕ) → seen.keys ≡ [] → AreGiven d statements 0 registers seen
    none_given seen empty = record {
      each = λ k h. absurd (omega (arith, h));
      from_seen = λ s h. let none = rw empty at h in absurd (false≢true none);
      to_seen = λ s k h g. absurd (omega (arith, h));
      once = λ s j k h h' g g'. absurd (omega (arith, h));
    }

    module _ (n : ℕ) (seen : BTreeSet ℕ) (so_far : AreGiven d statements n registers seen) (one : Action) (there : slice_get statements n ≡ Some one) where
      -- one statement more
      pub more_given : (s : ℕ) → resets_to d s one → contains nat_cmp registers s ≡ true → contains nat_cmp seen s ≡ false → (seen' : BTreeSet ℕ) → ((q : ℕ) → contains nat_cmp seen' q ≡ cond (q == s) true (contains nat_cmp seen q)) → AreGiven d statements (n + 1) registers seen'
      more_given s resets is_register new seen' added = record {
        each = λ k h.
            elim (cases_eq k n) [
              | inl same ↦
                  (s, is_register, gives k one s (ap (slice_get statements) same ∙ there) resets)
              | inr other ↦ so_far.each k (omega (arith, h, other))
            ];
        from_seen = λ q h.
            elim (cases_eq q s) [
              | inl same ↦
                  (n, omega arith, gives n one q there (subst (λ r. resets_to d r one) (sym same) resets))
              | inr other ↦
                  let (k, below, g) = so_far.from_seen q (old q other h) in
                  (k, omega (arith, below), g)
            ];
        to_seen = λ q k h g.
            elim (cases_eq k n) [
              | inl same ↦
                  let is_s = resets_one d one q s (given n one q there (subst (λ j. GivesAt d statements j q) same g)) resets in
                  added q ∙ ap (λ b. cond b true (contains nat_cmp seen q)) (eq-eqb q s is_s)
              | inr other ↦
                  let before = so_far.to_seen q k (omega (arith, h, other)) g in
                  added q ∙ ap (cond (q == s) true) before ∙ either_true (q == s)
            ];
        once = λ q j k h h' g g'.
            elim (cases_eq j n) [
              | inl first ↦
                  elim (cases_eq k n) [
                    | inl second ↦ first ∙ sym second
                    | inr second ↦ absurd (clash q j k first (omega (arith, h', second)) g g')
                  ]
              | inr first ↦
                  elim (cases_eq k n) [
                    | inl second ↦ absurd (clash q k j second (omega (arith, h, first)) g' g)
                    | inr second ↦
                        so_far.once q j k (omega (arith, h, first)) (omega (arith, h', second)) g g'
                  ]
            ];
      }
        where
          either_true : (b : Bool) → cond b true true ≡ true
          either_true true = refl
          either_true false = refl

          old : (q : ℕ) → (q ≡ s → ⊥) → contains nat_cmp seen' q ≡ true → contains nat_cmp seen q ≡ true
          old q other h =
              elim (cases_Bool (q == s)) [
                | inl same ↦ absurd (other (eqb-true q s same))
                | inr apart ↦
                    sym (added q ∙ ap (λ b. cond b true (contains nat_cmp seen q)) apart) ∙ h
              ]

          clash : (q j k : ℕ) → j ≡ n → k < n → GivesAt d statements j q → GivesAt d statements k q → ⊥
          clash q j k here below g g' =
              let is_s = resets_one d one q s (given n one q there (subst (λ i. GivesAt d statements i q) here g)) resets in
              let before = so_far.to_seen q k below g' in
              false≢true (sym new ∙ ap (contains nat_cmp seen) (sym is_s) ∙ before)

      module _ (does : Doing) (are : AreRegisters d does registers) where
        -- a statement that gives no signal
        pub gives_none : ((s : ℕ) → resets_to d s one → ⊥) → IsResetBranch d does statements → ⊥
        gives_none none h = let (s, is, resets) = h.each n one there in none s resets

        -- one that gives no register
        pub gives_other : (s : ℕ) → resets_to d s one → contains nat_cmp registers s ≡ false → IsResetBranch d does statements → ⊥
        gives_other s resets none h =
            let (t, is, resets') = h.each n one there in
            let same = resets_one d one t s resets' resets in
            false≢true (sym none ∙ ap (contains nat_cmp registers) (sym same) ∙ (are t).1 is)

        -- one that gives a register again
        pub gives_again : (s : ℕ) → resets_to d s one → contains nat_cmp seen s ≡ true → IsResetBranch d does statements → ⊥
        gives_again s resets again h =
            let (k, below, g) = so_far.from_seen s again in
            let same = h.once s k n g (gives n one s there resets) in
            omega (arith, below, same)

    -- after the last statement
    pub all_given : (n : ℕ) (seen : BTreeSet ℕ) → length statements ≤ n → AreGiven d statements n registers seen → (b : Bool) → IsTrue b ↔ ((q : ℕ) → IsTrue (contains nat_cmp registers q) → IsTrue (contains nat_cmp seen q)) → (does : Doing) → AreRegisters d does registers → b ≡ true ↔ IsResetBranch d does statements
    all_given n seen past so_far b decides does are =
        (λ h. forward (decides.0 h), λ h. decides.1 (backward h))
      where
        forward : ((q : ℕ) → IsTrue (contains nat_cmp registers q) → IsTrue (contains nat_cmp seen q)) → IsResetBranch d does statements
        forward all = record {
          each = λ k one there.
              let below = below_length statements k one there in
              let (s, is, g) = so_far.each k (omega (arith, below, past)) in
              (s, (are s).0 is, given k one s there g);
          all = λ s is.
              let (k, below, g) = so_far.from_seen s (all s ((are s).1 is)) in (k, g);
          once = λ s j k g g'.
              let first = inside j s g in
              let second = inside k s g' in
              so_far.once s j k (omega (arith, first, past)) (omega (arith, second, past)) g g';
        }
          where
            below_length : (xs : List Action) (k : ℕ) (x : Action) → slice_get xs k ≡ Some x → k < length xs
            below_length [] k x there = absurd (cc)
            below_length (y ∷ xs) zero x there = omega arith
            below_length (y ∷ xs) (suc k) x there = let below = below_length xs k x there in omega arith

        backward : IsResetBranch d does statements → (q : ℕ) → IsTrue (contains nat_cmp registers q) → IsTrue (contains nat_cmp seen q)
        backward h q is =
            let (k, g) = h.all q ((are q).0 is) in
            let below = inside k q g in
            so_far.to_seen q k (omega (arith, below, past)) g
