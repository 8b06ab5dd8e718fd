-- A body makes no more updates for later than it has nonblocking assignments.
use Rattle.std.proofs.Common.{◌≡◌, ◌+◌, ◌*◌, ◌≤◌, ℕ, zero, suc, Bool, true, false, if◌then◌else◌, List, [], ◌∷◌, ◌++◌, map, length, Option, None, Some, refl, ap, arith}
use Rattle.std.specs.Prelude.{sum_by}
use Rattle.std.specs.List.{slice_get}
use Rattle.std.proofs.lemmas.List.Sums.{sum_by-cons}
use Rattle.rtl_bits.specs.declared.Bit.{Bit}
use Rattle.rtl_bits.specs.Bit.{is_one}
use Rattle.rtl_bits.specs.Bits.{truth_bit}
use Rattle.rtl_flat.specs.declared.act.CaseKind.{CaseKind}
use Rattle.rtl_flat.specs.Process.{Action, Set, If, Case, Block, Actions, Done, Then, Otherwise, Without, With, Branches, NoBranch, Branch, Doing, Assign, Comb, Edge', Task}
use Rattle.rtl_flat.specs.Value.{value}
use Rattle.event_model.specs.Bodies.{Made, Now, Later, after_made, assigned, body_made, branches_made, made, other_made, some_matches}
use Rattle.event_model.specs.Policies.{late, nonblocking, nonblocking_branches, nonblocking_in, nonblocking_of, nonblocking_other}
use Rattle.event_model.specs.Queue.{doing_at, doing_of}
use Rattle.rtl_flat.specs.Flats.{Flat, widths}
use Rattle.event_model.specs.Writes.{Values, Write, writes}
use Rattle.event_runs.specs.Effects.{laters, other_updates, run_made}
use Rattle.event_settling.specs.Ending.{lates}

-- ---- a number for each element of a list

abbrev pub per : {A : Type 0} → ℕ → List A → ℕ
per c [] = 0
per c (x ∷ xs) = c + per c xs

pub per_append : {A : Type 0} (c : ℕ) (xs ys : List A) → per c (xs ++ ys) ≡ per c xs + per c ys
per_append c [] ys = omega arith
per_append c (x ∷ xs) ys = let rest = per_append c xs ys in omega (arith, rest)

pub per_most : {A : Type 0} (c n : ℕ) (xs : List A) → length xs ≤ n → per c xs ≤ n * c
per_most c n [] few = omega arith
per_most c zero (x ∷ xs) few = absurd (omega (arith, few))
per_most c (suc n) (x ∷ xs) few =
    let rest = per_most c n xs (omega (arith, few)) in
    omega (arith, rest)

-- one more for each
pub per_more : {A : Type 0} (c : ℕ) (xs : List A) → (xs ≡ [] → ⊥) → per c xs + 1 ≤ per (suc c) xs
per_more c [] some = absurd (some refl)
per_more c (x ∷ xs) some = let rest = per_least c xs in omega (arith, rest)
  where
    per_least : {A : Type 0} (c : ℕ) (xs : List A) → per c xs ≤ per (suc c) xs
    per_least c [] = omega arith
    per_least c (x ∷ xs) = let rest = per_least c xs in omega (arith, rest)

-- without the first
pub per_other : (c : ℕ) (us : List (List Write)) → (us ≡ [] → ⊥) → per c (other_updates us) + c ≡ per c us
per_other c [] some = absurd (some refl)
per_other c (u ∷ us) some = omega arith

-- ---- what bodies make

abbrev Few : ℕ → List Made → Type 0
Few n ms = length (laters ms) ≤ n

few_append : (n m : ℕ) (xs ys : List Made) → Few n xs → Few m ys → Few (n + m) (xs ++ ys)
few_append n m [] ys a b = omega (arith, b)
few_append n m (Now w ∷ xs) ys a b = few_append n m xs ys a b
few_append zero m (Later us ∷ xs) ys a b = absurd (omega (arith, a))
few_append (suc n) m (Later us ∷ xs) ys a b =
    let rest = few_append n m xs ys (omega (arith, a)) b in
    omega (arith, rest)

few_now : (us : List Write) → Few 0 (map Now us)
few_now [] = omega arith
few_now (w ∷ us) = few_now us

few_assigned : (delayed : Bool) (us : List Write) → Few (late delayed) (assigned delayed us)
few_assigned false us = few_now us
few_assigned true us = omega arith

few_either : (b : Bool) (n m : ℕ) (xs ys : List Made) → Few n xs → Few m ys → Few (n + m) (if b then xs else ys)
few_either true n m xs ys a c = omega (arith, a)
few_either false n m xs ys a c = omega (arith, c)

module _ (ws : ℕ → ℕ) where
  mutual
    few_made : (one : Action) (v : Values) → Few (nonblocking one) (made ws v one)
    few_made (Set target e delayed spot) v = few_assigned delayed (writes ws v target (value v e))
    few_made (If test taken other spot) v =
        few_either (is_one (truth_bit (value v test))) (nonblocking_in taken) (nonblocking_other other) (body_made ws v taken) (other_made ws v other)
        (few_in taken v) (few_other other v)
    few_made (Case kind full parallel selector branches fallback spot) v =
        few_branches branches v kind (value v selector) (nonblocking_other fallback) (other_made ws v fallback) (few_other fallback v)
    few_made (Block body) v = few_in body v

    few_in : (body : Actions) (v : Values) → Few (nonblocking_in body) (body_made ws v body)
    few_in Done v = omega arith
    few_in (Then first others) v =
        few_append (nonblocking first) (nonblocking_in others) (made ws v first) (body_made ws (after_made v (made ws v first)) others)
        (few_made first v) (few_in others (after_made v (made ws v first)))

    few_other : (other : Otherwise) (v : Values) → Few (nonblocking_other other) (other_made ws v other)
    few_other Without v = omega arith
    few_other (With body) v = few_in body v

    few_branches :
        (branches : Branches) (v : Values) (kind : CaseKind) (bits : List Bit) (n : ℕ) (none : List Made) → Few n none →
        Few (nonblocking_branches branches + n) (branches_made ws v kind bits none branches)
    few_branches NoBranch v kind bits n none a = omega (arith, a)
    few_branches (Branch labels body others) v kind bits n none a =
        let all = few_either (some_matches kind v bits labels) (nonblocking_in body) (nonblocking_branches others + n) (body_made ws v body)
        (branches_made ws v kind bits none others) (few_in body v) (few_branches others v kind bits n none a) in
        omega (arith, all)

-- ---- all processes

one_of_all : {A : Type 0} (f : A → ℕ) (xs : List A) (k : ℕ) (x : A) → slice_get xs k ≡ Some x → f x ≤ sum_by f xs
one_of_all f [] k x e = absurd (cc)
one_of_all f (y ∷ ys) zero x e =
    let all = sum_by-cons f y ys in
    let same : y ≡ x = cc in
    let one = ap f same in
    omega (arith, all, one)
one_of_all f (y ∷ ys) (suc k) x e =
    let all = sum_by-cons f y ys in
    let rest = one_of_all f ys k x e in
    omega (arith, all, rest)

pub few_late : (d : Flat) (v : Values) (p : ℕ) → length (laters (run_made d v (doing_at d p))) ≤ lates d
few_late d v p = by_task (slice_get d.tasks p) refl
  where
    by_doing : (does : Doing) → nonblocking_of does ≤ lates d → length (laters (run_made d v (Some does))) ≤ lates d
    by_doing (Assign target e) most = omega arith
    by_doing (Comb list body) most = let few = few_in (widths d) body v in omega (arith, few, most)
    by_doing (Edge' events body) most = let few = few_in (widths d) body v in omega (arith, few, most)

    by_task : (o : Option Task) → slice_get d.tasks p ≡ o → length (laters (run_made d v (doing_of o))) ≤ lates d
    by_task None e = omega arith
    by_task (Some task) e =
        by_doing task.does (one_of_all (λ (task : Task). nonblocking_of task.does) d.tasks p task e)
