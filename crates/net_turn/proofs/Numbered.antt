-- The processes that wait for edges, by their numbers.
use Rattle.std.proofs.Common.{◌≡◌, ◌∙◌, ◌<◌, ◌≤◌, ◌+◌, ℕ, zero, suc, List, [], ◌∷◌, length, Option, None, Some, refl, sym, ap, subst, inl, inr, arith}
use Rattle.std.specs.Prelude.{◌⊎◌}
use Rattle.std.specs.List.{cons_option, enumerate_from, filter_map, slice_get}
use Rattle.rtl_flat.specs.Process.{Actions, Assign, Comb, Doing, Edge', Task, Watched}
use Rattle.net_list.specs.Chosen.{number_of}
use Rattle.net_settle.specs.net_solve.Laws.{place}

abbrev pub waits : ℕ → List Task → List ℕ
waits n tasks = filter_map (λ (one : ℕ × Task). number_of one.0 one.1.does) (enumerate_from n tasks)

number_cases : (n : ℕ) (does : Doing) → (number_of n does ≡ Some n) ⊎ (number_of n does ≡ None)
number_cases n (Assign target e) = inr refl
number_cases n (Comb list body) = inr refl
number_cases n (Edge' events body) = inl refl

from_on : (n : ℕ) (tasks : List Task) (t : ℕ) → t < length (waits n tasks) → n ≤ place (waits n tasks) t
from_on n [] t below = absurd (omega (arith, below))
from_on n (task ∷ tasks) t below =
    by_number (from_on (n + 1) tasks) (number_of n task.does) (number_cases n task.does) t below
  where
    by_number : ((t : ℕ) → t < length (waits (n + 1) tasks) → n + 1 ≤ place (waits (n + 1) tasks) t) → (o : Option ℕ) → (o ≡ Some n) ⊎ (o ≡ None) → (t : ℕ) → t < length (cons_option o (waits (n + 1) tasks)) → n ≤ place (cons_option o (waits (n + 1) tasks)) t
    by_number later None c t below = let more = later t below in omega (arith, more)
    by_number later (Some m) (inl is) zero below = let same : m ≡ n = cc in omega (arith, same)
    by_number later (Some m) (inl is) (suc t) below = let more = later t (omega (arith, below)) in omega (arith, more)
    by_number later (Some m) (inr none) t below = absurd (cc)

-- they rise
pub rising : (n : ℕ) (tasks : List Task) (s t : ℕ) → s < t → t < length (waits n tasks) → place (waits n tasks) s < place (waits n tasks) t
rising n [] s t less below = absurd (omega (arith, below))
rising n (task ∷ tasks) s t less below =
    by_number (rising (n + 1) tasks) (number_of n task.does) (number_cases n task.does) s t less below
  where
    by_number : ((s t : ℕ) → s < t → t < length (waits (n + 1) tasks) → place (waits (n + 1) tasks) s < place (waits (n + 1) tasks) t) → (o : Option ℕ) → (o ≡ Some n) ⊎ (o ≡ None) → (s t : ℕ) → s < t → t < length (cons_option o (waits (n + 1) tasks)) → place (cons_option o (waits (n + 1) tasks)) s < place (cons_option o (waits (n + 1) tasks)) t
    by_number later None c s t less below = later s t less below
    by_number later (Some m) (inr none) s t less below = absurd (cc)
    by_number later (Some m) (inl is) s zero less below = absurd (omega (arith, less))
    by_number later (Some m) (inl is) zero (suc t) less below =
        let same : m ≡ n = cc in
        let more = from_on (n + 1) tasks t (omega (arith, below)) in
        omega (arith, same, more)
    by_number later (Some m) (inl is) (suc s) (suc t) less below = later s t (omega (arith, less)) (omega (arith, below))

-- each is there
pub found : (n : ℕ) (tasks : List Task) (p : ℕ) (task : Task) (events : List Watched) (body : Actions) → slice_get tasks p ≡ Some task → task.does ≡ Edge' events body → (t : ℕ) × (t < length (waits n tasks)) × (place (waits n tasks) t ≡ n + p)
found n [] p task events body there does = absurd (cc)
found n (one ∷ tasks) zero task events body there does =
    let same : one ≡ task = cc in
    let is : number_of n one.does ≡ Some n = ap (number_of n) (ap (λ (x : Task). x.does) same ∙ does) in (
      0,
      subst (λ o. 0 < length (cons_option o (waits (n + 1) tasks))) (sym is) (omega arith),
      subst (λ o. place (cons_option o (waits (n + 1) tasks)) 0 ≡ n + 0) (sym is) (omega arith),
    )
found n (one ∷ tasks) (suc p) task events body there does =
    by_number (found (n + 1) tasks p task events body there does) (number_of n one.does)
  where
    by_number : ((t : ℕ) × (t < length (waits (n + 1) tasks)) × (place (waits (n + 1) tasks) t ≡ n + 1 + p)) → (o : Option ℕ) → (t : ℕ) × (t < length (cons_option o (waits (n + 1) tasks))) × (place (cons_option o (waits (n + 1) tasks)) t ≡ n + suc p)
    by_number (t, below, is) None = (t, below, omega (arith, is))
    by_number (t, below, is) (Some m) = (suc t, omega (arith, below), omega (arith, is))
