-- Processes in a row that are lawful, and no more than so many, with no more than so many statements.
use Rattle.std.specs.Prelude.{ℕ, ◌+◌, ◌<◌, ◌≤◌, List, [], ◌∷◌, ◌++◌, length}
use Rattle.std.specs.List.{All, sum_by}
use Rattle.std.proofs.Common.{arith, length-append}
use Rattle.std.proofs.lemmas.List.Elements.{All-append, All-cons, All-nil}
use Rattle.std.proofs.lemmas.List.Sums.{sum_by-append, sum_by-cons}
use Rattle.rtl_flat.specs.declared.signal.Signal.{Signal}
use Rattle.rtl_flat.specs.Process.{Task}
use Rattle.rtl_flat.specs.WellFormed.{IsProcess, process_statements}

abbrev pub statements_in : Task → ℕ
statements_in one = process_statements one.does

abbrev pub IsLawful : List Signal → Task → Type 0
IsLawful signals one = IsProcess signals one.does

abbrev pub IsInside : ℕ → Task → Type 0
IsInside count one = one.instance < count

-- lawful processes of a design with these signals and so many instances
pub record AreTasks (signals : List Signal) (count places steps : ℕ) (tasks : List Task) : Type 0 where
  pub each : All (λ one. IsProcess signals one.does) tasks
  pub inside : All (λ one. one.instance < count) tasks
  pub few : length tasks ≤ places
  pub small : sum_by (λ one. process_statements one.does) tasks ≤ steps

pub no_tasks : (signals : List Signal) (count places steps : ℕ) → AreTasks signals count places steps []
no_tasks signals count places steps =
    record {
      each = All-nil (IsLawful signals);
      inside = All-nil (IsInside count);
      few = omega arith;
      small = omega arith;
    }

pub one_task : (signals : List Signal) (count steps : ℕ) (one : Task) → IsProcess signals one.does → one.instance < count → process_statements one.does ≤ steps → AreTasks signals count 1 steps (one ∷ [])
one_task signals count steps one lawful inside small =
    record {
      each = All-cons (IsLawful signals) one [] lawful (All-nil (IsLawful signals));
      inside = All-cons (IsInside count) one [] inside (All-nil (IsInside count));
      few = omega arith;
      small = omega (arith, sum_by-cons statements_in one []);
    }

pub more_tasks : (signals : List Signal) (count p s q t : ℕ) (xs ys : List Task) → AreTasks signals count p s xs → AreTasks signals count q t ys → AreTasks signals count (p + q) (s + t) (xs ++ ys)
more_tasks signals count p s q t xs ys first second =
    let few : length xs ≤ p = first.few in
    let more : length ys ≤ q = second.few in
    let small : sum_by statements_in xs ≤ s = first.small in
    let smaller : sum_by statements_in ys ≤ t = second.small in
    record {
      each = All-append (IsLawful signals) xs ys first.each second.each;
      inside = All-append (IsInside count) xs ys first.inside second.inside;
      few = omega (arith, length-append xs ys);
      small = omega (arith, sum_by-append statements_in xs ys);
    }

pub tasks_weaker : (signals : List Signal) (count p s q t : ℕ) (xs : List Task) → p ≤ q → s ≤ t → AreTasks signals count p s xs → AreTasks signals count q t xs
tasks_weaker signals count p s q t xs fewer smaller h =
    let few : length xs ≤ p = h.few in
    let small : sum_by statements_in xs ≤ s = h.small in
    record { each = h.each; inside = h.inside; few = omega arith; small = omega arith }
