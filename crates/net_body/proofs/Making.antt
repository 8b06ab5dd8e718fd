-- Marks and bounds that are made one after another.
use Rattle.std.proofs.Common.{◌≡◌, ◌∙◌, ◌<◌, ◌≤◌, ◌+◌, ◌*◌, ℕ, zero, suc, List, [], ◌∷◌, ◌++◌, get_or, length, map, take, ap, refl, subst, sym, arith}
use Rattle.std.specs.List.{All, sum_by}
use Rattle.std.proofs.Math.Nat.{mul-le-mul_left}
use Rattle.std.proofs.lemmas.List.{take_more}
use Rattle.std.proofs.lemmas.List.Elements.{All-append, All-cons, All-head, All-nil, All-tail}
use Rattle.std.proofs.lemmas.List.Sums.{sum_by-cons}
use Rattle.rtl_bits.specs.declared.Bit.{Bit}
use Rattle.rtl_flat.specs.declared.act.Process.{Process}
use Rattle.rtl_flat.specs.Process.{Task, doing, task}
use Rattle.rtl_flat.specs.WellFormed.{process_statements}
use Rattle.net_body.specs.declared.mark.Mark.{Mark}
use Rattle.net_body.specs.Levels.{process_levels}
use Rattle.net_body.specs.Marks.{HaveMarks, view_at}

-- one mark more in which nothing is written
pub seen_more : {A : Type 0} (f : Mark → ℕ → A) (a : A) (marks : List Mark) (m : Mark) → ((i k : ℕ) → view_at f (λ j. a) marks i k ≡ a) → ((k : ℕ) → f m k ≡ a) → (i k : ℕ) → view_at f (λ j. a) (marks ++ m ∷ []) i k ≡ a
seen_more f a [] m before here zero k = here k
seen_more f a [] m before here (suc i) k = refl
seen_more f a (x ∷ marks) m before here zero k = before zero k
seen_more f a (x ∷ marks) m before here (suc i) k =
    seen_more f a marks m (λ j. before (suc j)) here i k

-- one mark more of the width of its digits
marks_more : (numbers : List (List Bit)) (marks : List Mark) (number : List Bit) (m : Mark) → length marks ≡ length numbers → HaveMarks numbers marks → length m.next ≡ length number → HaveMarks (numbers ++ number ∷ []) (marks ++ m ∷ [])
marks_more [] [] number m same before here zero = sym here
marks_more [] [] number m same before here (suc i) = refl
marks_more [] (x ∷ marks) number m same before here i = absurd (omega (arith, same))
marks_more (n ∷ numbers) [] number m same before here i = absurd (omega (arith, same))
marks_more (n ∷ numbers) (x ∷ marks) number m same before here zero = before zero
marks_more (n ∷ numbers) (x ∷ marks) number m same before here (suc i) =
    marks_more numbers marks number m (omega (arith, same)) (λ j. before (suc j)) here i

pub have_more : (numbers : List (List Bit)) (marks : List Mark) (n : ℕ) (number : List Bit) (m : Mark) → n < length numbers → number ≡ get_or numbers n number → length marks ≡ length (take n numbers) → HaveMarks (take n numbers) marks → length m.next ≡ length number → HaveMarks (take (n + 1) numbers) (marks ++ m ∷ [])
have_more numbers marks n number m below is same before here =
    subst (λ (ns : List (List Bit)). HaveMarks ns (marks ++ m ∷ []))
    (sym (take_more numbers n number below ∙ ap (λ (x : List Bit). take n numbers ++ x ∷ []) (sym is)))
    (marks_more (take n numbers) marks number m same before here)

-- a bound that grows is still one
deeper : (processes : List Process) (a b : ℕ) → a ≤ b → All (λ process. process_levels (doing process.does) ≤ a) processes → All (λ process. process_levels (doing process.does) ≤ b) processes
deeper [] a b less h =
    All-nil (λ (process : Process). process_levels (doing process.does) ≤ b)
deeper (x ∷ processes) a b less h =
    let here = All-head (λ (process : Process). process_levels (doing process.does) ≤ a) x processes h in
    All-cons (λ (process : Process). process_levels (doing process.does) ≤ b) x processes (omega (arith, here, less))
    (deeper processes a b less (All-tail (λ (process : Process). process_levels (doing process.does) ≤ a) x processes h))

pub deepest_more : (processes : List Process) (n : ℕ) (x : Process) (a b : ℕ) → n < length processes → x ≡ get_or processes n x → a ≤ b → process_levels (doing x.does) ≤ b → All (λ process. process_levels (doing process.does) ≤ a) (take n processes) → All (λ process. process_levels (doing process.does) ≤ b) (take (n + 1) processes)
deepest_more processes n x a b below is less here before =
    let P : Process → Type 0 = λ process. process_levels (doing process.does) ≤ b in
    subst (λ (xs : List Process). All P xs)
    (sym (take_more processes n x below ∙ ap (λ (y : Process). take n processes ++ y ∷ []) (sym is)))
    (All-append P (take n processes) (x ∷ []) (deeper (take n processes) a b less before) (All-cons P x [] here (All-nil P)))

-- the bodies of a design have not more statements than it
pub few_statements : (processes : List Process) (most : ℕ) → sum_by (λ one. process_statements one.does) (map task processes) ≤ most → All (λ process. process_statements (doing process.does) ≤ most) processes
few_statements [] most h =
    All-nil (λ (process : Process). process_statements (doing process.does) ≤ most)
few_statements (x ∷ processes) most h =
    let all = sum_by-cons (λ (one : Task). process_statements one.does) (task x) (map task processes) in
    All-cons (λ (process : Process). process_statements (doing process.does) ≤ most) x processes (omega (arith, all, h))
    (few_statements processes most (omega (arith, all, h)))

-- room for the deepest is room for each
pub rooms_for : (processes : List Process) (most n room : ℕ) → most * n ≤ room → All (λ process. process_levels (doing process.does) ≤ most) processes → All (λ process. process_levels (doing process.does) * n ≤ room) processes
rooms_for [] most n room fits h =
    All-nil (λ (process : Process). process_levels (doing process.does) * n ≤ room)
rooms_for (x ∷ processes) most n room fits h =
    let here = All-head (λ (process : Process). process_levels (doing process.does) ≤ most) x processes h in
    let less = mul-le-mul_left n here in
    All-cons (λ (process : Process). process_levels (doing process.does) * n ≤ room) x processes (omega (arith, less, fits))
    (rooms_for processes most n room fits (All-tail (λ (process : Process). process_levels (doing process.does) ≤ most) x processes h))
