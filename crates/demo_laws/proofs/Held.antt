-- Solutions for latches that had the same in each bit that lasts.
use Rattle.std.proofs.Common.{◌≡◌, ◌∙◌, ◌<◌, ℕ, Bool, true, false, cond, List, [], ◌∷◌, length, get_or, Option, None, Some, sym, ap, subst, inl, inr, arith}
use Rattle.std.specs.List.{list_any, slice_get}
use Rattle.std.specs.Option.{IsSomeAnd}
use Rattle.std.proofs.lemmas.Bool.{and_parts, cases_eq, or_cases, or_left, or_right}
use Rattle.rtl_bits.specs.declared.Bit.TheVariants.{X}
use Rattle.rtl_bits.proofs.Lists.{get_or-tabulate}
use Rattle.rtl_flat.specs.Flows.{body_flow, flow_of}
use Rattle.rtl_flat.specs.Paths.{Flow, MayWrite, MayWriteLate, may_write, may_write_bit, may_write_late}
use Rattle.rtl_flat.specs.Paths as step
use Rattle.rtl_flat.specs.PathSets.{Uses}
use Rattle.rtl_flat.specs.Process.{Actions, Comb, Doing, Task}
use Rattle.rtl_flat.specs.Signs.{width_in}
use Rattle.event_model.specs.Queue.{doing_at, doing_of}
use Rattle.rtl_flat.specs.Flats.{Flat, widths}
use Rattle.event_model.specs.Writes.{Values}
use Rattle.demo_clean.specs.event_laws.Steady.{AreLawful}
use Rattle.net_model.specs.declared.fill.Fill.{Fill}
use Rattle.net_model.specs.Numbers.{AreNumbers, bit}
use Rattle.net_model.specs.Solution.{IsLasting, IsSolution, start}
use Rattle.demo_clean.proofs.net_laws_proofs.Known.{KnownBit, known_at, known_each}
use Rattle.demo_clean.proofs.net_laws_proofs.Starts.{start_wide}
use Rattle.demo_clean.specs.net_order.Order.{IsCyclic}
use Rattle.demo_clean.specs.net_rest.Rest.{AreAlike}
use Rattle.demo_clean.specs.net_solve.Laws.{HaveLikeSources}
use Rattle.demo_clean.proofs.net_rest_proofs.Levels.{read_lasts}
use Rattle.demo_clean.proofs.net_rest_proofs.Numbers.{past_ends}
use Rattle.demo_clean.proofs.net_solve_proofs.Same.{same}
use Rattle.demo_laws.proofs.Laws.{lasting_depends}
use Rattle.demo_laws.proofs.Ranked.{some_rank}
use Rattle.demo_laws.proofs.Stable.{bit_stable}

-- ---- what is written late is no temporary

any_implied : (p q : step.Step → Bool) → ((x : step.Step) → p x ≡ true → q x ≡ true) → (xs : List step.Step) → list_any p xs ≡ true → list_any q xs ≡ true
any_implied p q each [] h = h
any_implied p q each (x ∷ xs) h =
    elim (or_cases (p x) (list_any p xs) h) [
      | inl here ↦ or_left (q x) (list_any q xs) (each x here)
      | inr there ↦ or_right (q x) (list_any q xs) (any_implied p q each xs there)
    ]

late_may_step : (i k : ℕ) (x : step.Step) → may_write_late i k x ≡ true → may_write_bit i k x ≡ true
late_may_step i k (step.Read bits) h = h
late_may_step i k (step.Write delayed may sure) h = (and_parts delayed (may i k) h).1

late_may : (flow : Flow) (i k : ℕ) → MayWriteLate flow i k → MayWrite flow i k
late_may flow i k late =
    record { path = late.path; is_path = late.is_path; written = any_implied (may_write_late i k) (may_write_bit i k) (late_may_step i k) late.path late.written }

none_late : (ws : ℕ → ℕ) (o : Option Task) (does : Doing) (i k : ℕ) → doing_of o ≡ Some does → IsSomeAnd o (λ task. (l : ℕ) → MayWriteLate (flow_of ws task.does) i l → ⊥) → MayWriteLate (flow_of ws does) i k → ⊥
none_late ws None does i k is none late = none
none_late ws (Some task) does i k is none late =
    let same : does ≡ task.does = cc in
    none k (subst (λ one. MayWriteLate (flow_of ws one) i k) same late)

uses : (ws : ℕ → ℕ) (o : Option Task) (does : Doing) (i k : ℕ) → doing_of o ≡ Some does → MayWrite (flow_of ws does) i k → IsSomeAnd o (λ task. Uses ws task i)
uses ws None does i k is may = absurd (cc)
uses ws (Some task) does i k is may =
    let same : does ≡ task.does = cc in
    record { bit = k; used = inl (subst (λ one. MayWrite (flow_of ws one) i k) same may) }

pub late_lasts : (d : Flat) (p : ℕ) (does : Doing) → doing_at d p ≡ Some does → (i k : ℕ) → MayWriteLate (flow_of (widths d) does) i k → IsLasting d i
late_lasts d p does here i k late temporary =
    elim (cases_eq p temporary.process) [
      | inl same ↦
          none_late (width_in d.signals) (slice_get d.tasks temporary.process) does i k (ap (doing_at d) (sym same) ∙ here) temporary.of_process.blocking late
      | inr other ↦
          temporary.of_process.alone p other (uses (width_in d.signals) (slice_get d.tasks p) does i k here (late_may (flow_of (widths d) does) i k late))
    ]

-- ---- where bodies begin

module _ (d : Flat) (body : Actions) where
  start_at : (held n : Values) (i k : ℕ) → k < widths d i → bit (start d body held n) i k ≡ cond (may_write (body_flow (widths d) body) i k) (bit held i k) (bit n i k)
  start_at held n i k below =
      get_or-tabulate (widths d i) (λ j. cond (may_write (body_flow (widths d) body) i j) (bit held i j) (bit n i j)) k X below

  start_numbers : (held n : Values) → AreNumbers d held → AreNumbers d n → AreNumbers d (start d body held n)
  start_numbers held n are are' =
      record { wide = start_wide d body held n; known = λ i. known_each (start d body held n i) (known i) }
    where
      known : (i k : ℕ) → k < length (start d body held n i) → KnownBit (get_or (start d body held n i) k X)
      known i k below =
          let long = start_wide d body held n i in
          let inside : k < widths d i = omega (arith, below, long) in
          let w = are.wide i in
          let w' = are'.wide i in
          subst KnownBit (sym (start_at held n i k inside))
          (by (may_write (body_flow (widths d) body) i k) (known_at (held i) k (are.known i) (omega (arith, inside, w))) (known_at (n i) k (are'.known i) (omega (arith, inside, w'))))
        where
          by : (b : Bool) → KnownBit (bit held i k) → KnownBit (bit n i k) → KnownBit (cond b (bit held i k) (bit n i k))
          by true one other = one
          by false one other = other

  start_alike : (held held' n : Values) → AreAlike d held held' → AreAlike d (start d body held n) (start d body held' n)
  start_alike held held' n alike i k lasts =
      past_ends d (start d body held n) (start d body held' n) (start_wide d body held n) (start_wide d body held' n) i k (λ below.
      start_at held n i k below
      ∙ ap (λ b. cond (may_write (body_flow (widths d) body) i k) b (bit n i k)) (alike i k lasts)
      ∙ sym (start_at held' n i k below))

-- ---- solutions

module _ (d : Flat) (lawful : AreLawful d) where
  held_other : (f : Fill) (held held' given n : Values) → AreNumbers d held → AreNumbers d held' → AreAlike d held held' → IsSolution d f held given n → IsSolution d f held' given n
  held_other f held held' given n are are' alike solution =
      record {
        numbers = solution.numbers;
        inputs = solution.inputs;
        kept = solution.kept;
        assigns = solution.assigns;
        blocks = λ p list body here i k may lasts.
            solution.blocks p list body here i k may lasts
            ∙ lasting_depends d f (start d body held n) (start d body held' n) body
            (start_numbers d body held n are solution.numbers) (start_numbers d body held' n are' solution.numbers) (lawful p (Comb list body) here).1
            (start_alike d body held held' n alike)
            (λ j l read. read_lasts d p (Comb list body) here j l read)
            (λ j l late. late_lasts d p (Comb list body) here j l late) i k lasts;
        others = solution.others;
      }

  pub same_solutions :
      ((s : ℕ) → IsCyclic d s → ⊥) → (f : Fill) (held held' given given' n m : Values) → AreNumbers d held → AreNumbers d held' →
      AreAlike d held held' → HaveLikeSources d given given' →
      IsSolution d f held given n → IsSolution d f held' given' m → AreAlike d n m
  same_solutions no_cycle f held held' given given' n m are are' alike given_alike one other i k lasts =
      bit_stable (bit n i k) (bit m i k) (λ differ.
      some_rank d no_cycle (λ ranked.
      differ (same d ranked.0 lawful ranked.1 f held given given' n m given_alike one
      (held_other f held' held given' m are' are (λ j l lasts'. sym (alike j l lasts')) other) i k lasts)))
