-- It serves inner contracts and proofs; no answer of the program is stated by it.
-- The findings of each rule as lists that are put together process by process.
use Rattle.std.specs.Prelude.{ℕ, zero, suc, ◌≡◌, ◌+◌, ◌<◌, Bool, true, false, List, [], ◌∷◌, ◌++◌, length, map, Option, Some, None}
use Rattle.std.specs.List.{filter, filter_map, slice_get}
use Rattle.text_ground.specs.declared.dropped.DropKind.{DropKind}
use Rattle.text_ground.specs.declared.dropped.DropKind.TheVariants.{Comment, Initial, TranslateOff}
use Rattle.text_ground.specs.declared.text.Spot.{Spot}
use Rattle.rtl_flat.specs.declared.expr.Compare.{Compare}
use Rattle.rtl_flat.specs.declared.expr.Compare.TheVariants as compare
use Rattle.rtl_flat.specs.declared.expr.Join.{Join}
use Rattle.rtl_flat.specs.declared.expr.Join.TheVariants as join
use Rattle.rtl_flat.specs.declared.expr.SigId.{SigId}
use Rattle.rtl_flat.specs.declared.instance.Delay.{Delay}
use Rattle.rtl_flat.specs.declared.instance.DroppedRegion.{DroppedRegion}
use Rattle.rtl_flat.specs.Expression.{Tree}
use Rattle.rtl_flat.specs.Process.{Doing, Task}
use Rattle.rtl_rule.specs.declared.finding.Finding.{Finding}
use Rattle.rtl_rule.specs.declared.rule.Rule.{Rule}
use Rattle.rtl_rule.specs.declared.rule.Rule.TheVariants as rule
use Rattle.rtl_rule.specs.Parts.{At, first_of, has_literal, is_x, number, place_of, within, written}
use Rattle.rtl_flat.specs.Flats.{Flat}
use Rattle.check_unknown.specs.Unknowns.{Pick, all_nodes, at_region, delay_ignored_at, in_task, may_miss, unknown_literal_at}

-- ---- process by process

-- what the processes below a number have, where the first has the number k
abbrev pub below : (ℕ → Task → List Finding) → ℕ → List Task → ℕ → List Finding
below of k tasks zero = []
below of k [] (suc n) = []
below of k (task ∷ tasks) (suc n) = of k task ++ below of (k + 1) tasks n

-- the findings of those sites in a process that pass a test
abbrev pub picked : {A : Type 0} → (Doing → List A) → (At A → Bool) → (At A → Finding) → ℕ → Task → List Finding
picked list test at p task = map at (filter test (map (within (p, task)) (list task.does)))

-- these are all expressions of a process
abbrev pub AreNodes : Flat → ℕ → List Tree → Type 0
AreNodes d p all = (task : Task) → slice_get d.tasks p ≡ Some task → all ≡ all_nodes task.does

-- ---- at places in a process

abbrev pub at_spot : Rule → Option SigId → ℕ → Spot → Finding
at_spot rule signal instance spot =
    record { rule = rule; signal = signal; instance = instance; spot = spot }

-- findings about the least signal that a process may write
abbrev pub at_spots : Rule → Flat → List Spot → Task → List Finding
at_spots rule d spots task =
    map (at_spot rule (first_of d (written d task.does)) task.instance) spots

-- the places of those expressions that pass a test
abbrev pub tree_spots : (Tree → Bool) → Spot → List Tree → List Spot
tree_spots test otherwise all = map (place_of otherwise) (filter test all)

-- the findings of a rule on expressions
abbrev pub nodes_found : Rule → (Tree → Bool) → Flat → Task → List Finding
nodes_found rule test d task =
    at_spots rule d (tree_spots test task.spot (all_nodes task.does)) task

-- `===` and `!==`
abbrev pub is_exact : Compare → Bool
is_exact compare.CaseEqual = true
is_exact compare.CaseNotEqual = true
is_exact _ = false

-- the first place of a literal with an x bit
abbrev pub literal_found : Flat → ℕ → Task → List Finding
literal_found d =
    picked (λ does. does ∷ []) (λ site. has_literal is_x site.it) (unknown_literal_at d)

-- ---- what is dropped

abbrev pub is_kind : DropKind → DropKind → Bool
is_kind Initial Initial = true
is_kind TranslateOff TranslateOff = true
is_kind Comment Comment = true
is_kind _ _ = false

abbrev pub regions : Rule → DropKind → List DroppedRegion → List Finding
regions rule kind dropped =
    map (at_region rule) (filter (λ one. is_kind one.kind kind) dropped)

-- ---- delays

abbrev pub delays_found : Flat → List Delay → List Finding
delays_found d delays =
    map (delay_ignored_at d) (filter_map (λ (delay : Delay). in_task delay (slice_get d.tasks delay.process.0)) delays)

-- the least signal that each process may write
pub record AreFirsts (d : Flat) (n : ℕ) (firsts : List (Option SigId)) : Type 0 where
  pub each : (p : ℕ) (task : Task) → p < n → slice_get d.tasks p ≡ Some task → slice_get firsts p ≡ Some (first_of d (written d task.does))
  pub same_length : length firsts ≡ n

-- ---- selects

abbrev pub misses : (ℕ → ℕ) → Option Pick → Bool
misses ws None = false
misses ws (Some one) = may_miss ws one one.index

abbrev pub miss_at : ℕ → Pick → Finding
miss_at instance one = at_spot rule.SelectRange (number one.signal) instance one.spot

-- the findings of some selects in an instance
abbrev pub misses_found : (ℕ → ℕ) → ℕ → List Pick → List Finding
misses_found ws instance all =
    map (miss_at instance) (filter (λ one. may_miss ws one one.index) all)

-- ---- divisors

abbrev pub is_division : Join → Bool
is_division join.Divide = true
is_division join.Remainder = true
is_division _ = false
