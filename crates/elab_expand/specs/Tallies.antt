-- What is told of generate constructs, and how much they make.
-- Worked examples: proofs/Examples.antt.
use Rattle.std.specs.Prelude.{ℕ, ◌+◌, min, nat_lt, Bool, ◌||◌, cond, List, [], ◌∷◌, ◌++◌, length, Option, Some, None}
use Rattle.rtl_const.specs.Constant.{constant}
use Rattle.rtl_tree.specs.TreeExpr.{Formula}
use Rattle.elab_scope.specs.Faults.{Refusal, TooLarge, after, least}
use Rattle.elab_scope.specs.Rules.{fault, number_faults}
use Rattle.elab_sizes.specs.Sizes.{formula_size}
use Rattle.elab_genvars.specs.Genvars.{formula_genvars}
use Rattle.elab_expand.specs.Scoping.{Scopes, meaning_in, numbers_at}

-- the fault that is told, the place of each turn's `for`, and how much was made
pub record Tally : Type 0 where
  pub told : Option Refusal
  pub turns : List ℕ
  pub size : ℕ

abbrev pub no_tally : Tally
no_tally = record { told = None; turns = []; size = 0 }

-- a design has at most 100,000 turns, and what its constructs make has at most this size
abbrev pub most_turns : ℕ
most_turns = 100000

abbrev pub most_made : ℕ
most_made = 8000000

-- a limit is passed: nothing more is made
abbrev pub is_full : Tally → Bool
is_full tally = nat_lt most_made tally.size || nat_lt most_turns (length tally.turns)

abbrev pub unless_full : Tally → (Tally → Tally) → Tally
unless_full tally next = cond (is_full tally) tally (next tally)

abbrev pub telling : List Refusal → Tally → Tally
telling faults tally = record { told = after tally.told faults; turns = tally.turns; size = tally.size }

-- the least of some faults is told besides
abbrev pub telling_least : Option Refusal → Tally → Tally
telling_least None tally = tally
telling_least (Some found) tally = telling (found ∷ []) tally

-- so much more is made at a place; a limit that is passed is told there, and counts no further
abbrev pub counting : ℕ → ℕ → Tally → Tally
counting at more tally =
    let size : ℕ = min (tally.size + more) (most_made + 1) in
    telling
    (cond (nat_lt most_made size) (fault at TooLarge ∷ []) [])
    (record { told = tally.told; turns = tally.turns; size = size })

-- a turn more
abbrev pub counted_turn : ℕ → Tally → Tally
counted_turn at tally = record { told = tally.told; turns = tally.turns ++ at ∷ []; size = tally.size }

-- an expression that has to be constant is worked out at a place, and what is wrong with it is told
abbrev pub judged : Scopes → ℕ → Formula → Tally → Tally
judged s at e tally =
    telling
    (number_faults (constant (numbers_at s) e))
    (telling_least (least (formula_genvars (meaning_in s) e)) (counting at (1 + formula_size e) tally))
