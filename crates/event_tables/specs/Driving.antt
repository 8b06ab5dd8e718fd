-- It serves inner contracts and proofs; no answer of the program is stated by it.
-- Who drives which signals.
use Rattle.std.specs.Prelude.{ℕ, ◌≡◌, ◌<◌, ◌==◌, Bool, false, cond, List, [], ◌∷◌, ◌++◌, drop, length, Option, None, Some, Vec}
use Rattle.std.specs.List.{All, list_any}
use Rattle.std.specs.declared.alloc.Global.{Global}
use Rattle.rtl_bits.specs.declared.Bit.{Bit}
use Rattle.rtl_flat.specs.declared.act.ProcId.{ProcId}
use Rattle.rtl_flat.specs.Process.{Piece, Doing, Assign, Comb, Edge'}
use Rattle.event_model.specs.Queue.{doing_at, resolved_from, resolved}
use Rattle.rtl_flat.specs.Flats.{Flat, widths}
use Rattle.event_write.specs.event_tally.Targets.{drives_of}
use Rattle.event_write.specs.QueueState.{row, driven_with}

-- whether the process with a number drives a part of a signal
abbrev pub drives : Flat → ℕ → ℕ → Bool
drives d p = drives_of (doing_at d p)

-- whether the process with a number is the last one of a list
abbrev pub ends_in : List ProcId → ℕ → Bool
ends_in [] p = false
ends_in (x ∷ []) p = x.0 == p
ends_in (x ∷ y ∷ ys) p = ends_in (y ∷ ys) p

-- a list with a process at its end
abbrev pub list_with : ProcId → List ProcId → List ProcId
list_with p xs = cond (ends_in xs p.0) xs (xs ++ p ∷ [])

-- a process is put into the rows of some signals
pub record Enters (process : ProcId) (which : ℕ → Bool) (old new : List (Vec ProcId Global)) : Type 0 where
  pub same_length : length new ≡ length old
  pub rows : (i : ℕ) → i < length old → row new i ≡ cond (which i) (list_with process (row old i)) (row old i)

-- what the processes in a row give to a net together with the others
abbrev pub given_by : Flat → List ProcId → (ℕ → List Bit) → ℕ → List Bit → List Bit
given_by d [] driver net others = others
given_by d (p ∷ ps) driver net others =
    driven_with (widths d) (doing_at d p.0) (driver p.0) net (given_by d ps driver net others)

-- the processes below a number stand in the rows of what they drive: with all others they give each net its value
pub record AreDriven (d : Flat) (n : ℕ) (drivers : List (Vec ProcId Global)) : Type 0 where
  pub same_length : length drivers ≡ length d.signals
  pub below : (i : ℕ) → All (λ p. p.0 < n) (row drivers i)
  pub given : (driver : ℕ → List Bit) (i : ℕ) → i < length d.signals → given_by d (row drivers i) driver i (resolved_from (widths d) n (drop n d.tasks) driver i) ≡ resolved d driver i
