-- It serves inner contracts and proofs; no answer of the program is stated by it.
-- Which signals a process drives.
use Rattle.std.specs.Prelude.{ℕ, ◌==◌, Bool, false, List, Option, None, Some}
use Rattle.std.specs.List.{list_any}
use Rattle.rtl_flat.specs.Process.{Piece, Doing, Assign, Comb, Edge'}

-- whether a target names a signal
abbrev pub names : List Piece → ℕ → Bool
names target i = list_any (λ piece. i == piece.signal) target

-- whether a process drives a part of a signal
abbrev pub drives_of : Option Doing → ℕ → Bool
drives_of None i = false
drives_of (Some (Assign target value)) i = names target i
drives_of (Some (Comb list body)) i = false
drives_of (Some (Edge' events body)) i = false
