-- It serves inner contracts and proofs; no answer of the program is stated by it.
-- The links by which signals go on to other instances.
use Rattle.std.specs.Prelude.{ℕ, ◌≡◌, ◌<◌, ◌==◌, Bool, true, false, not, ◌&&◌, if◌then◌else◌, List, [], ◌∷◌, length, Vec, Option, Some, None}
use Rattle.std.specs.Prelude.{◌⊎◌, ◌↔◌}
use Rattle.std.specs.List.{slice_get}
use Rattle.std.specs.declared.alloc.Global.{Global}
use Rattle.rtl_flat.specs.declared.signal.Signal.{Signal}
use Rattle.rtl_flat.specs.Expression.{Tree, Sized}
use Rattle.rtl_flat.specs.Process.{Selection, Piece, Doing, Assign, Task}
use Rattle.rtl_flat.specs.Process as part
use Rattle.rtl_flat.specs.Flats.{Flat, widths}
use Rattle.check_chains.specs.rtl_scan.Arrows.{Among}
use Rattle.check_chains.specs.rtl_scan.Graph.{row}
use Rattle.check_chains.specs.Inner.{whole_of}
use Rattle.check_gates.specs.declared.reach.Link.{Link}
use Rattle.check_gates.specs.Reach.{HasLink}

-- the signal that an expression of one bit is
abbrev pub bit_named : Tree → Option ℕ
bit_named (Sized width signed spot e) =
    if width == 1 then whole_of (Sized width signed spot e) else None
bit_named _ = None

abbrev pub whole_piece : Selection → ℕ → Option ℕ
whole_piece part.Whole signal = Some signal
whole_piece _ signal = None

-- the signal that is all of a target
abbrev pub whole_target : List Piece → Option ℕ
whole_target (piece ∷ []) = whole_piece piece.selection piece.signal
whole_target _ = None

-- whether a signal is of another instance
abbrev pub is_elsewhere : ℕ → Option Signal → Bool
is_elsewhere instance None = false
is_elsewhere instance (Some signal) = not (signal.instance == instance)

-- whether a connection goes from a signal of one bit to one of another instance
abbrev pub is_link : Flat → ℕ → ℕ → ℕ → Bool
is_link d instance i j =
    (widths d i == 1) && (widths d j == 1) && is_elsewhere instance (slice_get d.signals j)

abbrev pub link_if : Bool → ℕ → ℕ → Option Link
link_if true i j = Some (record { source = i; target = j })
link_if false i j = None

abbrev pub linked : Flat → ℕ → Option ℕ → Option ℕ → Option Link
linked d instance (Some i) (Some j) = link_if (is_link d instance i j) i j
linked d instance _ _ = None

-- the plain connection that a process is
abbrev pub plain_in : Flat → ℕ → Doing → Option Link
plain_in d instance (Assign target value) = linked d instance (bit_named value) (whole_target target)
plain_in d instance _ = None

abbrev pub plain_of : Flat → Task → Option Link
plain_of d task = plain_in d task.instance task.does

-- the rows of some links
pub record AreRows (count : ℕ) (links : List Link) (rows : List (Vec ℕ Global)) : Type 0 where
  pub size : length rows ≡ count
  pub each : (i j : ℕ) → Among (row rows i) j ↔ ((i < count) × HasLink links i j)

-- a number is put into a row
pub record IsPut (place value : ℕ) (old new : List (Vec ℕ Global)) : Type 0 where
  pub size : length new ≡ length old
  pub each : (i j : ℕ) → Among (row new i) j ↔ (Among (row old i) j ⊎ ((i ≡ place) × (j ≡ value)))
