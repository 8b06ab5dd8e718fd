-- It serves inner contracts and proofs; no answer of the program is stated by it.
-- What becomes of tallies where one driver changes.
use Rattle.std.specs.Prelude.{◌≡◌, ℕ, List, Some, Vec}
use Rattle.std.specs.List.{All}
use Rattle.std.specs.declared.alloc.Global.{Global}
use Rattle.rtl_bits.specs.declared.Bit.{Bit}
use Rattle.rtl_flat.specs.Expression.{Tree}
use Rattle.rtl_flat.specs.Process.{Piece, Assign}
use Rattle.rtl_flat.specs.WellFormed.{IsFixed}
use Rattle.event_model.specs.Queue.{doing_at}
use Rattle.rtl_flat.specs.Flats.{Flat}
use Rattle.event_model.specs.Writes.{put}
use Rattle.event_write.specs.event_tally.declared.tally.Tally.{Tally}
use Rattle.event_write.specs.Entries.{AreSelected}
use Rattle.event_write.specs.QueueState.{AreTallied}

-- whether tallies count drivers of which one has some bits
pub record AreTalliedWith (d : Flat) (p : ℕ) (bits : List Bit) (rows : List (Vec Tally Global)) : Type 0 where
  pub driver : ℕ → List Bit
  pub has : driver p ≡ bits
  pub tallied : AreTallied d driver rows

-- whether tallies follow a driver from old bits to new ones
abbrev pub AreMoved : Flat → ℕ → List Bit → List Bit → List (Vec Tally Global) → List (Vec Tally Global) → Type 0
AreMoved d p old new before after =
    (driver : ℕ → List Bit) → driver p ≡ old → AreTallied d driver before → AreTallied d (put driver p new) after

-- whether a process assigns to a target
pub record IsTarget (d : Flat) (p : ℕ) (target : List Piece) : Type 0 where
  pub value : Tree
  pub does : doing_at d p ≡ Some (Assign target value)
  pub selected : AreSelected d.signals target
  pub fixed : All (λ piece. IsFixed piece.selection) target
