-- What the rules give of a design, so that it settles by level.
use Rattle.std.specs.Prelude.{◌≡◌, ◌<◌, ℕ, true, List, length, Option, Some, IsTrue}
use Rattle.std.specs.List.{All}
use Rattle.rtl_flat.specs.Flows.{body_flow, flow_of, may_target}
use Rattle.rtl_flat.specs.Levels.{IsArrow, IsBehindCycle, IsLevel}
use Rattle.rtl_flat.specs.Paths.{MayWrite, MayWriteLate, MayWriteNow}
use Rattle.rtl_flat.specs.PathSets.{IsTemporaryOf}
use Rattle.rtl_flat.specs.Process.{Piece, Watched, Action, Set, If, Case, Block, Actions, Done, Then, Otherwise, Without, With, Branches, NoBranch, Branch, Doing, Comb, Edge'}
use Rattle.rtl_flat.specs.WellFormed.{has_edge}
use Rattle.event_model.specs.Queue.{doing_at}
use Rattle.rtl_flat.specs.Flats.{Flat, widths}
use Rattle.net_model.specs.Control.{IsFromTop}

-- a bit that an assignment may write: a constant index outside its signal selects none (IEEE 1364-2001 section 4.2.1)
pub record SelectsSome (ws : ℕ → ℕ) (target : List Piece) : Type 0 where
  pub signal : ℕ
  pub bit : ℕ
  pub may : may_target ws target signal bit ≡ true

abbrev mutual
  -- each nonblocking assignment in a statement may write some bit
  pub AllSelect : (ℕ → ℕ) → Action → Type 0
  AllSelect ws (Set target value delayed spot) = delayed ≡ true → SelectsSome ws target
  AllSelect ws (If test taken other spot) = AllSelectIn ws taken × AllSelectOther ws other
  AllSelect ws (Case kind full parallel selector branches fallback spot) =
      AllSelectBranches ws branches × AllSelectOther ws fallback
  AllSelect ws (Block body) = AllSelectIn ws body

  pub AllSelectIn : (ℕ → ℕ) → Actions → Type 0
  AllSelectIn ws Done = Unit {0}
  AllSelectIn ws (Then first others) = AllSelect ws first × AllSelectIn ws others

  pub AllSelectOther : (ℕ → ℕ) → Otherwise → Type 0
  AllSelectOther ws Without = Unit {0}
  AllSelectOther ws (With body) = AllSelectIn ws body

  pub AllSelectBranches : (ℕ → ℕ) → Branches → Type 0
  AllSelectBranches ws NoBranch = Unit {0}
  AllSelectBranches ws (Branch labels body others) =
      AllSelectIn ws body × AllSelectBranches ws others

-- what the rules give of levels, of what blocks write, and of clocks and resets
pub record AreRulesKept (d : Flat) (level : ℕ → Option ℕ) : Type 0 where
  -- the levels are those of the processes
  pub levels : (p : ℕ) → p < length d.tasks → IsLevel d.signals d.tasks p (level p)
  -- no process feeds itself (A6)
  pub no_cycle : (p : ℕ) → IsBehindCycle (IsArrow d.signals d.tasks) p → ⊥
  -- a block with an edge writes its temporaries alone at once (A1)
  pub temporaries :
      (p : ℕ) (events : List Watched) (body : Actions) → doing_at d p ≡ Some (Edge' events body) →
      (i k : ℕ) → MayWriteNow (body_flow (widths d) body) i k → IsTemporaryOf d.signals d.tasks p i
  -- a block without edges writes nothing late (A2)
  pub no_late :
      (p : ℕ) (list : Option (List Watched)) (body : Actions) → doing_at d p ≡ Some (Comb list body) →
      (i k : ℕ) → MayWriteLate (body_flow (widths d) body) i k → ⊥
  -- its nonblocking assignments have indices inside (X2), so that it has none
  pub select :
      (p : ℕ) (list : Option (List Watched)) (body : Actions) → doing_at d p ≡ Some (Comb list body) →
      AllSelectIn (widths d) body
  -- a bit is written by one process alone (A4)
  pub alone :
      (p q : ℕ) (does other : Doing) → doing_at d p ≡ Some does → doing_at d q ≡ Some other →
      (i k : ℕ) → MayWrite (flow_of (widths d) does) i k → MayWrite (flow_of (widths d) other) i k → p ≡ q
  -- events beside an edge are edges too (S3)
  pub edges :
      (p : ℕ) (events : List Watched) (body : Actions) → doing_at d p ≡ Some (Edge' events body) →
      All (λ item. IsTrue (has_edge item.edge)) events
  -- clocks and resets come from top inputs (A7)
  pub clocks :
      (p : ℕ) (events : List Watched) (body : Actions) → doing_at d p ≡ Some (Edge' events body) →
      All (λ item. IsFromTop d item.signal) events
