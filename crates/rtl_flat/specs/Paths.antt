-- Paths through a body, and what holds on some path or on every path. A path takes one branch at
-- each place where a body parts; it is the list of its reads and writes.
-- Worked examples: crates/event_laws/proofs/BodyExample.antt.
use Rattle.std.specs.Prelude.{ℕ, ◌≡◌, Bool, true, false, not, ◌&&◌, ◌||◌, ◌↔◌, ◌⊎◌, List, [], ◌∷◌, ◌++◌}
use Rattle.std.specs.List.{list_any}

-- a set of bits of signals: whether it has bit k, from 0 for the least significant, of signal s
abbrev pub BitSet : Type 0
BitSet = ℕ → ℕ → Bool

abbrev pub no_bit : BitSet
no_bit s k = false

abbrev pub either : BitSet → BitSet → BitSet
either a b s k = a s k || b s k

-- what one statement does with bits: it reads them, or it writes some that are known and some that
-- an index decides on
pub data Step : Type 0 where
  Read : (bits : BitSet) → Step
  Write : (delayed : Bool) (may sure : BitSet) → Step

mutual
  -- how control goes: on to the end by steps and forks
  pub data Flow : Type 0 where
    End : Flow
    Do : (step : Step) (rest : Flow) → Flow
    Fork : (ways : Ways) (rest : Flow) → Flow

  -- the ways of a fork, one at least
  pub data Ways : Type 0 where
    Last : (way : Flow) → Ways
    More : (way : Flow) (others : Ways) → Ways

abbrev mutual
  -- whether a list of steps is a path
  pub IsPath : Flow → List Step → Type 0
  IsPath End path = path ≡ []
  IsPath (Do step rest) path = (after : List Step) × (path ≡ step ∷ after) × IsPath rest after
  IsPath (Fork ways rest) path =
      (way after : List Step) × (path ≡ way ++ after) × IsWay ways way × IsPath rest after

  -- whether it is a path of one of some ways
  pub IsWay : Ways → List Step → Type 0
  IsWay (Last flow) path = IsPath flow path
  IsWay (More flow others) path = IsPath flow path ⊎ IsWay others path

-- ---- what a step does with a bit

abbrev pub reads_bit : ℕ → ℕ → Step → Bool
reads_bit s k (Read bits) = bits s k
reads_bit s k (Write delayed may sure) = false

abbrev pub may_write_bit : ℕ → ℕ → Step → Bool
may_write_bit s k (Read bits) = false
may_write_bit s k (Write delayed may sure) = may s k

-- by a nonblocking assignment
abbrev pub may_write_late : ℕ → ℕ → Step → Bool
may_write_late s k (Read bits) = false
may_write_late s k (Write delayed may sure) = delayed && may s k

-- by a blocking assignment
abbrev pub may_write_now : ℕ → ℕ → Step → Bool
may_write_now s k (Read bits) = false
may_write_now s k (Write delayed may sure) = not delayed && may s k

-- whichever index there is
abbrev pub writes_bit : ℕ → ℕ → Step → Bool
writes_bit s k (Read bits) = false
writes_bit s k (Write delayed may sure) = sure s k

-- by a blocking assignment, so that what follows reads the new value
abbrev pub writes_now : ℕ → ℕ → Step → Bool
writes_now s k (Read bits) = false
writes_now s k (Write delayed may sure) = not delayed && sure s k

-- ---- path sets

-- a bit that is written on some path
pub record MayWrite (flow : Flow) (s k : ℕ) : Type 0 where
  pub path : List Step
  pub is_path : IsPath flow path
  pub written : list_any (may_write_bit s k) path ≡ true

-- a bit that a nonblocking assignment writes on some path
pub record MayWriteLate (flow : Flow) (s k : ℕ) : Type 0 where
  pub path : List Step
  pub is_path : IsPath flow path
  pub written : list_any (may_write_late s k) path ≡ true

-- a bit that a blocking assignment writes on some path
pub record MayWriteNow (flow : Flow) (s k : ℕ) : Type 0 where
  pub path : List Step
  pub is_path : IsPath flow path
  pub written : list_any (may_write_now s k) path ≡ true

-- a bit that every path writes
pub record IsSure (flow : Flow) (s k : ℕ) : Type 0 where
  pub written : (path : List Step) → IsPath flow path → list_any (writes_bit s k) path ≡ true

-- a bit that every path writes by a blocking assignment
pub record IsSureNow (flow : Flow) (s k : ℕ) : Type 0 where
  pub written : (path : List Step) → IsPath flow path → list_any (writes_now s k) path ≡ true

-- a bit that some path reads
pub record MayRead (flow : Flow) (s k : ℕ) : Type 0 where
  pub path : List Step
  pub is_path : IsPath flow path
  pub read : list_any (reads_bit s k) path ≡ true

-- a bit that some path reads with no blocking assignment to it before; where an index decides
-- which bit is written, none counts as written
pub record ReadsOutside (flow : Flow) (s k : ℕ) : Type 0 where
  pub before : List Step
  pub step : Step
  pub after : List Step
  pub is_path : IsPath flow (before ++ step ∷ after)
  pub read : reads_bit s k step ≡ true
  pub not_written : list_any (writes_now s k) before ≡ false

-- ---- the same by recursion: whether a test of steps passes on some path, on every path, or on some
-- path where no step before passes another test

abbrev mutual
  pub some : (Step → Bool) → Flow → Bool
  some f End = false
  some f (Do step rest) = f step || some f rest
  some f (Fork ways rest) = some_way f ways || some f rest

  pub some_way : (Step → Bool) → Ways → Bool
  some_way f (Last flow) = some f flow
  some_way f (More flow others) = some f flow || some_way f others

abbrev mutual
  pub every : (Step → Bool) → Flow → Bool
  every f End = false
  every f (Do step rest) = f step || every f rest
  every f (Fork ways rest) = every_way f ways || every f rest

  pub every_way : (Step → Bool) → Ways → Bool
  every_way f (Last flow) = every f flow
  every_way f (More flow others) = every f flow && every_way f others

abbrev mutual
  pub first : (Step → Bool) → (Step → Bool) → Flow → Bool
  first f g End = false
  first f g (Do step rest) = f step || (not (g step) && first f g rest)
  first f g (Fork ways rest) =
      first_way f g ways || (not (every_way g ways) && first f g rest)

  pub first_way : (Step → Bool) → (Step → Bool) → Ways → Bool
  first_way f g (Last flow) = first f g flow
  first_way f g (More flow others) = first f g flow || first_way f g others

abbrev pub may_write : Flow → BitSet
may_write flow s k = some (may_write_bit s k) flow

abbrev pub may_write_delayed : Flow → BitSet
may_write_delayed flow s k = some (may_write_late s k) flow

abbrev pub may_write_blocking : Flow → BitSet
may_write_blocking flow s k = some (may_write_now s k) flow

abbrev pub is_sure : Flow → BitSet
is_sure flow s k = every (writes_bit s k) flow

abbrev pub is_sure_now : Flow → BitSet
is_sure_now flow s k = every (writes_now s k) flow

abbrev pub may_read : Flow → BitSet
may_read flow s k = some (reads_bit s k) flow

abbrev pub reads_outside : Flow → BitSet
reads_outside flow s k = first (reads_bit s k) (writes_now s k) flow

-- whether these functions decide the path sets of a flow
pub record AreDecided (flow : Flow) (s k : ℕ) : Type 0 where
  pub writes : may_write flow s k ≡ true ↔ MayWrite flow s k
  pub late : may_write_delayed flow s k ≡ true ↔ MayWriteLate flow s k
  pub now : may_write_blocking flow s k ≡ true ↔ MayWriteNow flow s k
  pub sure : is_sure flow s k ≡ true ↔ IsSure flow s k
  pub sure_now : is_sure_now flow s k ≡ true ↔ IsSureNow flow s k
  pub reads : may_read flow s k ≡ true ↔ MayRead flow s k
  pub outside : reads_outside flow s k ≡ true ↔ ReadsOutside flow s k
