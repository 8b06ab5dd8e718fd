-- The laws of values at rest, as they are stated.
use Rattle.std.proofs.Common.{ℕ}
use Rattle.rtl_flat.specs.Flats.{Flat}
use Rattle.net_rest.specs.Laws.{AreAlone, AreKnownAtRest, AreSolved, LevelsAscend, SolutionsRest}
use Rattle.net_rest.specs.Rest.{IsSolvable}
use Rattle.net_rest.proofs.Levels as levels
use Rattle.net_rest.proofs.Rest as rest

pub known_at_rest : (d : Flat) (level : ℕ → ℕ) → IsSolvable d level → AreKnownAtRest d
known_at_rest d level solvable f given v are idle = rest.known_at_rest d level solvable given v are idle f

pub solved : (d : Flat) (level : ℕ → ℕ) → IsSolvable d level → AreSolved d
solved d level solvable f held given v held_are holds are idle =
    rest.solved d level solvable given v are idle f held held_are holds

pub alone : (d : Flat) (level : ℕ → ℕ) → IsSolvable d level → AreAlone d
alone d level solvable f g held held' given given' n m are are' holds holds' alike one other =
    rest.alone d level solvable f g held held' given given' n m are are' holds holds' alike one other

pub solutions_rest : (d : Flat) (level : ℕ → ℕ) → IsSolvable d level → SolutionsRest d
solutions_rest d level solvable f held given n are holds solution =
    rest.solution_rests d level solvable f held given n are solution holds

pub levels_ascend : (d : Flat) → LevelsAscend d
levels_ascend d = levels.levels_ascend d
