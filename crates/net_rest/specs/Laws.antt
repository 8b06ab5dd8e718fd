-- What values at rest are.
use Rattle.std.specs.Prelude.{ℕ, ◌<◌, Option, IsSome, unwrap_or}
use Rattle.rtl_flat.specs.Levels.{IsArrow, IsLevel, IsNode}
use Rattle.rtl_flat.specs.Flats.{Flat}
use Rattle.event_model.specs.Writes.{Values}
use Rattle.net_model.specs.declared.fill.Fill.{Fill}
use Rattle.net_model.specs.Numbers.{AreNumbers}
use Rattle.net_model.specs.Solution.{IsSolution}
use Rattle.net_rest.specs.Rest.{AreAlike, AreGiven, AreGivenAlike, AreHeld, IsIdle, numbers_of}

-- values at rest are known: their numbers are the same
abbrev pub AreKnownAtRest : Flat → Type 0
AreKnownAtRest d =
    (f : Fill) (given v : Values) → AreGiven d given → IsIdle d given v → AreAlike d v (numbers_of d f v)

-- and solve the equations, where closed latches had what they are given
abbrev pub AreSolved : Flat → Type 0
AreSolved d =
    (f : Fill) (held given v : Values) →
    AreNumbers d held → AreHeld d held given → AreGiven d given → IsIdle d given v →
    IsSolution d f held given (numbers_of d f v)

-- two solutions that are given alike are alike, whatever the fills and whatever open latches had
abbrev pub AreAlone : Flat → Type 0
AreAlone d =
    (f g : Fill) (held held' given given' n m : Values) →
    AreNumbers d held → AreNumbers d held' → AreHeld d held given → AreHeld d held' given' →
    AreGivenAlike d given given' →
    IsSolution d f held given n → IsSolution d g held' given' m → AreAlike d n m

-- values that are the same as a solution in each bit that lasts are at rest
abbrev pub SolutionsRest : Flat → Type 0
SolutionsRest d =
    (f : Fill) (held given n : Values) →
    AreNumbers d held → AreHeld d held given → IsSolution d f held given n → IsIdle d given n

-- where each process without edges has a level, levels order processes
abbrev pub LevelsAscend : Flat → Type 0
LevelsAscend d =
    (level : ℕ → Option ℕ) →
    ((p : ℕ) → IsLevel d.signals d.tasks p (level p)) → ((p : ℕ) → IsNode d.tasks p → IsSome (level p)) →
    (p q : ℕ) → IsArrow d.signals d.tasks p q → unwrap_or (level p) 0 < unwrap_or (level q) 0
