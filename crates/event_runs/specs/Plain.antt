-- Blocks without edges whose variables follow from what they list.
use Rattle.std.specs.Prelude.{◌≡◌, ℕ, Bool, true, false, ◌||◌, List, [], ◌∷◌, Option, Some}
use Rattle.rtl_flat.specs.Flows.{body_flow}
use Rattle.rtl_flat.specs.Paths.{MayWrite, MayWriteLate, ReadsOutside}
use Rattle.rtl_flat.specs.PathSets.{listed}
use Rattle.rtl_flat.specs.Process.{Actions, Watched, Comb}
use Rattle.event_model.specs.Queue.{State, Event, doing_at}
use Rattle.rtl_flat.specs.Flats.{Flat, widths}
use Rattle.event_model.specs.Traces.{FollowsPath, Same}
use Rattle.event_model.specs.Writes.{Values}
use Rattle.event_laws.specs.Laws.{after_body}
use Rattle.net_model.specs.Solution.{IsLasting}
use Rattle.event_runs.specs.Effects.{runs}
use Rattle.event_runs.specs.Writers.{IsSole}

-- a block without edges that computes its variables from what it lists, alone and by blocking assignments
pub record IsPlain (d : Flat) (p : ℕ) (list : Option (List Watched)) (body : Actions) : Type 0 where
  -- it lists each bit that it reads outside
  pub lists :
      (i k : ℕ) → ReadsOutside (body_flow (widths d) body) i k →
      listed (widths d) (Comb list body) i k ≡ true
  -- no assignment is nonblocking
  pub no_late : (i k : ℕ) → MayWriteLate (body_flow (widths d) body) i k → ⊥
  -- it reads outside nothing that it may write
  pub apart :
      (i k : ℕ) → ReadsOutside (body_flow (widths d) body) i k →
      MayWrite (body_flow (widths d) body) i k → ⊥
  -- no other process may write what it may
  pub alone : (i k : ℕ) → MayWrite (body_flow (widths d) body) i k → IsSole d p i k

-- whether a body, run now, leaves each bit as it is that is no temporary's
abbrev pub IsConsistent : Flat → Values → Actions → Type 0
IsConsistent d v body = (i k : ℕ) → IsLasting d i → Same (after_body d v body) v i k

-- which processes have run, after an event
abbrev pub ran_by : (ℕ → Bool) → Event → ℕ → Bool
ran_by ran event p = ran p || runs event p

-- which have run after events
abbrev pub ran_after : (ℕ → Bool) → List Event → ℕ → Bool
ran_after ran [] = ran
ran_after ran (event ∷ events) = ran_after (ran_by ran event) events

-- a plain block that waits, has run and would take a path is consistent
abbrev pub AreStill : Flat → (ℕ → Bool) → State → Type 0
AreStill d ran s =
    (p : ℕ) (list : Option (List Watched)) (body : Actions) →
    doing_at d p ≡ Some (Comb list body) → IsPlain d p list body →
    s.woken p ≡ false → ran p ≡ true → FollowsPath (widths d) s.value body →
    IsConsistent d s.value body

-- a block without edges that waits and hasn't run finds what it lists as it was first
abbrev pub AreUnheard : Flat → (ℕ → Bool) → Values → State → Type 0
AreUnheard d ran first s =
    (p : ℕ) (list : Option (List Watched)) (body : Actions) →
    doing_at d p ≡ Some (Comb list body) →
    s.woken p ≡ false → ran p ≡ false →
    (i k : ℕ) → listed (widths d) (Comb list body) i k ≡ true → Same s.value first i k
