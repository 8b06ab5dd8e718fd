-- Which bits an event may write, and which a nonblocking update may.
use Rattle.std.specs.Prelude.{◌≡◌, ℕ, Bool, true, List}
use Rattle.std.specs.List.{list_any}
use Rattle.rtl_flat.specs.Paths.{MayWrite, MayWriteLate, MayWriteNow}
use Rattle.rtl_flat.specs.PathSets.{OfProcess}
use Rattle.event_model.specs.Queue.{State, Event, Input, Evaluate, Update, Run, Delayed, Activate}
use Rattle.rtl_flat.specs.Flats.{Flat}
use Rattle.event_model.specs.Traces.{covers}
use Rattle.event_model.specs.Writes.{Write}
use Rattle.event_laws.specs.Steady.{IsSteady}

-- a bit that some process may write by a nonblocking assignment
pub record IsLateBit (d : Flat) (i k : ℕ) : Type 0 where
  pub process : ℕ
  pub may : OfProcess MayWriteLate d.signals d.tasks process i k

-- whether some update is over a bit
abbrev pub are_over : ℕ → ℕ → List (List Write) → Bool
are_over i k updates = list_any (list_any (covers i k)) updates

-- each bit of an update that is still to be made is one that a process may write so
pub record AreLate (d : Flat) (s : State) : Type 0 where
  pub activated : (i k : ℕ) → are_over i k s.activated ≡ true → IsLateBit d i k
  pub delayed : (i k : ℕ) → are_over i k s.delayed ≡ true → IsLateBit d i k

-- a state as runs of a lawful design have it
pub record IsOrderly (d : Flat) (s : State) : Type 0 where
  pub steady : IsSteady d s
  pub late : AreLate d s

-- whether an event may write a bit
abbrev pub CanWrite : Flat → Event → ℕ → ℕ → Type 0
CanWrite d (Input j) i k = i ≡ j
CanWrite d (Evaluate p) i k = ⊥
CanWrite d (Update p) i k = OfProcess MayWrite d.signals d.tasks p i k
CanWrite d (Run p) i k = OfProcess MayWriteNow d.signals d.tasks p i k
CanWrite d Delayed i k = IsLateBit d i k
CanWrite d Activate i k = ⊥

-- whether no other process may write a bit
abbrev pub IsSole : Flat → ℕ → ℕ → ℕ → Type 0
IsSole d p i k =
    (q : ℕ) → (q ≡ p → ⊥) → OfProcess MayWrite d.signals d.tasks q i k → ⊥
