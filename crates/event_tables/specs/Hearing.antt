-- It serves inner contracts and proofs; no answer of the program is stated by it.
-- What processes hear of changes, place by place.
use Rattle.std.specs.Prelude.{ℕ, ◌≡◌, ◌<◌, ◌+◌, ◌==◌, nat_lt, Bool, false, ◌&&◌, ◌||◌, List, ◌∷◌, length, Option, None, Some, Vec}
use Rattle.std.specs.List.{All, slice_get}
use Rattle.std.specs.declared.alloc.Global.{Global}
use Rattle.rtl_bits.specs.declared.Bit.{Bit}
use Rattle.rtl_bits.specs.declared.Edge.{Edge}
use Rattle.rtl_flat.specs.declared.act.ProcId.{ProcId}
use Rattle.rtl_flat.specs.Process.{Doing}
use Rattle.event_model.specs.Queue.{doing_at, listens, hears}
use Rattle.rtl_flat.specs.Flats.{Flat, widths}
use Rattle.event_write.specs.declared.listener.Listener.{Listener}
use Rattle.event_write.specs.Listeners.{AreBelow, heard_by, hears_from}
use Rattle.event_write.specs.QueueState.{row}

-- whether a change of bit k of signal s, from an old value to a new one, is heard
abbrev pub Ear : Type 0
Ear = ℕ → ℕ → Bit → Bit → Bool

-- whether a change among the bits of signal s from place k on is heard
abbrev pub ear_from : Ear → ℕ → ℕ → List Bit → List Bit → Bool
ear_from ear s k (a ∷ old) (b ∷ new) = ear s k a b || ear_from ear s (k + 1) old new
ear_from ear s k _ _ = false

-- what the process with a number is sensitive to, if there is one
abbrev pub listens_of : (ℕ → ℕ) → Option Doing → Ear
listens_of ws None s k old new = false
listens_of ws (Some does) s k old new = listens ws s k old new does

abbrev pub listens_at : Flat → ℕ → Ear
listens_at d p = listens_of (widths d) (doing_at d p)

-- whether the listener at a place has a kind of event and a mask
pub record IsLike (row : List Listener) (at : ℕ) (edge : Edge) (mask : ℕ) : Type 0 where
  pub within : at < length row
  pub one : Listener
  pub there : slice_get row at ≡ Some one
  pub edge_is : one.edge ≡ edge
  pub mask_is : one.mask ≡ mask

-- a process hears bits of a signal by its row, besides what was heard before
pub record Joins (process : ProcId) (edge : Edge) (mask : ℕ) (old new : List Listener) : Type 0 where
  pub inside : (n : ℕ) → process.0 < n → All (λ listener. AreBelow n listener) old → All (λ listener. AreBelow n listener) new
  pub heard : (p : ℕ) (a b : List Bit) → heard_by new p a b ≡ (heard_by old p a b || ((process.0 == p) && hears_from edge mask 0 a b))

-- a process hears in tables what it is sensitive to, besides what was heard before
pub record Hears (process : ℕ) (ear : Ear) (old new : List (Vec Listener Global)) : Type 0 where
  pub same_length : length new ≡ length old
  pub inside : (n i : ℕ) → process < n → All (λ listener. AreBelow n listener) (row old i) → All (λ listener. AreBelow n listener) (row new i)
  pub heard : (i p : ℕ) (a b : List Bit) → i < length old → heard_by (row new i) p a b ≡ (heard_by (row old i) p a b || ((process == p) && ear_from ear i 0 a b))

-- the processes below a number hear in tables what they are sensitive to
pub record AreHeard (d : Flat) (n : ℕ) (listeners : List (Vec Listener Global)) : Type 0 where
  pub same_length : length listeners ≡ length d.signals
  pub inside : (i : ℕ) → All (λ listener. AreBelow (length d.tasks) listener) (row listeners i)
  pub heard : (i p : ℕ) (a b : List Bit) → i < length d.signals → heard_by (row listeners i) p a b ≡ (nat_lt p n && hears (widths d) i a b (doing_at d p))
