-- It serves inner contracts and proofs; no answer of the program is stated by it.
-- Which processes hear a change of a signal.
use Rattle.std.specs.Prelude.{ℕ, ◌+◌, ◌==◌, ◌<◌, Bool, false, ◌&&◌, ◌||◌, List, [], ◌∷◌}
use Rattle.std.specs.List.{All}
use Rattle.rtl_bits.specs.declared.Bit.{Bit}
use Rattle.rtl_bits.specs.declared.Edge.{Edge}
use Rattle.rtl_bits.specs.Bits.{is_one_at}
use Rattle.rtl_flat.specs.declared.act.ProcId.{ProcId}
use Rattle.event_model.specs.Queue.{happens}
use Rattle.event_write.specs.declared.listener.Listener.{Listener}

-- whether there is an event of a kind at a bit of a mask, among the bits from place k on
abbrev pub hears_from : Edge → ℕ → ℕ → List Bit → List Bit → Bool
hears_from edge mask k (a ∷ old) (b ∷ new) =
    (is_one_at mask k && happens edge a b) || hears_from edge mask (k + 1) old new
hears_from edge mask k _ _ = false

-- whether a number is that of one of some processes
abbrev pub is_among : List ProcId → ℕ → Bool
is_among [] p = false
is_among (q ∷ qs) p = (q.0 == p) || is_among qs p

-- whether some listener with a process hears it
abbrev pub heard_by : List Listener → ℕ → List Bit → List Bit → Bool
heard_by [] p old new = false
heard_by (l ∷ ls) p old new =
    (is_among l.processes.items p && hears_from l.edge l.mask 0 old new) || heard_by ls p old new

-- whether the processes of a listener are below a number
abbrev pub AreBelow : ℕ → Listener → Type 0
AreBelow n l = All (λ process. process.0 < n) l.processes.items
