-- What nonblocking updates make of a bit (IEEE 1364-2001 section 5.6.4).
use Rattle.std.specs.Prelude.{ℕ, ◌-◌, if◌then◌else◌, List, [], ◌∷◌}
use Rattle.std.specs.List.{slice_index_or}
use Rattle.rtl_bits.specs.declared.Bit.{Bit}
use Rattle.rtl_bits.specs.declared.Bit.TheVariants.{X}
use Rattle.event_model.specs.Queue.{State}
use Rattle.event_model.specs.Traces.{covers}
use Rattle.event_model.specs.Writes.{Write}
use Rattle.net_model.specs.Numbers.{bit}

-- bit k of signal i after a write, where it was `b`
abbrev pub write_bit : ℕ → ℕ → Bit → Write → Bit
write_bit i k b w = if covers i k w then slice_index_or w.bits (k - w.at) X else b

-- after the writes of an update
abbrev pub update_bit : ℕ → ℕ → List Write → Bit → Bit
update_bit i k [] b = b
update_bit i k (w ∷ us) b = update_bit i k us (write_bit i k b w)

-- after updates in their order
abbrev pub updates_bit : ℕ → ℕ → List (List Write) → Bit → Bit
updates_bit i k [] b = b
updates_bit i k (us ∷ others) b = updates_bit i k others (update_bit i k us b)

-- what the bit comes to by all updates that are still to be made
abbrev pub due_bit : State → ℕ → ℕ → Bit
due_bit s i k = updates_bit i k s.delayed (updates_bit i k s.activated (bit s.value i k))
