-- What counts towards the bound of a step with data beside it: events, and not what the bench gives.
use Rattle.std.specs.Prelude.{ℕ, List, [], ◌∷◌}
use Rattle.std.proofs.Common.{◌≡◌, refl}
use Rattle.rtl_bits.specs.declared.Bit.{Bit}
use Rattle.event_model.specs.Queue.{Event}
use Rattle.sign_cycles.specs.event_edges.Moves.{Give, Move, Take, gifts}
use Rattle.check_clean.specs.Benches.{events_among}

two_events : (first second : Event) (given : List (ℕ × List Bit)) → events_among (Take first ∷ Give given ∷ Take second ∷ []) ≡ 2
two_events first second given = refl

one_gift : (event : Event) (input : ℕ) (bits : List Bit) → gifts (Take event ∷ Give ((input, bits) ∷ []) ∷ []) ≡ (input, bits) ∷ []
one_gift event input bits = refl
