-- It serves inner contracts and proofs; no answer of the program is stated by it.
-- A span as definitions have it.
use Rattle.std.specs.Prelude.{ℕ}
use Rattle.event_model.specs.Writes as model
use Rattle.net_number.specs.declared.spans.Span.{Span}

abbrev pub span : Span → model.Span
span bits = record { at = bits.at; count = bits.count }

-- one bit, at a place
abbrev pub bit_span : ℕ → model.Span
bit_span k = record { at = k; count = 1 }
