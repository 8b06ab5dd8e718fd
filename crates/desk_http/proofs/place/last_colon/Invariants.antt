use Rattle.std.proofs.Common.{◌≡◌, ◌<◌, length, drop}
use Rattle.std.specs.Prelude.{IfSome}
use Rattle.std.specs.Option.{option_or}
use Rattle.desk_http.specs.Places.{last_colon}
use Rattle.desk_http.proofs.place.last_colon.Given as goal

-- the last colon is the last of those that are left, or else the one that was found
abbrev pub invariant-loop-at : goal.invariant-loop-at
invariant-loop-at l = record {
  rest : option_or (last_colon l.at (drop l.at l.text)) l.found ≡ last_colon 0 l.text;
  inside : IfSome l.found (λ at. at < length l.text);
}
