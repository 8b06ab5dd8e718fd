use Rattle.std.proofs.Common.{◌≡◌, ◌∷◌, [], ◌++◌, take}
use Rattle.json.specs.Print.{escape}
use Rattle.desk_json.proofs.strings.push_quoted.Given as goal

abbrev pub invariant-loop-byte : goal.invariant-loop-byte
invariant-loop-byte l =
    l.out.items ≡ (l.fn.out.items ++ 34 ∷ []) ++ escape (take l.byte-index l.text)
