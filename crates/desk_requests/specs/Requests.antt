-- What requests do, and how users call them.
-- Worked examples: crates/desk_requests/proofs/Example.antt.
use Rattle.std.specs.Prelude.{ℕ, Bool, true, false, List, [], Option, Some, None}
use Rattle.desk_requests.specs.declared.ask.Ask.{Ask}
use Rattle.desk_requests.specs.declared.ask.Ask.TheVariants.{PutFile, GetFile, FileText, Files, DropFile, Ruling, Reach, SignOff, SignOffs, Waive, Waivers, Revoke}

-- the tables change where it is accepted
abbrev pub changes : Ask → Bool
changes (PutFile name text) = true
changes (GetFile name) = false
changes (FileText name) = false
changes Files = false
changes (DropFile name) = true
changes (Ruling top) = false
changes (Reach top) = false
changes (SignOff top) = true
changes SignOffs = false
changes (Waive ask) = true
changes Waivers = false
changes (Revoke id) = true

-- what the user calls the request; empty where that isn't told
abbrev pub label_of : Option (List ℕ) → List ℕ
label_of None = []
label_of (Some label) = label
