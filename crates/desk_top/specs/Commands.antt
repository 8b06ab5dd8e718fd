-- It serves inner contracts and proofs; no answer of the program is stated by it.
-- What the code's commands mean.
use Rattle.std.specs.Prelude.{◌≡◌, ◌≤◌, true}
use Rattle.desk_top.specs.declared.words.Command.{Command}
use Rattle.desk_top.specs.declared.words.Command.TheVariants as code
use Rattle.desk_top.specs.Words.{Order, Sign, Simulate, Replay, Vcd, Generate, are_files, texts}

abbrev pub order_of : Command → Order
order_of (code.Sign top files) = Sign top.now (texts files.now)
order_of (code.Simulate top steps files) = Simulate top.now steps.now (texts files.now)
order_of (code.Replay top demo files) = Replay top.now demo.now (texts files.now)
order_of (code.Vcd top scope dump files) = Vcd top.now scope.now dump.now (texts files.now)
order_of (code.Generate stages) = Generate stages

-- the files of a command are a list of files, and its stages are no more than there can be
abbrev pub IsWithin : Order → Type 0
IsWithin (Sign top files) = are_files files ≡ true
IsWithin (Simulate top steps files) = are_files files ≡ true
IsWithin (Replay top demo files) = are_files files ≡ true
IsWithin (Vcd top scope dump files) = are_files files ≡ true
IsWithin (Generate stages) = stages ≤ 1000
