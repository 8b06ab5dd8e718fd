-- It serves inner contracts and proofs; no answer of the program is stated by it.
-- What a shelf over files stands on.
use Rattle.std.specs.Prelude.{ℕ}
use Rattle.desk_io.specs.declared.shelf.files.FileShelf.{FileShelf}
use Rattle.desk_io.specs.declared.shelf.opening.SystemFiles.{SystemFiles}

-- how many of its calls have failed
abbrev pub fault_count : {O : Type 0} → FileShelf O → ℕ
fault_count shelf = shelf.faults

-- what opens its files
abbrev pub opener_of : {O : Type 0} → FileShelf O → O
opener_of shelf = shelf.opener

-- the runtime that opens the files of the system
abbrev pub runtime_of : {R : Type 0} → SystemFiles R → R
runtime_of files = files.runtime
