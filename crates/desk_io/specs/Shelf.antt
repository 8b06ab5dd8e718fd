-- Files by name, and what a shelf answers where one of them is read.
-- Worked examples: crates/tests_parts/stdin.
use Rattle.std.specs.Prelude.{◌≡◌, ℕ, List, length, nat_le, bytes_eq, if◌then◌else◌, ⊤, Some, None, Ok, Err, Vec, Option, Result, IfSome}
use Rattle.std.specs.declared.alloc.Global.{Global}
use Rattle.desk_io.specs.Limits.{MAX_FILE_BYTES}
use Rattle.desk_io.specs.declared.shelf.ShelfFault.{ShelfFault}
use Rattle.desk_io.specs.declared.shelf.ShelfFault.TheVariants.{Failed, NoSuchFile, TooLong, Memory}

-- a map from names to the bytes of the files that have them
abbrev pub Files : Type 0
Files = List ℕ → Option (List ℕ)

-- no file at all
abbrev pub no_files : Files
no_files name = None

-- the files, with these bytes as the one file of this name
abbrev pub with_file : Files → List ℕ → List ℕ → Files
with_file files name bytes wanted = if bytes_eq name wanted then Some bytes else files wanted

-- what reading a file gives: all its bytes, unless there is no such file or it is longer than a file may be
abbrev pub reading : Option (List ℕ) → Result (List ℕ) ShelfFault
reading None = Err NoSuchFile
reading (Some bytes) = if nat_le (length bytes) MAX_FILE_BYTES then Ok bytes else Err TooLong

-- the answer is this reading, or the call failed or found no memory
abbrev pub IsReading : Result (List ℕ) ShelfFault → Result (Vec ℕ Global) ShelfFault → Type 0
IsReading wanted (Ok bytes) = wanted ≡ Ok bytes.items
IsReading wanted (Err NoSuchFile) = wanted ≡ Err NoSuchFile
IsReading wanted (Err TooLong) = wanted ≡ Err TooLong
IsReading wanted (Err Failed) = ⊤
IsReading wanted (Err Memory) = ⊤

-- a fault that may come whatever the file is
abbrev pub IsFreeFault : ShelfFault → Type 0
IsFreeFault Failed = ⊤
IsFreeFault Memory = ⊤
IsFreeFault NoSuchFile = ⊥
IsFreeFault TooLong = ⊥

-- the count of faults stays where the call didn't fail; a shelf that tells nothing may count a missing file too
abbrev pub IsCalm : Option Files → Result (Vec ℕ Global) ShelfFault → ℕ → ℕ → Type 0
IsCalm files (Ok bytes) before now = now ≡ before
IsCalm files (Err Failed) before now = ⊤
IsCalm files (Err NoSuchFile) before now = IfSome files (λ held. now ≡ before)
IsCalm files (Err TooLong) before now = now ≡ before
IsCalm files (Err Memory) before now = now ≡ before
