-- The words of the command line.
-- Worked examples: tools/test.
use Rattle.std.specs.Prelude.{ℕ, ◌==◌, nat_le, List, [], ◌∷◌, length, Option, None, Some, Bool, true, false, not, ◌&&◌, if◌then◌else◌, map, codes, String, string_bytes, bytes_eq}
use Rattle.std.specs.List.{list_all, list_any}
use Rattle.std.specs.declared.alloc.Global.{Global}
use Rattle.desk_numbers.specs.Numbers.{is_positive, number_of}

-- a command: `sign TOP FILE..`, `simulate TOP STEPS FILE..`, `replay TOP DEMO FILE..`, `vcd TOP SCOPE DUMP FILE..`, or
-- `generate N`
pub data Order : Type 0 where
  Sign : (top : List ℕ) (files : List (List ℕ)) → Order
  Simulate : (top steps : List ℕ) (files : List (List ℕ)) → Order
  Replay : (top demo : List ℕ) (files : List (List ℕ)) → Order
  Vcd : (top scope dump : List ℕ) (files : List (List ℕ)) → Order
  Generate : (stages : ℕ) → Order

-- the words as lists of bytes
abbrev pub texts : List (String Global) → List (List ℕ)
texts words = map string_bytes words

-- the names of modules, scopes and files aren't empty, and don't begin with a dash
abbrev pub is_name : List ℕ → Bool
is_name [] = false
is_name (first ∷ rest) = not (first == 45)

-- no word is there twice
abbrev pub all_different : List (List ℕ) → Bool
all_different [] = true
all_different (word ∷ others) = not (list_any (bytes_eq word) others) && all_different others

-- a list of files has 1 to 64 names, all different
abbrev pub are_files : List (List ℕ) → Bool
are_files files =
    (nat_le 1 (length files) && nat_le (length files) 64) && (list_all is_name files && all_different files)

abbrev pub sign_order : List (List ℕ) → Option Order
sign_order [] = None
sign_order (top ∷ files) = if is_name top && are_files files then Some (Sign top files) else None

-- a top, a file that is read ahead, and files; as what this makes of them
abbrev pub ahead_order : (List ℕ → List ℕ → List (List ℕ) → Order) → List (List ℕ) → Option Order
ahead_order made [] = None
ahead_order made (top ∷ []) = None
ahead_order made (top ∷ ahead ∷ files) =
    if is_name top && (is_name ahead && are_files files) then Some (made top ahead files) else None

-- a top, the scope of it in a dump, the dump, and files
abbrev pub vcd_order : List (List ℕ) → Option Order
vcd_order [] = None
vcd_order (top ∷ []) = None
vcd_order (top ∷ scope ∷ []) = None
vcd_order (top ∷ scope ∷ dump ∷ files) =
    if is_name top && (is_name scope && (is_name dump && are_files files)) then Some (Vcd top scope dump files) else None

-- a number from 1 to 1000, without leading zeros
abbrev pub is_stages : List ℕ → Bool
is_stages word = is_positive word && nat_le (number_of word) 1000

abbrev pub stages_order : List ℕ → Option Order
stages_order word = if is_stages word then Some (Generate (number_of word)) else None

abbrev pub generate_order : List (List ℕ) → Option Order
generate_order [] = None
generate_order (stages ∷ []) = stages_order stages
generate_order (stages ∷ more ∷ others) = None

-- the command that the words are, if they are one
abbrev pub order : List (List ℕ) → Option Order
order [] = None
order (name ∷ rest) =
    if bytes_eq name (codes "sign") then sign_order rest
    else if bytes_eq name (codes "simulate") then ahead_order Simulate rest
    else if bytes_eq name (codes "replay") then ahead_order Replay rest
    else if bytes_eq name (codes "vcd") then vcd_order rest
    else if bytes_eq name (codes "generate") then generate_order rest
    else None

-- whether a command asks for a simulation
abbrev pub is_simulate : Option Order → Bool
is_simulate None = false
is_simulate (Some (Sign top files)) = false
is_simulate (Some (Simulate top steps files)) = true
is_simulate (Some (Replay top demo files)) = false
is_simulate (Some (Vcd top scope dump files)) = false
is_simulate (Some (Generate stages)) = false

-- whether a command asks for a ruling
abbrev pub is_sign : Option Order → Bool
is_sign None = false
is_sign (Some (Sign top files)) = true
is_sign (Some (Simulate top steps files)) = false
is_sign (Some (Replay top demo files)) = false
is_sign (Some (Vcd top scope dump files)) = false
is_sign (Some (Generate stages)) = false
