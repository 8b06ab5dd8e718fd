-- What the length of a file says of its reading.
use Rattle.std.proofs.Common.{◌≡◌, ◌≤◌, ◌<◌, ◌+◌, ◌∙◌, inl, inr, ℕ, List, [], ◌++◌, length, take, replicate, Option, Some, None, Result, Ok, Err, Vec, IfOk, IfSome, option_map, vec_len, arith, ap, subst, sym, refl}
use Rattle.std.proofs.lemmas.Bool.{cases_lt}
use Rattle.std.proofs.lemmas.Bool.Decides.{nat_tests}
use Rattle.std.proofs.lemmas.List.{length-replicate, length-take-le, take_all}
use Rattle.std.specs.declared.alloc.Global.{Global}
use Rattle.desk_io.specs.declared.shelf.ShelfFault.{ShelfFault}
use Rattle.desk_io.specs.declared.shelf.ShelfFault.TheVariants.{Failed, NoSuchFile, TooLong, Memory}
use Rattle.desk_io.specs.Limits.{MAX_FILE_BYTES}
use Rattle.desk_io.specs.Shelf.{IsReading, reading}

-- a file that is not too long is read whole
pub reading-short : (bytes : List ℕ) → length bytes ≤ MAX_FILE_BYTES → reading (Some bytes) ≡ Ok bytes
reading-short bytes short = grind (arith, nat_tests)

-- a longer file is refused
pub reading-long : (bytes : List ℕ) → MAX_FILE_BYTES < length bytes → reading (Some bytes) ≡ Err TooLong
reading-long bytes long = grind (arith, nat_tests)

-- a file of this length is refused
pub too_long : (n : ℕ) → MAX_FILE_BYTES < n → (file : Option (List ℕ)) × (reading file ≡ Err TooLong)
too_long n long =
    let zeros : List ℕ = replicate n 0 in
    (Some zeros, reading-long zeros (subst (λ (k : ℕ). MAX_FILE_BYTES < k) (sym (length-replicate n 0)) long))

-- each answer of a shelf is the reading of some file, or says nothing of one
pub some_reading : (answer : Result (Vec ℕ Global) ShelfFault) → IfOk answer (λ bytes. vec_len bytes ≤ MAX_FILE_BYTES) → (file : Option (List ℕ)) × IsReading (reading file) answer
some_reading (Ok bytes) short = (Some bytes.items, reading-short bytes.items (subst (λ (n : ℕ). n ≤ MAX_FILE_BYTES) bytes.ok.0 short))
some_reading (Err NoSuchFile) short = (None, refl)
some_reading (Err TooLong) short = too_long (MAX_FILE_BYTES + 1) (omega arith)
some_reading (Err Failed) short = (None, tt)
some_reading (Err Memory) short = (None, tt)

-- one byte above the longest file is enough to read a file
pub reading-take : (n : ℕ) (bytes : List ℕ) → n ≡ MAX_FILE_BYTES + 1 → reading (Some (take n bytes)) ≡ reading (Some bytes)
reading-take n bytes above =
    elim (cases_lt MAX_FILE_BYTES (length bytes)) [
      | inr short ↦ ap (λ xs. reading (Some xs)) (take_all n bytes (omega arith))
      | inl long ↦
          let front : length (take n bytes) ≡ n = length-take-le n bytes (omega arith) in
          reading-long (take n bytes) (omega arith) ∙ sym (reading-long bytes long)
    ]

-- the bytes up to one above the longest file, which a reader cut there gives, have the reading of all that it had
pub reading-front : (n : ℕ) (cut whole : Option (List ℕ)) (start bytes : List ℕ) (answer : Result (Vec ℕ Global) ShelfFault) → n ≡ MAX_FILE_BYTES + 1 → cut ≡ whole → start ≡ [] → IfSome (option_map (take n) cut) (λ left. bytes ≡ start ++ left) → IsReading (reading (Some bytes)) answer → IfSome whole (λ left. IsReading (reading (Some left)) answer)
reading-front n cut None start bytes answer above same empty read holds = tt
reading-front n None (Some left) start bytes answer above same empty read holds = absurd (cc)
reading-front n (Some front) (Some left) start bytes answer above same empty read holds =
    let whole : front ≡ left = cc in
    let exact : bytes ≡ take n left = read ∙ (ap (λ xs. xs ++ take n front) empty ∙ ap (take n) whole) in
    subst (λ wanted. IsReading wanted answer) (ap (λ xs. reading (Some xs)) exact ∙ reading-take n left above) holds
