-- What moves out of a list, and what moves in.
use Rattle.std.proofs.Common.{◌≡◌, ℕ, ◌+◌, ◌-◌, ◌≤◌, List, ◌++◌, length, take, drop, replicate, ap, ◌∙◌, arith}
use Rattle.std.proofs.lemmas.List.{take-append-le, take-replicate, drop_all, length-replicate}
use Rattle.std.proofs.Math.Seq.{take-append-add}
use Rattle.rtl_bits.specs.declared.Bit.{Bit}

pub all_out_left : (n : ℕ) (b : Bit) (xs : List Bit) → length xs ≤ n → take (length xs) (replicate n b ++ xs) ≡ replicate (length xs) b
all_out_left n b xs h =
    let long : length xs ≤ length (replicate n b) = rw length-replicate h in
    take-append-le (length xs) (replicate n b) xs long ∙ take-replicate (length xs) n b h

pub all_out_right : (n : ℕ) (b : Bit) (xs : List Bit) → length xs ≤ n → take (length xs) (drop n xs ++ replicate n b) ≡ replicate (length xs) b
all_out_right n b xs h = rw (drop_all n xs h) (take-replicate (length xs) n b h)

pub some_out_left : (n : ℕ) (b : Bit) (xs : List Bit) → n ≤ length xs → take (length xs) (replicate n b ++ xs) ≡ replicate n b ++ take (length xs - n) xs
some_out_left n b xs h =
    let split : length xs ≡ length (replicate n b) + (length xs - n) = rw length-replicate (omega arith) in
    ap (λ k. take k (replicate n b ++ xs)) split ∙ take-append-add (replicate n b) xs (length xs - n)

pub ruleset shifts = (all_out_left, all_out_right, some_out_left)
