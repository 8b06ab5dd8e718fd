-- The longest front of a text whose bytes pass a test.
use Rattle.std.proofs.Common.{◌≡◌, ℕ, suc, ◌+◌, ◌≤◌, Bool, true, false, cond, List, [], ◌∷◌, ◌++◌, length, take, drop, refl, ap, arith}
use Rattle.std.proofs.lemmas.Grind.{common_steps}
use Rattle.std.specs.List.{prefix_len}
use Rattle.rtl_tree.specs.Lexemes.{Each, Stops}

pub take_front : (xs rest : List ℕ) → take (length xs) (xs ++ rest) ≡ xs
take_front [] rest = refl
take_front (x ∷ xs) rest = ap (λ ys. x ∷ ys) (take_front xs rest)

pub drop_front : (xs rest : List ℕ) → drop (length xs) (xs ++ rest) ≡ rest
drop_front [] rest = refl
drop_front (x ∷ xs) rest = drop_front xs rest

pub one_more : (n : ℕ) → 1 + n ≡ suc n
one_more n = omega arith

pub take_more : (n b : ℕ) (bs : List ℕ) → take (1 + n) (b ∷ bs) ≡ b ∷ take n bs
take_more n b bs = ap (λ k. take k (b ∷ bs)) (one_more n)

pub drop_more : (n b : ℕ) (bs : List ℕ) → drop (1 + n) (b ∷ bs) ≡ drop n bs
drop_more n b bs = ap (λ k. drop k (b ∷ bs)) (one_more n)

each_more : (p : ℕ → Bool) (o : Bool) (b : ℕ) (bs : List ℕ) → p b ≡ o → Each p (take (prefix_len p bs) bs) → Each p (take (cond o (1 + prefix_len p bs) 0) (b ∷ bs))
each_more p false b bs e h = tt
each_more p true b bs e h = rw one_more (e, h)

pub each_prefix : (p : ℕ → Bool) (text : List ℕ) → Each p (take (prefix_len p text) text)
each_prefix p [] = tt
each_prefix p (b ∷ bs) = each_more p (p b) b bs refl (each_prefix p bs)

stops_more : (p : ℕ → Bool) (o : Bool) (b : ℕ) (bs : List ℕ) → p b ≡ o → Stops p (drop (prefix_len p bs) bs) → Stops p (drop (cond o (1 + prefix_len p bs) 0) (b ∷ bs))
stops_more p false b bs e h = e
stops_more p true b bs e h = rw one_more h

pub stops_prefix : (p : ℕ → Bool) (text : List ℕ) → Stops p (drop (prefix_len p text) text)
stops_prefix p [] = tt
stops_prefix p (b ∷ bs) = stops_more p (p b) b bs refl (stops_prefix p bs)

no_prefix : (p : ℕ → Bool) (rest : List ℕ) → Stops p rest → prefix_len p rest ≡ 0
no_prefix p [] s = refl
no_prefix p (b ∷ bs) s = rw s refl

pub prefix_exact : (p : ℕ → Bool) (xs rest : List ℕ) → Each p xs → Stops p rest → prefix_len p (xs ++ rest) ≡ length xs
prefix_exact p [] rest h s = no_prefix p rest s
prefix_exact p (x ∷ xs) rest h s = rw (h.0, prefix_exact p xs rest h.1 s) (one_more (length xs))

pub prefix_least : (p : ℕ → Bool) (xs rest : List ℕ) → Each p xs → length xs ≤ prefix_len p (xs ++ rest)
prefix_least p [] rest h = omega arith
prefix_least p (x ∷ xs) rest h = let k = prefix_least p xs rest h.1 in rw h.0 (omega (arith, k))

pub take_all : (xs : List ℕ) (n : ℕ) → length xs ≤ n → take n xs ≡ xs
take_all xs n h = grind (arith, common_steps)

pub prefix_all : (p : ℕ → Bool) (xs : List ℕ) → Each p xs → length xs ≤ prefix_len p xs
prefix_all p [] h = omega arith
prefix_all p (x ∷ xs) h = let k = prefix_all p xs h.1 in rw h.0 (omega (arith, k))
