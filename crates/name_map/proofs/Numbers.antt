-- Short names as numbers: they fit, and no two have the same one.
use Rattle.std.proofs.Common.{◌≡◌, ℕ, zero, suc, ◌+◌, ◌*◌, ◌<◌, ◌≤◌, true, List, [], ◌∷◌, length, get_or, drop, refl, ap, ◌∙◌, Fits, w8, length-drop, arith}
use Rattle.std.proofs.Math.Seq.{drop-cons}
use Rattle.std.specs.List.{list_all}
use Rattle.name_map.specs.Packed.{is_byte, is_short, packed}

pub all_bytes : (xs : List ℕ) → ((i : ℕ) → Fits w8 (get_or xs i 0)) → list_all is_byte xs ≡ true
all_bytes [] f = refl
all_bytes (b ∷ bs) f = grind (arith, f 0, all_bytes bs (λ i. f (suc i)))

first_byte : (b : ℕ) (bs : List ℕ) → list_all is_byte (b ∷ bs) ≡ true → b < 256
first_byte b bs h = grind (arith, h)

other_bytes : (b : ℕ) (bs : List ℕ) → list_all is_byte (b ∷ bs) ≡ true → list_all is_byte bs ≡ true
other_bytes b bs h = grind (arith, h)

bytes_left : (n : ℕ) (xs : List ℕ) → list_all is_byte xs ≡ true → list_all is_byte (drop n xs) ≡ true
bytes_left zero xs h = h
bytes_left (suc n) [] h = refl
bytes_left (suc n) (b ∷ bs) h = bytes_left n bs (other_bytes b bs h)

abbrev most : ℕ → ℕ
most zero = 2
most (suc n) = most n * 256

least : (xs : List ℕ) → 1 ≤ packed xs
unfolding packed
least [] = omega arith
least (b ∷ bs) = omega (arith, least bs)

below : (xs : List ℕ) → list_all is_byte xs ≡ true → packed xs < most (length xs)
unfolding packed
below [] h = omega arith
below (b ∷ bs) h = omega (arith, first_byte b bs h, below bs (other_bytes b bs h))

rises : (m n : ℕ) → m ≤ n → most m ≤ most n
rises zero zero h = omega arith
rises zero (suc n) h = omega (arith, rises zero n (omega arith))
rises (suc m) zero h = absurd (omega arith)
rises (suc m) (suc n) h = omega (arith, rises m n (omega arith))

-- the bytes behind the first of a short name
pub fits : (xs : List ℕ) (n : ℕ) → is_short xs ≡ true → 0 < n → n ≤ length xs → packed (drop n xs) < most 14
fits xs n h p w =
    let short : length xs ≤ 15 = grind (arith, h) in
    let bytes : list_all is_byte xs ≡ true = grind (arith, h) in
    let here : packed (drop n xs) < most (length (drop n xs)) = below (drop n xs) (bytes_left n xs bytes) in
    omega (arith, here, rises (length (drop n xs)) 14 (omega (arith, length-drop n xs)))

-- the number with one byte more
pub packed_at : (xs : List ℕ) (n : ℕ) → n < length xs → packed (drop n xs) ≡ packed (drop (suc n) xs) * 256 + get_or xs n 0
unfolding packed
packed_at xs n h = ap packed (drop-cons xs n 0 h)

pub same_packed : (xs ys : List ℕ) → list_all is_byte xs ≡ true → list_all is_byte ys ≡ true → packed xs ≡ packed ys → xs ≡ ys
unfolding packed
same_packed [] [] g h e = refl
same_packed [] (c ∷ cs) g h e = absurd (omega (arith, least cs))
same_packed (b ∷ bs) [] g h e = absurd (omega (arith, least bs))
same_packed (b ∷ bs) (c ∷ cs) g h e =
    let first : b ≡ c = omega (arith, first_byte b bs g, first_byte c cs h) in
    let others : bs ≡ cs = same_packed bs cs (other_bytes b bs g) (other_bytes c cs h) (omega (arith, first_byte b bs g, first_byte c cs h)) in
    ap (λ x. x ∷ bs) first ∙ ap (λ xs. c ∷ xs) others
