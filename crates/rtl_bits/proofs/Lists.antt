-- Lists by place.
use Rattle.std.proofs.Common.{◌≡◌, ℕ, zero, suc, ◌<◌, ◌∷◌, map, replicate, get_or, refl, ap, arith, ◌≤◌, ◌∙◌, ◌+◌, take, drop, ◌++◌, ◌-◌, sym, length, ◌*◌, List}
use Rattle.rtl_bits.specs.declared.Bit.{Bit}
use Rattle.rtl_bits.specs.Bits.{tabulate, zip_with, copies}
use Rattle.std.proofs.lemmas.List.{length-append}

-- two tables that agree below n are the same list
pub tabulate-congr : {A : Type 0} → (n : ℕ) (f g : ℕ → A) → ((i : ℕ) → i < n → f i ≡ g i) → tabulate n f ≡ tabulate n g
tabulate-congr zero f g h = refl
tabulate-congr (suc n) f g h =
    let first : f 0 ≡ g 0 = h 0 (omega arith) in
    let rest : tabulate n (λ i. f (suc i)) ≡ tabulate n (λ i. g (suc i))
    = tabulate-congr n (λ i. f (suc i)) (λ i. g (suc i)) (λ i below. h (suc i) (omega arith)) in
    rw (first, rest)

pub get_or-tabulate : {A : Type 0} → (n : ℕ) (f : ℕ → A) (i : ℕ) (d : A) → i < n → get_or (tabulate n f) i d ≡ f i
get_or-tabulate zero f i d h = absurd (omega arith)
get_or-tabulate (suc n) f zero d h = refl
get_or-tabulate (suc n) f (suc i) d h = get_or-tabulate n (λ i. f (suc i)) i d (omega arith)

pub zip_with-tabulate : (g : Bit → Bit → Bit) (n : ℕ) (f h : ℕ → Bit) → zip_with g (tabulate n f) (tabulate n h) ≡ tabulate n (λ i. g (f i) (h i))
zip_with-tabulate g zero f h = refl
zip_with-tabulate g (suc n) f h = ap (λ t. g (f 0) (h 0) ∷ t) (zip_with-tabulate g n (λ i. f (suc i)) (λ i. h (suc i)))

pub map-tabulate : {A B : Type 0} (g : A → B) (n : ℕ) (f : ℕ → A) → map g (tabulate n f) ≡ tabulate n (λ i. g (f i))
map-tabulate g zero f = refl
map-tabulate g (suc n) f = ap (λ t. g (f 0) ∷ t) (map-tabulate g n (λ i. f (suc i)))

pub replicate-tabulate : {A : Type 0} → (n : ℕ) (a : A) → replicate n a ≡ tabulate n (λ _. a)
replicate-tabulate zero a = refl
replicate-tabulate (suc n) a = ap (λ t. a ∷ t) (replicate-tabulate n a)

pub take-tabulate : {A : Type 0} → (n m : ℕ) (f : ℕ → A) → n ≤ m → take n (tabulate m f) ≡ tabulate n f
take-tabulate zero m f h = refl
take-tabulate (suc n) zero f h = absurd (omega arith)
take-tabulate (suc n) (suc m) f h = ap (λ t. f 0 ∷ t) (take-tabulate n m (λ i. f (suc i)) (omega arith))

tabulate-same : {A : Type 0} → (m n : ℕ) (f g : ℕ → A) → m ≡ n → ((i : ℕ) → i < m → f i ≡ g i) → tabulate m f ≡ tabulate n g
tabulate-same m n f g e h = tabulate-congr m f g h ∙ ap (λ k. tabulate k g) e

pub drop-tabulate : {A : Type 0} → (k m : ℕ) (f : ℕ → A) → k ≤ m → drop k (tabulate m f) ≡ tabulate (m - k) (λ i. f (k + i))
drop-tabulate zero m f h = tabulate-same m (m - 0) f (λ i. f (0 + i)) (omega arith) (λ i _. ap f (omega arith))
drop-tabulate (suc k) zero f h = absurd (omega arith)
drop-tabulate (suc k) (suc m) f h =
    drop-tabulate k m (λ i. f (suc i)) (omega arith)
    ∙ tabulate-same (m - k) (suc m - suc k) (λ i. f (suc (k + i))) (λ i. f (suc k + i)) (omega arith) (λ i _. ap f (omega arith))

-- a table in two parts
pub append-tabulate : {A : Type 0} → (m n : ℕ) (f g h : ℕ → A) → ((i : ℕ) → i < m → h i ≡ f i) → ((i : ℕ) → i < n → h (m + i) ≡ g i) → tabulate (m + n) h ≡ tabulate m f ++ tabulate n g
append-tabulate zero n f g h low high =
    sym (tabulate-same n (0 + n) g h (omega arith) (λ i below. sym (high i below) ∙ ap h (omega arith)))
append-tabulate (suc m) n f g h low high =
    let first : h 0 ≡ f 0 = low 0 (omega arith) in
    let rest : tabulate (m + n) (λ i. h (suc i)) ≡ tabulate m (λ i. f (suc i)) ++ tabulate n g
    = append-tabulate m n (λ i. f (suc i)) g (λ i. h (suc i)) (λ i below. low (suc i) (omega arith)) (λ i below. ap h (omega arith) ∙ high i below) in
    let longer : suc m + n ≡ suc (m + n) = omega arith in
    rw (longer, first, rest)

pub length-copies : (n : ℕ) (a : List Bit) → length (copies n a) ≡ n * length a
length-copies zero a = omega arith
length-copies (suc n) a = length-append a (copies n a) ∙ rw (length-copies n a) (omega arith)
