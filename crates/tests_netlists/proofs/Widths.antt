-- Values that are made one after the other, and their widths.
use Rattle.std.specs.Prelude.{ℕ, zero, suc, ◌+◌, ◌<◌, ◌≤◌, List, [], ◌∷◌, ◌++◌, drop, length, map, slice_index_or}
use Rattle.std.proofs.Common.{◌≡◌, ◌∙◌, ap, sym, refl, add-one, arith}
use Rattle.std.proofs.lemmas.List.{append-nil, drop_all}
use Rattle.rtl_bits.specs.declared.Bit.{Bit}
use Rattle.rtl_flat.specs.declared.expr.SigId.{SigId}
use Rattle.netlist_eval.specs.net_start.Stored.{places}

-- ---- one value more

behind_all : (values : List (List Bit)) (value : List Bit) (w : ℕ) (rest : List ℕ) → length value ≡ w → map length (values ++ value ∷ []) ++ rest ≡ map length values ++ (w ∷ rest)
behind_all [] value w rest wide = ap (λ n. n ∷ rest) wide
behind_all (first ∷ others) value w rest wide =
    ap (λ ns. length first ∷ ns) (behind_all others value w rest wide)

-- the widths of some values, and those that are wanted behind them
pub one_more : {A : Type 0} (f : A → ℕ) (xs : List A) (values made : List (List Bit)) (value : List Bit) (n w : ℕ) → made ≡ values ++ value ∷ [] → length value ≡ w → map f (drop n xs) ≡ w ∷ map f (drop (suc n) xs) → map length values ++ map f (drop n xs) ≡ map f xs → map length made ++ map f (drop (n + 1) xs) ≡ map f xs
one_more f xs values made value n w is wide next so_far =
    ap (λ (all : List (List Bit)). map length all ++ map f (drop (n + 1) xs)) is
    ∙ (ap (λ m. map length (values ++ value ∷ []) ++ map f (drop m xs)) (add-one n)
    ∙ (behind_all values value w (map f (drop (suc n) xs)) wide
    ∙ (ap (λ ns. map length values ++ ns) (sym next) ∙ so_far)))

pub whole : {A : Type 0} (f : A → ℕ) (xs : List A) (values : List (List Bit)) (n : ℕ) → length xs ≤ n → map length values ++ map f (drop n xs) ≡ map f xs → map length values ≡ map f xs
whole f xs values n past so_far =
    sym (append-nil (map length values)) ∙ (ap (λ rest. map length values ++ map f rest) (sym (drop_all n xs past)) ∙ so_far)

-- ---- of signals by their numbers

-- the width of the signal with a number
abbrev pub wide : (ℕ → ℕ) → SigId → ℕ
wide ws signal = ws signal.0

pub next_wide : (ws : ℕ → ℕ) (signals : List SigId) (n : ℕ) (d : SigId) → n < length signals → map (wide ws) (drop n signals) ≡ ws (slice_index_or signals n d).0 ∷ map (wide ws) (drop (suc n) signals)
next_wide ws [] n d inside = absurd (omega (arith, inside))
next_wide ws (first ∷ others) zero d inside = refl
next_wide ws (first ∷ others) (suc n) d inside = next_wide ws others n d (omega (arith, inside))

pub as_places : (ws : ℕ → ℕ) (signals : List SigId) → map (wide ws) signals ≡ map ws (places signals)
as_places ws [] = refl
as_places ws (first ∷ others) = ap (λ ns. ws first.0 ∷ ns) (as_places ws others)
