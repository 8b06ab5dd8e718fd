-- Writes that are prepared, one more each time.
use Rattle.std.proofs.Common.{◌≡◌, ◌∙◌, ◌+◌, ◌<◌, ◌≤◌, ℕ, zero, suc, List, [], ◌∷◌, ◌++◌, append_assoc, length, map, set, take, refl, sym, ap, subst, arith}
use Rattle.std.specs.List.{All}
use Rattle.std.proofs.lemmas.List.Elements.{All-append, All-head, All-nil, All-tail}
use Rattle.rtl_bits.specs.declared.Bit.{Bit}
use Rattle.rtl_bits.specs.Bits.{selected}
use Rattle.rtl_flat.specs.declared.act.TargetPart.{TargetPart}
use Rattle.rtl_flat.specs.declared.signal.Signal.{Signal}
use Rattle.rtl_flat.specs.Process.{Selection, Whole, BitAt, BitBy, Part, piece, selection}
use Rattle.rtl_flat.specs.Signs.{width_in}
use Rattle.rtl_flat.specs.WellFormed.{IsSelection}
use Rattle.event_model.specs.Writes.{Values, Write, count_of, counts, write_at}
use Rattle.net_model.specs.declared.fill.Fill.{Fill}
use Rattle.net_model.specs.Block.{digit_writes, span_by}
use Rattle.net_body.specs.declared.entries.Entry.{Entry}
use Rattle.net_body.specs.Entries.{IsInside, all_writes, entry_writes}

take_set : {A : Type 0} (xs : List A) (n : ℕ) (a : A) → n < length xs → take (n + 1) (set xs n a) ≡ take n xs ++ a ∷ []
take_set [] n a below = absurd (omega (arith, below))
take_set (x ∷ xs) zero a below = refl
take_set (x ∷ xs) (suc n) a below =
    let one : suc n + 1 ≡ suc (n + 1) = omega arith in
    ap (λ m. take m (x ∷ set xs n a)) one ∙ ap (λ ys. x ∷ ys) (take_set xs n a (omega (arith, below)))

all_append : (xs ys : List Entry) → all_writes (xs ++ ys) ≡ all_writes xs ++ all_writes ys
all_append [] ys = refl
all_append (x ∷ xs) ys =
    ap (λ ws. entry_writes x ++ ws) (all_append xs ys) ∙ sym (append_assoc (entry_writes x) (all_writes xs) (all_writes ys))

-- one entry more
more_writes : (entries : List Entry) (n : ℕ) (e : Entry) → n < length entries → all_writes (take (n + 1) (set entries n e)) ≡ all_writes (take n entries) ++ (entry_writes e ++ [])
more_writes entries n e there =
    ap all_writes (take_set entries n e there) ∙ all_append (take n entries) (e ∷ [])

pub prepared_writes :
    (ws : ℕ → ℕ) (f : Fill) (v : Values) (part : TargetPart) (others parts : List TargetPart) (value : List Bit) (left : ℕ) (entries : List Entry) (n : ℕ) (e : Entry) (all : List Write) →
    n < length entries → parts ≡ part ∷ others → left ≡ counts ws (map piece others) →
    entry_writes e ≡ write_at part.signal.0 (span_by ws f v part.signal.0 (selection part.select)) (selected left (count_of ws part.signal.0 (selection part.select)) value) →
    all_writes (take n entries) ++ digit_writes ws f v (map piece parts) value ≡ all →
    all_writes (take (n + 1) (set entries n e)) ++ digit_writes ws f v (map piece others) value ≡ all
prepared_writes ws f v part others parts value left entries n e all there is left_is made before =
    let rest = digit_writes ws f v (map piece others) value in
    let front = all_writes (take n entries) in
    ap (λ us. us ++ rest) (more_writes entries n e there)
    ∙ append_assoc front (entry_writes e ++ []) rest
    ∙ ap (λ us. front ++ us) (append_assoc (entry_writes e) [] rest)
    ∙ ap (λ us. front ++ (us ++ rest)) (made ∙ ap (λ k. write_at part.signal.0 (span_by ws f v part.signal.0 (selection part.select)) (selected k (count_of ws part.signal.0 (selection part.select)) value)) left_is)
    ∙ ap (λ ps. front ++ digit_writes ws f v (map piece ps) value) (sym is)
    ∙ before

pub prepared_inside : (signals : List Signal) (entries : List Entry) (n : ℕ) (e : Entry) → n < length entries → All (IsInside signals) (all_writes (take n entries)) → All (IsInside signals) (entry_writes e) → All (IsInside signals) (all_writes (take (n + 1) (set entries n e)))
prepared_inside signals entries n e there before here =
    subst (All (IsInside signals)) (sym (more_writes entries n e there))
    (All-append (IsInside signals) (all_writes (take n entries)) (entry_writes e ++ []) before
    (All-append (IsInside signals) (entry_writes e) [] here (All-nil (IsInside signals))))

-- a target has no more parts than bits
a_bit : (signals : List Signal) → ((i : ℕ) → i < length signals → 1 ≤ width_in signals i) → (i : ℕ) (s : Selection) → IsSelection signals i s → 1 ≤ count_of (width_in signals) i s
a_bit signals some i Whole h = some i h
a_bit signals some i (BitAt low index) h = omega arith
a_bit signals some i (BitBy low index) h = omega arith
a_bit signals some i (Part low width) h = h.0

pub few_parts : (signals : List Signal) → ((i : ℕ) → i < length signals → 1 ≤ width_in signals i) → (parts : List TargetPart) → All (λ part. IsSelection signals part.signal.0 (selection part.select)) parts → length parts ≤ counts (width_in signals) (map piece parts)
few_parts signals some [] h = omega arith
few_parts signals some (part ∷ parts) h =
    let P : TargetPart → Type 0 = λ one. IsSelection signals one.signal.0 (selection one.select) in
    let here = a_bit signals some part.signal.0 (selection part.select) (All-head P part parts h) in
    let rest = few_parts signals some parts (All-tail P part parts h) in
    omega (arith, here, rest)
