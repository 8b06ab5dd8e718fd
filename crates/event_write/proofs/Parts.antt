-- Parts of targets, and the entries for them.
use Rattle.std.proofs.Common.{◌≡◌, ◌∙◌, ◌++◌, ℕ, Bool, List, [], ◌∷◌, length, map, refl, sym, ap, arith}
use Rattle.std.specs.Prelude.{◌==◌}
use Rattle.std.proofs.lemmas.Bool.{ne_eqb}
use Rattle.rtl_bits.specs.declared.Bit.{Bit}
use Rattle.rtl_bits.specs.Bits.{selected}
use Rattle.rtl_flat.specs.declared.act.TargetPart.{TargetPart}
use Rattle.rtl_flat.specs.Process.{piece, selection}
use Rattle.event_model.specs.Writes.{Values, counts, count_of, span_of}
use Rattle.event_write.specs.declared.entries.Entry.{Entry as Code}
use Rattle.event_write.specs.Entries.{Entry, entry, entries, is_none}

none_left : (parts : List TargetPart) → (length parts == 0) ≡ is_none (map piece parts)
none_left [] = refl
none_left (part ∷ parts) = ne_eqb (length (part ∷ parts)) 0 (λ e. omega arith)

map_push : (xs : List Code) (e : Code) (rest : List Entry) → map entry (xs ++ e ∷ []) ++ rest ≡ map entry xs ++ entry e ∷ rest
map_push [] e rest = refl
map_push (x ∷ xs) e rest = ap (λ es. entry x ∷ es) (map_push xs e rest)

-- the entry that a part of a target is
abbrev pub first : (ℕ → ℕ) → Values → TargetPart → ℕ → List Bit → Bool → Entry
first ws v part left value last =
    record { signal = part.signal.0; span = span_of ws v part.signal.0 (selection part.select); bits = selected left (count_of ws part.signal.0 (selection part.select)) value; is_last = last }

-- an entry more
pub prepared_more : (ws : ℕ → ℕ) (v : Values) (part : TargetPart) (others parts : List TargetPart) (left : ℕ) (value : List Bit) (last : Bool) (xs ys zs : List Code) (e : Code)
    → parts ≡ part ∷ others → last ≡ (length others == 0) → left ≡ counts ws (map piece others) → ys ≡ xs ++ e ∷ [] → entry e ≡ first ws v part left value last
    → map entry zs ≡ map entry ys ++ entries ws v (map piece others) value → map entry zs ≡ map entry xs ++ entries ws v (map piece parts) value
prepared_more ws v part others parts left value last xs ys zs e is last_is left_is pushed made rest =
    rest
    ∙ ap (λ es. map entry es ++ entries ws v (map piece others) value) pushed
    ∙ map_push xs e (entries ws v (map piece others) value)
    ∙ ap (λ f. map entry xs ++ f ∷ entries ws v (map piece others) value) (made ∙ ap (λ k. first ws v part k value last) left_is ∙ ap (first ws v part (counts ws (map piece others)) value) (last_is ∙ none_left others))
    ∙ ap (λ ps. map entry xs ++ entries ws v (map piece ps) value) (sym is)
