-- The first word of a text.
use Rattle.std.specs.Prelude.{ℕ, suc, ◌+◌, Bool, true, false, if◌then◌else◌, List, [], ◌∷◌, drop, take}
use Rattle.std.proofs.Common.{◌≡◌, ◌∙◌, ap, sym, refl, arith}
use Rattle.vcd_read.specs.Cuts.{blanks, solid}
use Rattle.vcd_read.specs.Words.{Word, is_blank, joined, on_first, words}

-- blanks before the first word don't count
pub skipped : (at : ℕ) (text : List ℕ) → words at text ≡ words (at + blanks text) (drop (blanks text) text)
skipped at [] = refl
skipped at (byte ∷ text) = by (is_blank byte) refl (skipped (suc at) text)
  where
    by : (blank : Bool) → is_blank byte ≡ blank → words (suc at) text ≡ words (suc at + blanks text) (drop (blanks text) text) → (if blank then words (suc at) text else joined at byte text (words (suc at) text)) ≡ words (at + (if blank then suc (blanks text) else 0)) (drop (if blank then suc (blanks text) else 0) (byte ∷ text))
    by true is rest =
        let same : suc at + blanks text ≡ at + suc (blanks text) = omega arith in
        rest ∙ ap (λ n. words n (drop (blanks text) text)) same
    by false is rest =
        let same : at ≡ at + 0 = omega arith in
        ap (λ (b : Bool). if b then words (suc at) text else joined at byte text (words (suc at) text)) (sym is) ∙ ap (λ n. words n (byte ∷ text)) same

-- a text that is blank, and one that begins with a word
abbrev split : ℕ → List ℕ → List Word
split at [] = []
split at (byte ∷ text) =
    record { at = at; text = byte ∷ take (solid text) text } ∷ words (at + suc (solid text)) (drop (solid text) text)

pub first_word : (at byte : ℕ) (text : List ℕ) → is_blank byte ≡ false → words at (byte ∷ text) ≡ split at (byte ∷ text)
first_word at byte text is =
    ap (λ (b : Bool). if b then words (suc at) text else joined at byte text (words (suc at) text)) is ∙ by at byte text
  where
    by : (at byte : ℕ) (text : List ℕ) → joined at byte text (words (suc at) text) ≡ split at (byte ∷ text)
    by at byte [] = refl
    by at byte (next ∷ text) = one (is_blank next) refl (by (suc at) next text)
      where
        one : (blank : Bool) → is_blank next ≡ blank → joined (suc at) next text (words (suc (suc at)) text) ≡ split (suc at) (next ∷ text) → (if blank then record { at = at; text = byte ∷ [] } ∷ words (suc at) (next ∷ text) else on_first at byte (words (suc at) (next ∷ text))) ≡ record { at = at; text = byte ∷ take (if blank then 0 else suc (solid text)) (next ∷ text) } ∷ words (at + suc (if blank then 0 else suc (solid text))) (drop (if blank then 0 else suc (solid text)) (next ∷ text))
        one true is rest =
            let same : suc at ≡ at + 1 = omega arith in
            ap (λ n. record { at = at; text = byte ∷ [] } ∷ words n (next ∷ text)) same
        one false is rest =
            let same : suc at + suc (solid text) ≡ at + suc (suc (solid text)) = omega arith in
            let here : words (suc at) (next ∷ text) ≡ split (suc at) (next ∷ text) = ap (λ (b : Bool). if b then words (suc (suc at)) text else joined (suc at) next text (words (suc (suc at)) text)) is ∙ rest in
            ap (on_first at byte) here
            ∙ ap (λ n. record { at = at; text = byte ∷ next ∷ take (solid text) text } ∷ words n (drop (solid text) text)) same

word_here : (at : ℕ) (text : List ℕ) → (solid text ≡ 0 → ⊥) → words at text ≡ record { at = at; text = take (solid text) text } ∷ words (at + solid text) (drop (solid text) text)
word_here at [] some = absurd (some refl)
word_here at (byte ∷ text) some = by (is_blank byte) refl some
  where
    by : (blank : Bool) → is_blank byte ≡ blank → ((if blank then 0 else suc (solid text)) ≡ 0 → ⊥) → words at (byte ∷ text) ≡ record { at = at; text = take (if blank then 0 else suc (solid text)) (byte ∷ text) } ∷ words (at + (if blank then 0 else suc (solid text))) (drop (if blank then 0 else suc (solid text)) (byte ∷ text))
    by true is some = absurd (some refl)
    by false is some = first_word at byte text is

blank_end : (text : List ℕ) → solid (drop (blanks text) text) ≡ 0 → drop (blanks text) text ≡ []
blank_end [] none = refl
blank_end (byte ∷ text) none = by (is_blank byte) refl none (blank_end text)
  where
    by : (blank : Bool) → is_blank byte ≡ blank → solid (drop (if blank then suc (blanks text) else 0) (byte ∷ text)) ≡ 0 → (solid (drop (blanks text) text) ≡ 0 → drop (blanks text) text ≡ []) → drop (if blank then suc (blanks text) else 0) (byte ∷ text) ≡ []
    by true is none rest = rest none
    by false is none rest =
        let some : suc (solid text) ≡ 0 = ap (λ (b : Bool). if b then 0 else suc (solid text)) (sym is) ∙ none in
        absurd (cc)

-- a text without a word; and one with its first
pub no_word : (at : ℕ) (text : List ℕ) → solid (drop (blanks text) text) ≡ 0 → words at text ≡ []
no_word at text none = skipped at text ∙ ap (words (at + blanks text)) (blank_end text none)

pub one_word : (at : ℕ) (text : List ℕ) → (solid (drop (blanks text) text) ≡ 0 → ⊥) → words at text ≡ record { at = at + blanks text; text = take (solid (drop (blanks text) text)) (drop (blanks text) text) } ∷ words (at + blanks text + solid (drop (blanks text) text)) (drop (solid (drop (blanks text) text)) (drop (blanks text) text))
one_word at text some = skipped at text ∙ word_here (at + blanks text) (drop (blanks text) text) some
