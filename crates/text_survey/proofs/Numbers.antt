-- Terminals that are numbers have values.
use Rattle.std.proofs.Common.{◌≡◌, ℕ, Bool, true, false, cond, ◌&&◌, not, List, [], ◌∷◌, Option, Some, None, refl, sym, ap, subst, ◌∙◌}
use Rattle.std.specs.Str.{bytes_eq}
use Rattle.rtl_tree.specs.declared.literal.Literal.{Literal}
use Rattle.rtl_tree.specs.declared.symbol.Symbol.{Symbol}
use Rattle.rtl_tree.specs.declared.symbol.Symbol.TheVariants as symbol
use Rattle.rtl_tree.specs.declared.token.Tok.{Tok}
use Rattle.rtl_tree.specs.declared.token.Tok.TheVariants as tok
use Rattle.rtl_tree.specs.declared.token.Pragma.{Pragma}
use Rattle.rtl_tree.specs.declared.token.Token.{Token}
use Rattle.rtl_tree.specs.Symbols as symbols
use Rattle.rtl_tree.specs.Symbols.{Terminal, keywords, refused_words, marks, lookup, is_system, words, word_symbol, mark_symbol, slice, pragma_of, Sight, sight, seen, terminals}
use Rattle.text_survey.specs.Surveys.{AreNumbered}

is_number : Symbol → Bool
is_number symbol.Number = true
is_number other = false

none : List (List ℕ × Symbol) → Bool
none [] = true
none (row ∷ rows) = not (is_number row.1) && none rows

no_row : (a b : Bool) → (not a && b) ≡ true → (a ≡ false) × (b ≡ true)
no_row false b h = (refl, h)
no_row true b h = cc

lookup_none : (rows : List (List ℕ × Symbol)) (other : Symbol) (text : List ℕ) → none rows ≡ true → is_number other ≡ false → is_number (lookup rows other text) ≡ false
unfolding none
lookup_none [] other text h e = e
lookup_none (row ∷ rows) other text h e =
    let v = no_row (is_number row.1) (none rows) h in
    elim (bytes_eq row.0 text) as (λ b. is_number (cond b row.1 (lookup rows other text)) ≡ false) [ true ↦ v.0 | false ↦ lookup_none rows other text v.1 e ]

words_none : none words ≡ true
unfolding none is_number words keywords refused_words
words_none = refl

marks_none : none marks ≡ true
unfolding none is_number marks
marks_none = refl

other_none : (b : Bool) → is_number (cond b symbol.Refused symbol.Name) ≡ false
unfolding is_number
other_none true = refl
other_none false = refl

word_none : (text : List ℕ) → is_number (word_symbol text) ≡ false
unfolding word_symbol
word_none text = lookup_none words (cond (is_system text) symbol.Refused symbol.Name) text words_none (other_none (is_system text))

mark_none : (text : List ℕ) → is_number (mark_symbol text) ≡ false
unfolding mark_symbol is_number
mark_none text = lookup_none marks symbol.Alien text marks_none refl

no_number : (s : Symbol) → is_number s ≡ false → s ≡ symbol.Number → ⊥
unfolding is_number
no_number s e f = false_true (sym e ∙ ap is_number f)
  where
    false_true : false ≡ true → ⊥
    false_true x = cc

valued : (kind : Tok) (text : List ℕ) → symbols.symbol kind text ≡ symbol.Number → (value : Literal) × kind ≡ tok.Number value
valued tok.Word text e = absurd (no_number (word_symbol text) (word_none text) e)
valued (tok.Number value) text e = (value, refl)
valued tok.Str text e = cc
valued tok.Mark text e = absurd (no_number (mark_symbol text) (mark_none text) e)
valued tok.Directive text e = cc
valued (tok.Pragma said) text e = cc

sight_numbered : (text : List ℕ) (t : Token) (o : Option Pragma) (after : Sight) → AreNumbered after.terminals → AreNumbered (sight text t o after).terminals
sight_numbered text t (Some said) after n = n
sight_numbered text t None after n = (valued t.kind (slice text t), n)

seen_numbered : (text : List ℕ) (ts : List Token) → AreNumbered (seen text ts).terminals
unfolding seen
seen_numbered text [] = tt
seen_numbered text (t ∷ ts) = sight_numbered text t (pragma_of t.kind) (seen text ts) (seen_numbered text ts)

-- the terminals of a text
pub terminals_numbered : (text : List ℕ) (ts : List Token) → AreNumbered (terminals text ts)
terminals_numbered text ts = seen_numbered text ts

pub numbered_as : (xs : List Terminal) (text : List ℕ) (ts : List Token) → xs ≡ terminals text ts → AreNumbered xs
numbered_as xs text ts e = subst (λ ys. AreNumbered ys) (sym e) (terminals_numbered text ts)
