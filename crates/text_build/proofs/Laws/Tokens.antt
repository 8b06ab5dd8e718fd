-- What is spelled is read: single tokens.
use Rattle.std.proofs.Common.{◌≡◌, ℕ, Bool, true, false, cond, List, [], ◌∷◌, Some, None, refl, sym, ap, subst, ◌∙◌, eq-eqb, rules}
use denote.Enum.Bare.{same_true}
use denote.Enum.Declared.{tag_of}
use Rattle.rtl_tree.specs.contracts.symbol.Symbol.{the_type}
use Rattle.rtl_tree.specs.declared.symbol.Symbol.{Symbol}
use Rattle.rtl_tree.specs.declared.symbol.Symbol.TheVariants as symbol
use Rattle.rtl_tree.specs.declared.literal.Literal.{Literal}
use Rattle.rtl_tree.specs.Symbols.{Terminal}
use Rattle.rtl_tree.specs.TreeExpr.{Identifier}
use Rattle.text_grammar.specs.Grammar.{IsA, IsAt, IsName, IsNumber, identifier_of}
use Rattle.text_build.specs.Reading.{Parser, Outcome, and_then, ◌>>=◌, pure, same_symbol, symbol_at, starts, after, token, place, advance, mark, name, value_of, literal_by, literal, either, optional}

same_refl : (a : Symbol) → same_symbol a a ≡ true
unfolding same_symbol
same_refl a = eq-eqb (tag_of the_type a) (tag_of the_type a) refl

pub same_is : (a b : Symbol) → a ≡ b → same_symbol a b ≡ true
same_is a b e = subst (λ x. same_symbol a x ≡ true) e (same_refl a)

pub symbol_same : (a b : Symbol) → same_symbol a b ≡ true → a ≡ b
unfolding same_symbol
symbol_same a b h = same_true the_type (search rules) a b h

-- two symbols that a test tells apart differ
differ_by : (test : Symbol → Bool) (a b : Symbol) → test a ≡ true → test b ≡ false → (o : Bool) → same_symbol a b ≡ o → same_symbol a b ≡ false
differ_by test a b h k true e = let w : true ≡ false = sym h ∙ ap test (symbol_same a b e) ∙ k in absurd (cc)
differ_by test a b h k false e = e

pub differ : (test : Symbol → Bool) (a b : Symbol) → test a ≡ true → test b ≡ false → same_symbol a b ≡ false
differ test a b h k = differ_by test a b h k (same_symbol a b) refl

-- ---- one token

abbrev pub has : (Terminal → Type 0) → Symbol → Type 0
has holds s = (t : Terminal) → holds t → t.symbol ≡ s

pub token_again : (s : Symbol) (ts rest : List Terminal) (t : Terminal) → ts ≡ t ∷ rest → t.symbol ≡ s → token s ts ≡ Some (t, rest)
unfolding token
token_again s ts rest t e h = ap (λ x. token s x) e ∙ ap (λ o. cond o (Some (t, rest)) None) (same_is t.symbol s h)

pub starts_is : (s : Symbol) (ts rest : List Terminal) (t : Terminal) → ts ≡ t ∷ rest → t.symbol ≡ s → starts s ts ≡ true
unfolding starts
starts_is s ts rest t e h = ap (λ x. starts s x) e ∙ same_is t.symbol s h

pub starts_not : (s other : Symbol) (ts rest : List Terminal) (t : Terminal) → ts ≡ t ∷ rest → t.symbol ≡ other → same_symbol other s ≡ false → starts s ts ≡ false
unfolding starts
starts_not s other ts rest t e h d = ap (λ x. starts s x) e ∙ ap (λ x. same_symbol x s) h ∙ d

pub after_is : (s : Symbol) (ts rest : List Terminal) (t : Terminal) → ts ≡ t ∷ rest → t.symbol ≡ s → after s ts ≡ rest
unfolding after
after_is s ts rest t e h = ap (λ x. after s x) e ∙ ap (λ o. cond o rest (t ∷ rest)) (same_is t.symbol s h)

after_by : (s : Symbol) (ts : List Terminal) → starts s ts ≡ false → after s ts ≡ ts
unfolding starts after
after_by s [] h = refl
after_by s (t ∷ ts) h = ap (λ o. cond o ts (t ∷ ts)) h

pub after_not : (s : Symbol) (ts : List Terminal) → starts s ts ≡ false → after s ts ≡ ts
after_not s ts h = after_by s ts h

pub mark_again : (s : Symbol) (ts rest : List Terminal) (w : IsA s ts rest) → mark s ts ≡ Some (w.0.at, rest)
unfolding mark
mark_again s ts rest w = ap (λ o. and_then o (λ t. pure t.at)) (token_again s ts rest w.0 w.1 w.2)

-- a token at a place is a token
abbrev pub at_is : (s : Symbol) (at : ℕ) (ts rest : List Terminal) → IsAt s at ts rest → IsA s ts rest
at_is s at ts rest w = (w.0, w.1, w.2.0)

abbrev pub name_is : (n : Identifier) (ts rest : List Terminal) → IsName n ts rest → IsA symbol.Name ts rest
name_is n ts rest w = (w.0, w.1, w.2.0)

pub mark_at : (s : Symbol) (at : ℕ) (ts rest : List Terminal) → IsAt s at ts rest → mark s ts ≡ Some (at, rest)
mark_at s at ts rest w = mark_again s ts rest (at_is s at ts rest w) ∙ ap (λ x. Some (x, rest)) w.2.1

pub advance_at : (s : Symbol) (at : ℕ) (ts rest : List Terminal) → IsAt s at ts rest → advance ts ≡ Some (at, rest)
unfolding advance
advance_at s at ts rest w = ap (λ x. advance x) w.1 ∙ ap (λ x. Some (x, rest)) w.2.1

pub advance_a : (s : Symbol) (ts rest : List Terminal) (w : IsA s ts rest) → advance ts ≡ Some (w.0.at, rest)
unfolding advance
advance_a s ts rest w = ap (λ x. advance x) w.1

pub name_again : (n : Identifier) (ts rest : List Terminal) → IsName n ts rest → name ts ≡ Some (n, rest)
unfolding name
name_again n ts rest w =
    ap (λ o. and_then o (λ t. pure (identifier_of t))) (token_again symbol.Name ts rest w.0 w.1 w.2.0) ∙ ap (λ x. Some (x, rest)) w.2.1

pub literal_again : (value : Literal) (ts rest : List Terminal) → IsNumber value ts rest → literal ts ≡ Some (value, rest)
unfolding literal
literal_again value ts rest w =
    ap (λ o. and_then o (λ t. literal_by (value_of t.kind))) (token_again symbol.Number ts rest w.0 w.1 w.2.0) ∙ ap (λ k. literal_by (value_of k) rest) w.2.1

pub place_again : (ts rest : List Terminal) (t : Terminal) → ts ≡ t ∷ rest → place ts ≡ Some (t.at, ts)
unfolding place
place_again ts rest t e = ap (λ x. place x) e ∙ ap (λ x. Some (t.at, x)) (sym e)

pub symbol_is : (s : Symbol) (ts rest : List Terminal) (t : Terminal) → ts ≡ t ∷ rest → t.symbol ≡ s → symbol_at ts ≡ Some s
symbol_is s ts rest t e h = ap (λ x. symbol_at x) e ∙ ap (λ x. Some x) h

-- ---- one token, and what follows

pub mark_then : {A : Type 0} (s : Symbol) (p : Parser A) (ts mid : List Terminal) → IsA s ts mid → and_then (mark s ts) (λ _. p) ≡ p mid
mark_then s p ts mid w = ap (λ o. and_then o (λ _. p)) (mark_again s ts mid w)

pub advance_then : {A : Type 0} (s : Symbol) (p : Parser A) (ts mid : List Terminal) → IsA s ts mid → and_then (advance ts) (λ _. p) ≡ p mid
advance_then s p ts mid w = ap (λ o. and_then o (λ _. p)) (advance_a s ts mid w)

-- what was read, and what follows
pub bind : {A B : Type 0} (o : Outcome A) (f : A → Parser B) (x : A) (mid : List Terminal) → o ≡ Some (x, mid) → and_then o f ≡ f x mid
bind o f x mid e = ap (λ q. and_then q f) e

-- ---- choices

pub either_first : {A : Type 0} (test : List Terminal → Bool) (p q : Parser A) (ts : List Terminal) → test ts ≡ true → either test p q ts ≡ p ts
unfolding either
either_first test p q ts e = ap (λ o. cond o (p ts) (q ts)) e

pub either_second : {A : Type 0} (test : List Terminal → Bool) (p q : Parser A) (ts : List Terminal) → test ts ≡ false → either test p q ts ≡ q ts
unfolding either
either_second test p q ts e = ap (λ o. cond o (p ts) (q ts)) e

pub optional_there : {A : Type 0} (s : Symbol) (p : Parser A) (x : A) (ts rest : List Terminal) → starts s ts ≡ true → p ts ≡ Some (x, rest) → optional s p ts ≡ Some (Some x, rest)
unfolding optional
optional_there s p x ts rest e h =
    either_first (starts s) (p >>= (λ y. pure (Some y))) (pure None) ts e ∙ ap (λ o. and_then o (λ y. pure (Some y))) h

pub optional_absent : {A : Type 0} (s : Symbol) (p : Parser A) (ts : List Terminal) → starts s ts ≡ false → optional s p ts ≡ Some (None, ts)
unfolding optional
optional_absent s p ts e = either_second (starts s) (p >>= (λ y. pure (Some y))) (pure None) ts e
