-- What holds of what was read and of what is left: single tokens, and one reading after another.
use Rattle.std.proofs.Common.{◌≡◌, ℕ, Bool, true, false, cond, List, [], ◌∷◌, Option, Some, None, refl, ap}
use Rattle.rtl_tree.specs.declared.symbol.Symbol.{Symbol}
use Rattle.rtl_tree.specs.declared.symbol.Symbol.TheVariants as symbol
use Rattle.rtl_tree.specs.declared.literal.Literal.{Literal}
use Rattle.rtl_tree.specs.declared.token.Tok.{Tok}
use Rattle.rtl_tree.specs.declared.token.Tok.TheVariants as tok
use Rattle.rtl_tree.specs.Symbols.{Terminal}
use Rattle.text_grammar.specs.Grammar.{Spelling, ◌⨾◌, IsA, IsAt, IsName, IsNumber, IsOptional}
use Rattle.text_build.specs.Reading.{Parser, Outcome, and_then, ◌>>=◌, ◌>>◌, pure, same_symbol, symbol_at, starts, after, token, advance, mark, name, value_of, literal_by, literal, either, optional}
use Rattle.text_build.proofs.Laws.Tokens.{symbol_same}
use Rattle.text_build.specs.Sound.{IsPlain}

-- this holds of what was read and of what is left, if anything was read
abbrev pub Holds : {A : Type 0} → (A → List Terminal → Type 0) → Outcome A → Type 0
Holds Q None = Unit {0}
Holds Q (Some p) = Q p.0 p.1

pub record Gives {A : Type 0} (o : Outcome A) (Q : A → List Terminal → Type 0) : Type 0 where
  pub given : Holds Q o

-- what is read is spelled so, and no attributes are left
abbrev pub Sound : {A : Type 0} → Parser A → (A → Spelling) → Type 0
Sound p S = (ts : List Terminal) → IsPlain ts → Gives (p ts) (λ x rest. S x ts rest × IsPlain rest)

-- one reading after another
pub bind : {A B : Type 0} {R : A → List Terminal → Type 0} {Q : B → List Terminal → Type 0} {o : Outcome A} {f : A → Parser B} → Gives o R
    → ((a : A) (mid : List Terminal) → R a mid → Gives (f a mid) Q) → Gives (and_then o f) Q
bind {o = None} g k = record { given = tt }
bind {o = Some p} g k = k p.0 p.1 g.given

-- one or the other, by a test
pub choose : {A : Type 0} {Q : A → List Terminal → Type 0} (b : Bool) (x y : Outcome A) → (b ≡ true → Gives x Q) → (b ≡ false → Gives y Q) → Gives (cond b x y) Q
choose true x y f g = f refl
choose false x y f g = g refl

pub either_gives : {A : Type 0} {Q : A → List Terminal → Type 0} (test : List Terminal → Bool) (p q : Parser A) (ts : List Terminal) → (test ts ≡ true → Gives (p ts) Q)
    → (test ts ≡ false → Gives (q ts) Q) → Gives (either test p q ts) Q
unfolding either
either_gives test p q ts f g = choose (test ts) (p ts) (q ts) f g

-- what was read may be anything
pub anything : {A : Type 0} (o : Outcome A) → Gives o (λ x rest. Unit {0})
anything None = record { given = tt }
anything (Some p) = record { given = tt }

-- two things hold of what was read
pub both : {A : Type 0} {R Q : A → List Terminal → Type 0} {o : Outcome A} → Gives o R → Gives o Q → Gives o (λ x rest. R x rest × Q x rest)
both {o = None} g h = record { given = tt }
both {o = Some p} g h = record { given = (g.given, h.given) }

-- ---- tokens

pub token_gives : (s : Symbol) → Sound (token s) (λ t ts rest. (ts ≡ t ∷ rest) × (t.symbol ≡ s))
unfolding token
token_gives s [] p = record { given = tt }
token_gives s (t ∷ ts) p = choose (same_symbol t.symbol s) (Some (t, ts)) None (λ e. record { given = ((refl, symbol_same t.symbol s e), p.1) }) (λ e. record { given = tt })

pub mark_gives : (s : Symbol) → Sound (mark s) (IsAt s)
unfolding mark
mark_gives s ts p = bind (token_gives s ts p) (λ t mid w. record { given = ((t, w.0.0, (w.0.1, refl)), w.1) })

-- a token of this symbol, wherever it stands
pub a_gives : (s : Symbol) → Sound (mark s) (λ at. IsA s)
unfolding mark
a_gives s ts p = bind (token_gives s ts p) (λ t mid w. record { given = ((t, w.0.0, w.0.1), w.1) })

pub name_gives : Sound name IsName
unfolding name
name_gives ts p = bind (token_gives symbol.Name ts p) (λ t mid w. record { given = ((t, w.0.0, (w.0.1, refl)), w.1) })

number_by : {Q : Literal → List Terminal → Type 0} (k : Tok) (ts : List Terminal) → ((v : Literal) → k ≡ tok.Number v → Q v ts) → Gives (literal_by (value_of k) ts) Q
number_by (tok.Number v) ts f = record { given = f v refl }
number_by k ts f = record { given = tt }

pub literal_gives : Sound literal IsNumber
unfolding literal
literal_gives ts p = bind (token_gives symbol.Number ts p) (λ t mid w. number_by t.kind mid (λ v e. ((t, w.0.0, (w.0.1, e)), w.1)))

symbol_or : Symbol → Option Symbol → Symbol
symbol_or s None = s
symbol_or s (Some x) = x

-- the next token, whose symbol is known
pub next_gives : (s : Symbol) (ts : List Terminal) → IsPlain ts → symbol_at ts ≡ Some s → Gives (advance ts) (λ at rest. IsAt s at ts rest × IsPlain rest)
unfolding advance symbol_or
next_gives s [] p h = record { given = tt }
next_gives s (t ∷ ts) p h = record { given = ((t, refl, (ap (symbol_or s) h, refl)), p.1) }

pub starts_symbol : (s : Symbol) (ts : List Terminal) → starts s ts ≡ true → symbol_at ts ≡ Some s
unfolding starts
starts_symbol s [] h = absurd (cc)
starts_symbol s (t ∷ ts) h = ap (λ x. Some x) (symbol_same t.symbol s h)

-- a token that a test found
pub found_gives : (s : Symbol) (ts : List Terminal) → IsPlain ts → starts s ts ≡ true → Gives (advance ts) (λ at rest. IsAt s at ts rest × IsPlain rest)
found_gives s ts p h = next_gives s ts p (starts_symbol s ts h)

-- what is left after a token that a test found
pub after_found : (s : Symbol) (ts : List Terminal) → IsPlain ts → starts s ts ≡ true → IsA s ts (after s ts) × IsPlain (after s ts)
unfolding starts after
after_found s [] p h = absurd (cc)
after_found s (t ∷ ts) p h = rw h ((t, refl, symbol_same t.symbol s h), p.1)

-- ---- what may be left out

pub optional_gives : {A : Type 0} {S : A → Spelling} (s : Symbol) (p : Parser A) (ts : List Terminal) → IsPlain ts
    → (starts s ts ≡ true → Gives (p ts) (λ x rest. S x ts rest × IsPlain rest)) → Gives (optional s p ts) (λ o rest. IsOptional S o ts rest × IsPlain rest)
unfolding optional
optional_gives s p ts c f =
    either_gives (starts s) (p >>= (λ x. pure (Some x))) (pure None) ts (λ e. bind (f e) (λ x mid w. record { given = w })) (λ e. record { given = (refl, c) })

-- ---- one reading after a token

-- more is known of what is read
pub weaken : {A : Type 0} {R Q : A → List Terminal → Type 0} {o : Outcome A} → Gives o R → ((x : A) (rest : List Terminal) → R x rest → Q x rest) → Gives o Q
weaken {o = None} g f = record { given = tt }
weaken {o = Some p} g f = record { given = f p.0 p.1 g.given }

-- a token, and what follows it
pub behind : {A : Type 0} {S : A → Spelling} (s : Symbol) (p : Parser A) → Sound p S → Sound (mark s >> p) (λ x. IsA s ⨾ S x)
behind s p c ts pl = bind (a_gives s ts pl) (λ at mid w. weaken (c mid w.1) (λ x rest v. ((mid, w.0, v.0), v.1)))

-- a token with its place, and what follows it
abbrev pub a_of : (s : Symbol) (at : ℕ) (ts rest : List Terminal) → IsAt s at ts rest → IsA s ts rest
a_of s at ts rest w = (w.0, w.1, w.2.0)

-- a token that a test found, and what follows it
pub behind_found : {A : Type 0} {S : A → Spelling} (s : Symbol) (p : Parser A) → Sound p S → (ts : List Terminal) → IsPlain ts → symbol_at ts ≡ Some s
    → Gives (and_then (advance ts) (λ _. p)) (λ x rest. (IsA s ⨾ S x) ts rest × IsPlain rest)
behind_found s p c ts pl h = bind (next_gives s ts pl h) (λ at mid w. weaken (c mid w.1) (λ x rest v. ((mid, a_of s at ts mid w.0, v.0), v.1)))
