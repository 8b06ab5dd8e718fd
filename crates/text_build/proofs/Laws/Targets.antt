-- What is spelled is read: targets and delays.
use Rattle.std.proofs.Common.{◌≡◌, ℕ, zero, suc, ◌≤◌, ◌<◌, Bool, true, false, List, ◌∷◌, length, Option, Some, None, refl, sym, ap, subst, ◌∙◌, max, arith}
use Rattle.rtl_tree.specs.declared.symbol.Symbol.{Symbol}
use Rattle.rtl_tree.specs.declared.symbol.Symbol.TheVariants as symbol
use Rattle.rtl_tree.specs.Symbols.{Terminal}
use Rattle.rtl_tree.specs.TreeExpr.{Identifier, Formula}
use Rattle.rtl_tree.specs.TreeStmt.{Target, Whole, Bit, Part, Joined, Targets, no_targets, more_targets, target_row, target_list, Span, Fixed, Named, Valued, Pause}
use Rattle.text_grammar.specs.Depth.{greatest, target_depth, targets_depth, span_depth, pause_depth, if_any}
use Rattle.text_grammar.specs.Grammar.{◌⨾◌, IsA, IsAt, IsName, IsOptional}
use Rattle.text_grammar.specs.GrammarStmt.{IsTarget, AreTargets, AreMoreTargets, IsSpan, IsPause}
use Rattle.text_build.specs.Reading.{Parser, and_then, ◌>>=◌, ◌>>◌, pure, same_symbol, starts, listed, name, literal, advance, mark, either, optional}
use Rattle.text_build.specs.ReadingExpr.{climb, Reference, whole, bit, part, reference}
use Rattle.text_build.specs.ReadingStmt.{target_of, part_target, joined, target, fixed, named, valued, span_by, span, pause}
use Rattle.text_build.proofs.Laws.Tokens.{mark_then, advance_at, starts_is, starts_not, after_not, symbol_is, name_again, literal_again, bind, either_first, either_second, optional_there, optional_absent}
use Rattle.text_build.proofs.Laws.Repeats.{Again, Furthers, CommaEnds, listed_from}
use Rattle.text_build.proofs.Laws.Follows.{Opens, opens_by, formula_shorter}
use Rattle.text_build.proofs.Laws.Exprs.{Entire, before, whole_read, bit_read, part_read}
use Rattle.text_build.proofs.Laws.Chains.{expression_again}

-- no selection comes next
abbrev pub IsWhole : List Terminal → Type 0
IsWhole ts = starts symbol.OpenBracket ts ≡ false

mutual
  pub target_shorter : (t : Target) (ts rest : List Terminal) → IsTarget t ts rest → length rest < length ts
  target_shorter (Whole n) ts rest w = omega (arith, ap length w.1)
  target_shorter (Bit n i) ts rest w =
      let a = w.2 in let b = a.2 in omega (arith, ap length w.1.1, ap length a.1.1, formula_shorter 12 i a.0 b.0 b.1, ap length b.2.1)
  target_shorter (Part n j m l) ts rest w =
      let a = w.2 in let b = a.2 in let c = b.2 in let e = c.2 in
      omega (arith, ap length w.1.1, ap length a.1.1, formula_shorter 12 m a.0 b.0 b.1, ap length c.1.1, formula_shorter 12 l c.0 e.0 e.1, ap length e.2.1)
  target_shorter (Joined at parts) ts rest w =
      let a = w.2 in omega (arith, ap length w.1.1, targets_shorter parts w.0 a.0 a.1, ap length a.2.1)

  targets_shorter : (all : Targets) (ts rest : List Terminal) → AreTargets all ts rest → length rest < length ts
  targets_shorter no_targets ts rest w = absurd w
  targets_shorter (more_targets t all) ts rest w = omega (arith, target_shorter t ts w.0 w.1, further_shorter all w.0 rest w.2)

  further_shorter : (all : Targets) (ts rest : List Terminal) → AreMoreTargets all ts rest → length rest ≤ length ts
  further_shorter no_targets ts rest w = omega (arith, ap length w)
  further_shorter (more_targets t all) ts rest w =
      let a = w.2 in omega (arith, ap length w.1.1, target_shorter t w.0 a.0 a.1, further_shorter all a.0 rest a.2)

-- ---- rows

row_back : (all : Targets) → target_row (target_list all) ≡ all
row_back no_targets = refl
row_back (more_targets t all) = ap (more_targets t) (row_back all)

row_depth : (all : Targets) → greatest target_depth (target_list all) ≡ targets_depth all
row_depth no_targets = refl
row_depth (more_targets t all) = ap (max (target_depth t)) (row_depth all)

abbrev More : List Target → List Terminal → List Terminal → Type 0
More all = AreMoreTargets (target_row all)

more_of : Furthers IsTarget (IsA symbol.Comma) More
more_of = record { at_end = λ ts rest w. w; goes_on = λ x xs ts rest w. w }

comma_whole : (ts mid : List Terminal) → IsA symbol.Comma ts mid → IsWhole ts
unfolding same_symbol
comma_whole ts mid w = starts_not symbol.OpenBracket symbol.Comma ts mid w.0 w.1 w.2 refl

close_ends : (ts mid : List Terminal) → IsA symbol.CloseBrace ts mid → CommaEnds IsWhole ts
unfolding same_symbol
close_ends ts mid w =
    let q = starts_not symbol.Comma symbol.CloseBrace ts mid w.0 w.1 w.2 refl in
    record { follows = starts_not symbol.OpenBracket symbol.CloseBrace ts mid w.0 w.1 w.2 refl; stops = q; leaves = after_not symbol.Comma ts q; some = omega (arith, ap length w.1) }

-- ---- targets

part_again : (e : Parser Formula) (r : Reference) (ts rest : List Terminal) → reference e ts ≡ Some (r, rest) → part_target e ts ≡ Some (target_of r, rest)
unfolding part_target
part_again e r ts rest h = bind (reference e ts) (λ x. pure (target_of x)) r rest h

joined_again : (d : ℕ) (p : Parser Target) → Again target_depth d p IsTarget IsWhole → (at : ℕ) (parts : Targets) (ts rest : List Terminal) → (IsAt symbol.OpenBrace at ⨾ AreTargets parts ⨾ IsA symbol.CloseBrace) ts rest
    → targets_depth parts ≤ d → joined p ts ≡ Some (Joined at parts, rest)
unfolding joined
joined_again d p c at no_targets ts rest w h = absurd w.2.1
joined_again d p c at (more_targets t all) ts rest w h =
    let a = w.2 in
    let b = a.1 in
    bind (advance ts) (λ q. listed p >>= (λ parts. mark symbol.CloseBrace >> pure (Joined q (target_row parts)))) at w.0 (advance_at symbol.OpenBrace at ts w.0 w.1)
    ∙ bind (listed p w.0) (λ parts. mark symbol.CloseBrace >> pure (Joined at (target_row parts))) (t ∷ target_list all) a.0
    (listed_from IsTarget More IsWhole target_depth d p c (λ x us vs m. omega (arith, target_shorter x us vs m)) comma_whole more_of t (target_list all) w.0 b.0 a.0 b.1
    (subst (λ x. AreMoreTargets x b.0 a.0) (sym (row_back all)) b.2) (omega (arith, h, row_depth all)) (close_ends a.0 rest a.2))
    ∙ mark_then symbol.CloseBrace (pure (Joined at (more_targets t (target_row (target_list all))))) a.0 rest a.2
    ∙ ap (λ x. Some (Joined at (more_targets t x), rest)) (row_back all)

name_first : {A : Type 0} (n : Identifier) (p q : Parser A) (ts rest : List Terminal) → IsName n ts rest → either (starts symbol.OpenBrace) p q ts ≡ q ts
unfolding same_symbol
name_first n p q ts rest w = either_second (starts symbol.OpenBrace) p q ts (starts_not symbol.OpenBrace symbol.Name ts rest w.0 w.1 w.2.0 refl)

target_by : (d : ℕ) (p : Parser Target) (e : Parser Formula) → Again target_depth d p IsTarget IsWhole → Entire d e → (t : Target) (ts rest : List Terminal) → IsTarget t ts rest → target_depth t ≤ suc d
    → IsWhole rest → either (starts symbol.OpenBrace) (joined p) (part_target e) ts ≡ Some (t, rest)
target_by d p e c k (Whole n) ts rest w h s = name_first n (joined p) (part_target e) ts rest w ∙ part_again e (whole n) ts rest (whole_read d e k n ts rest w s)
target_by d p e c k (Bit n i) ts rest w h s =
    name_first n (joined p) (part_target e) ts w.0 w.1 ∙ part_again e (bit n i) ts rest (bit_read d e k n i ts rest w (omega (arith, h)))
target_by d p e c k (Part n j m l) ts rest w h s =
    name_first n (joined p) (part_target e) ts w.0 w.1 ∙ part_again e (part n j m l) ts rest (part_read d e k n j m l ts rest w (omega (arith, h)) (omega (arith, h)))
target_by d p e c k (Joined at parts) ts rest w h s =
    either_first (starts symbol.OpenBrace) (joined p) (part_target e) ts (starts_is symbol.OpenBrace ts w.0 w.1.0 w.1.1 w.1.2.0)
    ∙ joined_again d p c at parts ts rest w (omega (arith, h))

deep : (t : Target) → 1 ≤ target_depth t
deep (Whole n) = omega arith
deep (Bit n i) = omega arith
deep (Part n j m l) = omega arith
deep (Joined at parts) = omega arith

pub target_again : (d : ℕ) → Again target_depth d (target d) IsTarget IsWhole
unfolding target
target_again zero t ts rest w h s = absurd (omega (arith, deep t, h))
target_again (suc d) t ts rest w h s = target_by d (target d) (climb d 12) (target_again d) (expression_again d) t ts rest w h s

-- ---- delays

module _ (d : ℕ) (e : Parser Formula) (c : Entire d e) where
  span_again : (s : Span) (ts rest : List Terminal) → IsSpan s ts rest → span_depth s ≤ d → span e ts ≡ Some (s, rest)
  unfolding span fixed named valued
  span_again (Fixed value) ts rest w h =
      ap (λ o. span_by o e ts) (symbol_is symbol.Number ts rest w.0 w.1 w.2.0) ∙ bind (literal ts) (λ v. pure (Fixed v)) value rest (literal_again value ts rest w)
  span_again (Named n) ts rest w h =
      ap (λ o. span_by o e ts) (symbol_is symbol.Name ts rest w.0 w.1 w.2.0) ∙ bind (name ts) (λ x. pure (Named x)) n rest (name_again n ts rest w)
  span_again (Valued f) ts rest w h =
      let a = w.2 in
      ap (λ o. span_by o e ts) (symbol_is symbol.OpenParen ts w.0 w.1.0 w.1.1 w.1.2)
      ∙ ap (λ o. and_then o (λ value. mark symbol.CloseParen >> pure (Valued value))) (mark_then symbol.OpenParen e ts w.0 w.1)
      ∙ before d e c symbol.CloseParen (λ value. mark symbol.CloseParen >> pure (Valued value)) f w.0 a.0 rest a.1 h refl a.2
      ∙ mark_then symbol.CloseParen (pure (Valued f)) a.0 rest a.2

  pub pause_again : (p : Pause) (ts rest : List Terminal) → IsPause p ts rest → pause_depth p ≤ d → pause e ts ≡ Some (p, rest)
  unfolding pause
  pause_again p ts rest w h =
      bind (advance ts) (λ at. span e >>= (λ s. pure (record { at = at; span = s }))) p.at w.0 (advance_at symbol.Hash p.at ts w.0 w.1)
      ∙ bind (span e w.0) (λ s. pure (record { at = p.at; span = s })) p.span rest (span_again p.span w.0 rest w.2 h)

  -- a delay that may be left out, before what begins otherwise
  pub optional_pause : (p : Option Pause) (ts rest : List Terminal) → IsOptional IsPause p ts rest → if_any pause_depth p ≤ d → starts symbol.Hash rest ≡ false
      → optional symbol.Hash (pause e) ts ≡ Some (p, rest)
  optional_pause None ts rest w h s = optional_absent symbol.Hash (pause e) ts (ap (starts symbol.Hash) w ∙ s) ∙ ap (λ x. Some (None, x)) w
  optional_pause (Some p) ts rest w h s =
      optional_there symbol.Hash (pause e) p ts rest (starts_is symbol.Hash ts w.0 w.1.0 w.1.1 w.1.2.0) (pause_again p ts rest w h)

pub span_shorter : (s : Span) (ts rest : List Terminal) → IsSpan s ts rest → length rest < length ts
span_shorter (Fixed value) ts rest w = omega (arith, ap length w.1)
span_shorter (Named n) ts rest w = omega (arith, ap length w.1)
span_shorter (Valued f) ts rest w = let a = w.2 in omega (arith, ap length w.1.1, formula_shorter 12 f w.0 a.0 a.1, ap length a.2.1)

pub pause_shorter : (p : Pause) (ts rest : List Terminal) → IsPause p ts rest → length rest < length ts
pause_shorter p ts rest w = omega (arith, ap length w.1.1, span_shorter p.span w.0 rest w.2)

pub optional_shorter : (p : Option Pause) (ts rest : List Terminal) → IsOptional IsPause p ts rest → length rest ≤ length ts
optional_shorter None ts rest w = omega (arith, ap length w)
optional_shorter (Some p) ts rest w = omega (arith, pause_shorter p ts rest w)

-- the symbols that a target may begin with
abbrev pub is_target : Symbol → Bool
is_target symbol.Name = true
is_target symbol.OpenBrace = true
is_target s = false

pub target_opens : (t : Target) (ts rest : List Terminal) → IsTarget t ts rest → Opens is_target ts
target_opens (Whole n) ts rest w = opens_by is_target symbol.Name ts rest w.0 w.1 w.2.0 refl
target_opens (Bit n i) ts rest w = let v = w.1 in opens_by is_target symbol.Name ts w.0 v.0 v.1 v.2.0 refl
target_opens (Part n j m l) ts rest w = let v = w.1 in opens_by is_target symbol.Name ts w.0 v.0 v.1 v.2.0 refl
target_opens (Joined at parts) ts rest w = let v = w.1 in opens_by is_target symbol.OpenBrace ts w.0 v.0 v.1 v.2.0 refl
