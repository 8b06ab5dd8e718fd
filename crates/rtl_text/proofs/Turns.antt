-- What one turn of the lexer does.
use Rattle.std.proofs.Common.{◌≡◌, ℕ, ◌+◌, ◌<◌, ◌≤◌, true, List, [], ◌∷◌, ◌++◌, length, take, drop, Option, Some, None, inl, inr, refl, sym, ap, ap₂, subst, ◌∙◌, arith, length-append, length-drop, append_assoc, append-nil, eqb-true, ◌==◌, Result, Ok, Err, OnOk, IfErr}
use Rattle.std.proofs.lemmas.List.{drop-drop, length-take-le}
use Rattle.std.specs.List.{prefix_len}
use Rattle.rtl_tree.specs.declared.token.Tok.{Tok}
use Rattle.rtl_tree.specs.declared.token.Tok.TheVariants.{Mark}
use Rattle.rtl_tree.specs.declared.token.Tok.TheVariants as kinds
use Rattle.rtl_tree.specs.declared.token.Token.{Token}
use Rattle.rtl_tree.specs.declared.token.TheConstants.{MAX_WORD, MAX_TOKENS}
use Rattle.rtl_tree.specs.declared.token.Pragma.{Pragma}
use Rattle.rtl_tree.specs.Token.{token}
use Rattle.rtl_tree.specs.Lexemes.{is_ascii, Each}
use Rattle.rtl_tree.specs.Splits.{pragma, if_pragma, Piece, Blank, Line, Block, Star, One, size, tokens_of, outside, IsPiece, Upto, start, more, Splits}
use Rattle.rtl_text.specs.declared.front.Front.{Front}
use Rattle.rtl_text.specs.declared.front.Front.TheVariants as fronts
use Rattle.rtl_text.specs.declared.fault.LexFault.{LexFault}
use Rattle.rtl_text.specs.declared.fault.LexFault.TheVariants.{NotAscii, BadNumber, BadCharacter, OpenComment, TooManyTokens, Memory}
use Rattle.rtl_text.specs.Fronts.{noted, front}
use Rattle.rtl_text.specs.Faults.{IsForeign, Halts, IsFirst, Refuses, IsFull, Turn}
use Rattle.rtl_text.proofs.Runs.{take_front, take_all, each_prefix}
use Rattle.rtl_text.proofs.FormTakes.{TakesForm, form_takes}
use Rattle.rtl_text.proofs.Fronts.{front_of, stands_found, Shows, shows}

-- a piece of this size, with these tokens and these bytes outside comments, stands at the front
pub record Fits (rest : List ℕ) (n : ℕ) (kept : ℕ → List Token) (out : List ℕ) : Type 0 where
  pub piece : Piece
  pub is : IsPiece rest piece
  pub sized : size piece ≡ n
  pub tokens : (at : ℕ) → tokens_of at piece ≡ kept at
  pub out_is : outside piece ≡ out

noted_gap : (n s : ℕ) (o : Option Pragma) → fronts.Gap n ≡ noted s o → (s ≡ n) × (o ≡ None)
noted_gap n s None e = (cc, refl)
noted_gap n s (Some p) e = cc

noted_note : (p : Pragma) (n s : ℕ) (o : Option Pragma) → fronts.Note p n ≡ noted s o → (s ≡ n) × (o ≡ Some p)
noted_note p n s None e = cc
noted_note p n s (Some q) e = (cc, cc)

noted_star : (s : ℕ) (o : Option Pragma) → fronts.Star ≡ noted s o → ⊥
noted_star s None e = cc
noted_star s (Some q) e = cc

noted_one : (k : Tok) (n s : ℕ) (o : Option Pragma) → fronts.One k n ≡ noted s o → ⊥
noted_one k n s None e = cc
noted_one k n s (Some q) e = cc

gap_is : (rest : List ℕ) (n : ℕ) (piece : Piece) → IsPiece rest piece → fronts.Gap n ≡ front_of piece → Fits rest n (λ at. []) []
gap_is rest n Blank h e = record { piece = Blank; is = h; sized = cc; tokens = λ at. refl; out_is = refl }
gap_is rest n (Line inside) h e =
    let w = noted_gap n (2 + length inside) (pragma inside) e in
    record { piece = Line inside; is = h; sized = w.0; tokens = λ at. ap (λ o. if_pragma at (2 + length inside) o) w.1; out_is = refl }
gap_is rest n (Block inside) h e =
    let w = noted_gap n (4 + length inside) (pragma inside) e in
    record { piece = Block inside; is = h; sized = w.0; tokens = λ at. ap (λ o. if_pragma at (4 + length inside) o) w.1; out_is = refl }
gap_is rest n Star h e = cc
gap_is rest n (One kind body) h e = cc

note_is : (rest : List ℕ) (p : Pragma) (n : ℕ) (piece : Piece) → IsPiece rest piece → fronts.Note p n ≡ front_of piece → Fits rest n (λ at. token (kinds.Pragma p) at n ∷ []) []
note_is rest p n Blank h e = cc
note_is rest p n (Line inside) h e =
    let w = noted_note p n (2 + length inside) (pragma inside) e in
    record { piece = Line inside; is = h; sized = w.0; tokens = λ at. ap₂ (λ o m. if_pragma at m o) w.1 w.0; out_is = refl }
note_is rest p n (Block inside) h e =
    let w = noted_note p n (4 + length inside) (pragma inside) e in
    record { piece = Block inside; is = h; sized = w.0; tokens = λ at. ap₂ (λ o m. if_pragma at m o) w.1 w.0; out_is = refl }
note_is rest p n Star h e = cc
note_is rest p n (One kind body) h e = cc

star_is : (rest : List ℕ) (piece : Piece) → IsPiece rest piece → fronts.Star ≡ front_of piece → Fits rest 2 (λ at. token Mark at 1 ∷ token Mark (at + 1) 1 ∷ []) []
star_is rest Blank h e = cc
star_is rest (Line inside) h e = absurd (noted_star (2 + length inside) (pragma inside) e)
star_is rest (Block inside) h e = absurd (noted_star (4 + length inside) (pragma inside) e)
star_is rest Star h e = record { piece = Star; is = h; sized = refl; tokens = λ at. refl; out_is = refl }
star_is rest (One kind body) h e = cc

one_is : (rest : List ℕ) (k : Tok) (n : ℕ) (piece : Piece) → IsPiece rest piece → fronts.One k n ≡ front_of piece → Fits rest n (λ at. token k at n ∷ []) (take n rest)
one_is rest k n Blank h e = cc
one_is rest k n (Line inside) h e = absurd (noted_one k n (2 + length inside) (pragma inside) e)
one_is rest k n (Block inside) h e = absurd (noted_one k n (4 + length inside) (pragma inside) e)
one_is rest k n Star h e = cc
one_is rest k n (One kind body) h e =
    let same : k ≡ kind = cc in
    let len : n ≡ length body = cc in
    record {
      piece = One kind body;
      is = h;
      sized = sym len;
      tokens = λ at. ap₂ (λ x m. token x at m ∷ []) (sym same) (sym len);
      out_is = sym (ap₂ (λ m xs. take m xs) len h.1.1 ∙ take_front body h.1.0);
    }

shown : (rest : List ℕ) (f : Front) → 0 < length rest → front rest ≡ f → Shows rest f
shown rest f l e = subst (λ x. Shows rest x) e (shows rest l)

pub gap_fits : (rest : List ℕ) (n : ℕ) → 0 < length rest → front rest ≡ fronts.Gap n → Fits rest n (λ at. []) []
gap_fits rest n l e = let w = shown rest (fronts.Gap n) l e in gap_is rest n w.0 w.1 w.2

pub note_fits : (rest : List ℕ) (p : Pragma) (n : ℕ) → 0 < length rest → front rest ≡ fronts.Note p n → Fits rest n (λ at. token (kinds.Pragma p) at n ∷ []) []
note_fits rest p n l e = let w = shown rest (fronts.Note p n) l e in note_is rest p n w.0 w.1 w.2

pub star_fits : (rest : List ℕ) → 0 < length rest → front rest ≡ fronts.Star → Fits rest 2 (λ at. token Mark at 1 ∷ token Mark (at + 1) 1 ∷ []) []
star_fits rest l e = let w = shown rest fronts.Star l e in star_is rest w.0 w.1 w.2

pub one_fits : (rest : List ℕ) (k : Tok) (n : ℕ) → 0 < length rest → front rest ≡ fronts.One k n → Fits rest n (λ at. token k at n ∷ []) (take n rest)
one_fits rest k n l e = let w = shown rest (fronts.One k n) l e in one_is rest k n w.0 w.1 w.2

-- ---- sizes

pub piece_within : (rest : List ℕ) (piece : Piece) → IsPiece rest piece → (1 ≤ size piece) × (size piece ≤ length rest)
piece_within rest Blank h = (omega arith, omega (arith, ap length h.2))
piece_within rest (Line inside) h = (omega arith, omega (arith, ap length h.1, length-append inside h.0))
piece_within rest (Block inside) h = (omega arith, omega (arith, ap length h.1, length-append inside (42 ∷ 47 ∷ h.0)))
piece_within rest Star h = (omega arith, omega (arith, ap length h.2))
piece_within rest (One kind body) h =
    let t : TakesForm rest (h.0, length body) = form_takes rest (h.0, length body) (stands_found h.0 body rest h.1) in
    (t.some, t.within)

pub within : (rest : List ℕ) (n : ℕ) (kept : ℕ → List Token) (out : List ℕ) → Fits rest n kept out → (1 ≤ n) × (n ≤ length rest)
within rest n kept out h = subst (λ m. (1 ≤ m) × (m ≤ length rest)) h.sized (piece_within rest h.piece h.is)

-- ---- turns

pub moves : (text : List ℕ) (ts : List Token) (at : ℕ) (rest : List ℕ) (n : ℕ) (kept : ℕ → List Token) (out : List ℕ) (ts' : List Token) (at' : ℕ) (rest' : List ℕ)
    → Upto text ts at rest → Fits rest n kept out → Each is_ascii out → ts' ≡ ts ++ kept at → at' ≡ at + n → rest' ≡ drop n rest → Upto text ts' at' rest'
moves text ts at rest n kept out ts' at' rest' u h a e f g =
    let v : Upto text (ts ++ tokens_of at h.piece) (at + size h.piece) (drop (size h.piece) rest) =
    more ts at rest h.piece u h.is (subst (λ xs. Each is_ascii xs) (sym h.out_is) a) in
    let x : ts ++ tokens_of at h.piece ≡ ts' = ap (λ k. ts ++ k) (h.tokens at) ∙ sym e in
    let y : at + size h.piece ≡ at' = ap (λ m. at + m) h.sized ∙ sym f in
    let z : drop (size h.piece) rest ≡ rest' = ap (λ m. drop m rest) h.sized ∙ sym g in
    subst (λ r. Upto text ts' at' r) z (subst (λ m. Upto text ts' m (drop (size h.piece) rest)) y (subst (λ k. Upto text k (at + size h.piece) (drop (size h.piece) rest)) x v))

pub passes : (text : List ℕ) (ts : List Token) (at : ℕ) (rest : List ℕ) (n : ℕ) (kept : ℕ → List Token) (out : List ℕ) (before after : List Token) (t : Token) (place : ℕ)
    → Upto text ts at rest → length ts ≤ MAX_TOKENS → Fits rest n kept out → ts ++ kept at ≡ before ++ t ∷ after → length before ≡ MAX_TOKENS → place ≡ t.at → IsFirst text (TooManyTokens place)
passes text ts at rest n kept out before after t place u l h e c p =
    (ts, at, rest, u, l, (h.piece, h.is, (before, after, t, ap (λ k. ts ++ k) (h.tokens at) ∙ e, c, p)))

pub strays : (text : List ℕ) (ts : List Token) (at : ℕ) (rest : List ℕ) (n : ℕ) (kept : ℕ → List Token) (out : List ℕ)
    → Upto text ts at rest → length ts ≤ MAX_TOKENS → Fits rest n kept out → length (ts ++ kept at) ≤ MAX_TOKENS → prefix_len is_ascii out < length out → IsFirst text (NotAscii (at + prefix_len is_ascii out))
strays text ts at rest n kept out u l h c f = (
  ts,
  at,
  rest,
  u,
  l,
  inr (
    h.piece,
    h.is,
    subst (λ k. length (ts ++ k) ≤ MAX_TOKENS) (sym (h.tokens at)) c,
    subst (λ xs. IsForeign at h.piece (at + prefix_len is_ascii xs)) h.out_is (subst (λ xs. prefix_len is_ascii xs < length xs) (sym h.out_is) f, refl),
  ),
)

pub stops : (text : List ℕ) (ts : List Token) (at : ℕ) (rest : List ℕ) → Upto text ts at rest → length ts ≤ MAX_TOKENS → (fault : LexFault) → Halts fault ts at rest → IsFirst text fault
stops text ts at rest u l fault h = (ts, at, rest, u, l, h)

-- ---- the same, in the words of the code

shorter : (rest rest' : List ℕ) (n : ℕ) (kept : ℕ → List Token) (out : List ℕ) → Fits rest n kept out → rest' ≡ drop n rest → length rest' < length rest
shorter rest rest' n kept out h e = let w = within rest n kept out h in omega (arith, w.0, w.1, ap length e, length-drop n rest)

-- a turn that goes on
pub goes : (ts : List Token) (at : ℕ) (rest : List ℕ) (n : ℕ) (kept : ℕ → List Token) (out : List ℕ) (ts' : List Token) (at' : ℕ) (rest' : List ℕ) (u : Unit {0})
    → Fits rest n kept out → Each is_ascii out → ts' ≡ ts ++ kept at → at' ≡ at + n → rest' ≡ drop n rest → Turn ts at rest (Ok u) ts' at' rest'
goes ts at rest n kept out ts' at' rest' u h a e f g = (shorter rest rest' n kept out h g, λ text v. moves text ts at rest n kept out ts' at' rest' v h a e f g)

-- the first token of a piece isn't taken
pub full : (ts : List Token) (at : ℕ) (rest : List ℕ) (n : ℕ) (kept : ℕ → List Token) (out : List ℕ) (t : Token) (after : List Token) (fault : LexFault)
    → length ts ≤ MAX_TOKENS → Fits rest n kept out → kept at ≡ t ∷ after → t.at ≡ at → IsFull (length ts) at fault → (text : List ℕ) → Upto text ts at rest → Refuses text fault
full ts at rest n kept out t after (NotAscii place) l h k p f text u = absurd f
full ts at rest n kept out t after (BadNumber place) l h k p f text u = absurd f
full ts at rest n kept out t after (BadCharacter place) l h k p f text u = absurd f
full ts at rest n kept out t after (OpenComment place) l h k p f text u = absurd f
full ts at rest n kept out t after (TooManyTokens place) l h k p f text u =
    passes text ts at rest n kept out ts after t place u l h (ap (λ x. ts ++ x) k) (omega (arith, l, f.0)) (f.1 ∙ sym p)
full ts at rest n kept out t after Memory l h k p f text u = tt

pub note_turn : (r : Result (Unit {0}) LexFault) (ts ts' : List Token) (at at' : ℕ) (rest rest' : List ℕ) (p : Pragma) (n : ℕ) → 0 < length rest → length ts ≤ MAX_TOKENS → front rest ≡ fronts.Note p n
    → OnOk r (ts' ≡ ts ++ token (kinds.Pragma p) at n ∷ []) → OnOk r (at' ≡ at + n) → OnOk r (rest' ≡ drop n rest) → IfErr r (λ e. IsFull (length ts) at e) → Turn ts at rest r ts' at' rest'
note_turn (Ok u) ts ts' at at' rest rest' p n l c e a b d f = goes ts at rest n (λ at. token (kinds.Pragma p) at n ∷ []) [] ts' at' rest' u (note_fits rest p n l e) tt a b d
note_turn (Err fault) ts ts' at at' rest rest' p n l c e a b d f =
    full ts at rest n (λ at. token (kinds.Pragma p) at n ∷ []) [] (token (kinds.Pragma p) at n) [] fault c (note_fits rest p n l e) refl refl f

-- the second mark of a `(*` isn't taken
second_full : (ts ts₁ : List Token) (at at₁ : ℕ) (rest : List ℕ) (fault : LexFault) → length ts ≤ MAX_TOKENS → length ts₁ ≤ MAX_TOKENS → Fits rest 2 (λ at. token Mark at 1 ∷ token Mark (at + 1) 1 ∷ []) []
    → ts₁ ≡ ts ++ token Mark at 1 ∷ [] → at₁ ≡ at + 1 → IsFull (length ts₁) at₁ fault → (text : List ℕ) → Upto text ts at rest → Refuses text fault
second_full ts ts₁ at at₁ rest (NotAscii place) l l₁ h k p f text u = absurd f
second_full ts ts₁ at at₁ rest (BadNumber place) l l₁ h k p f text u = absurd f
second_full ts ts₁ at at₁ rest (BadCharacter place) l l₁ h k p f text u = absurd f
second_full ts ts₁ at at₁ rest (OpenComment place) l l₁ h k p f text u = absurd f
second_full ts ts₁ at at₁ rest (TooManyTokens place) l l₁ h k p f text u =
    passes text ts at rest 2 (λ at. token Mark at 1 ∷ token Mark (at + 1) 1 ∷ []) [] ts₁ [] (token Mark (at + 1) 1) place u l h
    (sym (append_assoc ts (token Mark at 1 ∷ []) (token Mark (at + 1) 1 ∷ [])) ∙ ap (λ x. x ++ token Mark (at + 1) 1 ∷ []) (sym k)) (omega (arith, l₁, f.0)) (f.1 ∙ p)
second_full ts ts₁ at at₁ rest Memory l l₁ h k p f text u = tt

pub star_turn : (r : Result (Unit {0}) LexFault) (ts ts₁ ts' : List Token) (at at₁ at' : ℕ) (rest rest₁ rest' : List ℕ) → 0 < length rest → length ts ≤ MAX_TOKENS → length ts₁ ≤ MAX_TOKENS → front rest ≡ fronts.Star
    → ts₁ ≡ ts ++ token Mark at 1 ∷ [] → at₁ ≡ at + 1 → rest₁ ≡ drop 1 rest
    → OnOk r (ts' ≡ ts₁ ++ token Mark at₁ 1 ∷ []) → OnOk r (at' ≡ at₁ + 1) → OnOk r (rest' ≡ drop 1 rest₁) → IfErr r (λ e. IsFull (length ts₁) at₁ e) → Turn ts at rest r ts' at' rest'
star_turn (Ok u) ts ts₁ ts' at at₁ at' rest rest₁ rest' l c c₁ e a₁ b₁ d₁ a b d f =
    goes ts at rest 2 (λ at. token Mark at 1 ∷ token Mark (at + 1) 1 ∷ []) [] ts' at' rest' u (star_fits rest l e) tt
    (a ∙ ap₂ (λ x m. x ++ token Mark m 1 ∷ []) a₁ b₁ ∙ append_assoc ts (token Mark at 1 ∷ []) (token Mark (at + 1) 1 ∷ []))
    (omega (arith, b, b₁)) (d ∙ ap (λ xs. drop 1 xs) d₁ ∙ drop-drop 1 1 rest)
star_turn (Err fault) ts ts₁ ts' at at₁ at' rest rest₁ rest' l c c₁ e a₁ b₁ d₁ a b d f =
    second_full ts ts₁ at at₁ rest fault c c₁ (star_fits rest l e) a₁ b₁ f

pub star_full : (ts : List Token) (at : ℕ) (rest : List ℕ) (fault : LexFault) → 0 < length rest → length ts ≤ MAX_TOKENS → front rest ≡ fronts.Star → IsFull (length ts) at fault → (text : List ℕ) → Upto text ts at rest → Refuses text fault
star_full ts at rest fault l c e f =
    full ts at rest 2 (λ at. token Mark at 1 ∷ token Mark (at + 1) 1 ∷ []) [] (token Mark at 1) (token Mark (at + 1) 1 ∷ []) fault c (star_fits rest l e) refl refl f

pub gap_turn : (ts ts' : List Token) (at at' : ℕ) (rest rest' : List ℕ) (n : ℕ) (u : Unit {0}) → 0 < length rest → front rest ≡ fronts.Gap n
    → ts' ≡ ts → at' ≡ at + n → rest' ≡ drop n rest → Turn ts at rest (Ok u) ts' at' rest'
gap_turn ts ts' at at' rest rest' n u l e a b d = goes ts at rest n (λ at. []) [] ts' at' rest' u (gap_fits rest n l e) tt (a ∙ sym (append-nil ts)) b d

pub token_full : (ts : List Token) (at : ℕ) (rest : List ℕ) (k : Tok) (n : ℕ) (fault : LexFault) → 0 < length rest → length ts ≤ MAX_TOKENS → front rest ≡ fronts.One k n → IsFull (length ts) at fault → (text : List ℕ) → Upto text ts at rest → Refuses text fault
token_full ts at rest k n fault l c e f = full ts at rest n (λ at. token k at n ∷ []) (take n rest) (token k at n) [] fault c (one_fits rest k n l e) refl refl f

all_ascii : (out : List ℕ) → length out ≤ prefix_len is_ascii out → Each is_ascii out
all_ascii out h =
    let whole : take (prefix_len is_ascii out) out ≡ out = take_all out (prefix_len is_ascii out) h in
    subst (λ xs. Each is_ascii xs) whole (each_prefix is_ascii out)

pub token_turn : (ts ts' : List Token) (at at' : ℕ) (rest rest' : List ℕ) (k : Tok) (n good : ℕ) (u : Unit {0}) → 0 < length rest → front rest ≡ fronts.One k n
    → ts' ≡ ts ++ token k at n ∷ [] → at' ≡ at + n → rest' ≡ drop n rest → good ≡ prefix_len is_ascii (take n rest) → n ≤ good → Turn ts at rest (Ok u) ts' at' rest'
token_turn ts ts' at at' rest rest' k n good u l e a b d g m =
    let h = one_fits rest k n l e in
    let w = within rest n (λ at. token k at n ∷ []) (take n rest) h in
    goes ts at rest n (λ at. token k at n ∷ []) (take n rest) ts' at' rest' u h (all_ascii (take n rest) (omega (arith, g, m, length-take-le n rest w.1))) a b d

pub token_strays : (ts ts' : List Token) (at : ℕ) (rest : List ℕ) (k : Tok) (n good : ℕ) → 0 < length rest → length ts ≤ MAX_TOKENS → length ts' ≤ MAX_TOKENS → front rest ≡ fronts.One k n
    → ts' ≡ ts ++ token k at n ∷ [] → good ≡ prefix_len is_ascii (take n rest) → good < n → (text : List ℕ) → Upto text ts at rest → Refuses text (NotAscii (at + good))
token_strays ts ts' at rest k n good l c c' e a g m text u =
    let h = one_fits rest k n l e in
    let w = within rest n (λ at. token k at n ∷ []) (take n rest) h in
    subst (λ x. IsFirst text (NotAscii (at + x))) (sym g)
    (strays text ts at rest n (λ at. token k at n ∷ []) (take n rest) u c h (subst (λ x. length x ≤ MAX_TOKENS) a c') (omega (arith, g, m, length-take-le n rest w.1)))

pub note_within : (rest : List ℕ) (p : Pragma) (n : ℕ) → 0 < length rest → front rest ≡ fronts.Note p n → n ≤ length rest
note_within rest p n l e = (within rest n (λ at. token (kinds.Pragma p) at n ∷ []) [] (note_fits rest p n l e)).1

pub gap_within : (rest : List ℕ) (n : ℕ) → 0 < length rest → front rest ≡ fronts.Gap n → n ≤ length rest
gap_within rest n l e = (within rest n (λ at. []) [] (gap_fits rest n l e)).1

pub token_within : (rest : List ℕ) (k : Tok) (n : ℕ) → 0 < length rest → front rest ≡ fronts.One k n → n ≤ length rest
token_within rest k n l e = (within rest n (λ at. token k at n ∷ []) (take n rest) (one_fits rest k n l e)).1

pub star_within : (rest : List ℕ) → 0 < length rest → front rest ≡ fronts.Star → 2 ≤ length rest
star_within rest l e = (within rest 2 (λ at. token Mark at 1 ∷ token Mark (at + 1) 1 ∷ []) [] (star_fits rest l e)).1

pub foreign_stops : (ts : List Token) (at : ℕ) (rest : List ℕ) → 0 < length rest → length ts ≤ MAX_TOKENS → front rest ≡ fronts.NotAscii → (text : List ℕ) → Upto text ts at rest → Refuses text (NotAscii at)
foreign_stops ts at rest l c e text u = stops text ts at rest u c (NotAscii at) (inl (refl, shown rest fronts.NotAscii l e))

pub number_stops : (ts : List Token) (at : ℕ) (rest : List ℕ) → 0 < length rest → length ts ≤ MAX_TOKENS → front rest ≡ fronts.BadNumber → (text : List ℕ) → Upto text ts at rest → Refuses text (BadNumber at)
number_stops ts at rest l c e text u = stops text ts at rest u c (BadNumber at) (refl, shown rest fronts.BadNumber l e)

pub character_stops : (ts : List Token) (at : ℕ) (rest : List ℕ) → 0 < length rest → length ts ≤ MAX_TOKENS → front rest ≡ fronts.BadCharacter → (text : List ℕ) → Upto text ts at rest → Refuses text (BadCharacter at)
character_stops ts at rest l c e text u = stops text ts at rest u c (BadCharacter at) (inl (refl, shown rest fronts.BadCharacter l e))

pub word_stops : (ts : List Token) (at : ℕ) (rest : List ℕ) → 0 < length rest → length ts ≤ MAX_TOKENS → front rest ≡ fronts.LongWord → (text : List ℕ) → Upto text ts at rest → Refuses text (BadCharacter (at + MAX_WORD))
word_stops ts at rest l c e text u = stops text ts at rest u c (BadCharacter (at + MAX_WORD)) (inr (refl, shown rest fronts.LongWord l e))

pub open_stops : (ts : List Token) (at : ℕ) (rest : List ℕ) → 0 < length rest → length ts ≤ MAX_TOKENS → front rest ≡ fronts.OpenComment → (text : List ℕ) → Upto text ts at rest → Refuses text (OpenComment at)
open_stops ts at rest l c e text u = stops text ts at rest u c (OpenComment at) (refl, shown rest fronts.OpenComment l e)

-- ---- the whole text

pub begins : (text : List ℕ) (ts : List Token) → ts ≡ [] → Upto text ts 0 text
begins text ts e = subst (λ x. Upto text x 0 text) (sym e) start

pub upto_length : (text : List ℕ) (ts : List Token) (at : ℕ) (rest : List ℕ) → Upto text ts at rest → at + length rest ≡ length text
upto_length text _ _ _ start = omega arith
upto_length text _ _ _ (more ts at rest piece u h a) =
    let w = piece_within rest piece h in
    omega (arith, upto_length text ts at rest u, w.1, length-drop (size piece) rest)

no_rest : (rest : List ℕ) → (length rest == 0) ≡ true → rest ≡ []
no_rest [] h = refl
no_rest (b ∷ bs) h = absurd (omega (arith, eqb-true (length (b ∷ bs)) 0 h))

pub splits_at_end : (text : List ℕ) (ts tokens : List Token) (at : ℕ) (rest : List ℕ) → tokens ≡ ts → Upto text ts at rest → length ts ≤ MAX_TOKENS → true ≡ (length rest == 0) → Splits text tokens × (length tokens ≤ MAX_TOKENS)
splits_at_end text ts tokens at rest e u l h =
    let none : rest ≡ [] = no_rest rest (sym h) in
    let all : at ≡ length text = omega (arith, upto_length text ts at rest u, ap length none) in (
      subst (λ x. Splits text x) (sym e) (subst (λ r. Upto text ts (length text) r) none (subst (λ n. Upto text ts n rest) all u)),
      subst (λ x. length x ≤ MAX_TOKENS) (sym e) l,
    )
