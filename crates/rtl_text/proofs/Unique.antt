-- A text has one answer: one list of tokens, or one first fault.
use Rattle.std.proofs.Common.{◌≡◌, ℕ, zero, suc, ◌+◌, ◌<◌, ◌≤◌, Bool, true, false, cond, ◌&&◌, nat_le, List, [], ◌∷◌, ◌++◌, length, take, drop, Option, Some, None, Result, Ok, Err, inl, inr, refl, sym, ap, ap₂, ◌∙◌, arith, length-append}
use Rattle.std.proofs.Math.Seq.{drop-append_seam}
use Rattle.std.proofs.lemmas.Bool.Decides.{nat_tests}
use Rattle.std.specs.List.{prefix_len}
use Rattle.rtl_tree.specs.declared.token.Tok.TheVariants.{Mark}
use Rattle.rtl_tree.specs.declared.token.Tok.TheVariants as kinds
use Rattle.rtl_tree.specs.declared.token.Token.{Token}
use Rattle.rtl_tree.specs.declared.token.TheConstants.{MAX_WORD, MAX_TOKENS}
use Rattle.rtl_tree.specs.declared.token.Pragma.{Pragma}
use Rattle.rtl_tree.specs.Token.{token}
use Rattle.rtl_tree.specs.Lexemes.{is_ascii, Each}
use Rattle.rtl_tree.specs.Splits.{pragma, if_pragma, Piece, Blank, Line, Block, Star, One, size, tokens_of, outside, IsPiece, Upto, start, more, Splits}
use Rattle.rtl_text.specs.declared.front.Front.{Front}
use Rattle.rtl_text.specs.declared.front.Front.TheVariants as fronts
use Rattle.rtl_text.specs.declared.fault.LexFault.{LexFault}
use Rattle.rtl_text.specs.declared.fault.LexFault.TheVariants.{NotAscii, BadNumber, BadCharacter, OpenComment, TooManyTokens, Memory}
use Rattle.rtl_text.specs.Forms.{form_at}
use Rattle.rtl_text.specs.Fronts.{noted, front, token_at, star_at}
use Rattle.rtl_text.specs.Faults.{IsForeign, IsPassed, Halts, Answers, Refuses, Says}
use Rattle.rtl_tree.specs.Lexemes.{is_single}
use Rattle.rtl_text.proofs.Runs.{take_front, prefix_all}
use Rattle.rtl_text.proofs.Fronts.{front_of}
use Rattle.rtl_text.proofs.FrontsAgain.{piece_again, number_again, word_again, open_again, character_again, foreign_again}
use Rattle.rtl_text.proofs.Turns.{piece_within}

-- where the lexer is
record State : Type 0 where
  tokens : List Token
  at : ℕ
  rest : List ℕ

abbrev state : List Token → ℕ → List ℕ → State
state tokens at rest = record { tokens = tokens; at = at; rest = rest }

-- what a front says of its piece
abbrev kept : Front → ℕ → List Token
kept (fronts.Note p n) at = token (kinds.Pragma p) at n ∷ []
kept fronts.Star at = token Mark at 1 ∷ token Mark (at + 1) 1 ∷ []
kept (fronts.One k n) at = token k at n ∷ []
kept f at = []

abbrev sized : Front → ℕ
sized (fronts.Gap n) = n
sized (fronts.Note p n) = n
sized fronts.Star = 2
sized (fronts.One k n) = n
sized f = 0

abbrev bare : Front → List ℕ → List ℕ
bare (fronts.One k n) rest = take n rest
bare f rest = []

abbrev is_piece : Front → Bool
is_piece (fronts.Gap n) = true
is_piece (fronts.Note p n) = true
is_piece fronts.Star = true
is_piece (fronts.One k n) = true
is_piece f = false

kept_noted : (at s : ℕ) (o : Option Pragma) → kept (noted s o) at ≡ if_pragma at s o
kept_noted at s None = refl
kept_noted at s (Some p) = refl

sized_noted : (s : ℕ) (o : Option Pragma) → sized (noted s o) ≡ s
sized_noted s None = refl
sized_noted s (Some p) = refl

bare_noted : (s : ℕ) (o : Option Pragma) (rest : List ℕ) → bare (noted s o) rest ≡ []
bare_noted s None rest = refl
bare_noted s (Some p) rest = refl

piece_noted : (s : ℕ) (o : Option Pragma) → is_piece (noted s o) ≡ true
piece_noted s None = refl
piece_noted s (Some p) = refl

kept_is : (at : ℕ) (piece : Piece) → kept (front_of piece) at ≡ tokens_of at piece
kept_is at Blank = refl
kept_is at (Line inside) = kept_noted at (2 + length inside) (pragma inside)
kept_is at (Block inside) = kept_noted at (4 + length inside) (pragma inside)
kept_is at Star = refl
kept_is at (One k body) = refl

sized_is : (piece : Piece) → sized (front_of piece) ≡ size piece
sized_is Blank = refl
sized_is (Line inside) = sized_noted (2 + length inside) (pragma inside)
sized_is (Block inside) = sized_noted (4 + length inside) (pragma inside)
sized_is Star = refl
sized_is (One k body) = refl

piece_is : (piece : Piece) → is_piece (front_of piece) ≡ true
piece_is Blank = refl
piece_is (Line inside) = piece_noted (2 + length inside) (pragma inside)
piece_is (Block inside) = piece_noted (4 + length inside) (pragma inside)
piece_is Star = refl
piece_is (One k body) = refl

bare_is : (rest : List ℕ) (piece : Piece) → IsPiece rest piece → bare (front_of piece) rest ≡ outside piece
bare_is rest Blank h = refl
bare_is rest (Line inside) h = bare_noted (2 + length inside) (pragma inside) rest
bare_is rest (Block inside) h = bare_noted (4 + length inside) (pragma inside) rest
bare_is rest Star h = refl
bare_is rest (One k body) h = ap (λ xs. take (length body) xs) h.1.1 ∙ take_front body h.1.0

-- ---- one step, where there is room for the tokens and no byte is foreign

abbrev has_room : ℕ → List Token → Bool
has_room most tokens = nat_le (length tokens) most

abbrev has_ascii : List ℕ → Bool
has_ascii xs = nat_le (length xs) (prefix_len is_ascii xs)

abbrev by : ℕ → State → Front → State
by most s f =
    cond (is_piece f && (has_room most (s.tokens ++ kept f s.at) && has_ascii (bare f s.rest)))
    (state (s.tokens ++ kept f s.at) (s.at + sized f) (drop (sized f) s.rest)) s

step : ℕ → State → State
step most s = by most s (front s.rest)

steps : ℕ → ℕ → State → State
steps most zero s = s
steps most (suc n) s = step most (steps most n s)

le_true : (a b : ℕ) → a ≤ b → nat_le a b ≡ true
le_true a b h = grind (arith, nat_tests)

le_false : (a b : ℕ) → b < a → nat_le a b ≡ false
le_false a b h = grind (arith, nat_tests)

when_all : (A : Type 0) (o p q : Bool) (x y : A) → o ≡ true → p ≡ true → q ≡ true → cond (o && (p && q)) x y ≡ x
when_all A true true true x y a b c = refl
when_all A false p q x y a b c = cc
when_all A true false q x y a b c = cc
when_all A true true false x y a b c = cc

goes : (most : ℕ) (ts : List Token) (at : ℕ) (rest : List ℕ) (piece : Piece) → IsPiece rest piece → Each is_ascii (outside piece) → length (ts ++ tokens_of at piece) ≤ most
    → step most (state ts at rest) ≡ state (ts ++ tokens_of at piece) (at + size piece) (drop (size piece) rest)
unfolding step
goes most ts at rest piece h a l =
    let f = front_of piece in
    ap (λ x. by most (state ts at rest) x) (piece_again rest piece h)
    ∙ when_all State (is_piece f) (has_room most (ts ++ kept f at)) (has_ascii (bare f rest)) _ _ (piece_is piece)
    (ap (λ x. has_room most (ts ++ x)) (kept_is at piece) ∙ le_true (length (ts ++ tokens_of at piece)) most l)
    (ap (λ x. has_ascii x) (bare_is rest piece h) ∙ le_true (length (outside piece)) (prefix_len is_ascii (outside piece)) (prefix_all is_ascii (outside piece) a))
    ∙ ap₂ (λ x n. state (ts ++ x) (at + n) (drop n rest)) (kept_is at piece) (sized_is piece)

reached : (most : ℕ) (text : List ℕ) (ts : List Token) (at : ℕ) (rest : List ℕ) → Upto text ts at rest → length ts ≤ most → (n : ℕ) × (steps most n (state [] 0 text) ≡ state ts at rest)
unfolding steps
reached most text _ _ _ start l = (zero, refl)
reached most text _ _ _ (more ts at rest piece u h a) l =
    let w = reached most text ts at rest u (omega (arith, l, length-append ts (tokens_of at piece))) in
    (suc w.0, ap (λ s. step most s) w.1 ∙ goes most ts at rest piece h a l)

plus_zero : (n : ℕ) → n + zero ≡ n
plus_zero n = omega arith

plus_suc : (n k : ℕ) → n + suc k ≡ suc (n + k)
plus_suc n k = omega arith

plus_comm : (n m : ℕ) → n + m ≡ m + n
plus_comm n m = omega arith

stays : (most n k : ℕ) (a s : State) → steps most n a ≡ s → step most s ≡ s → steps most (n + k) a ≡ s
unfolding steps
stays most n zero a s e f = ap (λ m. steps most m a) (plus_zero n) ∙ e
stays most n (suc k) a s e f = ap (λ m. steps most m a) (plus_suc n k) ∙ ap (λ x. step most x) (stays most n k a s e f) ∙ f

same_end : (most n m : ℕ) (a s t : State) → steps most n a ≡ s → steps most m a ≡ t → step most s ≡ s → step most t ≡ t → s ≡ t
same_end most n m a s t e f g h = sym (stays most n m a s e g) ∙ ap (λ k. steps most k a) (plus_comm n m) ∙ stays most m n a t f h

one_end : (most : ℕ) (text : List ℕ) (ts ts' : List Token) (at at' : ℕ) (rest rest' : List ℕ) → Upto text ts at rest → Upto text ts' at' rest' → length ts ≤ most → length ts' ≤ most
    → step most (state ts at rest) ≡ state ts at rest → step most (state ts' at' rest') ≡ state ts' at' rest' → state ts at rest ≡ state ts' at' rest'
one_end most text ts ts' at at' rest rest' u v l m e f =
    let a = reached most text ts at rest u l in
    let b = reached most text ts' at' rest' v m in
    same_end most a.0 b.0 (state [] 0 text) (state ts at rest) (state ts' at' rest') a.1 b.1 e f

-- ---- where it stops

front_of_nothing : front [] ≡ fronts.BadCharacter
unfolding front token_at star_at form_at is_single
front_of_nothing = refl

no_piece : (most : ℕ) (s : State) (f : Front) → front s.rest ≡ f → is_piece f ≡ false → step most s ≡ s
unfolding step
no_piece most s f e h = ap (λ x. by most s x) e ∙ ap (λ o. cond (o && (has_room most (s.tokens ++ kept f s.at) && has_ascii (bare f s.rest))) (state (s.tokens ++ kept f s.at) (s.at + sized f) (drop (sized f) s.rest)) s) h

at_end : (most : ℕ) (ts : List Token) (at : ℕ) → step most (state ts at []) ≡ state ts at []
at_end most ts at = no_piece most (state ts at []) fronts.BadCharacter front_of_nothing refl

pub one_split : (text : List ℕ) (a b : List Token) → Splits text a → Splits text b → a ≡ b
one_split text a b u v =
    let most = length a + length b in
    ap (λ s. s.tokens) (one_end most text a b (length text) (length text) [] [] u v (omega arith) (omega arith) (at_end most a (length text)) (at_end most b (length text)))

-- ---- what it answers there

abbrev passed_at : List Token → ℕ
passed_at [] = 0
passed_at (t ∷ ts) = t.at

abbrev piece_fault : State → Front → LexFault
piece_fault s f =
    cond (has_room MAX_TOKENS (s.tokens ++ kept f s.at)) (NotAscii (s.at + prefix_len is_ascii (bare f s.rest))) (TooManyTokens (passed_at (drop MAX_TOKENS (s.tokens ++ kept f s.at))))

abbrev fault_at : State → Front → LexFault
fault_at s fronts.NotAscii = NotAscii s.at
fault_at s fronts.BadNumber = BadNumber s.at
fault_at s fronts.BadCharacter = BadCharacter s.at
fault_at s fronts.LongWord = BadCharacter (s.at + MAX_WORD)
fault_at s fronts.OpenComment = OpenComment s.at
fault_at s f = piece_fault s f

abbrev unless_done : List ℕ → List Token → LexFault → Result (List Token) LexFault
unless_done [] ts e = Ok ts
unless_done (b ∷ bs) ts e = Err e

final : State → Result (List Token) LexFault
final s = unless_done s.rest s.tokens (fault_at s (front s.rest))

-- a state at which the lexer stays, and what it answers there
record Rests (s : State) (o : Result (List Token) LexFault) : Type 0 where
  still : step MAX_TOKENS s ≡ s
  answer : final s ≡ o

not_done : (rest : List ℕ) (ts : List Token) (e : LexFault) → 0 < length rest → unless_done rest ts e ≡ Err e
not_done [] ts e h = absurd (omega arith)
not_done (b ∷ bs) ts e h = refl

plain_rests : (ts : List Token) (at : ℕ) (rest : List ℕ) (f : Front) (fault : LexFault) → 0 < length rest → front rest ≡ f → is_piece f ≡ false → fault_at (state ts at rest) f ≡ fault → Rests (state ts at rest) (Err fault)
unfolding final
plain_rests ts at rest f fault l e p q = record {
  still = no_piece MAX_TOKENS (state ts at rest) f e p;
  answer = not_done rest ts (fault_at (state ts at rest) (front rest)) l ∙ ap (λ x. Err (fault_at (state ts at rest) x)) e ∙ ap (λ x. Err x) q;
}

fault_of_piece : (s : State) (f : Front) → is_piece f ≡ true → fault_at s f ≡ piece_fault s f
fault_of_piece s fronts.NotAscii h = cc
fault_of_piece s fronts.BadNumber h = cc
fault_of_piece s fronts.BadCharacter h = cc
fault_of_piece s fronts.LongWord h = cc
fault_of_piece s fronts.OpenComment h = cc
fault_of_piece s f h = refl

no_room : (A : Type 0) (o p q : Bool) (x y : A) → p ≡ false → cond (o && (p && q)) x y ≡ y
no_room A true false q x y e = refl
no_room A true true q x y e = cc
no_room A false p q x y e = refl

no_ascii : (A : Type 0) (o p q : Bool) (x y : A) → q ≡ false → cond (o && (p && q)) x y ≡ y
no_ascii A true true false x y e = refl
no_ascii A true true true x y e = cc
no_ascii A true false q x y e = refl
no_ascii A false p q x y e = refl

still_full : (s : State) (f : Front) → front s.rest ≡ f → has_room MAX_TOKENS (s.tokens ++ kept f s.at) ≡ false → step MAX_TOKENS s ≡ s
unfolding step
still_full s f e h =
    ap (λ x. by MAX_TOKENS s x) e ∙ no_room State (is_piece f) (has_room MAX_TOKENS (s.tokens ++ kept f s.at)) (has_ascii (bare f s.rest)) _ _ h

still_foreign : (s : State) (f : Front) → front s.rest ≡ f → has_ascii (bare f s.rest) ≡ false → step MAX_TOKENS s ≡ s
unfolding step
still_foreign s f e h =
    ap (λ x. by MAX_TOKENS s x) e ∙ no_ascii State (is_piece f) (has_room MAX_TOKENS (s.tokens ++ kept f s.at)) (has_ascii (bare f s.rest)) _ _ h

final_piece : (ts : List Token) (at : ℕ) (rest : List ℕ) (piece : Piece) → IsPiece rest piece → final (state ts at rest) ≡ Err (piece_fault (state ts at rest) (front_of piece))
unfolding final
final_piece ts at rest piece h =
    let w = piece_within rest piece h in
    not_done rest ts (fault_at (state ts at rest) (front rest)) (omega (arith, w.0, w.1))
    ∙ ap (λ x. Err (fault_at (state ts at rest) x)) (piece_again rest piece h)
    ∙ ap (λ x. Err x) (fault_of_piece (state ts at rest) (front_of piece) (piece_is piece))

stray_rests : (ts : List Token) (at place : ℕ) (rest : List ℕ) (piece : Piece) → IsPiece rest piece → length (ts ++ tokens_of at piece) ≤ MAX_TOKENS → IsForeign at piece place → Rests (state ts at rest) (Err (NotAscii place))
stray_rests ts at place rest piece h l w =
    let f = front_of piece in
    record {
      still = still_foreign (state ts at rest) f (piece_again rest piece h)
          (ap (λ x. has_ascii x) (bare_is rest piece h) ∙ le_false (length (outside piece)) (prefix_len is_ascii (outside piece)) w.0);
      answer = final_piece ts at rest piece h
          ∙ ap (λ x. Err (cond x (NotAscii (at + prefix_len is_ascii (bare f rest))) (TooManyTokens (passed_at (drop MAX_TOKENS (ts ++ kept f at))))))
          (ap (λ x. has_room MAX_TOKENS (ts ++ x)) (kept_is at piece) ∙ le_true (length (ts ++ tokens_of at piece)) MAX_TOKENS l)
          ∙ ap (λ x. Err (NotAscii (at + prefix_len is_ascii x))) (bare_is rest piece h)
          ∙ ap (λ x. Err (NotAscii x)) (sym w.1);
    }

drop_passed : (before after : List Token) (n : ℕ) → length before ≡ n → drop n (before ++ after) ≡ after
drop_passed before after n e = ap (λ k. drop k (before ++ after)) (sym e) ∙ drop-append_seam before after

passed_rests : (ts : List Token) (at place : ℕ) (rest : List ℕ) (piece : Piece) → IsPiece rest piece → IsPassed (ts ++ tokens_of at piece) place → Rests (state ts at rest) (Err (TooManyTokens place))
passed_rests ts at place rest piece h w =
    let f = front_of piece in
    let many : MAX_TOKENS < length (ts ++ tokens_of at piece) = omega (arith, ap length w.3, length-append w.0 (w.2 ∷ w.1), w.4) in
    let none : has_room MAX_TOKENS (ts ++ kept f at) ≡ false = ap (λ x. has_room MAX_TOKENS (ts ++ x)) (kept_is at piece) ∙ le_false (length (ts ++ tokens_of at piece)) MAX_TOKENS many in
    record {
      still = still_full (state ts at rest) f (piece_again rest piece h) none;
      answer = final_piece ts at rest piece h
          ∙ ap (λ x. Err (cond x (NotAscii (at + prefix_len is_ascii (bare f rest))) (TooManyTokens (passed_at (drop MAX_TOKENS (ts ++ kept f at)))))) none
          ∙ ap (λ x. Err (TooManyTokens (passed_at (drop MAX_TOKENS (ts ++ x))))) (kept_is at piece)
          ∙ ap (λ x. Err (TooManyTokens (passed_at (drop MAX_TOKENS x)))) w.3
          ∙ ap (λ x. Err (TooManyTokens (passed_at x))) (drop_passed w.0 (w.2 ∷ w.1) MAX_TOKENS w.4)
          ∙ ap (λ x. Err (TooManyTokens x)) (sym w.5);
    }

some_rest : (rest : List ℕ) → front rest ≡ fronts.BadNumber → 0 < length rest
some_rest [] e = let no : fronts.BadCharacter ≡ fronts.BadNumber = sym front_of_nothing ∙ e in cc
some_rest (b ∷ bs) e = omega arith

word_rest : (rest : List ℕ) → front rest ≡ fronts.LongWord → 0 < length rest
word_rest [] e = let no : fronts.BadCharacter ≡ fronts.LongWord = sym front_of_nothing ∙ e in cc
word_rest (b ∷ bs) e = omega arith

halted : (fault : LexFault) (ts : List Token) (at : ℕ) (rest : List ℕ) → Halts fault ts at rest → Rests (state ts at rest) (Err fault)
halted (NotAscii place) ts at rest (inl h) = plain_rests ts at rest fronts.NotAscii (NotAscii place) (omega (arith, ap length h.1.2)) (foreign_again rest h.1) refl (ap (λ x. NotAscii x) (sym h.0))
halted (NotAscii place) ts at rest (inr h) = stray_rests ts at place rest h.0 h.1 h.2 h.3
halted (BadNumber place) ts at rest h =
    let e = number_again rest h.1 in
    plain_rests ts at rest fronts.BadNumber (BadNumber place) (some_rest rest e) e refl (ap (λ x. BadNumber x) (sym h.0))
halted (BadCharacter place) ts at rest (inl h) = plain_rests ts at rest fronts.BadCharacter (BadCharacter place) (omega (arith, ap length h.1.2)) (character_again rest h.1) refl (ap (λ x. BadCharacter x) (sym h.0))
halted (BadCharacter place) ts at rest (inr h) =
    let e = word_again rest h.1 in
    plain_rests ts at rest fronts.LongWord (BadCharacter place) (word_rest rest e) e refl (ap (λ x. BadCharacter x) (sym h.0))
halted (OpenComment place) ts at rest h = plain_rests ts at rest fronts.OpenComment (OpenComment place) (omega (arith, ap length h.1.1)) (open_again rest h.1) refl (ap (λ x. OpenComment x) (sym h.0))
halted (TooManyTokens place) ts at rest h = passed_rests ts at place rest h.0 h.1 h.2
halted Memory ts at rest h = absurd h

-- an answer, with the state at which the lexer has it
record Found (text : List ℕ) (o : Result (List Token) LexFault) : Type 0 where
  tokens : List Token
  at : ℕ
  rest : List ℕ
  upto : Upto text tokens at rest
  few : length tokens ≤ MAX_TOKENS
  rests : Rests (state tokens at rest) o

done_rests : (ts : List Token) (at : ℕ) → Rests (state ts at []) (Ok ts)
unfolding final
done_rests ts at = record { still = at_end MAX_TOKENS ts at; answer = refl }

found : (text : List ℕ) (o : Result (List Token) LexFault) → Answers text o → Found text o
found text (Ok tokens) h = record { tokens = tokens; at = length text; rest = []; upto = h.0; few = h.1; rests = done_rests tokens (length text) }
found text (Err fault) h = record { tokens = h.0; at = h.1; rest = h.2; upto = h.3; few = h.4; rests = halted fault h.0 h.1 h.2 h.5 }

pub one_answer : (text : List ℕ) (a b : Result (List Token) LexFault) → Answers text a → Answers text b → a ≡ b
one_answer text a b g h =
    let u = found text a g in
    let v = found text b h in
    sym u.rests.answer
    ∙ ap final (one_end MAX_TOKENS text u.tokens v.tokens u.at v.at u.rest v.rest u.upto v.upto u.few v.few u.rests.still v.rests.still)
    ∙ v.rests.answer

pub says_fault : (text : List ℕ) (fault : LexFault) → Refuses text fault → (answer : Result (List Token) LexFault) → Answers text answer → Says answer (Err fault)
says_fault text (NotAscii place) h answer a = one_answer text (Err (NotAscii place)) answer h a
says_fault text (BadNumber place) h answer a = one_answer text (Err (BadNumber place)) answer h a
says_fault text (BadCharacter place) h answer a = one_answer text (Err (BadCharacter place)) answer h a
says_fault text (OpenComment place) h answer a = one_answer text (Err (OpenComment place)) answer h a
says_fault text (TooManyTokens place) h answer a = one_answer text (Err (TooManyTokens place)) answer h a
says_fault text Memory h answer a = tt
