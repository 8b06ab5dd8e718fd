-- The line of a demonstration is the first line of each text that begins with it.
use Rattle.std.proofs.Common.{◌≡◌, ◌∙◌, ℕ, ◌+◌, ◌%◌, ◌^◌, ◌<◌, ◌≤◌, Bool, true, false, not, List, [], ◌∷◌, ◌++◌, Option, None, Some, get_or, length, take, append_assoc, refl, sym, ap, subst, inl, inr, arith}
use Rattle.std.specs.Prelude.{◌==◌, ◌||◌, codes, decimal}
use Rattle.std.specs.List.{list_any}
use Rattle.std.proofs.lemmas.Bool.{eq-eqb, false≢true, ne_eqb}
use Rattle.std.proofs.lemmas.Fmt.{decimal_by_steps}
use Rattle.std.specs.Option.{option_map}
use Rattle.std.proofs.lemmas.List.{take_all, take_more}
use Rattle.std.proofs.lemmas.List.Folds.{list_any-append, list_any_more}
use Rattle.demo_trials.specs.Demos.{IsDemo, IsShown, demo_text, is_path}
use Rattle.desk_demo.specs.Files.{IsFirstLine, IsLine}

-- whether a text has a line feed
abbrev has_feed : List ℕ → Bool
has_feed text = list_any (λ byte. byte == 10) text

-- ---- texts without line feeds

or_false : (a b : Bool) → a ≡ false → b ≡ false → (a || b) ≡ false
or_false true b e f = e
or_false false b e f = f

or_right : (a b : Bool) → (a || b) ≡ false → b ≡ false
or_right true b e = absurd (cc)
or_right false b e = e

free_both : (a b : List ℕ) → has_feed a ≡ false → has_feed b ≡ false → has_feed (a ++ b) ≡ false
free_both a b free other = list_any-append (λ byte. byte == 10) a b ∙ or_false _ _ free other

digit_free : (n : ℕ) → has_feed ((48 + n) ∷ []) ≡ false
digit_free n = or_false _ _ (ne_eqb (48 + n) 10 (λ e. omega arith)) refl

number_free : (n : ℕ) → n < 2 ^ 64 → has_feed (decimal n) ≡ false
number_free n small =
    decimal_by_steps (λ _ ds. has_feed ds ≡ false)
    (λ n _. digit_free n)
    (λ n ds _ front. free_both ds _ front (digit_free (n % 10)))
    n small

path_free : (path : List ℕ) → is_path path ≡ true → has_feed path ≡ false
path_free [] is = absurd (false≢true is)
path_free (byte ∷ path) is = off (has_feed (byte ∷ path)) is
  where
    off : (b : Bool) → not b ≡ true → b ≡ false
    off true e = absurd (false≢true e)
    off false e = refl

-- ---- the line of a demonstration

-- all of it but for its end
abbrev signal_front : List ℕ → List ℕ
signal_front path = codes " " ++ (codes "signal " ++ path)

abbrev step_front : ℕ → List ℕ → List ℕ
step_front step path = codes " " ++ (codes "step " ++ (decimal step ++ signal_front path))

abbrev front_text : ℕ → ℕ → List ℕ → List ℕ
front_text trial step path = codes "trial " ++ (decimal trial ++ step_front step path)

signal_free : (path : List ℕ) → is_path path ≡ true → has_feed (signal_front path) ≡ false
signal_free path spelled =
    free_both (codes " ") (codes "signal " ++ path) refl (free_both (codes "signal ") path refl (path_free path spelled))

step_free : (step : ℕ) (path : List ℕ) → IsShown step path → has_feed (step_front step path) ≡ false
step_free step path is =
    let last = is.last in
    free_both (codes " ") (codes "step " ++ (decimal step ++ signal_front path)) refl
    (free_both (codes "step ") (decimal step ++ signal_front path) refl
    (free_both (decimal step) (signal_front path) (number_free step (grind (arith, last))) (signal_free path is.spelled)))

front_free : (trial step : ℕ) (path : List ℕ) → IsDemo trial step path → has_feed (front_text trial step path) ≡ false
front_free trial step path is =
    let there = is.there in
    free_both (codes "trial ") (decimal trial ++ step_front step path) refl
    (free_both (decimal trial) (step_front step path) (number_free trial (grind (arith, there))) (step_free step path is.shown))

pub demo_is_line : (trial step : ℕ) (path : List ℕ) → IsDemo trial step path → IsLine (demo_text trial step path)
demo_is_line trial step path is =
    record {
      before = front_text trial step path;
      free = front_free trial step path is;
      is = sym (simp append_assoc);
    }

-- ---- the first line of a text

abbrev head_byte : List ℕ → ℕ
head_byte [] = 0
head_byte (byte ∷ bytes) = byte

abbrev other_bytes : List ℕ → List ℕ
other_bytes [] = []
other_bytes (byte ∷ bytes) = bytes

feed_first : (byte : ℕ) (rest : Bool) → byte ≡ 10 → ((byte == 10) || rest) ≡ false → ⊥
feed_first byte rest e none =
    let yes : ((byte == 10) || rest) ≡ true = ap (λ b. b || rest) (eq-eqb byte 10 e) in cc

same_front : (a b r s : List ℕ) → has_feed a ≡ false → has_feed b ≡ false → a ++ 10 ∷ r ≡ b ++ 10 ∷ s → (a ≡ b) × (r ≡ s)
same_front [] [] r s p q e = (refl, ap other_bytes e)
same_front [] (y ∷ b) r s p q e = absurd (feed_first y _ (sym (ap head_byte e)) q)
same_front (x ∷ a) [] r s p q e = absurd (feed_first x _ (ap head_byte e) p)
same_front (x ∷ a) (y ∷ b) r s p q e =
    let rest = same_front a b r s (or_right _ _ p) (or_right _ _ q) (ap other_bytes e) in
    (ap (λ u. u ∷ a) (ap head_byte e) ∙ ap (λ v. y ∷ v) rest.0, rest.1)

feed_there : (a r : List ℕ) → has_feed (a ++ 10 ∷ r) ≡ false → ⊥
feed_there [] r none = false≢true (sym none)
feed_there (x ∷ a) r none = feed_there a r (or_right _ _ none)

line_before : (line rest before : List ℕ) → line ≡ before ++ 10 ∷ [] → line ++ rest ≡ before ++ 10 ∷ rest
line_before line rest before is =
    ap (λ (one : List ℕ). one ++ rest) is ∙ append_assoc before (10 ∷ []) rest

-- the only line with which it begins
pub first_line : (text line rest one other : List ℕ) → text ≡ line ++ rest → IsFirstLine text line rest → IsLine one → text ≡ one ++ other → (line ≡ one) × (rest ≡ other)
first_line text line rest one other parts (inl is) begins ends =
    let same = same_front is.before begins.before rest other is.free begins.free
    (sym (line_before line rest is.before is.is) ∙ sym parts ∙ ends ∙ line_before one other begins.before begins.is) in
    (is.is ∙ ap (λ (front : List ℕ). front ++ 10 ∷ []) same.0 ∙ sym begins.is, same.1)
first_line text line rest one other parts (inr free) begins ends =
    absurd (feed_there begins.before other (subst (λ (all : List ℕ). has_feed all ≡ false) (ends ∙ line_before one other begins.before begins.is) free.0))

-- ---- a text that is looked through

-- one byte more that is no line feed
pub more_free : (text : List ℕ) (i : ℕ) → i < length text → has_feed (take i text) ≡ false → (get_or text i 0 ≡ 10 → ⊥) → has_feed (take (i + 1) text) ≡ false
more_free text i below free other =
    list_any_more (λ byte. byte == 10) text i 0 below ∙ or_false _ _ free (ne_eqb (get_or text i 0) 10 other)

-- a line feed
pub line_cut : (text : List ℕ) (i : ℕ) → i < length text → has_feed (take i text) ≡ false → get_or text i 0 ≡ 10 → IsLine (take (i + 1) text)
line_cut text i below free feed =
    record {
      before = take i text;
      free = free;
      is = take_more text i 0 below ∙ ap (λ (byte : ℕ). take i text ++ byte ∷ []) feed;
    }

-- none
pub all_free : (text : List ℕ) (n : ℕ) → length text ≤ n → has_feed (take n text) ≡ false → has_feed text ≡ false
all_free text n past free = ap has_feed (sym (take_all n text past)) ∙ free

-- nothing is behind a line
pub empty_from : (rest : List ℕ) (r : Bool) → r ≡ (length rest == 0) → (r ≡ false → ⊥) → rest ≡ []
empty_from [] r is some = refl
empty_from (byte ∷ rest) r is some = absurd (some (is ∙ ne_eqb (length (byte ∷ rest)) 0 (λ e. omega (arith, e))))

-- ---- signals

pub none_there : {A : Type 0} (f : ℕ → A) (o : Option ℕ) → None ≡ option_map f o → o ≡ None
none_there f None e = refl
none_there f (Some at) e = absurd (cc)
