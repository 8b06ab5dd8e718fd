-- Operators give known bits for known ones.
use Rattle.std.proofs.Common.{◌≡◌, ◌∙◌, ◌+◌, ◌-◌, ◌*◌, ◌/◌, ◌%◌, ◌^◌, ◌<◌, ◌≤◌, ℕ, zero, suc, ℤ, pos, negsuc, int_div, int_rem, Bool, true, false, cond, ◌||◌, ◌==◌, ap, List, [], ◌∷◌, ◌++◌, length, map, take, drop, replicate, get_or, refl, arith}
use Rattle.std.specs.List.{list_any}
use Rattle.std.proofs.lemmas.Bool.{ne_eqb, or_from, or_parts}
use Rattle.std.proofs.lemmas.List.Folds.{list_any-append}
use Rattle.rtl_bits.specs.declared.Bit.{Bit}
use Rattle.rtl_bits.specs.declared.Bit.TheVariants.{Zero, One, X, Z}
use Rattle.rtl_bits.specs.Bit.{and_bit, is_one, is_unknown, known_bit, not_bit, or_bit, xor_bit}
use Rattle.rtl_bits.specs.Bits.{all_x, arithmetic, bits_of, bits_of_signed, copies, division, extended, has_unknown, number, reduced, selected, shifted_right, signed_division, signed_number, top_bit, truth_bit, zip_with}
use Rattle.rtl_bits.proofs.Known.{has_unknown-bits_of}
use Rattle.rtl_flat.specs.declared.expr.Turn.{Turn}
use Rattle.rtl_flat.specs.declared.expr.Turn.TheVariants.{Plus, Minus, Complement}
use Rattle.rtl_flat.specs.declared.expr.Join.{Join}
use Rattle.rtl_flat.specs.declared.expr.Join.TheVariants as join
use Rattle.rtl_flat.specs.declared.expr.Compare.{Compare}
use Rattle.rtl_flat.specs.declared.expr.Compare.TheVariants as compare
use Rattle.rtl_flat.specs.declared.expr.Link.{Link}
use Rattle.rtl_flat.specs.declared.expr.Link.TheVariants as link
use Rattle.rtl_flat.specs.declared.expr.Fold.{Fold}
use Rattle.rtl_flat.specs.declared.expr.Fold.TheVariants as fold
use Rattle.rtl_flat.specs.declared.expr.Shift.{Shift}
use Rattle.rtl_flat.specs.declared.expr.Shift.TheVariants as shift
use Rattle.rtl_flat.specs.Value.{chosen, compared, folded, joined, linked, shifted, turned}

-- no bit is x or z
abbrev pub Known : List Bit → Type 0
Known bits = has_unknown bits ≡ false

abbrev pub KnownBit : Bit → Type 0
KnownBit b = is_unknown b ≡ false

-- an operator on equal operands
pub both : {A B C : Type 0} (f : A → B → C) (a a' : A) (b b' : B) → a ≡ a' → b ≡ b' → f a b ≡ f a' b'
both f a a' b b' left right = ap (λ x. f x b) left ∙ ap (f a') right

-- ---- lists

pub known_cons : (b : Bit) (a : List Bit) → KnownBit b → Known a → Known (b ∷ a)
known_cons b a first others = or_from (is_unknown b) (has_unknown a) first others

pub known_one : (b : Bit) → KnownBit b → Known (b ∷ [])
known_one b known = known_cons b [] known refl

pub first_known : (b : Bit) (a : List Bit) → Known (b ∷ a) → KnownBit b
first_known b a known = (or_parts (is_unknown b) (has_unknown a) known).0

pub others_known : (b : Bit) (a : List Bit) → Known (b ∷ a) → Known a
others_known b a known = (or_parts (is_unknown b) (has_unknown a) known).1

pub known_append : (a b : List Bit) → Known a → Known b → Known (a ++ b)
known_append a b left right =
    list_any-append is_unknown a b ∙ or_from (has_unknown a) (has_unknown b) left right

pub known_take : (n : ℕ) (a : List Bit) → Known a → Known (take n a)
known_take zero a known = refl
known_take (suc n) [] known = refl
known_take (suc n) (b ∷ a) known =
    known_cons b (take n a) (first_known b a known) (known_take n a (others_known b a known))

pub known_drop : (n : ℕ) (a : List Bit) → Known a → Known (drop n a)
known_drop zero a known = known
known_drop (suc n) [] known = refl
known_drop (suc n) (b ∷ a) known = known_drop n a (others_known b a known)

pub known_replicate : (n : ℕ) (b : Bit) → KnownBit b → Known (replicate n b)
known_replicate zero b known = refl
known_replicate (suc n) b known = known_cons b (replicate n b) known (known_replicate n b known)

pub known_at : (a : List Bit) (k : ℕ) → Known a → k < length a → KnownBit (get_or a k X)
known_at [] k known below = absurd (omega (arith, below))
known_at (b ∷ a) zero known below = first_known b a known
known_at (b ∷ a) (suc k) known below = known_at a k (others_known b a known) (omega (arith, below))

-- known at each place
pub known_each : (a : List Bit) → ((k : ℕ) → k < length a → KnownBit (get_or a k X)) → Known a
known_each [] each = refl
known_each (b ∷ a) each =
    known_cons b a (each 0 (omega arith)) (known_each a (λ k below. each (suc k) (omega (arith, below))))

known_map : (f : Bit → Bit) → ((b : Bit) → KnownBit b → KnownBit (f b)) → (a : List Bit) → Known a → Known (map f a)
known_map f each [] known = refl
known_map f each (b ∷ a) known =
    known_cons (f b) (map f a) (each b (first_known b a known)) (known_map f each a (others_known b a known))

known_zip : (f : Bit → Bit → Bit) → ((x y : Bit) → KnownBit x → KnownBit y → KnownBit (f x y)) → (a b : List Bit) → Known a → Known b → Known (zip_with f a b)
known_zip f each [] b left right = refl
known_zip f each (x ∷ a) [] left right = refl
known_zip f each (x ∷ a) (y ∷ b) left right =
    known_cons (f x y) (zip_with f a b) (each x y (first_known x a left) (first_known y b right))
    (known_zip f each a b (others_known x a left) (others_known y b right))

known_copies : (n : ℕ) (a : List Bit) → Known a → Known (copies n a)
known_copies zero a known = refl
known_copies (suc n) a known = known_append a (copies n a) known (known_copies n a known)

-- ---- bits

known_is : (b : Bool) → KnownBit (known_bit b)
known_is true = refl
known_is false = refl

not_known : (b : Bit) → KnownBit b → KnownBit (not_bit b)
not_known Zero known = refl
not_known One known = refl
not_known X known = cc
not_known Z known = cc

and_known : (x y : Bit) → KnownBit x → KnownBit y → KnownBit (and_bit x y)
and_known Zero y left right = refl
and_known One Zero left right = refl
and_known One One left right = refl
and_known One X left right = cc
and_known One Z left right = cc
and_known X y left right = cc
and_known Z y left right = cc

pub or_known : (x y : Bit) → KnownBit x → KnownBit y → KnownBit (or_bit x y)
or_known Zero Zero left right = refl
or_known Zero One left right = refl
or_known Zero X left right = cc
or_known Zero Z left right = cc
or_known One y left right = refl
or_known X y left right = cc
or_known Z y left right = cc

xor_known : (x y : Bit) → KnownBit x → KnownBit y → KnownBit (xor_bit x y)
xor_known Zero Zero left right = refl
xor_known Zero One left right = refl
xor_known Zero X left right = cc
xor_known Zero Z left right = cc
xor_known One Zero left right = refl
xor_known One One left right = refl
xor_known One X left right = cc
xor_known One Z left right = cc
xor_known X y left right = cc
xor_known Z y left right = cc

-- a known choice
known_either : (c : Bool) (x y : List Bit) → (c ≡ true → Known x) → (c ≡ false → Known y) → Known (cond c x y)
known_either true x y left right = left refl
known_either false x y left right = right refl

known_either_bit : (c : Bool) (x y : Bit) → (c ≡ true → KnownBit x) → (c ≡ false → KnownBit y) → KnownBit (cond c x y)
known_either_bit true x y left right = left refl
known_either_bit false x y left right = right refl

pub truth_known : (a : List Bit) → Known a → KnownBit (truth_bit a)
truth_known a known =
    known_either_bit (list_any is_one a) One (cond (has_unknown a) X Zero) (λ is. refl)
    (λ none. known_either_bit (has_unknown a) X Zero (λ is. absurd (cc (is, known))) (λ is. refl))

reduced_known : (f : Bit → Bit → Bit) → ((x y : Bit) → KnownBit x → KnownBit y → KnownBit (f x y)) → (start : Bit) → KnownBit start → (a : List Bit) → Known a → KnownBit (reduced f start a)
reduced_known f each start known [] all = refl ∙ known
reduced_known f each start known (b ∷ a) all =
    each b (reduced f start a) (first_known b a all) (reduced_known f each start known a (others_known b a all))

-- ---- operators

-- of a test that fails
absent : (b : Bool) → b ≡ false → b ≡ true → ⊥
absent b not_so so = cc

known_arithmetic : (f : ℕ → ℕ → ℕ) (a b : List Bit) → Known a → Known b → Known (arithmetic f a b)
known_arithmetic f a b left right =
    known_either (has_unknown a || has_unknown b) (all_x (length a)) (bits_of (length a) (f (number a) (number b)))
    (λ is. absurd (absent _ (or_from (has_unknown a) (has_unknown b) left right) is)) (λ not_so. has_unknown-bits_of (length a) _)

known_division : (f : ℕ → ℕ → ℕ) (a b : List Bit) → Known a → Known b → (number b ≡ 0 → ⊥) → Known (division f a b)
known_division f a b left right nonzero =
    known_either (number b == 0) (all_x (length a)) (arithmetic f a b)
    (λ is. absurd (absent _ (ne_eqb (number b) 0 nonzero) is)) (λ not_so. known_arithmetic f a b left right)

known_signed : (width : ℕ) (n : ℤ) → Known (bits_of_signed width n)
known_signed width (pos n) = has_unknown-bits_of width n
known_signed width (negsuc n) = has_unknown-bits_of width (2 ^ width - suc n)

known_signed_division : (f : ℤ → ℤ → ℤ) (a b : List Bit) → Known a → Known b → (number b ≡ 0 → ⊥) → Known (signed_division f a b)
known_signed_division f a b left right nonzero =
    known_either (has_unknown a || has_unknown b || (number b == 0)) (all_x (length a)) (bits_of_signed (length a) (f (signed_number a) (signed_number b)))
    (λ is. absurd (absent _ (or_from (has_unknown a || has_unknown b) (number b == 0) (or_from (has_unknown a) (has_unknown b) left right) (ne_eqb (number b) 0 nonzero)) is))
    (λ not_so. known_signed (length a) _)

pub turned_known : (operator : Turn) (a : List Bit) → Known a → Known (turned operator a)
turned_known Plus a known =
    known_either (has_unknown a) (all_x (length a)) a (λ is. absurd (absent _ known is)) (λ not_so. known)
turned_known Minus a known =
    known_either (has_unknown a) (all_x (length a)) (bits_of (length a) (2 ^ length a - number a))
    (λ is. absurd (absent _ known is)) (λ not_so. has_unknown-bits_of (length a) _)
turned_known Complement a known = known_map not_bit not_known a known

-- a divisor that is to have a number other than 0
abbrev pub NeedsNonzero : Join → ℕ → Type 0
NeedsNonzero join.Add n = Unit {0}
NeedsNonzero join.Subtract n = Unit {0}
NeedsNonzero join.Multiply n = Unit {0}
NeedsNonzero join.Divide n = n ≡ 0 → ⊥
NeedsNonzero join.Remainder n = n ≡ 0 → ⊥
NeedsNonzero join.And n = Unit {0}
NeedsNonzero join.Or n = Unit {0}
NeedsNonzero join.Xor n = Unit {0}
NeedsNonzero join.Xnor n = Unit {0}

pub joined_known : (operator : Join) (signed : Bool) (a b : List Bit) → Known a → Known b → NeedsNonzero operator (number b) → Known (joined operator signed a b)
joined_known join.Add signed a b left right needs =
    known_arithmetic (λ m n. m + n) a b left right
joined_known join.Subtract signed a b left right needs =
    known_arithmetic (λ m n. m + (2 ^ length a - n)) a b left right
joined_known join.Multiply signed a b left right needs =
    known_arithmetic (λ m n. m * n) a b left right
joined_known join.Divide signed a b left right needs =
    known_either signed _ _ (λ is. known_signed_division int_div a b left right needs) (λ not_so. known_division (λ m n. m / n) a b left right needs)
joined_known join.Remainder signed a b left right needs =
    known_either signed _ _ (λ is. known_signed_division int_rem a b left right needs) (λ not_so. known_division (λ m n. m % n) a b left right needs)
joined_known join.And signed a b left right needs = known_zip and_bit and_known a b left right
joined_known join.Or signed a b left right needs = known_zip or_bit or_known a b left right
joined_known join.Xor signed a b left right needs = known_zip xor_bit xor_known a b left right
joined_known join.Xnor signed a b left right needs =
    known_map not_bit not_known (zip_with xor_bit a b) (known_zip xor_bit xor_known a b left right)

open_test : (f : Bool) (x y : Bit) → f ≡ false → KnownBit y → KnownBit (cond f x y)
open_test f x y none known = known_either_bit f x y (λ is. absurd (absent f none is)) (λ _. known)

equal_known : (a b : List Bit) (same : Bool) → Known a → Known b → KnownBit (cond same (cond (has_unknown a || has_unknown b) X One) Zero)
equal_known a b true left right =
    open_test (has_unknown a || has_unknown b) X One (or_from (has_unknown a) (has_unknown b) left right) refl
equal_known a b false left right = refl

less_known : (a b : List Bit) (less : Bool) → Known a → Known b → KnownBit (cond (has_unknown a || has_unknown b) X (known_bit less))
less_known a b less left right =
    open_test (has_unknown a || has_unknown b) X (known_bit less) (or_from (has_unknown a) (has_unknown b) left right) (known_is less)

pub compared_known : (operator : Compare) (signed : Bool) (a b : List Bit) → Known a → Known b → KnownBit (compared operator signed a b)
compared_known compare.Equal signed a b left right = equal_known a b _ left right
compared_known compare.NotEqual signed a b left right =
    not_known _ (equal_known a b _ left right)
compared_known compare.CaseEqual signed a b left right = known_is _
compared_known compare.CaseNotEqual signed a b left right = not_known _ (known_is _)
compared_known compare.Less signed a b left right = less_known a b _ left right
compared_known compare.LessOrEqual signed a b left right =
    not_known _ (less_known b a _ right left)
compared_known compare.Greater signed a b left right = less_known b a _ right left
compared_known compare.GreaterOrEqual signed a b left right =
    not_known _ (less_known a b _ left right)

pub linked_known : (operator : Link) (a b : List Bit) → Known a → Known b → KnownBit (linked operator a b)
linked_known link.And a b left right =
    and_known (truth_bit a) (truth_bit b) (truth_known a left) (truth_known b right)
linked_known link.Or a b left right =
    or_known (truth_bit a) (truth_bit b) (truth_known a left) (truth_known b right)

pub folded_known : (operator : Fold) (a : List Bit) → Known a → KnownBit (folded operator a)
folded_known fold.Negation a known = not_known (truth_bit a) (truth_known a known)
folded_known fold.And a known = reduced_known and_bit and_known One refl a known
folded_known fold.Nand a known = not_known _ (reduced_known and_bit and_known One refl a known)
folded_known fold.Or a known = reduced_known or_bit or_known Zero refl a known
folded_known fold.Nor a known = not_known _ (reduced_known or_bit or_known Zero refl a known)
folded_known fold.Xor a known = reduced_known xor_bit xor_known Zero refl a known
folded_known fold.Xnor a known = not_known _ (reduced_known xor_bit xor_known Zero refl a known)

pub top_known : (a : List Bit) → Known a → 1 ≤ length a → KnownBit (top_bit a)
top_known a known some = known_at a (length a - 1) known (omega (arith, some))

right_known : (b : Bit) (a amount : List Bit) → KnownBit b → Known a → Known amount → Known (shifted_right b a amount)
right_known b a amount new known by =
    known_either (has_unknown amount) (all_x (length a)) _ (λ is. absurd (absent _ by is))
    (λ not_so. known_take (length a) _ (known_append (drop (number amount) a) (replicate (number amount) b) (known_drop (number amount) a known) (known_replicate (number amount) b new)))

pub shifted_known : (operator : Shift) (signed : Bool) (a amount : List Bit) → 1 ≤ length a → Known a → Known amount → Known (shifted operator signed a amount)
shifted_known shift.Left signed a amount some known by =
    known_either (has_unknown amount) (all_x (length a)) _ (λ is. absurd (absent _ by is))
    (λ not_so. known_take (length a) _ (known_append (replicate (number amount) Zero) a (known_replicate (number amount) Zero refl) known))
shifted_known shift.Right signed a amount some known by = right_known Zero a amount refl known by
shifted_known shift.ArithmeticRight signed a amount some known by =
    right_known (cond signed (top_bit a) Zero) a amount (known_either_bit signed (top_bit a) Zero (λ is. top_known a known some) (λ not_so. refl)) known by

pub chosen_known : (c : Bit) (a b : List Bit) → KnownBit c → Known a → Known b → Known (chosen c a b)
chosen_known One a b test left right = left
chosen_known Zero a b test left right = right
chosen_known X a b test left right = cc
chosen_known Z a b test left right = cc

pub extended_known : (width : ℕ) (signed : Bool) (a : List Bit) → 1 ≤ length a → Known a → Known (extended width signed a)
extended_known width signed a some known =
    known_append (take width a) _ (known_take width a known)
    (known_replicate (width - length a) (cond signed (top_bit a) Zero) (known_either_bit signed (top_bit a) Zero (λ is. top_known a known some) (λ not_so. refl)))

pub selected_known : (at width : ℕ) (a : List Bit) → Known a → Known (selected at width a)
selected_known at width a known = known_take width (drop at a) (known_drop at a known)

pub copies_known : (times : ℕ) (a : List Bit) → Known a → Known (copies times a)
copies_known times a known = known_copies times a known
