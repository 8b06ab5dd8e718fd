-- What expressions without findings are.
use Rattle.std.proofs.Math.Nat.{one-le-pow}
use Rattle.std.proofs.Common.{◌≡◌, ◌∙◌, ◌+◌, ◌^◌, ◌<◌, ◌≤◌, ℕ, zero, suc, Bool, true, false, not, ◌||◌, List, [], ◌∷◌, ◌++◌, Option, None, Some, length, refl, sym, ap, subst, arith, pow-suc}
use Rattle.std.specs.Prelude.{ℤ, pos, ◌-ℤ◌, ◌==◌, if◌then◌else◌, nat_le, nat_lt}
use Rattle.std.specs.List.{All, cons_option, filter, filter_map, flat_map, list_all, list_any, slice_get}
use Rattle.std.proofs.lemmas.Bool.{and_from, and_parts, both_ways, eq-eqb, false≢true, le-leb, lt-ltb, ltb-false, not-true, not_from_false, or_left, or_parts, or_right, true_from_ne_false, false_from_ne_true}
use Rattle.rtl_bits.specs.declared.Bit.{Bit}
use Rattle.rtl_bits.specs.declared.Bit.TheVariants.{Zero, One, X, Z}
use Rattle.rtl_bits.specs.Bits.{number, same_bit}
use Rattle.text_ground.specs.declared.text.Spot.{Spot}
use Rattle.rtl_flat.specs.declared.expr.Join.{Join}
use Rattle.rtl_flat.specs.declared.expr.Join.TheVariants as join
use Rattle.rtl_flat.specs.Expression.{Tree, Sized, Literal, Whole, BitAt, BitBy, Part, Turned, Joined, Compared, Linked, Folded, Shifted, Chosen, Empty, Beside, Repeated, Recast}
use Rattle.rtl_flat.specs.Flows.{all_bits, is_place, reads, span}
use Rattle.rtl_flat.specs.Process.{Piece, Task, Watched}
use Rattle.rtl_flat.specs.Signs.{sign_of}
use Rattle.rtl_flat.specs.Sizes.{IsSized, width_of}
use Rattle.rtl_flat.specs.Value.{value}
use Rattle.event_model.specs.Queue.{doing_of}
use Rattle.net_laws.proofs.Firm.{constant_value}
use Rattle.net_laws.proofs.event_laws_proofs.Targets.{place_of}
use Rattle.net_laws.specs.Rules.{DividesBy, DividesByPower, EachPart, HasNone, IsNoSignal, IsPower, SelectsInside}
use Rattle.net_laws.specs.Tame.{IsPlace}
use Rattle.rtl_rule.specs.Parts.{constant_of, has_some, is_literal_with, is_one_literal, is_x, is_z, items_of, labels, nodes, pieces, reads_signal, some_below, trees, unknowns, valued_trees}
use Rattle.rtl_flat.specs.Flats.{Flat, widths}
use Rattle.check_assign.specs.Assigned.{IsTristate, tristate_at}
use Rattle.check_unknown.specs.Unknowns.{AreSelectRange, IsDivideVariable, IsSelectRange, IsUnknownLiteral, Pick, all_nodes, at_node, divides_by_other, has_one, is_power, is_zero, may_miss, pick_in, pick_of, picks, select_range_at, unknown_literal_at}
use Rattle.rtl_rule.specs.declared.rule.Rule.TheVariants as rule
use Rattle.check_laws.specs.Expressions.{AreMarked, DivideVariable, IsForm, IsMarked, IsRow, SelectRange, Tristate, UnknownLiteral}
use Rattle.rtl_rule.proofs.Below.{some_at, some_found}
use Rattle.check_unknown.proofs.Sized.{nodes_of_sized}
use Rattle.check_unknown.proofs.check_parts_proofs.OwnReads.{width_inside}
use Rattle.rtl_rule.proofs.Lists.{Each, each_all, each_both, each_flat, each_from, each_join, each_kept, each_left, each_right}
use Rattle.check_laws.proofs.Sites.{process_refuted, refuted_in}
use Rattle.check_laws.proofs.Operands.{each_part}

-- ---- lists

pub each_false : {A : Type 0} (test : A → Bool) (xs : List A) → (list_any test xs ≡ true → ⊥) → Each (λ x. test x ≡ true → ⊥) xs
each_false test [] h = tt
each_false test (x ∷ xs) h =
    (λ is. h (or_left (test x) (list_any test xs) is), each_false test xs (λ is. h (or_right (test x) (list_any test xs) is)))

none_some : {B : Type 0} (o : Option B) (y : B) → o ≡ None → o ≡ Some y → ⊥
none_some o y e is = absurd (cc)

same_some : {B : Type 0} (x y : B) → Some x ≡ Some y → x ≡ y
same_some x y e = cc

some_first : {A B : Type 0} (P : B → Type 0) (f : A → Option B) (x : A) (xs : List A) → (Each P (filter_map f xs) → Each (λ a. (y : B) → f a ≡ Some y → P y) xs) → (o : Option B) → f x ≡ o → Each P (cons_option o (filter_map f xs)) → Each (λ a. (y : B) → f a ≡ Some y → P y) (x ∷ xs)
some_first P f x xs more None e rest = (λ y is. absurd (none_some (f x) y e is), more rest)
some_first P f x xs more (Some z) e rest =
    (λ y is. subst P (same_some z y (sym e ∙ is)) rest.0, more rest.1)

pub each_some : {A B : Type 0} (P : B → Type 0) (f : A → Option B) (xs : List A) → Each P (filter_map f xs) → Each (λ x. (y : B) → f x ≡ Some y → P y) xs
each_some P f [] h = tt
each_some P f (x ∷ xs) h = some_first P f x xs (each_some P f xs) (f x) refl h

-- ---- X1 and Z1

any_same : (f g : Bit → Bool) → ((b : Bit) → f b ≡ g b) → (bits : List Bit) → list_any f bits ≡ list_any g bits
any_same f g same [] = refl
any_same f g same (b ∷ bits) = ap (λ x. x || list_any f bits) (same b) ∙ ap (λ x. g b || x) (any_same f g same bits)

x_same : (b : Bit) → same_bit X b ≡ is_x b
x_same Zero = refl
x_same One = refl
x_same X = refl
x_same Z = refl

z_same : (b : Bit) → same_bit Z b ≡ is_z b
z_same Zero = refl
z_same One = refl
z_same X = refl
z_same Z = refl

-- no literal in an expression has a bit
module _ (b : Bit) (test : Bit → Bool) (tells : (bits : List Bit) → list_any (same_bit b) bits ≡ true → list_any test bits ≡ true) where
  without : (w : ℕ) (s : Bool) (at : Spot) (e : Tree) → IsForm e → (is_literal_with test (Sized w s at e) ≡ true → ⊥) → HasNone b e
  without w s at (Sized w' s' at' e) marked q = absurd marked
  without w s at (Literal bits) marked q = false_from_ne_true _ (λ is. q (tells bits is))
  without w s at (Whole i) marked q = tt
  without w s at (BitAt i low index) marked q = tt
  without w s at (BitBy i low signed index) marked q = tt
  without w s at (Part i low width) marked q = tt
  without w s at (Turned operator a) marked q = tt
  without w s at (Joined operator signed a b) marked q = tt
  without w s at (Compared operator signed a b) marked q = tt
  without w s at (Linked operator a b) marked q = tt
  without w s at (Folded operator a) marked q = tt
  without w s at (Shifted operator signed a amount) marked q = tt
  without w s at (Chosen c a b) marked q = tt
  without w s at Empty marked q = tt
  without w s at (Beside a others) marked q = tt
  without w s at (Repeated times a) marked q = tt
  without w s at (Recast a) marked q = tt

  pub has_none : (e : Tree) → IsMarked e → Each (λ node. is_literal_with test node ≡ true → ⊥) (nodes e) → EachPart (HasNone b) e
  has_none =
      each_part (HasNone b) (λ node. is_literal_with test node ≡ true → ⊥) (λ w s at e. tt) tt (λ a others. tt) without

  pub all_have_none : (es : List Tree) → Each IsMarked es → Each (λ node. is_literal_with test node ≡ true → ⊥) (flat_map nodes es) → Each (EachPart (HasNone b)) es
  all_have_none es marked h =
      each_both IsMarked (λ e. Each (λ node. is_literal_with test node ≡ true → ⊥) (nodes e)) (EachPart (HasNone b)) has_none es marked (each_flat (λ node. is_literal_with test node ≡ true → ⊥) nodes es h)

x_tells : (bits : List Bit) → list_any (same_bit X) bits ≡ true → list_any is_x bits ≡ true
x_tells bits is = sym (any_same (same_bit X) is_x x_same bits) ∙ is

z_tells : (bits : List Bit) → list_any (same_bit Z) bits ≡ true → list_any is_z bits ≡ true
z_tells bits is = sym (any_same (same_bit Z) is_z z_same bits) ∙ is

-- the expressions of a process that stand for numbers are marked
valued_marked : (d : Flat) → AreMarked d → (p : ℕ) (task : Task) → slice_get d.tasks p ≡ Some task → Each IsMarked (valued_trees task.does)
valued_marked d marked p task there =
    let of_labels = each_from IsMarked (labels task.does) (marked p task there).1 in
    each_join IsMarked (trees task.does) (filter (λ label. not (is_one_literal label)) (labels task.does))
    (each_from IsMarked (trees task.does) (marked p task there).0)
    (each_kept IsMarked (λ label. not (is_one_literal label)) (labels task.does) of_labels)

pub unknown_literal : (d : Flat) → UnknownLiteral d
unknown_literal d marked none p task there =
    let es = valued_trees task.does in
    each_all (EachPart (HasNone X)) es (all_have_none X is_x x_tells es (valued_marked d marked p task there) (each_false (is_literal_with is_x) (flat_map nodes es) (process_refuted IsUnknownLiteral (unknown_literal_at d) d none p task there)))

pub tristate : (d : Flat) → Tristate d
tristate d marked none p task there =
    let es = valued_trees task.does in
    each_all (EachPart (HasNone Z)) es (all_have_none Z is_z z_tells es (valued_marked d marked p task there) (each_false (is_literal_with is_z) (flat_map nodes es) (process_refuted IsTristate (tristate_at d) d none p task there)))

-- ---- X2

-- what is selected is inside
module _ (d : Flat) where
  abbrev Inside : Tree → Type 0
  Inside node = (one : Pick) → pick_in node ≡ Some one → may_miss (widths d) one one.index ≡ true → ⊥

  placed_in : (i low : ℕ) (index : ℤ) → some_below (widths d i) (is_place low index) ≡ true → IsPlace (index -ℤ pos low) (widths d i)
  placed_in i low index h =
      let found = some_found (widths d i) (is_place low index) h in
      subst (λ place. IsPlace place (widths d i)) (sym (place_of low found.number index found.is)) found.below

  inside : (w : ℕ) (s : Bool) (at : Spot) (e : Tree) → IsForm e → Inside (Sized w s at e) → SelectsInside d e
  inside w s at (Sized w' s' at' e) marked q = absurd marked
  inside w s at (Literal bits) marked q = tt
  inside w s at (Whole i) marked q = tt
  inside w s at (BitAt i low index) marked q = placed_in i low index (true_from_ne_false _ (λ missing. q _ refl (not_from_false _ missing)))
  inside w s at (BitBy i low signed index) marked q =
      let here = or_parts (sign_of index) (nat_lt 0 low || nat_lt (widths d i) (2 ^ width_of (widths d) index)) (false_from_ne_true _ (q _ refl)) in
      let there = or_parts (nat_lt 0 low) (nat_lt (widths d i) (2 ^ width_of (widths d) index)) here.1 in
      let at_zero = ltb-false 0 low there.0 in
      (sym marked.0 ∙ here.0, omega (arith, at_zero), ltb-false (widths d i) (2 ^ width_of (widths d) index) there.1)
  inside w s at (Part i low width) marked q = tt
  inside w s at (Turned operator a) marked q = tt
  inside w s at (Joined operator signed a b) marked q = tt
  inside w s at (Compared operator signed a b) marked q = tt
  inside w s at (Linked operator a b) marked q = tt
  inside w s at (Folded operator a) marked q = tt
  inside w s at (Shifted operator signed a amount) marked q = tt
  inside w s at (Chosen c a b) marked q = tt
  inside w s at Empty marked q = tt
  inside w s at (Beside a others) marked q = tt
  inside w s at (Repeated times a) marked q = tt
  inside w s at (Recast a) marked q = tt

  selects : (e : Tree) → IsMarked e → Each Inside (nodes e) → EachPart (SelectsInside d) e
  selects = each_part (SelectsInside d) Inside (λ w s at e. tt) tt (λ a others. tt) inside

  all_select : (es : List Tree) → Each IsMarked es → Each (λ e. Each Inside (nodes e)) es → All (EachPart (SelectsInside d)) es
  all_select es marked h =
      each_all (EachPart (SelectsInside d)) es (each_both IsMarked (λ e. Each Inside (nodes e)) (EachPart (SelectsInside d)) selects es marked h)

selects_in : (d : Flat) → AreSelectRange d [] → (p : ℕ) (task : Task) → slice_get d.tasks p ≡ Some task → Each (Inside d) (all_nodes task.does)
selects_in d none p task there =
    let does = task.does in
    let lawful = λ (one : Pick). may_miss (widths d) one one.index ≡ true → ⊥ in
    let all = refuted_in (IsSelectRange d) select_range_at picks d none p task there in
    let listed = filter_map (λ (item : Watched). pick_of item.signal item.spot item.selection) (items_of does) in
    let selected = filter_map pick_in (all_nodes does) in
    let written = filter_map (λ (piece : Piece). pick_of piece.signal piece.spot piece.selection) (pieces does) in
    let read = each_right lawful listed selected (each_left lawful (listed ++ selected) written all) in
    each_some lawful pick_in (all_nodes does) read

pub select_range : (d : Flat) → SelectRange d
select_range d marked none p task there =
    let does = task.does in
    let of_nodes = selects_in d none p task there in
    let of_all = each_flat (Inside d) nodes (trees does ++ labels does) of_nodes in
    let nodes_inside = λ (e : Tree). Each (Inside d) (nodes e) in (
      all_select d (trees does) (each_from IsMarked (trees does) (marked p task there).0) (each_left nodes_inside (trees does) (labels does) of_all),
      all_select d (labels does) (each_from IsMarked (labels does) (marked p task there).1) (each_right nodes_inside (trees does) (labels does) of_all),
    )

-- ---- X3

all_zero : (bits : List Bit) → list_all is_zero bits ≡ true → number bits ≡ 0
all_zero [] h = refl
all_zero (Zero ∷ bits) h = let none = all_zero bits h in omega (arith, none)
all_zero (One ∷ bits) h = absurd (false≢true h)
all_zero (X ∷ bits) h = absurd (false≢true h)
all_zero (Z ∷ bits) h = absurd (false≢true h)

-- bits that are a power of two
record IsPowerOf (bits : List Bit) : Type 0 where
  exponent : ℕ
  is : number bits ≡ 2 ^ exponent

power_of : (bits : List Bit) → has_one bits ≡ true → IsPowerOf bits
power_of [] h = absurd (false≢true h)
power_of (Zero ∷ bits) h =
    let more = power_of bits h in
    let twice = pow-suc 2 more.exponent in
    let same = more.is in
    record { exponent = suc more.exponent; is = omega (arith, same, twice) }
power_of (One ∷ bits) h = let none = all_zero bits h in record { exponent = 0; is = omega (arith, none) }
power_of (X ∷ bits) h = absurd (false≢true h)
power_of (Z ∷ bits) h = absurd (false≢true h)

-- ---- operands of operands

module _ (P : Tree → Type 0) where
  deep_join : (a b : Tree) → (Each P (nodes a) → Each (λ node. Each P (nodes node)) (nodes a)) → (Each P (nodes b) → Each (λ node. Each P (nodes node)) (nodes b)) → Each P (nodes a ++ nodes b) → Each (λ node. Each P (nodes node)) (nodes a ++ nodes b)
  deep_join a b first second h =
      each_join (λ node. Each P (nodes node)) (nodes a) (nodes b) (first (each_left P (nodes a) (nodes b) h)) (second (each_right P (nodes a) (nodes b) h))

  -- what holds of each operand holds of those of each
  deep : (e : Tree) → Each P (nodes e) → Each (λ node. Each P (nodes node)) (nodes e)
  deep (Sized w s at e) h = (h, deep e h.1)
  deep (Literal bits) h = tt
  deep (Whole i) h = tt
  deep (BitAt i low index) h = tt
  deep (BitBy i low signed index) h = deep index h
  deep (Part i low width) h = tt
  deep (Turned operator a) h = deep a h
  deep (Joined operator signed a b) h = deep_join a b (λ k. deep a k) (λ k. deep b k) h
  deep (Compared operator signed a b) h = deep_join a b (λ k. deep a k) (λ k. deep b k) h
  deep (Linked operator a b) h = deep_join a b (λ k. deep a k) (λ k. deep b k) h
  deep (Folded operator a) h = deep a h
  deep (Shifted operator signed a amount) h =
      deep_join a amount (λ k. deep a k) (λ k. deep amount k) h
  deep (Chosen c a b) h =
      each_join (λ node. Each P (nodes node)) (nodes c ++ nodes a) (nodes b) (deep_join c a (λ k. deep c k) (λ k. deep a k) (each_left P (nodes c ++ nodes a) (nodes b) h)) (deep b (each_right P (nodes c ++ nodes a) (nodes b) h))
  deep Empty h = tt
  deep (Beside a others) h = deep_join a others (λ k. deep a k) (λ k. deep others k) h
  deep (Repeated times a) h = deep a h
  deep (Recast a) h = deep a h

-- ---- what reads no bit, and selects none outside, has no signal

module _ (d : Flat) where
  abbrev Fits : Tree → Type 0
  Fits = IsSized (length d.signals) (widths d)

  -- no bit that is there is read
  abbrev Unread : Tree → Type 0
  Unread e = (s k : ℕ) → k < widths d s → reads (widths d) e s k ≡ false

  on_first : (a b : Tree) → ((s k : ℕ) → k < widths d s → (reads (widths d) a s k || reads (widths d) b s k) ≡ false) → Unread a
  on_first a b u s k inside =
      (or_parts (reads (widths d) a s k) (reads (widths d) b s k) (u s k inside)).0

  on_second : (a b : Tree) → ((s k : ℕ) → k < widths d s → (reads (widths d) a s k || reads (widths d) b s k) ≡ false) → Unread b
  on_second a b u s k inside =
      (or_parts (reads (widths d) a s k) (reads (widths d) b s k) (u s k inside)).1

  spans : (i low high k : ℕ) → low ≤ k → k < high → k < widths d i → span (widths d) i low high i k ≡ true
  spans i low high k above below inside =
      and_from (i == i) _ (eq-eqb i i refl) (and_from (nat_le low k) _ (le-leb low k above) (and_from (nat_lt k high) _ (lt-ltb k high below) (lt-ltb k (widths d i) inside)))

  mutual
    no_part : (e : Tree) → IsMarked e → Fits e → Each (Inside d) (nodes e) → Unread e → EachPart IsNoSignal e
    no_part (Sized w s at e) marked fits h u =
        (tt, no_form w s at e marked fits.1.not_empty fits.2 h.0 h.1 u)
    no_part _ marked fits h u = absurd marked

    no_form : (w : ℕ) (s : Bool) (at : Spot) (e : Tree) → IsForm e → 1 ≤ width_of (widths d) e → Fits e → Inside d (Sized w s at e) → Each (Inside d) (nodes e) → Unread e → EachPart IsNoSignal e
    no_form w s at (Sized w' s' at' e) marked some fits here h u = absurd marked
    no_form w s at (Literal bits) marked some fits here h u = tt
    no_form w s at (Whole i) marked some fits here h u =
        absurd (both_ways _ (u i 0 (omega (arith, some))) (spans i 0 (widths d i) 0 (omega arith) (omega (arith, some)) (omega (arith, some))))
    no_form w s at (BitAt i low index) marked some fits here h u =
        let inside = true_from_ne_false (some_below (widths d i) (is_place low index)) (λ missing. here _ refl (not_from_false _ missing)) in
        let found = some_found (widths d i) (is_place low index) inside in
        absurd (both_ways _ (u i found.number found.below) (and_from (i == i) _ (eq-eqb i i refl) (and_from (nat_lt found.number (widths d i)) _ (lt-ltb found.number (widths d i) found.below) found.is)))
    no_form w s at (BitBy i low signed index) marked some fits here h u =
        let tests = or_parts (sign_of index) (nat_lt 0 low || nat_lt (widths d i) (2 ^ width_of (widths d) index)) (false_from_ne_true _ (here _ refl)) in
        let wide = ltb-false (widths d i) (2 ^ width_of (widths d) index) (or_parts (nat_lt 0 low) (nat_lt (widths d i) (2 ^ width_of (widths d) index)) tests.1).1 in
        let power = one-le-pow (width_of (widths d) index) 2 (omega arith) in
        let there : 0 < widths d i = omega (arith, wide, power) in
        absurd (both_ways _ ((or_parts (reads (widths d) index i 0) (all_bits (widths d) i i 0) (u i 0 there)).1) (spans i 0 (widths d i) 0 (omega arith) there there))
    no_form w s at (Part i low width) marked some fits here h u =
        let inside = fits.1 in
        absurd (both_ways _ (u i low (omega (arith, some, inside))) (spans i low (low + width) low (omega arith) (omega (arith, some)) (omega (arith, some, inside))))
    no_form w s at (Turned operator a) marked some fits here h u = (tt, no_part a marked fits h u)
    no_form w s at (Joined operator signed a b) marked some fits here h u =
        (tt, no_part a marked.0 fits.1 (each_left (Inside d) (nodes a) (nodes b) h) (on_first a b u), no_part b marked.1 fits.2 (each_right (Inside d) (nodes a) (nodes b) h) (on_second a b u))
    no_form w s at (Compared operator signed a b) marked some fits here h u =
        (tt, no_part a marked.0 fits.1 (each_left (Inside d) (nodes a) (nodes b) h) (on_first a b u), no_part b marked.1 fits.2 (each_right (Inside d) (nodes a) (nodes b) h) (on_second a b u))
    no_form w s at (Linked operator a b) marked some fits here h u =
        (tt, no_part a marked.0 fits.0 (each_left (Inside d) (nodes a) (nodes b) h) (on_first a b u), no_part b marked.1 fits.1 (each_right (Inside d) (nodes a) (nodes b) h) (on_second a b u))
    no_form w s at (Folded operator a) marked some fits here h u = (tt, no_part a marked fits h u)
    no_form w s at (Shifted operator signed a amount) marked some fits here h u =
        (tt, no_part a marked.0 fits.1 (each_left (Inside d) (nodes a) (nodes amount) h) (on_first a amount u), no_part amount marked.1 fits.2 (each_right (Inside d) (nodes a) (nodes amount) h) (on_second a amount u))
    no_form w s at (Chosen c a b) marked some fits here h u =
        let front = each_left (Inside d) (nodes c ++ nodes a) (nodes b) h in
        let arms : (s k : ℕ) → k < widths d s → (reads (widths d) a s k || reads (widths d) b s k) ≡ false = λ s k inside. (or_parts (reads (widths d) c s k) (reads (widths d) a s k || reads (widths d) b s k) (u s k inside)).1 in
        (tt, no_part c marked.0 fits.1 (each_left (Inside d) (nodes c) (nodes a) front) (λ s k inside. (or_parts (reads (widths d) c s k) (reads (widths d) a s k || reads (widths d) b s k) (u s k inside)).0), no_part a marked.1 fits.2 (each_right (Inside d) (nodes c) (nodes a) front) (on_first a b arms), no_part b marked.2 fits.3 (each_right (Inside d) (nodes c ++ nodes a) (nodes b) h) (on_second a b arms))
    no_form w s at Empty marked some fits here h u = tt
    no_form w s at (Beside a others) marked some fits here h u =
        (tt, no_part a marked.0 fits.0 (each_left (Inside d) (nodes a) (nodes others) h) (on_first a others u), no_row others marked.1 fits.1 (each_right (Inside d) (nodes a) (nodes others) h) (on_second a others u))
    no_form w s at (Repeated times a) marked some fits here h u = (tt, no_part a marked fits h u)
    no_form w s at (Recast a) marked some fits here h u = (tt, no_part a marked fits h u)

    no_row : (e : Tree) → IsRow e → Fits e → Each (Inside d) (nodes e) → Unread e → EachPart IsNoSignal e
    no_row Empty marked fits h u = tt
    no_row (Beside a others) marked fits h u =
        (tt, no_part a marked.0 fits.0 (each_left (Inside d) (nodes a) (nodes others) h) (on_first a others u), no_row others marked.1 fits.1 (each_right (Inside d) (nodes a) (nodes others) h) (on_second a others u))
    no_row _ marked fits h u = absurd marked

  unread_all : (e : Tree) → reads_signal d e ≡ false → Unread e
  unread_all e none s k inside =
      false_from_ne_true (reads (widths d) e s k) (λ is.
      false≢true (sym none ∙ some_at (length d.signals) (has_some (widths d) (reads (widths d) e)) s (width_inside d.signals s (omega (arith, inside))) (some_at (widths d s) (reads (widths d) e s) k inside is)))

  power : (signed : Bool) (e : Tree) → IsMarked e → Fits e → Each (Inside d) (nodes e) → is_power signed (constant_of d e) ≡ true → IsPower e
  power signed e marked fits h is = by_reads (reads_signal d e) refl is
    where
      by_reads : (b : Bool) → reads_signal d e ≡ b → is_power signed (if b then None else Some (value (unknowns d) e)) ≡ true → IsPower e
      by_reads true reads_one is' = absurd (false≢true is')
      by_reads false none is' =
          let constant = no_part e marked fits h (unread_all e none) in
          let bits = value (unknowns d) e in
          let exponent = power_of bits (and_parts (has_one bits) _ is').0 in
          record {
            constant = constant;
            exponent = exponent.exponent;
            is = ap number (constant_value (λ i. []) (unknowns d) e constant) ∙ exponent.is;
          }

  -- what is known of each operand: it doesn't divide by another, it is sized, and its own select no bit outside
  record IsDivisor (node : Tree) : Type 0 where
    divides : divides_by_other d node ≡ true → ⊥
    fits : Fits node
    inside : Each (Inside d) (nodes node)

  divided : (operator : Join) (signed : Bool) (b : Tree) → (not (is_power signed (constant_of d b)) ≡ true → ⊥) → IsMarked b → Fits b → Each (Inside d) (nodes b) → IsPower b
  divided operator signed b q marked fits h =
      power signed b marked fits h (true_from_ne_false _ (λ missing. q (not_from_false _ missing)))

  divides : (operator : Join) (signed : Bool) (w : ℕ) (s : Bool) (at : Spot) (a b : Tree) → IsMarked b → IsDivisor (Sized w s at (Joined operator signed a b)) → DividesBy operator b
  divides join.Add signed w s at a b marked q = tt
  divides join.Subtract signed w s at a b marked q = tt
  divides join.Multiply signed w s at a b marked q = tt
  divides join.Divide signed w s at a b marked q =
      divided join.Divide signed b q.divides marked q.fits.2.2 (each_right (Inside d) (nodes a) (nodes b) q.inside.1)
  divides join.Remainder signed w s at a b marked q =
      divided join.Remainder signed b q.divides marked q.fits.2.2 (each_right (Inside d) (nodes a) (nodes b) q.inside.1)
  divides join.And signed w s at a b marked q = tt
  divides join.Or signed w s at a b marked q = tt
  divides join.Xor signed w s at a b marked q = tt
  divides join.Xnor signed w s at a b marked q = tt

  divisor : (w : ℕ) (s : Bool) (at : Spot) (e : Tree) → IsForm e → IsDivisor (Sized w s at e) → DividesByPower e
  divisor w s at (Sized w' s' at' e) marked q = absurd marked
  divisor w s at (Joined operator signed a b) marked q =
      divides operator signed w s at a b marked.1 q
  divisor w s at _ marked q = tt

  all_divide : (es : List Tree) → Each IsMarked es → Each (λ e. Each IsDivisor (nodes e)) es → All (EachPart DividesByPower) es
  all_divide es marked h =
      each_all (EachPart DividesByPower) es (each_both IsMarked (λ e. Each IsDivisor (nodes e)) (EachPart DividesByPower) (each_part DividesByPower IsDivisor (λ w s at f. tt) tt (λ a others. tt) divisor) es marked h)

  -- of all operands of some expressions
  deep_all : (es : List Tree) → Each (λ e. Each (Inside d) (nodes e)) es → Each (λ node. Each (Inside d) (nodes node)) (flat_map nodes es)
  deep_all [] h = tt
  deep_all (e ∷ es) h =
      each_join (λ node. Each (Inside d) (nodes node)) (nodes e) (flat_map nodes es) (deep (Inside d) e h.0) (deep_all es h.1)

pub divide_variable : (d : Flat) → DivideVariable d
divide_variable d lawful marked inside none p task there =
    let does = task.does in
    let es = trees does ++ labels does in
    let own = refuted_in (IsDivideVariable d) (at_node rule.DivideVariable d) all_nodes d none p task there in
    let fits = nodes_of_sized d.signals does (lawful p does (ap doing_of there)) in
    let within = deep_all d es (each_flat (Inside d) nodes es (selects_in d inside p task there)) in
    let both = each_both (λ node. divides_by_other d node ≡ true → ⊥) (Fits d) (λ node. (divides_by_other d node ≡ true → ⊥) × Fits d node) (λ node a b. (a, b)) (all_nodes does) own fits in
    let all = each_both (λ node. (divides_by_other d node ≡ true → ⊥) × Fits d node) (λ node. Each (Inside d) (nodes node)) (IsDivisor d) (λ node a b. record { divides = a.0; fits = a.1; inside = b }) (all_nodes does) both within in
    let of_all = each_flat (IsDivisor d) nodes es all in (
      all_divide d (trees does) (each_from IsMarked (trees does) (marked p task there).0) (each_left (λ e. Each (IsDivisor d) (nodes e)) (trees does) (labels does) of_all),
      all_divide d (labels does) (each_from IsMarked (labels does) (marked p task there).1) (each_right (λ e. Each (IsDivisor d) (nodes e)) (trees does) (labels does) of_all),
    )
