-- The least signal that a statement may write, from those of its parts.
use Rattle.std.proofs.Common.{◌≡◌, ◌∙◌, ℕ, zero, suc, ◌<◌, ◌≤◌, Bool, true, false, cond, ◌&&◌, ◌||◌, List, [], ◌∷◌, length, Option, None, Some, refl, sym, ap, arith, inl, inr}
use Rattle.std.specs.Prelude.{◌⊎◌, ◌==◌, nat_lt}
use Rattle.std.proofs.lemmas.Bool.{cases_Bool, cases_lt, eqb-true, eqb-false, lt-ltb, le-ltb}
use Rattle.rtl_bits.specs.Bits.{is_one_at}
use Rattle.rtl_bits.specs.Digits.{one_at-zero}
use Rattle.rtl_flat.specs.declared.expr.SigId.{SigId}
use Rattle.rtl_flat.specs.Expression.{Tree}
use Rattle.rtl_flat.specs.Flows.{action_then, actions_then, body_flow, is_complete, may_select, may_target, other_flow, way_past, ways}
use Rattle.rtl_flat.specs.Paths.{BitSet, either, Step, Flow, End, some, some_way, may_write, may_write_bit}
use Rattle.rtl_flat.specs.Process.{Piece, Action, Set, If, Case, Actions, Then, Otherwise, Without, With, Branches, NoBranch, Branch}
use Rattle.rtl_flat.proofs.Flows.{some_action}
use Rattle.rtl_rule.specs.Parts.{first_below, first_of, has_some, number, some_below}
use Rattle.rtl_flat.specs.Flats.{Flat, widths}
use Rattle.check_parts.specs.rtl_scan.declared.bits.Row.{Row}
use Rattle.check_parts.specs.rtl_scan.Scan.{some_item}
use Rattle.check_parts.specs.rtl_scan.Sets.{has_row}
use Rattle.check_found.proofs.Inside.{target_inside}
use Rattle.check_found.proofs.Signals.{first_at, first_none, first_row}
use Rattle.check_case.specs.Cases.{first_in}
use Rattle.check_case.specs.Least.{first_of_all, first_of_items, first_of_other, first_of_pieces, lesser}

or_false : (a : Bool) → (a || false) ≡ a
or_false true = refl
or_false false = refl

-- ---- the lesser of several

pub lesser-none : (a : Option SigId) → lesser a None ≡ a
lesser-none None = refl
lesser-none (Some a) = refl

pub lesser_assoc : (a b c : Option SigId) → lesser (lesser a b) c ≡ lesser a (lesser b c)
lesser_assoc None b c = refl
lesser_assoc (Some a) None c = refl
lesser_assoc (Some a) (Some b) None = lesser-none (lesser (Some a) (Some b))
lesser_assoc (Some a) (Some b) (Some c) =
    elim (cases_lt b.0 a.0) as (λ _. lesser (cond (nat_lt b.0 a.0) (Some b) (Some a)) (Some c) ≡ lesser (Some a) (cond (nat_lt c.0 b.0) (Some c) (Some b))) [
      | inl below ↦
          elim (cases_lt c.0 b.0) as (λ _. lesser (cond (nat_lt b.0 a.0) (Some b) (Some a)) (Some c) ≡ lesser (Some a) (cond (nat_lt c.0 b.0) (Some c) (Some b))) [
            | inl least ↦
                let under : c.0 < a.0 = omega (arith, below, least) in
                ap (λ t. lesser (cond t (Some b) (Some a)) (Some c)) (lt-ltb b.0 a.0 below)
                ∙ ap (λ t. cond t (Some c) (Some b)) (lt-ltb c.0 b.0 least)
                ∙ sym (ap (λ t. cond t (Some c) (Some a)) (lt-ltb c.0 a.0 under))
                ∙ sym (ap (λ t. lesser (Some a) (cond t (Some c) (Some b))) (lt-ltb c.0 b.0 least))
            | inr over ↦
                ap (λ t. lesser (cond t (Some b) (Some a)) (Some c)) (lt-ltb b.0 a.0 below)
                ∙ ap (λ t. cond t (Some c) (Some b)) (le-ltb c.0 b.0 over)
                ∙ sym (ap (λ t. cond t (Some b) (Some a)) (lt-ltb b.0 a.0 below))
                ∙ sym (ap (λ t. lesser (Some a) (cond t (Some c) (Some b))) (le-ltb c.0 b.0 over))
          ]
      | inr above ↦
          elim (cases_lt c.0 b.0) as (λ _. lesser (cond (nat_lt b.0 a.0) (Some b) (Some a)) (Some c) ≡ lesser (Some a) (cond (nat_lt c.0 b.0) (Some c) (Some b))) [
            | inl least ↦
                ap (λ t. lesser (cond t (Some b) (Some a)) (Some c)) (le-ltb b.0 a.0 above)
                ∙ sym (ap (λ t. lesser (Some a) (cond t (Some c) (Some b))) (lt-ltb c.0 b.0 least))
            | inr over ↦
                let past : a.0 ≤ c.0 = omega (arith, above, over) in
                ap (λ t. lesser (cond t (Some b) (Some a)) (Some c)) (le-ltb b.0 a.0 above)
                ∙ ap (λ t. cond t (Some c) (Some a)) (le-ltb c.0 a.0 past)
                ∙ sym (ap (λ t. cond t (Some b) (Some a)) (le-ltb b.0 a.0 above))
                ∙ sym (ap (λ t. lesser (Some a) (cond t (Some c) (Some b))) (le-ltb c.0 b.0 over))
          ]
    ]

-- ---- the first of two sets together

record IsLeast (n : ℕ) (test : ℕ → Bool) : Type 0 where
  place : ℕ
  below : place < n
  is : test place ≡ true
  none : (j : ℕ) → j < place → test j ≡ false

least : (n : ℕ) (test : ℕ → Bool) → IsLeast n test ⊎ ((j : ℕ) → j < n → test j ≡ false)
least zero test = inr (λ j under. absurd (omega (arith, under)))
least (suc n) test =
    elim (least n test) as (λ _. IsLeast (suc n) test ⊎ ((j : ℕ) → j < suc n → test j ≡ false)) [
      | inl found ↦
          inl (record { place = found.place; below = omega (arith, found.below); is = found.is; none = found.none })
      | inr none ↦
          elim (cases_Bool (test n)) as (λ _. IsLeast (suc n) test ⊎ ((j : ℕ) → j < suc n → test j ≡ false)) [
            | inl here ↦ inl (record { place = n; below = omega arith; is = here; none = none })
            | inr not' ↦ inr (λ j under. by n j test none not' under)
          ]
    ]
  where
    by : (n j : ℕ) (test : ℕ → Bool) → ((j : ℕ) → j < n → test j ≡ false) → test n ≡ false → j < suc n → test j ≡ false
    by n j test none not' under =
        elim (cases_lt j n) [
          | inl before ↦ none j before
          | inr after ↦ let same : j ≡ n = omega (arith, under, after) in ap test same ∙ not'
        ]

both_false : (a b : Bool) → a ≡ false → b ≡ false → (a || b) ≡ false
both_false a b h k = ap (λ x. x || b) h ∙ k

left_true : (a b : Bool) → a ≡ true → (a || b) ≡ true
left_true a b h = ap (λ x. x || b) h

right_true : (a b : Bool) → b ≡ true → (a || b) ≡ true
right_true true b h = refl
right_true false b h = h

first_below_either : (n : ℕ) (f g : ℕ → Bool) → first_below n (λ s. f s || g s) ≡ lesser (first_below n f) (first_below n g)
first_below_either n f g =
    elim (least n f) [
      | inl a ↦
          elim (least n g) [
            | inl b ↦
                elim (cases_lt b.place a.place) [
                  | inl under ↦
                      first_at n (λ s. f s || g s) b.place b.below (right_true (f b.place) (g b.place) b.is)
                      (λ j before. both_false (f j) (g j) (a.none j (omega (arith, before, under))) (b.none j before))
                      ∙ sym (ap (λ x. lesser x (first_below n g)) (first_at n f a.place a.below a.is a.none)
                      ∙ ap (λ x. lesser (number a.place) x) (first_at n g b.place b.below b.is b.none)
                      ∙ ap (λ t. cond t (number b.place) (number a.place)) (lt-ltb b.place a.place under))
                  | inr over ↦
                      first_at n (λ s. f s || g s) a.place a.below (left_true (f a.place) (g a.place) a.is)
                      (λ j before. both_false (f j) (g j) (a.none j before) (b.none j (omega (arith, before, over))))
                      ∙ sym (ap (λ x. lesser x (first_below n g)) (first_at n f a.place a.below a.is a.none)
                      ∙ ap (λ x. lesser (number a.place) x) (first_at n g b.place b.below b.is b.none)
                      ∙ ap (λ t. cond t (number b.place) (number a.place)) (le-ltb b.place a.place over))
                ]
            | inr no_b ↦
                first_at n (λ s. f s || g s) a.place a.below (left_true (f a.place) (g a.place) a.is)
                (λ j before. both_false (f j) (g j) (a.none j before) (no_b j (omega (arith, before, a.below))))
                ∙ sym (ap (λ x. lesser x (first_below n g)) (first_at n f a.place a.below a.is a.none)
                ∙ ap (λ x. lesser (number a.place) x) (first_none n g no_b))
          ]
      | inr no_a ↦
          elim (least n g) [
            | inl b ↦
                first_at n (λ s. f s || g s) b.place b.below (right_true (f b.place) (g b.place) b.is)
                (λ j before. both_false (f j) (g j) (no_a j (omega (arith, before, b.below))) (b.none j before))
                ∙ sym (ap (λ x. lesser x (first_below n g)) (first_none n f no_a) ∙ first_at n g b.place b.below b.is b.none)
            | inr no_b ↦
                first_none n (λ s. f s || g s) (λ j under. both_false (f j) (g j) (no_a j under) (no_b j under))
                ∙ sym (ap (λ x. lesser x (first_below n g)) (first_none n f no_a) ∙ first_none n g no_b)
          ]
    ]

some_either : (n : ℕ) (f g : ℕ → Bool) → some_below n (λ k. f k || g k) ≡ (some_below n f || some_below n g)
some_either zero f g = refl
some_either (suc n) f g =
    ap (λ b. b || (f n || g n)) (some_either n f g) ∙ swap (some_below n f) (some_below n g) (f n) (g n)
  where
    swap : (a b c d : Bool) → ((a || b) || (c || d)) ≡ ((a || c) || (b || d))
    swap true b c d = refl
    swap false true c d = sym (right_true c true refl)
    swap false false c d = refl

pub first_either : (d : Flat) (a b : BitSet) → first_of d (either a b) ≡ lesser (first_of d a) (first_of d b)
first_either d a b =
    ap (first_below (length d.signals)) (λ i s. some_either (widths d s) (a s) (b s) i)
    ∙ first_below_either (length d.signals) (has_some (widths d) a) (has_some (widths d) b)

pub first_same : (d : Flat) (a b : BitSet) → ((s k : ℕ) → a s k ≡ b s k) → first_of d a ≡ first_of d b
first_same d a b same = ap (first_of d) (λ i s k. same s k i)

-- ---- targets

pub pieces_none : (d : Flat) → first_of_pieces d [] ≡ None
pieces_none d =
    first_none (length d.signals) (has_some (widths d) (may_target (widths d) [])) (λ s below. nothing (widths d s))
  where
    nothing : (n : ℕ) → some_below n (λ k. false) ≡ false
    nothing zero = refl
    nothing (suc n) = ap (λ b. b || false) (nothing n)

pub pieces_next : (d : Flat) (piece : Piece) (others : List Piece) → first_of_pieces d (piece ∷ others) ≡ lesser (first_of_pieces d (piece ∷ [])) (first_of_pieces d others)
pieces_next d piece others =
    first_either d (may_select (widths d) piece.signal piece.selection) (may_target (widths d) others)
    ∙ ap (λ x. lesser x (first_of_pieces d others)) (first_same d (may_select (widths d) piece.signal piece.selection) (may_target (widths d) (piece ∷ [])) (λ s k. sym (or_false (may_select (widths d) piece.signal piece.selection s k))))

module _ (d : Flat) (piece : Piece) (row : Row) (are : (s k : ℕ) → has_row row s k ≡ may_select (widths d) piece.signal piece.selection s k) where
  pub piece_none : (row.mask == 0) ≡ true → None ≡ first_of_pieces d (piece ∷ [])
  piece_none empty =
      sym (first_same d (may_target (widths d) (piece ∷ [])) (may_target (widths d) []) (λ s k. or_false (may_select (widths d) piece.signal piece.selection s k) ∙ sym (are s k) ∙ nothing (s == row.signal.0) (is_one_at row.mask k) (ap (λ m. is_one_at m k) (eqb-true row.mask 0 empty) ∙ one_at-zero k))
      ∙ pieces_none d)
    where
      nothing : (a b : Bool) → b ≡ false → (a && b) ≡ false
      nothing true b h = h
      nothing false b h = refl

  pub piece_some : (row.mask == 0) ≡ false → Some row.signal ≡ first_of_pieces d (piece ∷ [])
  piece_some full =
      sym (first_row d (may_target (widths d) (piece ∷ [])) (row ∷ []) (record {
        order = (positive row.mask (eqb-false row.mask 0 full), tt, tt);
        same = λ s k. ap (λ b. b || false) (are s k);
        inside = target_inside (widths d) (piece ∷ []);
      }))
    where
      positive : (n : ℕ) → (n ≡ 0 → ⊥) → 1 ≤ n
      positive n h = omega arith

-- ---- statements

pub set_first : (d : Flat) (target : List Piece) (value : Tree) (delayed : Bool) (spot : _) → first_in d (Set target value delayed spot) ≡ first_of_pieces d target
set_first d target value delayed spot =
    first_same d (may_write (action_then (widths d) (Set target value delayed spot) End)) (may_target (widths d) target) (λ s k. or_false (may_target (widths d) target s k))

pub if_first : (d : Flat) (test : Tree) (taken : Actions) (other : Otherwise) (spot : _) → first_in d (If test taken other spot) ≡ lesser (first_of_other d other) (first_of_all d taken)
if_first d test taken other spot =
    first_same d (may_write (action_then (widths d) (If test taken other spot) End)) (either (may_write (other_flow (widths d) other)) (may_write (actions_then (widths d) taken End)))
    (λ s k. or_false (some (may_write_bit s k) (other_flow (widths d) other) || some (may_write_bit s k) (actions_then (widths d) taken End)))
    ∙ first_either d (may_write (other_flow (widths d) other)) (may_write (actions_then (widths d) taken End))

module _ (f : Step → Bool) (ws : ℕ → ℕ) where
  or_assoc : (a b c : Bool) → (a || (b || c)) ≡ ((a || b) || c)
  or_assoc true b c = refl
  or_assoc false b c = refl

  some_ways : (way : Flow) (items : Branches) → some_way f (ways ws (Some way) items) ≡ (some f way || some_item f ws items)
  some_ways way NoBranch = sym (or_false (some f way))
  some_ways way (Branch labels body others) = ap (λ x. some f way || x) (some_ways (body_flow ws body) others)

  case_ways : (complete : Bool) (fallback : Otherwise) (items : Branches) → some_way f (ways ws (way_past ws complete fallback) items) ≡ (some f (other_flow ws fallback) || some_item f ws items)
  case_ways complete (With body) items = some_ways (body_flow ws body) items
  case_ways false Without items = some_ways End items
  case_ways true Without NoBranch = refl
  case_ways true Without (Branch labels body others) = some_ways (body_flow ws body) others

pub case_first : (d : Flat) (kind : _) (full parallel : Bool) (selector : Tree) (items : Branches) (fallback : Otherwise) (spot : _) → first_in d (Case kind full parallel selector items fallback spot) ≡ lesser (first_of_other d fallback) (first_of_items d items)
case_first d kind full parallel selector items fallback spot =
    let ws = widths d in
    let complete = is_complete ws kind full selector items in
    first_same d (may_write (action_then ws (Case kind full parallel selector items fallback spot) End)) (either (may_write (other_flow ws fallback)) (λ s k. some_item (may_write_bit s k) ws items))
    (λ s k. or_false (some_way (may_write_bit s k) (ways ws (way_past ws complete fallback) items)) ∙ case_ways (may_write_bit s k) ws complete fallback items)
    ∙ first_either d (may_write (other_flow ws fallback)) (λ s k. some_item (may_write_bit s k) ws items)

pub all_next : (d : Flat) (one : Action) (others : Actions) → first_of_all d (Then one others) ≡ lesser (first_in d one) (first_of_all d others)
all_next d one others =
    let ws = widths d in
    first_same d (may_write (actions_then ws (Then one others) End)) (either (may_write (action_then ws one End)) (may_write (actions_then ws others End)))
    (λ s k. some_action (may_write_bit s k) ws one (actions_then ws others End))
    ∙ first_either d (may_write (action_then ws one End)) (may_write (actions_then ws others End))

pub items_next : (d : Flat) (labels : List Tree) (body : Actions) (others : Branches) → first_of_items d (Branch labels body others) ≡ lesser (first_of_all d body) (first_of_items d others)
items_next d labels body others =
    first_either d (may_write (actions_then (widths d) body End)) (λ s k. some_item (may_write_bit s k) (widths d) others)
