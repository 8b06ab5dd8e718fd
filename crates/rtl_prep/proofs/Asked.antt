-- The conditions that ask, in the words of a pass from the first directive to the last.
use Rattle.std.specs.Prelude.{ℕ, zero, suc, ◌+◌, ◌<◌, ◌≤◌, ◌&&◌, ◌||◌, Bool, true, false, not, List, [], ◌∷◌, ◌++◌, length, drop, get_or}
use Rattle.std.specs.List.{list_any}
use Rattle.std.specs.Str.{bytes_eq}
use Rattle.std.proofs.Common.{◌≡◌, refl, sym, ap, ap₂, ◌∙◌, subst, cond, add-one, append_assoc, length-drop, arith}
use Rattle.std.proofs.lemmas.List.{append-nil}
use Rattle.std.proofs.Math.Seq.{drop-cons}
use Rattle.rtl_prep.specs.declared.conditions.Ask.{Ask}
use Rattle.rtl_prep.specs.declared.notices.Notice as code
use Rattle.rtl_prep.specs.Conditions.{Notice, is_opening, is_ending, is_condition, is_naming, settles, openings, number_of, open_chain, ask_at, asks_from, with_name, macros_behind, macros_from}
use Rattle.rtl_prep.specs.Passes.{seen, all_seen, has, Asking, first, asked_now, asks_on}
use Rattle.rtl_prep.proofs.Named.{has_with}

pub nth : List ℕ → ℕ → ℕ
nth [] n = 0
nth (x ∷ xs) zero = x
nth (x ∷ xs) (suc n) = nth xs n

-- behind some directives, with these left of all
pub record Behind (a : Asking) (left all : List Notice) : Type 0 where
  pub before : List Notice
  pub settled : (name : List ℕ) → has a.settled name ≡ list_any (settles name) before
  pub opened : (n : ℕ) → nth a.opened n ≡ open_chain n before
  pub begun : a.begun ≡ openings before
  pub asks : a.asks ++ asks_from before left ≡ asks_from [] all

nth_rest : (xs : List ℕ) (n : ℕ) → nth (drop 1 xs) n ≡ nth xs (suc n)
unfolding nth
nth_rest [] n = refl
nth_rest (x ∷ xs) n = refl

nth_first : (xs : List ℕ) → first xs ≡ nth xs 0
unfolding nth
nth_first [] = refl
nth_first (x ∷ xs) = refl

opened_by : (b c : Bool) (opened : List ℕ) (begun : ℕ) (before : List Notice) (n : ℕ) → begun ≡ openings before → ((m : ℕ) → nth opened m ≡ open_chain m before)
    → nth (cond b (begun ∷ opened) (cond c (drop 1 opened) opened)) n ≡ cond b (number_of n (openings before) (λ fewer. open_chain fewer before)) (cond c (open_chain (suc n) before) (open_chain n before))
unfolding nth
opened_by true c opened begun before zero e h = e
opened_by true c opened begun before (suc n) e h = h n
opened_by false true opened begun before n e h = nth_rest opened n ∙ h (suc n)
opened_by false false opened begun before n e h = h n

settled_by : (b c : Bool) (names : List (List ℕ)) (k q : List ℕ) (rest : Bool) → has names q ≡ rest → has (cond (b && c) (with_name names k) names) q ≡ ((b && c && bytes_eq k q) || rest)
settled_by true true names k q rest h = has_with names k q ∙ ap (λ r. bytes_eq k q || r) h
settled_by true false names k q rest h = h
settled_by false c names k q rest h = h

abbrev ask_with : Notice → Bool → ℕ → List Ask
ask_with n settled chain = cond (is_condition n.known && n.acts && not settled) (record { at = n.at; name = n.name; chain = chain } ∷ []) []

asked_same : (a : Asking) (n : Notice) (before : List Notice) → has a.settled n.name ≡ list_any (settles n.name) before → ((m : ℕ) → nth a.opened m ≡ open_chain m before) → a.begun ≡ openings before
    → asked_now a n ≡ ask_at before n
asked_same a n before s o b =
    ap₂ (ask_with n) s (ap₂ (cond (is_opening n.known)) b (nth_first a.opened ∙ o 0))

from_first : (before : List Notice) (n : Notice) (ns : List Notice) → asks_from before (n ∷ ns) ≡ ask_at before n ++ asks_from (n ∷ before) ns
unfolding asks_from
from_first before n ns = refl

opening_first : (n : Notice) (before : List Notice) → openings (n ∷ before) ≡ cond (is_opening n.known) (suc (openings before)) (openings before)
unfolding openings
opening_first n before = refl

open_first : (m : ℕ) (n : Notice) (before : List Notice)
    → open_chain m (n ∷ before) ≡ cond (is_opening n.known) (number_of m (openings before) (λ fewer. open_chain fewer before)) (cond (is_ending n.known) (open_chain (suc m) before) (open_chain m before))
unfolding open_chain
open_first m n before = refl

turn : (a : Asking) (n : Notice) (ns all : List Notice) → Behind a (n ∷ ns) all → Behind (asks_on a n) ns all
unfolding asks_on
turn a n ns all h = record {
  before = n ∷ h.before;
  settled = λ name. settled_by (is_naming n.known) n.acts a.settled n.name name (list_any (settles name) h.before) (h.settled name);
  opened = λ m. opened_by (is_opening n.known) (is_ending n.known) a.opened a.begun h.before m h.begun h.opened ∙ sym (open_first m n h.before);
  begun = ap (λ k. cond (is_opening n.known) (suc k) k) h.begun ∙ sym (opening_first n h.before);
  asks =
      append_assoc a.asks (asked_now a n) (asks_from (n ∷ h.before) ns)
      ∙ ap (λ made. a.asks ++ (made ++ asks_from (n ∷ h.before) ns)) (asked_same a n h.before (h.settled n.name) h.opened h.begun)
      ∙ ap (λ made. a.asks ++ made) (sym (from_first h.before n ns))
      ∙ h.asks;
}

-- ---- a loop over the directives

pub left_at : (ns : List code.Notice) (i : ℕ) (d : code.Notice) → i < length ns → all_seen (drop i ns) ≡ seen (get_or ns i d) ∷ all_seen (drop (i + 1) ns)
left_at ns i d h = ap all_seen (drop-cons ns i d h) ∙ ap (λ n. seen (get_or ns i d) ∷ all_seen (drop n ns)) (sym (add-one i))

none_left : (ns : List code.Notice) → length ns ≡ 0 → all_seen ns ≡ []
none_left [] h = refl
none_left (n ∷ ns) h = absurd (omega arith)

pub ends_at : (ns : List code.Notice) (i : ℕ) → length ns ≤ i → all_seen (drop i ns) ≡ []
ends_at ns i h = none_left (drop i ns) (omega (arith, length-drop i ns))

pub begins : (a : Asking) (all : List Notice) → a.settled ≡ [] → a.opened ≡ [] → a.begun ≡ 0 → a.asks ≡ [] → Behind a all all
unfolding nth open_chain openings
begins a all s o b e = record {
  before = [];
  settled = λ name. ap (λ names. has names name) s;
  opened = λ n. ap (λ xs. nth xs n) o;
  begun = b;
  asks = ap (λ made. made ++ asks_from [] all) e;
}

pub goes_on : (a a' : Asking) (ns : List code.Notice) (i : ℕ) (d : code.Notice) (all : List Notice) → i < length ns → a' ≡ asks_on a (seen (get_or ns i d)) → Behind a (all_seen (drop i ns)) all
    → Behind a' (all_seen (drop (i + 1) ns)) all
goes_on a a' ns i d all h e b =
    subst (λ x. Behind x (all_seen (drop (i + 1) ns)) all) (sym e)
    (turn a (seen (get_or ns i d)) (all_seen (drop (i + 1) ns)) all (subst (λ left. Behind a left all) (left_at ns i d h) b))

none_from : (before left : List Notice) → left ≡ [] → asks_from before left ≡ []
unfolding asks_from
none_from before [] e = refl
none_from before (n ∷ ns) e = cc

pub all_asked : (a : Asking) (ns : List code.Notice) (i : ℕ) (all : List Notice) → length ns ≤ i → Behind a (all_seen (drop i ns)) all → a.asks ≡ asks_from [] all
all_asked a ns i all h b =
    sym (append-nil a.asks) ∙ ap (λ made. a.asks ++ made) (sym (none_from b.before (all_seen (drop i ns)) (ends_at ns i h))) ∙ b.asks

-- ---- macros

macros_first : (names : List (List ℕ)) (n : Notice) (ns : List Notice) → macros_from names (n ∷ ns) ≡ macros_from (macros_behind names n) ns
unfolding macros_from
macros_first names n ns = refl

pub macros_turn : (names names' : List (List ℕ)) (ns : List code.Notice) (i : ℕ) (d : code.Notice) → i < length ns → names' ≡ macros_behind names (seen (get_or ns i d))
    → macros_from names' (all_seen (drop (i + 1) ns)) ≡ macros_from names (all_seen (drop i ns))
macros_turn names names' ns i d h e =
    ap (λ found. macros_from found (all_seen (drop (i + 1) ns))) e
    ∙ sym (macros_first names (seen (get_or ns i d)) (all_seen (drop (i + 1) ns)))
    ∙ ap (λ left. macros_from names left) (sym (left_at ns i d h))

macros_none : (names : List (List ℕ)) (left : List Notice) → left ≡ [] → macros_from names left ≡ names
unfolding macros_from
macros_none names [] e = refl
macros_none names (n ∷ ns) e = cc

pub macros_end : (names : List (List ℕ)) (ns : List code.Notice) (i : ℕ) → length ns ≤ i → macros_from names (all_seen (drop i ns)) ≡ names
macros_end names ns i h = macros_none names (all_seen (drop i ns)) (ends_at ns i h)
