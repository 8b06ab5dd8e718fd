-- What is filled, part by part.
use Rattle.std.proofs.Common.{◌≡◌, ◌∙◌, ℕ, Bool, true, false, cond, not, ◌&&◌, ◌||◌, List, [], ◌∷◌, length, get_or, Option, Some, None, refl, sym, ap}
use mathlib.Core.Path.{fun_ext}
use Rattle.rtl_bits.specs.declared.Bit.{Bit}
use Rattle.rtl_bits.specs.declared.Bit.TheVariants.{X}
use Rattle.rtl_bits.specs.Bits.{tabulate}
use Rattle.rtl_bits.specs.Inside.{length-tabulate}
use Rattle.rtl_bits.proofs.Lists.{get_or-tabulate, tabulate-congr}
use Rattle.text_ground.specs.declared.text.Spot.{Spot}
use Rattle.rtl_flat.specs.declared.act.CaseKind.{CaseKind}
use Rattle.rtl_flat.specs.Expression.{Tree}
use Rattle.rtl_flat.specs.Flows.{action_then, actions_then, body_flow, is_complete, may_select, may_target, other_flow, way_past, ways}
use Rattle.rtl_flat.specs.Paths.{BitSet, Step, Flow, End, either, may_write_blocking, may_write_delayed, may_write_late, may_write_now, no_bit, some, some_way}
use Rattle.rtl_flat.specs.Process.{Piece, Action, Set, If, Case, Actions, Then, Otherwise, Without, With, Branches, NoBranch, Branch}
use Rattle.rtl_flat.proofs.Flows.{some_action}
use Rattle.rtl_scan.specs.Scan.{some_item}
use Rattle.event_model.specs.Writes.{Values}
use Rattle.net_model.specs.declared.fill.Fill.{Fill}
use Rattle.net_model.specs.Block.{Maps, filled_case, with_bits}
use Rattle.net_model.specs.Numbers.{bit, fill_bit}
use Rattle.net_body.specs.Bodies.{items_late, items_now}
use Rattle.net_body.proofs.Seen.{same_maps}

-- ---- numbers in which bits are set

pub tabulate_own : (a : List Bit) → tabulate (length a) (λ k. get_or a k X) ≡ a
tabulate_own [] = refl
tabulate_own (x ∷ a) = ap (λ (xs : List Bit). x ∷ xs) (tabulate_own a)

pub with_none : (n : Values) (new : ℕ → ℕ → Bit) → with_bits n no_bit new ≡ n
with_none n new = fun_ext (λ i. tabulate_own (n i))

pick_twice : (p q : Bool) (new old : Bit) → cond p new (cond q new old) ≡ cond (q || p) new old
pick_twice true true new old = refl
pick_twice true false new old = refl
pick_twice false true new old = refl
pick_twice false false new old = refl

pub with_then : (n : Values) (a b : BitSet) (new : ℕ → ℕ → Bit) → with_bits (with_bits n a new) b new ≡ with_bits n (either a b) new
with_then n a b new =
    fun_ext (λ i.
    let first : ℕ → Bit = λ k. cond (a i k) (new i k) (bit n i k) in
    let second : ℕ → Bit = λ k. cond (b i k) (new i k) (bit (with_bits n a new) i k) in
    ap (λ m. tabulate m second) (length-tabulate (length (n i)) first)
    ∙ tabulate-congr (length (n i)) second (λ k. cond (a i k || b i k) (new i k) (bit n i k))
    (λ k below. ap (cond (b i k) (new i k)) (get_or-tabulate (length (n i)) first k X below) ∙ pick_twice (b i k) (a i k) (new i k) (bit n i k)))

-- ---- cases that are filled

give_twice : (p q : Bool) (new old : Option Bit) → cond p new (cond q new old) ≡ cond (q || p) new old
give_twice true true new old = refl
give_twice true false new old = refl
give_twice false true new old = refl
give_twice false false new old = refl

or_five : (p q r s w : Bool) → ((p || q) || ((r || s) || w)) ≡ (((r || p) || (s || q)) || w)
or_five true q true s w = refl
or_five true q false s w = refl
or_five false true true s w = refl
or_five false true false true w = refl
or_five false true false false w = refl
or_five false false true s w = refl
or_five false false false true w = refl
or_five false false false false w = refl

or_three : (q s w : Bool) → (q || (s || w)) ≡ ((s || q) || w)
or_three true true w = refl
or_three true false w = refl
or_three false true w = refl
or_three false false w = refl

-- one after the other
pub filled_then : (f : Fill) (a b c e : BitSet) (m : Maps) → filled_case f c e (filled_case f a b m) ≡ filled_case f (either a c) (either b e) m
filled_then f a b c e m =
    same_maps (filled_case f c e (filled_case f a b m)) (filled_case f (either a c) (either b e) m)
    (with_then m.now a c (λ i k. fill_bit f))
    (fun_ext (λ i. fun_ext (λ k. give_twice (e i k) (b i k) (Some (fill_bit f)) (m.next i k))))
    (fun_ext (λ i. fun_ext (λ k. or_five (c i k) (e i k) (a i k) (b i k) (m.wrote i k))))
    (fun_ext (λ i. fun_ext (λ k. or_three (e i k) (b i k) (m.late i k))))

pub filled_none : (f : Fill) (m : Maps) → filled_case f no_bit no_bit m ≡ m
filled_none f m =
    same_maps (filled_case f no_bit no_bit m) m (with_none m.now (λ i k. fill_bit f)) refl refl refl

-- the same bits
pub filled_alike : (f : Fill) (a b c e : BitSet) (m : Maps) → ((i k : ℕ) → a i k ≡ c i k) → ((i k : ℕ) → b i k ≡ e i k) → filled_case f a b m ≡ filled_case f c e m
filled_alike f a b c e m now late =
    ap (λ (s : BitSet). filled_case f s b m) (fun_ext (λ i. fun_ext (now i)))
    ∙ ap (λ (s : BitSet). filled_case f c s m) (fun_ext (λ i. fun_ext (late i)))

-- from one part to the next
pub filled_more :
    (f : Fill) (a b c e g h : BitSet) (m n : Maps) → n ≡ filled_case f a b m → ((i k : ℕ) → g i k ≡ (a i k || c i k)) → ((i k : ℕ) → h i k ≡ (b i k || e i k)) →
    filled_case f c e n ≡ filled_case f g h m
filled_more f a b c e g h m n is now late =
    ap (filled_case f c e) is ∙ filled_then f a b c e m
    ∙ filled_alike f (either a c) (either b e) g h m (λ i k. sym (now i k)) (λ i k. sym (late i k))

-- ---- flows

pub or_none : (a : Bool) → (a || false) ≡ a
or_none true = refl
or_none false = refl

module _ (t : Step → Bool) (ws : ℕ → ℕ) where
  pub some_then : (first : Action) (others : Actions) → some t (body_flow ws (Then first others)) ≡ (some t (action_then ws first End) || some t (body_flow ws others))
  some_then first others = some_action t ws first (actions_then ws others End)

  pub some_ways : (way : Flow) (items : Branches) → some_way t (ways ws (Some way) items) ≡ (some t way || some_item t ws items)
  some_ways way NoBranch = sym (or_none (some t way))
  some_ways way (Branch labels body others) =
      ap (λ x. some t way || x) (some_ways (body_flow ws body) others)

  pub some_only : (items : Branches) → some_way t (ways ws None items) ≡ some_item t ws items
  some_only NoBranch = refl
  some_only (Branch labels body others) = some_ways (body_flow ws body) others

  -- the ways of a case are those of its items and of its `default`
  pub some_case : (complete : Bool) (fallback : Otherwise) (items : Branches) → some_way t (ways ws (way_past ws complete fallback) items) ≡ (some t (other_flow ws fallback) || some_item t ws items)
  some_case complete (With body) items = some_ways (body_flow ws body) items
  some_case true Without items = some_only items
  some_case false Without items = some_ways End items

-- ---- statements

module _ (f : Fill) (ws : ℕ → ℕ) (m : Maps) where
  pub set_filled :
      (target : List Piece) (e : Tree) (delayed : Bool) (spot : Spot) →
      filled_case f (λ i k. not delayed && may_target ws target i k) (λ i k. delayed && may_target ws target i k) m ≡ filled_case f (may_write_blocking (action_then ws (Set target e delayed spot) End)) (may_write_delayed (action_then ws (Set target e delayed spot) End)) m
  set_filled target e delayed spot =
      filled_alike f (λ i k. not delayed && may_target ws target i k) (λ i k. delayed && may_target ws target i k)
      (may_write_blocking (action_then ws (Set target e delayed spot) End)) (may_write_delayed (action_then ws (Set target e delayed spot) End)) m
      (λ i k. sym (or_none (not delayed && may_target ws target i k))) (λ i k. sym (or_none (delayed && may_target ws target i k)))

  pub if_filled :
      (test : Tree) (taken : Actions) (other : Otherwise) (spot : Spot) (n : Maps) → n ≡ filled_case f (may_write_blocking (other_flow ws other)) (may_write_delayed (other_flow ws other)) m →
      filled_case f (may_write_blocking (body_flow ws taken)) (may_write_delayed (body_flow ws taken)) n ≡ filled_case f (may_write_blocking (action_then ws (If test taken other spot) End)) (may_write_delayed (action_then ws (If test taken other spot) End)) m
  if_filled test taken other spot n is =
      filled_more f (may_write_blocking (other_flow ws other)) (may_write_delayed (other_flow ws other)) (may_write_blocking (body_flow ws taken)) (may_write_delayed (body_flow ws taken))
      (may_write_blocking (action_then ws (If test taken other spot) End)) (may_write_delayed (action_then ws (If test taken other spot) End)) m n is
      (λ i k. or_none (some (may_write_now i k) (other_flow ws other) || some (may_write_now i k) (body_flow ws taken)))
      (λ i k. or_none (some (may_write_late i k) (other_flow ws other) || some (may_write_late i k) (body_flow ws taken)))

  pub case_filled :
      (kind : CaseKind) (full parallel : Bool) (selector : Tree) (branches : Branches) (fallback : Otherwise) (spot : Spot) (n : Maps) →
      n ≡ filled_case f (may_write_blocking (other_flow ws fallback)) (may_write_delayed (other_flow ws fallback)) m →
      filled_case f (items_now ws branches) (items_late ws branches) n
      ≡ filled_case f (may_write_blocking (action_then ws (Case kind full parallel selector branches fallback spot) End)) (may_write_delayed (action_then ws (Case kind full parallel selector branches fallback spot) End)) m
  case_filled kind full parallel selector branches fallback spot n is =
      let complete = is_complete ws kind full selector branches in
      filled_more f (may_write_blocking (other_flow ws fallback)) (may_write_delayed (other_flow ws fallback)) (items_now ws branches) (items_late ws branches)
      (may_write_blocking (action_then ws (Case kind full parallel selector branches fallback spot) End)) (may_write_delayed (action_then ws (Case kind full parallel selector branches fallback spot) End)) m n is
      (λ i k. or_none (some_way (may_write_now i k) (ways ws (way_past ws complete fallback) branches)) ∙ some_case (may_write_now i k) ws complete fallback branches)
      (λ i k. or_none (some_way (may_write_late i k) (ways ws (way_past ws complete fallback) branches)) ∙ some_case (may_write_late i k) ws complete fallback branches)

  pub then_filled :
      (first : Action) (others : Actions) (n : Maps) → n ≡ filled_case f (may_write_blocking (action_then ws first End)) (may_write_delayed (action_then ws first End)) m →
      filled_case f (may_write_blocking (body_flow ws others)) (may_write_delayed (body_flow ws others)) n ≡ filled_case f (may_write_blocking (body_flow ws (Then first others))) (may_write_delayed (body_flow ws (Then first others))) m
  then_filled first others n is =
      filled_more f (may_write_blocking (action_then ws first End)) (may_write_delayed (action_then ws first End)) (may_write_blocking (body_flow ws others)) (may_write_delayed (body_flow ws others))
      (may_write_blocking (body_flow ws (Then first others))) (may_write_delayed (body_flow ws (Then first others))) m n is
      (λ i k. some_then (may_write_now i k) ws first others) (λ i k. some_then (may_write_late i k) ws first others)

  pub item_filled :
      (labels : List Tree) (body : Actions) (others : Branches) (n : Maps) → n ≡ filled_case f (may_write_blocking (body_flow ws body)) (may_write_delayed (body_flow ws body)) m →
      filled_case f (items_now ws others) (items_late ws others) n ≡ filled_case f (items_now ws (Branch labels body others)) (items_late ws (Branch labels body others)) m
  item_filled labels body others n is =
      filled_more f (may_write_blocking (body_flow ws body)) (may_write_delayed (body_flow ws body)) (items_now ws others) (items_late ws others)
      (items_now ws (Branch labels body others)) (items_late ws (Branch labels body others)) m n is (λ i k. refl) (λ i k. refl)

or_parts_of : (d a b : Bool) → (d && (a || b)) ≡ ((d && a) || (d && b))
or_parts_of true a b = refl
or_parts_of false a b = refl

pub part_filled :
    (f : Fill) (ws : ℕ → ℕ) (delayed : Bool) (part : Piece) (others : List Piece) (m n : Maps) →
    n ≡ filled_case f (λ i k. not delayed && may_select ws part.signal part.selection i k) (λ i k. delayed && may_select ws part.signal part.selection i k) m →
    filled_case f (λ i k. not delayed && may_target ws others i k) (λ i k. delayed && may_target ws others i k) n
    ≡ filled_case f (λ i k. not delayed && may_target ws (part ∷ others) i k) (λ i k. delayed && may_target ws (part ∷ others) i k) m
part_filled f ws delayed part others m n is =
    filled_more f (λ i k. not delayed && may_select ws part.signal part.selection i k) (λ i k. delayed && may_select ws part.signal part.selection i k)
    (λ i k. not delayed && may_target ws others i k) (λ i k. delayed && may_target ws others i k)
    (λ i k. not delayed && may_target ws (part ∷ others) i k) (λ i k. delayed && may_target ws (part ∷ others) i k) m n is
    (λ i k. or_parts_of (not delayed) (may_select ws part.signal part.selection i k) (may_target ws others i k))
    (λ i k. or_parts_of delayed (may_select ws part.signal part.selection i k) (may_target ws others i k))

never_now : (d : Bool) → (d && false) ≡ false
never_now true = refl
never_now false = refl

pub no_part_filled : (f : Fill) (delayed : Bool) (m : Maps) → filled_case f (λ i k. not delayed && false) (λ i k. delayed && false) m ≡ m
no_part_filled f delayed m =
    filled_alike f (λ i k. not delayed && false) (λ i k. delayed && false) no_bit no_bit m (λ i k. never_now (not delayed)) (λ i k. never_now delayed)
    ∙ filled_none f m
