-- What statements make, one after the other.
use Rattle.std.specs.Prelude.{Vec, Option, if◌then◌else◌}
use Rattle.std.specs.declared.alloc.Global.{Global}
use Rattle.std.proofs.Common.{◌≡◌, ◌≤◌, ◌∙◌, ◌++◌, ℕ, Bool, true, false, List, [], ◌∷◌, map, refl, sym, ap, arith}
use Rattle.rtl_bits.specs.Bit.{is_one}
use Rattle.rtl_bits.specs.Bits.{truth_bit}
use Rattle.text_ground.specs.declared.text.Spot.{Spot}
use Rattle.rtl_flat.specs.declared.expr.SizedExpr.{SizedExpr}
use Rattle.rtl_flat.specs.declared.act.CaseKind.{CaseKind}
use Rattle.rtl_flat.specs.declared.act.CaseItem.{CaseItem}
use Rattle.rtl_flat.specs.declared.act.Act.{Act}
use Rattle.rtl_flat.specs.declared.act.Act.TheVariants as act
use Rattle.rtl_flat.specs.Expression.{Tree, tree}
use Rattle.rtl_flat.specs.Process.{Action, Actions, Otherwise, Block, Case, If, Then, action, body_of}
use Rattle.rtl_flat.specs.Value.{value}
use Rattle.rtl_flat.proofs.ActViews.{block_is}
use Rattle.rtl_scan.specs.Bodies.{branches_of, other_of}
use Rattle.rtl_scan.proofs.Bodies.{case_is, choice_is}
use Rattle.event_model.specs.Bodies.{Made, Now, Later, after_made, made, body_made, other_made}
use Rattle.event_model.specs.Queue.{State, perform, perform_all, write, write_all}
use Rattle.rtl_flat.specs.Flats.{Flat}
use Rattle.event_model.specs.Writes.{Values, Write}
use Rattle.event_write.specs.declared.queue_state.QueueState.{QueueState}
use Rattle.event_write.specs.Rooms.{IsKept}

-- the values of the state are those that the model goes on from
pub values_after : (d : Flat) (s : State) (ms : List Made) → (perform_all d s ms).value ≡ after_made s.value ms
values_after d s [] = refl
values_after d s (Now w ∷ ms) = values_after d (write d s w) ms
values_after d s (Later ws ∷ ms) = values_after d (perform d s (Later ws)) ms

perform_append : (d : Flat) (s : State) (xs ys : List Made) → perform_all d s (xs ++ ys) ≡ perform_all d (perform_all d s xs) ys
perform_append d s [] ys = refl
perform_append d s (m ∷ xs) ys = perform_append d (perform d s m) xs ys

-- writes at once
pub all_now : (d : Flat) (s : State) (ws : List Write) → perform_all d s (map Now ws) ≡ write_all d s ws
all_now d s [] = refl
all_now d s (w ∷ ws) = all_now d (write d s w) ws

-- one statement more
pub one_made : (d : Flat) (s t : State) (ws : ℕ → ℕ) (first : Action) (others : Actions) → t ≡ perform_all d s (made ws s.value first) → perform_all d t (body_made ws t.value others) ≡ perform_all d s (body_made ws s.value (Then first others))
one_made d s t ws first others is =
    ap (λ (u : State). perform_all d u (body_made ws u.value others)) is
    ∙ ap (λ (v : Values). perform_all d (perform_all d s (made ws s.value first)) (body_made ws v others)) (values_after d s (made ws s.value first))
    ∙ sym (perform_append d s (made ws s.value first) (body_made ws (after_made s.value (made ws s.value first)) others))

-- ---- what a statement is that holds others

pub if_action : (a : Act) (test : SizedExpr) (taken : Vec Act Global) (other : Option (Vec Act Global)) (spot : Spot) → a ≡ act.If test taken other spot → action a ≡ If (tree test) (body_of (map action taken.items)) (other_of other) spot
if_action a test taken other spot is = ap action is ∙ choice_is test taken other spot

pub case_action : (a : Act) (kind : CaseKind) (full parallel : Bool) (selector : SizedExpr) (items : Vec CaseItem Global) (fallback : Option (Vec Act Global)) (spot : Spot) → a ≡ act.Case kind full parallel selector items fallback spot → action a ≡ Case kind full parallel (tree selector) (branches_of items.items) (other_of fallback) spot
case_action a kind full parallel selector items fallback spot is =
    ap action is ∙ case_is kind full parallel selector items fallback spot

pub block_action : (a : Act) (body : Vec Act Global) → a ≡ act.Block body → action a ≡ Block (body_of (map action body.items))
block_action a body is = ap action is ∙ block_is body

-- ---- which branch of an `if` is made

pub taken_made : (ws : ℕ → ℕ) (v : Values) (a : Action) (test : Tree) (taken : Actions) (other : Otherwise) (spot : Spot) → a ≡ If test taken other spot → true ≡ is_one (truth_bit (value v test)) → body_made ws v taken ≡ made ws v a
taken_made ws v a test taken other spot is holds =
    ap (λ b. if b then body_made ws v taken else other_made ws v other) holds ∙ sym (ap (made ws v) is)

pub other_way_made : (ws : ℕ → ℕ) (v : Values) (a : Action) (test : Tree) (taken : Actions) (other : Otherwise) (spot : Spot) → a ≡ If test taken other spot → false ≡ is_one (truth_bit (value v test)) → other_made ws v other ≡ made ws v a
other_way_made ws v a test taken other spot is fails =
    ap (λ b. if b then body_made ws v taken else other_made ws v other) fails ∙ sym (ap (made ws v) is)

-- ---- room

pub kept_more : (a b : ℕ) (m n : QueueState) → a ≤ b → IsKept a m n → IsKept b m n
kept_more a b m n more h =
    let few = h.waiting in
    record {
      waiting = omega (arith, few, more);
      room = h.room;
      scratch = h.scratch;
      levels = h.levels;
      active = h.active;
      next = h.next;
    }
