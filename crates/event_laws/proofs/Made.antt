-- All that a lawful body makes ends inside its signals.
use Rattle.std.proofs.Common.{ℕ, Bool, true, false, List, []}
use Rattle.std.specs.Prelude.{if◌then◌else◌}
use Rattle.std.specs.List.{All}
use Rattle.std.proofs.lemmas.List.Elements.{All-append, All-cons, All-map, All-nil}
use Rattle.rtl_bits.specs.declared.Bit.{Bit}
use Rattle.rtl_bits.specs.Bit.{is_one}
use Rattle.rtl_bits.specs.Bits.{truth_bit}
use Rattle.rtl_flat.specs.declared.act.CaseKind.{CaseKind}
use Rattle.rtl_flat.specs.declared.signal.Signal.{Signal}
use Rattle.rtl_flat.specs.Expression.{Tree}
use Rattle.rtl_flat.specs.Process.{Action, Set, If, Case, Block, Actions, Done, Then, Otherwise, Without, With, Branches, NoBranch, Branch}
use Rattle.rtl_flat.specs.Signs.{width_in}
use Rattle.rtl_flat.specs.Value.{value}
use Rattle.rtl_flat.specs.WellFormed.{AreBranches, IsAction, IsBody, IsOtherwise}
use Rattle.event_model.specs.Writes.{Values, Write, writes}
use Rattle.event_model.specs.Bodies.{Made, Now, Later, after_made, assigned, body_made, branches_made, made, other_made, some_matches}
use Rattle.event_laws.specs.Steady.{IsWithin}
use Rattle.event_laws.proofs.Inside.{writes_within}

-- whether what is made ends inside its signals
abbrev pub IsMadeWithin : (ℕ → ℕ) → Made → Type 0
IsMadeWithin ws (Now w) = IsWithin ws w
IsMadeWithin ws (Later us) = All (IsWithin ws) us

pub assigned_within : (ws : ℕ → ℕ) (delayed : Bool) (us : List Write) → All (IsWithin ws) us → All (IsMadeWithin ws) (assigned delayed us)
assigned_within ws false us h = All-map (IsMadeWithin ws) Now us h
assigned_within ws true us h = All-cons (IsMadeWithin ws) (Later us) [] h (All-nil (IsMadeWithin ws))

either_within : (ws : ℕ → ℕ) (b : Bool) (xs ys : List Made) → All (IsMadeWithin ws) xs → All (IsMadeWithin ws) ys → All (IsMadeWithin ws) (if b then xs else ys)
either_within ws true xs ys on_true on_false = on_true
either_within ws false xs ys on_true on_false = on_false

mutual
  pub made_within : (signals : List Signal) (v : Values) (a : Action) → IsAction signals a → All (IsMadeWithin (width_in signals)) (made (width_in signals) v a)
  made_within signals v (Set target e delayed spot) h =
      assigned_within (width_in signals) delayed (writes (width_in signals) v target (value v e)) (writes_within signals v target (value v e) h.parts)
  made_within signals v (If test taken other spot) h =
      either_within (width_in signals) (is_one (truth_bit (value v test))) (body_made (width_in signals) v taken)
      (other_made (width_in signals) v other) (body_within signals v taken h.1) (other_within signals v other h.2)
  made_within signals v (Case kind full parallel selector branches fallback spot) h =
      branches_within signals v kind selector (value v selector) (other_made (width_in signals) v fallback) branches (other_within signals v fallback h.2) h.1
  made_within signals v (Block body) h = body_within signals v body h

  pub body_within :
      (signals : List Signal) (v : Values) (body : Actions) → IsBody signals body →
      All (IsMadeWithin (width_in signals)) (body_made (width_in signals) v body)
  body_within signals v Done h = All-nil (IsMadeWithin (width_in signals))
  body_within signals v (Then first others) h =
      All-append (IsMadeWithin (width_in signals)) (made (width_in signals) v first)
      (body_made (width_in signals) (after_made v (made (width_in signals) v first)) others)
      (made_within signals v first h.0)
      (body_within signals (after_made v (made (width_in signals) v first)) others h.1)

  other_within :
      (signals : List Signal) (v : Values) (other : Otherwise) → IsOtherwise signals other →
      All (IsMadeWithin (width_in signals)) (other_made (width_in signals) v other)
  other_within signals v Without h = All-nil (IsMadeWithin (width_in signals))
  other_within signals v (With body) h = body_within signals v body h

  branches_within :
      (signals : List Signal) (v : Values) (kind : CaseKind) (selector : Tree) (bits : List Bit) (none : List Made) (branches : Branches) →
      All (IsMadeWithin (width_in signals)) none → AreBranches signals selector branches →
      All (IsMadeWithin (width_in signals)) (branches_made (width_in signals) v kind bits none branches)
  branches_within signals v kind selector bits none NoBranch on_none h = on_none
  branches_within signals v kind selector bits none (Branch labels body others) on_none h =
      either_within (width_in signals) (some_matches kind v bits labels) (body_made (width_in signals) v body)
      (branches_made (width_in signals) v kind bits none others) (body_within signals v body h.3)
      (branches_within signals v kind selector bits none others on_none h.4)
