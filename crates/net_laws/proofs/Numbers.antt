-- From known values a tame body makes known values.
use Rattle.std.proofs.Common.{◌+◌, ◌==◌, ℕ, Bool, true, false, if◌then◌else◌, List, [], ◌∷◌, ◌++◌, length, drop, take, All, Option, None, Some}
use Rattle.std.proofs.lemmas.List.Elements.{All-append, All-cons, All-head, All-map, All-nil, All-tail}
use Rattle.rtl_bits.specs.declared.Bit.{Bit}
use Rattle.rtl_bits.specs.Bit.{is_one}
use Rattle.rtl_bits.specs.Bits.{replaced, selected, truth_bit}
use Rattle.rtl_flat.specs.declared.act.CaseKind.{CaseKind}
use Rattle.rtl_flat.specs.Expression.{Tree}
use Rattle.rtl_flat.specs.Process.{Piece, Action, Set, If, Case, Block, Actions, Done, Then, Otherwise, Without, With, Branches, NoBranch, Branch}
use Rattle.rtl_flat.specs.Value.{value}
use Rattle.rtl_flat.specs.WellFormed.{AreBranches, IsAction, IsBody, IsOtherwise}
use Rattle.event_model.specs.Bodies.{Made, Now, Later, after_made, assigned, body_made, branches_made, made, other_made, some_matches}
use Rattle.rtl_flat.specs.Flats.{Flat, widths}
use Rattle.event_model.specs.Writes.{Values, Write, Span, count_of, counts, span_of, write_at, writes, written}
use Rattle.event_laws.proofs.Made.{body_within, made_within}
use Rattle.event_laws.proofs.Written.{AreMadeWithin, have_after}
use Rattle.net_model.specs.declared.fill.Fill.TheVariants as fill
use Rattle.net_model.specs.Numbers.{AreNumbers}
use Rattle.net_laws.specs.Tame.{AreTame, AreTameItems, IsTame, IsTameOther}
use Rattle.net_laws.proofs.Exact.{exact}
use Rattle.net_laws.proofs.Known.{Known, known_append, known_drop, known_take, selected_known}

-- ---- writes

-- a write of known bits
abbrev pub IsKnownWrite : Write → Type 0
IsKnownWrite w = Known w.bits

abbrev pub IsMadeKnown : Made → Type 0
IsMadeKnown (Now w) = Known w.bits
IsMadeKnown (Later us) = All IsKnownWrite us

pub part_known : (signal : ℕ) (at : Option Span) (bits : List Bit) → Known bits → All IsKnownWrite (write_at signal at bits)
part_known signal None bits known = All-nil IsKnownWrite
part_known signal (Some at) bits known =
    All-cons IsKnownWrite (record { signal = signal; at = at.at; bits = bits }) [] known (All-nil IsKnownWrite)

writes_known : (ws : ℕ → ℕ) (v : Values) (target : List Piece) (bits : List Bit) → Known bits → All IsKnownWrite (writes ws v target bits)
writes_known ws v [] bits known = All-nil IsKnownWrite
writes_known ws v (piece ∷ others) bits known =
    let count = count_of ws piece.signal piece.selection in
    let at = span_of ws v piece.signal piece.selection in
    All-append IsKnownWrite (write_at piece.signal at (selected (counts ws others) count bits)) (writes ws v others bits)
    (part_known piece.signal at (selected (counts ws others) count bits) (selected_known (counts ws others) count bits known))
    (writes_known ws v others bits known)

assigned_known : (delayed : Bool) (us : List Write) → All IsKnownWrite us → All IsMadeKnown (assigned delayed us)
assigned_known false us h = All-map IsMadeKnown Now us h
assigned_known true us h = All-cons IsMadeKnown (Later us) [] h (All-nil IsMadeKnown)

-- ---- values

replaced_known : (at : ℕ) (part a : List Bit) → Known part → Known a → Known (replaced at part a)
replaced_known at part a new known =
    known_append (take at a ++ part) (drop (at + length part) a) (known_append (take at a) part (known_take at a known) new)
    (known_drop (at + length part) a known)

pub written_known : (v : Values) (w : Write) → IsKnownWrite w → ((i : ℕ) → Known (v i)) → (i : ℕ) → Known (written v w i)
written_known v w new known i = by_signal (i == w.signal)
  where
    by_signal : (b : Bool) → Known (if b then replaced w.at w.bits (v w.signal) else v i)
    by_signal true = replaced_known w.at w.bits (v w.signal) new (known w.signal)
    by_signal false = known i

known_made : (v : Values) (ms : List Made) → All IsMadeKnown ms → ((i : ℕ) → Known (v i)) → (i : ℕ) → Known (after_made v ms i)
known_made v [] new known = known
known_made v (Now w ∷ ms) new known =
    known_made (written v w) ms (All-tail IsMadeKnown (Now w) ms new) (written_known v w (All-head IsMadeKnown (Now w) ms new) known)
known_made v (Later us ∷ ms) new known =
    known_made v ms (All-tail IsMadeKnown (Later us) ms new) known

either_known : (b : Bool) (xs ys : List Made) → All IsMadeKnown xs → All IsMadeKnown ys → All IsMadeKnown (if b then xs else ys)
either_known true xs ys left right = left
either_known false xs ys left right = right

module _ (d : Flat) where
  pub numbers_made : (v : Values) (ms : List Made) → AreNumbers d v → AreMadeWithin d ms → All IsMadeKnown ms → AreNumbers d (after_made v ms)
  numbers_made v ms are inside new =
      record { wide = have_after d v ms are.wide inside; known = known_made v ms new are.known }

  mutual
    pub action_known : (v : Values) → AreNumbers d v → (a : Action) → IsAction d.signals a → IsTame d a → All IsMadeKnown (made (widths d) v a)
    action_known v are (Set target e delayed spot) lawful tame =
        assigned_known delayed (writes (widths d) v target (value v e))
        (writes_known (widths d) v target (value v e) (exact d fill.Zero v are e lawful.sized.widths tame.1).known)
    action_known v are (If test taken other spot) lawful tame =
        either_known (is_one (truth_bit (value v test))) (body_made (widths d) v taken) (other_made (widths d) v other)
        (body_known v are taken lawful.1 tame.1) (other_known v are other lawful.2 tame.2)
    action_known v are (Case kind full parallel selector branches fallback spot) lawful tame =
        items_known v are kind selector (value v selector) (other_made (widths d) v fallback) branches
        (other_known v are fallback lawful.2 tame.3) lawful.1 tame.2
    action_known v are (Block body) lawful tame = body_known v are body lawful tame

    pub body_known : (v : Values) → AreNumbers d v → (body : Actions) → IsBody d.signals body → AreTame d body → All IsMadeKnown (body_made (widths d) v body)
    body_known v are Done lawful tame = All-nil IsMadeKnown
    body_known v are (Then first others) lawful tame =
        let ms = made (widths d) v first in
        let new = action_known v are first lawful.0 tame.0 in
        All-append IsMadeKnown ms (body_made (widths d) (after_made v ms) others) new
        (body_known (after_made v ms) (numbers_made v ms are (made_within d.signals v first lawful.0) new) others lawful.1 tame.1)

    other_known : (v : Values) → AreNumbers d v → (other : Otherwise) → IsOtherwise d.signals other → IsTameOther d other → All IsMadeKnown (other_made (widths d) v other)
    other_known v are Without lawful tame = All-nil IsMadeKnown
    other_known v are (With body) lawful tame = body_known v are body lawful tame

    items_known :
        (v : Values) → AreNumbers d v → (kind : CaseKind) (selector : Tree) (bits : List Bit) (none : List Made) (branches : Branches) → All IsMadeKnown none →
        AreBranches d.signals selector branches → AreTameItems d branches → All IsMadeKnown (branches_made (widths d) v kind bits none branches)
    items_known v are kind selector bits none NoBranch past lawful tame = past
    items_known v are kind selector bits none (Branch labels body others) past lawful tame =
        either_known (some_matches kind v bits labels) (body_made (widths d) v body) (branches_made (widths d) v kind bits none others)
        (body_known v are body lawful.3 tame.1) (items_known v are kind selector bits none others past lawful.4 tame.2)

  -- the values after a statement, and after a body, are numbers
  pub numbers_action : (v : Values) → AreNumbers d v → (a : Action) → IsAction d.signals a → IsTame d a → AreNumbers d (after_made v (made (widths d) v a))
  numbers_action v are a lawful tame =
      numbers_made v (made (widths d) v a) are (made_within d.signals v a lawful) (action_known v are a lawful tame)

  pub numbers_body : (v : Values) → AreNumbers d v → (body : Actions) → IsBody d.signals body → AreTame d body → AreNumbers d (after_made v (body_made (widths d) v body))
  numbers_body v are body lawful tame =
      numbers_made v (body_made (widths d) v body) are (body_within d.signals v body lawful) (body_known v are body lawful tame)
