-- From known values the function of a tame body gives what the run of the body makes.
use Rattle.std.proofs.Common.{◌≡◌, ◌∙◌, ℕ, Bool, true, false, cond, ◌&&◌, ◌||◌, if◌then◌else◌, pos, ◌-ℤ◌, List, [], ◌∷◌, ◌++◌, All, None, refl, sym, ap, subst}
use Rattle.std.specs.List.{list_any}
use Rattle.std.proofs.lemmas.Bool.{false≢true, false_from_ne_true, or_from, or_parts}
use Rattle.std.proofs.lemmas.List.Elements.{All-head, All-tail}
use Rattle.std.proofs.lemmas.List.Folds.{list_any-append}
use Rattle.std.proofs.lemmas.List.{append-nil}
use Rattle.rtl_bits.specs.declared.Bit.{Bit}
use Rattle.rtl_bits.specs.Bit.{is_one}
use Rattle.rtl_bits.specs.Bits.{selected, truth_bit}
use Rattle.rtl_flat.specs.declared.act.CaseKind.{CaseKind}
use Rattle.rtl_flat.specs.Expression.{Tree}
use Rattle.rtl_flat.specs.Flows.{action_then, body_flow, complete_by_labels, labels_of, other_flow}
use Rattle.rtl_flat.specs.Labels.{label_matches}
use Rattle.rtl_flat.specs.Paths.{BitSet, Flow, End, may_write_blocking, may_write_delayed, may_write_late, may_write_now}
use Rattle.rtl_flat.specs.Process.{Piece, Selection, Whole, BitAt, BitBy, Part, Action, Set, If, Case, Block, Actions, Done, Then, Otherwise, Without, With, Branches, NoBranch, Branch}
use Rattle.rtl_flat.specs.Signs.{IsExpression, sign_of}
use Rattle.rtl_flat.specs.Value.{index_number, value}
use Rattle.rtl_flat.specs.WellFormed.{AreBranches, IsAction, IsBody, IsOtherwise, IsSelection}
use Rattle.rtl_flat.proofs.Paths.{decided}
use Rattle.event_model.specs.Bodies.{Made, after_made, assigned, body_made, branches_made, made, other_made, some_matches}
use Rattle.rtl_flat.specs.Flats.{Flat, widths}
use Rattle.event_model.specs.Traces.{makes_late, makes_now}
use Rattle.event_model.specs.Writes.{Values, bit_inside, count_of, counts, span_of, write_at, writes}
use Rattle.event_laws.proofs.Inside.{AreSelections}
use Rattle.event_laws.proofs.Made.{body_within}
use Rattle.event_laws.proofs.Sure.{may_late, may_now}
use Rattle.net_model.specs.declared.fill.Fill.{Fill}
use Rattle.net_model.specs.Block.{Maps, act, act_arms, act_first, act_other, acts, digit_writes, filled_case, fresh, item_meets, joined_arms, some_meets, span_by, write_each}
use Rattle.net_model.specs.Numbers.{AreNumbers, digits, is_literal, label_digits}
use Rattle.net_laws.specs.Laws.{late_writes}
use Rattle.net_laws.specs.Tame.{AreExclusive, AreExclusiveItems, AreTame, AreTameItems, HasFirmIndex, IsExclusive, IsExclusiveOther, IsFirm, IsFirmLabel, IsHonest, IsTame, IsTameOther, OneMatches}
use Rattle.net_laws.proofs.After.{IsAfter, after_arm, after_both, after_none, after_set, either_after}
use Rattle.net_laws.proofs.Covered.{covered}
use Rattle.net_laws.proofs.Exact.{exact}
use Rattle.net_laws.proofs.Late.{any_late, none_last}
use Rattle.net_laws.proofs.Numbers.{body_known, numbers_action}
use Rattle.net_laws.proofs.Parts.{Gives, GivesItems, fallback_gives, first_gives, item_gives, items_give, later_give, other_gives, others_give, taken_gives}

-- ---- what is read

module _ (d : Flat) (f : Fill) (v : Values) (are : AreNumbers d v) where
  pub same_digits : (e : Tree) → IsExpression d.signals e → IsFirm d e → digits f v e ≡ value v e
  same_digits e lawful firm = (exact d f v are e lawful.widths firm).same

  same_span : (signal : ℕ) (selection : Selection) → IsSelection d.signals signal selection → HasFirmIndex d selection → span_by (widths d) f v signal selection ≡ span_of (widths d) v signal selection
  same_span signal Whole lawful firm = refl
  same_span signal (BitAt low index) lawful firm = refl
  same_span signal (BitBy low index) lawful firm =
      let is = exact d f v are index lawful.1.widths firm in
      ap (λ a. bit_inside (widths d signal) (index_number (sign_of index) a -ℤ pos low)) is.same
      ∙ ap (λ unknown. cond unknown None (bit_inside (widths d signal) (index_number (sign_of index) (value v index) -ℤ pos low))) (sym is.known)
  same_span signal (Part low width) lawful firm = refl

  same_writes : (target : List Piece) → AreSelections d.signals target → All (λ (piece : Piece). HasFirmIndex d piece.selection) target → (bits : List Bit) → digit_writes (widths d) f v target bits ≡ writes (widths d) v target bits
  same_writes [] lawful firm bits = refl
  same_writes (piece ∷ others) lawful firm bits =
      let ws = widths d in
      let part = selected (counts ws others) (count_of ws piece.signal piece.selection) bits in
      ap (λ at. write_at piece.signal at part ++ digit_writes ws f v others bits)
      (same_span piece.signal piece.selection (All-head (λ (one : Piece). IsSelection d.signals one.signal one.selection) piece others lawful)
      (All-head (λ (one : Piece). HasFirmIndex d one.selection) piece others firm))
      ∙ ap (λ us. write_at piece.signal (span_of ws v piece.signal piece.selection) part ++ us)
      (same_writes others (All-tail (λ (one : Piece). IsSelection d.signals one.signal one.selection) piece others lawful)
      (All-tail (λ (one : Piece). HasFirmIndex d one.selection) piece others firm) bits)

  same_label : (label : Tree) → IsExpression d.signals label → IsFirmLabel d label → label_digits f v label ≡ value v label
  same_label label lawful firm = by_form (is_literal label) refl
    where
      by_form : (b : Bool) → is_literal label ≡ b → cond b (value v label) (digits f v label) ≡ value v label
      by_form true e = refl
      by_form false e = same_digits label lawful (firm e)

  same_meets : (kind : CaseKind) (bits : List Bit) (labels : List Tree) → All (IsExpression d.signals) labels → All (IsFirmLabel d) labels → some_meets f v kind bits labels ≡ some_matches kind v bits labels
  same_meets kind bits [] lawful firm = refl
  same_meets kind bits (label ∷ others) lawful firm =
      ap (λ a. label_matches kind bits a || some_meets f v kind bits others)
      (same_label label (All-head (IsExpression d.signals) label others lawful) (All-head (IsFirmLabel d) label others firm))
      ∙ ap (λ b. label_matches kind bits (value v label) || b)
      (same_meets kind bits others (All-tail (IsExpression d.signals) label others lawful) (All-tail (IsFirmLabel d) label others firm))

  same_items : (kind : CaseKind) (selector : Tree) (bits : List Bit) (branches : Branches) → AreBranches d.signals selector branches → AreTameItems d branches → item_meets f v kind bits branches ≡ some_matches kind v bits (labels_of branches)
  same_items kind selector bits NoBranch lawful tame = refl
  same_items kind selector bits (Branch labels body others) lawful tame =
      ap (λ b. b || item_meets f v kind bits others) (same_meets kind bits labels lawful.0 tame.0)
      ∙ ap (λ b. some_matches kind v bits labels || b) (same_items kind selector bits others lawful.4 tame.2)
      ∙ sym (list_any-append (λ (label : Tree). label_matches kind bits (value v label)) labels (labels_of others))

-- ---- ways to write

-- the bits of a set are written late, and all others at once
pub record ByWay (late : BitSet) (flow : Flow) : Type 0 where
  pub now : Gives may_write_now (λ i k. late i k ≡ false) flow
  pub later : Gives may_write_late (λ i k. late i k ≡ true) flow

record ItemsByWay (ws : ℕ → ℕ) (late : BitSet) (branches : Branches) : Type 0 where
  now : GivesItems ws may_write_now (λ i k. late i k ≡ false) branches
  later : GivesItems ws may_write_late (λ i k. late i k ≡ true) branches

-- no other bit is to be written at the end
abbrev pub HasLate : BitSet → Maps → Type 0
HasLate late m = (i k : ℕ) → late i k ≡ false → m.next i k ≡ None

module _ (d : Flat) (late : BitSet) where
  -- so it is of what the run of a body makes
  made_now : (v : Values) (body : Actions) → IsBody d.signals body → ByWay late (body_flow (widths d) body) → (i k : ℕ) → list_any (makes_now i k) (body_made (widths d) v body) ≡ true → late i k ≡ false
  made_now v body lawful ways i k h =
      ways.now i k ((decided (body_flow (widths d) body) i k).now.1 (may_now d.signals i k v body lawful h))

  made_later : (v : Values) (body : Actions) → IsBody d.signals body → ByWay late (body_flow (widths d) body) → (i k : ℕ) → list_any (makes_late i k) (body_made (widths d) v body) ≡ true → late i k ≡ true
  made_later v body lawful ways i k h =
      ways.later i k ((decided (body_flow (widths d) body) i k).late.1 (may_late d.signals i k v body lawful h))

  none_later : (v : Values) (body : Actions) → IsBody d.signals body → ByWay late (body_flow (widths d) body) → (i k : ℕ) → late i k ≡ false → list_any (makes_late i k) (body_made (widths d) v body) ≡ false
  none_later v body lawful ways i k not_late =
      false_from_ne_true (list_any (makes_late i k) (body_made (widths d) v body))
      (λ h. false≢true (sym not_late ∙ made_later v body lawful ways i k h))

  -- a body leaves it so
  has_late_after :
      (m after : Maps) (a : Action) → HasLate late m → IsAction d.signals a → ByWay late (action_then (widths d) a End) →
      IsAfter m (made (widths d) m.now a) after → HasLate late after
  has_late_after m after a has lawful ways is i k not_late =
      let ms = made (widths d) m.now a in
      let body = Then a Done in
      let none : list_any (makes_late i k) (ms ++ []) ≡ false = none_later m.now body (lawful, tt) (record { now = ways.now; later = ways.later }) i k not_late in
      let none' : list_any (makes_late i k) ms ≡ false = ap (list_any (makes_late i k)) (sym (append-nil ms)) ∙ none in
      is.next i k ∙ none_last i k (m.next i k) (late_writes ms) (any_late i k ms ∙ none') ∙ has i k not_late

-- a case with `parallel_case` where some item matches, and any other
by_way :
    (m : Maps) (ms : List Made) (x y : Maps) (parallel meets some : Bool) → meets ≡ some → (parallel ≡ true → some ≡ true → IsAfter m ms x) → IsAfter m ms y →
    IsAfter m ms (if parallel && meets then x else y)
by_way m ms x y true true some e left right = left refl (sym e)
by_way m ms x y true false some e left right = right
by_way m ms x y false meets some e left right = right

either_joined : (m : Maps) (b : Bool) (p q : List Made) (x y : List Maps) → (b ≡ true → IsAfter m p (joined_arms m x)) → (b ≡ false → IsAfter m q (joined_arms m y)) → IsAfter m (if b then p else q) (joined_arms m (if b then x else y))
either_joined m true p q x y left right = left refl
either_joined m false p q x y left right = right refl

or_second : (a b : Bool) → a ≡ false → (a || b) ≡ true → b ≡ true
or_second true b none some = absurd (false≢true (sym none))
or_second false b none some = some

-- an honest case without `default` has an item that matches
by_promise :
    (d : Flat) (m : Maps) → AreNumbers d m.now → (kind : CaseKind) (full : Bool) (selector : Tree) (branches : Branches) (fallback : Otherwise) (filled : Maps) →
    IsExpression d.signals selector → AreBranches d.signals selector branches → IsFirm d selector → IsHonest d kind full selector branches fallback → fallback ≡ Without →
    some_matches kind m.now (value m.now selector) (labels_of branches) ≡ false → IsAfter m [] (cond full filled m)
by_promise d m are kind true selector branches fallback filled sized lawful firm honest without unmatched =
    let whole : complete_by_labels (widths d) kind selector branches ≡ true = subst (IsHonest d kind true selector branches) without honest refl in
    absurd (false≢true (sym unmatched ∙ covered d m.now are kind selector branches sized lawful firm whole))
by_promise d m are kind false selector branches fallback filled sized lawful firm honest without unmatched = after_none m

module _ (d : Flat) (f : Fill) (late : BitSet) where
  abbrev ws : ℕ → ℕ
  ws = widths d

  -- no item that matches, no arm
  no_arms :
      (m : Maps) → AreNumbers d m.now → (kind : CaseKind) (selector : Tree) (bits : List Bit) (branches : Branches) → AreBranches d.signals selector branches → AreTameItems d branches →
      some_matches kind m.now bits (labels_of branches) ≡ false → act_arms ws f m kind bits branches ≡ []
  no_arms m are kind selector bits NoBranch lawful tame none = refl
  no_arms m are kind selector bits (Branch labels body others) lawful tame none =
      let parts = or_parts (some_matches kind m.now bits labels) (some_matches kind m.now bits (labels_of others))
      (sym (list_any-append (λ (label : Tree). label_matches kind bits (value m.now label)) labels (labels_of others)) ∙ none) in
      ap (λ b. if b then acts ws f (fresh m) body ∷ act_arms ws f m kind bits others else act_arms ws f m kind bits others)
      (same_meets d f m.now are kind bits labels lawful.0 tame.0 ∙ parts.0)
      ∙ no_arms m are kind selector bits others lawful.4 tame.2 parts.1

  item_ways : (other_late : BitSet) (labels : List Tree) (body : Actions) (others : Branches) → ItemsByWay ws other_late (Branch labels body others) → ByWay other_late (body_flow ws body)
  item_ways other_late labels body others ways =
      record {
        now = item_gives ws may_write_now (λ i k. other_late i k ≡ false) labels body others ways.now;
        later = item_gives ws may_write_late (λ i k. other_late i k ≡ true) labels body others ways.later;
      }

  later_ways : (other_late : BitSet) (labels : List Tree) (body : Actions) (others : Branches) → ItemsByWay ws other_late (Branch labels body others) → ItemsByWay ws other_late others
  later_ways other_late labels body others ways =
      record {
        now = later_give ws may_write_now (λ i k. other_late i k ≡ false) labels body others ways.now;
        later = later_give ws may_write_late (λ i k. other_late i k ≡ true) labels body others ways.later;
      }

  mutual
    pub action_is :
        (m : Maps) → AreNumbers d m.now → HasLate late m → (a : Action) → IsAction d.signals a → IsTame d a → IsExclusive d a → ByWay late (action_then ws a End) →
        IsAfter m (made ws m.now a) (act ws f m a)
    action_is m are has (Set target e delayed spot) lawful tame one ways =
        let us = writes ws m.now target (value m.now e) in
        subst (λ xs. IsAfter m (assigned delayed us) (write_each delayed m xs))
        (sym (ap (digit_writes ws f m.now target) (same_digits d f m.now are e lawful.sized tame.1) ∙ same_writes d f m.now are target lawful.parts tame.0 (value m.now e)))
        (after_set m delayed us)
    action_is m are has (If test taken other spot) lawful tame one ways =
        let chosen = is_one (truth_bit (value m.now test)) in
        subst (λ a. IsAfter m (if chosen then body_made ws m.now taken else other_made ws m.now other) (if is_one (truth_bit a) then acts ws f m taken else act_other ws f m m other))
        (sym (same_digits d f m.now are test lawful.0 tame.0))
        (either_after m chosen (body_made ws m.now taken) (other_made ws m.now other) (acts ws f m taken) (act_other ws f m m other)
        (λ is. body_is m are has taken lawful.1 tame.1 one.0
        (record {
          now = taken_gives ws may_write_now (λ i k. late i k ≡ false) test taken other spot ways.now;
          later = taken_gives ws may_write_late (λ i k. late i k ≡ true) test taken other spot ways.later;
        }))
        (λ is. other_is m are has m other lawful.2 tame.2 one.1
        (record {
          now = other_gives ws may_write_now (λ i k. late i k ≡ false) test taken other spot ways.now;
          later = other_gives ws may_write_late (λ i k. late i k ≡ true) test taken other spot ways.later;
        }) (λ none. after_none m)))
    action_is m are has (Case kind full parallel selector branches fallback spot) lawful tame one ways =
        let bits = value m.now selector in
        let flow = action_then ws (Case kind full parallel selector branches fallback spot) End in
        let past = cond full (filled_case f (may_write_blocking flow) (may_write_delayed flow) m) m in
        let ways_in : ItemsByWay ws late branches
        = record {
          now = items_give ws may_write_now (λ i k. late i k ≡ false) kind full parallel selector branches fallback spot ways.now;
          later = items_give ws may_write_late (λ i k. late i k ≡ true) kind full parallel selector branches fallback spot ways.later;
        } in
        let ways_past : ByWay late (other_flow ws fallback)
        = record {
          now = fallback_gives ws may_write_now (λ i k. late i k ≡ false) kind full parallel selector branches fallback spot ways.now;
          later = fallback_gives ws may_write_late (λ i k. late i k ≡ true) kind full parallel selector branches fallback spot ways.later;
        } in
        let none = other_made ws m.now fallback in
        subst (λ a. IsAfter m (branches_made ws m.now kind bits none branches) (if parallel && item_meets f m.now kind a branches then joined_arms m (act_arms ws f m kind a branches) else act_first ws f m kind a (act_other ws f m past fallback) branches))
        (sym (same_digits d f m.now are selector lawful.0 tame.0))
        (by_way m (branches_made ws m.now kind bits none branches) (joined_arms m (act_arms ws f m kind bits branches)) (act_first ws f m kind bits (act_other ws f m past fallback) branches)
        parallel (item_meets f m.now kind bits branches) (some_matches kind m.now bits (labels_of branches)) (same_items d f m.now are kind selector bits branches lawful.1 tame.2)
        (λ is matched. arms_is m are has kind selector bits none branches lawful.1 tame.2 one.1 ways_in (one.0 is m.now are) matched)
        (items_is m are has kind selector bits none (act_other ws f m past fallback) branches lawful.1 tame.2 one.1 ways_in
        (λ unmatched. other_is m are has past fallback lawful.2 tame.3 one.2 ways_past
        (λ without. by_promise d m are kind full selector branches fallback (filled_case f (may_write_blocking flow) (may_write_delayed flow) m) lawful.0 lawful.1 tame.0 tame.1 without unmatched))))
    action_is m are has (Block body) lawful tame one ways =
        body_is m are has body lawful tame one ways

    pub body_is :
        (m : Maps) → AreNumbers d m.now → HasLate late m → (body : Actions) → IsBody d.signals body → AreTame d body → AreExclusive d body → ByWay late (body_flow ws body) →
        IsAfter m (body_made ws m.now body) (acts ws f m body)
    body_is m are has Done lawful tame one ways = after_none m
    body_is m are has (Then first others) lawful tame one ways =
        let ms = made ws m.now first in
        let middle = act ws f m first in
        let ways_first : ByWay late (action_then ws first End)
        = record {
          now = first_gives ws may_write_now (λ i k. late i k ≡ false) first others ways.now;
          later = first_gives ws may_write_late (λ i k. late i k ≡ true) first others ways.later;
        } in
        let ways_others : ByWay late (body_flow ws others)
        = record {
          now = others_give ws may_write_now (λ i k. late i k ≡ false) first others ways.now;
          later = others_give ws may_write_late (λ i k. late i k ≡ true) first others ways.later;
        } in
        let here = action_is m are has first lawful.0 tame.0 one.0 ways_first in
        let numbers = subst (AreNumbers d) (sym here.now) (numbers_action d m.now are first lawful.0 tame.0) in
        let rest = body_is middle numbers (has_late_after d late m middle first has lawful.0 ways_first here) others lawful.1 tame.1 one.1 ways_others in
        after_both m ms middle (body_made ws (after_made m.now ms) others) (acts ws f middle others) here
        (subst (λ v. IsAfter middle (body_made ws v others) (acts ws f middle others)) here.now rest)

    other_is :
        (m : Maps) → AreNumbers d m.now → HasLate late m → (past : Maps) (other : Otherwise) → IsOtherwise d.signals other → IsTameOther d other → IsExclusiveOther d other →
        ByWay late (other_flow ws other) → (other ≡ Without → IsAfter m [] past) →
        IsAfter m (other_made ws m.now other) (act_other ws f m past other)
    other_is m are has past Without lawful tame one ways without = without refl
    other_is m are has past (With body) lawful tame one ways without =
        body_is m are has body lawful tame one ways

    items_is :
        (m : Maps) → AreNumbers d m.now → HasLate late m → (kind : CaseKind) (selector : Tree) (bits : List Bit) (none : List Made) (past : Maps) (branches : Branches) →
        AreBranches d.signals selector branches → AreTameItems d branches → AreExclusiveItems d branches → ItemsByWay ws late branches →
        (some_matches kind m.now bits (labels_of branches) ≡ false → IsAfter m none past) →
        IsAfter m (branches_made ws m.now kind bits none branches) (act_first ws f m kind bits past branches)
    items_is m are has kind selector bits none past NoBranch lawful tame one ways unmatched = unmatched refl
    items_is m are has kind selector bits none past (Branch labels body others) lawful tame one ways unmatched =
        let here = some_matches kind m.now bits labels in
        let made_others = branches_made ws m.now kind bits none others in
        let act_others = act_first ws f m kind bits past others in
        subst (λ b. IsAfter m (if here then body_made ws m.now body else made_others) (if b then acts ws f m body else act_others))
        (sym (same_meets d f m.now are kind bits labels lawful.0 tame.0))
        (either_after m here (body_made ws m.now body) made_others (acts ws f m body) act_others
        (λ is. body_is m are has body lawful.3 tame.1 one.0 (item_ways late labels body others ways))
        (λ not_here. items_is m are has kind selector bits none past others lawful.4 tame.2 one.1 (later_ways late labels body others ways)
        (λ not_there. unmatched (list_any-append (λ (label : Tree). label_matches kind bits (value m.now label)) labels (labels_of others) ∙ or_from here (some_matches kind m.now bits (labels_of others)) not_here not_there))))

    arms_is :
        (m : Maps) → AreNumbers d m.now → HasLate late m → (kind : CaseKind) (selector : Tree) (bits : List Bit) (none : List Made) (branches : Branches) →
        AreBranches d.signals selector branches → AreTameItems d branches → AreExclusiveItems d branches → ItemsByWay ws late branches →
        OneMatches kind m.now bits branches → some_matches kind m.now bits (labels_of branches) ≡ true →
        IsAfter m (branches_made ws m.now kind bits none branches) (joined_arms m (act_arms ws f m kind bits branches))
    arms_is m are has kind selector bits none NoBranch lawful tame one ways single some = absurd (false≢true some)
    arms_is m are has kind selector bits none (Branch labels body others) lawful tame one ways single some =
        let here = some_matches kind m.now bits labels in
        let there = some_matches kind m.now bits (labels_of others) in
        let ms = body_made ws m.now body in
        let made_others = branches_made ws m.now kind bits none others in
        let arm = acts ws f (fresh m) body in
        let arms = act_arms ws f m kind bits others in
        let ways_item = item_ways late labels body others ways in
        subst (λ b. IsAfter m (if here then ms else made_others) (joined_arms m (if b then arm ∷ arms else arms)))
        (sym (same_meets d f m.now are kind bits labels lawful.0 tame.0))
        (either_joined m here ms made_others (arm ∷ arms) arms
        (λ is. subst (λ xs. IsAfter m ms (joined_arms m (arm ∷ xs)))
        (sym (no_arms m are kind selector bits others lawful.4 tame.2 (single.0 is)))
        (after_arm d m are ms (body_within d.signals m.now body lawful.3) (body_known d m.now are body lawful.3 tame.1) arm
        (body_is (fresh m) are has body lawful.3 tame.1 one.0 ways_item)
        (λ i k now.
        let at_once = made_now d late m.now body lawful.3 ways_item i k now in
        (has i k at_once, none_later d late m.now body lawful.3 ways_item i k at_once))))
        (λ not_here. arms_is m are has kind selector bits none others lawful.4 tame.2 one.1 (later_ways late labels body others ways) single.1
        (or_second here there not_here (sym (list_any-append (λ (label : Tree). label_matches kind bits (value m.now label)) labels (labels_of others)) ∙ some))))
