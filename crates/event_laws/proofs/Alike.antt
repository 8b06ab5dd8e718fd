-- What a body makes depends on what it reads outside.
use Rattle.std.proofs.Common.{◌≡◌, ◌∙◌, ℕ, Bool, true, false, not, ◌&&◌, ◌||◌, cond, if◌then◌else◌, pos, ◌-ℤ◌, List, [], ◌∷◌, ◌++◌, length, None, All, refl, ap, subst, inl, inr}
use Rattle.std.specs.List.{list_any}
use Rattle.std.proofs.lemmas.Bool.{and_from, and_parts, cases_Bool, false≢true, not-true, or_cases, or_from, or_left, or_right}
use Rattle.std.proofs.lemmas.List.Elements.{All-head, All-tail}
use Rattle.rtl_bits.specs.declared.Bit.{Bit}
use Rattle.rtl_bits.specs.Bit.{is_one}
use Rattle.rtl_bits.specs.Bits.{has_unknown, selected, truth_bit}
use Rattle.rtl_flat.specs.declared.act.CaseKind.{CaseKind}
use Rattle.rtl_flat.specs.Expression.{Tree}
use Rattle.rtl_flat.specs.Flows.{body_flow, index_reads, labels_of, reads, reads_all, target_reads}
use Rattle.rtl_flat.specs.Labels.{label_matches}
use Rattle.rtl_flat.specs.Paths.{BitSet, Step, Read, Flow, IsPath, ReadsOutside, either, reads_bit, writes_now}
use Rattle.rtl_flat.specs.Process.{Piece, Selection, Whole, BitAt, BitBy, Part, Action, Set, If, Case, Block, Actions, Done, Then, Otherwise, Without, With, Branches, NoBranch, Branch}
use Rattle.rtl_flat.specs.Signs.{IsExpression, sign_of}
use Rattle.rtl_flat.specs.Value.{index_number, value}
use Rattle.rtl_flat.specs.WellFormed.{AreBranches, IsAction, IsBody, IsOtherwise, IsSelection}
use Rattle.event_model.specs.Bodies.{Made, after_made, assigned, body_made, branches_made, made, other_made, some_matches}
use Rattle.rtl_flat.specs.Flats.{Flat, widths}
use Rattle.event_model.specs.Traces.{FollowsPath, Same, body_trace, branches_trace, other_trace, trace}
use Rattle.event_model.specs.Writes.{Values, bit_inside, count_of, counts, span_of, write_at, writes}
use Rattle.event_laws.specs.Steady.{HaveWidths}
use Rattle.event_laws.proofs.Agreement.{value_agrees}
use Rattle.event_laws.proofs.Inside.{AreSelections}
use Rattle.event_laws.proofs.Made.{made_within}
use Rattle.event_laws.proofs.Sure.{action_sure_now}
use Rattle.event_laws.proofs.Traced.{set_step}
use Rattle.event_laws.proofs.Written.{alike_after, have_after, same_after}

-- ---- what the steps of a run read from before it

-- whether a step reads a bit with no write to it at once before
abbrev pub opens : ℕ → ℕ → List Step → Bool
opens i k [] = false
opens i k (x ∷ path) = reads_bit i k x || (not (writes_now i k x) && opens i k path)

opens_append : (i k : ℕ) (p q : List Step) → opens i k (p ++ q) ≡ (opens i k p || (not (list_any (writes_now i k) p) && opens i k q))
opens_append i k [] q = refl
opens_append i k (x ∷ p) q =
    ap (λ b. reads_bit i k x || (not (writes_now i k x) && b)) (opens_append i k p q)
    ∙ parts (reads_bit i k x) (writes_now i k x) (opens i k p) (list_any (writes_now i k) p) (opens i k q)
  where
    parts : (fx gx op gp oq : Bool) → (fx || (not gx && (op || (not gp && oq)))) ≡ ((fx || (not gx && op)) || (not (gx || gp) && oq))
    parts true gx op gp oq = refl
    parts false true op gp oq = refl
    parts false false op gp oq = refl

opened :
    (i k : ℕ) (path : List Step) → opens i k path ≡ true →
    (before : List Step) × (x : Step) × (after : List Step) × (path ≡ before ++ x ∷ after) × (reads_bit i k x ≡ true) × (list_any (writes_now i k) before ≡ false)
opened i k [] h = absurd (false≢true h)
opened i k (x ∷ path) h =
    elim (or_cases (reads_bit i k x) (not (writes_now i k x) && opens i k path) h) [
      | inl here ↦ ([], x, path, refl, here, refl)
      | inr later ↦
          let (free, rest) = and_parts (not (writes_now i k x)) (opens i k path) later in
          let (before, y, after, is, read, none) = opened i k path rest in
          (x ∷ before, y, after, ap (λ p. x ∷ p) is, read, or_from (writes_now i k x) (list_any (writes_now i k) before) (not-true (writes_now i k x) free) none)
    ]

-- on a path such a bit is read outside
pub opens_outside : (flow : Flow) (path : List Step) → IsPath flow path → (i k : ℕ) → opens i k path ≡ true → ReadsOutside flow i k
opens_outside flow path is_path i k h =
    let (before, x, after, is, read, none) = opened i k path h in
    record {
      before = before;
      step = x;
      after = after;
      is_path = subst (IsPath flow) is is_path;
      read = read;
      not_written = none;
    }

-- ---- two values that agree on what is read

-- whether two values have the same bits of a set
abbrev pub AgreeOn : Values → Values → BitSet → Type 0
AgreeOn v u bits = (i k : ℕ) → bits i k ≡ true → Same v u i k

-- whether they have the same bits where some steps read from before
abbrev pub AgreeOpen : Values → Values → List Step → Type 0
AgreeOpen v u path = (i k : ℕ) → opens i k path ≡ true → Same v u i k

at_read : (v u : Values) (bits : BitSet) (path : List Step) → AgreeOpen v u (Read bits ∷ path) → AgreeOn v u bits
at_read v u bits path same i k is = same i k (or_left (bits i k) (opens i k path) is)

past_read : (v u : Values) (bits : BitSet) (path : List Step) → AgreeOpen v u (Read bits ∷ path) → AgreeOpen v u path
past_read v u bits path same i k is = same i k (or_right (bits i k) (opens i k path) is)

open_first : (v u : Values) (p q : List Step) → AgreeOpen v u (p ++ q) → AgreeOpen v u p
open_first v u p q same i k is =
    same i k (opens_append i k p q ∙ or_left (opens i k p) _ is)

on_left : (v u : Values) (a b : BitSet) → AgreeOn v u (either a b) → AgreeOn v u a
on_left v u a b same i k is = same i k (or_left (a i k) (b i k) is)

on_right : (v u : Values) (a b : BitSet) → AgreeOn v u (either a b) → AgreeOn v u b
on_right v u a b same i k is = same i k (or_right (a i k) (b i k) is)

labels_left : (ws : ℕ → ℕ) (v u : Values) (xs ys : List Tree) → AgreeOn v u (reads_all ws (xs ++ ys)) → AgreeOn v u (reads_all ws xs)
labels_left ws v u [] ys same i k is = absurd (false≢true is)
labels_left ws v u (x ∷ xs) ys same i k is =
    elim (or_cases (reads ws x i k) (reads_all ws xs i k) is) [
      | inl here ↦ same i k (or_left (reads ws x i k) (reads_all ws (xs ++ ys) i k) here)
      | inr there ↦ labels_left ws v u xs ys (on_right v u (reads ws x) (reads_all ws (xs ++ ys)) same) i k there
    ]

labels_right : (ws : ℕ → ℕ) (v u : Values) (xs ys : List Tree) → AgreeOn v u (reads_all ws (xs ++ ys)) → AgreeOn v u (reads_all ws ys)
labels_right ws v u [] ys same = same
labels_right ws v u (x ∷ xs) ys same =
    labels_right ws v u xs ys (on_right v u (reads ws x) (reads_all ws (xs ++ ys)) same)

-- both are as one of two
chosen_alike :
    {A B : Type 0} (Agree : List B → Type 0) (b : Bool) (m n m' n' : List A) (p q p' q' : List B) →
    (Agree p → (m ≡ m') × (p ≡ p')) → (Agree q → (n ≡ n') × (q ≡ q')) → Agree (if b then p else q) →
    ((if b then m else n) ≡ (if b then m' else n')) × ((if b then p else q) ≡ (if b then p' else q'))
chosen_alike Agree true m n m' n' p q p' q' left right same = left same
chosen_alike Agree false m n m' n' p q p' q' left right same = right same

module _ (d : Flat) where
  same_value :
      (v u : Values) → HaveWidths d v → HaveWidths d u → (e : Tree) → IsExpression d.signals e → AgreeOn v u (reads (widths d) e) →
      value v e ≡ value u e
  same_value v u have have' e lawful same =
      value_agrees (length d.signals) (widths d) v u (λ i below. have i) (λ i below. have' i) e lawful.widths same

  same_span :
      (v u : Values) → HaveWidths d v → HaveWidths d u → (signal : ℕ) (selection : Selection) → IsSelection d.signals signal selection →
      AgreeOn v u (index_reads (widths d) selection) → span_of (widths d) v signal selection ≡ span_of (widths d) u signal selection
  same_span v u have have' signal Whole lawful same = refl
  same_span v u have have' signal (BitAt low index) lawful same = refl
  same_span v u have have' signal (BitBy low index) lawful same =
      ap (λ a. cond (has_unknown a) None (bit_inside (widths d signal) (index_number (sign_of index) a -ℤ pos low)))
      (same_value v u have have' index lawful.1 same)
  same_span v u have have' signal (Part low width) lawful same = refl

  same_writes :
      (v u : Values) → HaveWidths d v → HaveWidths d u → (target : List Piece) → AreSelections d.signals target →
      AgreeOn v u (target_reads (widths d) target) → (bits : List Bit) → writes (widths d) v target bits ≡ writes (widths d) u target bits
  same_writes v u have have' [] lawful same bits = refl
  same_writes v u have have' (piece ∷ others) lawful same bits =
      let ws = widths d in
      let part = selected (counts ws others) (count_of ws piece.signal piece.selection) bits in
      let here = All-head (λ (one : Piece). IsSelection d.signals one.signal one.selection) piece others lawful in
      let rest = All-tail (λ (one : Piece). IsSelection d.signals one.signal one.selection) piece others lawful in
      ap (λ at. write_at piece.signal at part ++ writes ws v others bits)
      (same_span v u have have' piece.signal piece.selection here (on_left v u (index_reads ws piece.selection) (target_reads ws others) same))
      ∙ ap (λ us. write_at piece.signal (span_of ws u piece.signal piece.selection) part ++ us)
      (same_writes v u have have' others rest (on_right v u (index_reads ws piece.selection) (target_reads ws others) same) bits)

  same_matches :
      (v u : Values) → HaveWidths d v → HaveWidths d u → (kind : CaseKind) (bits : List Bit) (labels : List Tree) → All (IsExpression d.signals) labels →
      AgreeOn v u (reads_all (widths d) labels) → some_matches kind v bits labels ≡ some_matches kind u bits labels
  same_matches v u have have' kind bits [] lawful same = refl
  same_matches v u have have' kind bits (label ∷ others) lawful same =
      let ws = widths d in
      ap (λ a. label_matches kind bits a || some_matches kind v bits others)
      (same_value v u have have' label (All-head (IsExpression d.signals) label others lawful) (on_left v u (reads ws label) (reads_all ws others) same))
      ∙ ap (λ b. label_matches kind bits (value u label) || b)
      (same_matches v u have have' kind bits others (All-tail (IsExpression d.signals) label others lawful) (on_right v u (reads ws label) (reads_all ws others) same))

  -- after the same was made at once, values agree on what is read later
  agree_later :
      (v u : Values) → HaveWidths d v → HaveWidths d u → (first : Action) → IsAction d.signals first → (path : List Step) →
      AgreeOpen v u (trace (widths d) v first ++ path) →
      AgreeOpen (after_made v (made (widths d) v first)) (after_made u (made (widths d) v first)) path
  agree_later v u have have' first lawful path same i k is =
      let ws = widths d in
      let before = trace ws v first in
      let ms = made ws v first in
      let inside = made_within d.signals v first lawful in
      elim (cases_Bool (list_any (writes_now i k) before)) [
        | inl now ↦ alike_after d i k v u ms have have' inside (action_sure_now d i k v have first lawful now)
        | inr not_now ↦
            same_after d i k v u ms have have' inside (same i k (opens_append i k before path
            ∙ or_right (opens i k before) _ (and_from (not (list_any (writes_now i k) before)) (opens i k path) (ap not not_now) is)))
      ]

  mutual
    action_alike :
        (v u : Values) → HaveWidths d v → HaveWidths d u → (a : Action) → IsAction d.signals a → AgreeOpen v u (trace (widths d) v a) →
        (made (widths d) v a ≡ made (widths d) u a) × (trace (widths d) v a ≡ trace (widths d) u a)
    action_alike v u have have' (Set target e delayed spot) lawful same =
        let ws = widths d in
        let read = at_read v u (either (reads ws e) (target_reads ws target)) (set_step ws target delayed ∷ []) same in
        let bits = same_value v u have have' e lawful.sized (on_left v u (reads ws e) (target_reads ws target) read) in
        let at = same_writes v u have have' target lawful.parts (on_right v u (reads ws e) (target_reads ws target) read) (value v e) in
        (ap (assigned delayed) (at ∙ ap (writes ws u target) bits), refl)
    action_alike v u have have' (If test taken other spot) lawful same =
        let ws = widths d in
        let path = if is_one (truth_bit (value v test)) then body_trace ws v taken else other_trace ws v other in
        let bits = same_value v u have have' test lawful.0 (at_read v u (reads ws test) path same) in
        let chosen = is_one (truth_bit (value v test)) in
        let way = ap (λ a. is_one (truth_bit a)) bits in
        let alike = chosen_alike (AgreeOpen v u) chosen (body_made ws v taken) (other_made ws v other) (body_made ws u taken) (other_made ws u other)
        (body_trace ws v taken) (other_trace ws v other) (body_trace ws u taken) (other_trace ws u other)
        (body_alike v u have have' taken lawful.1) (other_alike v u have have' other lawful.2) (past_read v u (reads ws test) path same) in (
          alike.0 ∙ ap (λ b. if b then body_made ws u taken else other_made ws u other) way,
          ap (λ p. Read (reads ws test) ∷ p) (alike.1 ∙ ap (λ b. if b then body_trace ws u taken else other_trace ws u other) way),
        )
    action_alike v u have have' (Case kind full parallel selector branches fallback spot) lawful same =
        let ws = widths d in
        let all = either (reads ws selector) (reads_all ws (labels_of branches)) in
        let path = branches_trace ws v kind (value v selector) (other_trace ws v fallback) branches in
        let read = at_read v u all path same in
        let bits = same_value v u have have' selector lawful.0 (on_left v u (reads ws selector) (reads_all ws (labels_of branches)) read) in
        let alike = branches_alike v u have have' kind selector (value v selector) (other_made ws v fallback) (other_made ws u fallback)
        (other_trace ws v fallback) (other_trace ws u fallback) branches (other_alike v u have have' fallback lawful.2) lawful.1
        (on_right v u (reads ws selector) (reads_all ws (labels_of branches)) read) (past_read v u all path same) in (
          alike.0 ∙ ap (λ a. branches_made ws u kind a (other_made ws u fallback) branches) bits,
          ap (λ p. Read all ∷ p) (alike.1 ∙ ap (λ a. branches_trace ws u kind a (other_trace ws u fallback) branches) bits),
        )
    action_alike v u have have' (Block body) lawful same = body_alike v u have have' body lawful same

    pub body_alike :
        (v u : Values) → HaveWidths d v → HaveWidths d u → (body : Actions) → IsBody d.signals body → AgreeOpen v u (body_trace (widths d) v body) →
        (body_made (widths d) v body ≡ body_made (widths d) u body) × (body_trace (widths d) v body ≡ body_trace (widths d) u body)
    body_alike v u have have' Done lawful same = (refl, refl)
    body_alike v u have have' (Then first others) lawful same =
        let ws = widths d in
        let ms = made ws v first in
        let inside = made_within d.signals v first lawful.0 in
        let path = body_trace ws (after_made v ms) others in
        let here = action_alike v u have have' first lawful.0 (open_first v u (trace ws v first) path same) in
        let rest = body_alike (after_made v ms) (after_made u ms) (have_after d v ms have inside) (have_after d u ms have' inside) others lawful.1
        (agree_later v u have have' first lawful.0 path same) in (
          ap (λ x. ms ++ x) rest.0 ∙ ap (λ m. m ++ body_made ws (after_made u m) others) here.0,
          ap (λ x. trace ws v first ++ x) rest.1
              ∙ ap (λ p. p ++ body_trace ws (after_made u ms) others) here.1
              ∙ ap (λ m. trace ws u first ++ body_trace ws (after_made u m) others) here.0,
        )

    other_alike :
        (v u : Values) → HaveWidths d v → HaveWidths d u → (other : Otherwise) → IsOtherwise d.signals other → AgreeOpen v u (other_trace (widths d) v other) →
        (other_made (widths d) v other ≡ other_made (widths d) u other) × (other_trace (widths d) v other ≡ other_trace (widths d) u other)
    other_alike v u have have' Without lawful same = (refl, refl)
    other_alike v u have have' (With body) lawful same = body_alike v u have have' body lawful same

    branches_alike :
        (v u : Values) → HaveWidths d v → HaveWidths d u → (kind : CaseKind) (selector : Tree) (bits : List Bit) (none none' : List Made) (path path' : List Step) (branches : Branches) →
        (AgreeOpen v u path → (none ≡ none') × (path ≡ path')) → AreBranches d.signals selector branches → AgreeOn v u (reads_all (widths d) (labels_of branches)) →
        AgreeOpen v u (branches_trace (widths d) v kind bits path branches) →
        (branches_made (widths d) v kind bits none branches ≡ branches_made (widths d) u kind bits none' branches) × (branches_trace (widths d) v kind bits path branches ≡ branches_trace (widths d) u kind bits path' branches)
    branches_alike v u have have' kind selector bits none none' path path' NoBranch past lawful read same = past same
    branches_alike v u have have' kind selector bits none none' path path' (Branch labels body others) past lawful read same =
        let ws = widths d in
        let matches = some_matches kind v bits labels in
        let way = same_matches v u have have' kind bits labels lawful.0 (labels_left ws v u labels (labels_of others) read) in
        let alike = chosen_alike (AgreeOpen v u) matches (body_made ws v body) (branches_made ws v kind bits none others) (body_made ws u body) (branches_made ws u kind bits none' others)
        (body_trace ws v body) (branches_trace ws v kind bits path others) (body_trace ws u body) (branches_trace ws u kind bits path' others)
        (body_alike v u have have' body lawful.3)
        (branches_alike v u have have' kind selector bits none none' path path' others past lawful.4 (labels_right ws v u labels (labels_of others) read)) same in (
          alike.0 ∙ ap (λ b. if b then body_made ws u body else branches_made ws u kind bits none' others) way,
          alike.1 ∙ ap (λ b. if b then body_trace ws u body else branches_trace ws u kind bits path' others) way,
        )

  -- where one run takes a path, another that finds the same in what is read outside makes the same by the same steps
  pub depends :
      (v u : Values) → HaveWidths d v → HaveWidths d u → (body : Actions) → IsBody d.signals body → FollowsPath (widths d) v body →
      ((i k : ℕ) → ReadsOutside (body_flow (widths d) body) i k → Same v u i k) →
      (body_made (widths d) v body ≡ body_made (widths d) u body) × (body_trace (widths d) v body ≡ body_trace (widths d) u body)
  depends v u have have' body lawful follows same =
      body_alike v u have have' body lawful
      (λ i k is. same i k (opens_outside (body_flow (widths d) body) (body_trace (widths d) v body) follows i k is))
