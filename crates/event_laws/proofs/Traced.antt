-- The steps of a run beside the steps of the body, and beside what the run makes.
use Rattle.std.proofs.Common.{◌≡◌, ◌∙◌, ◌⊎◌, ℕ, Bool, true, false, ◌||◌, if◌then◌else◌, List, [], ◌∷◌, ◌++◌, Option, None, Some, sym, inl, inr}
use Rattle.std.specs.List.{list_any}
use Rattle.std.proofs.lemmas.Bool.{false≢true, or_cases, or_left, or_right}
use Rattle.std.proofs.lemmas.List.Folds.{list_any-append}
use Rattle.rtl_bits.specs.declared.Bit.{Bit}
use Rattle.rtl_bits.specs.Bit.{is_one}
use Rattle.rtl_bits.specs.Bits.{truth_bit}
use Rattle.rtl_flat.specs.declared.act.CaseKind.{CaseKind}
use Rattle.rtl_flat.specs.declared.signal.Signal.{Signal}
use Rattle.rtl_flat.specs.declared.signal.Kind.TheVariants.{Var}
use Rattle.rtl_flat.specs.Expression.{Tree}
use Rattle.rtl_flat.specs.Flows.{action_then, body_flow, is_complete, labels_of, may_target, other_flow, reads, reads_all, target_reads, targets, way_past, ways}
use Rattle.rtl_flat.specs.Paths.{Step, Read, either, Flow, End, Ways, Last, More, some, some_way}
use Rattle.rtl_flat.specs.Paths as step
use Rattle.rtl_flat.specs.Process.{Piece, Action, Set, If, Case, Block, Actions, Done, Then, Otherwise, Without, With, Branches, NoBranch, Branch}
use Rattle.rtl_flat.specs.Signs.{width_in}
use Rattle.rtl_flat.specs.Value.{value}
use Rattle.rtl_flat.specs.WellFormed.{AreBranches, IsAction, IsAssignment, IsBody, IsOtherwise}
use Rattle.rtl_flat.proofs.Flows.{some_action}
use Rattle.rtl_flat.proofs.Outside.{some_of}
use Rattle.event_model.specs.Bodies.{Made, after_made, assigned, body_made, branches_made, made, other_made, some_matches}
use Rattle.rtl_flat.specs.Flats.{Flat, widths}
use Rattle.event_model.specs.Traces.{body_trace, branches_trace, other_trace, trace}
use Rattle.event_model.specs.Writes.{Values, writes}
use Rattle.event_laws.specs.Steady.{HaveWidths}
use Rattle.event_laws.proofs.Made.{made_within}
use Rattle.event_laws.proofs.Written.{have_after}

-- some step of a list passes a test
abbrev pub Passes : {A : Type 0} → (A → Bool) → List A → Type 0
Passes f xs = list_any f xs ≡ true

pub append_cases : {A : Type 0} (f : A → Bool) (xs ys : List A) → Passes f (xs ++ ys) → Passes f xs ⊎ Passes f ys
append_cases f xs ys h = or_cases (list_any f xs) (list_any f ys) (sym (list_any-append f xs ys) ∙ h)

pub append_left : {A : Type 0} (f : A → Bool) (xs ys : List A) → Passes f xs → Passes f (xs ++ ys)
append_left f xs ys h = list_any-append f xs ys ∙ or_left (list_any f xs) (list_any f ys) h

pub append_right : {A : Type 0} (f : A → Bool) (xs ys : List A) → Passes f ys → Passes f (xs ++ ys)
append_right f xs ys h = list_any-append f xs ys ∙ or_right (list_any f xs) (list_any f ys) h

-- the step in which an assignment writes
abbrev pub set_step : (ℕ → ℕ) → List Piece → Bool → Step
set_step ws target delayed = step.Write delayed (may_target ws target) (targets ws target)

-- what an assignment makes
abbrev pub set_made : (ℕ → ℕ) → Values → List Piece → Tree → Bool → List Made
set_made ws v target e delayed = assigned delayed (writes ws v target (value v e))

-- ---- a test that passes on the steps of a run passes in the body

module _ (f : Step → Bool) (ws : ℕ → ℕ) where
  -- the way that takes no item is among the ways
  no_item : (way : Option Flow) (branches : Branches) → some_of f way ≡ true → some_way f (ways ws way branches) ≡ true
  no_item None branches h = absurd (false≢true h)
  no_item (Some way) NoBranch h = h
  no_item (Some way) (Branch labels body others) h =
      or_left (some f way) (some_way f (ways ws (Some (body_flow ws body)) others)) h

  -- and so is each item
  some_item :
      (way : Option Flow) (labels : List Tree) (body : Actions) (others : Branches) → some_way f (ways ws (Some (body_flow ws body)) others) ≡ true →
      some_way f (ways ws way (Branch labels body others)) ≡ true
  some_item None labels body others h = h
  some_item (Some way) labels body others h =
      or_right (some f way) (some_way f (ways ws (Some (body_flow ws body)) others)) h

  past_item : (complete : Bool) (fallback : Otherwise) → some f (other_flow ws fallback) ≡ true → some_of f (way_past ws complete fallback) ≡ true
  past_item complete Without h = absurd (false≢true h)
  past_item complete (With body) h = h

  either_way : (b : Bool) (other : Flow) (taken : Flow) → (p q : List Step) → (Passes f p → some f taken ≡ true) → (Passes f q → some f other ≡ true) → Passes f (if b then p else q) → some_way f (More other (Last taken)) ≡ true
  either_way true other taken p q left right h = or_right (some f other) (some f taken) (left h)
  either_way false other taken p q left right h = or_left (some f other) (some f taken) (right h)

  -- the items from one on, for any way that takes none
  abbrev InItems : List Step → Branches → Type 0
  InItems none branches = Passes f none ⊎ ((way : Option Flow) → some_way f (ways ws way branches) ≡ true)

  one_item :
      (b : Bool) (labels : List Tree) (body : Actions) (others : Branches) (none p q : List Step) →
      (Passes f p → some f (body_flow ws body) ≡ true) → (Passes f q → InItems none others) →
      Passes f (if b then p else q) → InItems none (Branch labels body others)
  one_item true labels body others none p q here later h =
      inr (λ way. some_item way labels body others (no_item (Some (body_flow ws body)) others (here h)))
  one_item false labels body others none p q here later h =
      elim (later h) [
        | inl past ↦ inl past
        | inr there ↦ inr (λ way. some_item way labels body others (there (Some (body_flow ws body))))
      ]

  some_items : (way : Option Flow) (none : List Step) (branches : Branches) → (Passes f none → some_of f way ≡ true) → InItems none branches → some_way f (ways ws way branches) ≡ true
  some_items way none branches past (inl h) = no_item way branches (past h)
  some_items way none branches past (inr h) = h way

  mutual
    pub action_traced : (v : Values) (a : Action) → Passes f (trace ws v a) → some f (action_then ws a End) ≡ true
    action_traced v (Set target e delayed spot) h = h
    action_traced v (If test taken other spot) h =
        let read = Read (reads ws test) in
        let fork = some_way f (More (other_flow ws other) (Last (body_flow ws taken))) in
        let chosen = is_one (truth_bit (value v test)) in
        elim (or_cases (f read) (list_any f (if chosen then body_trace ws v taken else other_trace ws v other)) h) [
          | inl here ↦ or_left (f read) (fork || false) here
          | inr later ↦
              or_right (f read) (fork || false) (or_left fork false
              (either_way chosen (other_flow ws other) (body_flow ws taken) (body_trace ws v taken) (other_trace ws v other) (body_traced v taken)
              (other_traced v other) later))
        ]
    action_traced v (Case kind full parallel selector branches fallback spot) h =
        let read = Read (either (reads ws selector) (reads_all ws (labels_of branches))) in
        let complete = is_complete ws kind full selector branches in
        let way = way_past ws complete fallback in
        let fork = some_way f (ways ws way branches) in
        let none = other_trace ws v fallback in
        elim (or_cases (f read) (list_any f (branches_trace ws v kind (value v selector) none branches)) h) [
          | inl here ↦ or_left (f read) (fork || false) here
          | inr later ↦
              or_right (f read) (fork || false) (or_left fork false
              (some_items way none branches (λ past. past_item complete fallback (other_traced v fallback past))
              (branches_traced v kind (value v selector) none branches later)))
        ]
    action_traced v (Block body) h = body_traced v body h

    pub body_traced : (v : Values) (body : Actions) → Passes f (body_trace ws v body) → some f (body_flow ws body) ≡ true
    body_traced v Done h = absurd (false≢true h)
    body_traced v (Then first others) h =
        let after = after_made v (made ws v first) in
        some_action f ws first (body_flow ws others)
        ∙ elim (append_cases f (trace ws v first) (body_trace ws after others) h) [
          | inl here ↦ or_left (some f (action_then ws first End)) (some f (body_flow ws others)) (action_traced v first here)
          | inr later ↦ or_right (some f (action_then ws first End)) (some f (body_flow ws others)) (body_traced after others later)
        ]

    other_traced : (v : Values) (other : Otherwise) → Passes f (other_trace ws v other) → some f (other_flow ws other) ≡ true
    other_traced v Without h = absurd (false≢true h)
    other_traced v (With body) h = body_traced v body h

    branches_traced :
        (v : Values) (kind : CaseKind) (bits : List Bit) (none : List Step) (branches : Branches) →
        Passes f (branches_trace ws v kind bits none branches) → InItems none branches
    branches_traced v kind bits none NoBranch h = inl h
    branches_traced v kind bits none (Branch labels body others) h =
        one_item (some_matches kind v bits labels) labels body others none (body_trace ws v body) (branches_trace ws v kind bits none others)
        (body_traced v body) (branches_traced v kind bits none others) h

-- ---- what is made is in the steps of the run

either_passes :
    {A B : Type 0} (g : A → Bool) (f : B → Bool) (b : Bool) (xs ys : List A) (p q : List B) → (Passes g xs → Passes f p) → (Passes g ys → Passes f q) →
    Passes g (if b then xs else ys) → Passes f (if b then p else q)
either_passes g f true xs ys p q left right h = left h
either_passes g f false xs ys p q left right h = right h

module _ (f : Step → Bool) (g : Made → Bool) (signals : List Signal) (shadows : (v : Values) (target : List Piece) (e : Tree) (delayed : Bool) → IsAssignment signals Var target e → Passes g (set_made (width_in signals) v target e delayed) → f (set_step (width_in signals) target delayed) ≡ true) where
  mutual
    action_made : (v : Values) (a : Action) → IsAction signals a → Passes g (made (width_in signals) v a) → Passes f (trace (width_in signals) v a)
    action_made v (Set target e delayed spot) lawful h =
        let ws = width_in signals in
        let write = f (set_step ws target delayed) in
        or_right (f (Read (either (reads ws e) (target_reads ws target)))) (write || false) (or_left write false (shadows v target e delayed lawful h))
    action_made v (If test taken other spot) lawful h =
        let ws = width_in signals in
        or_right (f (Read (reads ws test))) _
        (either_passes g f (is_one (truth_bit (value v test))) (body_made ws v taken) (other_made ws v other) (body_trace ws v taken) (other_trace ws v other)
        (actions_made v taken lawful.1) (otherwise_made v other lawful.2) h)
    action_made v (Case kind full parallel selector branches fallback spot) lawful h =
        let ws = width_in signals in
        or_right (f (Read (either (reads ws selector) (reads_all ws (labels_of branches))))) _
        (items_made v kind selector (value v selector) (other_made ws v fallback) (other_trace ws v fallback) branches (otherwise_made v fallback lawful.2) lawful.1 h)
    action_made v (Block body) lawful h = actions_made v body lawful h

    pub actions_made : (v : Values) (body : Actions) → IsBody signals body → Passes g (body_made (width_in signals) v body) → Passes f (body_trace (width_in signals) v body)
    actions_made v Done lawful h = absurd (false≢true h)
    actions_made v (Then first others) lawful h =
        let ws = width_in signals in
        let after = after_made v (made ws v first) in
        elim (append_cases g (made ws v first) (body_made ws after others) h) [
          | inl here ↦ append_left f (trace ws v first) (body_trace ws after others) (action_made v first lawful.0 here)
          | inr later ↦ append_right f (trace ws v first) (body_trace ws after others) (actions_made after others lawful.1 later)
        ]

    otherwise_made : (v : Values) (other : Otherwise) → IsOtherwise signals other → Passes g (other_made (width_in signals) v other) → Passes f (other_trace (width_in signals) v other)
    otherwise_made v Without lawful h = absurd (false≢true h)
    otherwise_made v (With body) lawful h = actions_made v body lawful h

    items_made :
        (v : Values) (kind : CaseKind) (selector : Tree) (bits : List Bit) (none : List Made) (none' : List Step) (branches : Branches) →
        (Passes g none → Passes f none') → AreBranches signals selector branches →
        Passes g (branches_made (width_in signals) v kind bits none branches) → Passes f (branches_trace (width_in signals) v kind bits none' branches)
    items_made v kind selector bits none none' NoBranch past lawful h = past h
    items_made v kind selector bits none none' (Branch labels body others) past lawful h =
        let ws = width_in signals in
        either_passes g f (some_matches kind v bits labels) (body_made ws v body) (branches_made ws v kind bits none others) (body_trace ws v body)
        (branches_trace ws v kind bits none' others) (actions_made v body lawful.3) (items_made v kind selector bits none none' others past lawful.4) h

  -- and so in the steps of the body
  pub body_sets : (v : Values) (body : Actions) → IsBody signals body → Passes g (body_made (width_in signals) v body) → some f (body_flow (width_in signals) body) ≡ true
  body_sets v body lawful h =
      body_traced f (width_in signals) v body (actions_made v body lawful h)

-- ---- what the steps of the run surely write is made

module _ (f : Step → Bool) (g : Made → Bool) (d : Flat) (no_read : (bits : ℕ → ℕ → Bool) → f (Read bits) ≡ false) (sets : (v : Values) → HaveWidths d v → (target : List Piece) (e : Tree) (delayed : Bool) → IsAssignment d.signals Var target e → f (set_step (widths d) target delayed) ≡ true → Passes g (set_made (widths d) v target e delayed)) where
  behind_read : (bits : ℕ → ℕ → Bool) (p : List Step) → Passes f (Read bits ∷ p) → Passes f p
  behind_read bits p h =
      elim (or_cases (f (Read bits)) (list_any f p) h) [
        | inl here ↦ absurd (false≢true (sym (no_read bits) ∙ here))
        | inr later ↦ later
      ]

  only_step : (x : Step) → Passes f (x ∷ []) → f x ≡ true
  only_step x h =
      elim (or_cases (f x) false h) [
        | inl here ↦ here
        | inr none ↦ absurd (false≢true none)
      ]

  mutual
    pub action_sure : (v : Values) → HaveWidths d v → (a : Action) → IsAction d.signals a → Passes f (trace (widths d) v a) → Passes g (made (widths d) v a)
    action_sure v have (Set target e delayed spot) lawful h =
        let ws = widths d in
        sets v have target e delayed lawful (only_step (set_step ws target delayed)
        (behind_read (either (reads ws e) (target_reads ws target)) (set_step ws target delayed ∷ []) h))
    action_sure v have (If test taken other spot) lawful h =
        let ws = widths d in
        either_passes f g (is_one (truth_bit (value v test))) (body_trace ws v taken) (other_trace ws v other) (body_made ws v taken) (other_made ws v other)
        (body_sure v have taken lawful.1) (other_sure v have other lawful.2) (behind_read (reads ws test) _ h)
    action_sure v have (Case kind full parallel selector branches fallback spot) lawful h =
        let ws = widths d in
        items_sure v have kind selector (value v selector) (other_made ws v fallback) (other_trace ws v fallback) branches (other_sure v have fallback lawful.2) lawful.1
        (behind_read (either (reads ws selector) (reads_all ws (labels_of branches))) _ h)
    action_sure v have (Block body) lawful h = body_sure v have body lawful h

    pub body_sure : (v : Values) → HaveWidths d v → (body : Actions) → IsBody d.signals body → Passes f (body_trace (widths d) v body) → Passes g (body_made (widths d) v body)
    body_sure v have Done lawful h = absurd (false≢true h)
    body_sure v have (Then first others) lawful h =
        let ws = widths d in
        let after = after_made v (made ws v first) in
        let wide = have_after d v (made ws v first) have (made_within d.signals v first lawful.0) in
        elim (append_cases f (trace ws v first) (body_trace ws after others) h) [
          | inl here ↦ append_left g (made ws v first) (body_made ws after others) (action_sure v have first lawful.0 here)
          | inr later ↦ append_right g (made ws v first) (body_made ws after others) (body_sure after wide others lawful.1 later)
        ]

    other_sure : (v : Values) → HaveWidths d v → (other : Otherwise) → IsOtherwise d.signals other → Passes f (other_trace (widths d) v other) → Passes g (other_made (widths d) v other)
    other_sure v have Without lawful h = absurd (false≢true h)
    other_sure v have (With body) lawful h = body_sure v have body lawful h

    items_sure :
        (v : Values) → HaveWidths d v → (kind : CaseKind) (selector : Tree) (bits : List Bit) (none : List Made) (none' : List Step) (branches : Branches) →
        (Passes f none' → Passes g none) → AreBranches d.signals selector branches →
        Passes f (branches_trace (widths d) v kind bits none' branches) → Passes g (branches_made (widths d) v kind bits none branches)
    items_sure v have kind selector bits none none' NoBranch past lawful h = past h
    items_sure v have kind selector bits none none' (Branch labels body others) past lawful h =
        let ws = widths d in
        either_passes f g (some_matches kind v bits labels) (body_trace ws v body) (branches_trace ws v kind bits none' others) (body_made ws v body)
        (branches_made ws v kind bits none others) (body_sure v have body lawful.3) (items_sure v have kind selector bits none none' others past lawful.4) h
