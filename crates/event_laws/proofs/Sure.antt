-- What a run makes is what its body may write, and what it surely writes is made.
use Rattle.std.proofs.Common.{◌≡◌, ◌∙◌, ℕ, Bool, true, false, not, ◌||◌, List, [], ◌∷◌, length, map, refl, sym, inl, inr, arith}
use Rattle.std.specs.List.{list_any}
use Rattle.std.proofs.lemmas.Bool.{and_from, and_parts, false≢true, or_cases, or_left, or_right}
use Rattle.rtl_flat.specs.declared.signal.Signal.{Signal}
use Rattle.rtl_flat.specs.declared.signal.Kind.TheVariants.{Var}
use Rattle.rtl_flat.specs.Expression.{Tree}
use Rattle.rtl_flat.specs.Flows.{body_flow, may_target, targets}
use Rattle.rtl_flat.specs.Paths.{IsSure, MayWrite, MayWriteLate, MayWriteNow, may_write_bit, may_write_late, may_write_now, writes_bit, writes_now}
use Rattle.rtl_flat.specs.Process.{Piece, Action, Actions}
use Rattle.rtl_flat.specs.Signs.{width_in}
use Rattle.rtl_flat.specs.Value.{value}
use Rattle.rtl_flat.specs.WellFormed.{IsAction, IsAssignment, IsBody}
use Rattle.rtl_flat.proofs.Paths.{decided}
use Rattle.event_model.specs.Bodies.{Now, assigned, body_made, made}
use Rattle.rtl_flat.specs.Flats.{Flat, widths}
use Rattle.event_model.specs.Traces.{FollowsPath, body_trace, covers, makes, makes_late, makes_now, trace}
use Rattle.event_model.specs.Writes.{Values, Write, writes}
use Rattle.event_laws.specs.Steady.{HaveWidths}
use Rattle.event_laws.proofs.Sizes.{value_size}
use Rattle.event_laws.proofs.Targets.{IsOver, late_assigned, now_assigned, same_count, target_may, target_over}
use Rattle.event_laws.proofs.Traced.{Passes, action_sure, body_sets, body_sure, set_made, set_step}

-- ---- an assignment

over_makes : (i k : ℕ) (us : List Write) → IsOver i k us → Passes (makes i k) (map Now us)
over_makes i k [] over = absurd (false≢true over)
over_makes i k (w ∷ us) over =
    elim (or_cases (covers i k w) (list_any (covers i k) us) over) [
      | inl here ↦ or_left (covers i k w || false) _ (or_left (covers i k w) false here)
      | inr later ↦ or_right (covers i k w || false) _ (over_makes i k us later)
    ]

makes_over : (i k : ℕ) (us : List Write) → Passes (makes i k) (map Now us) → IsOver i k us
makes_over i k [] h = absurd (false≢true h)
makes_over i k (w ∷ us) h =
    elim (or_cases (covers i k w || false) (list_any (makes i k) (map Now us)) h) [
      | inl here ↦ or_left (covers i k w) (list_any (covers i k) us) (without (covers i k w) here)
      | inr later ↦ or_right (covers i k w) (list_any (covers i k) us) (makes_over i k us later)
    ]
  where
    without : (b : Bool) → (b || false) ≡ true → b ≡ true
    without true e = refl
    without false e = absurd (false≢true e)

any_assigned : (i k : ℕ) (delayed : Bool) (us : List Write) → IsOver i k us → Passes (makes i k) (assigned delayed us)
any_assigned i k false us over = over_makes i k us over
any_assigned i k true us over = or_left (list_any (covers i k) us) false over

any_over : (i k : ℕ) (delayed : Bool) (us : List Write) → Passes (makes i k) (assigned delayed us) → IsOver i k us
any_over i k false us h = makes_over i k us h
any_over i k true us h =
    elim (or_cases (list_any (covers i k) us) false h) [
      | inl here ↦ here
      | inr none ↦ absurd (false≢true none)
    ]

-- what an assignment writes whatever its indices are is written
set_over :
    (d : Flat) (v : Values) → HaveWidths d v → (target : List Piece) (e : Tree) → IsAssignment d.signals Var target e → (i k : ℕ) →
    targets (widths d) target i k ≡ true → IsOver i k (writes (widths d) v target (value v e))
set_over d v have target e lawful i k is =
    let bits = same_count d.signals target in
    let size = value_size (length d.signals) (widths d) v (λ j below. have j) e lawful.sized.widths in
    let covered = lawful.covered in
    target_over (widths d) v target (value v e) (omega (arith, bits, size, covered)) i k is

module _ (d : Flat) (i k : ℕ) where
  -- ---- what a run surely writes is made

  sets_any :
      (v : Values) → HaveWidths d v → (target : List Piece) (e : Tree) (delayed : Bool) → IsAssignment d.signals Var target e →
      writes_bit i k (set_step (widths d) target delayed) ≡ true → Passes (makes i k) (set_made (widths d) v target e delayed)
  sets_any v have target e delayed lawful h =
      any_assigned i k delayed (writes (widths d) v target (value v e)) (set_over d v have target e lawful i k h)

  sets_now :
      (v : Values) → HaveWidths d v → (target : List Piece) (e : Tree) (delayed : Bool) → IsAssignment d.signals Var target e →
      writes_now i k (set_step (widths d) target delayed) ≡ true → Passes (makes_now i k) (set_made (widths d) v target e delayed)
  sets_now v have target e delayed lawful h =
      let us = writes (widths d) v target (value v e) in
      let (blocking, is) = and_parts (not delayed) (targets (widths d) target i k) h in
      now_assigned i k delayed us
      ∙ and_from (not delayed) (list_any (covers i k) us) blocking (set_over d v have target e lawful i k is)

  pub action_sure_any : (v : Values) → HaveWidths d v → (a : Action) → IsAction d.signals a → Passes (writes_bit i k) (trace (widths d) v a) → Passes (makes i k) (made (widths d) v a)
  action_sure_any = action_sure (writes_bit i k) (makes i k) d (λ bits. refl) sets_any

  pub action_sure_now : (v : Values) → HaveWidths d v → (a : Action) → IsAction d.signals a → Passes (writes_now i k) (trace (widths d) v a) → Passes (makes_now i k) (made (widths d) v a)
  action_sure_now = action_sure (writes_now i k) (makes_now i k) d (λ bits. refl) sets_now

  pub body_sure_any : (v : Values) → HaveWidths d v → (body : Actions) → IsBody d.signals body → Passes (writes_bit i k) (body_trace (widths d) v body) → Passes (makes i k) (body_made (widths d) v body)
  body_sure_any = body_sure (writes_bit i k) (makes i k) d (λ bits. refl) sets_any

  pub body_sure_now : (v : Values) → HaveWidths d v → (body : Actions) → IsBody d.signals body → Passes (writes_now i k) (body_trace (widths d) v body) → Passes (makes_now i k) (body_made (widths d) v body)
  body_sure_now = body_sure (writes_now i k) (makes_now i k) d (λ bits. refl) sets_now

  -- a run that takes a path makes each bit that every path writes
  pub sure_made :
      (v : Values) → HaveWidths d v → (body : Actions) → IsBody d.signals body → FollowsPath (widths d) v body →
      IsSure (body_flow (widths d) body) i k → Passes (makes i k) (body_made (widths d) v body)
  sure_made v have body lawful follows sure =
      body_sure_any v have body lawful (sure.written (body_trace (widths d) v body) follows)

module _ (signals : List Signal) (i k : ℕ) where
  -- ---- what a run makes may be written

  set_may :
      (v : Values) (target : List Piece) (e : Tree) → IsAssignment signals Var target e → IsOver i k (writes (width_in signals) v target (value v e)) →
      may_target (width_in signals) target i k ≡ true
  set_may v target e lawful = target_may signals v target (value v e) lawful.parts i k

  may_now_step :
      (v : Values) (target : List Piece) (e : Tree) (delayed : Bool) → IsAssignment signals Var target e →
      Passes (makes_now i k) (set_made (width_in signals) v target e delayed) → may_write_now i k (set_step (width_in signals) target delayed) ≡ true
  may_now_step v target e delayed lawful h =
      let us = writes (width_in signals) v target (value v e) in
      let (blocking, over) = and_parts (not delayed) (list_any (covers i k) us) (sym (now_assigned i k delayed us) ∙ h) in
      and_from (not delayed) (may_target (width_in signals) target i k) blocking (set_may v target e lawful over)

  may_late_step :
      (v : Values) (target : List Piece) (e : Tree) (delayed : Bool) → IsAssignment signals Var target e →
      Passes (makes_late i k) (set_made (width_in signals) v target e delayed) → may_write_late i k (set_step (width_in signals) target delayed) ≡ true
  may_late_step v target e delayed lawful h =
      let us = writes (width_in signals) v target (value v e) in
      let (late, over) = and_parts delayed (list_any (covers i k) us) (sym (late_assigned i k delayed us) ∙ h) in
      and_from delayed (may_target (width_in signals) target i k) late (set_may v target e lawful over)

  may_step :
      (v : Values) (target : List Piece) (e : Tree) (delayed : Bool) → IsAssignment signals Var target e →
      Passes (makes i k) (set_made (width_in signals) v target e delayed) → may_write_bit i k (set_step (width_in signals) target delayed) ≡ true
  may_step v target e delayed lawful h =
      set_may v target e lawful (any_over i k delayed (writes (width_in signals) v target (value v e)) h)

  pub may_now : (v : Values) (body : Actions) → IsBody signals body → Passes (makes_now i k) (body_made (width_in signals) v body) → MayWriteNow (body_flow (width_in signals) body) i k
  may_now v body lawful h =
      (decided (body_flow (width_in signals) body) i k).now.0 (body_sets (may_write_now i k) (makes_now i k) signals may_now_step v body lawful h)

  pub may_late : (v : Values) (body : Actions) → IsBody signals body → Passes (makes_late i k) (body_made (width_in signals) v body) → MayWriteLate (body_flow (width_in signals) body) i k
  may_late v body lawful h =
      (decided (body_flow (width_in signals) body) i k).late.0 (body_sets (may_write_late i k) (makes_late i k) signals may_late_step v body lawful h)

  pub may_make : (v : Values) (body : Actions) → IsBody signals body → Passes (makes i k) (body_made (width_in signals) v body) → MayWrite (body_flow (width_in signals) body) i k
  may_make v body lawful h =
      (decided (body_flow (width_in signals) body) i k).writes.0 (body_sets (may_write_bit i k) (makes i k) signals may_step v body lawful h)
