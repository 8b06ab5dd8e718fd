-- The signals that are compared for a finding.
use Rattle.std.proofs.Common.{◌≡◌, ◌∙◌, ◌||◌, ◌<◌, not, ℕ, zero, suc, Bool, true, false, if◌then◌else◌, List, [], ◌∷◌, length, Option, None, Some, refl, sym, ap, inl, inr, arith}
use Rattle.std.specs.List.{slice_get}
use Rattle.std.specs.Option.{IsSomeAnd}
use Rattle.std.proofs.lemmas.Bool.{and_from, and_parts, eq-eqb, eqb-true, false≢true, or_cases, or_left, or_right}
use Rattle.std.proofs.lemmas.Option.{slice_get_within}
use Rattle.rtl_flat.specs.declared.expr.SigId.{SigId}
use Rattle.rtl_flat.specs.declared.signal.Signal.{Signal}
use Rattle.rtl_flat.specs.Flats.{flat}
use Rattle.net_model.specs.Solution.{IsLasting}
use Rattle.rtl_rule.specs.declared.finding.Finding.{Finding}
use Rattle.demo_replay.specs.declared.setup.Setup.{Setup as Kept}
use Rattle.demo_replay.specs.Compared.{AreCompared, IsCompared, IsOutput, IsRegister, IsWatched, is_unwoken}
use Rattle.demo_replay.specs.Tables.{AreClocked, IsOf, compared, compared_at, is_marked, is_own, is_watched}
use Rattle.demo_replay.proofs.Marking.{marked}

own_from : (o : Option SigId) (s : ℕ) → is_own o s ≡ true → o ≡ Some (record { 0 = s })
own_from None s h = absurd (false≢true h)
own_from (Some own) s h = ap (λ (n : ℕ). Some (record { 0 = n })) (eqb-true own.0 s h)

own_to : (o : Option SigId) (s : ℕ) → o ≡ Some (record { 0 = s }) → is_own o s ≡ true
own_to None s h = absurd (cc)
own_to (Some own) s h =
    let same : own ≡ record { 0 = s } = cc in
    eq-eqb own.0 s (ap (λ (one : SigId). one.0) same)

not_true : (b : Bool) → not b ≡ true → b ≡ true → ⊥
not_true true h e = false≢true h
not_true false h e = false≢true e

true_from : (b : Bool) → (b ≡ true → ⊥) → not b ≡ true
true_from true h = absurd (h refl)
true_from false h = refl

missing : (xs : List Signal) (i : ℕ) → slice_get xs i ≡ None → i < length xs → ⊥
missing [] i none below = omega (arith, below)
missing (x ∷ xs) zero none below = cc
missing (x ∷ xs) (suc i) none below = missing xs i none (omega (arith, below))

module _ (kept : Kept) (is : IsOf kept.design.now kept) (clocked : List Bool) (are : AreClocked (flat kept.design.now) clocked) (finding : Finding) where
  -- a signal that isn't marked is no temporary
  pub lasts : (s : ℕ) → not (is_marked kept.temporaries.items s) ≡ true → IsLasting (flat kept.design.now) s
  lasts s free temporary =
      not_true (is_marked kept.temporaries.items s) free ((marked kept.temporaries.items s).0 ((is.temporaries.each s).1 temporary))

  pub free_of : (s : ℕ) → IsLasting (flat kept.design.now) s → not (is_marked kept.temporaries.items s) ≡ true
  free_of s lasting =
      true_from (is_marked kept.temporaries.items s) (λ m. lasting ((is.temporaries.each s).0 ((marked kept.temporaries.items s).1 m)))

  register_from : (s : ℕ) → s < length kept.design.now.signals.items → IsLasting (flat kept.design.now) s → is_marked clocked s ≡ true → IsRegister (flat kept.design.now) s
  register_from s inside lasting h =
      let writes = (are.each s).0 h in
      record {
        process = writes.process;
        task = writes.task;
        there = writes.there;
        waits = writes.waits;
        register = record { inside = inside; writes = writes.writes; kept = lasting };
      }

  register_to : (s : ℕ) → IsRegister (flat kept.design.now) s → is_marked clocked s ≡ true
  register_to s h =
      (are.each s).1 (record {
        process = h.process;
        below = slice_get_within (flat kept.design.now).tasks h.process h.task h.there;
        task = h.task;
        there = h.there;
        waits = h.waits;
        writes = h.register.writes;
      })

  watched_from : (b t : Bool) (s : ℕ) → (t ≡ true → IsOutput (flat kept.design.now) s) → (is_marked clocked s ≡ true → IsRegister (flat kept.design.now) s) → (if b then is_own finding.signal s else (t || is_marked clocked s) || is_own finding.signal s) ≡ true → IsWatched b (flat kept.design.now) finding s
  watched_from true t s output register h = own_from finding.signal s h
  watched_from false t s output register h =
      elim (or_cases (t || is_marked clocked s) (is_own finding.signal s) h) [
        | inl looked ↦
            elim (or_cases t (is_marked clocked s) looked) [
              | inl top ↦ inl (output top)
              | inr mark ↦ inr (inl (register mark))
            ]
        | inr own ↦ inr (inr (own_from finding.signal s own))
      ]

  watched_to : (b t : Bool) (s : ℕ) → (IsOutput (flat kept.design.now) s → t ≡ true) → IsWatched b (flat kept.design.now) finding s → (if b then is_own finding.signal s else (t || is_marked clocked s) || is_own finding.signal s) ≡ true
  watched_to true t s output h = own_to finding.signal s h
  watched_to false t s output h =
      elim h [
        | inl top ↦
            or_left (t || is_marked clocked s) (is_own finding.signal s) (or_left t (is_marked clocked s) (output top))
        | inr other ↦
            elim other [
              | inl register ↦
                  or_left (t || is_marked clocked s) (is_own finding.signal s) (or_right t (is_marked clocked s) (register_to s register))
              | inr own ↦ or_right (t || is_marked clocked s) (is_own finding.signal s) (own_to finding.signal s own)
            ]
      ]

  compared_from : (s : ℕ) (o : Option Signal) → slice_get kept.design.now.signals.items s ≡ o → compared_at kept clocked finding s o ≡ true → IsCompared (flat kept.design.now) finding s
  compared_from s None there h = absurd (false≢true h)
  compared_from s (Some signal) there h =
      let (free, looked) = and_parts (not (is_marked kept.temporaries.items s)) (is_watched clocked finding s signal) h in
      let inside = slice_get_within kept.design.now.signals.items s signal there in
      record {
        inside = inside;
        watched = watched_from (is_unwoken finding.rule) signal.top_output s (λ top. output top) (register_from s inside (lasts s free)) looked;
        lasting = lasts s free;
      }
    where
      output : signal.top_output ≡ true → IsOutput (flat kept.design.now) s
      output top = has (slice_get kept.design.now.signals.items s) there
        where
          has : (o : Option Signal) → o ≡ Some signal → IsSomeAnd o (λ one. one.top_output ≡ true)
          has None e = absurd (cc)
          has (Some one) e = let same : one ≡ signal = cc in ap (λ (x : Signal). x.top_output) same ∙ top

  compared_to : (s : ℕ) (o : Option Signal) → slice_get kept.design.now.signals.items s ≡ o → IsCompared (flat kept.design.now) finding s → compared_at kept clocked finding s o ≡ true
  compared_to s None there h = absurd (missing kept.design.now.signals.items s there h.inside)
  compared_to s (Some signal) there h =
      and_from (not (is_marked kept.temporaries.items s)) (is_watched clocked finding s signal) (free_of s h.lasting)
      (watched_to (is_unwoken finding.rule) signal.top_output s (λ top. shows (slice_get kept.design.now.signals.items s) there top) h.watched)
    where
      shows : (o : Option Signal) → o ≡ Some signal → IsSomeAnd o (λ one. one.top_output ≡ true) → signal.top_output ≡ true
      shows None e top = absurd (cc)
      shows (Some one) e top = let same : one ≡ signal = cc in ap (λ (x : Signal). x.top_output) (sym same) ∙ top

  pub are_compared : AreCompared (flat kept.design.now) finding (compared kept clocked finding)
  are_compared s =
      (compared_from s (slice_get kept.design.now.signals.items s) refl, compared_to s (slice_get kept.design.now.signals.items s) refl)
