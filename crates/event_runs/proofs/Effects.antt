-- What each event does.
use Rattle.std.proofs.Common.{◌≡◌, ◌∙◌, ◌==◌, ℕ, Bool, true, false, ◌||◌, if◌then◌else◌, List, [], ◌∷◌, ◌++◌, Option, None, Some, IsSome, refl, sym, ap, subst, append_assoc, append-nil}
use Rattle.std.specs.Prelude.{unwrap_or}
use Rattle.std.proofs.lemmas.Bool.{eqb-true}
use Rattle.rtl_bits.specs.declared.Bit.{Bit}
use Rattle.rtl_flat.specs.Process.{Piece, Doing, Assign, Comb, Edge'}
use Rattle.rtl_flat.specs.Value.{value}
use Rattle.event_model.specs.Bodies.{Made, Now, Later}
use Rattle.event_model.specs.Queue.{State, Event, Input, Evaluate, Update, Run, Delayed, Activate, IsThere, after, after_delayed, after_evaluate, after_input, after_run, after_update, doing_at, drive, drive_now, hears, is_assignment, is_body, net_writes, perform_all, resolved, wait, write, write_all}
use Rattle.rtl_flat.specs.Flats.{Flat, widths}
use Rattle.event_model.specs.Writes.{Write, all_written, put, written}
use Rattle.event_runs.specs.Effects.{IsEffect, drive_writes, event_writes, first_update, is_heard, input_writes, laters, nows, other_updates, run_made, update_writes}

-- ---- several writes, and all that a body makes

or_none : (a : Bool) → a ≡ (a || false)
or_none true = refl
or_none false = refl

or_after : (a b c : Bool) → ((a || b) || c) ≡ (a || (b || c))
or_after true b c = refl
or_after false b c = refl

-- a state with other values, and who is woken by writes besides
abbrev pub moved : Flat → State → List Write → State
moved d s us =
    record s { value = all_written s.value us; woken = λ q. s.woken q || is_heard d s.value us (doing_at d q) }

-- a write, and then others
one_more : (d : Flat) (s : State) (w : Write) (us : List Write) → moved d (write d s w) us ≡ moved d s (w ∷ us)
one_more d s w us =
    ap (λ (woken : ℕ → Bool). record s { value = all_written s.value (w ∷ us); woken = woken })
    (λ i q. or_after (s.woken q) (hears (widths d) w.signal (s.value w.signal) (written s.value w w.signal) (doing_at d q)) (is_heard d (written s.value w) us (doing_at d q)) i)

none_more : (d : Flat) (s : State) → s ≡ moved d s []
none_more d s = ap (λ (woken : ℕ → Bool). record s { woken = woken }) (λ i q. or_none (s.woken q) i)

pub write_all_is : (d : Flat) (s : State) (us : List Write) → write_all d s us ≡ moved d s us
write_all_is d s [] = none_more d s
write_all_is d s (w ∷ us) = write_all_is d (write d s w) us ∙ one_more d s w us

-- a state with updates for later besides
abbrev later : State → List (List Write) → State
later s us = record s { delayed = s.delayed ++ us }

pub perform_all_is : (d : Flat) (s : State) (ms : List Made) → perform_all d s ms ≡ later (moved d s (nows ms)) (laters ms)
perform_all_is d s [] =
    none_more d s ∙ ap (λ (us : List (List Write)). record (moved d s []) { delayed = us }) (sym (append-nil s.delayed))
perform_all_is d s (Now w ∷ ms) =
    perform_all_is d (write d s w) ms ∙ ap (λ (t : State). later t (laters ms)) (one_more d s w (nows ms))
perform_all_is d s (Later us ∷ ms) =
    perform_all_is d (record s { delayed = s.delayed ++ us ∷ [] }) ms
    ∙ ap (λ (all : List (List Write)). record (moved d s (nows ms)) { delayed = all }) (append_assoc s.delayed (us ∷ []) (laters ms))

-- ---- each event

-- a value at one place, as a test of places
pub put_as : {A : Type 0} (f g : ℕ → A) (p : ℕ) (a : A) → a ≡ g p → (q : ℕ) → put f p a q ≡ (if q == p then g q else f q)
put_as f g p a same q = by_test (q == p) refl
  where
    by_test : (b : Bool) → (q == p) ≡ b → (if b then a else f q) ≡ (if b then g q else f q)
    by_test true is = same ∙ ap g (sym (eqb-true q p is))
    by_test false is = refl

module _ (d : Flat) (s : State) where
  effect_input : (i : ℕ) (new : Option (List Bit)) → IsSome new → IsEffect d s (Input i) (input_writes i new) (after_input d s i new)
  effect_input i None is = absurd (cc)
  effect_input i (Some bits) is =
      record {
        value = refl;
        woken = λ q. ap (λ b. s.woken q || b) (or_none _);
        offered = put_as s.offered (λ j. None) i None refl;
        driver = λ q. refl;
        pending = λ q. refl;
        activated = refl;
        delayed = refl;
      }

  effect_evaluate : (p : ℕ) (does : Option Doing) → doing_at d p ≡ does → is_assignment does ≡ true → IsEffect d s (Evaluate p) [] (after_evaluate s p does)
  effect_evaluate p None here is = absurd (cc)
  effect_evaluate p (Some (Comb list body)) here is = absurd (cc)
  effect_evaluate p (Some (Edge' events body)) here is = absurd (cc)
  effect_evaluate p (Some (Assign target e)) here is =
      record {
        value = refl;
        woken = λ q. turn q (q == p);
        offered = λ i. refl;
        driver = λ q. refl;
        pending = put_as s.pending (λ q. Some (drive_now s.value (doing_at d q))) p (Some (value s.value e)) (ap (λ x. Some (drive_now s.value x)) (sym here));
        activated = refl;
        delayed = refl;
      }
    where
      turn : (q : ℕ) (b : Bool) → (if b then false else s.woken q) ≡ (if b || false then false else (s.woken q || false))
      turn q true = refl
      turn q false = or_none (s.woken q)

  effect_drive :
      (p : ℕ) (target : List Piece) (new : Option (List Bit)) → s.pending p ≡ new → IsSome new →
      IsEffect d s (Update p) (drive_writes d s.driver p target new) (drive d s p target new)
  effect_drive p target None due is = absurd (cc)
  effect_drive p target (Some bits) due is =
      let us = net_writes (widths d) (resolved d (put s.driver p bits)) target in
      let begun : State = record s { driver = put s.driver p bits; pending = put s.pending p None } in
      subst (IsEffect d s (Update p) us) (sym (write_all_is d begun us))
      (record {
        value = refl;
        woken = λ q. refl;
        offered = λ i. refl;
        driver = put_as s.driver (λ q. unwrap_or (s.pending q) (s.driver q)) p bits (ap (λ o. unwrap_or o (s.driver p)) (sym due));
        pending = put_as s.pending (λ q. None) p None refl;
        activated = refl;
        delayed = refl;
      })

  effect_update : (p : ℕ) (does : Option Doing) → is_assignment does ≡ true → IsSome (s.pending p) → IsEffect d s (Update p) (update_writes d s p does) (after_update d s p does)
  effect_update p None is due = absurd (cc)
  effect_update p (Some (Comb list body)) is due = absurd (cc)
  effect_update p (Some (Edge' events body)) is due = absurd (cc)
  effect_update p (Some (Assign target e)) is due = effect_drive p target (s.pending p) refl due

  effect_body : (p : ℕ) (ms : List Made) → run_made d s.value (doing_at d p) ≡ ms → IsEffect d s (Run p) (nows ms) (wait (perform_all d s ms) p)
  effect_body p ms here =
      subst (λ t. IsEffect d s (Run p) (nows ms) (wait t p)) (sym (perform_all_is d s ms))
      (record {
        value = refl;
        woken = λ q. refl;
        offered = λ i. refl;
        driver = λ q. refl;
        pending = λ q. refl;
        activated = refl;
        delayed = ap (λ all. s.delayed ++ laters all) (sym here);
      })

  effect_run : (p : ℕ) (does : Option Doing) → doing_at d p ≡ does → is_body does ≡ true → IsEffect d s (Run p) (nows (run_made d s.value does)) (after_run d s p does)
  effect_run p None here is = absurd (cc)
  effect_run p (Some (Assign target e)) here is = absurd (cc)
  effect_run p (Some (Comb list body)) here is =
      effect_body p (run_made d s.value (Some (Comb list body))) (ap (run_made d s.value) here)
  effect_run p (Some (Edge' events body)) here is =
      effect_body p (run_made d s.value (Some (Edge' events body))) (ap (run_made d s.value) here)

  effect_delayed : (us : List (List Write)) → s.activated ≡ us → (us ≡ [] → ⊥) → IsEffect d s Delayed (first_update us) (after_delayed d s us)
  effect_delayed [] here some = absurd (some refl)
  effect_delayed (us ∷ others) here some =
      subst (IsEffect d s Delayed us) (sym (write_all_is d (record s { activated = others }) us))
      (record {
        value = refl;
        woken = λ q. refl;
        offered = λ i. refl;
        driver = λ q. refl;
        pending = λ q. refl;
        activated = ap other_updates (sym here);
        delayed = refl;
      })

  effect_activate : IsEffect d s Activate [] (after d s Activate)
  effect_activate =
      record {
        value = refl;
        woken = λ q. or_none (s.woken q);
        offered = λ i. refl;
        driver = λ q. refl;
        pending = λ q. refl;
        activated = refl;
        delayed = refl;
      }

  pub effect : (event : Event) → IsThere d s event → IsEffect d s event (event_writes d s event) (after d s event)
  effect (Input i) there = effect_input i (s.offered i) there.1
  effect (Evaluate p) there = effect_evaluate p (doing_at d p) refl there.0
  effect (Update p) there = effect_update p (doing_at d p) there.0 there.1
  effect (Run p) there = effect_run p (doing_at d p) refl there.0
  effect Delayed there = effect_delayed s.activated refl there
  effect Activate there = effect_activate
