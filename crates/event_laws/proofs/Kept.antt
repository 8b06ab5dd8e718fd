-- Writes and events keep a state steady.
use Rattle.std.proofs.Common.{◌≡◌, ◌∙◌, ◌≤◌, ℕ, false, true, List, [], ◌∷◌, length, Option, None, Some, refl, sym, ap, subst, inl, inr, arith}
use Rattle.std.specs.Prelude.{IsTrue, unwrap_or}
use Rattle.std.specs.List.{All}
use Rattle.std.proofs.lemmas.Bool.{cases_eq, or_parts}
use Rattle.std.proofs.lemmas.List.Elements.{All-head, All-nil, All-push, All-tail}
use Rattle.rtl_bits.specs.declared.Bit.{Bit}
use Rattle.rtl_flat.specs.Expression.{Tree}
use Rattle.rtl_flat.specs.Process.{Actions, Piece, Doing, Assign, Comb, Edge'}
use Rattle.rtl_flat.specs.Sizes.{IsSized}
use Rattle.rtl_flat.specs.Value.{value}
use Rattle.rtl_flat.specs.WellFormed.{IsBody}
use Rattle.event_model.specs.Writes.{Values, Write, put, written}
use Rattle.event_model.specs.Bodies.{Made, Now, Later, body_made}
use Rattle.event_model.specs.Queue.{State, after_delayed, after_evaluate, after_input, after_run, after_update, doing_at, is_input}
use Rattle.rtl_flat.specs.Flats.{Flat, widths}
use Rattle.event_model.specs.Queue.{drive, hears, is_assignment, net_writes, perform, perform_all, resolved, wait, write, write_all}
use Rattle.event_laws.specs.Steady.{AreLawful, AreUpToDate, IsSteadyIn, IsWithin}
use Rattle.event_laws.proofs.Inside.{nets_within}
use Rattle.event_laws.proofs.Lengths.{put_at, put_other}
use Rattle.event_laws.proofs.Made.{IsMadeWithin, body_within}

-- where writes keep the widths of values, and what a continuous assignment doesn't hear leaves the value of its expression
module _ (d : Flat) (Wide : Values → Type 0) (keeps : (v : Values) (w : Write) → Wide v → IsWithin (widths d) w → Wide (written v w)) (deaf_to : (v : Values) (w : Write) (target : List Piece) (e : Tree) → Wide v → IsWithin (widths d) w → IsSized (length d.signals) (widths d) e → hears (widths d) w.signal (v w.signal) (written v w w.signal) (Some (Assign target e)) ≡ false → value (written v w) e ≡ value v e) where
  -- ---- writes

  steady_write : AreLawful d → (s : State) (w : Write) → IsWithin (widths d) w → IsSteadyIn d Wide s → IsSteadyIn d Wide (write d s w)
  steady_write lawful s w inside h =
      record {
        within = record { offered = h.within.offered; activated = h.within.activated; delayed = h.within.delayed };
        widths = keeps s.value w h.widths inside;
        up_to_date = up_to_date;
      }
    where
      up_to_date : AreUpToDate d (write d s w)
      up_to_date p target e here still =
          let parts = or_parts (s.woken p) (hears (widths d) w.signal (s.value w.signal) (written s.value w w.signal) (doing_at d p)) still in
          let deaf = ap (hears (widths d) w.signal (s.value w.signal) (written s.value w w.signal)) (sym here) ∙ parts.1 in
          h.up_to_date p target e here parts.0
          ∙ sym (deaf_to s.value w target e h.widths inside (lawful p (Assign target e) here).0.sized.widths deaf)

  steady_writes : AreLawful d → (s : State) (us : List Write) → All (IsWithin (widths d)) us → IsSteadyIn d Wide s → IsSteadyIn d Wide (write_all d s us)
  steady_writes lawful s [] inside h = h
  steady_writes lawful s (w ∷ us) inside h =
      steady_writes lawful (write d s w) us (All-tail (IsWithin (widths d)) w us inside)
      (steady_write lawful s w (All-head (IsWithin (widths d)) w us inside) h)

  -- ---- inputs

  -- a value that is taken away, or put elsewhere
  none_or : (f : ℕ → Option (List Bit)) (k j : ℕ) (bits : List Bit) → put f k None j ≡ Some bits → f j ≡ Some bits
  none_or f k j bits e =
      elim (cases_eq j k) [
        | inl here ↦ absurd (let none = put_at f k j None here in cc)
        | inr other ↦ sym (put_other f k j None other) ∙ e
      ]

  pub steady_input :
      AreLawful d → (s : State) (i : ℕ) → IsTrue (is_input d i) → (new : Option (List Bit)) → s.offered i ≡ new → IsSteadyIn d Wide s →
      IsSteadyIn d Wide (after_input d s i new)
  steady_input lawful s i input None is h = h
  steady_input lawful s i input (Some bits) is h =
      let few = h.within.offered i bits input is in
      steady_write lawful (record s { offered = put s.offered i None }) (record { signal = i; at = 0; bits = bits }) (omega (arith, few))
      (record {
        within = record {
          offered = λ j other input e. h.within.offered j other input (none_or s.offered i j other e);
          activated = h.within.activated;
          delayed = h.within.delayed;
        };
        widths = h.widths;
        up_to_date = h.up_to_date;
      })

  pub steady_offered :
      (s : State) (i : ℕ) (bits : List Bit) → length bits ≤ widths d i → IsSteadyIn d Wide s →
      IsSteadyIn d Wide (record s { offered = put s.offered i (Some bits) })
  steady_offered s i bits few h =
      record {
        within = record { offered = offered; activated = h.within.activated; delayed = h.within.delayed };
        widths = h.widths;
        up_to_date = h.up_to_date;
      }
    where
      offered : (j : ℕ) (other : List Bit) → IsTrue (is_input d j) → put s.offered i (Some bits) j ≡ Some other → length other ≤ widths d j
      offered j other input e =
          elim (cases_eq j i) [
            | inl here ↦
                let there = put_at s.offered i j (Some bits) here in
                let same : bits ≡ other = cc in
                let size : length bits ≡ length other = ap length same in
                let width : widths d j ≡ widths d i = ap (widths d) here in
                omega (arith, few, size, width)
            | inr apart ↦ h.within.offered j other input (sym (put_other s.offered i j (Some bits) apart) ∙ e)
          ]

  -- ---- continuous assignments

  pub steady_evaluate : (s : State) (p : ℕ) (does : Option Doing) → doing_at d p ≡ does → IsSteadyIn d Wide s → IsSteadyIn d Wide (after_evaluate s p does)
  steady_evaluate s p None is h = h
  steady_evaluate s p (Some (Comb list body)) is h = h
  steady_evaluate s p (Some (Edge' events body)) is h = h
  steady_evaluate s p (Some (Assign target e)) is h =
      record {
        within = record { offered = h.within.offered; activated = h.within.activated; delayed = h.within.delayed };
        widths = h.widths;
        up_to_date = up_to_date;
      }
    where
      up_to_date : AreUpToDate d (after_evaluate s p (Some (Assign target e)))
      up_to_date q target' e' here still =
          elim (cases_eq q p) [
            | inl same ↦
                let evaluated : Some (Assign target e) ≡ Some (Assign target' e') = sym is ∙ ap (doing_at d) (sym same) ∙ here in
                let trees : e ≡ e' = cc in
                ap (λ o. unwrap_or o (s.driver q)) (put_at s.pending p q (Some (value s.value e)) same) ∙ ap (value s.value) trees
            | inr other ↦
                ap (λ o. unwrap_or o (s.driver q)) (put_other s.pending p q (Some (value s.value e)) other)
                ∙ h.up_to_date q target' e' here (sym (put_other s.woken p q false other) ∙ still)
          ]

  steady_driver :
      (s : State) (p : ℕ) (bits : List Bit) → s.pending p ≡ Some bits → IsSteadyIn d Wide s →
      IsSteadyIn d Wide (record s { driver = put s.driver p bits; pending = put s.pending p None })
  steady_driver s p bits due h =
      record {
        within = record { offered = h.within.offered; activated = h.within.activated; delayed = h.within.delayed };
        widths = h.widths;
        up_to_date = up_to_date;
      }
    where
      up_to_date : AreUpToDate d (record s { driver = put s.driver p bits; pending = put s.pending p None })
      up_to_date q target e here still =
          elim (cases_eq q p) [
            | inl same ↦
                ap (λ o. unwrap_or o (put s.driver p bits q)) (put_at s.pending p q None same)
                ∙ put_at s.driver p q bits same
                ∙ ap (λ o. unwrap_or o (s.driver q)) (sym (ap s.pending same ∙ due))
                ∙ h.up_to_date q target e here still
            | inr other ↦
                ap (λ o. unwrap_or o (put s.driver p bits q)) (put_other s.pending p q None other)
                ∙ ap (unwrap_or (s.pending q)) (put_other s.driver p q bits other)
                ∙ h.up_to_date q target e here still
          ]

  steady_drive :
      AreLawful d → (s : State) (p : ℕ) (target : List Piece) (e : Tree) (new : Option (List Bit)) →
      doing_at d p ≡ Some (Assign target e) → s.pending p ≡ new → IsSteadyIn d Wide s → IsSteadyIn d Wide (drive d s p target new)
  steady_drive lawful s p target e None is due h = h
  steady_drive lawful s p target e (Some bits) is due h =
      steady_writes lawful (record s { driver = put s.driver p bits; pending = put s.pending p None })
      (net_writes (widths d) (resolved d (put s.driver p bits)) target)
      (nets_within d.signals (resolved d (put s.driver p bits)) target (lawful p (Assign target e) is).0.parts)
      (steady_driver s p bits due h)

  pub steady_update :
      AreLawful d → (s : State) (p : ℕ) (does : Option Doing) → doing_at d p ≡ does → IsSteadyIn d Wide s → IsSteadyIn d Wide (after_update d s p does)
  steady_update lawful s p None is h = h
  steady_update lawful s p (Some (Comb list body)) is h = h
  steady_update lawful s p (Some (Edge' events body)) is h = h
  steady_update lawful s p (Some (Assign target e)) is h = steady_drive lawful s p target e (s.pending p) is refl h

  -- ---- bodies

  steady_perform : AreLawful d → (s : State) (m : Made) → IsMadeWithin (widths d) m → IsSteadyIn d Wide s → IsSteadyIn d Wide (perform d s m)
  steady_perform lawful s (Now w) inside h = steady_write lawful s w inside h
  steady_perform lawful s (Later us) inside h =
      record {
        within = record {
          offered = h.within.offered;
          activated = h.within.activated;
          delayed = All-push (All (IsWithin (widths d))) s.delayed us h.within.delayed inside;
        };
        widths = h.widths;
        up_to_date = h.up_to_date;
      }

  steady_all : AreLawful d → (s : State) (ms : List Made) → All (IsMadeWithin (widths d)) ms → IsSteadyIn d Wide s → IsSteadyIn d Wide (perform_all d s ms)
  steady_all lawful s [] inside h = h
  steady_all lawful s (m ∷ ms) inside h =
      steady_all lawful (perform d s m) ms (All-tail (IsMadeWithin (widths d)) m ms inside)
      (steady_perform lawful s m (All-head (IsMadeWithin (widths d)) m ms inside) h)

  -- a process that isn't a continuous assignment waits
  steady_wait : (s : State) (p : ℕ) → is_assignment (doing_at d p) ≡ false → IsSteadyIn d Wide s → IsSteadyIn d Wide (wait s p)
  steady_wait s p body h =
      record {
        within = record { offered = h.within.offered; activated = h.within.activated; delayed = h.within.delayed };
        widths = h.widths;
        up_to_date = up_to_date;
      }
    where
      up_to_date : AreUpToDate d (wait s p)
      up_to_date q target e here still =
          elim (cases_eq q p) [
            | inl same ↦ absurd (let yes : true ≡ false = ap is_assignment (sym here) ∙ ap (λ k. is_assignment (doing_at d k)) same ∙ body in cc)
            | inr other ↦ h.up_to_date q target e here (sym (put_other s.woken p q false other) ∙ still)
          ]

  steady_body :
      AreLawful d → (s : State) (p : ℕ) (body : Actions) → is_assignment (doing_at d p) ≡ false → IsBody d.signals body → IsSteadyIn d Wide s →
      IsSteadyIn d Wide (wait (perform_all d s (body_made (widths d) s.value body)) p)
  steady_body lawful s p body is inside h =
      steady_wait (perform_all d s (body_made (widths d) s.value body)) p is
      (steady_all lawful s (body_made (widths d) s.value body) (body_within d.signals s.value body inside) h)

  pub steady_ran : AreLawful d → (s : State) (p : ℕ) (does : Option Doing) → doing_at d p ≡ does → IsSteadyIn d Wide s → IsSteadyIn d Wide (after_run d s p does)
  steady_ran lawful s p None is h = h
  steady_ran lawful s p (Some (Assign target e)) is h = h
  steady_ran lawful s p (Some (Comb list body)) is h =
      steady_body lawful s p body (ap is_assignment is) (lawful p (Comb list body) is).1 h
  steady_ran lawful s p (Some (Edge' events body)) is h =
      steady_body lawful s p body (ap is_assignment is) (lawful p (Edge' events body) is).2 h

  -- ---- nonblocking updates

  pub steady_delayed : AreLawful d → (s : State) (us : List (List Write)) → s.activated ≡ us → IsSteadyIn d Wide s → IsSteadyIn d Wide (after_delayed d s us)
  steady_delayed lawful s [] is h = h
  steady_delayed lawful s (u ∷ us) is h =
      let all : All (All (IsWithin (widths d))) (u ∷ us) = subst (All (All (IsWithin (widths d)))) is h.within.activated in
      steady_writes lawful (record s { activated = us }) u (All-head (All (IsWithin (widths d))) u us all)
      (record {
        within = record { offered = h.within.offered; activated = All-tail (All (IsWithin (widths d))) u us all; delayed = h.within.delayed };
        widths = h.widths;
        up_to_date = h.up_to_date;
      })

  pub steady_activated : (s : State) → IsSteadyIn d Wide s → IsSteadyIn d Wide (record s { activated = s.delayed; delayed = [] })
  steady_activated s h =
      record {
        within = record { offered = h.within.offered; activated = h.within.delayed; delayed = All-nil (All (IsWithin (widths d))) };
        widths = h.widths;
        up_to_date = h.up_to_date;
      }
