-- What a body that waits for edges writes at once, its temporaries, wakes nobody.
use Rattle.std.proofs.Common.{◌≡◌, ◌∙◌, ◌&&◌, ◌||◌, ℕ, Bool, true, false, List, [], ◌∷◌, get_or, Option, Some, All, sym, ap, subst, inl, inr}
use Rattle.std.specs.List.{list_any, slice_get}
use Rattle.std.proofs.lemmas.Bool.{or_cases, or_left, or_right}
use Rattle.std.proofs.lemmas.List.Elements.{All-head, All-tail}
use Rattle.rtl_bits.specs.declared.Bit.{Bit}
use Rattle.rtl_bits.specs.declared.Bit.TheVariants.{X}
use Rattle.rtl_flat.specs.Expression.{Tree}
use Rattle.rtl_flat.specs.PathSets.{IsTemporaryOf}
use Rattle.rtl_flat.specs.Process.{Piece, Watched, Actions, Assign, Comb, Edge'}
use Rattle.event_model.specs.Bodies.{Made, Now, Later}
use Rattle.event_model.specs.Queue.{State, doing_at, happens, hears, perform, perform_all, write}
use Rattle.rtl_flat.specs.Flats.{Flat, widths}
use Rattle.event_model.specs.Traces.{covers, makes_now}
use Rattle.event_model.specs.Writes.{Values, Write, written}
use Rattle.event_runs.specs.event_laws.Steady.{IsWithin}
use Rattle.event_runs.proofs.event_laws_proofs.Lengths.{have_written}
use Rattle.event_runs.proofs.event_laws_proofs.Made.{IsMadeWithin}
use Rattle.net_model.specs.Control.{IsReached}
use Rattle.net_model.specs.Numbers.{bit}
use Rattle.event_runs.proofs.event_laws_proofs.Written.{written_out}
use Rattle.event_edges.specs.Synchronous.{IsSynchronous}
use Rattle.event_edges.specs.Turned.{IsTurn, IsTurnedPort, IsTurning, fires, item_fires}
use Rattle.event_edges.proofs.Hearing.{any_same, falsely, hearing, signal_kept, or_none}
use Rattle.event_edges.proofs.Cone.{IsVariable, assign_reads, item_fixed, listed_item, reached_apart, unlisted, unread}

module _ (d : Flat) (sync : IsSynchronous d) (c : ℕ) (a b : Bit) (old : Values) (turn : IsTurn d c a b old) (ran : ℕ → Bool) (p : ℕ) (events : List Watched) (body : Actions) (is : doing_at d p ≡ Some (Edge' events body)) where
  abbrev OfBody : ℕ → Type 0
  OfBody i = IsTemporaryOf d.signals d.tasks p i

  -- ---- one write

  module _ (s : State) (h : IsTurning d c a b old ran s) (w : Write) (inside : IsWithin (widths d) w) (own : (i k : ℕ) → covers i k w ≡ true → OfBody i) where
    fixed : (i : ℕ) → IsReached d c i → written s.value w i ≡ s.value i
    fixed i reached =
        signal_kept d s.value w h.wide inside i (λ k over. reached_apart d sync c turn.clock.input i reached (own i k over).variable)

    abbrev heard : ℕ → Bool
    heard q = hears (widths d) w.signal (s.value w.signal) (written s.value w w.signal) (doing_at d q)

    ports :
        (q : ℕ) (target : List Piece) (e : Tree) → doing_at d q ≡ Some (Assign target e) → (s.woken q || heard q) ≡ true →
        IsTurnedPort d c b (written s.value w) target e
    ports q target e at woken =
        elim (or_cases (s.woken q) (heard q) woken) [
          | inl was ↦
              let port = h.ports q target e at was in
              record { is_reached = port.is_reached; turned = fixed port.is_reached.from port.is_reached.reached ∙ port.turned }
          | inr hs ↦
              let it = hearing d s.value w (Assign target e) h.wide inside (ap (hears (widths d) w.signal (s.value w.signal) (written s.value w w.signal)) (sym at) ∙ hs) in
              absurd (unread d p w.signal (own w.signal it.bit it.over) q (Assign target e) at
              (λ same. let kinds : Some (Assign target e) ≡ Some (Edge' events body) = sym at ∙ ap (doing_at d) same ∙ is in cc)
              it.bit (assign_reads (widths d) target e w.signal it.bit it.listened))
        ]

    waits : (q : ℕ) (list : Option (List Watched)) (other : Actions) → doing_at d q ≡ Some (Comb list other) → (s.woken q || heard q) ≡ false
    waits q list other at =
        ap (λ x. x || heard q) (h.waits q list other at)
        ∙ falsely (heard q)
        (λ hs.
        let it = hearing d s.value w (Comb list other) h.wide inside (ap (hears (widths d) w.signal (s.value w.signal) (written s.value w w.signal)) (sym at) ∙ hs) in
        unlisted d p w.signal (own w.signal it.bit it.over) q (Comb list other) at
        (λ same. let kinds : Some (Comb list other) ≡ Some (Edge' events body) = sym at ∙ ap (doing_at d) same ∙ is in cc)
        it.bit it.listened)

    module _ (q : ℕ) (events' : List Watched) (body' : Actions) (at : doing_at d q ≡ Some (Edge' events' body')) where
      deaf_to : heard q ≡ false
      deaf_to =
          falsely (heard q)
          (λ hs.
          let it = hearing d s.value w (Edge' events' body') h.wide inside (ap (hears (widths d) w.signal (s.value w.signal) (written s.value w w.signal)) (sym at) ∙ hs) in
          let one = listed_item (widths d) events' w.signal it.bit it.listened in
          item_fixed d sync q events' body' one.item (record { does = at; place = one.place; there = one.there })
          (subst_variable one.item.signal one.same (own w.signal it.bit it.over).variable))
        where
          subst_variable : (i : ℕ) → w.signal ≡ i → IsVariable d w.signal → IsVariable d i
          subst_variable i same var = subst (IsVariable d) same var

      same_woken : (s.woken q || heard q) ≡ s.woken q
      same_woken = ap (λ x. s.woken q || x) deaf_to ∙ or_none (s.woken q)

      same_item : (place : ℕ) (x : Watched) → slice_get events' place ≡ Some x → item_fires old (written s.value w) x ≡ item_fires old s.value x
      same_item place x there =
          ap (λ l. happens x.edge (bit old x.signal 0) (get_or l 0 X))
          (signal_kept d s.value w h.wide inside x.signal
          (λ k over. item_fixed d sync q events' body' x (record { does = at; place = place; there = there }) (own x.signal k over).variable))

      fired : fires old (written s.value w) events' ≡ ((s.woken q || heard q) || ran q)
      fired =
          any_same (item_fires old (written s.value w)) (item_fires old s.value) events' same_item
          ∙ h.fired q events' body' at ∙ ap (λ x. x || ran q) (sym same_woken)

      once : ((s.woken q || heard q) && ran q) ≡ false
      once = ap (λ x. x && ran q) same_woken ∙ h.once q events' body' at

    pub own_write : IsTurning d c a b old ran (write d s w)
    own_write =
        record {
          wide = have_written d s.value w h.wide inside;
          offered = h.offered;
          behind = λ i reached.
              elim (h.behind i reached) [
                | inl e ↦ inl (fixed i reached ∙ e)
                | inr e ↦ inr (fixed i reached ∙ e)
              ];
          ports = ports;
          pending = h.pending;
          waits = waits;
          fired = fired;
          once = once;
          activated = h.activated;
          kept = λ i k apart lasting.
              written_out d s.value w h.wide inside i k
              (falsely (covers i k w) (λ over. lasting (record { process = p; events = events; body = body; does = is; of_process = own i k over })))
              ∙ h.kept i k apart lasting;
        }

  -- ---- all that the body makes

  later : (s : State) (us : List Write) → IsTurning d c a b old ran s → IsTurning d c a b old ran (perform d s (Later us))
  later s us h =
      record {
        wide = h.wide;
        offered = h.offered;
        behind = h.behind;
        ports = h.ports;
        pending = h.pending;
        waits = h.waits;
        fired = h.fired;
        once = h.once;
        activated = h.activated;
        kept = h.kept;
      }

  pub own_all :
      (s : State) (ms : List Made) → All (IsMadeWithin (widths d)) ms → ((i k : ℕ) → list_any (makes_now i k) ms ≡ true → OfBody i) →
      IsTurning d c a b old ran s → IsTurning d c a b old ran (perform_all d s ms)
  own_all s [] inside own h = h
  own_all s (Now w ∷ ms) inside own h =
      own_all (write d s w) ms (All-tail (IsMadeWithin (widths d)) (Now w) ms inside) (λ i k now. own i k (or_right (covers i k w) (list_any (makes_now i k) ms) now))
      (own_write s h w (All-head (IsMadeWithin (widths d)) (Now w) ms inside) (λ i k over. own i k (or_left (covers i k w) (list_any (makes_now i k) ms) over)))
  own_all s (Later us ∷ ms) inside own h =
      own_all (perform d s (Later us)) ms (All-tail (IsMadeWithin (widths d)) (Later us) ms inside) own (later s us h)
