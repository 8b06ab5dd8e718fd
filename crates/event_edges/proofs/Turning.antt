-- The turn of an input, event by event, up to the activation of the nonblocking updates.
use Rattle.std.proofs.Common.{◌≡◌, ◌∙◌, ◌⊎◌, ℕ, Bool, true, false, ◌&&◌, ◌||◌, List, [], ◌∷◌, length, get_or, Option, Some, refl, sym, ap, subst, inl, inr, arith}
use Rattle.std.specs.List.{list_any}
use Rattle.std.proofs.lemmas.Bool.{and_from, and_parts, cases_eq, eq-eqb, false≢true, le-leb, lt-ltb, or_cases, or_right}
use Rattle.rtl_bits.specs.declared.Bit.{Bit}
use Rattle.rtl_bits.specs.declared.Bit.TheVariants.{X}
use Rattle.rtl_bits.specs.Bits.{replaced}
use Rattle.rtl_flat.specs.Expression.{Tree}
use Rattle.rtl_flat.specs.Flows.{may_select}
use Rattle.rtl_flat.specs.Process.{Selection, Whole, Piece, Watched, Actions, Doing, Assign, Comb, Edge'}
use Rattle.event_model.specs.Queue.{State, doing_at, happens, hears, item_hears, write}
use Rattle.rtl_flat.specs.Flats.{Flat, widths}
use Rattle.event_model.specs.Writes.{Values, Write, written}
use Rattle.event_runs.specs.event_laws.Steady.{IsWithin}
use Rattle.event_runs.proofs.event_laws_proofs.Lengths.{have_written, put_at, put_other}
use Rattle.net_model.specs.Control.{InClockCone, IsReached}
use Rattle.net_model.specs.Numbers.{bit}
use Rattle.event_edges.specs.Synchronous.{IsItem, IsSynchronous}
use Rattle.event_edges.specs.Turned.{IsTurn, IsTurnedPort, IsTurning, fires, item_fires}
use Rattle.event_edges.proofs.Hearing.{IsHeard, IsPassing, any_either, any_same, falsely, find, happens_same, hearing, listens_same, or_none}
use Rattle.event_edges.proofs.Cone.{item_fixed, item_reached, item_whole, item_width, listed_item, of_signal}

or_last : (x y z : Bool) → ((x || y) || z) ≡ ((x || z) || y)
or_last true y z = refl
or_last false true true = refl
or_last false true false = refl
or_last false false true = refl
or_last false false false = refl

-- all of a signal of one bit is meant
pub whole_selected : (ws : ℕ → ℕ) (signal : ℕ) (selection : Selection) (j : ℕ) → selection ≡ Whole → j ≡ signal → ws signal ≡ 1 → may_select ws signal selection j 0 ≡ true
whole_selected ws signal selection j whole same one =
    ap (λ x. may_select ws signal x j 0) whole
    ∙ and_from _ _ (eq-eqb j signal same)
    (and_from _ _ (le-leb 0 0 (omega arith)) (and_from _ _ (lt-ltb 0 (ws signal) (omega (arith, one))) (lt-ltb 0 (ws signal) (omega (arith, one)))))

-- the write by which a signal of one bit turns
abbrev pub turned : ℕ → Bit → Write
turned j b = record { signal = j; at = 0; bits = b ∷ [] }

-- an item is an event between values in which it has two bits
pub fires_between : (old new : Values) (x : Watched) (a b : Bit) → old x.signal ≡ a ∷ [] → new x.signal ≡ b ∷ [] → item_fires old new x ≡ happens x.edge a b
fires_between old new x a b before after =
    ap (λ l. happens x.edge (get_or l 0 X) (bit new x.signal 0)) before
    ∙ ap (λ l. happens x.edge a (get_or l 0 X)) after

module _ (d : Flat) (sync : IsSynchronous d) (c : ℕ) (a b : Bit) (old : Values) (turn : IsTurn d c a b old) where
  cone : (i : ℕ) → IsReached d c i → InClockCone d i
  cone i reached = record { clock = c; is_clock = turn.clock; reached = reached }

  -- the events of a block whose signals aren't reached, or haven't turned, haven't come
  pub unfired :
      (ran : ℕ → Bool) (s : State) → IsTurning d c a b old ran s → (p : ℕ) (events : List Watched) (body : Actions) (x : Watched) →
      IsItem d p events body x → (IsReached d c x.signal → ⊥) → item_fires old s.value x ≡ false
  unfired ran s h p events body x is apart =
      ap (happens x.edge (bit old x.signal 0)) (h.kept x.signal 0 apart (λ t. item_fixed d sync p events body x is t.of_process.variable))
      ∙ happens_same x.edge (bit old x.signal 0)

  -- ---- a signal turns

  module _ (ran : ℕ → Bool) (s : State) (h : IsTurning d c a b old ran s) (j : ℕ) (reached : IsReached d c j) where
    one : widths d j ≡ 1
    one =
        elim (h.behind j reached) [
          | inl e ↦ sym (h.wide j) ∙ ap length e
          | inr e ↦ sym (h.wide j) ∙ ap length e
        ]

    inside : IsWithin (widths d) (turned j b)
    inside = omega (arith, one)

    now : written s.value (turned j b) j ≡ b ∷ []
    now =
        put_at s.value j j (replaced 0 (b ∷ []) (s.value j)) refl
        ∙ elim (h.behind j reached) [
          | inl e ↦ ap (λ l. replaced 0 (b ∷ []) l) e
          | inr e ↦ ap (λ l. replaced 0 (b ∷ []) l) e
        ]

    elsewhere : (i : ℕ) → (i ≡ j → ⊥) → written s.value (turned j b) i ≡ s.value i
    elsewhere i other = put_other s.value j i (replaced 0 (b ∷ []) (s.value j)) other

    stays : (i : ℕ) → s.value i ≡ b ∷ [] → written s.value (turned j b) i ≡ b ∷ []
    stays i e =
        elim (cases_eq i j) [
          | inl same ↦ ap (written s.value (turned j b)) same ∙ now
          | inr other ↦ elsewhere i other ∙ e
        ]

    behind : (i : ℕ) → IsReached d c i → (written s.value (turned j b) i ≡ a ∷ []) ⊎ (written s.value (turned j b) i ≡ b ∷ [])
    behind i r =
        elim (cases_eq i j) [
          | inl same ↦ inr (ap (written s.value (turned j b)) same ∙ now)
          | inr other ↦
              elim (h.behind i r) [
                | inl e ↦ inl (elsewhere i other ∙ e)
                | inr e ↦ inr (elsewhere i other ∙ e)
              ]
        ]

    -- who is woken
    abbrev heard : ℕ → Bool
    heard q = hears (widths d) j (s.value j) (written s.value (turned j b) j) (doing_at d q)

    hearer : (q : ℕ) (does : Doing) → doing_at d q ≡ Some does → heard q ≡ true → IsHeard d (turned j b) does
    hearer q does is hs =
        hearing d s.value (turned j b) does h.wide inside
        (ap (hears (widths d) j (s.value j) (written s.value (turned j b) j)) (sym is) ∙ hs)

    ports :
        (q : ℕ) (target : List Piece) (e : Tree) → doing_at d q ≡ Some (Assign target e) → (s.woken q || heard q) ≡ true →
        IsTurnedPort d c b (written s.value (turned j b)) target e
    ports q target e is woken =
        elim (or_cases (s.woken q) (heard q) woken) [
          | inl was ↦
              let port = h.ports q target e is was in
              record { is_reached = port.is_reached; turned = stays port.is_reached.from port.turned }
          | inr hs ↦
              let it = hearer q (Assign target e) is hs in
              let port = sync.heard q (Assign target e) is j it.bit (cone j reached) it.listened in
              record {
                is_reached = record { «from» = j; port = port.port; link = port.link; passed = port.passed; reached = reached };
                turned = now;
              }
        ]

    waits : (q : ℕ) (list : Option (List Watched)) (body : Actions) → doing_at d q ≡ Some (Comb list body) → (s.woken q || heard q) ≡ false
    waits q list body is =
        ap (λ x. x || heard q) (h.waits q list body is)
        ∙ falsely (heard q)
        (λ hs. let it = hearer q (Comb list body) is hs in sync.heard q (Comb list body) is j it.bit (cone j reached) it.listened)

    -- a signal that has turned isn't heard again
    unheard : s.value j ≡ b ∷ [] → (q : ℕ) (does : Doing) → doing_at d q ≡ Some does → heard q ≡ false
    unheard e q does is =
        ap (hears (widths d) j (s.value j) (written s.value (turned j b) j)) is
        ∙ ap (λ l. hears (widths d) j l (written s.value (turned j b) j) (Some does)) e
        ∙ ap (λ l. hears (widths d) j (b ∷ []) l (Some does)) now
        ∙ ap (λ x. x || false) (listens_same (widths d) j 0 b does)

    module _ (q : ℕ) (events : List Watched) (body : Actions) (is : doing_at d q ≡ Some (Edge' events body)) where
      same_item : s.value j ≡ b ∷ [] → (x : Watched) → item_fires old (written s.value (turned j b)) x ≡ item_fires old s.value x
      same_item e x =
          elim (cases_eq x.signal j) [
            | inl same ↦
                ap (λ l. happens x.edge (bit old x.signal 0) (get_or l 0 X)) (ap (written s.value (turned j b)) same ∙ now ∙ sym e ∙ ap s.value (sym same))
            | inr other ↦ ap (λ l. happens x.edge (bit old x.signal 0) (get_or l 0 X)) (elsewhere x.signal other)
          ]

      new_item :
          s.value j ≡ a ∷ [] → (x : Watched) → IsItem d q events body x →
          item_fires old (written s.value (turned j b)) x ≡ (item_fires old s.value x || item_hears (widths d) j 0 a b x)
      new_item e x item =
          elim (cases_eq x.signal j) [
            | inl same ↦
                let before : old x.signal ≡ a ∷ [] = ap old same ∙ turn.before j reached in
                let selected = whole_selected (widths d) x.signal x.selection j (item_whole d sync q events body x item) (sym same) (item_width d sync q events body x item) in
                fires_between old (written s.value (turned j b)) x a b before (ap (written s.value (turned j b)) same ∙ now)
                ∙ sym (ap (λ y. y || item_hears (widths d) j 0 a b x) (fires_between old s.value x a a before (ap s.value same ∙ e) ∙ happens_same x.edge a)
                ∙ ap (λ y. y && happens x.edge a b) selected)
            | inr other ↦
                let none = falsely (item_hears (widths d) j 0 a b x) (λ hs. other (sym (of_signal (widths d) x.signal x.selection j 0 (and_parts (may_select (widths d) x.signal x.selection j 0) _ hs).0))) in
                ap (λ l. happens x.edge (bit old x.signal 0) (get_or l 0 X)) (elsewhere x.signal other)
                ∙ sym (ap (λ y. item_fires old s.value x || y) none ∙ or_none (item_fires old s.value x))
          ]

      all_items : fires old (written s.value (turned j b)) events ≡ (fires old s.value events || heard q)
      all_items =
          elim (h.behind j reached) [
            | inl e ↦
                any_same (item_fires old (written s.value (turned j b))) (λ x. item_fires old s.value x || item_hears (widths d) j 0 a b x) events
                (λ place x there. new_item e x (record { does = is; place = place; there = there }))
                ∙ any_either (item_fires old s.value) (item_hears (widths d) j 0 a b) events
                ∙ ap (λ y. fires old s.value events || y) (sym (hear e))
            | inr e ↦
                any_same (item_fires old (written s.value (turned j b))) (item_fires old s.value) events (λ place x there. same_item e x)
                ∙ sym (ap (λ y. fires old s.value events || y) (unheard e q (Edge' events body) is) ∙ or_none (fires old s.value events))
          ]
        where
          hear : s.value j ≡ a ∷ [] → heard q ≡ list_any (item_hears (widths d) j 0 a b) events
          hear e =
              ap (hears (widths d) j (s.value j) (written s.value (turned j b) j)) is
              ∙ ap (λ l. hears (widths d) j l (written s.value (turned j b) j) (Some (Edge' events body))) e
              ∙ ap (λ l. hears (widths d) j (a ∷ []) l (Some (Edge' events body))) now
              ∙ or_none (list_any (item_hears (widths d) j 0 a b) events)

      fired : fires old (written s.value (turned j b)) events ≡ ((s.woken q || heard q) || ran q)
      fired =
          all_items ∙ ap (λ y. y || heard q) (h.fired q events body is) ∙ or_last (s.woken q) (ran q) (heard q)

      -- an event of a block that has run can't come again
      no_more : ran q ≡ true → heard q ≡ true → ⊥
      no_more did hs = by (h.behind j reached)
        where
          it : IsHeard d (turned j b) (Edge' events body)
          it = hearer q (Edge' events body) is hs

          came : IsPassing Watched (item_fires old s.value) events
          came =
              find (item_fires old s.value) events (h.fired q events body is ∙ or_right (s.woken q) (ran q) did)

          first : IsItem d q events body came.item
          first = record { does = is; place = came.place; there = came.there }

          at_j : came.item.signal ≡ j
          at_j =
              let two = listed_item (widths d) events j it.bit it.listened in
              let second : IsItem d q events body two.item = record { does = is; place = two.place; there = two.there } in
              elim (item_reached d sync q events body came.item first c turn.clock.input) [
                | inl r ↦ sync.once q events body came.item two.item first second c turn.clock.input r (subst (IsReached d c) two.same reached) ∙ sym two.same
                | inr apart ↦
                    absurd (false≢true (sym (unfired ran s h q events body came.item first apart) ∙ came.passes))
              ]

          by : (s.value j ≡ a ∷ []) ⊎ (s.value j ≡ b ∷ []) → ⊥
          by (inl e) =
              false≢true (sym (fires_between old s.value came.item a a (ap old at_j ∙ turn.before j reached) (ap s.value at_j ∙ e) ∙ happens_same came.item.edge a) ∙ came.passes)
          by (inr e) = false≢true (sym (unheard e q (Edge' events body) is) ∙ hs)

      once : ((s.woken q || heard q) && ran q) ≡ false
      once =
          falsely ((s.woken q || heard q) && ran q)
          (λ both.
          let parts = and_parts (s.woken q || heard q) (ran q) both in
          elim (or_cases (s.woken q) (heard q) parts.0) [
            | inl was ↦
                false≢true (sym (h.once q events body is) ∙ and_from (s.woken q) (ran q) was parts.1)
            | inr hs ↦ no_more parts.1 hs
          ])

    pub turn_write : IsTurning d c a b old ran (write d s (turned j b))
    turn_write =
        record {
          wide = have_written d s.value (turned j b) h.wide inside;
          offered = h.offered;
          behind = behind;
          ports = ports;
          pending = h.pending;
          waits = waits;
          fired = fired;
          once = once;
          activated = h.activated;
          kept = λ i k apart lasting.
              ap (λ l. get_or l k X) (elsewhere i (λ same. apart (subst (IsReached d c) (sym same) reached))) ∙ h.kept i k apart lasting;
        }
