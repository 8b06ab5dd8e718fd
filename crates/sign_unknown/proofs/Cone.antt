-- Clocks and resets in values at rest: what is reached from an input has its bit, and so do items of lists.
use Rattle.std.proofs.Common.{◌≡◌, ◌∙◌, ℕ, true, List, Some, get_or, refl, sym, ap}
use Rattle.rtl_bits.specs.declared.Bit.TheVariants.{X}
use Rattle.rtl_flat.specs.Expression.{Tree}
use Rattle.rtl_flat.specs.Flows.{may_target}
use Rattle.rtl_flat.specs.Process.{Actions, Assign, Piece, Watched}
use Rattle.rtl_flat.specs.Value.{value}
use Rattle.event_model.specs.Queue.{doing_at}
use Rattle.rtl_flat.specs.Flats.{Flat, widths}
use Rattle.event_model.specs.Writes.{Values, driven}
use Rattle.net_model.specs.Control.{Here, IsBehind, IsClockOrReset, IsReached, Itself, Next, Through, whole_of}
use Rattle.net_model.specs.Cycle.{item_bit}
use Rattle.net_model.specs.Numbers.{bit}
use Rattle.sign_cycles.specs.event_edges.Synchronous.{IsItem, IsSynchronous}
use Rattle.sign_cycles.specs.net_rest.event_laws.Steady.{HaveWidths}
use Rattle.sign_cycles.proofs.event_edges_proofs.Cone.{connection_does, item_clock}
use Rattle.sign_cycles.proofs.net_rest_proofs.Latches.{carried}

-- each net has what its driver gives of the value of its expression
abbrev pub Drives : Flat → Values → Type 0
Drives d v =
    (p : ℕ) (target : List Piece) (e : Tree) → doing_at d p ≡ Some (Assign target e) → (i k : ℕ) → may_target (widths d) target i k ≡ true →
    bit v i k ≡ bit (driven (widths d) target (value v e)) i k

module _ (d : Flat) (sync : IsSynchronous d) where
  reached_behind : (c : ℕ) → IsClockOrReset d c → (i : ℕ) → IsReached d c i → IsBehind d c i
  reached_behind c clock _ Itself = Here
  reached_behind c clock _ (Through k j reached passed) =
      let p = passed.process in
      let spot = passed.connection.spot in
      let is = connection_does d sync k j passed in
      let port = sync.heard p (Assign (whole_of j spot) passed.value) is k passed.alone.bit (record { clock = c; is_clock = clock; reached = reached }) passed.alone.read in
      Next k j p (whole_of j spot) passed.value (reached_behind c clock k reached) is
      (record {
        signed = port.link.signed;
        spot = port.link.spot;
        target_spot = spot;
        whole = refl;
        copy = port.link.copy;
        one_bit = passed.one_bit;
        target_bit = passed.port_bit;
      })

  -- items are the same where clocks and resets are
  pub items_same :
      (v u : Values) → HaveWidths d v → HaveWidths d u → Drives d v → Drives d u → ((c : ℕ) → IsClockOrReset d c → v c ≡ u c) →
      (p : ℕ) (events : List Watched) (body : Actions) (item : Watched) → IsItem d p events body item → item_bit v item ≡ item_bit u item
  items_same v u wide wide' drives drives' same p events body item here =
      let top = sync.clocks p events body item here in
      let clock = item_clock d sync p events body item here top.top top.input top.reached in
      let behind = reached_behind top.top clock item.signal top.reached in
      carried d v wide drives top.top item.signal behind
      ∙ ap (λ bits. get_or bits 0 X) (same top.top clock)
      ∙ sym (carried d u wide' drives' top.top item.signal behind)
