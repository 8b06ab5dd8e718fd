-- Ports through which a clock or a reset goes show what their driver gives, and at rest what the input has.
use Rattle.std.proofs.Common.{◌≡◌, ◌∙◌, ℕ, true, List, [], ◌∷◌, length, get_or, replicate, Some, refl, sym, ap, arith}
use Rattle.std.specs.Prelude.{IsTrue, IsSome, is_some, unwrap_or}
use Rattle.rtl_bits.specs.declared.Bit.{Bit}
use Rattle.rtl_bits.specs.declared.Bit.TheVariants.{X, Z}
use Rattle.rtl_bits.specs.Bits.{extended, replaced, selected}
use Rattle.text_ground.specs.declared.text.Spot.{Spot}
use Rattle.rtl_flat.specs.Expression.{Tree}
use Rattle.rtl_flat.specs.Flows.{flow_of, may_target}
use Rattle.rtl_flat.specs.Paths.{MayWrite}
use Rattle.rtl_flat.specs.Process.{Piece, Doing, Assign}
use Rattle.rtl_flat.specs.Value.{value}
use Rattle.event_model.specs.Queue.{State, HasNoActive, doing_at, is_assignment, resolved}
use Rattle.rtl_flat.specs.Flats.{Flat, widths}
use Rattle.event_model.specs.Writes.{driven, no_drive}
use Rattle.event_runs.proofs.event_laws_proofs.Lengths.{put_at}
use Rattle.net_model.specs.Control.{IsClockOrReset, IsLink, IsPassedOn, IsReached, Itself, Through, whole_of}
use Rattle.event_runs.specs.Nets.{AreDriven}
use Rattle.event_runs.specs.Writers.{IsOrderly, IsSole}
use Rattle.event_runs.proofs.Laws.{sole_driver}
use Rattle.event_runs.proofs.Resolved.{resolved_wide}
use Rattle.event_runs.proofs.Writers.{of_process}
use Rattle.event_edges.specs.Synchronous.{IsSynchronous}
use Rattle.event_edges.proofs.Cone.{assign_writes, connection_does, whole_bit}

-- a list of one bit
pub one_bit : (l : List Bit) (b : Bit) → length l ≡ 1 → get_or l 0 X ≡ b → l ≡ b ∷ []
one_bit [] b size e = absurd (omega (arith, size))
one_bit (x ∷ []) b size e = ap (λ y. y ∷ []) e
one_bit (x ∷ y ∷ l) b size e = absurd (omega (arith, size))

-- what a driver of one bit gives to its signal
driven_port : (ws : ℕ → ℕ) (j : ℕ) (spot : Spot) (b : Bit) → ws j ≡ 1 → driven ws (whole_of j spot) (b ∷ []) j ≡ b ∷ []
driven_port ws j spot b one =
    put_at (no_drive ws) j j (replaced 0 (selected 0 (ws j) (b ∷ [])) (replicate (ws j) Z)) refl
    ∙ ap (λ n. replaced 0 (selected 0 n (b ∷ [])) (replicate n Z)) one

module _ (d : Flat) (sync : IsSynchronous d) where
  -- a bit that a process writes is its alone
  pub sole : (p : ℕ) (does : Doing) → doing_at d p ≡ Some does → (i k : ℕ) → MayWrite (flow_of (widths d) does) i k → IsSole d p i k
  sole p does is i k may q other writes =
      let (does', there, may') = of_process MayWrite d q i k writes in
      other (sync.alone q p does' does there is i k may' may)

  pub sole_target : (p : ℕ) (target : List Piece) (e : Tree) → doing_at d p ≡ Some (Assign target e) → (i k : ℕ) → may_target (widths d) target i k ≡ true → IsSole d p i k
  sole_target p target e is i k may = sole p (Assign target e) is i k (assign_writes (widths d) target e i k may)

  -- the drivers of a port give together what its connection gives
  pub resolves :
      (driver : ℕ → List Bit) (p : ℕ) (target : List Piece) (e : Tree) (i j : ℕ) (b : Bit) → doing_at d p ≡ Some (Assign target e) →
      IsLink d target e i j → driver p ≡ b ∷ [] → selected 0 (widths d j) (resolved d driver j) ≡ b ∷ []
  resolves driver p target e i j b is link new =
      ap (λ n. selected 0 n (resolved d driver j)) link.target_bit
      ∙ ap (selected 0 1) (one_bit (resolved d driver j) b (resolved_wide d sync.lawful driver j ∙ link.target_bit) given)
    where
      may : may_target (widths d) target j 0 ≡ true
      may =
          ap (λ t. may_target (widths d) t j 0) link.whole ∙ whole_bit (widths d) j link.target_spot link.target_bit

      given : get_or (resolved d driver j) 0 X ≡ b
      given =
          sole_driver d sync.lawful driver p target e is j 0 may (sole_target p target e is j 0 may)
          ∙ ap (λ t. get_or (driven (widths d) t (driver p) j) 0 X) link.whole
          ∙ ap (λ l. get_or (driven (widths d) (whole_of j link.target_spot) l j) 0 X) new
          ∙ ap (λ l. get_or l 0 X) (driven_port (widths d) j link.target_spot b link.target_bit)

  at_port :
      (s : State) → IsOrderly d s → AreDriven d s → HasNoActive d s → (c : ℕ) → IsClockOrReset d c → (b : Bit) →
      (k j : ℕ) → IsReached d c k → IsPassedOn d k j → s.value k ≡ b ∷ [] → s.value j ≡ b ∷ []
  at_port s order shown still c clock b k j reached passed source =
      let p = passed.process in
      let spot = passed.connection.spot in
      let e = passed.value in
      let is = connection_does d sync k j passed in
      let may = whole_bit (widths d) j spot passed.port_bit in
      let port = sync.heard p (Assign (whole_of j spot) e) is k passed.alone.bit (record { clock = c; is_clock = clock; reached = reached }) passed.alone.read in
      let there : IsSome (doing_at d p) = ap is_some is in
      let assigns : IsTrue (is_assignment (doing_at d p)) = ap is_assignment is in
      let driver : s.driver p ≡ b ∷ [] =
      ap (λ o. unwrap_or o (s.driver p)) (sym (still.drivers p assigns))
      ∙ order.steady.up_to_date p (whole_of j spot) e is (still.processes p there)
      ∙ ap (value s.value) port.link.copy ∙ ap (λ l. extended 1 port.link.signed l) source in
      one_bit (s.value j) b (order.steady.widths j ∙ passed.port_bit)
      (shown p (whole_of j spot) e is j 0 may (sole_target p (whole_of j spot) e is j 0 may)
      ∙ ap (λ l. get_or (driven (widths d) (whole_of j spot) l j) 0 X) driver
      ∙ ap (λ l. get_or l 0 X) (driven_port (widths d) j spot b passed.port_bit))

  -- where no event is active all that is reached from a clock or a reset has its value
  pub follows :
      (s : State) → IsOrderly d s → AreDriven d s → HasNoActive d s → (c : ℕ) → IsClockOrReset d c → (b : Bit) → s.value c ≡ b ∷ [] →
      (i : ℕ) → IsReached d c i → s.value i ≡ b ∷ []
  follows s order shown still c clock b here _ Itself = here
  follows s order shown still c clock b here _ (Through k j reached passed) =
      at_port s order shown still c clock b k j reached passed (follows s order shown still c clock b here k reached)
