-- In every run each driven bit shows what its drivers give.
use Rattle.std.proofs.Common.{◌≡◌, ◌∙◌, ◌+◌, ◌<◌, ℕ, zero, suc, true, false, List, [], ◌∷◌, replicate, Option, None, Some, get_or, refl, sym, ap, inl, inr, arith}
use Rattle.std.specs.Prelude.{unwrap_or}
use Rattle.std.specs.List.{slice_get}
use Rattle.std.specs.Option.{IsSomeAnd, is_some}
use Rattle.std.proofs.lemmas.Bool.{cases_Bool, cases_eq, false_from_ne_true, true≢false}
use Rattle.std.proofs.lemmas.List.{get_or-replicate}
use Rattle.rtl_bits.specs.declared.Bit.{Bit}
use Rattle.rtl_bits.specs.declared.Bit.TheVariants.{X, Z}
use Rattle.rtl_flat.specs.declared.signal.Kind.TheVariants.{Net}
use Rattle.rtl_flat.specs.declared.signal.Signal.{Signal}
use Rattle.rtl_flat.specs.Expression.{Tree}
use Rattle.rtl_flat.specs.Flows.{may_target}
use Rattle.rtl_flat.specs.Paths.{MayWrite}
use Rattle.rtl_flat.specs.Process.{Assign, Comb, Doing, Edge', Piece}
use Rattle.rtl_flat.specs.Signs.{width_in}
use Rattle.rtl_flat.specs.Sizes.{width_of}
use Rattle.rtl_flat.specs.Value.{value}
use Rattle.event_model.specs.Queue.{State, Event, Input, Evaluate, Update, Run, Delayed, Activate, CanRun, IsAtRest, IsThere, after, doing_at, first_bit, first_bits, first_drive, is_assignment, is_input, net_writes, power_up, resolved, run}
use Rattle.rtl_flat.specs.Flats.{Flat, widths}
use Rattle.event_model.specs.Traces.{Same}
use Rattle.event_model.specs.Writes.{all_written, driven, put}
use Rattle.event_laws.specs.Steady.{AreLawful, IsSteady}
use Rattle.event_laws.proofs.Lengths.{put_other}
use Rattle.event_laws.proofs.Within.{target_inside}
use Rattle.event_runs.specs.Effects.{drive_writes, update_writes}
use Rattle.event_runs.specs.Nets.{AreDriven, AreResolved}
use Rattle.event_runs.specs.Writers.{CanWrite, IsOrderly, IsSole}
use Rattle.event_runs.proofs.Effects.{effect, put_as}
use Rattle.event_runs.proofs.Late.{orderly_after, untouched}
use Rattle.event_runs.proofs.May.{process_now}
use Rattle.event_runs.proofs.Resolved.{GiveSame, alike_from, alone_from, driven_out, driven_z, nets_show, resolved_wide, silent_from}
use Rattle.event_runs.proofs.Signals.{IsNet, body_variable, late_variable, net_input, net_variable, target_may, target_net}
use Rattle.event_runs.proofs.Writers.{assign_may, to_process}

module _ (d : Flat) (lawful : AreLawful d) where
  -- drivers that hold the same give the same
  alike : (f g : ℕ → List Bit) → ((q : ℕ) → f q ≡ g q) → (i k : ℕ) → k < widths d i → Same (resolved d f) (resolved d g) i k
  alike f g same i k below =
      alike_from d i k below 0 d.tasks f g lawful (λ q m target e number there. ap (λ bits. get_or (driven (widths d) target bits i) k X) (same m))

  -- ---- an event that updates no driver

  module _ (s : State) (h : IsOrderly d s) (shown : AreResolved d s) where
    stays :
        (event : Event) → IsThere d s event → ((q : ℕ) → (after d s event).driver q ≡ s.driver q) → (p : ℕ) (target : List Piece) (e : Tree) →
        doing_at d p ≡ Some (Assign target e) → (i k : ℕ) → may_target (widths d) target i k ≡ true → (IsNet d i → CanWrite d event i k → ⊥) →
        Same (after d s event).value (resolved d (after d s event).driver) i k
    stays event there same p target e here i k is cannot =
        untouched d lawful s event there h i k (cannot (target_net d lawful p target e here i k is))
        ∙ shown p target e here i k is
        ∙ alike s.driver (after d s event).driver (λ q. sym (same q)) i k (target_inside (widths d) target i k is)

    -- ---- an update

    module _ (q : ℕ) (there : IsThere d s (Update q)) (target : List Piece) (e : Tree) (here : doing_at d q ≡ Some (Assign target e)) (bits : List Bit) (due : s.pending q ≡ Some bits) where
      abbrev next : State
      next = after d s (Update q)

      value_is : next.value ≡ all_written s.value (net_writes (widths d) (resolved d (put s.driver q bits)) target)
      value_is =
          (effect d s (Update q) there).value
          ∙ ap (λ x. all_written s.value (update_writes d s q x)) here
          ∙ ap (λ o. all_written s.value (drive_writes d s.driver q target o)) due

      driver_is : (m : ℕ) → next.driver m ≡ put s.driver q bits m
      driver_is m =
          (effect d s (Update q) there).driver m
          ∙ sym (put_as s.driver (λ j. unwrap_or (s.pending j) (s.driver j)) q bits (ap (λ o. unwrap_or o (s.driver q)) (sym due)) m)

      -- bits of its target take what is given
      taken : (i k : ℕ) → may_target (widths d) target i k ≡ true → Same next.value (resolved d next.driver) i k
      taken i k is =
          ap (λ v. get_or (v i) k X) value_is
          ∙ nets_show d (resolved d (put s.driver q bits)) (resolved_wide d lawful (put s.driver q bits)) i k s.value target h.steady.widths
          (lawful q (Assign target e) here).0.parts (lawful q (Assign target e) here).1 is
          ∙ alike (put s.driver q bits) next.driver (λ m. sym (driver_is m)) i k (target_inside (widths d) target i k is)

      -- it gives z to all others, before and after
      module _ (i k : ℕ) (below : k < widths d i) (no_bit : may_target (widths d) target i k ≡ false) where
        same_given : GiveSame d i k below 0 d.tasks s.driver next.driver
        same_given p m target' e' number there' =
            elim (cases_eq m q) [
              | inl mine ↦
                  let index : p ≡ q = omega (arith, number, mine) in
                  let both : Some (Assign target' e') ≡ Some (Assign target e) = sym there' ∙ ap (doing_at d) index ∙ here in
                  let targets : target ≡ target' = cc in
                  let free = ap (λ t. may_target (widths d) t i k) (sym targets) ∙ no_bit in
                  let parts = (lawful p (Assign target' e') there').0.parts in
                  driven_out d target' (s.driver m) parts i k below free ∙ sym (driven_out d target' (next.driver m) parts i k below free)
              | inr other ↦
                  ap (λ b. get_or (driven (widths d) target' b i) k X) (sym (driver_is m ∙ put_other s.driver q m bits other))
            ]

      others_stay :
          (p : ℕ) (target' : List Piece) (e' : Tree) → doing_at d p ≡ Some (Assign target' e') → (i k : ℕ) → may_target (widths d) target' i k ≡ true →
          may_target (widths d) target i k ≡ false → Same next.value (resolved d next.driver) i k
      others_stay p target' e' there' i k is no_bit =
          let below = target_inside (widths d) target' i k is in
          untouched d lawful s (Update q) there h i k (λ may. true≢false (sym (target_may d lawful q target e here i k may) ∙ no_bit))
          ∙ shown p target' e' there' i k is
          ∙ alike_from d i k below 0 d.tasks s.driver next.driver lawful (same_given i k below no_bit)

      updated : AreResolved d next
      updated p target' e' there' i k is =
          elim (cases_Bool (may_target (widths d) target i k)) [
            | inl mine ↦ taken i k mine
            | inr no_bit ↦ others_stay p target' e' there' i k is no_bit
          ]

    by_pending :
        (q : ℕ) (there : IsThere d s (Update q)) (target : List Piece) (e : Tree) → doing_at d q ≡ Some (Assign target e) → (new : Option (List Bit)) →
        s.pending q ≡ new → AreResolved d (after d s (Update q))
    by_pending q there target e here None due = absurd (let none : true ≡ false = sym there.1 ∙ ap is_some due in cc)
    by_pending q there target e here (Some bits) due = updated q there target e here bits due

    by_doing : (q : ℕ) (there : IsThere d s (Update q)) → (does : Option Doing) → doing_at d q ≡ does → AreResolved d (after d s (Update q))
    by_doing q there None here = absurd (let none : true ≡ false = sym there.0 ∙ ap is_assignment here in cc)
    by_doing q there (Some (Comb list body)) here = absurd (let none : true ≡ false = sym there.0 ∙ ap is_assignment here in cc)
    by_doing q there (Some (Edge' events body)) here = absurd (let none : true ≡ false = sym there.0 ∙ ap is_assignment here in cc)
    by_doing q there (Some (Assign target e)) here = by_pending q there target e here (s.pending q) refl

    resolved_one : (event : Event) → IsThere d s event → AreResolved d (after d s event)
    resolved_one (Input j) there p target e here i k is =
        stays (Input j) there (effect d s (Input j) there).driver p target e here i k is (λ net can. net_input d i net (ap (is_input d) can ∙ there.0))
    resolved_one (Evaluate q) there p target e here i k is =
        stays (Evaluate q) there (effect d s (Evaluate q) there).driver p target e here i k is (λ net can. can)
    resolved_one (Update q) there p target e here i k is = by_doing q there (doing_at d q) refl p target e here i k is
    resolved_one (Run q) there p target e here i k is =
        stays (Run q) there (effect d s (Run q) there).driver p target e here i k is
        (λ net can. net_variable d i net (body_variable d lawful q there.0 i k (process_now d q i k can)))
    resolved_one Delayed there p target e here i k is =
        stays Delayed there (effect d s Delayed there).driver p target e here i k is
        (λ net can. net_variable d i net (late_variable d lawful can.process i k can.may))
    resolved_one Activate there p target e here i k is =
        stays Activate there (effect d s Activate there).driver p target e here i k is (λ net can. can)

-- ---- in runs

pub resolved_after : (d : Flat) → AreLawful d → (s : State) (event : Event) → IsThere d s event → IsOrderly d s → AreResolved d s → AreResolved d (after d s event)
resolved_after d lawful s event there h shown = resolved_one d lawful s h shown event there

pub resolved_run :
    (d : Flat) → AreLawful d → (s : State) (events : List Event) → CanRun d s events → IsOrderly d s → AreResolved d s → AreResolved d (run d s events)
resolved_run d lawful s [] can h shown = shown
resolved_run d lawful s (event ∷ events) can h shown =
    resolved_run d lawful (after d s event) events can.1 (orderly_after d lawful s event can.0 h) (resolved_after d lawful s event can.0 h shown)

-- ---- at power-up

first_z : (o : Option Signal) (k : ℕ) → IsSomeAnd o (λ s. s.kind ≡ Net) → (w : ℕ) → IsSomeAnd o (λ s. s.width ≡ w) → k < w → get_or (first_bits o) k X ≡ Z
first_z None k net w size below = absurd net
first_z (Some signal) k net w size below =
    ap (λ kind. get_or (replicate signal.width (first_bit kind)) k X) net ∙ get_or-replicate signal.width k Z X (omega (arith, size, below))

its_width : (signals : List Signal) (i : ℕ) → IsSomeAnd (slice_get signals i) (λ s. s.kind ≡ Net) → IsSomeAnd (slice_get signals i) (λ s. s.width ≡ width_in signals i)
its_width [] i net = absurd net
its_width (s ∷ signals) zero net = refl
its_width (s ∷ signals) (suc i) net = its_width signals i net

pub resolved_power_up : (d : Flat) → AreLawful d → AreResolved d (power_up d)
resolved_power_up d lawful p target e here i k is =
    let net = target_net d lawful p target e here i k is in
    let below = target_inside (widths d) target i k is in
    first_z (slice_get d.signals i) k net (widths d i) (its_width d.signals i net) below
    ∙ sym (silent_from d i k below 0 d.tasks (power_up d).driver lawful silent)
  where
    silent : (q m : ℕ) (target' : List Piece) (e' : Tree) → m ≡ 0 + q → doing_at d q ≡ Some (Assign target' e') → get_or (driven (widths d) target' ((power_up d).driver m) i) k X ≡ Z
    silent q m target' e' number there =
        let index : m ≡ q = omega (arith, number) in
        ap (λ n. get_or (driven (widths d) target' (first_drive (widths d) (doing_at d n)) i) k X) index
        ∙ ap (λ does. get_or (driven (widths d) target' (first_drive (widths d) does) i) k X) there
        ∙ driven_z d (width_of (widths d) e') target' (lawful q (Assign target' e') there).0.parts i k (target_inside (widths d) target i k is)

-- ---- one driver

module _ (d : Flat) (lawful : AreLawful d) where
  -- what a driver alone gives, all give together
  pub sole_driver :
      (driver : ℕ → List Bit) (p : ℕ) (target : List Piece) (e : Tree) → doing_at d p ≡ Some (Assign target e) → (i k : ℕ) →
      may_target (widths d) target i k ≡ true → IsSole d p i k → Same (resolved d driver) (driven (widths d) target (driver p)) i k
  sole_driver driver p target e here i k is sole =
      alone_from d i k below 0 d.tasks driver lawful p p target e (omega arith) here silent
    where
      below : k < widths d i
      below = target_inside (widths d) target i k is

      silent : (q m : ℕ) (target' : List Piece) (e' : Tree) → (q ≡ p → ⊥) → m ≡ 0 + q → doing_at d q ≡ Some (Assign target' e') → get_or (driven (widths d) target' (driver m) i) k X ≡ Z
      silent q m target' e' other number there =
          driven_out d target' (driver m) (lawful q (Assign target' e') there).0.parts i k below
          (false_from_ne_true _ (λ may. sole q other (to_process MayWrite d q i k (Assign target' e') there (assign_may (widths d) target' e' i k may))))

  pub driven_from : (s : State) → AreResolved d s → AreDriven d s
  driven_from s shown p target e here i k is sole =
      shown p target e here i k is ∙ sole_driver s.driver p target e here i k is sole

  pub resolved_from : (s : State) → ((p : ℕ) (target : List Piece) (e : Tree) → doing_at d p ≡ Some (Assign target e) → (i k : ℕ) → may_target (widths d) target i k ≡ true → IsSole d p i k) → AreDriven d s → AreResolved d s
  resolved_from s soles shown p target e here i k is =
      let sole = soles p target e here i k is in
      shown p target e here i k is sole ∙ sym (sole_driver s.driver p target e here i k is sole)

-- at rest a driver has the value of its expression
pub driver_value : (d : Flat) (s : State) → IsSteady d s → IsAtRest d s → (p : ℕ) (target : List Piece) (e : Tree) → doing_at d p ≡ Some (Assign target e) → s.driver p ≡ value s.value e
driver_value d s steady rest p target e here =
    ap (λ o. unwrap_or o (s.driver p)) (sym (rest.no_active.drivers p (ap is_assignment here)))
    ∙ steady.up_to_date p target e here (rest.no_active.processes p (ap is_some here))
