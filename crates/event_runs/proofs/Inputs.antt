-- In every run inputs come to what was offered to them.
use Rattle.std.proofs.Common.{◌≡◌, ◌∙◌, ◌-◌, ◌<◌, ℕ, true, false, if◌then◌else◌, List, [], ◌∷◌, length, Option, None, Some, get_or, refl, sym, ap, inl, inr, arith}
use Rattle.std.specs.Prelude.{IsTrue, unwrap_or}
use Rattle.std.specs.Option.{is_some}
use Rattle.std.proofs.lemmas.Bool.{cases_Bool, cases_eq, eq-eqb, eqb-true, false≢true, true≢false}
use Rattle.std.proofs.lemmas.List.{ext_get_or}
use Rattle.rtl_bits.specs.declared.Bit.{Bit}
use Rattle.rtl_bits.specs.declared.Bit.TheVariants.{X}
use Rattle.event_model.specs.Queue.{State, Event, Input, Evaluate, Update, Run, Delayed, Activate, CanRun, IsThere, after, is_input, offer, run}
use Rattle.rtl_flat.specs.Flats.{Flat, widths}
use Rattle.event_model.specs.Writes.{Values, Write, all_written, put, written}
use Rattle.event_laws.specs.Steady.{AreLawful, IsWithin}
use Rattle.event_laws.proofs.Steady.{steady_offer}
use Rattle.event_laws.proofs.Lengths.{have_written, put_at, put_other}
use Rattle.event_laws.proofs.Written.{covers_from, written_in}
use Rattle.event_runs.specs.Effects.{input_writes, takes}
use Rattle.event_runs.specs.Nets.{AreOffered, AreWide, given_with, offered_after}
use Rattle.event_runs.specs.Writers.{CanWrite, IsOrderly}
use Rattle.event_runs.proofs.Effects.{effect}
use Rattle.event_runs.proofs.Late.{orderly_after, untouched}
use Rattle.event_runs.proofs.May.{process_now}
use Rattle.event_runs.proofs.Signals.{assign_net, body_variable, late_variable, net_input, variable_input}

module _ (d : Flat) (lawful : AreLawful d) (s : State) (h : IsOrderly d s) where
  -- no process writes an input
  no_writer : (event : Event) → IsThere d s event → (i : ℕ) → IsTrue (is_input d i) → takes event i ≡ false → (k : ℕ) → CanWrite d event i k → ⊥
  no_writer (Input j) there i input other k can = true≢false (sym (eq-eqb i j can) ∙ other)
  no_writer (Evaluate q) there i input other k can = can
  no_writer (Update q) there i input other k can = net_input d i (assign_net d lawful q there.0 i k can) input
  no_writer (Run q) there i input other k can =
      variable_input d i (body_variable d lawful q there.0 i k (process_now d q i k can)) input
  no_writer Delayed there i input other k can =
      variable_input d i (late_variable d lawful can.process i k can.may) input
  no_writer Activate there i input other k can = can

  -- an input keeps its value until it takes another
  pub input_stays : (event : Event) → IsThere d s event → (i : ℕ) → IsTrue (is_input d i) → takes event i ≡ false → (after d s event).value i ≡ s.value i
  input_stays event there i input other =
      ext_get_or X ((after d s event).value i) (s.value i) ((orderly_after d lawful s event there h).steady.widths i ∙ sym (h.steady.widths i))
      (λ k below. untouched d lawful s event there h i k (no_writer event there i input other k))

  -- it takes what is offered
  taken :
      (j : ℕ) (there : IsThere d s (Input j)) (new : Option (List Bit)) → s.offered j ≡ new →
      (bits : List Bit) → unwrap_or new (s.value j) ≡ bits → length bits ≡ widths d j → (after d s (Input j)).value j ≡ bits
  taken j there None due bits is size = absurd (let none : true ≡ false = sym there.1 ∙ ap is_some due in cc)
  taken j there (Some all) due bits is size =
      ap (λ v. v j) (effect d s (Input j) there).value
      ∙ ap (λ o. all_written s.value (input_writes j o) j) due
      ∙ ext_get_or X (written s.value w j) all (have_written d s.value w h.steady.widths within j ∙ sym long) each
      ∙ is
    where
      long : length all ≡ widths d j
      long = ap length is ∙ size

      w : Write
      w = record { signal = j; at = 0; bits = all }

      within : IsWithin (widths d) w
      within = omega (arith, long)

      each : (k : ℕ) → k < length (written s.value w j) → get_or (written s.value w j) k X ≡ get_or all k X
      each k below =
          let width = have_written d s.value w h.steady.widths within j in
          let place : k - 0 ≡ k = omega arith in
          written_in d s.value w h.steady.widths within j k (covers_from j k w refl (omega arith) (omega (arith, below, width, long)))
          ∙ ap (λ n. get_or all n X) place

  comes_after :
      (given : Values) → AreOffered d given s → (event : Event) → IsThere d s event → (i : ℕ) → IsTrue (is_input d i) →
      unwrap_or ((after d s event).offered i) ((after d s event).value i) ≡ given i
  comes_after given offers event there i input =
      elim (cases_Bool (takes event i)) [
        | inl mine ↦
            ap (λ o. unwrap_or o ((after d s event).value i)) ((effect d s event there).offered i ∙ ap (λ b. if b then None else s.offered i) mine)
            ∙ own event there mine
        | inr other ↦
            ap (λ o. unwrap_or o ((after d s event).value i)) ((effect d s event there).offered i ∙ ap (λ b. if b then None else s.offered i) other)
            ∙ ap (unwrap_or (s.offered i)) (input_stays event there i input other)
            ∙ offers.comes i input
      ]
    where
      own : (event : Event) → IsThere d s event → takes event i ≡ true → (after d s event).value i ≡ given i
      own (Input j) there mine =
          let same = eqb-true i j mine in
          ap (λ n. (after d s (Input j)).value n) same
          ∙ taken j there (s.offered j) refl (given j) (offers.comes j there.0) (offers.wide j there.0)
          ∙ ap given (sym same)
      own (Evaluate q) there mine = absurd (false≢true mine)
      own (Update q) there mine = absurd (false≢true mine)
      own (Run q) there mine = absurd (false≢true mine)
      own Delayed there mine = absurd (false≢true mine)
      own Activate there mine = absurd (false≢true mine)

pub offered_event :
    (d : Flat) → AreLawful d → (given : Values) (s : State) (event : Event) → IsThere d s event → IsOrderly d s → AreOffered d given s →
    AreOffered d given (after d s event)
offered_event d lawful given s event there h offers =
    record { wide = offers.wide; comes = comes_after d lawful s h given offers event there }

pub offered_run :
    (d : Flat) → AreLawful d → (given : Values) (s : State) (events : List Event) → CanRun d s events → IsOrderly d s → AreOffered d given s →
    AreOffered d given (run d s events)
offered_run d lawful given s [] can h offers = offers
offered_run d lawful given s (event ∷ events) can h offers =
    offered_run d lawful given (after d s event) events can.1 (orderly_after d lawful s event can.0 h) (offered_event d lawful given s event can.0 h offers)

-- ---- where values are offered

-- nothing else changes
pub offer_is : (s : State) (step : List (ℕ × List Bit)) → offer s step ≡ record s { offered = offered_after s.offered step }
offer_is s [] = refl
offer_is s ((i, bits) ∷ others) = offer_is (record s { offered = put s.offered i (Some bits) }) others

one_offered :
    (d : Flat) (given : Values) (s : State) (i : ℕ) (bits : List Bit) → length bits ≡ widths d i → AreOffered d given s →
    AreOffered d (put given i bits) (record s { offered = put s.offered i (Some bits) })
one_offered d given s i bits size offers =
    record {
      wide = λ j input.
          elim (cases_eq j i) [
            | inl same ↦ ap length (put_at given i j bits same) ∙ size ∙ ap (widths d) (sym same)
            | inr other ↦ ap length (put_other given i j bits other) ∙ offers.wide j input
          ];
      comes = λ j input.
          elim (cases_eq j i) [
            | inl same ↦ ap (λ o. unwrap_or o (s.value j)) (put_at s.offered i j (Some bits) same) ∙ sym (put_at given i j bits same)
            | inr other ↦ ap (λ o. unwrap_or o (s.value j)) (put_other s.offered i j (Some bits) other) ∙ offers.comes j input ∙ sym (put_other given i j bits other)
          ];
    }

pub offered_offer :
    (d : Flat) (given : Values) (s : State) (step : List (ℕ × List Bit)) → AreWide d step → AreOffered d given s →
    AreOffered d (given_with given step) (offer s step)
offered_offer d given s [] wide offers = offers
offered_offer d given s ((i, bits) ∷ others) wide offers =
    offered_offer d (put given i bits) (record s { offered = put s.offered i (Some bits) }) others wide.1 (one_offered d given s i bits wide.0 offers)

-- an orderly state stays so
pub orderly_offer : (d : Flat) (s : State) (step : List (ℕ × List Bit)) → AreWide d step → IsOrderly d s → IsOrderly d (offer s step)
orderly_offer d s [] wide h = h
orderly_offer d s ((i, bits) ∷ others) wide h =
    orderly_offer d (record s { offered = put s.offered i (Some bits) }) others wide.1
    (record {
      steady = steady_offer d s i bits (omega (arith, wide.0)) h.steady;
      late = record { activated = h.late.activated; delayed = h.late.delayed };
    })
