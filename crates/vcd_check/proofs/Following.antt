-- The settings between two times are lawful, and what they are read as.
use Rattle.std.proofs.Common.{◌≡◌, ◌∙◌, ◌&&◌, ◌<◌, ℕ, zero, suc, Bool, true, false, not, cond, if◌then◌else◌, List, [], ◌∷◌, map, length, refl, sym, ap, subst, inl, inr, arith}
use Rattle.std.specs.Prelude.{None, Option, Some, IsTrue, ◌↔◌, ◌≢◌, slice_index_or}
use Rattle.std.specs.List.{All, filter, list_all}
use Rattle.std.proofs.lemmas.Bool.{and_parts, cond-true, cond-false, false≢true}
use Rattle.std.proofs.lemmas.List.Elements.{All-cons, All-head, All-nil, All-tail}
use Rattle.rtl_bits.specs.declared.Bit.{Bit}
use Rattle.rtl_bits.specs.Bits.{has_unknown}
use Rattle.rtl_flat.specs.declared.expr.SigId.{SigId}
use Rattle.rtl_flat.specs.Flats.{Flat, widths}
use Rattle.event_model.specs.Queue.{is_input}
use Rattle.event_model.specs.Writes.{Values}
use Rattle.net_model.specs.Cycle.{Setting, Step}
use Rattle.net_model.specs.Gates.{IsControl}
use Rattle.net_model.specs.Lawful.{SetsData, TurnsControl}
use Rattle.netlist_eval.specs.net_start.rtl_scan.Arrows.{Among}
use Rattle.netlist_eval.specs.net_start.Stored.{AreInputs, places}
use Rattle.netlist_eval.proofs.Marked.{input_below}
use Rattle.demo_told.specs.Same.{are_same}
use Rattle.demo_told.proofs.Same.{differ_is}
use Rattle.vcd_signals.specs.Signals.{Sight}
use Rattle.vcd_check.specs.Checks.{Follows, IsFine, Takes}
use Rattle.vcd_check.specs.Departure.{Watched, change_of, changed, read_as, steps_of, steps_to, with_change}

-- what is not true is false
not_true : (b : Bool) → not b ≡ true → b ≡ false
not_true true h = absurd (false≢true h)
not_true false h = refl

-- values of their width
abbrev AreWide : Flat → Sight → Type 0
AreWide d sight = (i : ℕ) (bits : List Bit) → sight.value i ≡ Some bits → length bits ≡ widths d i

abbrev are_known : List Setting → Bool
are_known settings = list_all (λ (setting : Setting). not (has_unknown setting.number)) settings

module _ (d : Flat) (n : Values) (sight : Sight) (wide : AreWide d sight) where
  one_fine : (i : ℕ) → IsTrue (is_input d i) → (settings : List Setting) → (o : Option (List Bit)) → sight.value i ≡ o → are_known (with_change (change_of (n i) i o) settings) ≡ true → (are_known settings ≡ true → All (IsFine d n) settings) → All (IsFine d n) (with_change (change_of (n i) i o) settings)
  one_fine i input settings None is known others = others known
  one_fine i input settings (Some bits) is known others = by (are_same bits (n i)) refl known
    where
      by : (t : Bool) → are_same bits (n i) ≡ t → are_known (with_change (if t then None else Some (record { input = i; number = bits })) settings) ≡ true → All (IsFine d n) (with_change (if t then None else Some (record { input = i; number = bits })) settings)
      by true same known = others known
      by false same known =
          let (here, rest) = and_parts (not (has_unknown bits)) (are_known settings) known in
          All-cons (IsFine d n) (record { input = i; number = bits }) settings
          (record { input = input; wide = wide i bits is; known = not_true (has_unknown bits) here; other = differ_is bits (n i) (ap not same) })
          (others rest)

  pub fine : (tops : List ℕ) → ((i : ℕ) → Among tops i → IsTrue (is_input d i)) → are_known (changed n sight tops) ≡ true → All (IsFine d n) (changed n sight tops)
  fine [] inputs known = All-nil (IsFine d n)
  fine (i ∷ tops) inputs known =
      one_fine i (inputs i (inl refl)) (changed n sight tops) (sight.value i) refl known
      (fine tops (λ j among. inputs j (inr among)))

module _ (d : Flat) (n : Values) (is_control : ℕ → Bool) (controls : (i : ℕ) → is_control i ≡ true ↔ IsControl d i) where
  pub turns : (settings : List Setting) → All (IsFine d n) settings → All (TurnsControl d n) (filter (λ (setting : Setting). is_control setting.input) settings)
  turns [] are = All-nil (TurnsControl d n)
  turns (setting ∷ settings) are = by (is_control setting.input) refl (turns settings (All-tail (IsFine d n) setting settings are))
    where
      by : (t : Bool) → is_control setting.input ≡ t → All (TurnsControl d n) (filter (λ (one : Setting). is_control one.input) settings) → All (TurnsControl d n) (cond t (setting ∷ filter (λ (one : Setting). is_control one.input) settings) (filter (λ (one : Setting). is_control one.input) settings))
      by true is others =
          let here = All-head (IsFine d n) setting settings are in
          All-cons (TurnsControl d n) setting (filter (λ (one : Setting). is_control one.input) settings)
          (record { control = (controls setting.input).0 is; can_be = record { wide = here.wide; known = here.known }; other = here.other })
          others
      by false is others = others

  pub sets : (settings : List Setting) → All (IsFine d n) settings → All (SetsData d) (filter (λ (setting : Setting). not (is_control setting.input)) settings)
  sets [] are = All-nil (SetsData d)
  sets (setting ∷ settings) are = by (is_control setting.input) refl (sets settings (All-tail (IsFine d n) setting settings are))
    where
      by : (t : Bool) → is_control setting.input ≡ t → All (SetsData d) (filter (λ (one : Setting). not (is_control one.input)) settings) → All (SetsData d) (cond (not t) (setting ∷ filter (λ (one : Setting). not (is_control one.input)) settings) (filter (λ (one : Setting). not (is_control one.input)) settings))
      by true is others = others
      by false is others =
          let here = All-head (IsFine d n) setting settings are in
          All-cons (SetsData d) setting (filter (λ (one : Setting). not (is_control one.input)) settings)
          (record {
            data_input = record { input = here.input; no_control = λ control. false≢true (sym is ∙ (controls setting.input).1 control) };
            can_be = record { wide = here.wide; known = here.known };
          })
          others

-- ---- what is taken

abbrev reading : (ℕ → Bool) → List Setting → Option (List Step)
reading is_control settings =
    read_as (filter (λ (setting : Setting). is_control setting.input) settings) (filter (λ (setting : Setting). not (is_control setting.input)) settings)

pub read_known : (is_control : ℕ → Bool) (settings : List Setting) → are_known settings ≡ true → steps_of is_control settings ≡ reading is_control settings
read_known is_control settings known = cond-true (are_known settings) (reading is_control settings) None known

pub read_unknown : (is_control : ℕ → Bool) (settings : List Setting) → are_known settings ≡ false → steps_of is_control settings ≡ None
read_unknown is_control settings unknown = cond-false (are_known settings) (reading is_control settings) None unknown

pub followed : (d : Flat) (watched : Watched) (old new : Values) (sight : Sight) (r : Bool) → are_known (changed old sight watched.tops) ≡ true → Takes d (reading watched.is_control (changed old sight watched.tops)) old r new → Follows d watched old sight r new
followed d watched old new sight true known takes =
    (takes.0, read_known watched.is_control (changed old sight watched.tops) known ∙ takes.1, takes.2)
followed d watched old new sight false known takes =
    read_known watched.is_control (changed old sight watched.tops) known ∙ takes

-- ---- signals that are there

pub among_at : (signals : List SigId) (k : ℕ) (one : SigId) → k < length signals → Among (places signals) (slice_index_or signals k one).0
among_at [] k one below = absurd (omega arith)
among_at (x ∷ signals) zero one below = inl refl
among_at (x ∷ signals) (suc k) one below = inr (among_at signals k one (omega arith))

pub tops_inside : (d : Flat) (tops : List SigId) → AreInputs d (places tops) → All (λ (signal : SigId). signal.0 < length d.signals) tops
tops_inside d tops are k one below =
    input_below d.signals (slice_index_or tops k one).0 ((are.each (slice_index_or tops k one).0).0 (among_at tops k one below))
