-- A comparison as a whole.
use Rattle.std.proofs.Common.{◌≡◌, ◌∙◌, ◌<◌, ℕ, Bool, not, true, false, List, length, ap, subst, sym}
use Rattle.std.specs.Prelude.{Err, IfErr, IfOk, Ok, Result}
use Rattle.rtl_flat.specs.declared.design.Design.{Design}
use Rattle.rtl_flat.specs.Flats.{Flat, flat}
use Rattle.rtl_flat.specs.declared.signal.Signal.{Signal}
use Rattle.netlist_eval.proofs.Marked.{input_below}
use Rattle.netlist_eval.specs.declared.basis.Basis.{Basis}
use Rattle.netlist_eval.specs.Basis.{IsBasisOf}
use Rattle.netlist_eval.specs.net_start.Stored.{AreInputs, AreStored, IsStored, places}
use Rattle.vcd_signals.specs.declared.recorder.Recorder.{Recorder}
use Rattle.vcd_signals.specs.Recording.{flat_of, sights_of, text_of}
use Rattle.vcd_signals.specs.Signals.{is_recorded, sights}
use Rattle.vcd_signals.specs.vcd_read.declared.dump.Dump.{Dump as KeptDump}
use Rattle.vcd_signals.specs.vcd_read.Reading.{dump_of}
use Rattle.vcd_check.specs.declared.verdict.CompareFault.{CompareFault}
use Rattle.vcd_check.specs.declared.verdict.CompareFault.TheVariants.{MissingInput, MissingRegister, NoNetlist, NeverKnown, Unlawful, Memory}
use Rattle.vcd_check.specs.declared.verdict.Verdict.{Verdict}
use Rattle.vcd_check.specs.Checks.{AreMarks, AreNone, IsFirst, is_marked, watched_of}
use Rattle.vcd_check.specs.Telling.{IsTellFault}
use Rattle.vcd_check.specs.Verdicts.{AreRecorded, HasNetlist, IsCompareFault, IsInput, IsMissing, IsReady, IsTold, IsVerdict}
use Rattle.vcd_check.proofs.Going.{has_inside}
use Rattle.vcd_check.proofs.Missing.{all_recorded, missing}

-- a recorder of this design, scope and dump
pub record IsFor (design : Design) (scope : List ℕ) (dump : KeptDump) (r : Recorder) : Type 0 where
  pub design_is : r.design.now ≡ design
  pub scope_is : r.scope.now ≡ scope
  pub dump_is : r.dump.now ≡ dump

module _ (design : Design) (scope : List ℕ) (dump : KeptDump) (r : Recorder) (is : IsFor design scope dump r) where
  pub over : (F : Flat → List ℕ → KeptDump → Type 0) → F (flat_of r) r.scope.now r.dump.now → F (flat design) scope dump
  over F held =
      subst (λ (one : KeptDump). F (flat design) scope one) is.dump_is
      (subst (λ (one : List ℕ). F (flat design) one r.dump.now) is.scope_is
      (subst (λ (one : Design). F (flat one) r.scope.now r.dump.now) is.design_is held))

  pub inputs_recorded : (tops : List ℕ) (marks : List Bool) → AreInputs (flat design) tops → AreMarks (length design.signals.items) tops marks → AreNone (is_marked marks) (λ i. not (is_recorded (flat_of r) r.scope.now (text_of r) i)) (length marks) → AreRecorded (IsInput (flat design)) (flat design) scope (dump_of dump)
  inputs_recorded tops marks are marked none =
      all_recorded (IsInput (flat design)) (flat design) scope (dump_of dump) (length design.signals.items) tops marks are.each (input_below design.signals.items) marked
      (over (λ (d : Flat) (s : List ℕ) (one : KeptDump). AreNone (is_marked marks) (λ i. not (is_recorded d s (dump_of one) i)) (length marks)) none)

  stored_below : (i : ℕ) → IsStored (flat design) i → i < length design.signals.items
  stored_below i stored = has_inside design.signals.items _ i stored.variable

  pub stored_recorded : (holders : List ℕ) (marks : List Bool) → AreStored (flat design) holders → AreMarks (length design.signals.items) holders marks → AreNone (is_marked marks) (λ i. not (is_recorded (flat_of r) r.scope.now (text_of r) i)) (length marks) → AreRecorded (IsStored (flat design)) (flat design) scope (dump_of dump)
  stored_recorded holders marks are marked none =
      all_recorded (IsStored (flat design)) (flat design) scope (dump_of dump) (length design.signals.items) holders marks are.each stored_below marked
      (over (λ (d : Flat) (s : List ℕ) (one : KeptDump). AreNone (is_marked marks) (λ i. not (is_recorded d s (dump_of one) i)) (length marks)) none)

  pub stored_missing : (holders : List ℕ) (marks : List Bool) (signal : ℕ) → AreStored (flat design) holders → AreMarks (length design.signals.items) holders marks → IsFirst (is_marked marks) (λ i. not (is_recorded (flat_of r) r.scope.now (text_of r) i)) (length marks) signal → IsMissing (IsStored (flat design)) (flat design) scope (dump_of dump) signal
  stored_missing holders marks signal are marked first =
      missing (IsStored (flat design)) (flat design) scope (dump_of dump) (length design.signals.items) holders marks are.each stored_below marked signal
      (over (λ (d : Flat) (s : List ℕ) (one : KeptDump). IsFirst (is_marked marks) (λ i. not (is_recorded d s (dump_of one) i)) (length marks) signal) first)

  ready : (basis : Basis) → IsBasisOf (flat design) basis → AreRecorded (IsInput (flat design)) (flat design) scope (dump_of dump) → AreRecorded (IsStored (flat design)) (flat design) scope (dump_of dump) → HasNetlist (flat design) → IsReady (flat design) scope (dump_of dump) (watched_of basis)
  ready basis of inputs stored netlist = record {
    is_watched = record { are_stored = of.holders; are_tops = of.tops; are_controls = of.controls };
    inputs = inputs;
    stored = stored;
    netlist = netlist;
  }

  module _ (basis : Basis) (of : IsBasisOf (flat design) basis) (inputs : AreRecorded (IsInput (flat design)) (flat design) scope (dump_of dump)) (stored : AreRecorded (IsStored (flat design)) (flat design) scope (dump_of dump)) where
    pub verdict : (result : Result Verdict CompareFault) → IfOk result (λ answer. HasNetlist (flat design) × IsTold (flat design) (watched_of basis) (sights_of r) answer) → IfOk result (IsVerdict (flat design) scope (dump_of dump))
    verdict (Ok answer) told = (
      watched_of basis,
      ready basis of inputs stored told.0,
      over (λ (d : Flat) (s : List ℕ) (one : KeptDump). IsTold (flat design) (watched_of basis) (sights d s (dump_of one)) answer) told.1,
    )
    verdict (Err fault) told = told

    one_fault : (fault : CompareFault) → IsTellFault (flat design) (watched_of basis) (sights (flat design) scope (dump_of dump)) fault → IsCompareFault (flat design) scope (dump_of dump) fault
    one_fault (MissingInput signal) h = absurd h
    one_fault (MissingRegister signal) h = absurd h
    one_fault NoNetlist h = (inputs, stored, h)
    one_fault NeverKnown h = (watched_of basis, ready basis of inputs stored h.0, h.1)
    one_fault (Unlawful time) h = (watched_of basis, ready basis of inputs stored h.0, h.1)
    one_fault Memory h = h

    pub fault : (result : Result Verdict CompareFault) → IfErr result (λ one. IsTellFault (flat design) (watched_of basis) (sights_of r) one) → IfErr result (IsCompareFault (flat design) scope (dump_of dump))
    fault (Ok answer) told = told
    fault (Err one) told =
        one_fault one (over (λ (d : Flat) (s : List ℕ) (kept : KeptDump). IsTellFault (flat design) (watched_of basis) (sights d s (dump_of kept)) one) told)
