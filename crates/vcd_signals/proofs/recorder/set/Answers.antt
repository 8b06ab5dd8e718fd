use Rattle.std.proofs.Common.{◌≡◌, ◌∙◌, ◌<◌, ℕ, List, ap, subst, sym, refl, length, get_or-set_other, get_or-set_same, true}
use Rattle.std.specs.Prelude.{None, Option, Some}
use Rattle.std.specs.List.{slice_get}
use Rattle.std.proofs.Math.ListN.{set}
use Rattle.rtl_bits.specs.declared.Bit.{Bit}
use Rattle.rtl_flat.specs.Signs.{width_in}
use Rattle.rtl_flat.specs.Value.{store}
use Rattle.vcd_read.specs.Filling.{filled}
use Rattle.vcd_read.specs.Frames.{written_over}
use Rattle.vcd_signals.specs.Recording.{is_code, value_after}
use Rattle.vcd_signals.proofs.Setting.{after_own, at_place, code_within, width_get}
use Rattle.vcd_signals.proofs.recorder.set.Goals as goal

pub returns-in-Some : goal.returns-in-Some
returns-in-Some c =
    let signals = c.args.signals.now in
    let codes = c.args.codes.now in
    let p = c.args.signal.0 in
    let own : is_code (slice_get codes p) c.args.code ≡ true = sym c.if-not-has_code.ensures in
    let within : p < length codes = code_within codes p c.args.code own in
    let there : p < length signals = subst (λ (n : ℕ). p < n) c.requires.codes within in
    let room : p < length c.args.values.now = subst (λ (n : ℕ). p < n) (sym c.requires.values) there in
    let width = width_get signals p c.index-signals-place.result there in
    let given : filled (width_in signals p) c.args.bits.now ≡ Some c.in-Some.value =
    ap (λ (w : ℕ). filled w c.args.bits.now) (sym width) ∙ sym c.in-Some.ensures in
    at_place (set c.args.values.now p c.in-Some.value) c.args.values.now p
    (λ i v. value_after (slice_get codes i) (width_in signals i) (record { code = c.args.code; bits = c.args.bits.now }) v)
    (get_or-set_same c.args.values.now p _ _ room
    ∙ sym (after_own (slice_get codes p) (width_in signals p) (record { code = c.args.code; bits = c.args.bits.now }) (store c.args.values.now p) own
    ∙ ap (λ (o : Option (List Bit)). written_over (store c.args.values.now p) o) given))
    (λ i other. let ne : i ≡ p → ⊥ = λ e. other (sym e) in rw get_or-set_other refl)

pub returns-in_default : goal.returns-in_default
returns-in_default c =
    let signals = c.args.signals.now in
    let codes = c.args.codes.now in
    let p = c.args.signal.0 in
    let own : is_code (slice_get codes p) c.args.code ≡ true = sym c.if-not-has_code.ensures in
    let within : p < length codes = code_within codes p c.args.code own in
    let there : p < length signals = subst (λ (n : ℕ). p < n) c.requires.codes within in
    let width = width_get signals p c.index-signals-place.result there in
    let given : filled (width_in signals p) c.args.bits.now ≡ None =
    ap (λ (w : ℕ). filled w c.args.bits.now) (sym width) ∙ sym c.in_default.ensures in
    at_place c.args.values.now c.args.values.now p
    (λ i v. value_after (slice_get codes i) (width_in signals i) (record { code = c.args.code; bits = c.args.bits.now }) v)
    (sym (after_own (slice_get codes p) (width_in signals p) (record { code = c.args.code; bits = c.args.bits.now }) (store c.args.values.now p) own
    ∙ ap (λ (o : Option (List Bit)). written_over (store c.args.values.now p) o) given))
    (λ i other. refl)
