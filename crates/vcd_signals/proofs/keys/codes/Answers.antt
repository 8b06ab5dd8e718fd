use Rattle.std.proofs.Common.{◌≡◌, ◌∙◌, ◌+◌, ◌++◌, ◌∷◌, ℕ, [], List, ap, map, subst, sym, take}
use Rattle.std.specs.Prelude.{Option, Some}
use Rattle.std.specs.List.{slice_get}
use Rattle.std.specs.Option.{option_flatten}
use Rattle.std.proofs.lemmas.Option.{slice_get-get_or}
use Rattle.rtl_flat.specs.declared.signal.Signal.{Signal}
use Rattle.vcd_read.specs.Frames.{variables, variables_in}
use Rattle.vcd_read.specs.Reading.{dump_of}
use Rattle.name_map.specs.Values.{values_of}
use Rattle.vcd_read.specs.declared.dump.Entry.{Entry}
use Rattle.vcd_signals.specs.Keys.{AreFirst, first_code, signal_key}
use Rattle.vcd_signals.proofs.Paths.{map_longer}
use Rattle.vcd_signals.proofs.keys.codes.Goals as goal

pub loop-signal-preserved : goal.loop-signal-preserved
loop-signal-preserved c =
    let signals = c.args.design.now.signals.items in
    let scope = c.args.scope.now in
    let vs = variables (dump_of c.args.dump.now) in
    let k = c.loop-signal.signal-index in
    let item = c.signal-item.result in
    let first = λ (signal : Signal). first_code (signal_key scope signal) vs in
    let shown = c.deref-signal-items.result.now in
    let there : slice_get signals k ≡ Some item =
    subst (λ (l : List Signal). slice_get l k ≡ Some item) c.deref-signal-items.ensures.value
    (slice_get-get_or shown k item c.loop-signal-test.true ∙ ap (λ (x : Signal). Some x) (sym c.signal-item.is)) in
    let are : AreFirst scope signals vs (values_of c.in_ok-known.known) =
    subst (λ (e : List Entry). AreFirst scope signals (variables_in [] e) (values_of c.in_ok-known.known)) c.deref-2.ensures.value
    (subst (λ (l : List Signal). AreFirst scope l (variables_in [] c.deref-2.result.now) (values_of c.in_ok-known.known)) c.deref.ensures.value c.in_ok-known.ensures) in
    let longer : map first (take (k + 1) signals) ≡ map first (take k signals) ++ first item ∷ [] =
    map_longer first signals k item there in
    let found : c.flatten.result ≡ first item =
    c.flatten.ensures
    ∙ ap (λ (o : Option (Option ℕ)). option_flatten o)
    (c.find.ensures ∙ ap (λ (name : List ℕ). values_of c.in_ok-known.known name) c.in_ok-key.ensures ∙ are k item there) in
    c.in_ok-push.ensures.items
    ∙ ap (λ (l : List (Option ℕ)). l ++ c.flatten.result ∷ []) c.loop-signal.invariant
    ∙ ap (λ (o : Option ℕ). map first (take k signals) ++ o ∷ []) found
    ∙ sym longer
