use Rattle.std.proofs.Common.{◌≡◌, ◌∙◌, ◌+◌, ◌++◌, ◌∷◌, [], List, ap, subst, sym, take}
use Rattle.std.proofs.lemmas.List.{take_more}
use Rattle.rtl_flat.specs.declared.signal.Signal.{Signal}
use Rattle.name_map.specs.Values.{values_of, with_value}
use Rattle.vcd_signals.specs.Keys.{AreWanted}
use Rattle.vcd_signals.proofs.Paths.{wanted_more}
use Rattle.vcd_signals.proofs.keys.wanted.Goals as goal

pub loop-signal-preserved : goal.loop-signal-preserved
loop-signal-preserved c =
    let signals = c.args.signals.now in
    let scope = c.args.scope.now in
    let k = c.loop-signal.signal-index in
    let item = c.signal-item.result in
    let longer : take (k + 1) signals ≡ take k signals ++ item ∷ [] =
    take_more signals k item c.loop-signal-test.true ∙ ap (λ (x : Signal). take k signals ++ x ∷ []) (sym c.signal-item.is) in
    subst (λ (l : List Signal). AreWanted scope l (values_of c.put-in-loop-signal.new.self)) (sym longer)
    (wanted_more scope (take k signals) item (values_of c.loop-signal.known) (values_of c.put-in-loop-signal.new.self)
    c.loop-signal.invariant (c.in_ok-put.ensures.ok ∙ ap (λ name. with_value (values_of c.loop-signal.known) name _) c.in_ok-signal_key.ensures))
