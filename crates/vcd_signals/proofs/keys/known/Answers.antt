use Rattle.std.proofs.Common.{◌≡◌, ◌∙◌, ◌+◌, ◌∷◌, ℕ, suc, [], List, ap, sym, drop}
use Rattle.std.proofs.lemmas.List.{drop_all}
use Rattle.std.proofs.Math.Seq.{drop-cons}
use Rattle.std.proofs.Math.Numerals.{add-one}
use Rattle.name_map.specs.Values.{values_of}
use Rattle.vcd_read.specs.declared.dump.Entry.{Entry}
use Rattle.vcd_read.specs.Frames.{variables_in}
use Rattle.vcd_signals.specs.Keys.{known_behind, scopes_behind, signal_key}
use Rattle.vcd_signals.proofs.Paths.{known_all, known_more}
use Rattle.vcd_signals.proofs.keys.known.Goals as goal

pub loop-entry-init : goal.loop-entry-init
loop-entry-init c = record {
  scopes = [];
  is_in = record { prefix_is = c.new.ensures.items; ends_are = c.new-2.ensures.items };
  known = λ i signal is. ap (λ known. known_behind (signal_key c.args.scope.now signal) (variables_in [] c.args.entries.now) known) (c.in_ok-wanted.ensures i signal is);
}

pub loop-entry-preserved : goal.loop-entry-preserved
loop-entry-preserved c =
    let entries = c.args.entries.now in
    let k = c.loop-entry.entry-index in
    let entry = c.entry-item.result in
    let before = c.loop-entry.invariant in
    let here : drop k entries ≡ entry ∷ drop (k + 1) entries =
    drop-cons entries k entry c.loop-entry-test.true
    ∙ ap (λ (x : Entry). x ∷ drop (suc k) entries) (sym c.entry-item.is)
    ∙ ap (λ (n : ℕ). entry ∷ drop n entries) (sym (add-one k)) in
    record {
      scopes = scopes_behind before.scopes entry;
      is_in = c.in_ok-take.ensures.inside before.scopes before.is_in;
      known = λ i signal is.
          let wanted = signal_key c.args.scope.now signal in
          ap (λ known. known_behind wanted (variables_in (scopes_behind before.scopes entry) (drop (k + 1) entries)) known)
          (c.in_ok-take.ensures.known before.scopes before.is_in wanted)
          ∙ sym (known_more wanted before.scopes entry (drop (k + 1) entries) (values_of c.loop-entry.walk.known wanted))
          ∙ ap (λ (rest : List Entry). known_behind wanted (variables_in before.scopes rest) (values_of c.loop-entry.walk.known wanted)) (sym here)
          ∙ before.known i signal is;
    }

pub returns : goal.returns
returns c =
    let entries = c.args.entries.now in
    let scope = c.args.scope.now in
    let before = c.loop-entry.invariant in
    known_all scope c.args.signals.now (variables_in [] entries) (values_of c.loop-entry.walk.known)
    (λ i signal is.
    ap (λ (rest : List Entry). known_behind (signal_key scope signal) (variables_in before.scopes rest) (values_of c.loop-entry.walk.known (signal_key scope signal)))
    (sym (drop_all c.loop-entry.entry-index entries c.loop-entry-test.false))
    ∙ before.known i signal is)
