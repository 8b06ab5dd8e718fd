use Rattle.std.proofs.Common.{◌∙◌, ◌+◌, ◌∷◌, ℕ, suc, List, ap, sym, refl, drop, length, take}
use Rattle.std.specs.Prelude.{Option}
use Rattle.std.specs.List.{slice_get}
use Rattle.std.specs.Vec.{with_items}
use Rattle.std.proofs.lemmas.List.{with_items_is}
use Rattle.rtl_bits.specs.declared.Bit.{Bit}
use Rattle.rtl_flat.specs.Signs.{width_in}
use Rattle.rtl_flat.specs.Value.{store}
use Rattle.vcd_signals.specs.Recording.{value_after}
use Rattle.std.proofs.Math.Seq.{drop-cons}
use Rattle.std.proofs.Math.Numerals.{add-one}
use Rattle.vcd_read.specs.declared.dump.Change.{Change}
use Rattle.vcd_signals.proofs.Recorded.{taken}
use Rattle.vcd_signals.proofs.recorder.Recorder.take.Goals as goal

pub returns-clause-recorder : goal.returns-clause-recorder
returns-clause-recorder c =
    let self = c.args.self.now in
    let ch = self.dump.now.changes.items in
    let change = c.index-change.result.now in
    let same = with_items_is self.values c.apply.new.values (c.apply.auto.values ∙ c.deref_mut.ensures.len) in
    taken self
    (record {
      design = self.design;
      scope = self.scope;
      dump = self.dump;
      codes = self.codes;
      followers = self.followers;
      values = with_items self.values c.apply.new.values;
      applied = self.applied + 1;
      rest = c.split.result.1;
    })
    change c.requires.recorder (record { design = refl; scope = refl; text = refl }) refl refl refl
    (drop-cons ch self.applied change c.requires.left ∙ ap (λ (x : Change). x ∷ drop (suc self.applied) ch) (sym c.index-change.ensures) ∙ ap (λ (n : ℕ). change ∷ drop n ch) (sym (add-one self.applied)))
    c.split.ensures.others
    (ap length same ∙ c.apply.auto.values ∙ ap length c.deref_mut.ensures.value)
    c.requires.left
    (λ i. ap (λ (l : List (List Bit)). store l i) same
    ∙ c.apply.ensures i
    ∙ ap (λ (l : List (Option ℕ)). value_after (slice_get l i) (width_in self.design.now.signals.items i) (record { code = change.code; bits = c.split.result.0.now }) (store c.deref_mut.result.now i)) c.deref.ensures.value
    ∙ ap (λ (l : List Bit). value_after (slice_get self.codes.items i) (width_in self.design.now.signals.items i) (record { code = change.code; bits = l }) (store c.deref_mut.result.now i)) c.split.ensures.first
    ∙ ap (λ (l : List (List Bit)). value_after (slice_get self.codes.items i) (width_in self.design.now.signals.items i) (record { code = change.code; bits = take change.bits self.rest.now }) (store l i)) c.deref_mut.ensures.value)
