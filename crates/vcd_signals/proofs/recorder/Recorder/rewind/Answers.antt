use Rattle.std.specs.Vec.{with_items}
use Rattle.std.proofs.Common.{◌∙◌, refl}
use Rattle.std.proofs.lemmas.List.{with_items_is}
use Rattle.vcd_signals.proofs.Recorded.{rewound}
use Rattle.vcd_signals.proofs.recorder.Recorder.rewind.Goals as goal

pub returns-clause-recorder : goal.returns-clause-recorder
returns-clause-recorder c =
    let self = c.args.self.now in
    rewound
    (record {
      design = self.design;
      scope = self.scope;
      dump = self.dump;
      codes = self.codes;
      followers = self.followers;
      values = with_items self.values c.forget.new.values;
      applied = 0;
      rest = c.as_slice-self.result;
    })
    c.requires.codes_are c.requires.followed
    (with_items_is self.values c.forget.new.values (c.forget.auto.values ∙ c.deref_mut.ensures.len) ∙ c.forget.ensures) refl c.as_slice-self.ensures.value
