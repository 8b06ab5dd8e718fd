use Rattle.std.proofs.Common.{ℕ, refl, subst, length, List}
use Rattle.std.specs.Prelude.{Option}
use Rattle.vcd_signals.specs.Recording.{AreFollowed}
use Rattle.vcd_signals.proofs.Recorded.{rewound}
use Rattle.vcd_signals.proofs.recorder.Recorder.new.Goals as goal

pub returns-clause-recorder : goal.returns-clause-recorder
returns-clause-recorder c =
    rewound
    (record {
      design = c.args.design;
      scope = c.args.scope;
      dump = c.args.dump;
      codes = c.in_ok-codes.codes;
      followers = c.in_ok-followers.followers;
      values = c.in_ok-values.values;
      applied = 0;
      rest = c.as_slice.result;
    })
    c.in_ok-codes.ensures (subst (λ (l : List (Option ℕ)). AreFollowed c.in_ok-followers.followers.items l (length l)) c.deref.ensures.value c.in_ok-followers.ensures) c.in_ok-values.ensures refl c.as_slice.ensures.value
