use Rattle.std.proofs.Common.{◌∙◌, ◌++◌, List, ℕ, ap}
use Rattle.demo_trials.specs.Demos.{demo_text}
use Rattle.desk_demo.specs.Files.{NoLine, NoSignal}
use Rattle.desk_demo.proofs.Feeds.{demo_is_line, first_line, none_there}
use Rattle.desk_demo.proofs.file.read_file.Goals as goal

pub returns-in_default-clause-malformed : goal.returns-in_default-clause-malformed
returns-in_default-clause-malformed c =
    NoLine (λ rest begins.
    let one = demo_is_line begins.trial begins.step begins.path begins.is_demo in
    let same = first_line c.args.text.now c.split_line.result.0.now c.split_line.result.1.now (demo_text begins.trial begins.step begins.path) rest c.split_line.ensures.whole c.split_line.ensures.first one begins.parts in
    c.in_default.ensures.malformed begins.trial begins.step begins.path begins.is_demo same.0)

pub returns-in_default-signal_of-clause-malformed : goal.returns-in_default-signal_of-clause-malformed
returns-in_default-signal_of-clause-malformed c =
    let rest = c.split_line.result.1.now in
    NoSignal (record {
      rest = rest;
      begins = record {
        trial = c.in-Some.told.trial.number;
        step = c.in-Some.told.step;
        path = c.in-Some.told.path.now;
        is_demo = c.in-Some.ensures.within;
        parts = c.split_line.ensures.whole ∙ ap (λ (line : List ℕ). line ++ rest) c.in-Some.ensures.read;
      };
      no_signal = none_there _ _ c.in_default-signal_of.ensures;
    })
