use Rattle.std.specs.Prelude.{map}
use Rattle.std.specs.Option.{option_map}
use Rattle.std.proofs.Common.{◌∙◌, ap}
use Rattle.rtl_tree.specs.TreeModule.{circuit}
use Rattle.elab_scope.specs.Faults.{refusal}
use Rattle.elab_scope.specs.Names.{meanings}
use Rattle.elab_items.specs.Declarations.{declaration}
use Rattle.elab_items.specs.Settings.{settings_of}
use Rattle.elab_items.proofs.Declaring.{best_declared, names_declared, signals_declared}
use Rattle.elab_items.proofs.declare.declare.Goals as goal

pub returns-clause-names : goal.returns-clause-names
returns-clause-names c =
    names_declared c.declare_entries.result (settings_of c.args.overrides.now) (map declaration c.as_slice-entries.result.now) (circuit c.args.written.now) (meanings c.in_ok-numbered.numbered.names)
    (ap (map declaration) c.as_slice-entries.ensures.value ∙ c.in_ok-made.ensures)
    c.in_ok-numbered.ensures.names
    c.declare_entries.ensures.names

pub returns-clause-signals : goal.returns-clause-signals
returns-clause-signals c =
    signals_declared c.declare_entries.result (settings_of c.args.overrides.now) (map declaration c.as_slice-entries.result.now) (circuit c.args.written.now) (meanings c.in_ok-numbered.numbered.names)
    (ap (map declaration) c.as_slice-entries.ensures.value ∙ c.in_ok-made.ensures)
    c.in_ok-numbered.ensures.names
    c.declare_entries.ensures.signals

pub returns-clause-best : goal.returns-clause-best
returns-clause-best c =
    best_declared c.declare_entries.result (settings_of c.args.overrides.now) c.args.base (map declaration c.as_slice-entries.result.now) (circuit c.args.written.now) (meanings c.in_ok-numbered.numbered.names) (option_map refusal c.args.best) (option_map refusal c.in_ok-numbered.numbered.best)
    (ap (map declaration) c.as_slice-entries.ensures.value ∙ c.in_ok-made.ensures)
    c.in_ok-numbered.ensures.names
    c.in_ok-numbered.ensures.best
    c.declare_entries.ensures.best
