use Rattle.desk_steps.specs.Names.{names_of}
use Rattle.desk_steps.proofs.Fitting.{read_fits}
use Rattle.desk_steps.proofs.file.read_steps.Goals as goal

pub returns-clause-fitting : goal.returns-clause-fitting
returns-clause-fitting c =
    read_fits c.args.design.now (names_of c.in_ok-names.names) c.args.text.now c.read_with.result c.in_ok-names.ensures c.read_with.ensures.read
