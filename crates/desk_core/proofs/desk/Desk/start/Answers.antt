use Rattle.std.specs.Prelude.{Err}
use Rattle.desk_tables.specs.Tables.{kept_of}
use Rattle.desk_core.specs.declared.start.StartFault.TheVariants.{Keeper, Memory}
use Rattle.desk_core.proofs.Started.{starts_any, starts_over}
use Rattle.desk_core.proofs.desk.Desk.start.Goals as goal

pub returns-in-Ok-clause-started : goal.returns-in-Ok-clause-started
returns-in-Ok-clause-started g c =
    starts_over (g.K.Keeper.tables c.args.keeper.now) (kept_of c.in-Ok.tables) c.start_over.result c.in-Ok.ensures.told c.start_over.ensures.over

pub returns-in-Err-Failed-clause-started : goal.returns-in-Err-Failed-clause-started
returns-in-Err-Failed-clause-started g c =
    starts_any (g.K.Keeper.tables c.args.keeper.now) (Err Keeper) (λ held. tt)

pub returns-in-Err-Memory-clause-started : goal.returns-in-Err-Memory-clause-started
returns-in-Err-Memory-clause-started g c =
    starts_any (g.K.Keeper.tables c.args.keeper.now) (Err Memory) (λ held. tt)
