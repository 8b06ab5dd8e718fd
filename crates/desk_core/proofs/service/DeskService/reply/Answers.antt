use Rattle.desk_core.proofs.service.DeskService.reply.Goals as goal

pub returns-clause-served : goal.returns-clause-served
returns-clause-served g c = record { serves = c.serve.ensures.served; trust = c.serve.ensures.headline }
