use Rattle.desk_server.proofs.Inputs.{gives_err, gives_ok}
use Rattle.desk_server.proofs.hear.request_heard.Goals as goal

pub returns-in-Ok-clause-heard : goal.returns-in-Ok-clause-heard
returns-in-Ok-clause-heard c = gives_ok c.in-Ok.request _ c.in-Ok.ensures

pub returns-in-Err-clause-heard : goal.returns-in-Err-clause-heard
returns-in-Err-clause-heard c = gives_err c.in-Err.fault _ c.in-Err.ensures
