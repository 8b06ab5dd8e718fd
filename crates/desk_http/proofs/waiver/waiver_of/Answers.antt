use Rattle.std.proofs.Common.{◌≡◌, Option, true, false, sym, ap, subst}
use Rattle.serde_json.specs.View.{view}
use Rattle.desk_requests.specs.declared.ask.WaiverAsk.{WaiverAsk}
use Rattle.desk_http.specs.Gives.{Gives, or_malformed}
use Rattle.desk_http.proofs.Bodies.{heard, unread}
use Rattle.desk_http.proofs.waiver.waiver_of.Goals as goal

pub returns-in-Ok : goal.returns-in-Ok
returns-in-Ok c =
    subst (λ (o : Option WaiverAsk). Gives c.waiver_in.result (or_malformed o))
    (sym (heard c.args.body.now (view c.in-Ok.value) c.in-Ok.ensures.ok.0 c.in-Ok.ensures.ok.1)) c.waiver_in.ensures

pub returns-in-Err-2 : goal.returns-in-Err-2
returns-in-Err-2 c = ap or_malformed (unread c.args.body.now (c.in-Err.ensures.err (λ memory. let no : false ≡ true = c.if-is_memory.ensures.1 memory in cc)))
