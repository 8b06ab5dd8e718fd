-- What the parser says of the first 16,384 bytes holds of all of them.
use Rattle.std.proofs.Common.{inr, arith, subst}
use Rattle.httparse.specs.Grammar.{HasNoRequest}
use Rattle.httparse.specs.Spans.{RequestOverflows}
use Rattle.desk_http.proofs.Fronts.{never_full, never_room, no_head, no_room, shows}
use Rattle.desk_http.proofs.head.read_head.Goals as goal

pub served-requires : goal.served-requires
served-requires c =
    let it = rw c.in-Ok-Complete.field-0-is at c.in-Ok-Complete.ensures.complete in
    shows c.args.bytes.now _ it.0 c.front_of-front.ensures (omega arith) it.1

pub unfinished-requires-clause-now : goal.unfinished-requires-clause-now
unfinished-requires-clause-now c =
    let none = rw c.in-Ok-Partial.field-0-is at c.in-Ok-Partial.ensures.partial in
    no_head c.args.bytes.now (subst HasNoRequest c.front_of-front.ensures none)

pub unfinished-requires-clause-later : goal.unfinished-requires-clause-later
unfinished-requires-clause-later c =
    let none = rw c.in-Ok-Partial.field-0-is at c.in-Ok-Partial.ensures.partial in
    λ full. never_full c.args.bytes.now full (subst HasNoRequest c.front_of-front.ensures none)

pub unfinished-requires-in-Err-TooManyHeaders-clause-now :
    goal.unfinished-requires-in-Err-TooManyHeaders-clause-now
unfinished-requires-in-Err-TooManyHeaders-clause-now c =
    no_room c.args.bytes.now
    (subst (RequestOverflows 64) c.front_of-front.ensures c.in-Err-TooManyHeaders.ensures.no_room)

pub unfinished-requires-in-Err-TooManyHeaders-clause-later :
    goal.unfinished-requires-in-Err-TooManyHeaders-clause-later
unfinished-requires-in-Err-TooManyHeaders-clause-later c =
    λ _. never_room c.args.bytes.now
    (subst (RequestOverflows 64) c.front_of-front.ensures c.in-Err-TooManyHeaders.ensures.no_room)

pub returns-in-Err : goal.returns-in-Err
returns-in-Err c =
    inr (never_room c.args.bytes.now
    (subst (RequestOverflows 64) c.front_of-front.ensures c.in-Err.ensures.no_room))
