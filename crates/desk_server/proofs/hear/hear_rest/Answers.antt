use Rattle.std.proofs.Common.{rules}
use Rattle.std.proofs.lemmas.List.{take_rest}
use Rattle.desk_server.proofs.Inviting.{bad_heard, long_heard, more_heard, rest_heard}
use Rattle.desk_server.proofs.hear.hear_rest.Goals as goal

pub returns-then-body-gt-MAX_BODY_BYTES-clause-heard : goal.returns-then-body-gt-MAX_BODY_BYTES-clause-heard
returns-then-body-gt-MAX_BODY_BYTES-clause-heard g c =
    long_heard (g.L.Link.talk c.args.link.now) c.args.bytes.now c.in-Ready.head c.in-Ready.used c.in-Ready.body
    c.in-Ready.ensures c.if-body-gt-MAX_BODY_BYTES.true

pub returns-else-body-gt-MAX_BODY_BYTES-clause-heard : goal.returns-else-body-gt-MAX_BODY_BYTES-clause-heard
returns-else-body-gt-MAX_BODY_BYTES-clause-heard g c =
    rest_heard (g.L.Link.talk c.args.link.now) (g.L.Link.talk c.hear_invited.new.link) c.hear_invited.result
    c.args.bytes.now _ c.in-Ready.head c.in-Ready.used c.in-Ready.body c.in-Ready.ensures
    c.if-body-gt-MAX_BODY_BYTES.false c.hear_invited.ensures.asked (search (rules, take_rest))

pub returns-in-More-clause-heard : goal.returns-in-More-clause-heard
returns-in-More-clause-heard g c =
    more_heard (g.L.Link.talk c.args.link.now) c.args.bytes.now c.in-More.ensures.1 c.requires

pub returns-in-Bad-clause-heard : goal.returns-in-Bad-clause-heard
returns-in-Bad-clause-heard g c =
    bad_heard (g.L.Link.talk c.args.link.now) c.args.bytes.now c.in-Bad.ensures
