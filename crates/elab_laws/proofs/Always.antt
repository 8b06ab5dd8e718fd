-- What `always` is in the design.
use Rattle.std.proofs.Common.{◌∙◌}
use Rattle.elab_laws.specs.Laws.{BodyLaw, CombLaw, CountLaw, EdgeLaw, EventsLaw, LimitLaw, TurnLaw}
use Rattle.elab_laws.proofs.Bodies.{body_made}
use Rattle.elab_laws.proofs.Lists.{edges_are, events_lawful, list_lawful}
use Rattle.elab_laws.proofs.Steps.{checked_count, checked_delays, checked_faultless, checked_nodes}
use Rattle.elab_laws.proofs.Turns.{indexed_scope}

pub events : EventsLaw
events file base scope signals d items h is =
    (events_lawful file base scope signals d items h, edges_are file base scope items ∙ is)

pub turn : TurnLaw
turn base scope signals d name number = indexed_scope base signals scope name number d

pub body : BodyLaw
body file base scope signals d written h = (body_made file base signals written scope d h).body

pub count : CountLaw
count file base scope signals d written h = (body_made file base signals written scope d h).count

pub limit : LimitLaw
limit statements delays nodes all h =
    (checked_faultless statements delays nodes all h, checked_count statements delays nodes all h, checked_delays statements delays nodes all h, checked_nodes statements delays nodes all h)

pub comb : CombLaw
comb file base scope signals d list written h is none =
    (list_lawful file base scope signals d list h is, body file base scope signals d written none)

pub edge : EdgeLaw
edge file base scope signals d items written h is none =
    let all = events file base scope signals d items h is in
    (all.0, all.1, body file base scope signals d written none)
