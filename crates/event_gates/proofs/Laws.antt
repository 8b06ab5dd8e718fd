-- The laws of gates, as they are stated.
use Rattle.rtl_flat.specs.Flats.{Flat}
use Rattle.event_edges.specs.event_laws.Steady.{AreLawful}
use Rattle.event_edges.specs.Synchronous.{IsSynchronous}
use Rattle.event_gates.specs.Closing.{Closes}
use Rattle.event_gates.specs.Fixed.{BesideFixes, MovesFix, RestIsFixed, RunsFix}
use Rattle.event_gates.proofs.Closing as closing
use Rattle.event_gates.proofs.Fixed as fixed

pub closes : (d : Flat) → IsSynchronous d → Closes d
closes d sync c b shutter s rest wide events can = closing.closes d sync c b shutter s rest wide events can

pub rest_fixed : (d : Flat) → AreLawful d → RestIsFixed d
rest_fixed d lawful c s rest step others = fixed.rest_fixed d lawful c s rest step others

pub runs_fix : (d : Flat) → AreLawful d → RunsFix d
runs_fix d lawful c fed s order fix events can = fixed.runs_fix d lawful c fed s events order fix can

pub moves_fix : (d : Flat) → AreLawful d → MovesFix d
moves_fix d lawful c fed s order fix moves can = fixed.moves_fix d lawful c fed s moves order fix can

pub beside_fixes : (d : Flat) → AreLawful d → BesideFixes d
beside_fixes d lawful c fed s order fix t way others = fixed.beside_fixes d lawful c fed s t order fix way others
