use Rattle.std.proofs.Common.{sym}
use Rattle.std.proofs.lemmas.List.{append-nil}
use Rattle.std.proofs.lemmas.Option.{slice_get_past}
use Rattle.desk_places.specs.Places.{sources_of}
use Rattle.desk_answers.proofs.fresh.push_source.Goals as goal

pub returns-in-None : goal.returns-in-None
returns-in-None c =
    rw (slice_get_past c.args.files.now c.args.number c.in-None.ensures.lookup.3) (sym (append-nil (sources_of c.args.sources.now)))
