use Rattle.std.proofs.Common.{ap}
use Rattle.desk_io.proofs.Readings.{reading-front}
use Rattle.desk_io.proofs.shelf.lengths.read_whole.Goals as goal

pub returns-in-Ok-clause-reading : goal.returns-in-Ok-clause-reading
returns-in-Ok-clause-reading g c =
    reading-front c.take-front.result.limit _ _ _ c.read_to_end.new.buf.items c.at_most.result c.take-front.ensures.limit (ap g.R.Read.remaining c.take-front.ensures.inner) c.new-bytes.ensures.items c.in-Ok.ensures.bytes c.at_most.ensures.reading
