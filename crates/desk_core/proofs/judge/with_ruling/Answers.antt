use Rattle.desk_core.proofs.Named.{seen_short}
use Rattle.desk_core.proofs.judge.with_ruling.Goals as goal

pub waive-requires-clause-short : goal.waive-requires-clause-short
waive-requires-clause-short c = seen_short c.args.ruled.now.files.now c.requires.short
