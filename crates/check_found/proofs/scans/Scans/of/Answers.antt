use Rattle.check_found.proofs.Kept.{listed_kept, outside_kept, written_kept}
use Rattle.check_found.proofs.scans.Scans.of.Goals as goal

pub returns-clause-scans : goal.returns-clause-scans
returns-clause-scans c =
    let design = c.args.design.now in
    let found = c.in_ok-found.found in
    let are = c.in_ok-found.ensures in
    record {
      written = written_kept design found are;
      outside = outside_kept design found are;
      listed = listed_kept design found are;
      temporaries = are.temporaries;
    }
