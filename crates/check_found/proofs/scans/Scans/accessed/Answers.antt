use Rattle.std.proofs.Common.{refl}
use Rattle.check_found.proofs.Kept.{accessed_kept}
use Rattle.check_found.proofs.scans.Scans.accessed.Goals as goal

pub returns-clause-accessed : goal.returns-clause-accessed
returns-clause-accessed c =
    accessed_kept c.args.self.now c.requires _ refl c.deref.ensures.value c.deref-2.ensures.value c.deref-3.ensures.value
