use Rattle.std.proofs.Common.{refl}
use Rattle.rtl_scan.proofs.Feeding.{accessed_are}
use Rattle.rtl_scan.proofs.feeds.arrows.Goals as goal

pub arrows-requires : goal.arrows-requires
arrows-requires c =
    accessed_are c.args.design.now c.in_ok-found.found c.in_ok-found.ensures _ refl c.deref.ensures.value c.deref-2.ensures.value c.deref-3.ensures.value
