use Rattle.std.proofs.Common.{List, drop}
use Rattle.std.specs.Prelude.{Vec}
use Rattle.std.specs.declared.alloc.Global.{Global}
use Rattle.rtl_flat.specs.Flats.{flat, widths}
use Rattle.event_write.specs.declared.listener.Listener.{Listener}
use Rattle.event_tables.specs.Hearing.{Hears}
use Rattle.event_tables.proofs.Hearing.{items_ear}
use Rattle.event_tables.proofs.listeners.hear_items.Given as goal

abbrev pub invariant-loop-item : goal.invariant-loop-item
invariant-loop-item l =
    (new : List (Vec Listener Global)) → Hears l.process.0 (items_ear (widths (flat l.design)) (drop l.item-index l.items)) l.listeners.items new → Hears l.fn.process.0 (items_ear (widths (flat l.fn.design)) l.fn.items) l.fn.listeners.items new
