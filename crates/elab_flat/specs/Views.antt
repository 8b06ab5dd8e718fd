-- It serves inner contracts and proofs; no answer of the program is stated by it.
-- What the code makes, as contracts see it.
use Rattle.std.specs.Prelude.{[], map}
use Rattle.rtl_flat.specs.Process.{task}
use Rattle.elab_flat.specs.declared.flat.DesignParts.{DesignParts as Kept}
use Rattle.elab_flat.specs.declared.works.Works.{Works as Made}
use Rattle.rtl_flat.specs.Flats.{DesignParts}
use Rattle.elab_flat.specs.Works.{Works}

abbrev pub works : Made → Works
works made = record { tasks = map task made.processes.items; delays = made.delays.items }

abbrev pub flat : Kept → DesignParts
flat made =
    record {
      parts = record {
        flat = record {
          signals = made.signals.items;
          tasks = map task made.works.processes.items;
        };
        delays = made.works.delays.items;
        dropped = made.dropped.items;
        notes = [];
      };
      instances = made.instances.items;
    }
