-- What holds of maps between runs of bodies.
use Rattle.std.specs.Prelude.{◌≡◌, ◌≤◌, ◌*◌, length}
use Rattle.rtl_flat.specs.Process.{Actions}
use Rattle.rtl_flat.specs.Value.{store}
use Rattle.net_model.specs.Block.{first_maps}
use Rattle.net_body.specs.declared.maps.Maps.{Maps}
use Rattle.net_body.specs.Levels.{levels_of}
use Rattle.net_body.specs.Marks.{AreKept, maps}

-- digits of its width for each signal, and nothing written
pub record IsReady (m : Maps) : Type 0 where
  pub kept : AreKept m.design.now.signals.items m.numbers.items m.marks.items
  pub clear : maps m.numbers.items m.marks.items ≡ first_maps (store m.numbers.items)
  pub entries : 128 ≤ length m.entries.items

-- room for a body
abbrev pub HasRoom : Maps → Actions → Type 0
HasRoom m body = levels_of body * length m.design.now.signals.items ≤ length m.room.items
