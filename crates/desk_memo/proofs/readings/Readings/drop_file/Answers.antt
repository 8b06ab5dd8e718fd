use Rattle.std.proofs.Common.{◌∙◌, sym}
use Rattle.desk_memo.specs.ShownReadings.{conditions_of, modules_of, readings_in, readings_of}
use Rattle.desk_memo.proofs.Known.{known_length, known_without}
use Rattle.desk_memo.proofs.MadeReadings.{held_length, same_length, vec_length}
use Rattle.desk_memo.proofs.Put.{dropped}
use Rattle.desk_memo.proofs.readings.Readings.drop_file.Goals as goal

pub remove_named-requires : goal.remove_named-requires
remove_named-requires g c =
    held_length c.args.files.now c.args.self.now.readings.items (modules_of c.args.self.now) c.requires.right
    ∙ sym c.args.self.now.readings.ok.0

pub remove_named-requires-2 : goal.remove_named-requires-2
remove_named-requires-2 g c =
    vec_length c.args.files.now (readings_of c.args.self.now) c.args.self.now.modules.items c.requires.right
    ∙ sym c.args.self.now.modules.ok.0

pub remove_named-requires-3 : goal.remove_named-requires-3
remove_named-requires-3 g c =
    same_length c.args.files.now (readings_of c.args.self.now) (modules_of c.args.self.now) c.requires.right
    ∙ known_length (readings_of c.args.self.now) (conditions_of c.args.self.now) c.requires.known
    ∙ sym c.args.self.now.conditions.ok.0

pub returns-clause-known : goal.returns-clause-known
returns-clause-known g c =
    known_without c.args.name.now c.args.files.now (readings_of c.args.self.now) (readings_in c.remove_named.new.kept.items) (conditions_of c.args.self.now) c.remove_named-3.new.kept.items c.requires.known
    (dropped c.args.name.now c.args.files.now c.args.self.now.readings.items c.remove_named.new.kept.items c.args.self.now.modules.items c.remove_named-2.new.kept.items
    (record { right = c.requires.right; flagged = c.requires.flagged }) c.remove_named.ensures.items c.remove_named-2.ensures.items).readings
    c.remove_named-3.ensures.items

pub returns-clause-readings : goal.returns-clause-readings
returns-clause-readings g c =
    (dropped c.args.name.now c.args.files.now c.args.self.now.readings.items c.remove_named.new.kept.items c.args.self.now.modules.items c.remove_named-2.new.kept.items
    (record { right = c.requires.right; flagged = c.requires.flagged }) c.remove_named.ensures.items c.remove_named-2.ensures.items).readings

pub returns-clause-modules : goal.returns-clause-modules
returns-clause-modules g c =
    (dropped c.args.name.now c.args.files.now c.args.self.now.readings.items c.remove_named.new.kept.items c.args.self.now.modules.items c.remove_named-2.new.kept.items
    (record { right = c.requires.right; flagged = c.requires.flagged }) c.remove_named.ensures.items c.remove_named-2.ensures.items).modules

pub returns-clause-right : goal.returns-clause-right
returns-clause-right g c =
    (dropped c.args.name.now c.args.files.now c.args.self.now.readings.items c.remove_named.new.kept.items c.args.self.now.modules.items c.remove_named-2.new.kept.items
    (record { right = c.requires.right; flagged = c.requires.flagged }) c.remove_named.ensures.items c.remove_named-2.ensures.items).right

pub returns-clause-flagged : goal.returns-clause-flagged
returns-clause-flagged g c =
    (dropped c.args.name.now c.args.files.now c.args.self.now.readings.items c.remove_named.new.kept.items c.args.self.now.modules.items c.remove_named-2.new.kept.items
    (record { right = c.requires.right; flagged = c.requires.flagged }) c.remove_named.ensures.items c.remove_named-2.ensures.items).flagged
