-- It serves inner contracts and proofs; no answer of the program is stated by it.
-- What the desk's files show with what was read of them and the rulings that are kept.
use Rattle.std.specs.Prelude.{min}
use Rattle.desk_files.specs.Shown.{list_of, room}
use Rattle.desk_files.specs.declared.files.Files.{Files}
use Rattle.desk_memo.specs.ShownReadings.{AreFlagged, conditions_of, held_modules_of, read_of, readings_of, room_of}
use Rattle.desk_memo.specs.declared.readings.Readings as readings
use Rattle.desk_memo.specs.Shown.{AreChecked, absent_of, rulings_of}
use Rattle.desk_memo.specs.declared.memo.Memo as memo
use Rattle.desk_verdict.specs.declared.verdict.Verdict.{Verdict}
use Rattle.design_db.specs.Stores.{IsStore, Store}

-- what was read of files, as the code holds it
abbrev pub Readings : Type 0
Readings = readings.Readings Verdict

-- the rulings, as the code holds them
abbrev pub Memo : Type 0
Memo = memo.Memo Verdict

abbrev pub store : Files → Readings → Memo → Store
store files readings memo = record {
  files = list_of files;
  room = min (room files) (room_of readings);
  readings = readings_of readings;
  modules = held_modules_of readings;
  conditions = conditions_of readings;
  rulings = rulings_of memo;
  absent = absent_of memo;
}

-- what is kept is right, and so are the flags by which it is known without a look at a text
pub record IsWhole (files : Files) (readings : Readings) (memo : Memo) : Type 0 where
  pub store : IsStore (store files readings memo)
  pub flagged : AreFlagged (list_of files) readings
  pub checked : AreChecked (list_of files) (read_of readings) memo
