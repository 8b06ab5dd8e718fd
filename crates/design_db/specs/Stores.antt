-- The files of the desk with what was read of them and the rulings: what contracts see.
-- Worked examples: proofs/Example.antt, crates/tests_serving/stdin.
use Rattle.std.specs.Prelude.{ℕ, ◌≡◌, ◌==◌, List, ◌++◌, Option, Some, None, if◌then◌else◌, option_to_list, Vec}
use Rattle.std.specs.List.{All}
use Rattle.std.specs.declared.alloc.Global.{Global}
use Rattle.rtl_tree.specs.TreeModule.{Circuit}
use Rattle.desk_memo.specs.rtl_prep.Conditions.{FileConditions}
use Rattle.rtl_tree.specs.declared.tree.modules.Module.{Module}
use Rattle.desk_memo.specs.elab_links.Modules.{circuits_of}
use Rattle.source_file.specs.declared.SourceFile.{SourceFile}
use Rattle.desk_memo.specs.Orders.{AreInOrder}
use Rattle.source_file.specs.SourceFiles.{AreShort}
use Rattle.desk_memo.specs.Readings.{AllRead, AreKnown, AreReadings, changed_count, first_refusal}
use Rattle.desk_memo.specs.Rulings.{current_answer, is_absent, with_ruling}
use Rattle.design_db.specs.Answers.{Answer, IsRuling, Reading, Ruling}

-- the files in the order of their names, for how many more of them there is room, of each file what
-- was read last, its modules and what its conditions ask, the rulings that are kept, and that of the
-- last top that no module or more than one is named by
pub record Store : Type 0 where
  pub files : List SourceFile
  pub room : ℕ
  pub readings : List (Option Reading)
  pub modules : List (Vec Module Global)
  pub conditions : List FileConditions
  pub rulings : List Ruling
  pub absent : Option Ruling

-- of each file its modules
abbrev pub circuits_in : Store → List (List Circuit)
circuits_in store = circuits_of store.modules

-- of each file its modules and what its conditions ask
abbrev pub read_in : Store → AllRead
read_in store = record { modules = circuits_in store; conditions = store.conditions }

abbrev pub all_rulings : Store → List Ruling
all_rulings store = store.rulings ++ option_to_list store.absent

-- the files are in order, what is kept of them is right, and so is each ruling
pub record IsStore (store : Store) : Type 0 where
  pub in_order : AreInOrder store.files
  pub short : AreShort store.files
  pub readings : AreReadings store.files store.readings (circuits_in store)
  pub known : AreKnown store.readings store.conditions
  pub rulings : All IsRuling (all_rulings store)

-- how many files are new, or have another text than when they were read last
abbrev pub changed_in : Store → ℕ
changed_in store = changed_count store.files store.readings

abbrev pub refusal_or : Option Answer → Option Answer → Option Answer
refusal_or None answer = answer
refusal_or (Some refusal) answer = Some refusal

-- the answer for a top among some rulings: where no text has changed, the refusal of the first file
-- that spells no modules, or else the ruling of the top that still holds
abbrev pub answer_among : List Ruling → Store → List ℕ → Option Answer
answer_among rulings store top =
    if changed_in store == 0
    then refusal_or (first_refusal store.readings)
    (current_answer store.files (read_in store) top rulings)
    else None

abbrev pub answer_of : Store → List ℕ → Option Answer
answer_of store = answer_among (all_rulings store) store

-- the answer that stays when other tops are asked for: not that of the last absent top
abbrev pub lasting_answer : Store → List ℕ → Option Answer
lasting_answer store = answer_among store.rulings store

-- of the rulings, and that of the last absent top, nothing goes but what one of a top takes the place
-- of: that of its top, or, where no module or more than one is named by it, the last such
pub data KeepsRulings (top : List ℕ) (olds : List Ruling) (old : Option Ruling) (news : List Ruling) (new : Option Ruling) : Type 0 where
  Stays : news ≡ olds → new ≡ old → KeepsRulings top olds old news new
  Puts :
      (ruling : Ruling) → ruling.top ≡ top →
      news ≡ (if is_absent ruling then olds else with_ruling ruling olds) →
      new ≡ (if is_absent ruling then Some ruling else old) → KeepsRulings top olds old news new
