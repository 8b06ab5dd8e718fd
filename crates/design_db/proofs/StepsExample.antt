-- How many steps rulings take while files come and go: what the clauses `counted`, `untouched` and `again` of `ruling` say of the
-- stores that the clauses of `put` and `drop_file` make, one after the other.
use Rattle.std.proofs.Common.{◌≡◌, ℕ, ◌+◌, List, [], ◌∷◌, codes, refl}
use Rattle.std.specs.Prelude.{Bool, false, Option, Some, None, if◌then◌else◌, is_some}
use Rattle.source_file.specs.declared.SourceFile.{SourceFile}
use Rattle.rtl_tree.specs.TreeModule.{Absent, Circuit}
use Rattle.desk_files.specs.Sources.{with_file, without_file}
use Rattle.desk_memo.specs.elab_links.declared.module_set.Lookup.TheVariants.{Found}
use Rattle.desk_memo.specs.elab_links.declared.module_set.Place.{Place}
use Rattle.desk_memo.specs.check_conditions.Foreign.{nothing_asked}
use Rattle.desk_memo.specs.rtl_prep.Conditions.{FileConditions}
use Rattle.desk_memo.specs.rtl_prep.declared.conditions.Ask.{Ask}
use Rattle.desk_memo.specs.Readings.{AllRead, changed_count, with_blank, without}
use Rattle.desk_memo.specs.Rulings.{current_answer, current_of}
use Rattle.elab_lookups.specs.declared.look_up.LookUp.{LookUp}
use Rattle.design_db.specs.Answers.{Answer, Reading, Ruling}

-- files, what was read of each last, the modules that each text defines, what its conditions ask, and the rulings
record Desk : Type 0 where
  files : List SourceFile
  readings : List (Option Reading)
  modules : List (List Circuit)
  conditions : List FileConditions
  rulings : List Ruling

abbrev file : List ℕ → List ℕ → SourceFile
file its_name its_text = record { name = its_name; text = its_text }

abbrev read : SourceFile → Option Reading
read its_file = Some (record { file = its_file; refusal = None })

-- module NAME; endmodule
abbrev module_of : List ℕ → Circuit
module_of its_name =
    record {
      at = 0;
      name = record { text = its_name; at = 0 };
      parameters = [];
      header = Absent;
      items = [];
      constructs = [];
      dropped = [];
    }

abbrev defined : Desk → AllRead
defined desk = record { modules = desk.modules; conditions = desk.conditions }

-- at most one step for each file that is new or has another text than when it was read last, and one more where no ruling of the
-- top still holds among what the texts define now
abbrev most_steps : Desk → ℕ
most_steps desk =
    changed_count desk.files desk.readings
    + (if is_some (current_of desk.files (defined desk) (codes "top") desk.rulings) then 0 else 1)

-- a file that defines one module of a name is put, and its conditions ask this
abbrev put_asking : SourceFile → List ℕ → FileConditions → Desk → Desk
put_asking its_file its_module its_conditions desk =
    record {
      files = with_file its_file desk.files;
      readings = with_blank None its_file.name desk.files desk.readings;
      modules = with_blank (module_of its_module ∷ []) its_file.name desk.files desk.modules;
      conditions = with_blank its_conditions its_file.name desk.files desk.conditions;
      rulings = desk.rulings;
    }

-- it has no conditions, and no macros
abbrev put : SourceFile → List ℕ → Desk → Desk
put its_file its_module desk = put_asking its_file its_module nothing_asked desk

abbrev drop_file : List ℕ → Desk → Desk
drop_file its_name desk =
    record {
      files = without_file its_name desk.files;
      readings = without its_name desk.files desk.readings;
      modules = without its_name desk.files desk.modules;
      conditions = without its_name desk.files desk.conditions;
      rulings = desk.rulings;
    }

-- each file was read as it is, and the ruling of the top still holds
abbrev all_read : List SourceFile → List (Option Reading)
all_read [] = []
all_read (first ∷ others) = read first ∷ all_read others

abbrev ruled : Desk → Desk
ruled desk =
    record {
      files = desk.files;
      readings = all_read desk.files;
      modules = desk.modules;
      conditions = desk.conditions;
      rulings = desk.rulings;
    }

abbrev first : SourceFile
first = file (codes "a.v") (codes "1")

abbrev second : SourceFile
second = file (codes "b.v") (codes "2")

abbrev third : SourceFile
third = file (codes "z.v") (codes "3")

abbrev meant : List ℕ → ℕ → LookUp
meant its_name number =
    let place : Place = record { file = number; index = 0 } in
    record { name = its_name; meant = Found place }

-- the top stands in a.v and holds an instance of a module of b.v; this is told of the conditions of a.v, and those of b.v ask
-- nothing
abbrev ruling_told : List Bool → Answer → Ruling
ruling_told told answer =
    record {
      top = codes "top";
      look_ups = meant (codes "top") 0 ∷ meant (codes "half") 1 ∷ [];
      used = first ∷ second ∷ [];
      elsewhere = told ∷ [] ∷ [];
      answer = answer;
    }

-- those of a.v ask nothing either
abbrev ruling : Answer → Ruling
ruling answer = ruling_told [] answer

-- three files, of which z.v has a module that the top doesn't look up, after a ruling
abbrev at_first : Answer → Desk
at_first answer =
    record {
      files = first ∷ second ∷ third ∷ [];
      readings = all_read (first ∷ second ∷ third ∷ []);
      modules = (module_of (codes "top") ∷ []) ∷ (module_of (codes "half") ∷ []) ∷ (module_of (codes "other") ∷ []) ∷ [];
      conditions = nothing_asked ∷ nothing_asked ∷ nothing_asked ∷ [];
      rulings = ruling answer ∷ [];
    }

-- z.v is put with another text
abbrev edited : Answer → Desk
edited answer = put (file (codes "z.v") (codes "3 ")) (codes "other") (at_first answer)

one : (answer : Answer) → most_steps (edited answer) ≡ 1
one answer = refl

-- a ruling after that
none : (answer : Answer) → most_steps (ruled (edited answer)) ≡ 0
none answer = refl

-- a file that comes before all others
abbrev widened : Answer → Desk
widened answer = put (file (codes "0.v") (codes "0")) (codes "zero") (ruled (edited answer))

one_again : (answer : Answer) → most_steps (widened answer) ≡ 1
one_again answer = refl

-- z.v is dropped after a ruling
abbrev narrowed : Answer → Desk
narrowed answer = drop_file (codes "z.v") (ruled (widened answer))

none_again : (answer : Answer) → most_steps (narrowed answer) ≡ 0
none_again answer = refl

-- the file that the top's instance stands in is put with another text
abbrev touched : Answer → Desk
touched answer = put (file (codes "b.v") (codes "2 ")) (codes "half") (ruled (narrowed answer))

two : (answer : Answer) → most_steps (touched answer) ≡ 2
two answer = refl

-- where no step is left to take, the answer is there
answered : (answer : Answer) → current_answer (narrowed answer).files (defined (narrowed answer)) (codes "top") (narrowed answer).rulings ≡ Some answer
answered answer = refl

-- ---- another file's macros

-- `ifdef FAST
abbrev asks_fast : FileConditions
asks_fast =
    let ask : Ask = record { at = 0; name = codes "FAST"; chain = 0 } in
    record { asks = ask ∷ []; chains = []; modules = []; macros = [] }

-- `define NAME
abbrev has : List ℕ → FileConditions
has its_name = record { asks = []; chains = []; modules = []; macros = its_name ∷ [] }

-- a condition of a.v asks for FAST, which no file had when the top was ruled
abbrev asking : Answer → Desk
asking answer =
    record {
      files = first ∷ second ∷ third ∷ [];
      readings = all_read (first ∷ second ∷ third ∷ []);
      modules = (at_first answer).modules;
      conditions = asks_fast ∷ nothing_asked ∷ nothing_asked ∷ [];
      rulings = ruling_told (false ∷ []) answer ∷ [];
    }

-- a file that has a macro of a name is put
abbrev put_macro : List ℕ → Desk → Desk
put_macro its_name desk = put_asking (file (codes "m.v") (codes "4")) (codes "more") (has its_name) desk

the_top_is_ruled_again_where_a_file_has_it_now : (answer : Answer) → most_steps (put_macro (codes "FAST") (asking answer)) ≡ 2
the_top_is_ruled_again_where_a_file_has_it_now answer = refl

not_where_a_file_has_another_macro : (answer : Answer) → most_steps (put_macro (codes "SLOW") (asking answer)) ≡ 1
not_where_a_file_has_another_macro answer = refl

nor_where_no_condition_asks_for_it : (answer : Answer) → most_steps (put_macro (codes "FAST") (at_first answer)) ≡ 1
nor_where_no_condition_asks_for_it answer = refl
