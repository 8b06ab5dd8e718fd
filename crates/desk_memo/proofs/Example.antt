-- When rulings hold, on small cases.
use Rattle.std.proofs.Common.{◌≡◌, ℕ, List, [], ◌∷◌, codes, refl}
use Rattle.std.specs.Prelude.{true, false, None, Some}
use Rattle.rtl_tree.specs.TreeModule.{Absent, Circuit}
use Rattle.rtl_prep.specs.Conditions.{FileConditions}
use Rattle.rtl_prep.specs.declared.conditions.Ask.{Ask}
use Rattle.check_conditions.specs.Foreign.{nothing_asked}
use Rattle.elab_lookups.specs.elab_links.Modules.{all_placed, found}
use Rattle.elab_lookups.specs.elab_links.declared.module_set.Lookup.{Lookup}
use Rattle.elab_lookups.specs.elab_links.declared.module_set.Lookup.TheVariants.{Missing, Found, Twice}
use Rattle.elab_lookups.specs.elab_links.declared.module_set.Place.{Place}
use Rattle.elab_lookups.specs.declared.look_up.LookUp.{LookUp}
use Rattle.source_file.specs.declared.SourceFile.{SourceFile}
use Rattle.desk_memo.specs.declared.answer.Answer.{Answer}
use Rattle.desk_memo.specs.Readings.{AllRead}
use Rattle.desk_memo.specs.Rulings.{Ruling, current_of, is_absent, is_current, is_meant, is_there, is_told, others_of, with_ruling}

abbrev file : List ℕ → List ℕ → SourceFile
file its_name its_text = record { name = its_name; text = its_text }

abbrev first : SourceFile
first = file (codes "a.v") (codes "1")

abbrev second : SourceFile
second = file (codes "b.v") (codes "2")

abbrev files : List SourceFile
files = first ∷ second ∷ []

-- one file more, before the others
abbrev more : List SourceFile
more = file (codes "0.v") (codes "0") ∷ files

-- module NAME; endmodule
abbrev module_of : List ℕ → Circuit
module_of its_name =
    record {
      at = 0;
      name = record { text = its_name; at = 0 };
      parameters = [];
      header = Absent;
      items = [];
      constructs = [];
      dropped = [];
    }

-- the first file has a module t, the second one l
abbrev modules : List (List Circuit)
modules = (module_of (codes "t") ∷ []) ∷ (module_of (codes "l") ∷ []) ∷ []

-- both have a module l
abbrev doubled : List (List Circuit)
doubled =
    (module_of (codes "t") ∷ module_of (codes "l") ∷ []) ∷ (module_of (codes "l") ∷ []) ∷ []

-- the file before them has a module of this name
abbrev more_modules : List ℕ → List (List Circuit)
more_modules its_name = (module_of its_name ∷ []) ∷ modules

abbrev first_in : ℕ → Lookup
first_in number = let place : Place = record { file = number; index = 0 } in Found place

abbrev meant : List ℕ → Lookup → LookUp
meant its_name lookup = record { name = its_name; meant = lookup }

-- ---- names

it_means_the_same : is_meant files modules files (meant (codes "l") (first_in 1)) ≡ true
it_means_the_same = refl

it_stands_elsewhere : is_meant files modules files (meant (codes "l") (first_in 0)) ≡ false
it_stands_elsewhere = refl

a_missing_module_is_there_now : is_meant files modules files (meant (codes "l") Missing) ≡ false
a_missing_module_is_there_now = refl

it_is_still_missing : is_meant files modules files (meant (codes "m") Missing) ≡ true
it_is_still_missing = refl

a_second_file_has_it : is_meant files doubled files (meant (codes "l") (first_in 1)) ≡ false
a_second_file_has_it = refl

two_files_have_it_still : is_meant files doubled files (meant (codes "l") Twice) ≡ true
two_files_have_it_still = refl

-- ---- numbers

-- among all files l stands in the second one
its_number_among_all : found (all_placed modules) (codes "l") ≡ first_in 1
its_number_among_all = refl

it_is_kept_with_its_number_among_the_used : is_meant files modules (second ∷ []) (meant (codes "l") (first_in 0)) ≡ true
it_is_kept_with_its_number_among_the_used = refl

and_with_no_other : is_meant files modules (second ∷ []) (meant (codes "l") (first_in 1)) ≡ false
and_with_no_other = refl

a_file_before_them_changes_no_meaning : is_meant more (more_modules (codes "x")) files (meant (codes "l") (first_in 1)) ≡ true
a_file_before_them_changes_no_meaning = refl

-- ---- files

it_is_there : is_there files second ≡ true
it_is_there = refl

it_has_another_text : is_there files (file (codes "b.v") (codes "3")) ≡ false
it_has_another_text = refl

it_has_another_number : is_there more second ≡ true
it_has_another_number = refl

it_is_gone : is_there files (file (codes "c.v") (codes "2")) ≡ false
it_is_gone = refl

-- ---- conditions

-- `ifdef FAST
abbrev asks_fast : FileConditions
asks_fast =
    let ask : Ask = record { at = 0; name = codes "FAST"; chain = 0 } in
    record { asks = ask ∷ []; chains = []; modules = []; macros = [] }

-- `define NAME
abbrev has : List ℕ → FileConditions
has its_name = record { asks = []; chains = []; modules = []; macros = its_name ∷ [] }

no_other_file_has_it : is_told files (asks_fast ∷ nothing_asked ∷ []) first (false ∷ []) ≡ true
no_other_file_has_it = refl

another_file_has_it_now : is_told files (asks_fast ∷ has (codes "FAST") ∷ []) first (false ∷ []) ≡ false
another_file_has_it_now = refl

another_file_has_it_still : is_told more (has (codes "FAST") ∷ asks_fast ∷ nothing_asked ∷ []) first (true ∷ []) ≡ true
another_file_has_it_still = refl

another_file_has_another_macro : is_told files (asks_fast ∷ has (codes "SLOW") ∷ []) first (false ∷ []) ≡ true
another_file_has_another_macro = refl

the_files_own_macro_is_no_other_files : is_told files ((record asks_fast { macros = codes "FAST" ∷ [] }) ∷ nothing_asked ∷ []) first (false ∷ []) ≡ true
the_files_own_macro_is_no_other_files = refl

a_file_that_asks_nothing_is_told_nothing : is_told files (asks_fast ∷ has (codes "FAST") ∷ []) second [] ≡ true
a_file_that_asks_nothing_is_told_nothing = refl

-- ---- rulings

-- the modules, where no condition asks anything
abbrev with_modules : List (List Circuit) → AllRead
with_modules its_modules =
    record { modules = its_modules; conditions = nothing_asked ∷ nothing_asked ∷ nothing_asked ∷ [] }

-- the modules t and l, where a condition of the first file asks for FAST
abbrev with_macros : FileConditions → AllRead
with_macros of_second = record { modules = modules; conditions = asks_fast ∷ of_second ∷ [] }

-- t, which holds l
abbrev of_t : {V : Type 0} → Answer V → Ruling V
of_t answer =
    record {
      top = codes "t";
      look_ups = meant (codes "t") (first_in 0) ∷ meant (codes "l") (first_in 1) ∷ [];
      used = files;
      elsewhere = [] ∷ [] ∷ [];
      answer = answer;
    }

-- the same, where a condition of its file asks for FAST, which no other file had
abbrev of_t_asking : {V : Type 0} → Answer V → Ruling V
of_t_asking answer = record (of_t answer) { elsewhere = (false ∷ []) ∷ [] ∷ [] }

-- t, when no file had l
abbrev of_t_alone : {V : Type 0} → Answer V → Ruling V
of_t_alone answer =
    record {
      top = codes "t";
      look_ups = meant (codes "t") (first_in 0) ∷ meant (codes "l") Missing ∷ [];
      used = first ∷ [];
      elsewhere = [] ∷ [];
      answer = answer;
    }

-- m, which no file has
abbrev of_m : {V : Type 0} → Answer V → Ruling V
of_m answer =
    record {
      top = codes "m";
      look_ups = meant (codes "m") Missing ∷ [];
      used = [];
      elsewhere = [];
      answer = answer;
    }

it_holds : {V : Type 0} (answer : Answer V) → is_current files (with_modules modules) (of_t answer) ≡ true
it_holds answer = refl

it_holds_no_more : {V : Type 0} (answer : Answer V) → is_current files (with_modules doubled) (of_t answer) ≡ false
it_holds_no_more answer = refl

it_holds_with_a_file_before_the_used : {V : Type 0} (answer : Answer V) → is_current more (with_modules (more_modules (codes "x"))) (of_t answer) ≡ true
it_holds_with_a_file_before_the_used answer = refl

but_not_where_that_has_a_module_of_it : {V : Type 0} (answer : Answer V) → is_current more (with_modules (more_modules (codes "l"))) (of_t answer) ≡ false
but_not_where_that_has_a_module_of_it answer = refl

it_holds_while_a_name_is_missing : {V : Type 0} (answer : Answer V) → is_current (first ∷ []) (with_modules ((module_of (codes "t") ∷ []) ∷ [])) (of_t_alone answer) ≡ true
it_holds_while_a_name_is_missing answer = refl

it_holds_no_more_where_the_name_is_supplied : {V : Type 0} (answer : Answer V) → is_current files (with_modules modules) (of_t_alone answer) ≡ false
it_holds_no_more_where_the_name_is_supplied answer = refl

it_holds_while_no_other_file_has_what_is_asked : {V : Type 0} (answer : Answer V) → is_current files (with_macros nothing_asked) (of_t_asking answer) ≡ true
it_holds_while_no_other_file_has_what_is_asked answer = refl

not_where_another_file_has_it_now : {V : Type 0} (answer : Answer V) → is_current files (with_macros (has (codes "FAST"))) (of_t_asking answer) ≡ false
not_where_another_file_has_it_now answer = refl

another_macro_changes_nothing : {V : Type 0} (answer : Answer V) → is_current files (with_macros (has (codes "SLOW"))) (of_t_asking answer) ≡ true
another_macro_changes_nothing answer = refl

that_of_the_top_is_found : {V : Type 0} (one other : Answer V) → current_of files (with_modules modules) (codes "t") (of_m one ∷ of_t other ∷ []) ≡ Some (of_t other)
that_of_the_top_is_found one other = refl

one_that_holds_no_more_is_not : {V : Type 0} (one other : Answer V) → current_of files (with_modules doubled) (codes "t") (of_m one ∷ of_t other ∷ []) ≡ None
one_that_holds_no_more_is_not one other = refl

others_are_of_other_tops : {V : Type 0} (one other : Answer V) → others_of (codes "t") (of_m one ∷ of_t other ∷ []) ≡ of_m one ∷ []
others_are_of_other_tops one other = refl

it_goes_in_place_of_that_of_its_top : {V : Type 0} (one other new : Answer V) → with_ruling (of_m new) (of_m one ∷ of_t other ∷ []) ≡ of_m new ∷ of_t other ∷ []
it_goes_in_place_of_that_of_its_top one other new = refl

a_missing_top_is_absent : {V : Type 0} (answer : Answer V) → is_absent (of_m answer) ≡ true
a_missing_top_is_absent answer = refl

a_top_with_a_module_is_not : {V : Type 0} (answer : Answer V) → is_absent (of_t answer) ≡ false
a_top_with_a_module_is_not answer = refl
