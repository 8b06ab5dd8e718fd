-- Files in order and by their numbers, on small cases.
use Rattle.std.proofs.Common.{◌≡◌, ℕ, List, [], ◌∷◌, codes, refl}
use Rattle.std.proofs.lemmas.List.Elements.{All-cons, All-nil}
use Rattle.std.specs.Prelude.{true}
use Rattle.rtl_tree.specs.TreeModule.{Absent, Circuit}
use Rattle.elab_lookups.specs.elab_links.declared.module_set.Lookup.TheVariants.{Found}
use Rattle.elab_lookups.specs.elab_links.declared.module_set.Place.{Place}
use Rattle.elab_names.specs.Extracts.{extract}
use Rattle.elab_names.specs.rtl_elab.Designs.{library_of}
use Rattle.desk_files.specs.Sources.{is_before}
use Rattle.source_file.specs.declared.SourceFile.{SourceFile}
use Rattle.source_file.specs.SourceFiles.{texts_in}
use Rattle.desk_memo.specs.Orders.{AreInOrder}
use Rattle.desk_answers.specs.Fresh.{names_of, sources_at}

abbrev file : List ℕ → List ℕ → SourceFile
file its_name its_text = record { name = its_name; text = its_text }

abbrev first : SourceFile
first = file (codes "a.v") (codes "1")

abbrev second : SourceFile
second = file (codes "b.v") (codes "2")

abbrev third : SourceFile
third = file (codes "c.v") (codes "3")

they_are_in_order : AreInOrder (first ∷ second ∷ [])
they_are_in_order =
    (All-cons (λ other. is_before other.name first ≡ true) second [] refl (All-nil (λ other. is_before other.name first ≡ true)), (All-nil (λ other. is_before other.name second ≡ true), tt))

those_with_the_numbers_stand_in_their_order : sources_at (0 ∷ 2 ∷ []) (first ∷ second ∷ third ∷ []) ≡ first ∷ third ∷ []
those_with_the_numbers_stand_in_their_order = refl

a_file_that_is_not_there_is_left_out : sources_at (1 ∷ 7 ∷ []) (first ∷ second ∷ []) ≡ second ∷ []
a_file_that_is_not_there_is_left_out = refl

-- a file before them has the number 0
the_same_files_by_other_numbers : sources_at (1 ∷ 2 ∷ []) (first ∷ second ∷ third ∷ []) ≡ sources_at (0 ∷ 1 ∷ []) (second ∷ third ∷ [])
the_same_files_by_other_numbers = refl

they_are_named : names_of (sources_at (1 ∷ 2 ∷ []) (first ∷ second ∷ third ∷ [])) ≡ codes "b.v" ∷ codes "c.v" ∷ []
they_are_named = refl

texts_stand_in_the_order_of_files : texts_in (first ∷ second ∷ []) ≡ codes "1" ∷ codes "2" ∷ []
texts_stand_in_the_order_of_files = refl

-- ---- numbers

-- module NAME; endmodule
abbrev module_of : List ℕ → Circuit
module_of its_name =
    record {
      at = 0;
      name = record { text = its_name; at = 0 };
      parameters = [];
      header = Absent;
      items = [];
      constructs = [];
      dropped = [];
    }

-- the first file has a module t, the second one l
abbrev modules : List (List Circuit)
modules = (module_of (codes "t") ∷ []) ∷ (module_of (codes "l") ∷ []) ∷ []

-- a top that uses the second file alone has l in its first one
its_number_among_the_used : (extract (1 ∷ []) (library_of modules)).lookups (codes "l") ≡ (let place : Place = record { file = 0; index = 0 } in Found place)
its_number_among_the_used = refl
