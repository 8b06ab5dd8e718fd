-- Files by their numbers, one by one.
use Rattle.std.proofs.Common.{◌≡◌, ◌∙◌, ◌+◌, ◌<◌, ◌≤◌, ℕ, zero, suc, Bool, true, false, List, [], ◌∷◌, length, get_or, ap, arith, refl, subst, sym}
use Rattle.std.specs.Prelude.{⊤, ◌==◌, bytes_eq, find, if◌then◌else◌, Option, Some, slice_get, slice_index_or}
use Rattle.std.specs.List.{All, Contains, cons_option, list_all}
use Rattle.std.specs.List.Sorted.{IsStrictlyIncreasing}
use Rattle.std.specs.Option.{option_map}
use Rattle.std.proofs.lemmas.Bool.{and_from, and_parts}
use Rattle.std.proofs.lemmas.Bool.Decides.{Decides-eqb}
use Rattle.std.proofs.lemmas.List.Elements.{All-append, All-cons, All-head, All-nil, All-tail}
use Rattle.std.proofs.lemmas.Option.{get_or_from_slice_get, slice_get-get_or, slice_get-map}
use Rattle.std.proofs.lemmas.Slice.Eq.{bytes_eq-Decides}
use Rattle.rtl_tree.specs.TreeModule.{Circuit}
use Rattle.rtl_front.specs.Fronts.{AreRead, AreSpelled, IsRead}
use Rattle.elab_names.specs.elab_links.Modules.{Placed, all_placed, found, placed_from, placed_in, with_another}
use Rattle.elab_names.specs.elab_links.declared.module_set.Lookup.{Lookup}
use Rattle.elab_names.specs.elab_links.declared.module_set.Lookup.TheVariants.{Missing, Found, Twice}
use Rattle.elab_names.specs.elab_links.declared.module_set.Place.{Place}
use Rattle.elab_names.specs.Extracts.{files_at, place_in}
use Rattle.elab_names.specs.LookUps.{AreUsed}
use Rattle.elab_names.specs.rtl_elab.Designs.{library_of}
use Rattle.desk_files.specs.Sources.{is_named}
use Rattle.source_file.specs.declared.SourceFile.{SourceFile}
use Rattle.source_file.specs.SourceFiles.{texts_in}
use Rattle.desk_answers.specs.Fresh.{sources_at}
use Rattle.desk_memo.specs.Orders.{AreInOrder}
use Rattle.desk_memo.specs.Rulings.{is_same_text, is_there}
use Rattle.desk_memo.proofs.Among.{file_there, first_among, later_among, other_at, read_at}
use Rattle.desk_answers.proofs.Ordered.{found_itself, later_place, ordered}

-- each file has its number
abbrev pub AreAt : List SourceFile → List ℕ → List SourceFile → Type 0
AreAt files [] [] = ⊤
AreAt files (number ∷ numbers) (file ∷ used) =
    (slice_get files number ≡ Some file) × AreAt files numbers used
AreAt _ _ _ = ⊥

pub sources_are : (files : List SourceFile) (numbers : List ℕ) (used : List SourceFile) → AreAt files numbers used → sources_at numbers files ≡ used
sources_are files [] [] at = refl
sources_are files [] (file ∷ used) at = absurd at
sources_are files (number ∷ numbers) [] at = absurd at
sources_are files (number ∷ numbers) (file ∷ used) at =
    ap (λ (it : Option SourceFile). cons_option it (sources_at numbers files)) at.0
    ∙ ap (λ (it : List SourceFile). file ∷ it) (sources_are files numbers used at.1)

pub same_count : (files : List SourceFile) (numbers : List ℕ) (used : List SourceFile) → AreAt files numbers used → length numbers ≡ length used
same_count files [] [] at = refl
same_count files [] (file ∷ used) at = absurd at
same_count files (number ∷ numbers) [] at = absurd at
same_count files (number ∷ numbers) (file ∷ used) at =
    let rest = same_count files numbers used at.1 in omega (arith, rest)

-- a file by its number among those that are used
pub file_in : (files : List SourceFile) (numbers : List ℕ) (used : List SourceFile) (place : ℕ) (file : SourceFile) → AreAt files numbers used → slice_get used place ≡ Some file → slice_get files (slice_index_or numbers place 0) ≡ Some file
file_in files [] [] place file at there = absurd (cc)
file_in files [] (first ∷ used) place file at there = absurd at
file_in files (number ∷ numbers) [] place file at there = absurd at
file_in files (number ∷ numbers) (first ∷ used) zero file at there = at.0 ∙ there
file_in files (number ∷ numbers) (first ∷ used) (suc place) file at there =
    file_in files numbers used place file at.1 there

-- a file by its number among all
pub record StandsAt (files : List SourceFile) (numbers : List ℕ) (used : List SourceFile) (number : ℕ) : Type 0 where
  pub file : SourceFile
  pub among_all : slice_get files number ≡ Some file
  pub among_used : slice_get used (place_in numbers number) ≡ Some file

among_at : (first number : ℕ) (numbers : List ℕ) → (first == number) ≡ false → (place : ℕ) → place < length (first ∷ numbers) → slice_index_or (first ∷ numbers) place number ≡ number → Contains numbers number
among_at first number numbers other zero within is =
    let same = (Decides-eqb first number).1 is in absurd (cc)
among_at first number numbers other (suc place) within is = (place, omega arith, is)

among_rest : (first number : ℕ) (numbers : List ℕ) → (first == number) ≡ false → Contains (first ∷ numbers) number → Contains numbers number
among_rest first number numbers other among = among_at first number numbers other among.0 among.1 among.2

stands_by : (files : List SourceFile) (first : ℕ) (numbers : List ℕ) (file : SourceFile) (used : List SourceFile) (number : ℕ) (same : Bool) → (first == number) ≡ same → slice_get files first ≡ Some file → (same ≡ false → StandsAt files numbers used number) → StandsAt files (first ∷ numbers) (file ∷ used) number
stands_by files first numbers file used number true is at rest =
    record {
      file = file;
      among_all = ap (slice_get files) (sym ((Decides-eqb first number).0 is)) ∙ at;
      among_used = ap (λ (it : Bool). slice_get (file ∷ used) (if it then 0 else place_in numbers number + 1)) is;
    }
stands_by files first numbers file used number false is at rest =
    let later = rest refl in
    let next : place_in numbers number + 1 ≡ suc (place_in numbers number) = omega arith in
    record {
      file = later.file;
      among_all = later.among_all;
      among_used =
          ap (λ (it : Bool). slice_get (file ∷ used) (if it then 0 else place_in numbers number + 1)) is
          ∙ ap (λ (it : ℕ). slice_get (file ∷ used) it) next ∙ later.among_used;
    }

pub stands_at : (files : List SourceFile) (numbers : List ℕ) (used : List SourceFile) (number : ℕ) → AreAt files numbers used → Contains numbers number → StandsAt files numbers used number
stands_at files [] [] number at among = absurd (omega (arith, among.1))
stands_at files [] (file ∷ used) number at among = absurd at
stands_at files (first ∷ numbers) [] number at among = absurd at
stands_at files (first ∷ numbers) (file ∷ used) number at among =
    stands_by files first numbers file used number (first == number) refl at.0
    (λ other. stands_at files numbers used number at.1 (among_rest first number numbers other among))

-- ---- in order

at_place : (files : List SourceFile) (numbers : List ℕ) (used : List SourceFile) (place : ℕ) (d : SourceFile) → AreAt files numbers used → place < length used → slice_get files (slice_index_or numbers place 0) ≡ Some (get_or used place d)
at_place files numbers used place d at within =
    file_in files numbers used place (get_or used place d) at (slice_get-get_or used place d within)

ascending_by : (files others : List SourceFile) (numbers places : List ℕ) (used : List SourceFile) (place : ℕ) (d : SourceFile) → AreInOrder files → AreInOrder others → AreAt files numbers used → AreAt others places used → IsStrictlyIncreasing numbers → place + 1 < length used → slice_index_or places place 0 < slice_index_or places (place + 1) 0
ascending_by files others numbers places used place d order other_order at other_at less within =
    let count = same_count files numbers used at in
    later_place others (slice_index_or places place 0) (slice_index_or places (place + 1) 0) (get_or used place d) (get_or used (place + 1) d) other_order
    (at_place others places used place d other_at (omega arith))
    (at_place others places used (place + 1) d other_at within)
    (ordered files (slice_index_or numbers place 0) (slice_index_or numbers (place + 1) 0) (get_or used place d) (get_or used (place + 1) d) order
    (less place (omega (arith, count)))
    (at_place files numbers used place d at (omega arith))
    (at_place files numbers used (place + 1) d at within))

-- numbers of the same files ascend where those of other files in order do
pub ascending : (files others : List SourceFile) (numbers places : List ℕ) (used : List SourceFile) → AreInOrder files → AreInOrder others → AreAt files numbers used → AreAt others places used → IsStrictlyIncreasing numbers → IsStrictlyIncreasing places
ascending files others numbers places [] order other_order at other_at less place within =
    let count = same_count others places [] other_at in absurd (omega (arith, count))
ascending files others numbers places (file ∷ used) order other_order at other_at less place within =
    let count = same_count others places (file ∷ used) other_at in
    ascending_by files others numbers places (file ∷ used) place file order other_order at other_at less (omega (arith, count))

-- ---- files that are there

same_file : (file used : SourceFile) → bytes_eq file.name used.name ≡ true → bytes_eq file.text used.text ≡ true → file ≡ used
same_file file used name text =
    ap (λ (it : List ℕ). let made : SourceFile = record { name = it; text = file.text } in made) ((bytes_eq-Decides file.name used.name).0 name)
    ∙ ap (λ (it : List ℕ). let made : SourceFile = record { name = used.name; text = it } in made) ((bytes_eq-Decides file.text used.text).0 text)

there_by : (file : SourceFile) (files : List SourceFile) (used : SourceFile) (named : Bool) → is_named used.name file ≡ named → is_same_text (if named then Some file else find (is_named used.name) files) used ≡ true → (is_there files used ≡ true → (number : ℕ) × (slice_get files number ≡ Some used)) → (number : ℕ) × (slice_get (file ∷ files) number ≡ Some used)
there_by file files used true is there rest =
    (0, ap (λ (it : SourceFile). Some it) (same_file file used is there))
there_by file files used false is there rest =
    let later = rest there in (suc later.0, later.1)

-- the file of its name is the one that was used
there_at : (files : List SourceFile) (used : SourceFile) → is_there files used ≡ true → (number : ℕ) × (slice_get files number ≡ Some used)
there_at [] used there = absurd (cc)
there_at (file ∷ files) used there =
    there_by file files used (is_named used.name file) refl there (there_at files used)

pub are_at : (files used : List SourceFile) → list_all (is_there files) used ≡ true → (numbers : List ℕ) × AreAt files numbers used
are_at files [] there = ([], tt)
are_at files (file ∷ used) there =
    let parts = and_parts (is_there files file) (list_all (is_there files) used) there in
    let first = there_at files file parts.0 in
    let rest = are_at files used parts.1 in
    (first.0 ∷ rest.0, (first.1, rest.1))

there_itself : (files : List SourceFile) (number : ℕ) (file : SourceFile) → AreInOrder files → slice_get files number ≡ Some file → is_there files file ≡ true
there_itself files number file order at =
    ap (λ (it : Option SourceFile). is_same_text it file) (found_itself files number file order at)
    ∙ (bytes_eq-Decides file.text file.text).1 refl

pub all_there : (files : List SourceFile) (numbers : List ℕ) (used : List SourceFile) → AreInOrder files → AreAt files numbers used → list_all (is_there files) used ≡ true
all_there files [] [] order at = refl
all_there files [] (file ∷ used) order at = absurd at
all_there files (number ∷ numbers) [] order at = absurd at
all_there files (number ∷ numbers) (file ∷ used) order at =
    and_from (is_there files file) (list_all (is_there files) used) (there_itself files number file order at.0)
    (all_there files numbers used order at.1)

-- ---- their modules

text_at : (files : List SourceFile) (number : ℕ) (file : SourceFile) → slice_get files number ≡ Some file → slice_get (texts_in files) number ≡ Some file.text
text_at files number file at =
    slice_get-map (λ (it : SourceFile). it.text) files number
    ∙ ap (option_map (λ (it : SourceFile). it.text)) at

pub read_there : (files : List SourceFile) (modules : List (List Circuit)) (numbers : List ℕ) (used : List SourceFile) → AreRead (texts_in files) modules → AreAt files numbers used → AreRead (texts_in used) (files_at numbers modules)
read_there files modules [] [] read at = tt
read_there files modules [] (file ∷ used) read at = absurd at
read_there files modules (number ∷ numbers) [] read at = absurd at
read_there files modules (number ∷ numbers) (file ∷ used) read at =
    let here = read_at (texts_in files) modules number file.text read (text_at files number file at.0) in (
      subst (λ (it : List Circuit). IsRead file.text it) (sym (get_or_from_slice_get modules number here.0 [] here.1)) here.2,
      read_there files modules numbers used read at.1,
    )

only_here : (files : List SourceFile) (modules : List (List Circuit)) (number : ℕ) (file : SourceFile) (circuits : List Circuit) → AreSpelled (texts_in files) modules → slice_get files number ≡ Some file → IsRead file.text circuits → slice_index_or modules number [] ≡ circuits
only_here files modules number file circuits spelled at read =
    let other = other_at (texts_in files) modules number file.text circuits spelled.read (text_at files number file at) read in
    get_or_from_slice_get modules number circuits []
    (ap (λ (it : List (List Circuit)). slice_get it number) (sym (spelled.only other.0 other.1)) ∙ other.2)

-- their texts spell no other modules
pub only_there : (files : List SourceFile) (modules : List (List Circuit)) (numbers : List ℕ) (used : List SourceFile) (read_of : List (List Circuit)) → AreSpelled (texts_in files) modules → AreAt files numbers used → AreRead (texts_in used) read_of → files_at numbers modules ≡ read_of
only_there files modules [] [] [] spelled at read = refl
only_there files modules [] [] (circuits ∷ read_of) spelled at read = absurd read
only_there files modules [] (file ∷ used) read_of spelled at read = absurd at
only_there files modules (number ∷ numbers) [] read_of spelled at read = absurd at
only_there files modules (number ∷ numbers) (file ∷ used) [] spelled at read = absurd read
only_there files modules (number ∷ numbers) (file ∷ used) (circuits ∷ read_of) spelled at read =
    ap (λ (it : List Circuit). it ∷ files_at numbers modules) (only_here files modules number file circuits spelled at.0 read.0)
    ∙ ap (λ (it : List (List Circuit)). circuits ∷ it) (only_there files modules numbers used read_of spelled at.1 read.1)

-- ---- each file that a top uses is one of all

abbrev IsInside : ℕ → Lookup → Type 0
IsInside count Missing = ⊤
IsInside count (Found place) = place.file < count
IsInside count Twice = ⊤

with_inside : (count : ℕ) (place : Place) (lookup : Lookup) → place.file < count → IsInside count lookup → IsInside count (with_another place lookup)
with_inside count place Missing here inside = here
with_inside count place (Found other) here inside = tt
with_inside count place Twice here inside = tt

found_inside : (count : ℕ) (placed : List Placed) (name : List ℕ) → All (λ (it : Placed). it.place.file < count) placed → IsInside count (found placed name)
found_inside count [] name all = tt
found_inside count (first ∷ others) name all =
    let rest = found_inside count others name (All-tail (λ (it : Placed). it.place.file < count) first others all) in
    elim (bytes_eq first.name name) as (λ b. IsInside count (if b then with_another first.place (found others name) else found others name)) [
      | true ↦ with_inside count first.place (found others name) (All-head (λ (it : Placed). it.place.file < count) first others all) rest
      | false ↦ rest
    ]

in_file : (count file index : ℕ) (circuits : List Circuit) → file < count → All (λ (it : Placed). it.place.file < count) (placed_in file index circuits)
in_file count file index [] inside = All-nil (λ (it : Placed). it.place.file < count)
in_file count file index (first ∷ others) inside =
    All-cons (λ (it : Placed). it.place.file < count) (record { place = record { file = file; index = index }; name = first.name.text }) (placed_in file (index + 1) others) inside
    (in_file count file (index + 1) others inside)

from_file : (count file : ℕ) (files : List (List Circuit)) → file + length files ≤ count → All (λ (it : Placed). it.place.file < count) (placed_from file files)
from_file count file [] inside = All-nil (λ (it : Placed). it.place.file < count)
from_file count file (first ∷ others) inside =
    All-append (λ (it : Placed). it.place.file < count) (placed_in file 0 first) (placed_from (file + 1) others)
    (in_file count file 0 first (omega arith)) (from_file count (file + 1) others (omega arith))

number_inside : (modules : List (List Circuit)) (name : List ℕ) (place : Place) → found (all_placed modules) name ≡ Found place → place.file < length modules
number_inside modules name place is =
    subst (IsInside (length modules)) is
    (found_inside (length modules) (all_placed modules) name (from_file (length modules) 0 modules (omega arith)))

file_used : (files : List SourceFile) (modules : List (List Circuit)) (top : List ℕ) (numbers : List ℕ) (number : ℕ) → AreRead (texts_in files) modules → AreUsed (library_of modules) top numbers → Contains numbers number → (file : SourceFile) × (slice_get files number ≡ Some file)
file_used files modules top numbers number read used among =
    let one = (used.each number).0 among in
    let inside = number_inside modules one.name (record { file = number; index = one.index }) one.means in
    file_there files modules number (get_or modules number []) read (slice_get-get_or modules number [] inside)

each_at : (files : List SourceFile) (numbers : List ℕ) → ((number : ℕ) → Contains numbers number → (file : SourceFile) × (slice_get files number ≡ Some file)) → AreAt files numbers (sources_at numbers files)
each_at files [] each = tt
each_at files (number ∷ numbers) each =
    let first = each number (first_among number numbers) in
    let rest = each_at files numbers (λ other among. each other (later_among number other numbers among)) in
    subst (λ (it : Option SourceFile). AreAt files (number ∷ numbers) (cons_option it (sources_at numbers files))) (sym first.1)
    (first.1, rest)

-- the files that a top uses have their numbers
pub used_at : (files : List SourceFile) (modules : List (List Circuit)) (top : List ℕ) (numbers : List ℕ) → AreRead (texts_in files) modules → AreUsed (library_of modules) top numbers → AreAt files numbers (sources_at numbers files)
used_at files modules top numbers read used =
    each_at files numbers (λ number among. file_used files modules top numbers number read used among)
