-- The names that a top looks up and the files that it uses, at work.
use Rattle.std.specs.List.{Contains}
use Rattle.std.specs.List.Sorted.{IsStrictlyIncreasing}
use Rattle.std.proofs.Common.{◌≡◌, ◌∙◌, ℕ, zero, suc, List, [], ◌∷◌, Option, None, Some, arith, refl, sym, ap, subst}
use Rattle.std.proofs.lemmas.List.Elements.{All-cons, All-contains, All-nil}
use Rattle.rtl_tree.specs.TreeExpr.{Identifier}
use Rattle.rtl_tree.specs.TreeItem.{ModuleItem, Instances, ByName, Integers}
use Rattle.rtl_tree.specs.TreeModule.{Absent, Circuit}
use Rattle.rtl_elab.specs.elab_links.declared.module_set.Lookup.{Lookup}
use Rattle.rtl_elab.specs.elab_links.declared.module_set.Lookup.TheVariants.{Missing, Found}
use Rattle.rtl_elab.specs.elab_links.declared.module_set.Place.{Place}
use Rattle.rtl_elab.specs.elab_links.Modules.{circuit_at}
use Rattle.rtl_elab.specs.elab_walk.Visits.{Library, all_visits}
use Rattle.rtl_elab.specs.Designs.{library_of}
use Rattle.elab_lookups.specs.declared.look_up.LookUp.{LookUp}
use Rattle.elab_names.specs.Extracts.{IsStill, extract, files_at, number_at, place_in, renumbered}
use Rattle.elab_names.specs.LookUps.{AreLookUps, AreUsed, IsUsed, looked_up, name_in_item, names_in}
use Rattle.elab_names.proofs.Extracting.{looked_up_same}

abbrev named : ℕ → Identifier
named letter = record { text = letter ∷ []; at = 0 }

-- NAME OWN();
abbrev holds : ℕ → ℕ → ModuleItem
holds letter own =
    Instances (named letter) (ByName []) (record { name = named own; connections = ByName [] } ∷ [])

-- module NAME; items endmodule
abbrev with_items : ℕ → List ModuleItem → Circuit
with_items letter items =
    record {
      at = 0;
      name = named letter;
      parameters = [];
      header = Absent;
      items = items;
      constructs = [];
      dropped = [];
    }

-- the first module of a file
abbrev first_in : ℕ → Place
first_in file = record { file = file; index = 0 }

-- t, which holds l as u and x as v
abbrev t_file : List Circuit
t_file = with_items 116 (holds 108 117 ∷ holds 120 118 ∷ []) ∷ []

-- l, which holds m as w
abbrev l_file : List Circuit
l_file = with_items 108 (holds 109 119 ∷ []) ∷ []

-- x, which holds y as w
abbrev x_file : List Circuit
x_file = with_items 120 (holds 121 119 ∷ []) ∷ []

-- one that holds nothing
abbrev leaf_file : ℕ → List Circuit
leaf_file letter = with_items letter [] ∷ []

-- t, z, l and x, each in a file of its own; no module is m
abbrev library : Library
library = library_of (t_file ∷ leaf_file 122 ∷ l_file ∷ x_file ∷ [])

abbrev top : List ℕ
top = 116 ∷ []

-- ---- names

held_name : name_in_item (holds 108 117) ≡ (108 ∷ []) ∷ []
held_name = refl

no_name : name_in_item (Integers 0 (named 105 ∷ [])) ≡ []
no_name = refl

-- the top's own, those that it places, and that of m, which isn't there: so elaboration doesn't come to x, and y isn't
-- looked up
abbrev four : List (List ℕ)
four = top ∷ (108 ∷ []) ∷ (120 ∷ []) ∷ (109 ∷ []) ∷ []

four_looked : looked_up library top ≡ four
unfolding all_visits
four_looked = refl

looked : (name : List ℕ) → Contains four name → Contains (looked_up library top) name
looked name among =
    subst (λ (names : List (List ℕ)). Contains names name) (sym four_looked) among

among_four : (name : List ℕ) → Contains (looked_up library top) name → Contains four name
among_four name asked = subst (λ (names : List (List ℕ)). Contains names name) four_looked asked

-- a fact of each of the four
each_of : (P : List ℕ → Type 0) → P top → P (108 ∷ []) → P (120 ∷ []) → P (109 ∷ []) → (name : List ℕ) → Contains four name → P name
each_of P own held other missing name among =
    All-contains P four name
    (All-cons P top ((108 ∷ []) ∷ (120 ∷ []) ∷ (109 ∷ []) ∷ []) own
    (All-cons P (108 ∷ []) ((120 ∷ []) ∷ (109 ∷ []) ∷ []) held
    (All-cons P (120 ∷ []) ((109 ∷ []) ∷ []) other (All-cons P (109 ∷ []) [] missing (All-nil P)))))
    among

-- what is told of them
abbrev look_up : ℕ → Lookup → LookUp
look_up letter meant = record { name = letter ∷ []; meant = meant }

abbrev Means : LookUp → Type 0
Means one = library.lookups one.name ≡ one.meant

told : AreLookUps library top (look_up 116 (Found (first_in 0)) ∷ look_up 108 (Found (first_in 2)) ∷ look_up 120 (Found (first_in 3)) ∷ look_up 109 Missing ∷ [])
told =
    record {
      names = λ name. (looked name, among_four name);
      meant =
          All-cons Means (look_up 116 (Found (first_in 0)))
          (look_up 108 (Found (first_in 2)) ∷ look_up 120 (Found (first_in 3)) ∷ look_up 109 Missing ∷ []) refl
          (All-cons Means (look_up 108 (Found (first_in 2)))
          (look_up 120 (Found (first_in 3)) ∷ look_up 109 Missing ∷ []) refl
          (All-cons Means (look_up 120 (Found (first_in 3))) (look_up 109 Missing ∷ []) refl
          (All-cons Means (look_up 109 Missing) [] refl (All-nil Means))));
    }

-- ---- files: those of t, l and x

abbrev used : List ℕ
used = 0 ∷ 2 ∷ 3 ∷ []

rising : IsStrictlyIncreasing used
rising zero below = omega arith
rising (suc zero) below = omega arith
rising (suc (suc k)) below = absurd (omega (arith, below))

is_used : (file : ℕ) → Contains used file → IsUsed library top file
is_used file (zero, below, same) =
    subst (IsUsed library top) same
    (record { name = top; index = 0; asked = looked top (0, omega arith, refl); means = refl })
is_used file (suc zero, below, same) =
    subst (IsUsed library top) same
    (record { name = 108 ∷ []; index = 0; asked = looked (108 ∷ []) (1, omega arith, refl); means = refl })
is_used file (suc (suc zero), below, same) =
    subst (IsUsed library top) same
    (record { name = 120 ∷ []; index = 0; asked = looked (120 ∷ []) (2, omega arith, refl); means = refl })
is_used file (suc (suc (suc k)), below, same) = absurd (omega (arith, below))

abbrev InUsed : List ℕ → Type 0
InUsed name = (place : Place) → library.lookups name ≡ Found place → Contains used place.file

in_used : (place other : Place) → Contains used place.file → Found place ≡ Found other → Contains used other.file
in_used place other among is =
    let same : place ≡ other = cc in
    subst (λ (p : Place). Contains used p.file) same among

used_file : (file : ℕ) → IsUsed library top file → Contains used file
used_file file is =
    each_of InUsed
    (λ place found. in_used (first_in 0) place (0, omega arith, refl) found)
    (λ place found. in_used (first_in 2) place (1, omega arith, refl) found)
    (λ place found. in_used (first_in 3) place (2, omega arith, refl) found)
    (λ place found. absurd cc)
    is.name (among_four is.name is.asked) (record { file = file; index = is.index }) is.means

are_used : AreUsed library top used
are_used = record { ascending = rising; each = λ file. (is_used file, used_file file) }

-- numbered among themselves
second : place_in used 2 ≡ 1
second = refl

no_place : place_in used 1 ≡ 3
no_place = refl

files_there : (extract used library).files ≡ t_file ∷ l_file ∷ x_file ∷ []
files_there = refl

held_there : (extract used library).lookups (108 ∷ []) ≡ Found (first_in 1)
held_there = refl

missing_there : (extract used library).lookups (109 ∷ []) ≡ Missing
missing_there = refl

-- z, which isn't looked up, is in none of them
none_there : circuit_at (extract used library).files (first_in 3) ≡ None
none_there = refl

again : looked_up (extract used library) top ≡ four
again = looked_up_same library top used are_used ∙ four_looked

-- ---- other libraries

-- without z, and with y in front, which isn't looked up: all is still there
abbrev later : Library
later = library_of (leaf_file 121 ∷ t_file ∷ l_file ∷ x_file ∷ [])

abbrev others : List ℕ
others = 1 ∷ 2 ∷ 3 ∷ []

rising_others : IsStrictlyIncreasing others
rising_others zero below = omega arith
rising_others (suc zero) below = omega arith
rising_others (suc (suc k)) below = absurd (omega (arith, below))

abbrev MeansStill : List ℕ → Type 0
MeansStill name =
    later.lookups name ≡ renumbered (number_at others) ((extract used library).lookups name)

still : IsStill library later top used others
still =
    record {
      ascending = rising_others;
      count = refl;
      files = refl;
      meant = λ name asked. each_of MeansStill refl refl refl refl name
          (subst (λ (names : List (List ℕ)). Contains names name) again asked);
    }

-- m is there, and l is another
abbrev with_missing : Library
with_missing = library_of (t_file ∷ leaf_file 122 ∷ l_file ∷ x_file ∷ leaf_file 109 ∷ [])

differ : IsStill library with_missing top used used → ⊥
differ is =
    let other : Found (first_in 4) ≡ Missing
    = is.meant (109 ∷ []) (subst (λ (names : List (List ℕ)). Contains names (109 ∷ [])) (sym again) (3, omega arith, refl)) in
    absurd cc

abbrev rewritten : Library
rewritten = library_of (t_file ∷ leaf_file 122 ∷ leaf_file 108 ∷ x_file ∷ [])

abbrev names_at : Option Circuit → List (List ℕ)
names_at None = []
names_at (Some circuit) = names_in circuit.items

changed : IsStill library rewritten top used used → ⊥
changed is =
    let other : names_at (circuit_at (files_at used rewritten.files) (first_in 1)) ≡ names_at (circuit_at (files_at used library.files) (first_in 1))
    = ap (λ (files : List (List Circuit)). names_at (circuit_at files (first_in 1))) is.files in
    absurd cc
