-- Texts that are read one after the other.
use Rattle.std.proofs.Common.{◌≡◌, ◌∙◌, ℕ, suc, ◌≤◌, List, [], ◌∷◌, ◌++◌, length, Option, None, Some, Ok, Err, refl, sym, ap, append_assoc}
use Rattle.std.specs.List.{All}
use Rattle.std.proofs.lemmas.List.Elements.{All-nil, All-cons, All-head, All-tail}
use Rattle.source_file.specs.SourceFiles.{AreShort, names_in, texts_in}
use Rattle.source_file.specs.declared.SourceFile.{SourceFile}
use Rattle.desk_io.specs.declared.shelf.ShelfFault.{ShelfFault}
use Rattle.desk_io.specs.Shelf.{Files}
use Rattle.desk_top.specs.Texts.{joined, named, texts_of, with_text}

append_none : (xs : List (List ℕ)) → xs ++ [] ≡ xs
append_none [] = refl
append_none (x ∷ xs) = ap (λ all. x ∷ all) (append_none xs)

-- nothing was read yet
pub none_read : (rest : Option (List (List ℕ))) → joined [] rest ≡ rest
none_read None = refl
none_read (Some others) = refl

-- all was read
pub all_read : (held : Files) (made : List (List ℕ)) → joined made (texts_of held []) ≡ Some made
all_read held made = ap Some (append_none made)

-- one text more
pub one_read : (made : List (List ℕ)) (text : List ℕ) (rest : Option (List (List ℕ))) → joined made (with_text (Ok text) rest) ≡ joined (made ++ text ∷ []) rest
one_read made text None = refl
one_read made text (Some others) = ap Some (sym (append_assoc made (text ∷ []) others))

-- a text that isn't had
pub none_had : (made : List (List ℕ)) (fault : ShelfFault) (rest : Option (List (List ℕ))) → joined made (with_text (Err fault) rest) ≡ None
none_had made fault rest = refl

-- files by their names and texts are the files
named_in : (files : List SourceFile) → named (names_in files) (texts_in files) ≡ files
named_in [] = refl
named_in (file ∷ files) = ap (λ (others : List SourceFile). file ∷ others) (named_in files)

pub named_by : (names : List (List ℕ)) (files : List SourceFile) → names_in files ≡ names → named names (texts_in files) ≡ files
named_by names files are = ap (λ (some : List (List ℕ)). named some (texts_in files)) (sym are) ∙ named_in files

-- as many texts as names
pub count_by : (names : List (List ℕ)) (files : List SourceFile) → names_in files ≡ names → length (texts_in files) ≡ length names
count_by names files are = count files ∙ ap length are
  where
    count : (files : List SourceFile) → length (texts_in files) ≡ length (names_in files)
    count [] = refl
    count (file ∷ files) = ap suc (count files)

pub short_by : (files : List SourceFile) → AreShort files → All (λ text. length text ≤ 1048576) (texts_in files)
short_by [] short = All-nil (λ (t : List ℕ). length t ≤ 1048576)
short_by (file ∷ files) short =
    All-cons (λ (t : List ℕ). length t ≤ 1048576) file.text (texts_in files)
    (All-head (λ (f : SourceFile). length f.text ≤ 1048576) file files short)
    (short_by files (All-tail (λ (f : SourceFile). length f.text ≤ 1048576) file files short))
