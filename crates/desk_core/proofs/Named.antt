-- Files that are found by their names, and references to files.
use Rattle.std.proofs.Common.{◌≡◌, Bor, ℕ, ◌≤◌, Bool, true, false, cond, List, [], ◌∷◌, Option, Some, None, length, map, sym, subst}
use Rattle.std.specs.Prelude.{find, IfSome}
use Rattle.std.specs.List.{All, cons_option}
use Rattle.std.proofs.lemmas.List.Elements.{All-cons, All-head, All-nil, All-tail}
use Rattle.desk_files.specs.Limits.{MAX_BYTES}
use Rattle.desk_files.specs.Sources.{is_named}
use Rattle.source_file.specs.declared.SourceFile.{SourceFile}
use Rattle.design_db.specs.desk_verdict.declared.verdict.Verdict.{Verdict as Made}
use Rattle.desk_rulings.specs.Rulings.{Verdict}
use Rattle.source_file.specs.SourceFiles.{AreShort}
use Rattle.desk_core.specs.Reports.{files_named, verdict_in}

-- ---- they are short where all files are

abbrev IsShort : SourceFile → Type 0
IsShort file = length file.text ≤ MAX_BYTES

either_short : (b : Bool) (file : SourceFile) (found : Option SourceFile) → IsShort file → IfSome found IsShort → IfSome (cond b (Some file) found) IsShort
either_short true file found one other = one
either_short false file found one other = other

found_short : (name : List ℕ) (files : List SourceFile) → AreShort files → IfSome (find (is_named name) files) IsShort
found_short name [] all = tt
found_short name (file ∷ files) all =
    either_short (is_named name file) file (find (is_named name) files) (All-head IsShort file files all)
    (found_short name files (All-tail IsShort file files all))

with_short : (found : Option SourceFile) (files : List SourceFile) → IfSome found IsShort → AreShort files → AreShort (cons_option found files)
with_short None files one all = all
with_short (Some file) files one all = All-cons IsShort file files one all

pub named_short : (names : List (List ℕ)) (files : List SourceFile) → AreShort files → AreShort (files_named names files)
named_short [] files all = All-nil IsShort
named_short (name ∷ names) files all =
    with_short (find (is_named name) files) (files_named names files) (found_short name files all) (named_short names files all)

pub ruled_short : (files : List SourceFile) (made : Made) (reached : List (List ℕ)) (verdict : Verdict) → verdict ≡ verdict_in files made reached → AreShort files → AreShort verdict.files
ruled_short files made reached verdict same all =
    subst (λ (it : Verdict). AreShort it.files) (sym same) (named_short reached files all)

-- ---- references to files

abbrev pub seen : List (Bor SourceFile) → List SourceFile
seen files = map (λ file. file.now) files

abbrev IsSeenShort : Bor SourceFile → Type 0
IsSeenShort file = length file.now.text ≤ MAX_BYTES

pub seen_short : (files : List (Bor SourceFile)) → AreShort (seen files) → All (λ file. length file.now.text ≤ MAX_BYTES) files
seen_short [] all = All-nil IsSeenShort
seen_short (file ∷ files) all =
    All-cons IsSeenShort file files (All-head IsShort file.now (seen files) all)
    (seen_short files (All-tail IsShort file.now (seen files) all))
