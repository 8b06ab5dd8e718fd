-- Facts over the world that is told, or over some world.
use Rattle.std.proofs.Common.{◌≡◌, ◌≢◌, ℕ, ◌≤◌, List, [], ◌∷◌, length, map, Option, None, Some, Result, Ok, Err, Vec, String, IfOk, vec_len, Bool, true, false, cond, not, refl, sym, ◌∙◌, ap, subst, arith}
use Rattle.std.specs.Prelude.{IfSome, bytes_eq, nat_le, ◌&&◌, ◌||◌}
use Rattle.std.specs.List.{All, list_all, list_any}
use Rattle.std.specs.declared.alloc.Global.{Global}
use Rattle.std.proofs.lemmas.Bool.{and_parts}
use Rattle.std.proofs.lemmas.List.Elements.{All-head, All-tail}
use Rattle.std.proofs.lemmas.Slice.Eq.{bytes_eq-Decides}
use Rattle.source_file.specs.SourceFiles.{AreShort, names_in, texts_in}
use Rattle.source_file.specs.declared.SourceFile.{SourceFile}
use Rattle.desk_io.specs.declared.shelf.ShelfFault.{ShelfFault}
use Rattle.desk_io.specs.declared.shelf.ShelfFault.TheVariants.{Failed, Memory as NoMemory, NoSuchFile, TooLong}
use Rattle.desk_io.specs.Shelf.{Files, IsReading, no_files, reading, with_file}
use Rattle.desk_io.proofs.Readings.{some_reading}
use Rattle.vcd_check.specs.vcd_signals.vcd_read.Reading.{read}
use Rattle.desk_top.specs.declared.deliver.Stop.{Stop}
use Rattle.desk_top.specs.declared.deliver.Stop.TheVariants.{Memory, NoFile, Unread}
use Rattle.desk_top.specs.declared.deliver.Work.{Work}
use Rattle.desk_top.specs.declared.simulate.Plan.{Plan}
use Rattle.desk_top.specs.Answers.{Agrees, OverWorld}
use Rattle.desk_top.specs.Delivery.{IsWork, stop_of}
use Rattle.desk_top.specs.Outcome.{World, IsComparing, IsJudged, IsReadBeside, IsReplayIn, IsReplaying, IsSigned, IsSimulating, IsStepped}
use Rattle.desk_top.specs.Plans.{IsPlan}
use Rattle.desk_top.specs.Texts.{texts_of, with_text}
use Rattle.desk_top.specs.Words.{all_different, are_files, is_name}
use Rattle.desk_top.proofs.Reading.{count_by, named_by, short_by}

pub over_map : {P Q : World → Type 0} (files : Option Files) → OverWorld files P → ((world : World) → P world → Q world) → OverWorld files Q
over_map files over more = record { world = over.world; agrees = over.agrees; agrees_before = over.agrees_before; holds = more over.world over.holds }

-- a fact that holds of every world
pub over_any : {P : World → Type 0} (files : Option Files) → ((world : World) → P world) → OverWorld files P
over_any None all =
    record { world = record { before = no_files; files = no_files }; agrees = tt; agrees_before = tt; holds = all (record { before = no_files; files = no_files }) }
over_any (Some held) all =
    record { world = record { before = held; files = held }; agrees = refl; agrees_before = refl; holds = all (record { before = held; files = held }) }

-- the fact holds of the files that are told, or, where they aren't told, of some files
pub record OverFiles (files : Option Files) (P : Files → Type 0) : Type 0 where
  pub held : Files
  pub agrees : Agrees files held
  pub holds : P held

pub over_files : {P : Files → Type 0} (files : Option Files) → OverFiles files P → OverWorld files (λ world. P world.files)
over_files files over =
    record { world = record { before = over.held; files = over.held }; agrees = over.agrees; agrees_before = over.agrees; holds = over.holds }

-- facts of the files at two moments
pub over_both : {P Q : Files → Type 0} (files : Option Files) → OverFiles files P → OverFiles files Q → OverWorld files (λ world. P world.before × Q world.files)
over_both files before later =
    record { world = record { before = before.held; files = later.held }; agrees = later.agrees; agrees_before = before.agrees; holds = (before.holds, later.holds) }

-- ---- a world with given texts

abbrev files_with : List (List ℕ) → List (List ℕ) → Files
files_with [] texts = no_files
files_with (name ∷ names) [] = no_files
files_with (name ∷ names) (text ∷ texts) = with_file (files_with names texts) name text

first_is : (a b : Bool) → (a || b) ≡ false → (a ≡ false) × (b ≡ false)
first_is true b is = absurd (cc)
first_is false b is = (refl, is)

is_false : (b : Bool) → not b ≡ true → b ≡ false
is_false true is = absurd (cc)
is_false false is = refl

-- a file of another name changes nothing
unchanged : (files : Files) (name text : List ℕ) (names : List (List ℕ)) → list_any (bytes_eq name) names ≡ false → texts_of (with_file files name text) names ≡ texts_of files names
unchanged files name text [] other = refl
unchanged files name text (first ∷ names) other =
    let parts = first_is (bytes_eq name first) (list_any (bytes_eq name) names) other in
    ap (λ (b : Bool). with_text (reading (cond b (Some text) (files first))) (texts_of (with_file files name text) names)) parts.0
    ∙ ap (with_text (reading (files first))) (unchanged files name text names parts.1)

read_short : (text : List ℕ) → length text ≤ 1048576 → reading (Some text) ≡ Ok text
read_short text short = by_test (nat_le (length text) 1048576) (grind (arith, short))
  where
    by_test : (b : Bool) → b ≡ true → cond b (Ok text) (Err TooLong) ≡ Ok text
    by_test true is = refl
    by_test false is = absurd (cc)

all_there : (names texts : List (List ℕ)) → all_different names ≡ true → length texts ≡ length names → All (λ text. length text ≤ 1048576) texts → texts_of (files_with names texts) names ≡ Some texts
all_there [] [] different same short = refl
all_there [] (text ∷ texts) different same short = absurd (omega (arith, same))
all_there (name ∷ names) [] different same short = absurd (omega (arith, same))
all_there (name ∷ names) (text ∷ texts) different same short =
    let parts = and_parts (not (list_any (bytes_eq name) names)) (all_different names) different in
    let files = files_with names texts in
    ap (λ (b : Bool). with_text (reading (cond b (Some text) (files name))) (texts_of (with_file files name text) names)) ((bytes_eq-Decides name name).1 refl)
    ∙ ap (λ (r : Result (List ℕ) ShelfFault). with_text r (texts_of (with_file files name text) names)) (read_short text (All-head (λ (t : List ℕ). length t ≤ 1048576) text texts short))
    ∙ ap (with_text (Ok text)) (unchanged files name text names (is_false (list_any (bytes_eq name) names) parts.0) ∙ all_there names texts parts.1 (omega (arith, same)) (All-tail (λ (t : List ℕ). length t ≤ 1048576) text texts short))

-- ---- texts over the world

pub over_texts : (files : Option Files) (names texts : List (List ℕ)) → IfSome files (λ held. texts_of held names ≡ Some texts)
    → all_different names ≡ true → length texts ≡ length names → All (λ text. length text ≤ 1048576) texts → OverFiles files (λ held. texts_of held names ≡ Some texts)
over_texts None names texts told different same short =
    record { held = files_with names texts; agrees = tt; holds = all_there names texts different same short }
over_texts (Some held) names texts told different same short = record { held = held; agrees = refl; holds = told }

some_name : (names : List (List ℕ)) → nat_le 1 (length names) ≡ true → texts_of no_files names ≡ None
some_name [] some = absurd (cc)
some_name (name ∷ names) some = refl

pub over_missing : (files : Option Files) (names : List (List ℕ)) → IfSome files (λ held. texts_of held names ≡ None) → nat_le 1 (length names) ≡ true → OverFiles files (λ held. texts_of held names ≡ None)
over_missing None names told some = record { held = no_files; agrees = tt; holds = some_name names some }
over_missing (Some held) names told some = record { held = held; agrees = refl; holds = told }

-- ---- what a list of files gives

pub different_of : (files : List (List ℕ)) → are_files files ≡ true → all_different files ≡ true
different_of files are =
    (and_parts (list_all is_name files) (all_different files) (and_parts (nat_le 1 (length files) && nat_le (length files) 64) (list_all is_name files && all_different files) are).1).1

pub some_of : (files : List (List ℕ)) → are_files files ≡ true → nat_le 1 (length files) ≡ true
some_of files are =
    (and_parts (nat_le 1 (length files)) (nat_le (length files) 64) (and_parts (nat_le 1 (length files) && nat_le (length files) 64) (list_all is_name files && all_different files) are).0).0

-- files that were read are signed by their texts
pub signed_texts : (files : Option Files) (top : List ℕ) (names : List (List ℕ)) (made : List SourceFile) (work : Result Work Stop)
    → IfSome files (λ held. texts_of held names ≡ Some (texts_in made)) → names_in made ≡ names → AreShort made → are_files names ≡ true
    → IsWork (IsJudged top made (texts_in made)) work → OverWorld files (λ world. IsWork (IsSigned top names (texts_of world.files names)) work)
signed_texts files top names made work told called short are is =
    over_map {P = λ world. texts_of world.files names ≡ Some (texts_in made)} {Q = λ world. IsWork (IsSigned top names (texts_of world.files names)) work}
    files (over_files files (over_texts files names (texts_in made) told (different_of names are) (count_by names made called) (short_by made short)))
    (λ world read. subst (λ (o : Option (List (List ℕ))). IsWork (IsSigned top names o) work) (sym read)
    (subst (λ (all : List SourceFile). IsWork (IsJudged top all (texts_in made)) work) (sym (named_by names made called)) is))

-- a file that isn't there is signed by that
pub signed_missing : (files : Option Files) (top : List ℕ) (names : List (List ℕ)) → IfSome files (λ held. texts_of held names ≡ None) → are_files names ≡ true
    → OverWorld files (λ world. IsWork (IsSigned top names (texts_of world.files names)) (Err NoFile))
signed_missing files top names told are =
    over_map {P = λ world. texts_of world.files names ≡ None} {Q = λ world. IsWork (IsSigned top names (texts_of world.files names)) (Err NoFile)}
    files (over_files files (over_missing files names told (some_of names are)))
    (λ world read. subst (λ (o : Option (List (List ℕ))). IsWork (IsSigned top names o) (Err NoFile)) (sym read) refl)

-- nothing is said where the work was given up
pub signed_not : (files : Option Files) (top : List ℕ) (names : List (List ℕ)) (stop : Stop) → (stop ≢ NoFile)
    → OverWorld files (λ world. IsWork (IsSigned top names (texts_of world.files names)) (Err stop))
signed_not files top names Unread other = over_any {P = λ world. IsWork (IsSigned top names (texts_of world.files names)) (Err Unread)} files (λ world. tt)
signed_not files top names Memory other = over_any {P = λ world. IsWork (IsSigned top names (texts_of world.files names)) (Err Memory)} files (λ world. tt)
signed_not files top names NoFile other = absurd (other refl)

abbrev pub gone : Stop → Result (Vec SourceFile Global) Stop
gone stop = Err stop

-- the stop of files that weren't read
pub signed_stop : (files : Option Files) (top : List ℕ) (names : List (List ℕ)) (stop : Stop) → IfSome files (λ held. gone stop ≡ Err NoFile → texts_of held names ≡ None) → are_files names ≡ true
    → OverWorld files (λ world. IsWork (IsSigned top names (texts_of world.files names)) (Err stop))
signed_stop files top names NoFile told are = signed_missing files top names (missing files told) are
  where
    missing : (files : Option Files) → IfSome files (λ held. gone NoFile ≡ Err NoFile → texts_of held names ≡ None) → IfSome files (λ held. texts_of held names ≡ None)
    missing None told = tt
    missing (Some held) told = told refl
signed_stop files top names Unread told are = signed_not files top names Unread (λ same. absurd cc)
signed_stop files top names Memory told are = signed_not files top names Memory (λ same. absurd cc)

-- ---- a file that is read ahead

-- a file that was read, or why it wasn't
over_reading : (files : Option Files) (name : List ℕ) (answer : Result (Vec ℕ Global) ShelfFault)
    → IfSome files (λ held. IsReading (reading (held name)) answer) → IfOk answer (λ bytes. vec_len bytes ≤ 1048576)
    → OverFiles files (λ held. IsReading (reading (held name)) answer)
over_reading None name answer told short =
    let some = some_reading answer short in
    record { held = λ wanted. some.0; agrees = tt; holds = some.1 }
over_reading (Some held) name answer told short = record { held = held; agrees = refl; holds = told }

-- it and the files were read
over_ahead : (Q : Result (List ℕ) ShelfFault → Option (List (List ℕ)) → Type 0) (files : Option Files) (ahead : List ℕ) (names : List (List ℕ)) (text : Vec ℕ Global) (made : List SourceFile)
    → IfSome files (λ held. IsReading (reading (held ahead)) (Ok text)) → vec_len text ≤ 1048576
    → IfSome files (λ held. texts_of held names ≡ Some (texts_in made)) → names_in made ≡ names → AreShort made → are_files names ≡ true
    → Q (Ok text.items) (Some (texts_in made)) → OverWorld files (λ world. Q (reading (world.before ahead)) (texts_of world.files names))
over_ahead Q files ahead names text made had fits told called short are is =
    over_map {P = λ world. IsReading (reading (world.before ahead)) (Ok text) × (texts_of world.files names ≡ Some (texts_in made))} {Q = λ world. Q (reading (world.before ahead)) (texts_of world.files names)}
    files (over_both files (over_reading files ahead (Ok text) had fits) (over_texts files names (texts_in made) told (different_of names are) (count_by names made called) (short_by made short)))
    (λ world both. subst (λ (r : Result (List ℕ) ShelfFault). Q r (texts_of world.files names)) (sym both.0)
    (subst (λ (o : Option (List (List ℕ))). Q (Ok text.items) o) (sym both.1) is))

-- it wasn't: nothing is said where the read failed or memory ran out
abbrev IsFault : (Result (List ℕ) ShelfFault → Option (List (List ℕ)) → Type 0) → ShelfFault → Type 0
IsFault Q NoSuchFile = (o : Option (List (List ℕ))) → Q (Err NoSuchFile) o
IsFault Q TooLong = (o : Option (List (List ℕ))) → Q (Err TooLong) o
IsFault Q Failed = (r : Result (List ℕ) ShelfFault) (o : Option (List (List ℕ))) → Q r o
IsFault Q NoMemory = (r : Result (List ℕ) ShelfFault) (o : Option (List (List ℕ))) → Q r o

over_ahead_fault : (Q : Result (List ℕ) ShelfFault → Option (List (List ℕ)) → Type 0) (files : Option Files) (ahead : List ℕ) (names : List (List ℕ)) (fault : ShelfFault)
    → IfSome files (λ held. IsReading (reading (held ahead)) (Err fault)) → IsFault Q fault
    → OverWorld files (λ world. Q (reading (world.before ahead)) (texts_of world.files names))
over_ahead_fault Q files ahead names fault had is =
    over_map {P = λ world. IsReading (reading (world.before ahead)) (Err fault) × Unit {0}} {Q = λ world. Q (reading (world.before ahead)) (texts_of world.files names)}
    files (over_both {Q = λ held. Unit {0}} files (over_reading files ahead (Err fault) had tt) (any files)) (by_fault fault is)
  where
    any : (files : Option Files) → OverFiles files (λ held. Unit {0})
    any None = record { held = no_files; agrees = tt; holds = tt }
    any (Some held) = record { held = held; agrees = refl; holds = tt }

    by_fault : (fault : ShelfFault) → IsFault Q fault → (world : World) → IsReading (reading (world.before ahead)) (Err fault) × Unit {0} → Q (reading (world.before ahead)) (texts_of world.files names)
    by_fault Failed is world both = is (reading (world.before ahead)) (texts_of world.files names)
    by_fault NoMemory is world both = is (reading (world.before ahead)) (texts_of world.files names)
    by_fault NoSuchFile is world both = subst (λ (r : Result (List ℕ) ShelfFault). Q r (texts_of world.files names)) (sym both.0) (is (texts_of world.files names))
    by_fault TooLong is world both = subst (λ (r : Result (List ℕ) ShelfFault). Q r (texts_of world.files names)) (sym both.0) (is (texts_of world.files names))

-- it was, and one of the files isn't there
over_ahead_missing : (Q : Result (List ℕ) ShelfFault → Option (List (List ℕ)) → Type 0) (files : Option Files) (ahead : List ℕ) (names : List (List ℕ)) (text : Vec ℕ Global)
    → IfSome files (λ held. IsReading (reading (held ahead)) (Ok text)) → vec_len text ≤ 1048576
    → IfSome files (λ held. gone NoFile ≡ Err NoFile → texts_of held names ≡ None) → are_files names ≡ true
    → Q (Ok text.items) None → OverWorld files (λ world. Q (reading (world.before ahead)) (texts_of world.files names))
over_ahead_missing Q files ahead names text had fits told are is =
    over_map {P = λ world. IsReading (reading (world.before ahead)) (Ok text) × (texts_of world.files names ≡ None)} {Q = λ world. Q (reading (world.before ahead)) (texts_of world.files names)}
    files (over_both files (over_reading files ahead (Ok text) had fits) (over_missing files names (missing files told) (some_of names are)))
    (λ world both. subst (λ (r : Result (List ℕ) ShelfFault). Q r (texts_of world.files names)) (sym both.0)
    (subst (λ (o : Option (List (List ℕ))). Q (Ok text.items) o) (sym both.1) is))
  where
    missing : (files : Option Files) → IfSome files (λ held. gone NoFile ≡ Err NoFile → texts_of held names ≡ None) → IfSome files (λ held. texts_of held names ≡ None)
    missing None told = tt
    missing (Some held) told = told refl

-- ---- simulations

pub stepped_texts : (files : Option Files) (top steps : List ℕ) (names : List (List ℕ)) (text : Vec ℕ Global) (bytes : List ℕ) (made : List SourceFile) (plan : Result Plan Stop)
    → IfSome files (λ held. IsReading (reading (held steps)) (Ok text)) → vec_len text ≤ 1048576 → bytes ≡ text.items
    → IfSome files (λ held. texts_of held names ≡ Some (texts_in made)) → names_in made ≡ names → AreShort made → are_files names ≡ true
    → IsPlan (IsStepped top made (texts_in made) bytes) plan → OverWorld files (λ world. IsPlan (IsSimulating top names (reading (world.before steps)) (texts_of world.files names)) plan)
stepped_texts files top steps names text bytes made plan had fits same told called short are is =
    over_ahead (λ r o. IsPlan (IsSimulating top names r o) plan) files steps names text made had fits told called short are
    (subst (λ (all : List SourceFile). IsPlan (IsStepped top all (texts_in made) text.items) plan) (sym (named_by names made called))
    (subst (λ (all : List ℕ). IsPlan (IsStepped top made (texts_in made) all) plan) same is))

pub stepped_fault : (files : Option Files) (top steps : List ℕ) (names : List (List ℕ)) (fault : ShelfFault) → IfSome files (λ held. IsReading (reading (held steps)) (Err fault))
    → OverWorld files (λ world. IsPlan (IsSimulating top names (reading (world.before steps)) (texts_of world.files names)) (Err (stop_of fault)))
stepped_fault files top steps names fault had =
    over_ahead_fault (λ r o. IsPlan (IsSimulating top names r o) (Err (stop_of fault))) files steps names fault had (by_fault fault)
  where
    by_fault : (fault : ShelfFault) → IsFault (λ r o. IsPlan (IsSimulating top names r o) (Err (stop_of fault))) fault
    by_fault Failed = λ r o. tt
    by_fault NoMemory = λ r o. tt
    by_fault NoSuchFile = λ o. refl
    by_fault TooLong = λ o. refl

-- the stop of files that weren't read
pub stepped_stop : (files : Option Files) (top steps : List ℕ) (names : List (List ℕ)) (text : Vec ℕ Global) (stop : Stop)
    → IfSome files (λ held. IsReading (reading (held steps)) (Ok text)) → vec_len text ≤ 1048576
    → IfSome files (λ held. gone stop ≡ Err NoFile → texts_of held names ≡ None) → are_files names ≡ true
    → OverWorld files (λ world. IsPlan (IsSimulating top names (reading (world.before steps)) (texts_of world.files names)) (Err stop))
stepped_stop files top steps names text Unread had fits told are = over_any {P = λ world. IsPlan (IsSimulating top names (reading (world.before steps)) (texts_of world.files names)) (Err Unread)} files (λ world. tt)
stepped_stop files top steps names text Memory had fits told are = over_any {P = λ world. IsPlan (IsSimulating top names (reading (world.before steps)) (texts_of world.files names)) (Err Memory)} files (λ world. tt)
stepped_stop files top steps names text NoFile had fits told are =
    over_ahead_missing (λ r o. IsPlan (IsSimulating top names r o) (Err NoFile)) files steps names text had fits told are refl

-- ---- demonstrations

pub replayed_texts : (files : Option Files) (top demo : List ℕ) (names : List (List ℕ)) (text : Vec ℕ Global) (bytes : List ℕ) (made : List SourceFile) (work : Result Work Stop)
    → IfSome files (λ held. IsReading (reading (held demo)) (Ok text)) → vec_len text ≤ 1048576 → bytes ≡ text.items
    → IfSome files (λ held. texts_of held names ≡ Some (texts_in made)) → names_in made ≡ names → AreShort made → are_files names ≡ true
    → IsWork (IsReplayIn top made (texts_in made) bytes) work → OverWorld files (λ world. IsWork (IsReplaying top names (reading (world.before demo)) (texts_of world.files names)) work)
replayed_texts files top demo names text bytes made work had fits same told called short are is =
    over_ahead (λ r o. IsWork (IsReplaying top names r o) work) files demo names text made had fits told called short are
    (subst (λ (all : List SourceFile). IsWork (IsReplayIn top all (texts_in made) text.items) work) (sym (named_by names made called))
    (subst (λ (all : List ℕ). IsWork (IsReplayIn top made (texts_in made) all) work) same is))

pub replayed_fault : (files : Option Files) (top demo : List ℕ) (names : List (List ℕ)) (fault : ShelfFault) → IfSome files (λ held. IsReading (reading (held demo)) (Err fault))
    → OverWorld files (λ world. IsWork (IsReplaying top names (reading (world.before demo)) (texts_of world.files names)) (Err (stop_of fault)))
replayed_fault files top demo names fault had =
    over_ahead_fault (λ r o. IsWork (IsReplaying top names r o) (Err (stop_of fault))) files demo names fault had (by_fault fault)
  where
    by_fault : (fault : ShelfFault) → IsFault (λ r o. IsWork (IsReplaying top names r o) (Err (stop_of fault))) fault
    by_fault Failed = λ r o. tt
    by_fault NoMemory = λ r o. tt
    by_fault NoSuchFile = λ o. refl
    by_fault TooLong = λ o. refl

pub replayed_stop : (files : Option Files) (top demo : List ℕ) (names : List (List ℕ)) (text : Vec ℕ Global) (stop : Stop)
    → IfSome files (λ held. IsReading (reading (held demo)) (Ok text)) → vec_len text ≤ 1048576
    → IfSome files (λ held. gone stop ≡ Err NoFile → texts_of held names ≡ None) → are_files names ≡ true
    → OverWorld files (λ world. IsWork (IsReplaying top names (reading (world.before demo)) (texts_of world.files names)) (Err stop))
replayed_stop files top demo names text Unread had fits told are = over_any {P = λ world. IsWork (IsReplaying top names (reading (world.before demo)) (texts_of world.files names)) (Err Unread)} files (λ world. tt)
replayed_stop files top demo names text Memory had fits told are = over_any {P = λ world. IsWork (IsReplaying top names (reading (world.before demo)) (texts_of world.files names)) (Err Memory)} files (λ world. tt)
replayed_stop files top demo names text NoFile had fits told are =
    over_ahead_missing (λ r o. IsWork (IsReplaying top names r o) (Err NoFile)) files demo names text had fits told are refl

-- ---- recorded dumps

pub compared_texts : (files : Option Files) (top scope dump : List ℕ) (names : List (List ℕ)) (text : Vec ℕ Global) (bytes : List ℕ) (made : List SourceFile) (work : Result Work Stop)
    → IfSome files (λ held. IsReading (reading (held dump)) (Ok text)) → vec_len text ≤ 1048576 → bytes ≡ text.items
    → IfSome files (λ held. texts_of held names ≡ Some (texts_in made)) → names_in made ≡ names → AreShort made → are_files names ≡ true
    → IsWork (IsReadBeside top made (texts_in made) scope (read bytes)) work → OverWorld files (λ world. IsWork (IsComparing top scope names (reading (world.before dump)) (texts_of world.files names)) work)
compared_texts files top scope dump names text bytes made work had fits same told called short are is =
    over_ahead (λ r o. IsWork (IsComparing top scope names r o) work) files dump names text made had fits told called short are
    (subst (λ (all : List SourceFile). IsWork (IsReadBeside top all (texts_in made) scope (read text.items)) work) (sym (named_by names made called))
    (subst (λ (all : List ℕ). IsWork (IsReadBeside top made (texts_in made) scope (read all)) work) same is))

pub compared_fault : (files : Option Files) (top scope dump : List ℕ) (names : List (List ℕ)) (fault : ShelfFault) → IfSome files (λ held. IsReading (reading (held dump)) (Err fault))
    → OverWorld files (λ world. IsWork (IsComparing top scope names (reading (world.before dump)) (texts_of world.files names)) (Err (stop_of fault)))
compared_fault files top scope dump names fault had =
    over_ahead_fault (λ r o. IsWork (IsComparing top scope names r o) (Err (stop_of fault))) files dump names fault had (by_fault fault)
  where
    by_fault : (fault : ShelfFault) → IsFault (λ r o. IsWork (IsComparing top scope names r o) (Err (stop_of fault))) fault
    by_fault Failed = λ r o. tt
    by_fault NoMemory = λ r o. tt
    by_fault NoSuchFile = λ o. refl
    by_fault TooLong = λ o. refl

pub compared_stop : (files : Option Files) (top scope dump : List ℕ) (names : List (List ℕ)) (text : Vec ℕ Global) (stop : Stop)
    → IfSome files (λ held. IsReading (reading (held dump)) (Ok text)) → vec_len text ≤ 1048576
    → IfSome files (λ held. gone stop ≡ Err NoFile → texts_of held names ≡ None) → are_files names ≡ true
    → OverWorld files (λ world. IsWork (IsComparing top scope names (reading (world.before dump)) (texts_of world.files names)) (Err stop))
compared_stop files top scope dump names text Unread had fits told are = over_any {P = λ world. IsWork (IsComparing top scope names (reading (world.before dump)) (texts_of world.files names)) (Err Unread)} files (λ world. tt)
compared_stop files top scope dump names text Memory had fits told are = over_any {P = λ world. IsWork (IsComparing top scope names (reading (world.before dump)) (texts_of world.files names)) (Err Memory)} files (λ world. tt)
compared_stop files top scope dump names text NoFile had fits told are =
    over_ahead_missing (λ r o. IsWork (IsComparing top scope names r o) (Err NoFile)) files dump names text had fits told are refl
