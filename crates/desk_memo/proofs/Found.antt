-- What readings say where no text has changed.
use Rattle.std.specs.Prelude.{ℕ, suc, Bool, true, false, codes, if◌then◌else◌, List, [], ◌∷◌, ◌++◌, Option, None, Some, slice_get}
use Rattle.std.proofs.Common.{◌≡◌, ◌∙◌, ◌+◌, inl, inr, ap, refl, sym, subst, arith}
use Rattle.std.proofs.lemmas.Slice.Eq.{bytes_eq-Decides}
use Rattle.rtl_tree.specs.TreeModule.{Circuit}
use Rattle.rtl_prep.specs.Conditions.{FileConditions}
use Rattle.rtl_text.specs.declared.fault.LexFault.TheVariants as lexing
use Rattle.rtl_prep.specs.declared.fault.PrepFault.TheVariants as preparing
use Rattle.rtl_parse.specs.declared.fault.ParseFault.TheVariants as parsing
use Rattle.rtl_front.specs.Fronts.{AreAsked, AreRead, AreSpelled, IsAsked, IsFirst, IsRead, is_memory}
use Rattle.rtl_front.specs.declared.fault.FileFault.{FileFault}
use Rattle.rtl_front.specs.declared.fault.FileFault.TheVariants.{Lex, Prepare, Parse}
use Rattle.desk_places.specs.Places.{place_within}
use Rattle.desk_refusals.specs.Notices.{in_file, told, token_text}
use Rattle.desk_refusals.specs.Refusals.{line, source_line}
use Rattle.desk_refusals.specs.Words.{word_part}
use Rattle.source_file.specs.declared.SourceFile.{SourceFile}
use Rattle.desk_memo.specs.Texts.{IsRefusal}
use Rattle.source_file.specs.SourceFiles.{texts_in}
use Rattle.desk_memo.specs.declared.answer.Answer.{Answer}
use Rattle.desk_memo.specs.Readings.{AllRead, AreConditions, AreDefined, AreKnown, AreModules, AreReadings, Asks, Defines, IsAskedBy, IsFirstRefused, IsFound, IsKnown, IsReading, Reading, Refuses, Spells, changed_count, first_refusal, is_as_read, or_later, refusal_of}

-- ---- a file that is as it was read

record IsUnchanged {V : Type 0} (file : SourceFile) (reading : Option (Reading V)) (others : ℕ) : Type 0 where
  here : is_as_read file reading ≡ true
  rest : others ≡ 0

unchanged_by : (same : Bool) (others : ℕ) → (if same then 0 else 1) + others ≡ 0 → (same ≡ true) × (others ≡ 0)
unchanged_by true others none = (refl, omega arith)
unchanged_by false others none = absurd (omega arith)

unchanged : {V : Type 0} (file : SourceFile) (reading : Option (Reading V)) (others : ℕ) → (if is_as_read file reading then 0 else 1) + others ≡ 0 → IsUnchanged file reading others
unchanged file reading others none =
    let both = unchanged_by (is_as_read file reading) others none in
    record { here = both.0; rest = both.1 }

-- a file's reading is there, and of its text
record IsReadNow {V : Type 0} (file : SourceFile) (reading : Option (Reading V)) (circuits : List Circuit) : Type 0 where
  read : SourceFile
  same : read ≡ file
  found : IsFound read (refusal_of reading) circuits

same_file : (read file : SourceFile) → read.name ≡ file.name → read.text ≡ file.text → read ≡ file
same_file read file name text =
    ap (λ (it : List ℕ). let made : SourceFile = record { name = it; text = read.text } in made) name
    ∙ ap (λ (it : List ℕ). let made : SourceFile = record { name = file.name; text = it } in made) text

read_now : {V : Type 0} (file : SourceFile) (reading : Option (Reading V)) (circuits : List Circuit) → is_as_read file reading ≡ true → IsReading file reading circuits → IsReadNow file reading circuits
read_now file None circuits same right = absurd (cc)
read_now file (Some reading) circuits same right = record {
  read = reading.file;
  same = same_file reading.file file right.0 ((bytes_eq-Decides reading.file.text file.text).0 same);
  found = right.1;
}

-- ---- files that spell modules

record IsSpelled {V : Type 0} (file : SourceFile) (circuits : List Circuit) (rest : Option (Answer V)) : Type 0 where
  here : Spells file.text circuits
  none : rest ≡ None

spelled_by : {V : Type 0} (read : SourceFile) (refusal rest : Option (Answer V)) (circuits : List Circuit) → IsFound read refusal circuits → or_later refusal rest ≡ None → IsSpelled read circuits rest
spelled_by read None rest circuits found none = record { here = found; none = none }
spelled_by read (Some answer) rest circuits found none = absurd (cc)

spelled_one : {V : Type 0} (file : SourceFile) (reading : Option (Reading V)) (rest : Option (Answer V)) (circuits : List Circuit) → IsReadNow file reading circuits → or_later (refusal_of reading) rest ≡ None → IsSpelled file circuits rest
spelled_one file reading rest circuits now none =
    subst (λ (it : SourceFile). IsSpelled it circuits rest) now.same
    (spelled_by now.read (refusal_of reading) rest circuits now.found none)

only_more : (text : List ℕ) (circuits : List Circuit) (texts : List (List ℕ)) (modules others : List (List Circuit)) → Spells text circuits → AreSpelled texts modules → AreRead (text ∷ texts) others → others ≡ circuits ∷ modules
only_more text circuits texts modules [] here rest read = absurd read
only_more text circuits texts modules (first ∷ others) here rest read =
    ap (λ it. it ∷ others) (here.only first read.0) ∙ ap (λ it. circuits ∷ it) (rest.only others read.1)

only_none : (others : List (List Circuit)) → AreRead [] others → others ≡ []
only_none [] read = refl
only_none (first ∷ others) read = absurd read

pub all_spelled : {V : Type 0} (files : List SourceFile) (readings : List (Option (Reading V))) (modules : List (List Circuit)) → AreReadings files readings modules → changed_count files readings ≡ 0 → first_refusal readings ≡ None → AreSpelled (texts_in files) modules
all_spelled [] (reading ∷ readings) modules right same none = absurd right
all_spelled [] [] (circuits ∷ modules) right same none = absurd right
all_spelled [] [] [] right same none = record { read = tt; only = only_none }
all_spelled (file ∷ files) [] modules right same none = absurd right
all_spelled (file ∷ files) (reading ∷ readings) [] right same none = absurd right
all_spelled (file ∷ files) (reading ∷ readings) (circuits ∷ modules) right same none =
    let now = unchanged file reading (changed_count files readings) same in
    let one = spelled_one file reading (first_refusal readings) circuits (read_now file reading circuits now.here right.0) none in
    let rest = all_spelled files readings modules right.1 now.rest one.none in
    record {
      read = (one.here.read, rest.read);
      only = λ (others : List (List Circuit)) (read : AreRead (texts_in (file ∷ files)) others). only_more file.text circuits (texts_in files) modules others one.here rest read;
    }

-- ---- the line of the first file that spells none

-- the line goes by the file alone, and not by how many stand before it
same_notice : (some others : List SourceFile) (m n : ℕ) (name : List ℕ) (word : Option (List ℕ)) (at : ℕ) → slice_get some m ≡ slice_get others n → line some (told name word (in_file m at)) ≡ line others (told name word (in_file n at))
same_notice some others m n name word at same =
    ap (λ it. codes "refused " ++ name ++ word_part word ++ (codes " at " ++ place_within it at) ++ codes "\n") same

same_line : (some others : List SourceFile) (m n : ℕ) (fault : FileFault) → slice_get some m ≡ slice_get others n → source_line some m fault ≡ source_line others n fault
same_line some others m n (Lex (lexing.NotAscii at)) same = same_notice some others m n (codes "NotAscii") None at same
same_line some others m n (Lex (lexing.BadNumber at)) same = same_notice some others m n (codes "BadNumber") None at same
same_line some others m n (Lex (lexing.BadCharacter at)) same = same_notice some others m n (codes "BadCharacter") None at same
same_line some others m n (Lex (lexing.OpenComment at)) same = same_notice some others m n (codes "OpenComment") None at same
same_line some others m n (Lex (lexing.TooManyTokens at)) same = same_notice some others m n (codes "TooManyTokens") None at same
same_line some others m n (Lex lexing.Memory) same = refl
same_line some others m n (Prepare (preparing.Directive name at)) same = same_notice some others m n (codes "Directive") (Some name.items) at same
same_line some others m n (Prepare (preparing.Unbalanced at)) same = same_notice some others m n (codes "Unbalanced") None at same
same_line some others m n (Prepare (preparing.MacroLoop name at)) same = same_notice some others m n (codes "MacroLoop") (Some name.items) at same
same_line some others m n (Prepare (preparing.TooManyTokens at)) same = same_notice some others m n (codes "TooManyTokens") None at same
same_line some others m n (Prepare preparing.Memory) same = refl
same_line some others m n (Parse (parsing.Refused word at)) same = same_notice some others m n (codes "construct") (Some word.items) at same
same_line some others m n (Parse (parsing.Syntax token at)) same = same_notice some others m n (codes "Syntax") (Some (token_text token.items)) at same
same_line some others m n (Parse (parsing.TooDeep at)) same = same_notice some others m n (codes "TooDeep") None at same
same_line some others m n (Parse parsing.Memory) same = refl

-- ---- the first file that spells none

record IsRefusedFirst {V : Type 0} (files : List SourceFile) (answer : Answer V) : Type 0 where
  number : ℕ
  fault : FileFault
  no_memory : is_memory fault ≡ false
  first : IsFirst (texts_in files) number fault
  told : IsRefusal (source_line files number fault) answer

refused_here : {V : Type 0} (file : SourceFile) (files : List SourceFile) (answer : Answer V) → Refuses file answer → IsRefusedFirst (file ∷ files) answer
refused_here file files answer why = record {
  number = 0;
  fault = why.fault;
  no_memory = why.no_memory;
  first = why.faulty;
  told = subst (λ (it : List ℕ). IsRefusal it answer) (same_line (file ∷ []) (file ∷ files) 0 0 why.fault refl) why.told;
}

refused_later : {V : Type 0} (file : SourceFile) (files : List SourceFile) (circuits : List Circuit) (answer : Answer V) → IsRead file.text circuits → IsRefusedFirst files answer → IsRefusedFirst (file ∷ files) answer
refused_later file files circuits answer read later = record {
  number = suc later.number;
  fault = later.fault;
  no_memory = later.no_memory;
  first = (circuits, read, later.first);
  told = subst (λ (it : List ℕ). IsRefusal it answer) (same_line files (file ∷ files) later.number (suc later.number) later.fault refl) later.told;
}

refused_by : {V : Type 0} (read : SourceFile) (refusal rest : Option (Answer V)) (circuits : List Circuit) (files : List SourceFile) (answer : Answer V) → IsFound read refusal circuits → or_later refusal rest ≡ Some answer → (rest ≡ Some answer → IsRefusedFirst files answer) → IsRefusedFirst (read ∷ files) answer
refused_by read None rest circuits files answer found is later =
    refused_later read files circuits answer found.read (later is)
refused_by {V} read (Some other) rest circuits files answer found is later =
    let same : other ≡ answer = cc in
    refused_here read files answer (subst (λ (it : Answer V). Refuses read it) same found.0)

first_refused : {V : Type 0} (files : List SourceFile) (readings : List (Option (Reading V))) (modules : List (List Circuit)) (answer : Answer V) → AreReadings files readings modules → changed_count files readings ≡ 0 → first_refusal readings ≡ Some answer → IsRefusedFirst files answer
first_refused [] (reading ∷ readings) modules answer right same is = absurd right
first_refused [] [] modules answer right same is = absurd (cc)
first_refused (file ∷ files) [] modules answer right same is = absurd right
first_refused (file ∷ files) (reading ∷ readings) [] answer right same is = absurd right
first_refused (file ∷ files) (reading ∷ readings) (circuits ∷ modules) answer right same is =
    let unchanged_all = unchanged file reading (changed_count files readings) same in
    let now = read_now file reading circuits unchanged_all.here right.0 in
    subst (λ (it : SourceFile). IsRefusedFirst (it ∷ files) answer) now.same
    (refused_by now.read (refusal_of reading) (first_refusal readings) circuits files answer now.found is
    (λ (later : first_refusal readings ≡ Some answer). first_refused files readings modules answer right.1 unchanged_all.rest later))

pub all_refused : {V : Type 0} (files : List SourceFile) (readings : List (Option (Reading V))) (modules : List (List Circuit)) (answer : Answer V) → AreReadings files readings modules → changed_count files readings ≡ 0 → first_refusal readings ≡ Some answer → IsFirstRefused files answer
all_refused files readings modules answer right same is =
    let first = first_refused files readings modules answer right same is in
    record { number = first.number; fault = first.fault; faulty = (first.no_memory, first.first); told = first.told }

-- ---- one list of modules

-- no text is both read and refused
abbrev pub NeverBoth : Type 0
NeverBoth = (texts : List (List ℕ)) (circuits : List (List Circuit)) (number : ℕ) (fault : FileFault) → is_memory fault ≡ false → AreRead texts circuits → IsFirst texts number fault → ⊥

defined_by : {V : Type 0} → NeverBoth → (read : SourceFile) (refusal : Option (Answer V)) (circuits others : List Circuit) → IsFound read refusal circuits → Defines read.text others → others ≡ circuits
defined_by never read None circuits others found (inl spelled) = found.only others spelled
defined_by never read None circuits others found (inr none) = absurd (none.1 circuits found.read)
defined_by never read (Some answer) circuits others found (inl spelled) =
    absurd (never (read.text ∷ []) (others ∷ []) 0 found.0.fault found.0.no_memory (spelled, tt) found.0.faulty)
defined_by never read (Some answer) circuits others found (inr none) = none.0 ∙ sym found.1

defined_one : {V : Type 0} → NeverBoth → (file : SourceFile) (reading : Option (Reading V)) (circuits others : List Circuit) → IsReadNow file reading circuits → Defines file.text others → others ≡ circuits
defined_one never file reading circuits others now defined =
    defined_by never now.read (refusal_of reading) circuits others now.found
    (subst (λ (it : SourceFile). Defines it.text others) (sym now.same) defined)

one_modules : {V : Type 0} → NeverBoth → (files : List SourceFile) (readings : List (Option (Reading V))) (modules others : List (List Circuit)) → AreReadings files readings modules → changed_count files readings ≡ 0 → AreModules (texts_in files) others → others ≡ modules
one_modules never [] (reading ∷ readings) modules others right same defined = absurd right
one_modules never [] [] (circuits ∷ modules) others right same defined = absurd right
one_modules never [] [] [] [] right same defined = refl
one_modules never [] [] [] (other ∷ others) right same defined = absurd defined
one_modules never (file ∷ files) [] modules others right same defined = absurd right
one_modules never (file ∷ files) (reading ∷ readings) [] others right same defined = absurd right
one_modules never (file ∷ files) (reading ∷ readings) (circuits ∷ modules) [] right same defined = absurd defined
one_modules never (file ∷ files) (reading ∷ readings) (circuits ∷ modules) (other ∷ others) right same defined =
    let now = unchanged file reading (changed_count files readings) same in
    ap (λ it. it ∷ others) (defined_one never file reading circuits other (read_now file reading circuits now.here right.0) defined.0)
    ∙ ap (λ it. circuits ∷ it) (one_modules never files readings modules others right.1 now.rest defined.1)

-- ---- what conditions ask

asked_now : {V : Type 0} (file : SourceFile) (reading : Option (Reading V)) (circuits : List Circuit) (asked : FileConditions) → is_as_read file reading ≡ true → IsReading file reading circuits → IsKnown reading asked → IsAskedBy file (refusal_of reading) asked
asked_now file None circuits asked same right known = absurd (cc)
asked_now file (Some reading) circuits asked same right known =
    subst (λ (it : SourceFile). IsAskedBy it reading.refusal asked)
    (same_file reading.file file right.0 ((bytes_eq-Decides reading.file.text file.text).0 same)) known

found_now : {V : Type 0} (file : SourceFile) (reading : Option (Reading V)) (circuits : List Circuit) → IsReadNow file reading circuits → IsFound file (refusal_of reading) circuits
found_now file reading circuits now =
    subst (λ (it : SourceFile). IsFound it (refusal_of reading) circuits) now.same now.found

asked_if : {V : Type 0} (file : SourceFile) (refusal rest : Option (Answer V)) (asked : FileConditions) → IsAskedBy file refusal asked → or_later refusal rest ≡ None → IsAsked file.text asked × (rest ≡ None)
asked_if file None rest asked known none = (known, none)
asked_if file (Some answer) rest asked known none = absurd (cc)

-- where none is refused, their conditions ask what is kept
pub all_asked : {V : Type 0} (files : List SourceFile) (readings : List (Option (Reading V))) (modules : List (List Circuit)) (conditions : List FileConditions) → AreReadings files readings modules → AreKnown readings conditions → changed_count files readings ≡ 0 → first_refusal readings ≡ None → AreAsked (texts_in files) conditions
all_asked [] (reading ∷ readings) modules conditions right known same none = absurd right
all_asked [] [] modules (asked ∷ conditions) right known same none = absurd known
all_asked [] [] modules [] right known same none = tt
all_asked (file ∷ files) [] modules conditions right known same none = absurd right
all_asked (file ∷ files) (reading ∷ readings) [] conditions right known same none = absurd right
all_asked (file ∷ files) (reading ∷ readings) (circuits ∷ modules) [] right known same none = absurd known
all_asked (file ∷ files) (reading ∷ readings) (circuits ∷ modules) (asked ∷ conditions) right known same none =
    let now = unchanged file reading (changed_count files readings) same in
    let one = asked_if file (refusal_of reading) (first_refusal readings) asked (asked_now file reading circuits asked now.here right.0 known.0) none in
    (one.0, all_asked files readings modules conditions right.1 known.1 now.rest one.1)

-- what a text asks is one thing
abbrev pub OneAsked : Type 0
OneAsked = (texts : List (List ℕ)) (a b : List FileConditions) → AreAsked texts a → AreAsked texts b → a ≡ b

asks_by : {V : Type 0} → NeverBoth → OneAsked → (file : SourceFile) (refusal : Option (Answer V)) (circuits : List Circuit) (asked other : FileConditions) → IsFound file refusal circuits → IsAskedBy file refusal asked → Asks file.text other → other ≡ asked
asks_by never once file None circuits asked other found known (inl asks) =
    let both : other ∷ [] ≡ asked ∷ [] = once (file.text ∷ []) (other ∷ []) (asked ∷ []) (asks.2, tt) (known, tt) in cc
asks_by never once file None circuits asked other found known (inr none) = absurd (none.1 circuits found.read)
asks_by never once file (Some answer) circuits asked other found known (inl asks) =
    absurd (never (file.text ∷ []) (asks.0 ∷ []) 0 found.0.fault found.0.no_memory (asks.1, tt) found.0.faulty)
asks_by never once file (Some answer) circuits asked other found known (inr none) = none.0 ∙ sym known

one_conditions : {V : Type 0} → NeverBoth → OneAsked → (files : List SourceFile) (readings : List (Option (Reading V))) (modules : List (List Circuit)) (conditions others : List FileConditions) → AreReadings files readings modules → AreKnown readings conditions → changed_count files readings ≡ 0 → AreConditions (texts_in files) others → others ≡ conditions
one_conditions never once [] (reading ∷ readings) modules conditions others right known same asks = absurd right
one_conditions never once [] [] modules (asked ∷ conditions) others right known same asks = absurd known
one_conditions never once [] [] modules [] [] right known same asks = refl
one_conditions never once [] [] modules [] (other ∷ others) right known same asks = absurd asks
one_conditions never once (file ∷ files) [] modules conditions others right known same asks = absurd right
one_conditions never once (file ∷ files) (reading ∷ readings) [] conditions others right known same asks = absurd right
one_conditions never once (file ∷ files) (reading ∷ readings) (circuits ∷ modules) [] others right known same asks = absurd known
one_conditions never once (file ∷ files) (reading ∷ readings) (circuits ∷ modules) (asked ∷ conditions) [] right known same asks = absurd asks
one_conditions never once (file ∷ files) (reading ∷ readings) (circuits ∷ modules) (asked ∷ conditions) (other ∷ others) right known same asks =
    let now = unchanged file reading (changed_count files readings) same in
    let here =
    asks_by never once file (refusal_of reading) circuits asked other
    (found_now file reading circuits (read_now file reading circuits now.here right.0))
    (asked_now file reading circuits asked now.here right.0 known.0) asks.0
    in
    ap (λ it. it ∷ others) here
    ∙ ap (λ it. asked ∷ it) (one_conditions never once files readings modules conditions others right.1 known.1 now.rest asks.1)

-- the texts settle all that they define
pub one_list : {V : Type 0} → NeverBoth → OneAsked → (files : List SourceFile) (readings : List (Option (Reading V))) (modules : List (List Circuit)) (conditions : List FileConditions) (others : AllRead) → AreReadings files readings modules → AreKnown readings conditions → changed_count files readings ≡ 0 → AreDefined (texts_in files) others → others ≡ record { modules = modules; conditions = conditions }
one_list never once files readings modules conditions others right known same defined =
    ap (λ (it : List (List Circuit)). let made : AllRead = record { modules = it; conditions = others.conditions } in made)
    (one_modules never files readings modules others.modules right same defined.modules)
    ∙ ap (λ (it : List FileConditions). let made : AllRead = record { modules = modules; conditions = it } in made)
    (one_conditions never once files readings modules conditions others.conditions right known same defined.conditions)
