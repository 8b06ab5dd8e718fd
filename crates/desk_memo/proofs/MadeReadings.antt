-- What is read beside what is kept.
use Rattle.std.specs.Prelude.{ℕ, zero, suc, Bool, true, false, bytes_eq, if◌then◌else◌, List, [], ◌∷◌, ◌++◌, Option, None, Some, option_map, Vec, map}
use Rattle.std.specs.declared.alloc.Global.{Global}
use Rattle.std.proofs.Common.{◌≡◌, ◌∙◌, ◌<◌, ◌≤◌, ◌+◌, length, take, drop, get_or, ap, refl, sym, subst, arith, add-one}
use Rattle.std.proofs.lemmas.List.{length-map, take_all, take_more}
use Rattle.std.proofs.lemmas.Slice.Eq.{bytes_eq-Decides}
use Rattle.rtl_tree.specs.TreeModule.{Circuit, circuit}
use Rattle.rtl_tree.specs.declared.tree.modules.Module.{Module}
use Rattle.elab_lookups.specs.elab_links.Modules.{circuits_of}
use Rattle.source_file.specs.declared.SourceFile.{SourceFile}
use Rattle.desk_memo.specs.Exchanges.{or_old, put_in}
use Rattle.desk_memo.specs.Readings.{AreReadings, IsFound, IsReading, Reading, changed_count, is_as_read}
use Rattle.desk_memo.specs.ShownReadings.{AreMade, AreSame, IsMade, IsNew, IsSame, are_as_read, down_count, flags_in, is_current, reading_of, readings_in}
use Rattle.desk_memo.specs.declared.reading.Reading.{Reading as Held}

-- ---- flags that are down

pub as_many : {V : Type 0} (files : List SourceFile) (readings : List (Option (Reading V))) → down_count (are_as_read files readings) ≡ changed_count files readings
as_many [] readings = refl
as_many (file ∷ files) [] = refl
as_many (file ∷ files) (reading ∷ readings) =
    ap (λ it. (if is_as_read file reading then 0 else 1) + it) (as_many files readings)

pub same_length : {V : Type 0} (files : List SourceFile) (readings : List (Option (Reading V))) (modules : List (List Circuit)) → AreReadings files readings modules → length files ≡ length readings
same_length [] [] modules right = refl
same_length [] (reading ∷ readings) modules right = absurd right
same_length (file ∷ files) [] modules right = absurd right
same_length (file ∷ files) (reading ∷ readings) [] right = absurd right
same_length (file ∷ files) (reading ∷ readings) (circuits ∷ modules) right =
    ap suc (same_length files readings modules right.1)

-- as many modules as files
pub modules_length : {V : Type 0} (files : List SourceFile) (readings : List (Option (Reading V))) (modules : List (List Circuit)) → AreReadings files readings modules → length files ≡ length modules
modules_length [] [] [] right = refl
modules_length [] [] (circuits ∷ modules) right = absurd right
modules_length [] (reading ∷ readings) modules right = absurd right
modules_length (file ∷ files) [] modules right = absurd right
modules_length (file ∷ files) (reading ∷ readings) [] right = absurd right
modules_length (file ∷ files) (reading ∷ readings) (circuits ∷ modules) right =
    ap suc (modules_length files readings modules right.1)

pub held_length : {V : Type 0} (files : List SourceFile) (helds : List (Option (Held V))) (modules : List (List Circuit)) → AreReadings files (readings_in helds) modules → length files ≡ length helds
held_length files helds modules right =
    same_length files (readings_in helds) modules right ∙ length-map helds (λ held. option_map reading_of held)

pub vec_length : {V : Type 0} (files : List SourceFile) (readings : List (Option (Reading V))) (vecs : List (Vec Module Global)) → AreReadings files readings (circuits_of vecs) → length files ≡ length vecs
vec_length files readings vecs right =
    modules_length files readings (circuits_of vecs) right ∙ length-map vecs (λ file. map circuit file.items)

-- ---- one file more

pub made_more : {V : Type 0} (files : List SourceFile) (flags : List Bool) (helds : List (Option (Option (Held V)))) (modules : List (Option (Vec Module Global))) (file : SourceFile) (flag : Bool) (held : Option (Option (Held V))) (vec : Option (Vec Module Global)) → AreMade files flags helds modules → IsMade file flag held vec → AreMade (files ++ file ∷ []) (flags ++ flag ∷ []) (helds ++ held ∷ []) (modules ++ vec ∷ [])
made_more [] [] [] [] file flag held vec made here = (here, tt)
made_more [] (f ∷ flags) helds modules file flag held vec made here = absurd made
made_more [] [] (h ∷ helds) modules file flag held vec made here = absurd made
made_more [] [] [] (m ∷ modules) file flag held vec made here = absurd made
made_more (first ∷ files) [] helds modules file flag held vec made here = absurd made
made_more (first ∷ files) (f ∷ flags) [] modules file flag held vec made here = absurd made
made_more (first ∷ files) (f ∷ flags) (h ∷ helds) [] file flag held vec made here = absurd made
made_more (first ∷ files) (f ∷ flags) (h ∷ helds) (m ∷ modules) file flag held vec made here =
    (made.0, made_more files flags helds modules file flag held vec made.1 here)

flag_here : {V : Type 0} (helds : List (Option (Held V))) (number : ℕ) (d : Option (Held V)) → get_or (flags_in helds) number (is_current d) ≡ is_current (get_or helds number d)
flag_here [] number d = refl
flag_here (held ∷ helds) zero d = refl
flag_here (held ∷ helds) (suc number) d = flag_here helds number d

pub made_next : {V : Type 0} (files : List SourceFile) (helds : List (Option (Held V))) (number : ℕ) (file : SourceFile) (held : Option (Held V)) (olds news : List (Option (Option (Held V)))) (vecs mades : List (Option (Vec Module Global))) (new : Option (Option (Held V))) (made : Option (Vec Module Global)) → number < length files → number < length helds → file ≡ get_or files number file → held ≡ get_or helds number held → AreMade (take number files) (take number (flags_in helds)) olds vecs → IsMade file (is_current held) new made → news ≡ olds ++ new ∷ [] → mades ≡ vecs ++ made ∷ [] → AreMade (take (number + 1) files) (take (number + 1) (flags_in helds)) news mades
made_next {V} files helds number file held olds news vecs mades new made file_in held_in read here all one is there =
    let front : take (number + 1) files ≡ take number files ++ file ∷ [] =
    take_more files number file file_in ∙ ap (λ it. take number files ++ it ∷ []) (sym read) in
    let flags : take (number + 1) (flags_in helds) ≡ take number (flags_in helds) ++ is_current held ∷ [] =
    take_more (flags_in helds) number (is_current held) (omega (arith, length-map helds is_current))
    ∙ ap (λ it. take number (flags_in helds) ++ it ∷ []) (flag_here helds number held ∙ ap is_current (sym here)) in
    subst (λ (it : List SourceFile). AreMade it (take (number + 1) (flags_in helds)) news mades) (sym front)
    (subst (λ (it : List Bool). AreMade (take number files ++ file ∷ []) it news mades) (sym flags)
    (subst (λ (it : List (Option (Option (Held V)))). AreMade (take number files ++ file ∷ []) (take number (flags_in helds) ++ is_current held ∷ []) it mades) (sym is)
    (subst (λ (it : List (Option (Vec Module Global))). AreMade (take number files ++ file ∷ []) (take number (flags_in helds) ++ is_current held ∷ []) (olds ++ new ∷ []) it) (sym there)
    (made_more (take number files) (take number (flags_in helds)) olds vecs file (is_current held) new made all one))))

-- all files
pub made_all : {V : Type 0} (files : List SourceFile) (flags : List Bool) (number : ℕ) (news : List (Option (Option (Held V)))) (mades : List (Option (Vec Module Global))) → length files ≤ number → length flags ≤ number → AreMade (take number files) (take number flags) news mades → AreMade files flags news mades
made_all files flags number news mades all as_all made =
    subst (λ (it : List SourceFile). AreMade it flags news mades) (take_all number files all)
    (subst (λ (it : List Bool). AreMade (take number files) it news mades) (take_all number flags as_all) made)

-- ---- how many flags are down from a place on

down_step : {V : Type 0} (helds : List (Option (Held V))) (number : ℕ) (d : Option (Held V)) → number < length helds → down_count (drop number (flags_in helds)) ≡ (if is_current (get_or helds number d) then 0 else 1) + down_count (drop (suc number) (flags_in helds))
down_step [] number d inside = absurd (omega arith)
down_step (held ∷ helds) zero d inside = refl
down_step (held ∷ helds) (suc number) d inside = down_step helds number d (omega arith)

down_by : {V : Type 0} (flag : Bool) (helds : List (Option (Held V))) (number : ℕ) (held : Option (Held V)) → number < length helds → held ≡ get_or helds number held → is_current held ≡ flag → down_count (drop number (flags_in helds)) ≡ (if flag then 0 else 1) + down_count (drop (number + 1) (flags_in helds))
down_by flag helds number held inside here is =
    down_step helds number held inside
    ∙ ap (λ it. (if it then 0 else 1) + down_count (drop (suc number) (flags_in helds))) (ap is_current (sym here) ∙ is)
    ∙ ap (λ it. (if flag then 0 else 1) + down_count (drop it (flags_in helds))) (sym (add-one number))

pub down_same : {V : Type 0} (helds : List (Option (Held V))) (number : ℕ) (held : Option (Held V)) → number < length helds → held ≡ get_or helds number held → is_current held ≡ true → down_count (drop number (flags_in helds)) ≡ down_count (drop (number + 1) (flags_in helds))
down_same helds number held inside here is =
    let by : down_count (drop number (flags_in helds)) ≡ 0 + down_count (drop (number + 1) (flags_in helds)) = down_by true helds number held inside here is in omega arith

pub down_less : {V : Type 0} (helds : List (Option (Held V))) (number : ℕ) (held : Option (Held V)) → number < length helds → held ≡ get_or helds number held → is_current held ≡ false → down_count (drop number (flags_in helds)) ≡ 1 + down_count (drop (number + 1) (flags_in helds))
down_less helds number held inside here is = down_by false helds number held inside here is

-- ---- what an exchange leaves of one file

record Left {V : Type 0} (file : SourceFile) (held : Option (Held V)) (vec : Vec Module Global) (new : Option (Held V)) (made : Vec Module Global) : Type 0 where
  right : IsReading file (option_map reading_of new) (map circuit made.items)
  flagged : is_current new ≡ is_as_read file (option_map reading_of new)
  unchanged : is_as_read file (option_map reading_of new) ≡ true
  same : IsSame (is_as_read file (option_map reading_of held)) (option_map reading_of held) (option_map reading_of new) (map circuit vec.items) (map circuit made.items)

kept_one : {V : Type 0} (file : SourceFile) (held : Option (Held V)) (vec : Vec Module Global) → true ≡ is_current held → IsReading file (option_map reading_of held) (map circuit vec.items) → is_current held ≡ is_as_read file (option_map reading_of held) → Left file held vec held vec
kept_one file held vec up right flagged = record {
  right = right;
  flagged = flagged;
  unchanged = sym (up ∙ flagged);
  same = subst (λ (it : Bool). IsSame it (option_map reading_of held) (option_map reading_of held) (map circuit vec.items) (map circuit vec.items)) (up ∙ flagged) (refl, refl);
}

new_one : {V : Type 0} (file : SourceFile) (held : Option (Held V)) (vec : Vec Module Global) (new : Held V) (made : Vec Module Global) → false ≡ is_as_read file (option_map reading_of held) → IsNew file new made → Left file held vec (Some new) made
new_one file held vec new made down is =
    let text : bytes_eq new.file.value.text file.text ≡ true = (bytes_eq-Decides new.file.value.text file.text).1 (ap (λ (it : SourceFile). it.text) is.file_is) in
    record {
      right = (ap (λ (it : SourceFile). it.name) is.file_is, subst (λ (it : SourceFile). IsFound it (option_map (λ refusal. refusal.value) new.refusal) (map circuit made.items)) (sym is.file_is) is.found);
      flagged = is.current ∙ sym text;
      unchanged = text;
      same = subst (λ (it : Bool). IsSame it (option_map reading_of held) (Some (reading_of new)) (map circuit vec.items) (map circuit made.items)) down tt;
    }

left_by : {V : Type 0} (flag : Bool) (file : SourceFile) (held : Option (Held V)) (vec : Vec Module Global) (new : Option (Option (Held V))) (made : Option (Vec Module Global)) → flag ≡ is_current held → IsReading file (option_map reading_of held) (map circuit vec.items) → is_current held ≡ is_as_read file (option_map reading_of held) → IsMade file flag new made → Left file held vec (or_old new held) (or_old made vec)
left_by true file held vec None None flag right flagged is = kept_one file held vec flag right flagged
left_by true file held vec None (Some made) flag right flagged is = absurd is
left_by true file held vec (Some new) made flag right flagged is = absurd is
left_by false file held vec None made flag right flagged is = absurd is
left_by false file held vec (Some new) None flag right flagged is = absurd is
left_by false file held vec (Some None) (Some made) flag right flagged is = absurd is
left_by false file held vec (Some (Some new)) (Some made) flag right flagged is =
    new_one file held vec new made (flag ∙ flagged) is

-- ---- what an exchange leaves of all

pub record AllLeft {V : Type 0} (files : List SourceFile) (helds : List (Option (Held V))) (vecs : List (Vec Module Global)) (news : List (Option (Held V))) (mades : List (Vec Module Global)) : Type 0 where
  pub right : AreReadings files (readings_in news) (circuits_of mades)
  pub flagged : flags_in news ≡ are_as_read files (readings_in news)
  pub unchanged : changed_count files (readings_in news) ≡ 0
  pub same : AreSame (are_as_read files (readings_in helds)) (readings_in helds) (readings_in news) (circuits_of vecs) (circuits_of mades)

none_more : (same : Bool) (others : ℕ) → same ≡ true → others ≡ 0 → (if same then 0 else 1) + others ≡ 0
none_more true others is none = omega arith
none_more false others is none = absurd (cc)

with_one : {V : Type 0} (file : SourceFile) (held : Option (Held V)) (vec : Vec Module Global) (new : Option (Held V)) (made : Vec Module Global) (files : List SourceFile) (helds : List (Option (Held V))) (vecs : List (Vec Module Global)) (news : List (Option (Held V))) (mades : List (Vec Module Global)) → Left file held vec new made → AllLeft files helds vecs news mades → AllLeft (file ∷ files) (held ∷ helds) (vec ∷ vecs) (new ∷ news) (made ∷ mades)
with_one file held vec new made files helds vecs news mades one all = record {
  right = (one.right, all.right);
  flagged = ap (λ it. it ∷ flags_in news) one.flagged ∙ ap (λ it. is_as_read file (option_map reading_of new) ∷ it) all.flagged;
  unchanged = none_more (is_as_read file (option_map reading_of new)) (changed_count files (readings_in news)) one.unchanged all.unchanged;
  same = (one.same, all.same);
}

pub all_left : {V : Type 0} (files : List SourceFile) (helds : List (Option (Held V))) (vecs : List (Vec Module Global)) (news : List (Option (Option (Held V)))) (mades : List (Option (Vec Module Global))) → AreReadings files (readings_in helds) (circuits_of vecs) → flags_in helds ≡ are_as_read files (readings_in helds) → AreMade files (flags_in helds) news mades → AllLeft files helds vecs (put_in news helds) (put_in mades vecs)
all_left [] (held ∷ helds) vecs news mades right flagged made = absurd right
all_left [] [] (vec ∷ vecs) news mades right flagged made = absurd right
all_left [] [] [] (new ∷ news) mades right flagged made = absurd made
all_left [] [] [] [] (it ∷ mades) right flagged made = absurd made
all_left [] [] [] [] [] right flagged made = record { right = tt; flagged = refl; unchanged = refl; same = tt }
all_left (file ∷ files) [] vecs news mades right flagged made = absurd right
all_left (file ∷ files) (held ∷ helds) [] news mades right flagged made = absurd right
all_left (file ∷ files) (held ∷ helds) (vec ∷ vecs) [] mades right flagged made = absurd made
all_left (file ∷ files) (held ∷ helds) (vec ∷ vecs) (new ∷ news) [] right flagged made = absurd made
all_left (file ∷ files) (held ∷ helds) (vec ∷ vecs) (new ∷ news) (it ∷ mades) right flagged made =
    let here : is_current held ≡ is_as_read file (option_map reading_of held) = cc in
    let rest : flags_in helds ≡ are_as_read files (readings_in helds) = cc in
    with_one file held vec (or_old new held) (or_old it vec) files helds vecs (put_in news helds) (put_in mades vecs)
    (left_by (is_current held) file held vec new it refl right.0 here made.0)
    (all_left files helds vecs news mades right.1 rest made.1)
