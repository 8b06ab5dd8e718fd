-- Which answers are there, and which of them stay.
use Rattle.std.proofs.Common.{◌≡◌, Bor, ℕ, Bool, true, false, cond, List, ◌++◌, ap, sym, refl, subst, ◌∙◌}
use Rattle.std.specs.Prelude.{◌==◌, ◌&&◌, not, bytes_eq, find, is_some, option_copied, IfSome, IsSome, OnErr, OnOk, Option, Some, None, Ok, Err, Result, Vec, option_to_list}
use Rattle.std.specs.List.{All, Contains}
use Rattle.std.specs.Option.{option_map}
use Rattle.std.specs.declared.alloc.Global.{Global}
use Rattle.std.proofs.lemmas.Bool.Decides.{Decides-eqb}
use Rattle.std.proofs.lemmas.Slice.Eq.{bytes_eq-Decides}
use Rattle.rtl_tree.specs.TreeModule.{Circuit}
use Rattle.desk_memo.specs.rtl_prep.Conditions.{FileConditions}
use Rattle.rtl_tree.specs.declared.tree.modules.Module.{Module}
use Rattle.desk_memo.specs.elab_links.Modules.{circuits_of}
use Rattle.source_file.specs.declared.SourceFile.{SourceFile}
use Rattle.desk_answers.specs.desk_build.Building.{Faulty}
use Rattle.desk_memo.specs.Readings.{AllRead, IsFirstRefused, changed_count, first_refusal}
use Rattle.desk_memo.specs.Rulings.{current_of, is_current, is_of, others_of}
use Rattle.design_db.specs.Answers.{Answer, IsFresh, IsRuling, Reading, Ruling}
use Rattle.design_db.specs.Stores.{Store, all_rulings, answer_of, changed_in, circuits_in, lasting_answer, read_in, refusal_or}
use Rattle.design_db.proofs.Finds.{find_front, find_holds, find_kept, find_there, mapped_some, some_mapped}

-- ---- an answer that is there is what the files say

-- that of the first file that spells no modules
pub unread_fresh : (files : List SourceFile) (top : List ℕ) (answer : Answer) → IsFirstRefused files answer → IsFresh files top answer
unread_fresh files top answer refused =
    record { front = Faulty refused.number refused.fault; is_front = refused.faulty; is = refused.told }

both : (a b : Bool) → (a && b) ≡ true → (a ≡ true) × (b ≡ true)
both true b all = (refl, all)
both false b all = absurd (cc)

found_by : (files : List SourceFile) (all : AllRead) (top : List ℕ) (found : Option Ruling) → ((ruling : Ruling) → IsRuling ruling → is_current files all ruling ≡ true → IsFresh files ruling.top ruling.answer) → IfSome found (λ ruling. IsRuling ruling × ((is_of top ruling && is_current files all ruling) ≡ true)) → IfSome found (λ ruling. IsFresh files top ruling.answer)
found_by files all top None law holds = tt
found_by files all top (Some ruling) law holds =
    let parts = both (is_of top ruling) (is_current files all ruling) holds.1 in
    subst (λ (it : List ℕ). IsFresh files it ruling.answer) ((bytes_eq-Decides ruling.top top).0 parts.0)
    (law ruling holds.0 parts.1)

fresh_by : (files : List SourceFile) (top : List ℕ) (refusal : Option Answer) (found : Option Ruling) → ((answer : Answer) → refusal ≡ Some answer → IsFresh files top answer) → (refusal ≡ None → IfSome found (λ ruling. IsFresh files top ruling.answer)) → IfSome (refusal_or refusal (option_map (λ (ruling : Ruling). ruling.answer) found)) (IsFresh files top)
fresh_by files top (Some answer) found refused ruled = refused answer refl
fresh_by files top None None refused ruled = tt
fresh_by files top None (Some ruling) refused ruled = ruled refl

fresh_at : (files : List SourceFile) (top : List ℕ) (b : Bool) (answer : Option Answer) → (b ≡ true → IfSome answer (IsFresh files top)) → IfSome (cond b answer None) (IsFresh files top)
fresh_at files top true answer is = is refl
fresh_at files top false answer is = tt

pub are_fresh : (store : Store) (top : List ℕ) → All IsRuling (all_rulings store) → (changed_in store ≡ 0 → (answer : Answer) → first_refusal store.readings ≡ Some answer → IsFresh store.files top answer) → (changed_in store ≡ 0 → first_refusal store.readings ≡ None → (ruling : Ruling) → IsRuling ruling → is_current store.files (read_in store) ruling ≡ true → IsFresh store.files ruling.top ruling.answer) → IfSome (answer_of store top) (IsFresh store.files top)
are_fresh store top right refused ruled =
    let found = current_of store.files (read_in store) top (all_rulings store) in
    let refusal = first_refusal store.readings in
    fresh_at store.files top (changed_in store == 0) (refusal_or refusal (option_map (λ (ruling : Ruling). ruling.answer) found))
    (λ same. let zero : changed_in store ≡ 0 = (Decides-eqb (changed_in store) 0).0 same in
    fresh_by store.files top refusal found (refused zero) (λ none.
    found_by store.files (read_in store) top found (ruled zero none)
    (find_holds IsRuling (λ ruling. is_of top ruling && is_current store.files (read_in store) ruling) (all_rulings store) right)))

-- ---- an answer is there once it was worked out

pub known_ruling : (refusal : Option Answer) (found : Option Ruling) → IsSome found → IsSome (refusal_or refusal (option_map (λ (ruling : Ruling). ruling.answer) found))
known_ruling None found some = mapped_some (λ (ruling : Ruling). ruling.answer) found some
known_ruling (Some it) found some = refl

pub known_kept : (files : List SourceFile) (all : AllRead) (top : List ℕ) (refusal : Option Answer) (ruling : Ruling) (rulings : List Ruling) → ruling.top ≡ top → is_current files all ruling ≡ true → Contains rulings ruling → IsSome (refusal_or refusal (option_map (λ (ruling : Ruling). ruling.answer) (current_of files all top rulings)))
known_kept files all top refusal ruling rulings is current there =
    let passes : (is_of top ruling && is_current files all ruling) ≡ true =
    ap (λ b. b && is_current files all ruling) ((bytes_eq-Decides ruling.top top).1 is) ∙ current
    in known_ruling refusal (current_of files all top rulings)
    (find_there (λ it. is_of top it && is_current files all it) ruling rulings there passes)

-- ---- an answer stays when another top is ruled

front_by : (b : Bool) (refusal : Option Answer) (p : Ruling → Bool) (first further : List Ruling) → IsSome (cond b (refusal_or refusal (option_map (λ (ruling : Ruling). ruling.answer) (find p first))) None) → cond b (refusal_or refusal (option_map (λ (ruling : Ruling). ruling.answer) (find p (first ++ further)))) None ≡ cond b (refusal_or refusal (option_map (λ (ruling : Ruling). ruling.answer) (find p first))) None
front_by true None p first further some =
    ap (λ (found : Option Ruling). option_map (λ (ruling : Ruling). ruling.answer) found)
    (find_front p first further (some_mapped (λ (ruling : Ruling). ruling.answer) (find p first) some))
front_by true (Some refusal) p first further some = refl
front_by false refusal p first further some = refl

-- an answer that stays is the one that is there
pub lasting_is : (store : Store) (top : List ℕ) → IsSome (lasting_answer store top) → answer_of store top ≡ lasting_answer store top
lasting_is store top some =
    front_by (changed_in store == 0) (first_refusal store.readings)
    (λ ruling. is_of top ruling && is_current store.files (read_in store) ruling) store.rulings
    (option_to_list store.absent) some

not_both : (top other name : List ℕ) → (other ≡ top → ⊥) → bytes_eq name other ≡ true → not (bytes_eq name top) ≡ true
not_both top other name differ same =
    elim (bytes_eq name top) as (λ b. (b ≡ true → ⊥) → not b ≡ true) [
      | true ↦ λ never. absurd (never refl)
      | false ↦ λ never. refl
    ] (λ it. differ (sym ((bytes_eq-Decides name other).0 same) ∙ (bytes_eq-Decides name top).0 it))

-- a ruling of another top is found as before
others_found : (holds : Ruling → Bool) (top other : List ℕ) (old new : List Ruling) → (other ≡ top → ⊥) → others_of top new ≡ others_of top old → find (λ ruling. is_of other ruling && holds ruling) new ≡ find (λ ruling. is_of other ruling && holds ruling) old
others_found holds top other old new differ same =
    let p : Ruling → Bool = λ ruling. is_of other ruling && holds ruling in
    let q : Ruling → Bool = λ ruling. not (is_of top ruling) in
    let implied : (ruling : Ruling) → p ruling ≡ true → q ruling ≡ true =
    λ ruling pass. not_both top other ruling.top differ (both (is_of other ruling) (holds ruling) pass).0
    in sym (find_kept p q implied new) ∙ ap (λ (it : List Ruling). find p it) same ∙ find_kept p q implied old

-- the answer for a top, by the parts of a store
abbrev held : List SourceFile → List (Option Reading) → List (Vec Module Global) → List FileConditions → List Ruling → List ℕ → Option Answer
held files readings modules conditions rulings top =
    cond (changed_count files readings == 0)
    (refusal_or (first_refusal readings) (option_map (λ (ruling : Ruling). ruling.answer) (current_of files (record { modules = circuits_of modules; conditions = conditions }) top rulings)))
    None

held_same : (old new : Store) (top other : List ℕ) → new.files ≡ old.files → new.readings ≡ old.readings → new.modules ≡ old.modules → new.conditions ≡ old.conditions → others_of top new.rulings ≡ others_of top old.rulings → (other ≡ top → ⊥) → lasting_answer new other ≡ lasting_answer old other
held_same old new top other files readings modules conditions rulings differ =
    ap (λ (it : List SourceFile). held it new.readings new.modules new.conditions new.rulings other) files
    ∙ ap (λ (it : List (Option Reading)). held old.files it new.modules new.conditions new.rulings other) readings
    ∙ ap (λ (it : List (Vec Module Global)). held old.files old.readings it new.conditions new.rulings other) modules
    ∙ ap (λ (it : List FileConditions). held old.files old.readings old.modules it new.rulings other) conditions
    ∙ ap (λ (found : Option Ruling). cond (changed_count old.files old.readings == 0) (refusal_or (first_refusal old.readings) (option_map (λ (ruling : Ruling). ruling.answer) found)) None)
    (others_found (is_current old.files (read_in old)) top other old.rulings new.rulings differ rulings)

lasts_by : (old new : Store) (top other : List ℕ) (same : Bool) → bytes_eq other top ≡ same → new.files ≡ old.files → new.readings ≡ old.readings → new.modules ≡ old.modules → new.conditions ≡ old.conditions → others_of top new.rulings ≡ others_of top old.rulings → (IsSome (answer_of old top) → ⊥) → IsSome (lasting_answer old other) → answer_of new other ≡ answer_of old other
lasts_by old new top other true same files readings modules conditions rulings unknown some =
    let is : other ≡ top = (bytes_eq-Decides other top).0 same in
    absurd (unknown (subst (λ (it : List ℕ). IsSome (answer_of old it)) is
    (subst (λ (it : Option Answer). IsSome it) (sym (lasting_is old other some)) some)))
lasts_by old new top other false same files readings modules conditions rulings unknown some =
    let differ : other ≡ top → ⊥ = λ is. let twice = (bytes_eq-Decides other top).1 is in absurd (cc) in
    let stays = held_same old new top other files readings modules conditions rulings differ in
    lasting_is new other (subst (λ (it : Option Answer). IsSome it) (sym stays) some)
    ∙ stays ∙ sym (lasting_is old other some)

pub lasts : {T E : Type 0} (old new : Store) (top other : List ℕ) (r : Result T E) → new.files ≡ old.files → new.readings ≡ old.readings → new.modules ≡ old.modules → new.conditions ≡ old.conditions → OnOk r (others_of top new.rulings ≡ others_of top old.rulings) → OnErr r (new ≡ old) → (IsSome (answer_of old top) → ⊥) → IsSome (lasting_answer old other) → answer_of new other ≡ answer_of old other
lasts old new top other (Ok done) files readings modules conditions rulings same unknown some =
    lasts_by old new top other (bytes_eq other top) refl files readings modules conditions rulings unknown some
lasts old new top other (Err error) files readings modules conditions rulings same unknown some =
    ap (λ (it : Store). answer_of it other) same

-- the answers are as before where all that is kept is
abbrev answer_in : List SourceFile → List (Option Reading) → List (List Circuit) → List FileConditions → List Ruling → Option Ruling → List ℕ → Option Answer
answer_in files readings modules conditions rulings absent top =
    cond (changed_count files readings == 0)
    (refusal_or (first_refusal readings) (option_map (λ (ruling : Ruling). ruling.answer) (current_of files (record { modules = modules; conditions = conditions }) top (rulings ++ option_to_list absent))))
    None

pub answers_same : (old new : Store) → new.files ≡ old.files → new.readings ≡ old.readings → circuits_in new ≡ circuits_in old → new.conditions ≡ old.conditions → new.rulings ≡ old.rulings → new.absent ≡ old.absent → (top : List ℕ) → answer_of new top ≡ answer_of old top
answers_same old new files readings modules conditions rulings absent top =
    ap (λ (it : List SourceFile). answer_in it new.readings (circuits_in new) new.conditions new.rulings new.absent top) files
    ∙ ap (λ (it : List (Option Reading)). answer_in old.files it (circuits_in new) new.conditions new.rulings new.absent top) readings
    ∙ ap (λ (it : List (List Circuit)). answer_in old.files old.readings it new.conditions new.rulings new.absent top) modules
    ∙ ap (λ (it : List FileConditions). answer_in old.files old.readings (circuits_in old) it new.rulings new.absent top) conditions
    ∙ ap (λ (it : List Ruling). answer_in old.files old.readings (circuits_in old) old.conditions it new.absent top) rulings
    ∙ ap (λ (it : Option Ruling). answer_in old.files old.readings (circuits_in old) old.conditions old.rulings it top) absent

not_known_by : (seen : Bool) (found : Option (Bor Answer)) → IsSome (option_copied found) → seen ≡ is_some found → seen ≡ false → ⊥
not_known_by seen None some sees unseen = cc
not_known_by seen (Some it) some sees unseen = cc

-- an answer that isn't found isn't there
pub not_known : (seen : Bool) (found : Option (Bor Answer)) (answer : Option Answer) → option_copied found ≡ answer → seen ≡ is_some found → seen ≡ false → IsSome answer → ⊥
not_known seen found answer is sees unseen some =
    not_known_by seen found (subst (λ (it : Option Answer). IsSome it) (sym is) some) sees unseen
