-- What the conditions of files ask, where files come, go, and are read.
use Rattle.std.specs.Prelude.{ℕ, zero, suc, Bool, true, false, if◌then◌else◌, List, [], ◌∷◌, ◌++◌, Option, None, Some, option_map, slice_get}
use Rattle.std.proofs.Common.{◌≡◌, ◌∙◌, ◌<◌, length, get_or, ap, refl, sym, subst, arith}
use Rattle.rtl_prep.specs.Conditions.{FileConditions}
use Rattle.check_conditions.specs.Foreign.{nothing_asked}
use Rattle.rtl_front.specs.Fronts.{AreAsked, IsAsked}
use Rattle.desk_files.specs.Sources.{is_named, place_of}
use Rattle.source_file.specs.declared.SourceFile.{SourceFile}
use Rattle.desk_memo.specs.declared.reading.Reading.{Reading as Held}
use Rattle.desk_memo.specs.Exchanges.{or_old, put_in}
use Rattle.desk_memo.specs.Readings.{AreKnown, IsKnown, Reading, blank_at, blank_by, blank_in, with_blank, without}
use Rattle.desk_memo.specs.ShownReadings.{AreMadeKnown, IsMadeKnown, reading_of, readings_in}

pub known_length : {V : Type 0} (readings : List (Option (Reading V))) (conditions : List FileConditions) → AreKnown readings conditions → length readings ≡ length conditions
known_length [] [] known = refl
known_length [] (asked ∷ conditions) known = absurd known
known_length (reading ∷ readings) [] known = absurd known
known_length (reading ∷ readings) (asked ∷ conditions) known =
    ap suc (known_length readings conditions known.1)

-- ---- a file comes

known_blank : {V : Type 0} (place : Option ℕ) (readings : List (Option (Reading V))) (conditions : List FileConditions) → AreKnown readings conditions → AreKnown (blank_in None place readings) (blank_in nothing_asked place conditions)
known_blank place [] (asked ∷ conditions) known = absurd known
known_blank place (reading ∷ readings) [] known = absurd known
known_blank None [] [] known = (refl, tt)
known_blank (Some zero) [] [] known = (refl, tt)
known_blank (Some (suc place)) [] [] known = (refl, tt)
known_blank None (reading ∷ readings) (asked ∷ conditions) known =
    (known.0, known_blank None readings conditions known.1)
known_blank (Some zero) (reading ∷ readings) (asked ∷ conditions) known = (refl, known)
known_blank (Some (suc place)) (reading ∷ readings) (asked ∷ conditions) known =
    (known.0, known_blank (Some place) readings conditions known.1)

known_if : {V : Type 0} (named : Bool) (place : ℕ) (readings : List (Option (Reading V))) (conditions : List FileConditions) → AreKnown readings conditions → AreKnown (if named then readings else blank_in None (Some place) readings) (if named then conditions else blank_in nothing_asked (Some place) conditions)
known_if true place readings conditions known = known
known_if false place readings conditions known = known_blank (Some place) readings conditions known

known_by : {V : Type 0} (name : List ℕ) (held : Option SourceFile) (place : ℕ) (readings : List (Option (Reading V))) (conditions : List FileConditions) → AreKnown readings conditions → AreKnown (blank_by None name held place readings) (blank_by nothing_asked name held place conditions)
known_by name None place readings conditions known = known
known_by name (Some file) place readings conditions known =
    known_if (is_named name file) place readings conditions known

known_at : {V : Type 0} (name : List ℕ) (found : Option ℕ) (files : List SourceFile) (readings : List (Option (Reading V))) (conditions : List FileConditions) → AreKnown readings conditions → AreKnown (blank_at None name found files readings) (blank_at nothing_asked name found files conditions)
known_at name None files readings conditions known = known_blank None readings conditions known
known_at name (Some place) files readings conditions known =
    known_by name (slice_get files place) place readings conditions known

-- what is there of all files, with a file more or the same files
pub known_with : {V : Type 0} (name : List ℕ) (files : List SourceFile) (readings news : List (Option (Reading V))) (conditions others : List FileConditions) → AreKnown readings conditions → news ≡ with_blank None name files readings → others ≡ with_blank nothing_asked name files conditions → AreKnown news others
known_with {V} name files readings news conditions others known made asked =
    subst (λ (it : List (Option (Reading V))). AreKnown it others) (sym made)
    (subst (λ (it : List FileConditions). AreKnown (with_blank None name files readings) it) (sym asked)
    (known_at name (place_of name files) files readings conditions known))

-- ---- a file goes

without_if : {V : Type 0} (named : Bool) (reading : Option (Reading V)) (asked : FileConditions) (readings : List (Option (Reading V))) (conditions : List FileConditions) → IsKnown reading asked → AreKnown readings conditions → AreKnown (if named then readings else reading ∷ readings) (if named then conditions else asked ∷ conditions)
without_if true reading asked readings conditions here rest = rest
without_if false reading asked readings conditions here rest = (here, rest)

known_left : {V : Type 0} (name : List ℕ) (files : List SourceFile) (readings : List (Option (Reading V))) (conditions : List FileConditions) → AreKnown readings conditions → AreKnown (without name files readings) (without name files conditions)
known_left name files [] (asked ∷ conditions) known = absurd known
known_left name files (reading ∷ readings) [] known = absurd known
known_left name [] [] [] known = tt
known_left name (file ∷ files) [] [] known = tt
known_left name [] (reading ∷ readings) (asked ∷ conditions) known = known
known_left name (file ∷ files) (reading ∷ readings) (asked ∷ conditions) known =
    without_if (is_named name file) reading asked (without name files readings) (without name files conditions) known.0
    (known_left name files readings conditions known.1)

pub known_without : {V : Type 0} (name : List ℕ) (files : List SourceFile) (readings news : List (Option (Reading V))) (conditions others : List FileConditions) → AreKnown readings conditions → news ≡ without name files readings → others ≡ without name files conditions → AreKnown news others
known_without {V} name files readings news conditions others known made asked =
    subst (λ (it : List (Option (Reading V))). AreKnown it others) (sym made)
    (subst (λ (it : List FileConditions). AreKnown (without name files readings) it) (sym asked)
    (known_left name files readings conditions known))

-- ---- files are read beside

made_known : {V : Type 0} (helds : List (Option (Option (Held V)))) (conditions : List (Option FileConditions)) (held : Option (Option (Held V))) (asked : Option FileConditions) → AreMadeKnown helds conditions → IsMadeKnown held asked → AreMadeKnown (helds ++ held ∷ []) (conditions ++ asked ∷ [])
made_known [] [] held asked made here = (here, tt)
made_known [] (c ∷ conditions) held asked made here = absurd made
made_known (h ∷ helds) [] held asked made here = absurd made
made_known (h ∷ helds) (c ∷ conditions) held asked made here =
    (made.0, made_known helds conditions held asked made.1 here)

-- one file more
pub made_known_next : {V : Type 0} (helds news : List (Option (Option (Held V)))) (conditions others : List (Option FileConditions)) (held : Option (Option (Held V))) (asked : Option FileConditions) → AreMadeKnown helds conditions → IsMadeKnown held asked → news ≡ helds ++ held ∷ [] → others ≡ conditions ++ asked ∷ [] → AreMadeKnown news others
made_known_next {V} helds news conditions others held asked made here new other =
    subst (λ (it : List (Option (Option (Held V)))). AreMadeKnown it others) (sym new)
    (subst (λ (it : List (Option FileConditions)). AreMadeKnown (helds ++ held ∷ []) it) (sym other)
    (made_known helds conditions held asked made here))

or_known : {V : Type 0} (new : Option (Option (Held V))) (asked : Option FileConditions) (held : Option (Held V)) (conditions : FileConditions) → IsMadeKnown new asked → IsKnown (option_map reading_of held) conditions → IsKnown (option_map reading_of (or_old new held)) (or_old asked conditions)
or_known None None held conditions made known = known
or_known None (Some asked) held conditions made known = absurd made
or_known (Some new) None held conditions made known = absurd made
or_known (Some new) (Some asked) held conditions made known = made

-- what an exchange leaves
pub known_left_by : {V : Type 0} (news : List (Option (Option (Held V)))) (asked : List (Option FileConditions)) (helds : List (Option (Held V))) (conditions : List FileConditions) → AreMadeKnown news asked → AreKnown (readings_in helds) conditions → AreKnown (readings_in (put_in news helds)) (put_in asked conditions)
known_left_by news asked [] (c ∷ conditions) made known = absurd known
known_left_by news asked (held ∷ helds) [] made known = absurd known
known_left_by [] (a ∷ asked) helds conditions made known = absurd made
known_left_by (new ∷ news) [] helds conditions made known = absurd made
known_left_by [] [] [] [] made known = tt
known_left_by (new ∷ news) (a ∷ asked) [] [] made known = tt
known_left_by [] [] (held ∷ helds) (c ∷ conditions) made known = known
known_left_by (new ∷ news) (a ∷ asked) (held ∷ helds) (c ∷ conditions) made known = (
  or_known new a held c made.0 known.0,
  known_left_by news asked helds conditions made.1 known.1,
)

-- ---- one file alone

pub lone_asked : (text : List ℕ) (conditions : List FileConditions) (asked : FileConditions) → AreAsked (text ∷ []) conditions → asked ≡ get_or conditions 0 asked → IsAsked text asked
lone_asked text [] asked are is = absurd are
lone_asked text (first ∷ second ∷ others) asked are is = absurd are.1
lone_asked text (first ∷ []) asked are is = subst (λ (it : FileConditions). IsAsked text it) (sym is) are.0

pub some_asked : (text : List ℕ) (conditions : List FileConditions) → AreAsked (text ∷ []) conditions → 0 < length conditions
some_asked text [] are = absurd are
some_asked text (first ∷ others) are = omega arith
