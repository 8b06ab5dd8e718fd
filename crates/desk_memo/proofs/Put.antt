-- What putting a file, or dropping one, leaves.
use Rattle.std.specs.Prelude.{ℕ, true, false, List, [], Option, None, Some, option_map, Vec, map}
use Rattle.std.specs.declared.alloc.Global.{Global}
use Rattle.std.proofs.Common.{◌≡◌, ◌∙◌, ◌<◌, length, set, get_or, ap, sym, subst}
use Rattle.rtl_tree.specs.TreeModule.{Circuit, circuit}
use Rattle.rtl_tree.specs.declared.tree.modules.Module.{Module}
use Rattle.elab_lookups.specs.elab_links.Modules.{circuits_of}
use Rattle.desk_files.specs.Sources.{is_named, place_of, with_file, without_file}
use Rattle.source_file.specs.declared.SourceFile.{SourceFile}
use Rattle.desk_memo.specs.Readings.{AreReadings, Reading, blank_in, with_blank, without}
use Rattle.desk_memo.specs.ShownReadings.{are_as_read, flags_in, is_current, marked, reading_of, readings_in}
use Rattle.desk_memo.specs.declared.reading.Reading.{Reading as Held}
use Rattle.desk_memo.proofs.Placed.{at_place, behind_all, file_at_place, file_behind_all, file_stays, flags_blank, flags_marked, flags_without, map_blank, map_without, right_blank, right_marked, right_without, same_readings, stays}

abbrev shown : {V : Type 0} → Option (Held V) → Option (Reading V)
shown held = option_map reading_of held

abbrev circuits : Vec Module Global → List Circuit
circuits modules = map circuit modules.items

-- what is kept is right for files
pub record Fits {V : Type 0} (files : List SourceFile) (helds : List (Option (Held V))) (modules : List (List Circuit)) : Type 0 where
  pub right : AreReadings files (readings_in helds) modules
  pub flagged : flags_in helds ≡ are_as_read files (readings_in helds)

-- ---- a blank

pub record IsBlanked {V : Type 0} (file : SourceFile) (place : Option ℕ) (files : List SourceFile) (helds news : List (Option (Held V))) (vecs others : List (Vec Module Global)) : Type 0 where
  pub readings : readings_in news ≡ blank_in None place (readings_in helds)
  pub modules : circuits_of others ≡ blank_in [] place (circuits_of vecs)
  pub fits : Fits (blank_in file place files) news (circuits_of others)

pub blanked : {V : Type 0} (file : SourceFile) (place : Option ℕ) (files : List SourceFile) (helds news : List (Option (Held V))) (vecs others : List (Vec Module Global)) (empty : Vec Module Global) → Fits files helds (circuits_of vecs) → empty.items ≡ [] → news ≡ blank_in None place helds → others ≡ blank_in empty place vecs → IsBlanked file place files helds news vecs others
blanked {V} file place files helds news vecs others empty fits none made there =
    let readings : readings_in news ≡ blank_in None place (readings_in helds) =
    ap readings_in made ∙ map_blank shown None place helds in
    let modules : circuits_of others ≡ blank_in [] place (circuits_of vecs) =
    ap circuits_of there ∙ map_blank circuits empty place vecs
    ∙ ap (λ (it : List Module). blank_in (map circuit it) place (circuits_of vecs)) none in
    let flags : flags_in news ≡ blank_in false place (flags_in helds) =
    ap flags_in made ∙ map_blank is_current None place helds in
    record {
      readings = readings;
      modules = modules;
      fits = record {
        right =
            subst (λ (it : List (List Circuit)). AreReadings (blank_in file place files) (readings_in news) it) (sym modules)
            (subst (λ (it : List (Option (Reading V))). AreReadings (blank_in file place files) it (blank_in [] place (circuits_of vecs))) (sym readings)
            (right_blank file place files (readings_in helds) (circuits_of vecs) fits.right));
        flagged =
            flags ∙ ap (λ it. blank_in false place it) fits.flagged
            ∙ flags_blank file place files (readings_in helds) (circuits_of vecs) fits.right
            ∙ ap (λ it. are_as_read (blank_in file place files) it) (sym readings);
      };
    }

-- ---- a file is put

pub record IsPut {V : Type 0} (file : SourceFile) (files : List SourceFile) (helds news : List (Option (Held V))) (vecs others : List (Vec Module Global)) : Type 0 where
  pub readings : readings_in news ≡ with_blank None file.name files (readings_in helds)
  pub modules : circuits_of others ≡ with_blank [] file.name files (circuits_of vecs)
  pub right : AreReadings (with_file file files) (readings_in news) (circuits_of others)
  pub flagged : flags_in news ≡ are_as_read (with_file file files) (readings_in news)

put_by : {V : Type 0} (file : SourceFile) (place : Option ℕ) (files : List SourceFile) (helds news : List (Option (Held V))) (vecs others : List (Vec Module Global)) → IsBlanked file place files helds news vecs others → with_blank None file.name files (readings_in helds) ≡ blank_in None place (readings_in helds) → with_blank [] file.name files (circuits_of vecs) ≡ blank_in [] place (circuits_of vecs) → with_file file files ≡ blank_in file place files → IsPut file files helds news vecs others
put_by file place files helds news vecs others is readings modules put = record {
  readings = is.readings ∙ sym readings;
  modules = is.modules ∙ sym modules;
  right = subst (λ (it : List SourceFile). AreReadings it (readings_in news) (circuits_of others)) (sym put) is.fits.right;
  flagged = is.fits.flagged ∙ ap (λ it. are_as_read it (readings_in news)) (sym put);
}

pub put_behind : {V : Type 0} (file : SourceFile) (files : List SourceFile) (helds news : List (Option (Held V))) (vecs others : List (Vec Module Global)) → IsBlanked file None files helds news vecs others → None ≡ place_of file.name files → IsPut file files helds news vecs others
put_behind file files helds news vecs others is place =
    put_by file None files helds news vecs others is (behind_all None (readings_in helds) file.name files place) (behind_all [] (circuits_of vecs) file.name files place)
    (file_behind_all file files place)

pub put_at : {V : Type 0} (file : SourceFile) (place : ℕ) (files : List SourceFile) (helds news : List (Option (Held V))) (vecs others : List (Vec Module Global)) (held : SourceFile) → IsBlanked file (Some place) files helds news vecs others → Some place ≡ place_of file.name files → place < length files → held ≡ get_or files place held → is_named file.name held ≡ false → IsPut file files helds news vecs others
put_at file place files helds news vecs others held is there inside read other =
    put_by file (Some place) files helds news vecs others is
    (at_place None (readings_in helds) file.name files place held there inside read other)
    (at_place [] (circuits_of vecs) file.name files place held there inside read other)
    (file_at_place file files place held there inside read other)

-- a file that is there
pub put_same : {V : Type 0} (file : SourceFile) (place : ℕ) (files : List SourceFile) (helds news : List (Option (Held V))) (vecs : List (Vec Module Global)) (held : SourceFile) (d : Option (Held V)) → Fits files helds (circuits_of vecs) → news ≡ set helds place (marked file (get_or helds place d)) → Some place ≡ place_of file.name files → place < length files → held ≡ get_or files place held → is_named file.name held ≡ true → IsPut file files helds news vecs vecs
put_same {V} file place files helds news vecs held d fits made there inside read same =
    let readings : readings_in news ≡ readings_in helds =
    ap readings_in made ∙ same_readings file place helds d in
    let put : with_file file files ≡ set files place file = file_stays file files place held there inside read same in
    record {
      readings = readings ∙ sym (stays None (readings_in helds) file.name files place held there inside read same);
      modules = sym (stays [] (circuits_of vecs) file.name files place held there inside read same);
      right =
          subst (λ (it : List SourceFile). AreReadings it (readings_in news) (circuits_of vecs)) (sym put)
          (subst (λ (it : List (Option (Reading V))). AreReadings (set files place file) it (circuits_of vecs)) (sym readings)
          (right_marked file place files (readings_in helds) (circuits_of vecs) held inside (ap (λ it. is_named file.name it) (sym read) ∙ same) fits.right));
      flagged =
          ap flags_in made ∙ flags_marked file place files helds d fits.flagged
          ∙ ap (λ it. are_as_read (set files place file) it) (sym readings)
          ∙ ap (λ it. are_as_read it (readings_in news)) (sym put);
    }

-- ---- a file is dropped

pub record IsDropped {V : Type 0} (name : List ℕ) (files : List SourceFile) (helds news : List (Option (Held V))) (vecs others : List (Vec Module Global)) : Type 0 where
  pub readings : readings_in news ≡ without name files (readings_in helds)
  pub modules : circuits_of others ≡ without name files (circuits_of vecs)
  pub right : AreReadings (without_file name files) (readings_in news) (circuits_of others)
  pub flagged : flags_in news ≡ are_as_read (without_file name files) (readings_in news)

pub dropped : {V : Type 0} (name : List ℕ) (files : List SourceFile) (helds news : List (Option (Held V))) (vecs others : List (Vec Module Global)) → Fits files helds (circuits_of vecs) → news ≡ without name files helds → others ≡ without name files vecs → IsDropped name files helds news vecs others
dropped {V} name files helds news vecs others fits made there =
    let readings : readings_in news ≡ without name files (readings_in helds) =
    ap readings_in made ∙ map_without shown name files helds in
    let modules : circuits_of others ≡ without name files (circuits_of vecs) =
    ap circuits_of there ∙ map_without circuits name files vecs in
    record {
      readings = readings;
      modules = modules;
      right =
          subst (λ (it : List (List Circuit)). AreReadings (without_file name files) (readings_in news) it) (sym modules)
          (subst (λ (it : List (Option (Reading V))). AreReadings (without_file name files) it (without name files (circuits_of vecs))) (sym readings)
          (right_without name files (readings_in helds) (circuits_of vecs) fits.right));
      flagged =
          ap flags_in made ∙ map_without is_current name files helds
          ∙ ap (λ it. without name files it) fits.flagged
          ∙ flags_without name files (readings_in helds)
          ∙ ap (λ it. are_as_read (without_file name files) it) (sym readings);
    }
