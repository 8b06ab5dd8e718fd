-- What the desk keeps stays right when a file comes or goes.
use Rattle.std.proofs.Common.{◌≡◌, ◌≤◌, ◌⊎◌, inl, inr, ℕ, List, [], ◌∷◌, ◌++◌, length, ap, subst, sym, ◌∙◌}
use Rattle.std.specs.Prelude.{IsSome, OnErr, OnOk, Option, Some, Result, Ok, Err, Vec, option_to_list, if◌then◌else◌}
use Rattle.std.specs.List.{All, Contains}
use Rattle.std.specs.declared.alloc.Global.{Global}
use Rattle.std.proofs.lemmas.List.Elements.{All-contains, All-contains_itself, All-weaker, Contains-push_cases}
use Rattle.rtl_tree.specs.TreeModule.{Circuit}
use Rattle.desk_memo.specs.rtl_prep.Conditions.{FileConditions}
use Rattle.desk_files.specs.Limits.{MAX_BYTES}
use Rattle.rtl_tree.specs.declared.tree.modules.Module.{Module}
use Rattle.desk_memo.specs.elab_links.Modules.{circuits_of}
use Rattle.desk_files.specs.Shown.{list_of}
use Rattle.desk_files.specs.Sources.{with_file, without_file}
use Rattle.desk_files.specs.declared.files.Files.{Files}
use Rattle.source_file.specs.declared.SourceFile.{SourceFile}
use Rattle.desk_memo.specs.Orders.{AreInOrder}
use Rattle.source_file.specs.SourceFiles.{AreShort}
use Rattle.desk_memo.specs.Readings.{AllRead, AreKnown, AreReadings, changed_count}
use Rattle.desk_memo.specs.ShownReadings.{AreFlagged, IsBeside, are_as_read, conditions_by, conditions_of, flags_by, flags_of, held_modules_by, held_modules_of, modules_by, modules_of, read_of, readings_by, readings_of}
use Rattle.desk_memo.specs.declared.aside.Aside as beside
use Rattle.desk_memo.specs.Rulings.{current_of, is_absent, with_ruling}
use Rattle.desk_memo.specs.Shown.{AreChecked, absent_of, all_of, rulings_of}
use Rattle.desk_verdict.specs.declared.verdict.Verdict.{Verdict}
use Rattle.design_db.specs.Answers.{IsRuling, Reading, Ruling}
use Rattle.design_db.specs.Stores.{KeepsRulings, Puts}
use Rattle.design_db.specs.Shown.{IsWhole, Memo, Readings, store}
use Rattle.design_db.proofs.InOrder.{in_order_with, in_order_without, short_with, short_without}

-- the rulings that are kept are right where they are as before
pub rulings_same : (old new : Memo) → rulings_of new ≡ rulings_of old → absent_of new ≡ absent_of old → All IsRuling (all_of old) → All IsRuling (all_of new)
rulings_same old new rulings absent all =
    let same : all_of new ≡ all_of old =
    ap (λ (it : List Ruling). it ++ option_to_list (absent_of new)) rulings
    ∙ ap (λ (it : Option Ruling). rulings_of old ++ option_to_list it) absent
    in subst (λ (it : List Ruling). All IsRuling it) (sym same) all

pub whole : (files : Files) (readings : Readings) (memo : Memo) (held : List SourceFile) → list_of files ≡ held → AreInOrder held → AreShort held → AreReadings held (readings_of readings) (modules_of readings) → AreKnown (readings_of readings) (conditions_of readings) → AreFlagged held readings → All IsRuling (all_of memo) → AreChecked held (read_of readings) memo → IsWhole files readings memo
whole files readings memo held is order short right known flagged rulings checked = record {
  store = record {
    in_order = subst AreInOrder (sym is) order;
    short = subst AreShort (sym is) short;
    readings = subst (λ (it : List SourceFile). AreReadings it (readings_of readings) (modules_of readings)) (sym is) right;
    known = known;
    rulings = rulings;
  };
  flagged = subst (λ (it : List SourceFile). AreFlagged it readings) (sym is) flagged;
  checked = subst (λ (it : List SourceFile). AreChecked it (read_of readings) memo) (sym is) checked;
}

pub is_put : (old new : Files) (readings : Readings) (before after : Memo) (file : SourceFile) (seen : List SourceFile) → seen ≡ list_of old → list_of new ≡ with_file file (list_of old) → length file.text ≤ MAX_BYTES → AreInOrder (list_of old) → AreShort (list_of old) → AreReadings (with_file file seen) (readings_of readings) (modules_of readings) → AreKnown (readings_of readings) (conditions_of readings) → AreFlagged (with_file file seen) readings → rulings_of after ≡ rulings_of before → absent_of after ≡ absent_of before → All IsRuling (all_of before) → ((files : List SourceFile) (all : AllRead) → AreChecked files all after) → IsWhole new readings after
is_put old new readings before after file seen sees is fits order short right known flagged rulings absent all checked =
    let held = with_file file seen in
    whole new readings after held (is ∙ ap (λ (it : List SourceFile). with_file file it) (sym sees))
    (in_order_with file seen (subst AreInOrder (sym sees) order))
    (short_with file seen fits (subst AreShort (sym sees) short)) right known flagged
    (rulings_same before after rulings absent all) (checked held (read_of readings))

pub is_dropped : (old new : Files) (readings : Readings) (before after : Memo) (name : List ℕ) (seen : List SourceFile) → seen ≡ list_of old → list_of new ≡ without_file name (list_of old) → AreInOrder (list_of old) → AreShort (list_of old) → AreReadings (without_file name seen) (readings_of readings) (modules_of readings) → AreKnown (readings_of readings) (conditions_of readings) → AreFlagged (without_file name seen) readings → rulings_of after ≡ rulings_of before → absent_of after ≡ absent_of before → All IsRuling (all_of before) → ((files : List SourceFile) (all : AllRead) → AreChecked files all after) → IsWhole new readings after
is_dropped old new readings before after name seen sees is order short right known flagged rulings absent all checked =
    let held = without_file name seen in
    whole new readings after held (is ∙ ap (λ (it : List SourceFile). without_file name it) (sym sees))
    (in_order_without name seen (subst AreInOrder (sym sees) order))
    (short_without name seen (subst AreShort (sym sees) short)) right known flagged
    (rulings_same before after rulings absent all) (checked held (read_of readings))

-- ---- what was read beside

-- what was read beside the readings stands in their place
pub record IsReadNow (files : List SourceFile) (kept : Readings) : Type 0 where
  pub right : AreReadings files (readings_of kept) (modules_of kept)
  pub known : AreKnown (readings_of kept) (conditions_of kept)
  pub flagged : AreFlagged files kept
  pub unchanged : changed_count files (readings_of kept) ≡ 0

pub is_read_now : (files seen : List SourceFile) (before after : Readings) (aside : beside.Aside Verdict) → seen ≡ files → IsBeside seen before aside → readings_of after ≡ readings_by aside before → held_modules_of after ≡ held_modules_by aside before → conditions_of after ≡ conditions_by aside before → flags_of after ≡ flags_by aside before → IsReadNow files after
is_read_now files seen before after aside sees beside readings held conditions flags =
    let modules : modules_of after ≡ modules_by aside before =
    ap (λ (it : List (Vec Module Global)). circuits_of it) held
    in
    subst (λ (it : List SourceFile). IsReadNow it after) sees
    (record {
      right =
          subst (λ (it : List (Option Reading)). AreReadings seen it (modules_of after)) (sym readings)
          (subst (λ (it : List (List Circuit)). AreReadings seen (readings_by aside before) it) (sym modules) beside.right);
      known =
          subst (λ (it : List (Option Reading)). AreKnown it (conditions_of after)) (sym readings)
          (subst (λ (it : List FileConditions). AreKnown (readings_by aside before) it) (sym conditions) beside.known);
      flagged = flags ∙ beside.flagged ∙ ap (λ (it : List (Option Reading)). are_as_read seen it) (sym readings);
      unchanged = ap (λ (it : List (Option Reading)). changed_count seen it) readings ∙ beside.unchanged;
    })

-- a ruling that holds by what the texts define holds by what was read
pub is_found_now : (files seen : List SourceFile) (after : Readings) (old new : Memo) (top : List ℕ) (all : AllRead) → seen ≡ files → all ≡ read_of after → rulings_of new ≡ rulings_of old → absent_of new ≡ absent_of old → IsSome (current_of files all top (all_of old)) → IsSome (current_of seen (read_of after) top (all_of new))
is_found_now files seen after old new top all sees one rulings absent some =
    let same : all_of new ≡ all_of old =
    ap (λ (it : List Ruling). it ++ option_to_list (absent_of new)) rulings
    ∙ ap (λ (it : Option Ruling). rulings_of old ++ option_to_list it) absent
    in
    subst (λ (it : List SourceFile). IsSome (current_of it (read_of after) top (all_of new))) (sym sees)
    (subst (λ (it : AllRead). IsSome (current_of files it top (all_of new))) one
    (subst (λ (it : List Ruling). IsSome (current_of files all top it)) (sym same) some))

-- ---- rulings

right_by : (old : List Ruling) (kept one : Ruling) → All IsRuling old → IsRuling kept → (Contains old one ⊎ (kept ≡ one)) → IsRuling one
right_by old kept one all right (inl there) = All-contains IsRuling old one all there
right_by old kept one all right (inr same) = subst IsRuling same right

-- what is kept is right when a right ruling comes, and where there was no memory for it
pub rulings_kept : {T E : Type 0} (old new : Memo) (kept : Ruling) (r : Result T E) → OnOk r ((ruling : Ruling) → Contains (all_of new) ruling → Contains (all_of old ++ kept ∷ []) ruling) → OnErr r (rulings_of new ≡ rulings_of old) → OnErr r (absent_of new ≡ absent_of old) → All IsRuling (all_of old) → IsRuling kept → All IsRuling (all_of new)
rulings_kept old new kept (Ok done) from rulings absent all right =
    All-weaker (Contains (all_of new)) IsRuling
    (λ one there. right_by (all_of old) kept one all right (Contains-push_cases (all_of old) kept one (from one there)))
    (all_of new) (All-contains_itself (all_of new))
rulings_kept old new kept (Err error) from rulings absent all right =
    rulings_same old new rulings absent all

-- a ruling that is kept takes the place of one at most
pub kept_rulings : {T E : Type 0} (top : List ℕ) (old middle new : Memo) (kept : Ruling) (r : Result T E) → kept.top ≡ top → rulings_of middle ≡ rulings_of old → absent_of middle ≡ absent_of old → OnOk r (rulings_of new ≡ (if is_absent kept then rulings_of middle else with_ruling kept (rulings_of middle))) → OnOk r (absent_of new ≡ (if is_absent kept then Some kept else absent_of middle)) → OnOk r (KeepsRulings top (rulings_of old) (absent_of old) (rulings_of new) (absent_of new))
kept_rulings top old middle new kept (Ok done) is rulings absent placed alone =
    Puts kept is
    (placed ∙ ap (λ (it : List Ruling). if is_absent kept then it else with_ruling kept it) rulings)
    (alone ∙ ap (λ (it : Option Ruling). if is_absent kept then Some kept else it) absent)
kept_rulings top old middle new kept (Err error) is rulings absent placed alone = tt
