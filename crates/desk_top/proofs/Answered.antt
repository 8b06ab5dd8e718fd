-- From the work of a command to the answer of the desk, and from status 0 to the headline.
use Rattle.std.proofs.Common.{◌≡◌, ◌≢◌, ℕ, List, [], Option, None, Some, Result, Ok, Err, Bool, true, false, cond, not, refl, sym, ◌∙◌, ap, subst, arith}
use Rattle.std.specs.Io.KnownBytes.{Appends}
use Rattle.rtl_tree.specs.TreeModule.{Circuit}
use Rattle.desk_build.specs.elab_scope.Faults.{Answer}
use Rattle.rtl_flat.specs.Flats.{DesignParts}
use Rattle.desk_build.specs.rtl_elab.Designs.{library_of}
use Rattle.desk_build.specs.rtl_elab.Elaborated.{elaborated}
use Rattle.rtl_rule.specs.Rows.{has_first_grade}
use Rattle.desk_top.specs.declared.deliver.Stop.{Stop}
use Rattle.desk_top.specs.declared.deliver.Stop.TheVariants.{Unread, NoFile, Memory}
use Rattle.desk_top.specs.declared.deliver.Work.{Work}
use Rattle.desk_top.specs.declared.simulate.Plan.{Plan}
use Rattle.desk_top.specs.declared.simulate.Plan.TheVariants.{Told, Run}
use Rattle.desk_top.specs.Words.{Order, Sign, Simulate, Replay, Vcd, Generate, is_sign, is_simulate, order}
use Rattle.desk_top.specs.Delivery.{Outcome, Delivers, Finishes, IsCut, Front as Begun, Nothing, IsWork, gave_up, no_file, outcome_of}
use Rattle.rtl_front.specs.Fronts.{AreAsked, AreSpelled}
use Rattle.rtl_front.specs.rtl_prep.Conditions.{FileConditions}
use Rattle.desk_build.specs.check_conditions.ToolNotes.{tool_noted}
use Rattle.desk_build.specs.Building.{Built, Front, Modules, Faulty, IsFront, all_foreign, built_of, elaborated_or_not}
use Rattle.desk_top.specs.Outcome.{World, IsAnswer, IsDone, IsOutcome, IsRuled, IsSigned, report_of}
use Rattle.desk_top.specs.Plans.{IsPlan, Performs}
use Rattle.desk_top.specs.Texts.{named, texts_of}
use Rattle.desk_top.specs.Answers.{IsAnswered, IsSignedClean}

-- work that has one outcome has every other that follows from it
pub work_map : {P Q : Outcome → Type 0} (work : Result Work Stop) → IsWork P work → ((outcome : Outcome) → P outcome → Q outcome) → IsWork Q work
work_map (Ok work) is more = more (outcome_of work) is
work_map (Err NoFile) is more = more no_file is
work_map (Err Unread) is more = tt
work_map (Err Memory) is more = tt

pub plan_map : {P Q : Outcome → Type 0} (plan : Result Plan Stop) → IsPlan P plan → ((outcome : Outcome) → P outcome → Q outcome) → IsPlan Q plan
plan_map (Ok (Told work)) is more = more (outcome_of work) is
plan_map (Ok (Run design steps)) is more = λ outcome shows. more outcome (is outcome shows)
plan_map (Err NoFile) is more = more no_file is
plan_map (Err Unread) is more = tt
plan_map (Err Memory) is more = tt

cut_map : {P Q : Outcome → Type 0} (before now : Option (List ℕ)) → IsCut P before now → ((outcome : Outcome) → P outcome → Q outcome) → IsCut Q before now
cut_map before now (Nothing none) more = Nothing none
cut_map before now (Begun wanted is front) more = Begun wanted (more wanted is) front

-- ---- what is answered

-- an outcome that is delivered
delivered : (words : List (List ℕ)) (world : World) (wanted : Outcome) (status : ℕ) (before now : Option (List ℕ)) → IsOutcome words world wanted → gave_up status ≡ false → Delivers wanted status before now → IsAnswered words status before now world
delivered words world wanted status before now is done delivers =
    record {
      answered = λ goes_on. (wanted, is, delivers);
      unread = λ failed. let same : true ≡ false = ap gave_up (sym failed) ∙ done in absurd (cc);
      no_memory = λ failed. let same : true ≡ false = ap gave_up (sym failed) ∙ done in absurd (cc);
    }

-- nothing is written where a read failed or memory ran out
silent : (words : List (List ℕ)) (world : World) (status : ℕ) (before now : Option (List ℕ)) → gave_up status ≡ true → Appends before now [] → IsAnswered words status before now world
silent words world status before now gives_up none =
    record {
      answered = λ goes_on. let same : true ≡ false = sym gives_up ∙ goes_on in absurd (cc);
      unread = λ failed. none;
      no_memory = λ failed. Nothing none;
    }

-- nor where a file isn't there
no_file_delivered : (status : ℕ) (before now : Option (List ℕ)) → status ≡ 9 → Appends before now [] → Delivers no_file status before now
no_file_delivered status before now is none =
    record {
      exact = λ written. is;
      whole = λ written. none;
      front = record { front = []; rest = []; parts = refl; appended = none };
      some_bytes = λ unwritten. let same : 9 ≡ 5 = sym is ∙ unwritten in absurd (omega (arith, same));
    }

-- work that is finished answers the words
pub answered : (words : List (List ℕ)) (world : World) (command : Order) (work : Result Work Stop) (status : ℕ) (before now : Option (List ℕ))
    → order words ≡ Some command → IsWork (IsDone world (Some command)) work → Finishes work status before now
    → IsAnswered words status before now world
answered words world command (Ok work) status before now is wanted finishes =
    delivered words world (outcome_of work) status before now (rw is wanted) finishes.0 finishes.1
answered words world command (Err NoFile) status before now is wanted finishes =
    delivered words world no_file status before now (rw is wanted) (ap gave_up finishes.0) (no_file_delivered status before now finishes.0 finishes.1)
answered words world command (Err Unread) status before now is wanted finishes =
    silent words world status before now (ap gave_up finishes.0) finishes.1
answered words world command (Err Memory) status before now is wanted finishes =
    silent words world status before now (ap gave_up finishes.0) finishes.1

-- a plan that is carried out answers the words
pub performed : (words : List (List ℕ)) (world : World) (command : Order) (plan : Result Plan Stop) (status : ℕ) (before now : Option (List ℕ))
    → order words ≡ Some command → is_simulate (Some command) ≡ true → IsPlan (IsDone world (Some command)) plan → Performs plan status before now
    → IsAnswered words status before now world
performed words world command (Ok (Told work)) status before now is simulates wanted performs =
    delivered words world (outcome_of work) status before now (rw is wanted) performs.0 performs.1
performed words world command (Ok (Run design steps)) status before now is simulates wanted performs =
    record {
      answered = λ goes_on. let made = performs.delivered goes_on in (made.0, rw is (wanted made.0 made.1), made.2);
      unread = λ failed. absurd (performs.read failed);
      no_memory = λ failed. cut_map {Q = λ outcome. (is_simulate (order words) ≡ true) × IsOutcome words world outcome} before now (performs.cut failed) (λ outcome shows. (ap is_simulate is ∙ simulates, rw is (wanted outcome shows)));
    }
performed words world command (Err NoFile) status before now is simulates wanted performs =
    delivered words world no_file status before now (rw is wanted) (ap gave_up performs.0) (no_file_delivered status before now performs.0 performs.1)
performed words world command (Err Unread) status before now is simulates wanted performs =
    silent words world status before now (ap gave_up performs.0) performs.1
performed words world command (Err Memory) status before now is simulates wanted performs =
    silent words world status before now (ap gave_up performs.0) performs.1

-- words that are no command are answered by the usage in every world
pub answered_usage : (words : List (List ℕ)) (world : World) (usage : Outcome) (status : ℕ) (before now : Option (List ℕ))
    → IsOutcome words world usage → gave_up status ≡ false → Delivers usage status before now → IsAnswered words status before now world
answered_usage words world usage status before now is done delivers =
    delivered words world usage status before now is done delivers

-- the outcome 0 comes of a design without findings of the first grade alone
pub zero_is_clean : (words : List (List ℕ)) (world : World) (wanted : Outcome) (before now : Option (List ℕ))
    → is_sign (order words) ≡ true → IsOutcome words world wanted → 0 ≡ wanted.status → Appends before now wanted.bytes → IsSignedClean words before now world
zero_is_clean words world wanted before now asked is zero written = by_order (order words) refl is
  where
    clash : {P : Type 0} (status : ℕ) → wanted.status ≡ status → 0 ≢ status → P
    clash status same other = absurd (other (zero ∙ same))

    by_grade : (top : List ℕ) (files texts : List (List ℕ)) (circuits : List (List Circuit)) (conditions : List FileConditions) (design : DesignParts) → order words ≡ Some (Sign top files) → texts_of world.files files ≡ Some texts
        → AreSpelled texts circuits → AreAsked texts conditions → tool_noted (all_foreign conditions) (elaborated (library_of circuits) top) ≡ Ok design → (ruled : IsRuled top (named files texts) design wanted)
        → (b : Bool) → has_first_grade ruled.found ≡ b → wanted ≡ record { status = cond (not b) 0 1; bytes = report_of top (named files texts) design ruled.found ruled.shown } → IsSignedClean words before now world
    by_grade top files texts circuits conditions design command held spelled asks made ruled true some outcome = clash 1 (ap (λ o. o.status) outcome) (λ same. omega (arith, same))
    by_grade top files texts circuits conditions design command held spelled asks made ruled false none outcome =
        record {
          top = top;
          files = files;
          texts = texts;
          design = design;
          claim = record {
            command = command;
            held = held;
            circuits = circuits;
            spelled = spelled;
            conditions = conditions;
            asked = asks;
            flat = made;
            promised = ruled.promised none;
          };
          hardware = ruled.hardware none;
          report = record {
            findings = ruled.found;
            found = ruled.are_all;
            clean = none;
            shown = ruled.shown;
            are_shown = ruled.are_shown;
            reported = rw (← ap (λ o. o.bytes) outcome) written;
          };
          firmly = ruled.firmly;
        }

    by_built : (top : List ℕ) (files texts : List (List ℕ)) (circuits : List (List Circuit)) (conditions : List FileConditions) → order words ≡ Some (Sign top files) → texts_of world.files files ≡ Some texts
        → AreSpelled texts circuits → AreAsked texts conditions → (made : Result DesignParts Answer) → tool_noted (all_foreign conditions) (elaborated (library_of circuits) top) ≡ made → IsAnswer top (named files texts) (elaborated_or_not (named files texts) made) wanted → IsSignedClean words before now world
    by_built top files texts circuits conditions command held spelled asks (Ok design) made outcome =
        by_grade top files texts circuits conditions design command held spelled asks made outcome (has_first_grade outcome.found) refl outcome.is
    by_built top files texts circuits conditions command held spelled asks (Err answer) made outcome = clash 2 (ap (λ o. o.status) outcome) (λ same. omega (arith, same))

    by_front : (top : List ℕ) (files texts : List (List ℕ)) → order words ≡ Some (Sign top files) → texts_of world.files files ≡ Some texts
        → (front : Front) → IsFront texts front → IsAnswer top (named files texts) (built_of top (named files texts) front) wanted → IsSignedClean words before now world
    by_front top files texts command held (Modules circuits conditions) front outcome =
        by_built top files texts circuits conditions command held front.0 front.1 (tool_noted (all_foreign conditions) (elaborated (library_of circuits) top)) refl outcome
    by_front top files texts command held (Faulty file fault) refused outcome = clash 2 (ap (λ o. o.status) outcome) (λ same. omega (arith, same))

    by_texts : (top : List ℕ) (files : List (List ℕ)) → order words ≡ Some (Sign top files) → (o : Option (List (List ℕ))) → texts_of world.files files ≡ o
        → IsSigned top files o wanted → IsSignedClean words before now world
    by_texts top files command None held outcome = clash 9 (ap (λ o. o.status) outcome) (λ same. omega (arith, same))
    by_texts top files command (Some texts) held outcome =
        by_front top files texts command held outcome.is_built.front outcome.is_built.is_front (subst (λ (b : Built). IsAnswer top (named files texts) b wanted) outcome.is_built.is outcome.is)

    by_order : (o : Option Order) → order words ≡ o → IsDone world o wanted → IsSignedClean words before now world
    by_order None command outcome = clash 3 (ap (λ o. o.status) outcome) (λ same. omega (arith, same))
    by_order (Some (Sign top files)) command outcome = by_texts top files command (texts_of world.files files) refl outcome
    by_order (Some (Simulate top steps files)) command outcome = absurd (let no : false ≡ true = ap is_sign (sym command) ∙ asked in cc)
    by_order (Some (Replay top demo files)) command outcome = absurd (let no : false ≡ true = ap is_sign (sym command) ∙ asked in cc)
    by_order (Some (Vcd top scope dump files)) command outcome = absurd (let no : false ≡ true = ap is_sign (sym command) ∙ asked in cc)
    by_order (Some (Generate stages)) command outcome = absurd (let no : false ≡ true = ap is_sign (sym command) ∙ asked in cc)

-- the headline from the answer 0
pub signed_clean : (words : List (List ℕ)) (world : World) (before now : Option (List ℕ)) → is_sign (order words) ≡ true → IsAnswered words 0 before now world → IsSignedClean words before now world
signed_clean words world before now asked is =
    let wanted = is.answered refl in
    let not_five : 0 ≢ 5 = λ same. omega (arith, same) in
    zero_is_clean words world wanted.0 before now asked wanted.1 (wanted.2.exact not_five) (wanted.2.whole not_five)
