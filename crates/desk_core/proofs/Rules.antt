-- Tables of version 2 that break no rule are such tables after a request is served.
use Rattle.std.proofs.Common.{◌≡◌, ◌∙◌, ℕ, List, Option, None, Some, refl, sym, ap}
use Rattle.std.specs.Prelude.{ℤ}
use Rattle.desk_tables.specs.Migrations.{AreReady}
use Rattle.desk_tables.specs.Tables.{Kept}
use Rattle.desk_tables.specs.declared.change.Change.{Change}
use Rattle.source_file.specs.declared.SourceFile.{SourceFile}
use Rattle.desk_requests.specs.Replies.{Said}
use Rattle.desk_requests.specs.declared.ask.Ask.{Ask}
use Rattle.desk_requests.specs.declared.ask.Ask.TheVariants as ask
use Rattle.desk_requests.specs.declared.ask.Request.{Request}
use Rattle.desk_requests.specs.declared.ask.WaiverAsk.{WaiverAsk}
use Rattle.desk_records.specs.Machine.{request_outcome}
use Rattle.desk_records.specs.Outcomes.{Outcome, Told, Done, Open}
use Rattle.desk_sound.specs.Lawful.{ByTables, IsAccepted, IsLawful, SignedOff, Waived}
use Rattle.desk_sound.proofs.RulesKept.{rules_kept}
use Rattle.design_db.specs.desk_memo.declared.answer.Answer.TheVariants.{Ruled, Refused}
use Rattle.design_db.specs.Answers.{Answer}
use Rattle.desk_core.specs.Reports.{verdict_in}
use Rattle.desk_core.specs.Outcomes.{IsJudged, IsJudgedFor, IsOpened, IsOutcome, IsSettled, top_of, with_answer}
use Rattle.desk_core.specs.Reaches.{reach_asked}
use Rattle.desk_core.proofs.Reached.{reached_none}
use Rattle.desk_core.specs.Serving.{Accepted, Answered, IsServed, OutOfMemory, Served, Serves, Unavailable}

module _ (request : Request) (today : ℤ) (kept : Kept) (change : Change) (is_open : request_outcome request today kept ≡ Open) where
  -- an answer for its module makes a change only of a waiver or a sign-off
  signed_from : (top : List ℕ) (files : List SourceFile) (answer : Answer) → request.ask ≡ ask.SignOff top → Done change ≡ with_answer (ask.SignOff top) request today kept files answer → IsAccepted request today kept change
  signed_from top files (Ruled made reached) asks is =
      SignedOff top (verdict_in files made reached.items) asks is_open (sym is)
  signed_from top files (Refused line) asks is = absurd (cc)

  waived_from : (it : WaiverAsk) (files : List SourceFile) (answer : Answer) → request.ask ≡ ask.Waive it → Done change ≡ with_answer (ask.Waive it) request today kept files answer → IsAccepted request today kept change
  waived_from it files (Ruled made reached) asks is =
      Waived it (verdict_in files made reached.items) asks is_open (sym is)
  waived_from it files (Refused line) asks is = absurd (cc)

  answered : (it : Ask) (top : List ℕ) (judged : IsJudged request today kept top (Done change)) → request.ask ≡ it → Done change ≡ with_answer it request today kept judged.files judged.answer
  answered it top judged asks =
      judged.is ∙ ap (λ its. with_answer its request today kept judged.files judged.answer) asks

  judged_from : (it : Ask) → request.ask ≡ it → IsJudgedFor request today kept (top_of it) (Done change) → IsAccepted request today kept change
  judged_from (ask.PutFile name text) asks judged = absurd judged
  judged_from (ask.GetFile name) asks judged = absurd judged
  judged_from (ask.FileText name) asks judged = absurd judged
  judged_from ask.Files asks judged = absurd judged
  judged_from (ask.DropFile name) asks judged = absurd judged
  judged_from (ask.Ruling top) asks judged =
      let told = answered (ask.Ruling top) top judged asks in absurd (cc)
  judged_from (ask.Reach top) asks judged = absurd judged
  judged_from (ask.SignOff top) asks judged =
      signed_from top judged.files judged.answer asks (answered (ask.SignOff top) top judged asks)
  judged_from ask.SignOffs asks judged = absurd judged
  judged_from (ask.Waive it) asks judged =
      waived_from it judged.files judged.answer asks (answered (ask.Waive it) it.top judged asks)
  judged_from ask.Waivers asks judged = absurd judged
  judged_from (ask.Revoke id) asks judged = absurd judged

opened_from : (request : Request) (today : ℤ) (kept : Kept) (change : Change) (asked : Option (List ℕ)) → request_outcome request today kept ≡ Open → IsOpened request today kept asked (top_of request.ask) (Done change) → IsAccepted request today kept change
opened_from request today kept change None comes is = judged_from request today kept change comes request.ask refl is
opened_from request today kept change (Some top) comes is =
    absurd (reached_none change top kept is.answer is.is)

settled_from : (request : Request) (today : ℤ) (kept : Kept) (change : Change) (outcome : Outcome) → request_outcome request today kept ≡ outcome → IsSettled request today kept outcome (Done change) → IsAccepted request today kept change
settled_from request today kept change (Told answer) comes settled = absurd (cc)
settled_from request today kept change (Done other) comes settled = ByTables (comes ∙ sym settled)
settled_from request today kept change Open comes settled =
    opened_from request today kept change (reach_asked request.ask) comes settled

pub accepted_from : (request : Request) (today : ℤ) (kept : Kept) (change : Change) → IsOutcome request today kept (Done change) → IsAccepted request today kept change
accepted_from request today kept change is =
    settled_from request today kept change (request_outcome request today kept) refl is

served_keeps : (request : Request) (today : ℤ) (kept kept' : Kept) (answer : Said) → IsLawful request → AreReady kept → IsServed request today kept kept' answer → AreReady kept'
served_keeps request today kept kept' answer lawful ready (Answered told is) = ready
served_keeps request today kept kept' answer lawful ready (Accepted change is) =
    rules_kept request today kept change lawful ready (accepted_from request today kept change is)

-- so it is whatever a request comes to
pub serves_keeps : (request : Request) (today : ℤ) (faults faults' : ℕ) (kept kept' : Kept) (answer : Said) → IsLawful request → AreReady kept → Serves request today faults faults' kept kept' answer → AreReady kept'
serves_keeps request today faults faults' kept kept' answer lawful ready (Served kept'' said served calm) =
    served_keeps request today kept kept'' said lawful ready served
serves_keeps request today faults faults' kept kept' answer lawful ready (Unavailable rose) = ready
serves_keeps request today faults faults' kept kept' answer lawful ready (OutOfMemory calm) = ready
