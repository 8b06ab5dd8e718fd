-- How links are served one after the other.
use Rattle.std.proofs.Common.{◌≡◌, ◌≤◌, ℕ, ◌+◌, Ok, Err, List, [], ◌∷◌, ◌++◌, length, Option, None, Some, ◌∙◌, ap, sym, subst, refl, arith, append_assoc, append-nil}
use Rattle.std.proofs.lemmas.List.{length_push}
use Rattle.desk_io.specs.declared.failed.Failed.{Failed}
use Rattle.desk_tables.specs.Tables.{Kept}
use Rattle.desk_links.specs.Doors.{Ended, GivesLink, IsSameVisits, TakesLink, Tells, Visits}
use Rattle.desk_links.specs.Links.{Talk, fresh_talk, input_of}
use Rattle.desk_service.specs.Service.{Serving}
use Rattle.desk_server.specs.Connections.{IsConnected, OverTalk}
use Rattle.desk_server.specs.Exchanges.{Around}
use Rattle.desk_server.specs.Servings.{AreLater, Done, IsServedLink, Next, Run, ServesCount, ServesLinks}
use Rattle.desk_server.specs.declared.exchange.Served.{Served}

-- one link more
run_more : {serves : Serving} (inputs : List (List ℕ)) (links : List Ended) (before middle after : Around) (kept kept' kept'' : Kept)
    (input : List ℕ) (link : Ended)
    → Run serves inputs links before middle kept kept' → IsServedLink serves input link middle after kept' kept''
    → Run serves (inputs ++ input ∷ []) (links ++ link ∷ []) before after kept kept''
run_more _ _ _ _ after _ _ kept'' input link (Done around kept) served =
    Next input [] link [] around after after kept kept'' kept'' served (Done after kept'')
run_more _ _ _ _ after _ _ kept'' input link (Next first inputs one links before between middle kept mid kept' it rest) served =
    Next first (inputs ++ input ∷ []) one (links ++ link ∷ []) before between after kept mid kept'' it
    (run_more inputs links between middle after mid kept' kept'' input link rest served)

-- so many links are served
pub record IsRunning (serves : Serving) (count : ℕ) (around around' : Around) (kept kept' : Kept) (before after : Visits) : Type 0 where
  pub linked : ServesLinks serves around around' kept kept' before after
  pub counted : length linked.inputs ≡ count

pub running_none : (serves : Serving) (visits : Option Visits) (around : Around) (kept : Kept)
    → Tells visits visits (IsRunning serves 0 around around kept kept)
running_none serves None around kept = tt
running_none serves (Some visits) around kept = record {
  linked = record {
    inputs = [];
    links = [];
    ports = refl;
    given = sym (append-nil visits.given);
    ended = sym (append-nil visits.ended);
    run = Done around kept;
  };
  counted = refl;
}

-- the talk of a fresh link is told to its end
pub record IsHeardOut (input : List ℕ) (after : Option Talk) (P : List ℕ → List ℕ → Type 0) : Type 0 where
  pub told : Talk
  pub is : after ≡ Some told
  pub all : input_of told ≡ input
  pub holds : P input told.written

heard_fresh : (input : List ℕ) (after : Option Talk) (P : List ℕ → List ℕ → Type 0)
    → OverTalk (Some (fresh_talk input)) after P → IsHeardOut input after P
heard_fresh input None P over = absurd over.talks
heard_fresh input (Some told) P over = record {
  told = told;
  is = refl;
  all = over.talks.1;
  holds = subst (λ l. P l told.written) (sym over.talks.0) (subst (P over.input) (sym over.talks.2) over.holds);
}

heard_out : (input : List ℕ) (before after : Option Talk) (P : List ℕ → List ℕ → Type 0)
    → before ≡ Some (fresh_talk input) → OverTalk before after P → IsHeardOut input after P
heard_out input before after P fresh over =
    heard_fresh input after P (subst (λ talk. OverTalk talk after P) fresh over)

-- one link more is given, served and taken back
served_more : {serves : Serving} (v v' v'' v''' : Visits) (talk talk' : Option Talk) (faults faults' : ℕ)
    (a a' a'' : Around) (k k' k'' : Kept) (count : ℕ) (served : Served)
    → IsRunning serves count a a' k k' v v' → GivesLink talk faults v' v'' → TakesLink talk' faults' v'' v'''
    → OverTalk talk talk' (λ input written. IsConnected serves input written faults faults' a' a'' k' k'' served)
    → AreLater a' a''
    → IsRunning serves (count + 1) a a'' k k'' v v'''
served_more {serves} v v' v'' v''' talk talk' faults faults' a a' a'' k k' k'' count served it gives takes over later =
    let P : List ℕ → List ℕ → Type 0 = λ input written. IsConnected serves input written faults faults' a' a'' k' k'' served in
    let out = heard_out gives.input talk talk' P gives.fresh over in
    let link : Ended = record { talk = out.told; faults = faults' } in
    let one : IsServedLink serves gives.input link a' a'' k' k'' = record {
      heard = out.all;
      served = served;
      connected = subst (λ n. IsConnected serves gives.input out.told.written n faults' a' a'' k' k'' served) gives.unharmed out.holds;
      later = later;
    } in
    let run : Run serves (it.linked.inputs ++ gives.input ∷ []) (it.linked.links ++ link ∷ []) a a'' k k'' =
    run_more it.linked.inputs it.linked.links a a' a'' k k' k'' gives.input link it.linked.run one in
    record {
      linked = record {
        inputs = it.linked.inputs ++ gives.input ∷ [];
        links = it.linked.links ++ link ∷ [];
        ports = takes.ports ∙ gives.ports ∙ it.linked.ports;
        given = takes.given ∙ gives.given ∙ ap (λ l. l ++ gives.input ∷ []) it.linked.given ∙ append_assoc v.given it.linked.inputs (gives.input ∷ []);
        ended = takes.ended out.told out.is ∙ ap (λ l. l ++ link ∷ []) gives.ended ∙ ap (λ l. l ++ link ∷ []) it.linked.ended ∙ append_assoc v.ended it.linked.links (link ∷ []);
        run = run;
      };
      counted = length_push it.linked.inputs gives.input ∙ ap (λ n. n + 1) it.counted;
    }

-- the same, where the door tells it
pub running_more : {serves : Serving} (v v' v'' v''' : Option Visits) (talk talk' : Option Talk) (faults faults' : ℕ)
    (a a' a'' : Around) (k k' k'' : Kept) (count : ℕ) (served : Served)
    → Tells v v' (IsRunning serves count a a' k k') → Tells v' v'' (GivesLink talk faults)
    → Tells v'' v''' (TakesLink talk' faults')
    → OverTalk talk talk' (λ input written. IsConnected serves input written faults faults' a' a'' k' k'' served)
    → AreLater a' a'' → Tells v v''' (IsRunning serves (count + 1) a a'' k k'')
running_more None v' v'' v''' talk talk' faults faults' a a' a'' k k' k'' count served it gives takes over later = tt
running_more (Some v) None v'' v''' talk talk' faults faults' a a' a'' k k' k'' count served it gives takes over later = absurd it
running_more (Some v) (Some v') None v''' talk talk' faults faults' a a' a'' k k' k'' count served it gives takes over later = absurd gives
running_more (Some v) (Some v') (Some v'') None talk talk' faults faults' a a' a'' k k' k'' count served it gives takes over later = absurd takes
running_more (Some v) (Some v') (Some v'') (Some v''') talk talk' faults faults' a a' a'' k k' k'' count served it gives takes over later =
    served_more v v' v'' v''' talk talk' faults faults' a a' a'' k k' k'' count served it gives takes over later

-- all are served that were wanted
pub served_all : (serves : Serving) (v v' : Option Visits) (a a' : Around) (k k' : Kept) (count wanted : ℕ)
    → Tells v v' (IsRunning serves count a a' k k') → count ≡ wanted
    → Tells v v' (ServesCount serves wanted (Ok tt) a a' k k')
served_all serves None v' a a' k k' count wanted it same = tt
served_all serves (Some v) None a a' k k' count wanted it same = absurd it
served_all serves (Some v) (Some v') a a' k k' count wanted it same =
    let counted : length it.linked.inputs ≡ count = it.counted in
    record { served = it.linked; most = omega (arith, counted, same); all = counted ∙ same }

-- the door gives no link more
pub served_some : (serves : Serving) (v v' v'' : Option Visits) (a a' : Around) (k k' : Kept) (count wanted : ℕ) (fault : Failed)
    → Tells v v' (IsRunning serves count a a' k k') → Tells v' v'' IsSameVisits → count ≤ wanted
    → Tells v v'' (ServesCount serves wanted (Err fault) a a' k k')
served_some serves None v' v'' a a' k k' count wanted fault it stays fits = tt
served_some serves (Some v) None v'' a a' k k' count wanted fault it stays fits = absurd it
served_some serves (Some v) (Some v') None a a' k k' count wanted fault it stays fits = absurd stays
served_some serves (Some v) (Some v') (Some v'') a a' k k' count wanted fault it stays fits =
    let counted : length it.linked.inputs ≡ count = it.counted in
    subst (λ w. ServesCount serves wanted (Err fault) a a' k k' v w) (sym stays)
    (record { served = it.linked; most = omega (arith, counted, fits); all = tt })
