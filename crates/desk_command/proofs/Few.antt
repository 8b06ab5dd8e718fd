-- How many links of a run get a reply of the status 503.
use Rattle.std.proofs.Common.{◌≡◌, ◌∙◌, ◌≤◌, ◌<◌, ◌^◌, ◌+◌, ◌-◌, ◌⊎◌, ℕ, Bool, true, false, cond, List, ◌∷◌, refl, sym, eqb-true, true≢false, inl, inr, arith}
use Rattle.std.proofs.lemmas.List.Sums.{sum_by-cons}
use Rattle.desk_io.specs.Causes.{Rose}
use Rattle.desk_tables.specs.Tables.{Kept}
use Rattle.desk_links.specs.Doors.{Ended}
use Rattle.desk_requests.specs.Replies.{Said}
use Rattle.desk_core.specs.Machine.{AreAccepted}
use Rattle.desk_core.proofs.Accepted.{first_accepted}
use Rattle.desk_server.specs.Connections.{Answered, HalfHeard, IsConnected, IsDelivered, Unheard}
use Rattle.desk_server.specs.Exchanges.{Around, IsReply, NoDay, OutOfMemory, Refused, Refuses, Served}
use Rattle.desk_core.specs.Serving.{ServesRightly}
use Rattle.desk_server.specs.Servings.{AreLater, Done, Next, Run, served_of}
use Rattle.desk_command.specs.Servings.{AreFew, is_unavailable, unavailable_count}
use Rattle.desk_server.specs.declared.exchange.Served.{Served as Ending}
use Rattle.desk_server.specs.declared.exchange.Served.TheVariants.{Dropped, Replied}
use Rattle.desk_command.proofs.Causes.{no_failure, serves_accepted, serves_cause}
use Rattle.desk_command.proofs.Statuses.{refused_plain}

-- ---- one link

-- a count rose
abbrev RoseAround : Around → Around → Type 0
RoseAround before after = Rose before.clock after.clock ⊎ Rose before.keeper after.keeper

reply_cause : (input : List ℕ) (before after : Around) (kept kept' : Kept) (answer : Said) → AreAccepted kept.replies → IsReply ServesRightly input before after kept kept' answer → answer.status ≡ 503 → RoseAround before after
reply_cause input before after kept kept' answer all (Refused status refuses same) is =
    absurd (no_failure status (refused_plain input (Refuses status) refuses) is)
reply_cause input before after kept kept' answer all (Served request today kept'' said asks day does calm) is =
    inr (serves_cause request today before.keeper after.keeper kept kept'' said all does.serves is)
reply_cause input before after kept kept' answer all (NoDay request asks day rose still) is = inl rose
reply_cause input before after kept kept' answer all (OutOfMemory day still) is = absurd (no_failure 507 refl is)

reply_accepted : (input : List ℕ) (before after : Around) (kept kept' : Kept) (answer : Said) → AreAccepted kept.replies → IsReply ServesRightly input before after kept kept' answer → AreAccepted kept'.replies
reply_accepted input before after kept kept' answer all (Refused status refuses same) = all
reply_accepted input before after kept kept' answer all (Served request today kept'' said asks day does calm) =
    serves_accepted request today before.keeper after.keeper kept kept'' said all does.serves
reply_accepted input before after kept kept' answer all (NoDay request asks day rose still) = all
reply_accepted input before after kept kept' answer all (OutOfMemory day still) = all

given_status : (served : Ending) (faults faults' : ℕ) (answer : Said) (written : List ℕ) → IsDelivered served faults faults' answer written → is_unavailable served ≡ true → answer.status ≡ 503
given_status (Replied status) faults faults' answer written given is =
    sym given.0 ∙ eqb-true status 503 is
given_status Dropped faults faults' answer written given is = absurd (true≢false (sym is))

link_cause : (input written : List ℕ) (faults faults' : ℕ) (before after : Around) (kept kept' : Kept) (served : Ending) → AreAccepted kept.replies → IsConnected ServesRightly input written faults faults' before after kept kept' served → is_unavailable served ≡ true → RoseAround before after
link_cause input written faults faults' before after kept kept' served all (Answered first rest kept'' answer ending invited parts reply given) is =
    reply_cause input before after kept kept'' answer all reply
    (given_status ending faults faults' answer rest given is)
link_cause input written faults faults' before after kept kept' served all (Unheard nothing same rose) is =
    absurd (true≢false (sym is))
link_cause input written faults faults' before after kept kept' served all (HalfHeard first lost invited front same rose) is =
    absurd (true≢false (sym is))

link_accepted : (input written : List ℕ) (faults faults' : ℕ) (before after : Around) (kept kept' : Kept) (served : Ending) → AreAccepted kept.replies → IsConnected ServesRightly input written faults faults' before after kept kept' served → AreAccepted kept'.replies
link_accepted input written faults faults' before after kept kept' served all (Answered first rest kept'' answer ending invited parts reply given) =
    reply_accepted input before after kept kept'' answer all reply
link_accepted input written faults faults' before after kept kept' served all (Unheard nothing same rose) = all
link_accepted input written faults faults' before after kept kept' served all (HalfHeard first lost invited front same rose) = all

-- ---- counts

-- a count that rose and doesn't end at the last value is greater
rose_below : (before now : ℕ) → now < 2 ^ 64 - 1 → Rose before now → before + 1 ≤ now
rose_below before now below rose = omega arith

clock_rose : (clock clock' keeper keeper' : ℕ) → keeper ≤ keeper' → clock + 1 ≤ clock' → clock + keeper + 1 ≤ clock' + keeper'
clock_rose clock clock' keeper keeper' later more = omega arith

keeper_rose : (clock clock' keeper keeper' : ℕ) → clock ≤ clock' → keeper + 1 ≤ keeper' → clock + keeper + 1 ≤ clock' + keeper'
keeper_rose clock clock' keeper keeper' later more = omega arith

-- one link counts once at most, and then a count rose
one_few : (counts : Bool) (clock clock' keeper keeper' : ℕ) → clock ≤ clock' → keeper ≤ keeper' → clock' < 2 ^ 64 - 1 → keeper' < 2 ^ 64 - 1 → (counts ≡ true → Rose clock clock' ⊎ Rose keeper keeper') → clock + keeper + cond counts 1 0 ≤ clock' + keeper'
one_few true clock clock' keeper keeper' later later' below below' cause =
    elim (cause refl) [
      | inl rose ↦ clock_rose clock clock' keeper keeper' later' (rose_below clock clock' below rose)
      | inr rose ↦ keeper_rose clock clock' keeper keeper' later (rose_below keeper keeper' below' rose)
    ]
one_few false clock clock' keeper keeper' later later' below below' cause = omega (arith, later, later')

run_later : (inputs : List (List ℕ)) (links : List Ended) (before after : Around) (kept kept' : Kept) → Run ServesRightly inputs links before after kept kept' → AreLater before after
run_later _ _ before after _ _ (Done around kept) =
    record { clock = omega arith; keeper = omega arith }
run_later _ _ before after _ _ (Next input inputs link links before' middle after' kept kept' kept'' one run) =
    let first : AreLater before' middle = one.later in
    let rest : AreLater middle after' = run_later inputs links middle after' kept' kept'' run in
    record { clock = omega (arith, first.clock, rest.clock); keeper = omega (arith, first.keeper, rest.keeper) }

run_few : (inputs : List (List ℕ)) (links : List Ended) (before after : Around) (kept kept' : Kept) (run : Run ServesRightly inputs links before after kept kept') → AreAccepted kept.replies → after.clock < 2 ^ 64 - 1 → after.keeper < 2 ^ 64 - 1 → before.clock + before.keeper + unavailable_count (served_of run) ≤ after.clock + after.keeper
run_few _ _ before after _ _ (Done around kept) all below below' = omega arith
run_few _ _ before after _ _ (Next input inputs link links before' middle after' kept kept' kept'' one run) all below below' =
    let rest : AreLater middle after' = run_later inputs links middle after' kept' kept'' run in
    let clocks : middle.clock < 2 ^ 64 - 1 = omega (arith, rest.clock, below) in
    let keepers : middle.keeper < 2 ^ 64 - 1 = omega (arith, rest.keeper, below') in
    let first : before'.clock + before'.keeper + cond (is_unavailable one.served) 1 0 ≤ middle.clock + middle.keeper =
    one_few (is_unavailable one.served) before'.clock middle.clock before'.keeper middle.keeper one.later.clock one.later.keeper clocks keepers
    (link_cause input link.talk.written 0 link.faults before' middle kept kept' one.served all one.connected) in
    let others : middle.clock + middle.keeper + unavailable_count (served_of run) ≤ after'.clock + after'.keeper =
    run_few inputs links middle after' kept' kept'' run
    (link_accepted input link.talk.written 0 link.faults before' middle kept kept' one.served all one.connected) below below' in
    let counted : unavailable_count (one.served ∷ served_of run) ≡ cond (is_unavailable one.served) 1 0 + unavailable_count (served_of run) =
    sum_by-cons (λ (served : Ending). cond (is_unavailable served) 1 0) one.served (served_of run) in
    omega (arith, first, others, counted)

few_by : (counted clock clock' keeper keeper' : ℕ) → clock ≤ clock' → keeper ≤ keeper' → clock + keeper + counted ≤ clock' + keeper' → counted ≤ (clock' - clock) + (keeper' - keeper)
few_by counted clock clock' keeper keeper' later later' most = omega arith

-- no more than the counts rose by
pub are_few : (inputs : List (List ℕ)) (links : List Ended) (before after : Around) (kept kept' : Kept) (run : Run ServesRightly inputs links before after kept kept') → AreFew (served_of run) before after kept
are_few inputs links before after kept kept' run = λ none below below'.
    let later : AreLater before after = run_later inputs links before after kept kept' run in
    few_by (unavailable_count (served_of run)) before.clock after.clock before.keeper after.keeper later.clock later.keeper
    (run_few inputs links before after kept kept' run (first_accepted kept none) below below')
