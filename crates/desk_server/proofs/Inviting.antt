-- What is said before the body of a request is read, and what is heard behind it.
use Rattle.std.proofs.Common.{◌≡◌, ◌≤◌, ◌<◌, ℕ, ◌⊎◌, inl, inr, List, [], ◌++◌, drop, Option, Some, Result, Ok, Err, ◌∙◌, ap, sym, subst, refl, arith, append_assoc, append-nil}
use Rattle.std.specs.Prelude.{IfOk, ⊤}
use Rattle.std.proofs.lemmas.Bool.Decides.{nat_tests}
use Rattle.desk_io.specs.declared.failed.Failed.{Failed}
use Rattle.desk_links.specs.Links.{GoesOn, IsAtEnd, Talk}
use Rattle.desk_requests.specs.declared.ask.Request.{Request}
use Rattle.desk_http.specs.Heads.{HasNoHead, Heard, IsReady, IsStateOf, heard, said}
use Rattle.desk_http.specs.Hosts.{served_length}
use Rattle.desk_http.specs.declared.fault.BadRequest.TheVariants.{Malformed}
use Rattle.desk_http.specs.declared.head.Head.{Head}
use Rattle.desk_http.specs.declared.head.HeadState.TheVariants.{Bad}
use Rattle.desk_service.specs.Service.{IsShort}
use Rattle.desk_server.specs.Exchanges.{Asked, AtHead, AtNone, Headless, IsInvited, framed, invitation, invited}
use Rattle.desk_server.specs.Hearing.{HeardAs, HeardBehind, Hears, HearsInput, HearsOver, Inviting, IsHeard, IsHeardOver, IsSettled, SaysFront, Silent, left_of}
use Rattle.desk_server.specs.declared.hear.Unheard.{Unheard}
use Rattle.desk_server.specs.declared.hear.Unheard.TheVariants as unheard
use Rattle.desk_server.proofs.Inputs.{as_heard, bad_asked, begins_more, long_asked, none_comes, stated_as}
use Rattle.desk_server.proofs.Shorts.{asked_short}
use Rattle.desk_server.proofs.Talks.{GoesOn-none, GoesOn-trans}

-- ---- what is said first

invited_long : (head : Heard) (count : ℕ) → 1048576 < count → [] ≡ invited head (Some count)
invited_long head count long = grind (arith, nat_tests)

invited_fit : (head : Heard) (count : ℕ) → count ≤ 1048576 → invitation head count ≡ invited head (Some count)
invited_fit head count fits = grind (arith, nat_tests)

-- to a head whose body is read, what it waits for
ready_invited : (bytes more : List ℕ) (head : Head) (used body : ℕ) → IsReady bytes head used body
    → body ≤ 1048576 → IsInvited (bytes ++ more) (invitation (heard head) body)
ready_invited bytes more head used body it fits =
    let stated = stated_as (served_length (said it.written).lines) body it.stated in
    let same : stated.0 ≡ body = omega (arith, stated.2) in
    AtHead it.written (begins_more bytes more it.written it.begins)
    (ap (λ h. invitation h body) it.same
    ∙ invited_fit (said it.written) body fits
    ∙ ap (λ n. invited (said it.written) (Some n)) (sym same)
    ∙ ap (invited (said it.written)) (sym stated.1))

-- and nothing where it is too long
long_invited : (bytes more : List ℕ) (head : Head) (used body : ℕ) → IsReady bytes head used body
    → 1048576 < body → IsInvited (bytes ++ more) []
long_invited bytes more head used body it long =
    let stated = stated_as (served_length (said it.written).lines) body it.stated in
    let exceeds : 1048576 < stated.0 = omega (arith, stated.2) in
    AtHead it.written (begins_more bytes more it.written it.begins)
    (invited_long (said it.written) stated.0 exceeds ∙ ap (invited (said it.written)) (sym stated.1))

-- and nothing to a head that isn't served
bad_invited : (bytes more : List ℕ) → IsStateOf bytes Bad → IsInvited (bytes ++ more) []
bad_invited bytes more (inl it) =
    AtHead it.written (begins_more bytes more it.written it.begins)
    (sym (ap (invited (said it.written)) it.refused))
bad_invited bytes more (inr never) = AtNone (never more) refl

-- ---- what is heard behind it

nothing_over : (talk : Option Talk) (P : List ℕ → List ℕ → Type 0) → P (left_of talk) [] → HearsOver talk talk P
nothing_over talk P holds =
    record { heard = []; said = []; goes = GoesOn-none talk; holds = holds }

-- the heads that bytes may begin with
pub more_heard : (talk : Option Talk) (bytes : List ℕ) → HasNoHead bytes → IsSettled bytes ⊎ IsAtEnd talk
    → HearsOver talk talk (λ more said. IsHeardOver (Err (unheard.Refused Malformed)) (bytes ++ more) said)
more_heard talk bytes none known =
    nothing_over talk (λ more said. IsHeardOver (Err (unheard.Refused Malformed)) (bytes ++ more) said)
    (let never = none_comes bytes talk none known in (Headless never refl, AtNone never refl))

pub bad_heard : (talk : Option Talk) (bytes : List ℕ) → IsStateOf bytes Bad
    → HearsOver talk talk (λ more said. IsHeardOver (Err (unheard.Refused Malformed)) (bytes ++ more) said)
bad_heard talk bytes bad =
    nothing_over talk (λ more said. IsHeardOver (Err (unheard.Refused Malformed)) (bytes ++ more) said)
    (bad_asked bytes (left_of talk) bad, bad_invited bytes (left_of talk) bad)

pub long_heard : (talk : Option Talk) (bytes : List ℕ) (head : Head) (used body : ℕ)
    → IsReady bytes head used body → 1048576 < body
    → HearsOver talk talk (λ more said. IsHeardOver (Err unheard.TooLong) (bytes ++ more) said)
long_heard talk bytes head used body it long =
    nothing_over talk (λ more said. IsHeardOver (Err unheard.TooLong) (bytes ++ more) said)
    (long_asked bytes (left_of talk) head used body it long, long_invited bytes (left_of talk) head used body it long)

-- what was to be said first was, whole
behind_by : (result : Result Request Unheard) (asked : Asked) (first said : List ℕ) → said ≡ first → HeardAs result asked
    → HeardBehind result asked first said
behind_by (Ok request) asked first said same made = (made, same)
behind_by (Err (unheard.Refused fault)) asked first said same made = (made, same)
behind_by (Err unheard.TooLong) asked first said same made = (made, same)
behind_by (Err unheard.Failed) asked first said same made =
    record { lost = []; parts = sym same ∙ sym (append-nil said) }

pub heard_behind : (a b c : Option Talk) (first : List ℕ) (result : Result Request Unheard) (asked_by : List ℕ → Asked)
    → SaysFront a b first (Ok tt) → HearsInput b c (λ more. HeardAs result (asked_by more))
    → HearsOver a c (λ more said. HeardBehind result (asked_by more) first said)
heard_behind a b c first result asked_by says hears = record {
  heard = hears.heard;
  said = says.front ++ [];
  goes = GoesOn-trans a b c [] hears.heard says.front [] says.goes hears.goes;
  holds = behind_by result (asked_by (hears.heard ++ left_of c)) first (says.front ++ [])
      (ap (λ l. says.front ++ l) (sym says.whole) ∙ sym says.parts) hears.holds;
}

-- or not
pub cut_behind : (a b : Option Talk) (first : List ℕ) (fault : Failed) (asked_by : List ℕ → Asked)
    → SaysFront a b first (Err fault)
    → HearsOver a b (λ more said. HeardBehind (Err unheard.Failed) (asked_by more) first said)
cut_behind a b first fault asked_by says = record {
  heard = [];
  said = says.front;
  goes = says.goes;
  holds = record { lost = says.lost; parts = says.parts };
}

-- with this head
over_by : (result : Result Request Unheard) (bytes more said : List ℕ) (head : Head) (used body : ℕ)
    → IsReady bytes head used body → body ≤ 1048576
    → HeardBehind result (framed (heard head) (drop used bytes ++ more) (Some body)) (invitation (heard head) body) said
    → IsHeardOver result (bytes ++ more) said
over_by (Ok request) bytes more said head used body it fits made =
    (as_heard (Ok request) bytes more head used body it fits made.0, subst (IsInvited (bytes ++ more)) (sym made.1) (ready_invited bytes more head used body it fits))
over_by (Err (unheard.Refused fault)) bytes more said head used body it fits made =
    (as_heard (Err (unheard.Refused fault)) bytes more head used body it fits made.0, subst (IsInvited (bytes ++ more)) (sym made.1) (ready_invited bytes more head used body it fits))
over_by (Err unheard.TooLong) bytes more said head used body it fits made =
    (as_heard (Err unheard.TooLong) bytes more head used body it fits made.0, subst (IsInvited (bytes ++ more)) (sym made.1) (ready_invited bytes more head used body it fits))
over_by (Err unheard.Failed) bytes more said head used body it fits made =
    Inviting (invitation (heard head) body) (ready_invited bytes more head used body it fits) made

pub rest_heard : (a b : Option Talk) (result : Result Request Unheard) (bytes front : List ℕ) (head : Head) (used body : ℕ)
    → IsReady bytes head used body → body ≤ 1048576
    → HearsOver a b (λ more said. HeardBehind result (framed (heard head) (front ++ more) (Some body)) (invitation (heard head) body) said)
    → front ≡ drop used bytes
    → HearsOver a b (λ more said. IsHeardOver result (bytes ++ more) said)
rest_heard a b result bytes front head used body it fits hears same = record {
  heard = hears.heard;
  said = hears.said;
  goes = hears.goes;
  holds = over_by result bytes (hears.heard ++ left_of b) hears.said head used body it fits
      (subst (λ l. HeardBehind result (framed (heard head) (l ++ (hears.heard ++ left_of b)) (Some body)) (invitation (heard head) body) hears.said) same hears.holds);
}

pub front_heard : (a b c : Option Talk) (result : Result Request Unheard) (front bytes : List ℕ)
    → GoesOn a b front [] → HearsOver b c (λ more said. IsHeardOver result (bytes ++ more) said) → bytes ≡ front
    → HearsOver a c (IsHeardOver result)
front_heard a b c result front bytes goes hears same = record {
  heard = front ++ hears.heard;
  said = hears.said;
  goes = GoesOn-trans a b c front hears.heard [] hears.said goes hears.goes;
  holds = subst (λ l. IsHeardOver result l hears.said)
      (ap (λ l. l ++ (hears.heard ++ left_of c)) same ∙ sym (append_assoc front hears.heard (left_of c))) hears.holds;
}

-- a call of the link failed before a head was heard
pub none_heard : (a b : Option Talk) → Hears a b (λ _. ⊤) → HearsOver a b (IsHeardOver (Err unheard.Failed))
none_heard a b hears =
    record { heard = hears.heard; said = []; goes = hears.goes; holds = Silent refl }

-- a request that is heard is short
pub short_heard : (a b : Option Talk) (result : Result Request Unheard) (front : List ℕ)
    → HearsOver a b (λ more said. IsHeardOver result (front ++ more) said) → IfOk result (λ request. IsShort request.ask)
short_heard a b (Ok request) front it = asked_short _ request it.holds.0
short_heard a b (Err why) front it = tt

-- ---- what was heard is known, but where a call failed

abbrev pub IsKnown : Result Request Unheard → List ℕ → List ℕ → Type 0
IsKnown result input said = IsHeard result input × IsInvited input said

known_by : (why : Unheard) (input said : List ℕ) → ¬ (why ≡ unheard.Failed) → IsHeardOver (Err why) input said
    → IsKnown (Err why) input said
known_by (unheard.Refused fault) input said other is = is
known_by unheard.TooLong input said other is = is
known_by unheard.Failed input said other is = absurd (other refl)

pub known_heard : (a b : Option Talk) (why : Unheard) → ¬ (why ≡ unheard.Failed)
    → HearsOver a b (IsHeardOver (Err why)) → HearsOver a b (IsKnown (Err why))
known_heard a b why other it = record {
  heard = it.heard;
  said = it.said;
  goes = it.goes;
  holds = known_by why (it.heard ++ left_of b) it.said other it.holds;
}
