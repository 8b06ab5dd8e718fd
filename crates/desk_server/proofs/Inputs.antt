-- What is asked by bytes that were heard, with what is left.
use Rattle.std.proofs.Common.{◌≡◌, ◌≤◌, ◌<◌, ◌+◌, ℕ, ◌⊎◌, inl, inr, List, ◌++◌, length, take, drop, Option, None, Some, Result, Ok, Err, Vec, ◌∙◌, ap, sym, subst, refl, arith, append-nil, length-append}
use Rattle.std.specs.declared.alloc.Global.{Global}
use Rattle.std.specs.Prelude.{option_map}
use Rattle.std.proofs.lemmas.Bool.Decides.{nat_tests}
use Rattle.std.proofs.lemmas.List.{drop_at}
use Rattle.httparse.specs.Grammar.{RequestHead, print_request}
use Rattle.httparse.proofs.GrammarLemmas.{ReadsRequest-append}
use Rattle.desk_links.specs.Links.{IsAtEnd, Talk}
use Rattle.desk_requests.specs.declared.ask.Request.{Request}
use Rattle.desk_http.specs.Gives.{Gives}
use Rattle.desk_http.specs.Heads.{BeginsWith, HasNoHead, Heard, IsReady, IsStateOf, IsUnframed, heard, said}
use Rattle.desk_http.specs.Hosts.{served_length}
use Rattle.desk_http.specs.Lines.{capped}
use Rattle.desk_http.specs.Requests.{request_of}
use Rattle.desk_http.specs.declared.fault.BadRequest.{BadRequest}
use Rattle.desk_http.specs.declared.fault.BadRequest.TheVariants.{Malformed, Memory, NotFound}
use Rattle.desk_http.specs.declared.head.Head.{Head}
use Rattle.desk_http.specs.declared.head.HeadState.TheVariants.{Bad}
use Rattle.desk_server.specs.Exchanges.{Asked, Headed, Headless, IsAsked, Refuses, asked_of, framed}
use Rattle.desk_server.specs.Hearing.{HeardAs, HearsInput, IsBody, IsHeard, IsSettled, left_of}
use Rattle.desk_server.specs.declared.hear.Unheard.{Unheard}
use Rattle.desk_server.specs.declared.hear.Unheard.TheVariants as unheard
use Rattle.desk_server.proofs.Talks.{hears_so, left-at_end}

-- the head of a front is the head of all
abbrev pub begins_more : (bytes more : List ℕ) (written : RequestHead) → BeginsWith bytes written
    → BeginsWith (bytes ++ more) written
begins_more bytes more written it = record {
  rest = it.rest ++ more;
  reads = ReadsRequest-append bytes written it.rest more it.reads;
  early = it.early;
  few = it.few;
}

-- a head that doesn't say how long its body is
unframed : (bytes more : List ℕ) → IsUnframed bytes → IsAsked (bytes ++ more) (Refuses 400)
unframed bytes more it =
    Headed it.written (begins_more bytes more it.written it.begins)
    (sym (ap (framed (said it.written) (it.begins.rest ++ more)) it.refused))

pub bad_asked : (bytes more : List ℕ) → IsStateOf bytes Bad → IsAsked (bytes ++ more) (Refuses 400)
bad_asked bytes more (inl it) = unframed bytes more it
bad_asked bytes more (inr never) = Headless (never more) refl

none_settled : (bytes more : List ℕ) → HasNoHead bytes → IsSettled bytes → HasNoHead (bytes ++ more)
none_settled bytes more none (inl it) = absurd (none it.0 it.1)
none_settled bytes more none (inr never) = never more

-- no head was heard, and none comes
pub none_comes : (bytes : List ℕ) (talk : Option Talk) → HasNoHead bytes
    → IsSettled bytes ⊎ IsAtEnd talk → HasNoHead (bytes ++ left_of talk)
none_comes bytes talk none (inl settled) = none_settled bytes (left_of talk) none settled
none_comes bytes talk none (inr ended) =
    let same : bytes ≡ bytes ++ left_of talk =
    sym (append-nil bytes) ∙ ap (λ l. bytes ++ l) (sym (left-at_end talk ended)) in
    subst HasNoHead same none

-- the length that is stated, and how it is told
pub stated_as : (stated : Option ℕ) (body : ℕ) → option_map capped stated ≡ Some body
    → (count : ℕ) × (stated ≡ Some count) × (body ≡ capped count)
stated_as None body same = absurd (cc)
stated_as (Some count) body same = (count, refl, cc)

-- a head ends within the bytes that begin with it
pub used_within : (bytes : List ℕ) (head : Head) (used body : ℕ) → IsReady bytes head used body
    → used ≤ length bytes
used_within bytes head used body it =
    let split : length bytes ≡ length (print_request it.written) + length it.begins.rest =
    ap length it.begins.reads.1 ∙ length-append (print_request it.written) it.begins.rest in
    let ends : used ≡ length (print_request it.written) = it.ends in
    omega arith

behind_head : (bytes : List ℕ) (head : Head) (used body : ℕ) (it : IsReady bytes head used body)
    → drop used bytes ≡ it.begins.rest
behind_head bytes head used body it =
    ap (drop used) it.begins.reads.1 ∙ drop_at (print_request it.written) it.begins.rest used (sym it.ends)

pub framed_long : (head : Heard) (rest : List ℕ) (count : ℕ) → 1048576 < count
    → framed head rest (Some count) ≡ Refuses 413
framed_long head rest count long = grind (arith, nat_tests)

pub framed_cut : (head : Heard) (rest : List ℕ) (count : ℕ) → count ≤ 1048576 → length rest < count
    → framed head rest (Some count) ≡ Refuses 400
framed_cut head rest count fits cut = grind (arith, nat_tests)

pub framed_whole : (head : Heard) (rest : List ℕ) (count : ℕ) → count ≤ 1048576 → count ≤ length rest
    → framed head rest (Some count) ≡ asked_of (request_of head (take count rest))
framed_whole head rest count fits whole = grind (arith, nat_tests)

-- a body that is too long
pub long_asked : (bytes more : List ℕ) (head : Head) (used body : ℕ)
    → IsReady bytes head used body → 1048576 < body → IsAsked (bytes ++ more) (Refuses 413)
long_asked bytes more head used body it long =
    let stated = stated_as (served_length (said it.written).lines) body it.stated in
    let exceeds : 1048576 < stated.0 = omega (arith, stated.2) in
    Headed it.written (begins_more bytes more it.written it.begins)
    (sym (ap (framed (said it.written) (it.begins.rest ++ more)) stated.1 ∙ framed_long (said it.written) (it.begins.rest ++ more) stated.0 exceeds))

-- what was heard where this is asked
heard_by : (result : Result Request Unheard) (input : List ℕ) (asked : Asked)
    → IsAsked input asked → HeardAs result asked → IsHeard result input
heard_by (Ok request) input asked is same = subst (IsAsked input) same is
heard_by (Err (unheard.Refused Malformed)) input asked is same = subst (IsAsked input) same is
heard_by (Err (unheard.Refused NotFound)) input asked is same = subst (IsAsked input) same is
heard_by (Err (unheard.Refused Memory)) input asked is same = tt
heard_by (Err unheard.TooLong) input asked is same = subst (IsAsked input) same is
heard_by (Err unheard.Failed) input asked is same = tt

-- a request with this head is heard
pub as_heard : (result : Result Request Unheard) (bytes more : List ℕ) (head : Head) (used body : ℕ)
    → IsReady bytes head used body → body ≤ 1048576
    → HeardAs result (framed (heard head) (drop used bytes ++ more) (Some body))
    → IsHeard result (bytes ++ more)
as_heard result bytes more head used body it fits made =
    let stated = stated_as (served_length (said it.written).lines) body it.stated in
    let same : stated.0 ≡ body = omega (arith, stated.2) in
    let begins = begins_more bytes more it.written it.begins in
    let is : framed (heard head) (drop used bytes ++ more) (Some body)
    ≡ framed (said it.written) (it.begins.rest ++ more) (served_length (said it.written).lines) =
    ap (λ h. framed h (drop used bytes ++ more) (Some body)) it.same
    ∙ ap (λ l. framed (said it.written) (l ++ more) (Some body)) (behind_head bytes head used body it)
    ∙ ap (λ n. framed (said it.written) (it.begins.rest ++ more) (Some n)) (sym same)
    ∙ ap (framed (said it.written) (it.begins.rest ++ more)) (sym stated.1) in
    heard_by result (bytes ++ more) _ (Headed it.written begins is) made

-- a request is heard where this is asked
pub gives_ok : (request : Request) (wanted : Result Request BadRequest) → wanted ≡ Ok request
    → HeardAs (Ok request) (asked_of wanted)
gives_ok request wanted is = ap asked_of is

pub gives_err : (fault : BadRequest) (wanted : Result Request BadRequest)
    → Gives {A = Request} (Err fault) wanted → HeardAs (Err (unheard.Refused fault)) (asked_of wanted)
gives_err Malformed wanted is = ap asked_of is
gives_err NotFound wanted is = ap asked_of is
gives_err Memory wanted is = tt

-- a request of a whole body
whole_body : (head : Heard) (rest : List ℕ) (count : ℕ) (body : Vec ℕ Global) (result : Result Request Unheard)
    → count ≤ 1048576 → HeardAs result (asked_of (request_of head body.items)) → IsBody count (Ok body) rest
    → HeardAs result (framed head rest (Some count))
whole_body head rest count body result fits made is =
    subst (HeardAs result)
    (sym (framed_whole head rest count fits is.1 ∙ ap (λ l. asked_of (request_of head l)) (sym is.0))) made

pub whole_heard : (a b : Option Talk) (head : Heard) (front : List ℕ) (count : ℕ) (body : Vec ℕ Global) (result : Result Request Unheard)
    → count ≤ 1048576 → HeardAs result (asked_of (request_of head body.items))
    → HearsInput a b (λ more. IsBody count (Ok body) (front ++ more))
    → HearsInput a b (λ more. HeardAs result (framed head (front ++ more) (Some count)))
whole_heard a b head front count body result fits made it =
    hears_so a b (λ more. IsBody count (Ok body) (front ++ more))
    (λ more. HeardAs result (framed head (front ++ more) (Some count)))
    (λ more is. whole_body head (front ++ more) count body result fits made is) it

-- a body that isn't heard
cut_body : (head : Heard) (rest : List ℕ) (count : ℕ) (why : Unheard)
    → count ≤ 1048576 → IsBody count (Err why) rest
    → HeardAs (Err why) (framed head rest (Some count))
cut_body head rest count (unheard.Refused Malformed) fits cut = framed_cut head rest count fits cut
cut_body head rest count (unheard.Refused NotFound) fits cut = absurd cut
cut_body head rest count (unheard.Refused Memory) fits cut = tt
cut_body head rest count unheard.TooLong fits cut = absurd cut
cut_body head rest count unheard.Failed fits cut = tt

pub cut_heard : (a b : Option Talk) (head : Heard) (front : List ℕ) (count : ℕ) (why : Unheard)
    → count ≤ 1048576 → HearsInput a b (λ more. IsBody count (Err why) (front ++ more))
    → HearsInput a b (λ more. HeardAs (Err why) (framed head (front ++ more) (Some count)))
cut_heard a b head front count why fits it =
    hears_so a b (λ more. IsBody count (Err why) (front ++ more))
    (λ more. HeardAs (Err why) (framed head (front ++ more) (Some count)))
    (λ more is. cut_body head (front ++ more) count why fits is) it
