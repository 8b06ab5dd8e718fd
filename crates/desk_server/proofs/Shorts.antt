-- The file of a request is no longer than its body.
use Rattle.std.proofs.Common.{◌≡◌, ◌≤◌, ℕ, Bool, inl, inr, List, codes, length, take, Option, None, Some, Result, Ok, Err, true, false, ◌∙◌, ap, sym, subst, refl, arith}
use Rattle.std.specs.Prelude.{bytes_eq}
use Rattle.std.proofs.lemmas.Bool.{cases_lt}
use Rattle.std.proofs.lemmas.List.{length-take}
use Rattle.desk_requests.specs.declared.ask.Ask.{Ask}
use Rattle.desk_requests.specs.declared.ask.Request.{Request}
use Rattle.desk_http.specs.Aims.{aim_at, file_at, top_at, waiver_at}
use Rattle.desk_http.specs.Gives.{◌>>=◌}
use Rattle.desk_http.specs.Heads.{Heard, said}
use Rattle.desk_http.specs.Hosts.{served_length}
use Rattle.desk_http.specs.Lines.{first_named}
use Rattle.desk_http.specs.Requests.{ask_of, digest_of, label_of, request_of, user_of}
use Rattle.desk_http.specs.Routes.{Route, before, behind, change_route, delete_route, get_route, post_route, put_route, route}
use Rattle.desk_http.specs.Waivers.{waiver_of}
use Rattle.desk_http.specs.declared.fault.BadRequest.{BadRequest}
use Rattle.desk_service.specs.Service.{IsShort}
use Rattle.desk_server.specs.Exchanges.{Asks, Headed, Headless, IsAsked, Refuses, asked_of, framed}
use Rattle.desk_server.proofs.Inputs.{framed_cut, framed_long, framed_whole}

-- what is asked for is short
abbrev IsFit : Result Ask BadRequest → Type 0
IsFit made = (ask : Ask) → made ≡ Ok ask → IsShort ask

fit_ok : (made : Ask) → IsShort made → IsFit (Ok made)
fit_ok made short ask same = let is : made ≡ ask = cc in subst IsShort is short

fit_err : (fault : BadRequest) → IsFit (Err fault)
fit_err fault ask same = absurd (cc)

abbrev made_of : List ℕ → Option (List ℕ) → List ℕ → Ask → Request
made_of user id digest ask = record { user = user; id = id; digest = digest; ask = ask }

last_made : (made : Result Ask BadRequest) (user : List ℕ) (id : Option (List ℕ)) (digest : List ℕ) (request : Request)
    → (made >>= (λ ask. Ok (made_of user id digest ask))) ≡ Ok request → made ≡ Ok request.ask
last_made (Ok ask) user id digest request same =
    let is : made_of user id digest ask ≡ request = cc in ap (λ (it : Request). Ok it.ask) is
last_made (Err fault) user id digest request same = absurd (cc)

-- what a request that was made asks for
ask_made : {A : Type 0} (aims : Result A BadRequest) (ask_at : A → Result Ask BadRequest)
    (users : Result (List ℕ) BadRequest) (labels : Result (Option (List ℕ)) BadRequest) (digest : List ℕ) (request : Request)
    → (aims >>= (λ aim. users >>= (λ user. labels >>= (λ id. ask_at aim >>= (λ ask. Ok (made_of user id digest ask)))))) ≡ Ok request
    → (aims >>= ask_at) ≡ Ok request.ask
ask_made (Ok aim) ask_at (Ok user) (Ok id) digest request same =
    last_made (ask_at aim) user id digest request same
ask_made (Ok aim) ask_at (Ok user) (Err fault) digest request same = absurd (cc)
ask_made (Ok aim) ask_at (Err fault) labels digest request same = absurd (cc)
ask_made (Err fault) ask_at users labels digest request same = absurd (cc)

-- what is asked for at a target
abbrev asked_at : List ℕ → Option Route → Result Ask BadRequest
asked_at body found = aim_at found >>= (λ aim. ask_of aim body)

-- a test is one or the other
split : (test : Bool) (P : Type 0) → (test ≡ true → P) → (test ≡ false → P) → P
split true P this other = this refl
split false P this other = other refl

-- there is something or nothing
parts : {A : Type 0} (it : Option A) (P : Type 0) → (it ≡ None → P) → ((a : A) → it ≡ Some a → P) → P
parts None P none some = none refl
parts (Some a) P none some = some a refl

outcome : {A : Type 0} (it : Result A BadRequest) (P : Type 0) → ((a : A) → it ≡ Ok a → P)
    → ((fault : BadRequest) → it ≡ Err fault → P) → P
outcome (Ok a) P made failed = made a refl
outcome (Err fault) P made failed = failed fault refl

fit_none : (body : List ℕ) → IsFit (asked_at body None)
fit_none body ask same = absurd (cc)

fit_get : (body target : List ℕ) → IsFit (asked_at body (get_route target))
fit_get body target =
    split (bytes_eq target (codes "/files")) _
    (λ e. rw e (fit_ok _ tt))
    (λ e. split (bytes_eq target (codes "/signoffs")) _
    (λ e'. rw (e, e') (fit_ok _ tt))
    (λ e'. split (bytes_eq target (codes "/waivers")) _
    (λ e''. rw (e, e', e'') (fit_ok _ tt))
    (λ e''. parts (behind (codes "/files/") target) _
    (λ none. parts (behind (codes "/modules/") target) _
    (λ none'. rw (e, e', e'', none, none') (fit_none body))
    (λ rest some. parts (before (codes "/ruling") rest) _
    (λ none'. parts (before (codes "/reach") rest) _
    (λ none''. rw (e, e', e'', none, some, none', none'') (fit_none body))
    (λ part some'. outcome (top_at part) _
    (λ it ok. rw (e, e', e'', none, some, none', some', ok) (fit_ok _ tt))
    (λ fault bad. rw (e, e', e'', none, some, none', some', bad) (fit_err fault))))
    (λ part some'. outcome (top_at part) _
    (λ it ok. rw (e, e', e'', none, some, some', ok) (fit_ok _ tt))
    (λ fault bad. rw (e, e', e'', none, some, some', bad) (fit_err fault)))))
    (λ rest some. parts (before (codes "/text") rest) _
    (λ none. outcome (file_at rest) _
    (λ it ok. rw (e, e', e'', some, none, ok) (fit_ok _ tt))
    (λ fault bad. rw (e, e', e'', some, none, bad) (fit_err fault)))
    (λ part some'. outcome (file_at part) _
    (λ it ok. rw (e, e', e'', some, some', ok) (fit_ok _ tt))
    (λ fault bad. rw (e, e', e'', some, some', bad) (fit_err fault)))))))

fit_put : (body target : List ℕ) → length body ≤ 1048576 → IsFit (asked_at body (put_route target))
fit_put body target fits =
    parts (behind (codes "/files/") target) _
    (λ none. rw none (fit_none body))
    (λ part some. outcome (file_at part) _
    (λ it ok. rw (some, ok) (fit_ok _ fits))
    (λ fault bad. rw (some, bad) (fit_err fault)))

fit_post : (body target : List ℕ) → IsFit (asked_at body (post_route target))
fit_post body target =
    split (bytes_eq target (codes "/waivers")) _
    (λ e. parts (waiver_of body) _
    (λ none. rw (e, none) (fit_err _))
    (λ waiver some. rw (e, some) (fit_ok _ tt)))
    (λ e. parts (behind (codes "/modules/") target) _
    (λ none. rw (e, none) (fit_none body))
    (λ rest some. parts (before (codes "/signoffs") rest) _
    (λ none. rw (e, some, none) (fit_none body))
    (λ part some'. outcome (top_at part) _
    (λ it ok. rw (e, some, some', ok) (fit_ok _ tt))
    (λ fault bad. rw (e, some, some', bad) (fit_err fault)))))

fit_delete : (body target : List ℕ) → IsFit (asked_at body (delete_route target))
fit_delete body target =
    parts (behind (codes "/files/") target) _
    (λ none. parts (behind (codes "/waivers/") target) _
    (λ none'. rw (none, none') (fit_none body))
    (λ part some. outcome (waiver_at part) _
    (λ it ok. rw (none, some, ok) (fit_ok _ tt))
    (λ fault bad. rw (none, some, bad) (fit_err fault))))
    (λ part some. outcome (file_at part) _
    (λ it ok. rw (some, ok) (fit_ok _ tt))
    (λ fault bad. rw (some, bad) (fit_err fault)))

fit_change : (body method target : List ℕ) → length body ≤ 1048576
    → IsFit (asked_at body (change_route method target))
fit_change body method target fits =
    split (bytes_eq method (codes "PUT")) _
    (λ put. rw put (fit_put body target fits))
    (λ e. split (bytes_eq method (codes "POST")) _
    (λ post. rw (e, post) (fit_post body target))
    (λ e'. split (bytes_eq method (codes "DELETE")) _
    (λ del. rw (e, e', del) (fit_delete body target))
    (λ e''. rw (e, e', e'') (fit_none body))))

fit_route : (body method target : List ℕ) → length body ≤ 1048576
    → IsFit (asked_at body (route method target))
fit_route body method target fits =
    split (bytes_eq method (codes "GET")) _
    (λ get. rw get (fit_get body target))
    (λ e. rw e (fit_change body method target fits))

-- the request of a short body is short
short_request : (head : Heard) (body : List ℕ) (request : Request) → length body ≤ 1048576
    → request_of head body ≡ Ok request → IsShort request.ask
unfolding request_of
short_request head body request fits same =
    fit_route body head.method head.target fits request.ask
    (ask_made (aim_at (route head.method head.target)) (λ aim. ask_of aim body)
    (user_of (first_named (codes "desk-user") head.lines))
    (label_of head.method (first_named (codes "desk-request") head.lines))
    (digest_of head.method head.target body) request same)

asked_ok : (made : Result Request BadRequest) (request : Request) → asked_of made ≡ Asks request
    → made ≡ Ok request
asked_ok (Ok made) request same = cc
asked_ok (Err fault) request same = absurd (cc)

asks_none : (status : ℕ) (request : Request) → Refuses status ≡ Asks request → ⊥
asks_none status request same = cc

short_framed : (head : Heard) (rest : List ℕ) (stated : Option ℕ) (request : Request)
    → Asks request ≡ framed head rest stated → IsShort request.ask
short_framed head rest None request same = absurd (asks_none 400 request (sym same))
short_framed head rest (Some count) request same =
    elim (cases_lt 1048576 count) [
      | inl long ↦ absurd (asks_none 413 request (sym (framed_long head rest count long) ∙ sym same))
      | inr fits ↦ elim (cases_lt (length rest) count) [
        | inl cut ↦ absurd (asks_none 400 request (sym (framed_cut head rest count fits cut) ∙ sym same))
        | inr whole ↦
            let made = asked_ok (request_of head (take count rest)) request
            (sym (framed_whole head rest count fits whole) ∙ sym same) in
            let short : length (take count rest) ≤ 1048576 = rw length-take (omega arith) in
            short_request head (take count rest) request short made
      ]
    ]

-- a request that is asked is short
pub asked_short : (input : List ℕ) (request : Request) → IsAsked input (Asks request)
    → IsShort request.ask
asked_short input request (Headed written begins is) =
    short_framed (said written) begins.rest (served_length (said written).lines) request is
asked_short input request (Headless none is) = absurd (asks_none 400 request (sym is))
