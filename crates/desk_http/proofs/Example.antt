-- Routes, lengths, dates, places, waivers and replies, on small cases.
use Rattle.std.proofs.Common.{◌≡◌, [], ◌∷◌, codes, refl, true, false, None, Some, Err}
use Rattle.serde_json.specs.Data.{member, no_members, number, object, string, unsigned}
use Rattle.desk_http.specs.Aims.{waiver_named}
use Rattle.desk_http.specs.Expects.{waits}
use Rattle.desk_http.specs.Hosts.{is_local_host, is_local_origin, served_length}
use Rattle.desk_http.specs.Labels.{is_label, is_word}
use Rattle.desk_http.specs.Lines.{stated_length}
use Rattle.desk_http.specs.Places.{is_place}
use Rattle.desk_http.specs.Refusals.{refusal_line}
use Rattle.desk_http.specs.Routes.{before, behind, route}
use Rattle.desk_http.specs.Waivers.{member_count, text_at}
use Rattle.desk_http.specs.declared.fault.BadRequest.TheVariants.{Memory, NotFound}
use Rattle.desk_http.specs.declared.route.Action.TheVariants.{FileText, PutFile, Reach, Ruling}

nothing_there : refusal_line NotFound ≡ codes "Not Found\n"
nothing_there = refl

no_memory : refusal_line Memory ≡ codes "Insufficient Storage\n"
no_memory = refl

-- ---- routes

a_ruling : route (codes "GET") (codes "/modules/top/ruling") ≡ Some (Ruling, codes "top")
unfolding before behind
a_ruling = refl

a_text : route (codes "GET") (codes "/files/tx.v/text") ≡ Some (FileText, codes "tx.v")
unfolding before behind
a_text = refl

a_reach : route (codes "GET") (codes "/modules/top/reach") ≡ Some (Reach, codes "top")
unfolding before behind
a_reach = refl

a_text_is_not_put : route (codes "PUT") (codes "/files/tx.v/text") ≡ Some (PutFile, codes "tx.v/text")
unfolding before behind
a_text_is_not_put = refl

an_escape_stays : route (codes "PUT") (codes "/files/a%2Ev") ≡ Some (PutFile, codes "a%2Ev")
unfolding before behind
an_escape_stays = refl

a_query_is_no_list : route (codes "GET") (codes "/signoffs?top=a") ≡ None
unfolding before behind
a_query_is_no_list = refl

no_such_method : route (codes "get") (codes "/signoffs") ≡ None
unfolding before behind
no_such_method = refl

-- ---- lengths

no_length : stated_length ((codes "Host", codes "desk") ∷ []) ≡ Some 0
no_length = refl

one_length_twice :
    stated_length ((codes "Content-Length", codes "5") ∷ (codes "content-length", codes "05") ∷ []) ≡ Some 5
one_length_twice = refl

two_lengths :
    stated_length ((codes "Content-Length", codes "5") ∷ (codes "Content-Length", codes "6") ∷ []) ≡ None
two_lengths = refl

a_signed_length : stated_length ((codes "Content-Length", codes "+2") ∷ []) ≡ None
a_signed_length = refl

-- ---- hosts

a_port : is_local_host (codes "LocalHost:8765") ≡ true
a_port = refl

no_port : is_local_host (codes "127.0.0.1") ≡ true
no_port = refl

a_bracketed_address : is_local_host (codes "[::1]:80") ≡ true
a_bracketed_address = refl

another_host : is_local_host (codes "127.0.0.1.example.org:8765") ≡ false
another_host = refl

an_origin : is_local_origin (codes "http://127.0.0.1:8765") ≡ true
unfolding behind
an_origin = refl

no_origin : is_local_origin (codes "null") ≡ false
unfolding behind
no_origin = refl

no_host_is_asked_for : served_length ((codes "Desk-User", codes "ann") ∷ []) ≡ Some 0
no_host_is_asked_for = refl

one_of_two_hosts : served_length ((codes "Host", codes "localhost") ∷ (codes "host", codes "desk") ∷ []) ≡ None
one_of_two_hosts = refl

-- ---- bodies that are waited for

it_waits : waits (record { method = codes "PUT"; target = codes "/files/a"; minor = 1; lines = (codes "Expect", codes "100-Continue") ∷ [] }) 3 ≡ true
it_waits = refl

no_body_to_come : waits (record { method = codes "PUT"; target = codes "/files/a"; minor = 1; lines = (codes "Expect", codes "100-continue") ∷ [] }) 0 ≡ false
no_body_to_come = refl

an_older_version : waits (record { method = codes "PUT"; target = codes "/files/a"; minor = 0; lines = (codes "Expect", codes "100-continue") ∷ [] }) 3 ≡ false
an_older_version = refl

something_else_is_expected : waits (record { method = codes "PUT"; target = codes "/files/a"; minor = 1; lines = (codes "Expect", codes "x") ∷ [] }) 3 ≡ false
something_else_is_expected = refl

-- ---- places

a_place : is_place (codes "top.v:3:14") ≡ true
a_place = refl

no_name : is_place (codes ":3:14") ≡ false
no_name = refl

a_zero : is_place (codes "top.v:03:14") ≡ false
a_zero = refl

a_colon_in_a_name : is_place (codes "a:b:1:2") ≡ true
a_colon_in_a_name = refl

-- ---- words and numbers

a_word : is_word (codes "top_1") ≡ true
a_word = refl

no_word : is_word (codes "$a") ≡ false
no_word = refl

no_label : is_label 64 (codes "a\tb") ≡ false
no_label = refl

too_great : waiver_named (codes "4294967296") ≡ Err NotFound
too_great = refl

leading_zeros : waiver_named (codes "07") ≡ Err NotFound
leading_zeros = refl

-- ---- members

a_member : text_at (codes "top") (object (member (codes "top") (string (codes "uart")) no_members)) ≡ Some (codes "uart")
a_member = refl

no_text : text_at (codes "top") (object (member (codes "top") (number (unsigned 7)) no_members)) ≡ None
no_text = refl

one_member : member_count (object (member (codes "top") (number (unsigned 7)) no_members)) ≡ 1
one_member = refl
