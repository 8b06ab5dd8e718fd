-- What the first bytes say of the head that all of them begin with.
use Rattle.std.proofs.Common.{◌≡◌, ◌∙◌, ℕ, ◌+◌, ◌-◌, ◌<◌, ◌≤◌, List, ◌++◌, length, take, drop, sym, ap, subst, arith, append_assoc, inl, length-append}
use Rattle.std.proofs.Math.Seq.{take-append-add}
use Rattle.std.proofs.lemmas.List.{take-append-le, take-append-drop, length-take, length-map}
use Rattle.std.specs.Prelude.{option_map}
use Rattle.httparse.specs.Grammar.{Field, RequestHead, ReadsRequest, HasNoRequest, print_request}
use Rattle.httparse.specs.Spans.{AreFieldsAt, IsRequestAt, RequestOverflows, header_bytes, name_and_value}
use Rattle.httparse.specs.declared.spans.HeaderSpan.{HeaderSpan}
use Rattle.httparse.proofs.GrammarLemmas.{ReadsRequest-append}
use Rattle.desk_http.specs.Heads.{BeginsWith, HasNoHead, IsFramed, IsStateOf, Shows, heard}
use Rattle.desk_http.specs.Hosts.{served_length}
use Rattle.desk_http.specs.Lines.{capped}
use Rattle.desk_http.specs.declared.head.Head.{Head}
use Rattle.desk_http.specs.declared.head.HeadState.{HeadState}
use Rattle.desk_http.specs.declared.head.HeadState.TheVariants.{More, Bad, Ready}

-- a front that holds a text holds it whole
front_holds : (text rest : List ℕ) (most : ℕ) → length text ≤ most
    → take most (text ++ rest) ≡ text ++ take (most - length text) rest
front_holds text rest most fits =
    let whole : length text + (most - length text) ≡ most = omega (arith, fits) in
    ap (λ n. take n (text ++ rest)) (sym whole) ∙ take-append-add text rest (most - length text)

-- a head that bytes begin with stands in their front
pub begins_front : (bytes : List ℕ) (written : RequestHead) (b : BeginsWith bytes written)
    → ReadsRequest (take 16384 bytes) written (take (16384 - length (print_request written)) b.rest)
begins_front bytes written b =
    (b.reads.0, ap (take 16384) b.reads.1 ∙ front_holds (print_request written) b.rest 16384 b.early)

-- no head in the front is none in the bytes
pub no_head : (bytes : List ℕ) → HasNoRequest (take 16384 bytes) → HasNoHead bytes
no_head bytes none written b = none written _ (begins_front bytes written b)

-- and where the front is full, none in what goes on
pub never_full : (bytes : List ℕ) → 16384 ≤ length bytes → HasNoRequest (take 16384 bytes)
    → (more : List ℕ) → HasNoHead (bytes ++ more)
never_full bytes full none more written b =
    none written _
    (subst (λ front. ReadsRequest front written (take (16384 - length (print_request written)) b.rest))
    (take-append-le 16384 bytes more full) (begins_front (bytes ++ more) written b))

-- more header lines than there is room for are no head, whatever follows
pub never_room : (bytes : List ℕ) → RequestOverflows 64 (take 16384 bytes)
    → (more : List ℕ) → HasNoHead (bytes ++ more)
never_room bytes over more written b =
    let parted : bytes ++ more ≡ take 16384 bytes ++ (drop 16384 bytes ++ more) =
    ap (λ it. it ++ more) (sym (take-append-drop 16384 bytes)) ∙ append_assoc (take 16384 bytes) (drop 16384 bytes) more in
    let many : 64 < length written.fields =
    over (drop 16384 bytes ++ more) written b.rest (subst (λ it. ReadsRequest it written b.rest) parted b.reads) in
    let few : length written.fields ≤ 64 = b.few in
    omega (arith, many, few)

pub no_room : (bytes : List ℕ) → RequestOverflows 64 (take 16384 bytes) → HasNoHead bytes
no_room bytes over written b =
    let many : 64 < length written.fields =
    over (drop 16384 bytes) written b.rest
    (subst (λ it. ReadsRequest it written b.rest) (sym (take-append-drop 16384 bytes)) b.reads) in
    let few : length written.fields ≤ 64 = b.few in
    omega (arith, many, few)

-- the bytes begin with the head of their front
pub begins : (bytes : List ℕ) (written : RequestHead) (rest : List ℕ)
    → ReadsRequest (take 16384 bytes) written rest → length written.fields ≤ 64 → BeginsWith bytes written
begins bytes written rest reads few =
    let fits : length (take 16384 bytes) ≤ 16384 = rw length-take (omega arith) in
    let split : length (take 16384 bytes) ≡ length (print_request written) + length rest =
    ap length reads.1 ∙ length-append (print_request written) rest in
    record {
      rest = rest ++ drop 16384 bytes;
      reads = subst (λ it. ReadsRequest it written (rest ++ drop 16384 bytes)) (take-append-drop 16384 bytes)
          (ReadsRequest-append (take 16384 bytes) written rest (drop 16384 bytes) reads);
      early = omega (arith, fits, split);
      few = few;
    }

few_fields : (buf : List ℕ) (lines : List HeaderSpan) (count : ℕ) (fields : List Field)
    → AreFieldsAt buf lines count fields → length lines ≤ 64 → length fields ≤ 64
few_fields buf lines count fields same room =
    let seen : length (take count lines) ≡ length fields =
    sym (length-map (take count lines) (header_bytes buf)) ∙ ap length same ∙ length-map fields name_and_value in
    let taken : length (take count lines) ≤ length lines = rw length-take (omega arith) in
    omega (arith, seen, taken, room)

-- a head that was found shows what it says
pub shows : (bytes : List ℕ) (head : Head) (written : RequestHead)
    → head.bytes.now ≡ take 16384 bytes → length head.lines ≤ 64
    → IsRequestAt head.bytes.now head.lines head.found written → Shows bytes head
shows bytes head written front room it = record {
  written = written;
  begins = begins bytes written (drop head.found.len head.bytes.now)
      (subst (λ bs. ReadsRequest bs written (drop head.found.len head.bytes.now)) front it.reads)
      (few_fields head.bytes.now head.lines head.found.headers written.fields it.fields room);
  same = λ i. record { method = it.method i; target = it.path i; minor = it.version i; lines = it.fields i };
  used = it.len;
}

-- what is answered of a head is answered of the bytes that show it
pub state_of_head : (bytes : List ℕ) (head : Head) (state : HeadState) → Shows bytes head
    → IsFramed head state → IsStateOf bytes state
state_of_head bytes head More it framed = absurd framed
state_of_head bytes head Bad it refused = inl (record {
  written = it.written;
  begins = it.begins;
  refused = ap (λ what. served_length what.lines) (sym it.same) ∙ refused;
})
state_of_head bytes head (Ready same used body) it framed = record {
  written = it.written;
  begins = it.begins;
  same = ap heard framed.0 ∙ it.same;
  ends = framed.1 ∙ it.used;
  stated = ap (λ what. option_map capped (served_length what.lines)) (sym it.same) ∙ framed.2;
}
