-- What was said of bytes.
use Rattle.std.proofs.Common.{◌≡◌, ℕ, List, [], ◌++◌, take, drop, Option, Result, Ok, Err, ◌∙◌, ap, sym, refl, append_assoc, append-nil}
use Rattle.std.proofs.lemmas.List.{take-append-drop}
use Rattle.std.specs.Fmt.{digits}
use Rattle.desk_io.specs.declared.failed.Failed.{Failed}
use Rattle.desk_io.specs.Causes.{Rose}
use Rattle.desk_links.specs.Links.{GoesOn, Talk}
use Rattle.desk_http.specs.Replies.{length_line, reply_head, status_line, type_line}
use Rattle.desk_http.specs.declared.reply.TheConstants.{NO_MEMORY}
use Rattle.desk_requests.specs.Replies.{Said}
use Rattle.desk_server.specs.Connections.{IsDelivered}
use Rattle.desk_server.specs.Exchanges.{refused_with, reply_bytes, written_out}
use Rattle.desk_server.specs.Hearing.{Says, SaysFront}
use Rattle.desk_server.specs.declared.exchange.Served.TheVariants.{Dropped, Replied}
use Rattle.desk_server.proofs.Talks.{GoesOn-none, GoesOn-trans}

-- all of the bytes but the rest was said
pub record IsSaid (talk talk' : Option Talk) (bytes rest : List ℕ) : Type 0 where
  pub front : List ℕ
  pub parts : bytes ≡ front ++ rest
  pub goes : GoesOn talk talk' [] front

pub said_none : (talk : Option Talk) (bytes : List ℕ) → IsSaid talk talk bytes bytes
said_none talk bytes = record { front = []; parts = refl; goes = GoesOn-none talk }

pub said_more : (a b c : Option Talk) (bytes rest : List ℕ) (count : ℕ) → IsSaid a b bytes rest
    → GoesOn b c [] (take count rest) → IsSaid a c bytes (drop count rest)
said_more a b c bytes rest count it goes = record {
  front = it.front ++ take count rest;
  parts = it.parts ∙ ap (λ l. it.front ++ l) (sym (take-append-drop count rest)) ∙ sym (append_assoc it.front (take count rest) (drop count rest));
  goes = GoesOn-trans a b c [] [] it.front (take count rest) it.goes goes;
}

-- all was said
pub said_whole : (a b : Option Talk) (bytes rest : List ℕ) → IsSaid a b bytes rest → rest ≡ []
    → SaysFront a b bytes (Ok tt)
said_whole a b bytes rest it none =
    record { front = it.front; lost = rest; parts = it.parts; goes = it.goes; whole = none }

-- and nothing more is
pub said_part : (a b c : Option Talk) (bytes rest : List ℕ) (fault : Failed) → IsSaid a b bytes rest
    → GoesOn b c [] [] → SaysFront a c bytes (Err fault)
said_part a b c bytes rest fault it goes = record {
  front = it.front ++ [];
  lost = rest;
  parts = it.parts ∙ ap (λ l. l ++ rest) (sym (append-nil it.front));
  goes = GoesOn-trans a b c [] [] it.front [] it.goes goes;
  whole = tt;
}

-- of two texts the first wasn't said whole
pub said_first : (a b : Option Talk) (first next : List ℕ) (fault : Failed)
    → SaysFront a b first (Err fault) → SaysFront a b (first ++ next) (Err fault)
said_first a b first next fault it = record {
  front = it.front;
  lost = it.lost ++ next;
  parts = ap (λ l. l ++ next) it.parts ∙ append_assoc it.front it.lost next;
  goes = it.goes;
  whole = tt;
}

-- or it was
pub said_both : (a b c : Option Talk) (first next : List ℕ) (result : Result Unit Failed)
    → SaysFront a b first (Ok tt) → SaysFront b c next result → SaysFront a c (first ++ next) result
said_both a b c first next result it more =
    let all : first ≡ it.front =
    it.parts ∙ ap (λ l. it.front ++ l) it.whole ∙ append-nil it.front in
    record {
      front = it.front ++ more.front;
      lost = more.lost;
      parts = ap (λ l. l ++ next) all ∙ ap (λ l. it.front ++ l) more.parts ∙ sym (append_assoc it.front more.front more.lost);
      goes = GoesOn-trans a b c [] [] it.front more.front it.goes more.goes;
      whole = more.whole;
    }

memory_reply : written_out (refused_with 507) ≡ NO_MEMORY.now
unfolding reply_head status_line type_line length_line digits
memory_reply = refl

-- want of memory has always the same reply
pub memory_bytes : (answer : Said) → answer.status ≡ 507 → reply_bytes answer ≡ NO_MEMORY.now
memory_bytes answer is = rw is memory_reply

-- the whole reply was given
pub given_whole : (a b : Option Talk) (status before after : ℕ) (answer : Said)
    → SaysFront a b (reply_bytes answer) (Ok tt) → status ≡ answer.status
    → Says a b (IsDelivered (Replied status) before after answer)
given_whole a b status before after answer it same = record {
  written = it.front;
  goes = it.goes;
  holds = (same, sym (it.parts ∙ ap (λ l. it.front ++ l) it.whole ∙ append-nil it.front));
}

-- or a front of it
pub given_cut : (a b : Option Talk) (before after : ℕ) (answer : Said) (fault : Failed)
    → SaysFront a b (reply_bytes answer) (Err fault) → Rose before after
    → Says a b (IsDelivered Dropped before after answer)
given_cut a b before after answer fault it rose = record {
  written = it.front;
  goes = it.goes;
  holds = record { lost = it.lost; front = it.parts; cause = rose };
}
