-- How a body is gathered.
use Rattle.std.proofs.Common.{◌≡◌, ◌≤◌, ◌<◌, ◌+◌, ℕ, inl, inr, List, [], ◌++◌, length, take, min, Option, Ok, Err, Vec, ◌∙◌, ap, sym, arith, append_assoc, append-nil, length-append}
use Rattle.std.specs.declared.alloc.Global.{Global}
use Rattle.std.specs.Prelude.{⊤}
use Rattle.std.proofs.lemmas.Bool.{cases_lt}
use Rattle.std.proofs.lemmas.List.{length-take, nil_from_length, take_all, take_at, take-append-le}
use Rattle.desk_links.specs.Links.{GoesOn, IsAtEnd, Talk}
use Rattle.desk_http.specs.declared.fault.BadRequest.TheVariants.{Malformed, Memory, NotFound}
use Rattle.desk_server.specs.Hearing.{Grows, Hears, HearsInput, IsBody, IsStop, left_of}
use Rattle.desk_server.specs.declared.hear.Unheard.{Unheard}
use Rattle.desk_server.specs.declared.hear.Unheard.TheVariants as unheard
use Rattle.desk_server.proofs.Talks.{GoesOn-none, GoesOn-trans, left-at_end}

-- so much of a body is there: what was read with the head, and what was heard behind it
pub record IsGathered (talk talk' : Option Talk) (front body : List ℕ) (count : ℕ) : Type 0 where
  pub heard : List ℕ
  pub goes : GoesOn talk talk' heard []
  pub parts : body ≡ take count front ++ heard
  pub fits : length body ≤ count

pub gathered_none : (talk : Option Talk) (front body : List ℕ) (count : ℕ) → body ≡ take count front
    → IsGathered talk talk front body count
gathered_none talk front body count is =
    let size : length body ≡ min count (length front) = ap length is ∙ length-take count front in
    record {
      heard = [];
      goes = GoesOn-none talk;
      parts = is ∙ sym (append-nil (take count front));
      fits = omega (arith, size);
    }

pub gathered_more : (a b c : Option Talk) (front body body' : List ℕ) (count more : ℕ)
    → IsGathered a b front body count → Grows b c body body' more → more + length body ≤ count
    → IsGathered a c front body' count
gathered_more a b c front body body' count more it grows fits =
    let size : length body' ≡ length body + length grows.heard =
    ap length grows.grown ∙ length-append body grows.heard in
    let counted : length grows.heard ≡ more = grows.counted in
    record {
      heard = it.heard ++ grows.heard;
      goes = GoesOn-trans a b c it.heard grows.heard [] [] it.goes grows.goes;
      parts = grows.grown ∙ ap (λ l. l ++ grows.heard) it.parts ∙ append_assoc (take count front) it.heard grows.heard;
      fits = omega (arith, size, counted, fits);
    }

-- how long it is
size_of : (a b : Option Talk) (front body : List ℕ) (count : ℕ) (it : IsGathered a b front body count)
    → length body ≡ min count (length front) + length it.heard
size_of a b front body count it =
    ap length it.parts ∙ length-append (take count front) it.heard
    ∙ ap (λ n. n + length it.heard) (length-take count front)

-- a whole body is the front of all that comes
whole_body : (front heard left body : List ℕ) (count : ℕ) → body ≡ take count front ++ heard
    → length body ≡ count → length body ≡ min count (length front) + length heard
    → (body ≡ take count (front ++ (heard ++ left))) × (count ≤ length (front ++ (heard ++ left)))
whole_body front heard left body count parts whole size =
    let all : length (front ++ (heard ++ left)) ≡ length front + (length heard + length left) =
    length-append front (heard ++ left) ∙ ap (λ n. length front + n) (length-append heard left) in
    elim (cases_lt (length front) count) [
      | inl short ↦
          let is : body ≡ front ++ heard = parts ∙ ap (λ l. l ++ heard) (take_all count front (omega arith)) in (
            sym (take_at body left count whole) ∙ ap (take count) (ap (λ l. l ++ left) is ∙ append_assoc front heard left),
            omega (arith, all, size, whole, short),
          )
      | inr long ↦
          let none : heard ≡ [] = nil_from_length heard (omega (arith, size, whole, long)) in (
            parts ∙ ap (λ l. take count front ++ l) none ∙ append-nil (take count front) ∙ sym (take-append-le count front (heard ++ left) long),
            omega (arith, all, long),
          )
    ]

pub gathered_whole : (a b : Option Talk) (front : List ℕ) (body : Vec ℕ Global) (count : ℕ)
    → IsGathered a b front body.items count → count ≤ length body.items
    → HearsInput a b (λ more. IsBody count (Ok body) (front ++ more))
gathered_whole a b front body count it whole =
    let fits : length body.items ≤ count = it.fits in
    record {
      heard = it.heard;
      goes = it.goes;
      holds = whole_body front it.heard (left_of b) body.items count it.parts (omega arith) (size_of a b front body.items count it);
    }

-- the input ends within the body
pub gathered_cut : (a b c : Option Talk) (front body body' : List ℕ) (count more : ℕ)
    → IsGathered a b front body count → length body < count → Grows b c body body' more
    → more ≡ 0 → IsAtEnd c
    → HearsInput a c (λ more. IsBody count (Err (unheard.Refused Malformed)) (front ++ more))
gathered_cut a b c front body body' count more it short grows none ended =
    let size : length body ≡ min count (length front) + length it.heard = size_of a b front body count it in
    let counted : length grows.heard ≡ more = grows.counted in
    let left : length (left_of c) ≡ 0 = ap length (left-at_end c ended) in
    let all : length (front ++ ((it.heard ++ grows.heard) ++ left_of c)) ≡ length front + ((length it.heard + length grows.heard) + length (left_of c)) =
    length-append front ((it.heard ++ grows.heard) ++ left_of c)
    ∙ ap (λ n. length front + n) (length-append (it.heard ++ grows.heard) (left_of c) ∙ ap (λ n. n + length (left_of c)) (length-append it.heard grows.heard)) in
    record {
      heard = it.heard ++ grows.heard;
      goes = GoesOn-trans a b c it.heard grows.heard [] [] it.goes grows.goes;
      holds = omega (arith, size, counted, left, all, short, none);
    }

pub stop_body : (count : ℕ) (why : Unheard) → IsStop why → (rest : List ℕ) → IsBody count (Err why) rest
stop_body count (unheard.Refused Malformed) stop rest = absurd stop
stop_body count (unheard.Refused NotFound) stop rest = absurd stop
stop_body count (unheard.Refused Memory) stop rest = tt
stop_body count unheard.TooLong stop rest = absurd stop
stop_body count unheard.Failed stop rest = tt

-- the hearing ends within the body
pub gathered_stop : (a b c : Option Talk) (front body : List ℕ) (count : ℕ) (why : Unheard)
    → IsGathered a b front body count → IsStop why → Hears b c (λ _. ⊤)
    → HearsInput a c (λ more. IsBody count (Err why) (front ++ more))
gathered_stop a b c front body count why it stop more = record {
  heard = it.heard ++ more.heard;
  goes = GoesOn-trans a b c it.heard more.heard [] [] it.goes more.goes;
  holds = stop_body count why stop (front ++ ((it.heard ++ more.heard) ++ left_of c));
}
