-- Fronts of bytes that were written piece by piece.
use Rattle.std.proofs.Common.{◌≡◌, ℕ, List, [], ◌++◌, Option, take, drop, sym, ◌∙◌, ap, append_assoc, refl}
use Rattle.std.specs.Io.KnownBytes.{Appends}
use Rattle.std.proofs.KnownBytes.{Appends-nil, Appends-trans}
use Rattle.std.proofs.lemmas.List.{take-append-drop}

-- all of the bytes but the rest was appended
pub record IsFront (before now : Option (List ℕ)) (bytes rest : List ℕ) : Type 0 where
  pub front : List ℕ
  pub parts : bytes ≡ front ++ rest
  pub appended : Appends before now front

pub starts : (taken : Option (List ℕ)) (bytes : List ℕ) → IsFront taken taken bytes bytes
starts taken bytes = record { front = []; parts = refl; appended = Appends-nil taken }

pub goes_on : (before now next : Option (List ℕ)) (bytes rest : List ℕ) (count : ℕ) → IsFront before now bytes rest → Appends now next (take count rest)
    → IsFront before next bytes (drop count rest)
goes_on before now next bytes rest count is more =
    record {
      front = is.front ++ take count rest;
      parts = is.parts ∙ ap (λ l. is.front ++ l) (sym (take-append-drop count rest)) ∙ sym (append_assoc is.front (take count rest) (drop count rest));
      appended = Appends-trans before now next is.front (take count rest) is.appended more;
    }
