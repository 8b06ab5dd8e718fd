-- What the library says of UTF-8, as a test.
use Rattle.std.proofs.Common.{◌≡◌, true, false, List, ℕ, inl, inr, sym}
use Rattle.std.specs.Str.{IsUtf8, is_utf8}
use Rattle.std.proofs.lemmas.Bool.{cases_Bool}
use Rattle.std.proofs.lemmas.Str.{IsUtf8-from_is_utf8, is_utf8-from_IsUtf8}

pub utf8_is : (text : List ℕ) → IsUtf8 text → true ≡ is_utf8 text
utf8_is text valid = sym (is_utf8-from_IsUtf8 text valid)

pub utf8_isnt : (text : List ℕ) → ¬ (IsUtf8 text) → false ≡ is_utf8 text
utf8_isnt text invalid =
    elim (cases_Bool (is_utf8 text)) [
      | inl valid ↦ absurd (invalid (IsUtf8-from_is_utf8 text valid))
      | inr isnt ↦ sym isnt
    ]
