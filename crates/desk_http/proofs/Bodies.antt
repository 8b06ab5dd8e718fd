-- What a body asks for that is JSON, or none.
use Rattle.std.proofs.Common.{◌≡◌, ℕ, List, true, false, cond, None, Some, refl, ap}
use Rattle.std.specs.Prelude.{option_and_then}
use Rattle.std.specs.Str.{IsUtf8, is_utf8}
use Rattle.std.proofs.lemmas.Str.{IsUtf8-from_is_utf8, is_utf8-from_IsUtf8}
use Rattle.serde_json.specs.Data.{Data}
use Rattle.serde_json.specs.Read.{read}
use Rattle.desk_http.specs.Waivers.{waiver_in, waiver_of}

pub unread : (body : List ℕ) → (IsUtf8 body → read body ≡ None) → waiver_of body ≡ None
unread body none =
    elim (is_utf8 body) as (λ b. is_utf8 body ≡ b → cond b (option_and_then waiver_in (read body)) None ≡ None)
    [ true ↦ λ same. ap (option_and_then waiver_in) (none (IsUtf8-from_is_utf8 body same)) | false ↦ λ same. refl ] refl

pub heard : (body : List ℕ) (said : Data) → IsUtf8 body → read body ≡ Some said → waiver_of body ≡ waiver_in said
heard body said utf8 is =
    rw (is_utf8-from_IsUtf8 body utf8, is) refl
