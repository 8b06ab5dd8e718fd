-- An input asks one thing, and one thing is said before its body is read.
use Rattle.std.proofs.Common.{◌≡◌, ◌∙◌, ℕ, List, ap, sym}
use Rattle.httparse.proofs.GrammarLemmas.{request_unique}
use Rattle.desk_http.specs.Heads.{said}
use Rattle.desk_http.specs.Hosts.{served_length}
use Rattle.desk_server.specs.Exchanges.{Asked, AtHead, AtNone, Headed, Headless, IsAsked, IsInvited, framed, invited}

-- an input asks one thing, since it begins with one head at most
pub asked_same : (input : List ℕ) (asked other : Asked) → IsAsked input asked → IsAsked input other
    → asked ≡ other
asked_same input asked other (Headed w b is) (Headed w' b' is') =
    let same = request_unique input w w' b.rest b'.rest b.reads b'.reads in
    is
    ∙ ap (λ h. framed (said h) b.rest (served_length (said h).lines)) same.0
    ∙ ap (λ l. framed (said w') l (served_length (said w').lines)) same.1 ∙ sym is'
asked_same input asked other (Headed w b is) (Headless none is') = absurd (none w b)
asked_same input asked other (Headless none is) (Headed w b is') = absurd (none w b)
asked_same input asked other (Headless none is) (Headless none' is') = is ∙ sym is'

-- the same of what is said first
pub invited_same : (input first other : List ℕ) → IsInvited input first → IsInvited input other → first ≡ other
invited_same input first other (AtHead w b is) (AtHead w' b' is') =
    let same = request_unique input w w' b.rest b'.rest b.reads b'.reads in
    is ∙ ap (λ h. invited (said h) (served_length (said h).lines)) same.0 ∙ sym is'
invited_same input first other (AtHead w b is) (AtNone none is') = absurd (none w b)
invited_same input first other (AtNone none is) (AtHead w b is') = absurd (none w b)
invited_same input first other (AtNone none is) (AtNone none' is') = is ∙ sym is'
