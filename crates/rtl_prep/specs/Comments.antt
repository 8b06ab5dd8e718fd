-- Comments that tell nothing: those that are worded like pragmas and aren't, and pragmas of a case that no case takes. A case
-- takes those directly behind the `)` that closes its head (IEEE 1364.1-2002 section 6.1, IEEE 1364-2001 section 9.5).
-- Worked examples: crates/tests_layers/stdin.
use Rattle.std.specs.Prelude.{ℕ, ◌||◌, Bool, true, false, if◌then◌else◌, List, [], ◌∷◌, ◌++◌, reverse, codes}
use Rattle.rtl_tree.specs.declared.token.Tok.{Tok}
use Rattle.rtl_tree.specs.declared.token.Tok.TheVariants.{Pragma}
use Rattle.rtl_tree.specs.declared.token.Pragma.TheVariants.{Case, Loose}
use Rattle.rtl_tree.specs.declared.token.Token.{Token}
use Rattle.text_ground.specs.declared.dropped.Dropped.{Dropped}
use Rattle.text_ground.specs.declared.dropped.DropKind.TheVariants as kind
use Rattle.rtl_prep.specs.declared.comments.Last.{Last}
use Rattle.rtl_prep.specs.declared.comments.Last.TheVariants as last
use Rattle.rtl_prep.specs.declared.comments.Notes as code
use Rattle.rtl_prep.specs.Initials.{is_word, is_mark}

-- where the tokens are read: what the last of them is, pragmas aside, and of each `(` that is open, the innermost first,
-- whether it opens the head of a case
pub record Place : Type 0 where
  pub last : Last
  pub heads : List Bool

abbrev pub start : Place
start = record { last = last.Other; heads = [] }

abbrev pub is_pragma : Tok → Bool
is_pragma (Pragma said) = true
is_pragma kind = false

abbrev pub is_case : List ℕ → Token → Bool
is_case text t = is_word (codes "case") text t || is_word (codes "casez") text t || is_word (codes "casex") text t

-- a `(` opens the head of a case where the last token before it is the case's word
abbrev pub opens_head : Last → Bool
opens_head last.CaseWord = true
opens_head _ = false

abbrev pub opened : Place → Place
opened p = record { last = last.Other; heads = opens_head p.last ∷ p.heads }

abbrev pub behind_close : Bool → Last
behind_close head = if head then last.HeadEnd else last.Other

-- a `)` closes the innermost `(`; one that closes none ends no head
abbrev pub closed_from : List Bool → Place
closed_from [] = start
closed_from (head ∷ heads) = record { last = behind_close head; heads = heads }

-- behind a token that is no pragma
abbrev pub past : List ℕ → Place → Token → Place
past text p t =
    if is_mark (codes "(") text t then opened p else
    if is_mark (codes ")") text t then closed_from p.heads else
    record { last = if is_case text t then last.CaseWord else last.Other; heads = p.heads }

abbrev pub behind : List ℕ → Place → Token → Place
behind text p t = if is_pragma t.kind then p else past text p t

-- no case takes a case pragma that stands elsewhere than directly behind a head
abbrev pub is_idle : Last → Bool
is_idle last.HeadEnd = false
is_idle _ = true

abbrev pub tells_nothing : Last → Tok → Bool
tells_nothing before (Pragma Loose) = true
tells_nothing before (Pragma (Case full parallel)) = is_idle before
tells_nothing before kind = false

abbrev pub comment_at : ℕ → Dropped
comment_at at = record { kind = kind.Comment; at = at }

-- the place of a token, where it is a comment that tells nothing
abbrev pub comment_of : Last → Token → List Dropped
comment_of before t = if tells_nothing before t.kind then comment_at t.at ∷ [] else []

unfoldable pub comments_from : List ℕ → Place → List Token → List Dropped
comments_from text p [] = []
comments_from text p (t ∷ ts) = comment_of p.last t ++ comments_from text (behind text p t) ts

-- the places of the comments among the tokens of a text that tell nothing, by the order of the tokens
abbrev pub comments : List ℕ → List Token → List Dropped
comments text ts = comments_from text start ts

-- where the code reads
abbrev pub seen : code.Notes → Place
seen c = record { last = c.last; heads = reverse c.heads.items }
