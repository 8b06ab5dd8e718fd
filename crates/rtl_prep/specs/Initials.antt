-- The `initial` constructs (IEEE 1364-2001 section 9.9.1), which synthesis leaves out.
-- Worked examples: crates/tests_layers/stdin.
use Rattle.std.specs.Prelude.{ℕ, zero, suc, ◌+◌, Bool, false, if◌then◌else◌, Option, Some, None, List, [], ◌∷◌, ◌++◌, codes, Result, Ok, Err}
use Rattle.std.specs.Str.{bytes_eq}
use Rattle.rtl_tree.specs.declared.token.Tok.{Tok}
use Rattle.rtl_tree.specs.declared.token.Tok.TheVariants.{Word, Mark}
use Rattle.rtl_tree.specs.declared.token.Token.{Token}
use Rattle.text_ground.specs.declared.dropped.Dropped.{Dropped}
use Rattle.text_ground.specs.declared.dropped.DropKind.TheVariants as kind
use Rattle.rtl_prep.specs.declared.initial.Within.{Within}
use Rattle.rtl_prep.specs.declared.initial.Within.TheVariants.{Outside, Opened, Block, Statement}
use Rattle.rtl_prep.specs.declared.initial.Shed as code
use Rattle.rtl_tree.specs.Symbols.{slice}
use Rattle.rtl_prep.specs.Stops.{Stop, Alone, and_then, each}

abbrev pub word_of : Tok → List ℕ → List ℕ → Bool
word_of Word word s = bytes_eq s word
word_of kind word s = false

-- the token is this word
abbrev pub is_word : List ℕ → List ℕ → Token → Bool
is_word word text t = word_of t.kind word (slice text t)

abbrev pub is_initial : List ℕ → Token → Bool
is_initial text t = is_word (codes "initial") text t

abbrev pub mark_of : Tok → List ℕ → List ℕ → Bool
mark_of Mark mark s = bytes_eq s mark
mark_of kind mark s = false

abbrev pub is_mark : List ℕ → List ℕ → Token → Bool
is_mark mark text t = mark_of t.kind mark (slice text t)

-- how far the tokens are read: within which `initial` the place is, the tokens that are kept, and the regions so far
pub record Shed : Type 0 where
  pub within : Within
  pub kept : List Token
  pub dropped : List Dropped

abbrev pub seen : code.Shed → Shed
seen s = record { within = s.within; kept = s.kept.items; dropped = s.dropped.items }

abbrev pub initial_at : ℕ → Dropped
initial_at at = record { kind = kind.Initial; at = at }

abbrev pub drops : Within → Shed → Shed
drops within s = record { within = within; kept = s.kept; dropped = s.dropped }

-- through the next `;`
abbrev pub statement : List ℕ → ℕ → Token → Within
statement text at t = if is_mark (codes ";") text t then Outside else Statement at

-- one `end` less to come; the last ends the construct
abbrev pub less : ℕ → ℕ → Within
less at zero = Outside
less at (suc zero) = Outside
less at (suc (suc n)) = Block at (suc n)

-- how many words `end` are to come
abbrev pub depth_of : Within → ℕ
depth_of (Block at depth) = depth
depth_of within = 0

abbrev pub block : List ℕ → ℕ → ℕ → Token → Within
block text at depth t =
    if is_word (codes "begin") text t then Block at (depth + 1) else
    if is_word (codes "end") text t then less at depth else Block at depth

abbrev pub shed_at : List ℕ → Within → Shed → Token → Shed
shed_at text Outside s t =
    if is_initial text t then record { within = Opened t.at; kept = s.kept; dropped = s.dropped ++ initial_at t.at ∷ [] }
    else record { within = Outside; kept = s.kept ++ t ∷ []; dropped = s.dropped }
shed_at text (Opened at) s t = drops (if is_word (codes "begin") text t then Block at 1 else statement text at t) s
shed_at text (Block at depth) s t = drops (block text at depth t) s
shed_at text (Statement at) s t = drops (statement text at t) s

-- `initial` goes to the `end` that matches where `begin` follows, else through the next `;`
unfoldable pub shed : List ℕ → Shed → Token → Result Shed Stop
shed text s t = Ok (shed_at text s.within s t)

-- the place of the construct that is open
abbrev pub open_at : Within → Option ℕ
open_at Outside = None
open_at (Opened at) = Some at
open_at (Block at depth) = Some at
open_at (Statement at) = Some at

abbrev pub ended : Option ℕ → Shed → Result Shed Stop
ended None s = Ok s
ended (Some at) s = Err (Alone at)

-- the tokens outside the `initial` constructs, with the regions that were there and then these
unfoldable pub initials : List ℕ → List Dropped → List Token → Result Shed Stop
initials text dropped ts = and_then (each (shed text) (record { within = Outside; kept = []; dropped = dropped }) ts) (λ s. ended (open_at s.within) s)
