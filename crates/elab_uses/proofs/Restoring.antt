-- The number of a loop's index, written again and written back.
use Rattle.std.specs.Prelude.{ℕ, ℤ, List, Option}
use Rattle.std.proofs.Common.{◌≡◌, ◌∙◌, ap}
use Rattle.elab_body.specs.elab_scope.Names.{Meanings, number_of}
use Rattle.elab_body.proofs.Indices.{indexed_anew, indexed_kept}
use Rattle.elab_standard.specs.Scopes.{Scopes, turned}

abbrev with_names : Scopes → Meanings → Scopes
with_names s scope = record { scope = scope; standards = s.standards }

turned_anew : (s : Scopes) (name : List ℕ) (a b : Option ℤ) → turned (turned s name a) name b ≡ turned s name b
turned_anew s name a b = ap (with_names s) (indexed_anew s.scope name a b)

turned_kept : (s : Scopes) (name : List ℕ) → turned s name (number_of (s.scope name)) ≡ s
turned_kept s name = ap (with_names s) (indexed_kept s.scope name)

-- a name that was given numbers and then its own again
pub turned_restored : (s turn after : Scopes) (name : List ℕ) (before : Option ℤ) → ((number : Option ℤ) → turned turn name number ≡ turned s name number) → before ≡ number_of (s.scope name) → after ≡ turned turn name before → after ≡ s
turned_restored s turn after name before same was is =
    is
    ∙ same before
    ∙ ap (turned s name) was
    ∙ turned_kept s name

-- any number of turns leave only the index changed
pub turned_more : (s turn set after : Scopes) (name : List ℕ) (a : Option ℤ) → ((number : Option ℤ) → turned turn name number ≡ turned s name number) → set ≡ turned turn name a → after ≡ set → (number : Option ℤ) → turned after name number ≡ turned s name number
turned_more s turn set after name a same is kept number =
    ap (λ t. turned t name number) (kept ∙ is)
    ∙ turned_anew turn name a number
    ∙ same number
