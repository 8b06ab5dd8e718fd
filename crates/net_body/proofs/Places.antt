-- Lists that are set place by place.
use Rattle.std.proofs.Common.{◌≡◌, ◌∙◌, ℕ, ◌+◌, ◌<◌, ◌≤◌, List, length, set, sym, inl, inr, arith}
use Rattle.std.proofs.lemmas.Bool.{cases_lt}
use Rattle.net_body.specs.Marks.{view_at}
use Rattle.net_body.proofs.Ending.{seen_past, set_more}
use Rattle.net_body.proofs.Seen.{seen_other, seen_same}

-- one place more
pub place_more : {A B : Type 0} (f : B → A) (none : A) (g : ℕ → A) (marks : List B) (place : ℕ) (m : B) → place < length marks → f m ≡ g place → ((i : ℕ) → i < place → view_at f none marks i ≡ g i) → (i : ℕ) → i < place + 1 → view_at f none (set marks place m) i ≡ g i
place_more f none g marks place m there fact before =
    set_more (λ i x. x ≡ g i) (view_at f none marks) (view_at f none (set marks place m)) place (f m) before (seen_same f none marks place m there) fact
    (λ i apart. seen_other f none marks place m i apart)

-- all places
pub place_all : {A B : Type 0} (f : B → A) (none : A) (g : ℕ → A) (marks : List B) (place : ℕ) → length marks ≤ place → ((i : ℕ) → length marks ≤ i → g i ≡ none) → ((i : ℕ) → i < place → view_at f none marks i ≡ g i) → (i : ℕ) → view_at f none marks i ≡ g i
place_all f none g marks place all past before i =
    elim (cases_lt i (length marks)) as (λ _. view_at f none marks i ≡ g i) [
      | inl below ↦ before i (omega (arith, below, all))
      | inr over ↦ seen_past f none marks i over ∙ sym (past i over)
    ]
