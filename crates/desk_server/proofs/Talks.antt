-- How talks go on.
use Rattle.std.proofs.Common.{◌≡◌, ℕ, List, [], ◌++◌, Option, None, Some, ◌∙◌, ap, sym, subst, refl, append_assoc, append-nil}
use Rattle.desk_links.specs.Links.{GoesOn, IsAtEnd, Talk}
use Rattle.desk_server.specs.Connections.{IsTalk}
use Rattle.desk_server.specs.Hearing.{Hears, HearsInput, left_of}

-- a talk goes on by nothing
pub GoesOn-none : (talk : Option Talk) → GoesOn talk talk [] []
GoesOn-none None = tt
GoesOn-none (Some talk) = record {
  left = refl;
  read = sym (append-nil talk.read);
  written = sym (append-nil talk.written);
}

-- what goes on twice goes on by both
pub GoesOn-trans : (a b c : Option Talk) (heard heard' said said' : List ℕ)
    → GoesOn a b heard said → GoesOn b c heard' said' → GoesOn a c (heard ++ heard') (said ++ said')
GoesOn-trans None b c heard heard' said said' first next = tt
GoesOn-trans (Some a) None c heard heard' said said' first next = absurd first
GoesOn-trans (Some a) (Some b) None heard heard' said said' first next = absurd next
GoesOn-trans (Some a) (Some b) (Some c) heard heard' said said' first next = record {
  left = first.left ∙ ap (λ l. heard ++ l) next.left ∙ sym (append_assoc heard heard' c.left);
  read = next.read ∙ ap (λ l. l ++ heard') first.read ∙ append_assoc a.read heard heard';
  written = next.written ∙ ap (λ l. l ++ said') first.written ∙ append_assoc a.written said said';
}

-- at the end nothing is left
pub left-at_end : (talk : Option Talk) → IsAtEnd talk → left_of talk ≡ []
left-at_end None ended = refl
left-at_end (Some talk) ended = ended

-- nothing more is heard
pub hears_none : (talk : Option Talk) (P : List ℕ → Type 0) → P (left_of talk) → HearsInput talk talk P
hears_none talk P holds = record { heard = []; goes = GoesOn-none talk; holds = holds }

-- bytes were heard before
pub hears_then : (a b c : Option Talk) (front : List ℕ) (P : List ℕ → Type 0)
    → GoesOn a b front [] → HearsInput b c (λ more. P (front ++ more)) → HearsInput a c P
hears_then a b c front P goes it = record {
  heard = front ++ it.heard;
  goes = GoesOn-trans a b c front it.heard [] [] goes it.goes;
  holds = subst P (sym (append_assoc front it.heard (left_of c))) it.holds;
}

-- it holds of any input
pub hears_any : (a b : Option Talk) (Q P : List ℕ → Type 0) → ((input : List ℕ) → P input)
    → Hears a b Q → HearsInput a b P
hears_any a b Q P holds it = record {
  heard = it.heard;
  goes = it.goes;
  holds = holds (it.heard ++ left_of b);
}

-- it holds of the input, and so this does
pub hears_so : (a b : Option Talk) (P Q : List ℕ → Type 0) → ((input : List ℕ) → P input → Q input)
    → HearsInput a b P → HearsInput a b Q
hears_so a b P Q holds it = record {
  heard = it.heard;
  goes = it.goes;
  holds = holds (it.heard ++ left_of b) it.holds;
}

-- all that comes on a link is heard or left, and what is said then is said behind what was
pub is_talk : (a b c : Option Talk) (heard first said : List ℕ)
    → GoesOn a b heard first → GoesOn b c [] said → IsTalk a c (heard ++ left_of b) (first ++ said)
is_talk None b c heard first said hears says = tt
is_talk (Some a) None c heard first said hears says = absurd hears
is_talk (Some a) (Some b) None heard first said hears says = absurd says
is_talk (Some a) (Some b) (Some c) heard first said hears says =
    let read : c.read ≡ a.read ++ heard = says.read ∙ append-nil b.read ∙ hears.read in (
      hears.left,
      ap (λ l. c.read ++ l) (sym says.left) ∙ ap (λ l. l ++ b.left) read ∙ append_assoc a.read heard b.left ∙ ap (λ l. a.read ++ l) (sym hears.left),
      says.written ∙ ap (λ l. l ++ said) hears.written ∙ append_assoc a.written first said,
    )

-- the same where nothing is said then
pub is_talk-heard : (a b : Option Talk) (heard said : List ℕ) → GoesOn a b heard said → IsTalk a b (heard ++ left_of b) said
is_talk-heard None b heard said hears = tt
is_talk-heard (Some a) None heard said hears = absurd hears
is_talk-heard (Some a) (Some b) heard said hears = (
  hears.left,
  ap (λ l. l ++ b.left) hears.read ∙ append_assoc a.read heard b.left ∙ ap (λ l. a.read ++ l) (sym hears.left),
  hears.written,
)
