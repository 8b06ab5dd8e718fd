-- How the findings of a rule are told: the rule has sites, which are all that may break it, in a list; a site that does
-- has one finding.
-- Worked examples: crates/tests_rows/stdin.
use Rattle.std.specs.Prelude.{◌≡◌, ◌⊎◌, List, [], ◌∷◌, map}
use Rattle.rtl_rule.specs.declared.finding.Finding.{Finding}

-- whether some elements of a list are those of which a condition holds, each as often as there
abbrev pub AreThose : {A : Type 0} → (A → Type 0) → List A → List A → Type 0
AreThose P [] kept = kept ≡ []
AreThose P (x ∷ others) kept =
    (P x × (rest : List _) × (kept ≡ x ∷ rest) × AreThose P others rest) ⊎ ((P x → ⊥) × AreThose P others kept)

-- whether these are the findings of all sites that break a rule, in the order of the sites
pub record AreFindings {A : Type 0} (Breaks : A → Type 0) (finding_at : A → Finding) (sites : List A) (findings : List Finding) : Type 0 where
  pub broken : List A
  pub those : AreThose Breaks sites broken
  pub shown : findings ≡ map finding_at broken
