-- Flags of woken processes.
use Rattle.std.proofs.Common.{◌≡◌, ◌<◌, ◌∙◌, ℕ, Bool, true, false, ◌&&◌, ◌||◌, List, ◌∷◌, length, set, refl, sym, ap, inl, inr}
use Rattle.std.specs.Prelude.{◌==◌}
use Rattle.std.proofs.lemmas.Bool.{cases_eq, eq-eqb, ne_eqb}
use Rattle.rtl_flat.specs.declared.act.ProcId.{ProcId}
use Rattle.rank_set.specs.Ranks.{flag}
use Rattle.rank_set.proofs.Law.{flag-set_same, flag-set_other}
use Rattle.event_write.specs.Listeners.{is_among}

or_none : (a b : Bool) → b ≡ false → a ≡ (a || b)
or_none true b e = refl
or_none false b e = sym e

or_one : (a b : Bool) → b ≡ true → true ≡ (a || b)
or_one true b e = refl
or_one false b e = sym e

and_none : (b : Bool) → (b && false) ≡ false
and_none true = refl
and_none false = refl

and_all : (b : Bool) → b ≡ (b && true)
and_all true = refl
and_all false = refl

or_assoc : (a b c : Bool) → ((a || b) || c) ≡ (a || (b || c))
or_assoc true b c = refl
or_assoc false b c = refl

-- a process that hears something
inserted : (flags : List Bool) (process p : ℕ) (hears : Bool) → hears ≡ true → process < length flags → flag (set flags process true) p ≡ (flag flags p || ((process == p) && hears))
inserted flags process p hears e within =
    elim (cases_eq process p) [
      | inl same ↦ ap (flag (set flags process true)) (sym same) ∙ flag-set_same flags process true within
          ∙ or_one (flag flags p) ((process == p) && hears) (ap (λ b. (process == p) && b) e ∙ ap (λ b. b && true) (eq-eqb process p same))
      | inr apart ↦ flag-set_other flags process p true (λ f. apart (sym f))
          ∙ or_none (flag flags p) ((process == p) && hears) (ap (λ b. b && hears) (ne_eqb process p apart))
    ]

-- processes that hear something
pub all_inserted : (before after : Bool) (processes : List ProcId) (p : ℕ) (hears : Bool) → hears ≡ true → after ≡ (before || is_among processes p) → after ≡ (before || (is_among processes p && hears))
all_inserted before after processes p hears e is =
    is ∙ ap (λ b. before || b) (and_all (is_among processes p) ∙ ap (λ b. is_among processes p && b) (sym e))

-- processes that don't
pub not_inserted : (flags : List Bool) (processes : List ProcId) (p : ℕ) (hears : Bool) → hears ≡ false → flag flags p ≡ (flag flags p || (is_among processes p && hears))
not_inserted flags processes p hears e =
    or_none (flag flags p) (is_among processes p && hears) (ap (λ b. is_among processes p && b) e ∙ and_none (is_among processes p))

-- of processes one more
pub one_inserted : (flags : List Bool) (process : ProcId) (others : List ProcId) (p : ℕ) → process.0 < length flags → (flag (set flags process.0 true) p || is_among others p) ≡ (flag flags p || is_among (process ∷ others) p)
one_inserted flags process others p within =
    ap (λ b. b || is_among others p) (inserted flags process.0 p true refl within ∙ ap (λ b. flag flags p || b) (sym (and_all (process.0 == p))))
    ∙ or_assoc (flag flags p) (process.0 == p) (is_among others p)
