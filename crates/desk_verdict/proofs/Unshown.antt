-- Where nothing is shown for any finding, it is so for the first of them.
use Rattle.std.specs.Prelude.{Err, IfOk, Ok, Result, Vec}
use Rattle.std.specs.declared.alloc.Global.{Global}
use Rattle.std.proofs.Common.{◌≡◌, ◌≤◌, ℕ, zero, suc, false, List, [], ◌∷◌, length, map, replicate, take, Option, None, Some, refl, sym, ap, subst, arith}
use Rattle.std.specs.List.{slice_get}
use Rattle.std.proofs.lemmas.Bool.{or_parts}
use Rattle.std.proofs.lemmas.Option.{same_Some}
use Rattle.rtl_flat.specs.declared.design.Design.{Design}
use Rattle.rtl_rule.specs.declared.finding.Finding.{Finding}
use Rattle.rtl_flat.specs.Flats.{flat, parts}
use Rattle.sign_off.specs.check_all.Findings.{AreAllFindings}
use Rattle.rtl_rule.specs.Rows.{has_needed, is_needed}
use Rattle.demo_told.specs.declared.demo.Demo.{Demo}
use Rattle.demo_told.specs.declared.demo.Shown.{Shown}
use Rattle.demo_clean.specs.demo_replay.Firsts.{AreFirsts, IsFirst, Told, told}
use Rattle.demo_clean.specs.Unshown.{NoneShown}

abbrev none : ℕ → List (Option (Demo × Shown))
none count = replicate count None

counted : (count : ℕ) (findings : List Finding) → count ≤ length findings → length (map told (none count)) ≡ length (take count findings)
counted zero findings within = refl
counted (suc n) [] within = absurd (omega (arith, within))
counted (suc n) (finding ∷ findings) within =
    ap suc (counted n findings (omega (arith, within)))

nothing_at : (count k : ℕ) (one : Option Told) → slice_get (map told (none count)) k ≡ Some one → None ≡ one
nothing_at zero k one there = absurd (cc)
nothing_at (suc n) zero one there = same_Some None one there
nothing_at (suc n) (suc k) one there = nothing_at n k one there

unneeded : (count : ℕ) (findings : List Finding) → has_needed findings ≡ false → (k : ℕ) (finding : Finding) → slice_get (take count findings) k ≡ Some finding → is_needed finding.rule ≡ false
unneeded zero findings free k finding there = absurd (cc)
unneeded (suc n) [] free k finding there = absurd (cc)
unneeded (suc n) (first ∷ findings) free zero finding there =
    subst (λ (one : Finding). is_needed one.rule ≡ false) (same_Some first finding there) (or_parts (is_needed first.rule) (has_needed findings) free).0
unneeded (suc n) (first ∷ findings) free (suc k) finding there =
    unneeded n findings (or_parts (is_needed first.rule) (has_needed findings) free).1 k finding there

pub none_first :
    (design : Design) (findings : List Finding) (count : ℕ) → NoneShown design → AreAllFindings (parts design) findings → has_needed findings ≡ false →
    count ≤ length findings → AreFirsts (flat design) (take count findings) (map told (none count))
none_first design findings count law are free within =
    record {
      count = counted count findings within;
      each = λ k finding one there here.
          subst (IsFirst (flat design) finding) (nothing_at count k one here) (law findings are free finding (unneeded count findings free k finding there));
    }

-- so it is of what is made of nothing, where memory suffices
pub nothing_first :
    {E : Type 0} (result : Result (Vec (Option (Demo × Shown)) Global) E) (design : Design) (some : List Finding) (count : ℕ) →
    AreFirsts (flat design) some (map told (none count)) → IfOk result (λ shown. shown.items ≡ none count) →
    IfOk result (λ shown. AreFirsts (flat design) some (map told shown.items))
nothing_first (Ok shown) design some count first is =
    subst (λ (all : List (Option (Demo × Shown))). AreFirsts (flat design) some (map told all)) (sym is) first
nothing_first (Err fault) design some count first is = tt
