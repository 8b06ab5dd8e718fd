-- What a ruling says of its findings.
use Rattle.std.proofs.Common.{◌≡◌, Bool, true, false, not, List, [], ◌∷◌, refl, sym, ap}
use Rattle.std.specs.Prelude.{◌↔◌, IsTrue}
use Rattle.std.proofs.lemmas.Bool.{false≢true}
use Rattle.rtl_rule.specs.declared.finding.Finding.{Finding}
use Rattle.rtl_rule.specs.Rows.{has_first_grade}
use Rattle.sign_off.specs.check_all.Findings.{IsClean}
use Rattle.desk_verdict.specs.Verdicts.{is_clean, is_firm}

truth : (r s : Bool) → (r ≡ true → s ≡ true) → (s ≡ true → r ≡ true) → r ≡ s
truth true s from to = sym (from refl)
truth false true from to = to refl
truth false false from to = refl

off : (b : Bool) → not b ≡ true → b ≡ false
off true e = absurd (false≢true e)
off false e = refl

pub clean_is : (r : Bool) (found : List Finding) → (IsTrue r ↔ IsClean found) → r ≡ is_clean found
clean_is r found is =
    truth r (is_clean found) (λ yes. ap not (is.0 yes)) (λ yes. is.1 (off (has_first_grade found) yes))

pub firm_is : (r : Bool) (found : List Finding) → (IsTrue r ↔ (found ≡ [])) → r ≡ is_firm found
firm_is r [] is = is.1 refl
firm_is true (one ∷ others) is = absurd (let none : one ∷ others ≡ [] = is.0 refl in cc)
firm_is false (one ∷ others) is = refl
