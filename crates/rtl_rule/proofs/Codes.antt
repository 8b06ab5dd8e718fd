-- The rule that has a code is the first in the table that does.
use Rattle.std.proofs.Common.{◌≡◌, ◌∙◌, ℕ, ◌<◌, Bool, true, false, cond, List, length, get_or, None, Some, ap, arith}
use Rattle.std.specs.Prelude.{nat_lt, position}
use Rattle.std.specs.Str.{bytes_eq}
use Rattle.std.proofs.lemmas.Bool.{cond-true, cond-false, lt-ltb, le-ltb}
use Rattle.std.proofs.lemmas.List.Sums.{position_or_len_is}
use Rattle.std.proofs.lemmas.Option.{slice_get-get_or}
use Rattle.rtl_rule.specs.declared.rule.Rule.TheVariants.{SenseMissing}
use Rattle.rtl_rule.specs.Rows.{row_of, rules, rule_at, rule_with}

position_is : {X : Type 0} (p : X → Bool) (xs : List X) (i : ℕ) (d : X) → i < length xs → ((k : ℕ) → k < i → p (get_or xs k d) ≡ false) → p (get_or xs i d) ≡ true → position p xs ≡ Some i
position_is p xs i d inside none here =
    let place = position_or_len_is p xs i d (omega (arith, inside)) none (λ h. here) in
    ap (λ n. cond (nat_lt n (length xs)) (Some n) None) place
    ∙ cond-true (nat_lt i (length xs)) (Some i) None (lt-ltb i (length xs) inside)

position_none : {X : Type 0} (p : X → Bool) (xs : List X) (d : X) → ((k : ℕ) → k < length xs → p (get_or xs k d) ≡ false) → position p xs ≡ None
position_none p xs d none =
    let place = position_or_len_is p xs (length xs) d (omega arith) none (λ h. absurd (omega (arith, h))) in
    ap (λ n. cond (nat_lt n (length xs)) (Some n) None) place
    ∙ cond-false (nat_lt (length xs) (length xs)) (Some (length xs)) None (le-ltb (length xs) (length xs) (omega arith))

-- whether the rule at a place has a code
abbrev pub has_code : List ℕ → ℕ → Bool
has_code code k = bytes_eq (row_of (get_or rules k SenseMissing)).code code

pub rule_found : (code : List ℕ) (i : ℕ) → i < length rules → ((k : ℕ) → k < i → has_code code k ≡ false) → has_code code i ≡ true → rule_with code ≡ Some (get_or rules i SenseMissing)
rule_found code i inside none here =
    ap rule_at (position_is (λ rule. bytes_eq (row_of rule).code code) rules i SenseMissing inside none here)
    ∙ slice_get-get_or rules i SenseMissing inside

pub no_rule : (code : List ℕ) → ((k : ℕ) → k < length rules → has_code code k ≡ false) → rule_with code ≡ None
no_rule code none =
    ap rule_at (position_none (λ rule. bytes_eq (row_of rule).code code) rules SenseMissing none)
