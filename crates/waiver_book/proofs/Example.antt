-- The book on small cases.
use Rattle.std.proofs.Common.{◌≡◌, List, [], ◌∷◌, None, Some, Option, refl, codes}
use Rattle.std.specs.Prelude.{ℤ, pos}
use Rattle.desk_tables.specs.declared.rows.WaiverId.{WaiverId}
use Rattle.rtl_rule.specs.declared.finding.Key.{Key}
use Rattle.rtl_rule.specs.declared.rule.Rule.{Rule}
use Rattle.rtl_rule.specs.declared.rule.Rule.TheVariants.{CombLoop, LatchInferred}
use Rattle.waiver_book.specs.Books.{refusal, standing}
use Rattle.waiver_book.specs.Waivers.{Entry, Waiver, end_by}
use Rattle.waiver_book.specs.declared.fault.WaiveFault.TheVariants.{Already, NoSuchFinding, NotWaivable, OwnerIsAsker, TermPast, TermTooLong}

abbrev key : Rule → Key
key its_rule = record { rule = its_rule; target = codes "top.q"; file = codes "top.v"; at = 7 }

abbrev latch : Key
latch = key LatchInferred

-- a waiver of a latch, until a day
abbrev until : ℤ → Waiver
until day =
    record { key = latch; digest = 1 ∷ []; owner = codes "jo"; last_day = day; reason = codes "known" }

abbrev entry : ℤ → Option ℤ → Entry
entry day end = record { waiver = until day; ended = end }

-- two waivers of one finding, until day 10 and until day 20
abbrev book : List Entry
book = entry (pos 10) None ∷ entry (pos 20) None ∷ []

abbrev id : WaiverId
id = record { 0 = 1 }

abbrev next : WaiverId
next = record { 0 = 2 }

the_least_number_stands : standing latch (1 ∷ []) (pos 10) book ≡ Some id
the_least_number_stands = refl

it_stands_no_more_on_the_day_after : standing latch (1 ∷ []) (pos 11) book ≡ Some next
it_stands_no_more_on_the_day_after = refl

none_stands_in_another_text : standing latch (2 ∷ []) (pos 10) book ≡ None
none_stands_in_another_text = refl

a_revoked_one_stands_no_more : standing latch (1 ∷ []) (pos 10) (entry (pos 10) (Some (pos 9)) ∷ entry (pos 20) None ∷ []) ≡ Some next
a_revoked_one_stands_no_more = refl

a_term_of_90_days : refusal (until (pos 95)) (latch ∷ []) (pos 5) (codes "al") [] ≡ None
a_term_of_90_days = refl

a_term_of_91_days : refusal (until (pos 96)) (latch ∷ []) (pos 5) (codes "al") [] ≡ Some (TermTooLong 91)
a_term_of_91_days = refl

a_day_that_is_past : refusal (until (pos 4)) (latch ∷ []) (pos 5) (codes "al") [] ≡ Some (TermPast (pos 4))
a_day_that_is_past = refl

nobody_answers_for_what_they_ask : refusal (until (pos 5)) (latch ∷ []) (pos 5) (codes "jo") [] ≡ Some OwnerIsAsker
nobody_answers_for_what_they_ask = refl

one_is_enough : refusal (until (pos 5)) (latch ∷ []) (pos 5) (codes "al") book ≡ Some (Already id)
one_is_enough = refl

no_such_finding : refusal (until (pos 5)) (key CombLoop ∷ []) (pos 5) (codes "al") [] ≡ Some NoSuchFinding
no_such_finding = refl

a_loop_is_never_waived : refusal (record (until (pos 5)) { key = key CombLoop }) (key CombLoop ∷ []) (pos 5) (codes "al") [] ≡ Some (NotWaivable CombLoop)
a_loop_is_never_waived = refl

it_stands_until_its_last_day : end_by (pos 10) (pos 10) None ≡ None
it_stands_until_its_last_day = refl

its_term_is_over : end_by (pos 11) (pos 10) None ≡ Some (pos 10)
its_term_is_over = refl

it_was_revoked : end_by (pos 11) (pos 10) (Some (pos 9)) ≡ Some (pos 9)
it_was_revoked = refl
