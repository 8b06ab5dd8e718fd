-- What requests come to beside a ruling, on small cases.
use Rattle.std.proofs.Common.{◌≡◌, List, ℕ, [], ◌∷◌, None, Some, Option, refl, codes}
use Rattle.std.specs.Prelude.{ℤ, pos}
use Rattle.std.specs.Fmt.{digits}
use Rattle.desk_dates.specs.Dates.{date_after, date_text, in_months, in_years}
use Rattle.rtl_rule.specs.declared.finding.Finding.{Finding}
use Rattle.rtl_rule.specs.declared.rule.Rule.{Rule}
use Rattle.rtl_rule.specs.declared.rule.Rule.TheVariants.{CombLoop, LatchInferred, WildSelector}
use Rattle.desk_tables.specs.Tables.{Kept}
use Rattle.desk_tables.specs.declared.rows.FileRow.{FileRow}
use Rattle.desk_tables.specs.declared.rows.WaiverId.{WaiverId}
use Rattle.desk_tables.specs.declared.rows.WaiverRow.{WaiverRow}
use Rattle.desk_requests.specs.declared.ask.Ask.TheVariants.{SignOff}
use Rattle.desk_requests.specs.declared.ask.Request.{Request}
use Rattle.desk_requests.specs.declared.ask.WaiverAsk.{WaiverAsk}
use Rattle.desk_requests.specs.declared.reply.BodyKind.TheVariants.{Plain}
use Rattle.desk_rows.specs.Rows.{Waived}
use Rattle.desk_rows.specs.declared.Row.{Row}
use Rattle.desk_records.specs.Outcomes.{Outcome, Told}
use Rattle.desk_rulings.specs.Grants.{grant, waive_outcome, waiver_row}
use Rattle.desk_rulings.specs.Rulings.{Site, Verdict, left_of, standing_of}
use Rattle.desk_rulings.specs.SignOffs.{grade_of, signoff_outcome}
use Rattle.desk_tables.specs.declared.rows.Grade.TheVariants as grade

-- a file that jo put last, with this digest
abbrev file : List ℕ → FileRow
file its_digest = record { name = codes "a.v"; text = codes "q\nif"; digest = its_digest; editor = codes "jo" }

abbrev id : WaiverId
id = record { 0 = 1 }

-- a waiver of a latch, until a day
abbrev waiver : Option ℤ → WaiverRow
waiver day = record {
  id = id;
  top = codes "top";
  rule = codes "L1";
  target = codes "top.q";
  file = codes "a.v";
  at = 2;
  digest = 1 ∷ [];
  owner = codes "mo";
  asker = codes "al";
  reason = codes "known";
  last_day = pos 10;
  ended = day;
}

abbrev kept_with : List ℕ → List WaiverRow → Kept
kept_with its_digest rows = record {
  meta = record { version = 2 } ∷ [];
  files = file its_digest ∷ [];
  waivers = rows;
  signoffs = [];
  replies = [];
}

abbrev kept : Kept
kept = kept_with (1 ∷ []) (waiver None ∷ [])

abbrev finding : Rule → Finding
finding its_rule = record { rule = its_rule; signal = None; instance = 0; spot = record { file = 0; at = 2 } }

abbrev row : Rule → Row
row its_rule = record { finding = finding its_rule; told = record { target = codes "top.q"; demo = None } }

abbrev with : Rule → Option (WaiverId × ℤ) → List Waived
with its_rule its_waiver = record { row = row its_rule; waiver = its_waiver } ∷ []

-- one finding, at the second line of the file
abbrev verdict : Rule → Verdict
verdict its_rule = record {
  rows = row its_rule ∷ [];
  files = record { name = codes "a.v"; text = codes "q\nif" } ∷ [];
  reached = codes "a.v" ∷ [];
}

a_waiver_stands_on_its_last_day : standing_of (pos 10) kept (verdict LatchInferred) ≡ with LatchInferred (Some (id, pos 10))
a_waiver_stands_on_its_last_day = refl

it_stands_no_more_on_the_day_after : standing_of (pos 11) kept (verdict LatchInferred) ≡ with LatchInferred None
it_stands_no_more_on_the_day_after = refl

it_stands_no_more_once_its_file_changed : standing_of (pos 10) (kept_with (2 ∷ []) (waiver None ∷ [])) (verdict LatchInferred) ≡ with LatchInferred None
it_stands_no_more_once_its_file_changed = refl

it_stands_no_more_once_it_is_revoked : standing_of (pos 10) (kept_with (1 ∷ []) (waiver (Some (pos 9)) ∷ [])) (verdict LatchInferred) ≡ with LatchInferred None
it_stands_no_more_once_it_is_revoked = refl

it_is_of_its_rule : standing_of (pos 10) kept (verdict CombLoop) ≡ with CombLoop None
it_is_of_its_rule = refl

a_finding_is_left : left_of (with LatchInferred None) ≡ 1
a_finding_is_left = refl

one_of_the_second_grade_is_not : left_of (with WildSelector None) ≡ 0
one_of_the_second_grade_is_not = refl

-- ---- waivers

abbrev asked : Rule → List ℕ → ℤ → WaiverAsk
asked its_rule where_it_is day = record {
  last_day = day;
  owner = codes "mo";
  place = where_it_is;
  reason = codes "known";
  rule = its_rule;
  target = codes "top.q";
  top = codes "top";
}

abbrev request : List ℕ → Request
request who = record { user = who; id = Some (codes "r1"); digest = 7 ∷ []; ask = SignOff (codes "top") }

-- what a request of a user for a waiver comes to on day 5, where these waivers are there
abbrev waived : List ℕ → WaiverAsk → List WaiverRow → Rule → Outcome
waived who ask rows its_rule =
    waive_outcome ask (request who) (pos 5) (kept_with (1 ∷ []) rows) (verdict its_rule)

abbrev refused : List ℕ → Outcome
refused line = Told (record { status = 409; kind = Plain; body = line })

abbrev site : Site
site = record {
  key = record { rule = LatchInferred; target = codes "top.q"; file = codes "a.v"; at = 2 };
  digest = 1 ∷ [];
}

it_is_granted : waived (codes "al") (asked LatchInferred (codes "a.v:2:1") (pos 95)) [] LatchInferred ≡ grant (waiver_row site (asked LatchInferred (codes "a.v:2:1") (pos 95)) (request (codes "al")) []) (request (codes "al"))
unfolding digits
it_is_granted = refl

one_waiver_is_enough : waived (codes "al") (asked LatchInferred (codes "a.v:2:1") (pos 95)) (waiver None ∷ []) LatchInferred ≡ refused (codes "Already 1\n")
unfolding digits
one_waiver_is_enough = refl

nothing_is_there : waived (codes "al") (asked LatchInferred (codes "a.v:2:2") (pos 95)) [] LatchInferred ≡ refused (codes "NoSuchFinding\n")
unfolding digits
nothing_is_there = refl

a_loop_is_never_waived : waived (codes "al") (asked CombLoop (codes "a.v:2:1") (pos 95)) [] CombLoop ≡ refused (codes "NotWaivable A6\n")
unfolding digits
a_loop_is_never_waived = refl

that_comes_before_all_else : waived (codes "al") (asked CombLoop (codes "b.v:9:9") (pos 95)) [] LatchInferred ≡ refused (codes "NotWaivable A6\n")
that_comes_before_all_else = refl

the_day_is_past : waived (codes "al") (asked LatchInferred (codes "a.v:2:1") (pos 4)) [] LatchInferred ≡ refused (codes "TermPast 1970-01-05\n")
unfolding digits date_text date_after in_years in_months
the_day_is_past = refl

the_term_is_too_long : waived (codes "al") (asked LatchInferred (codes "a.v:2:1") (pos 96)) [] LatchInferred ≡ refused (codes "TermTooLong 91\n")
unfolding digits
the_term_is_too_long = refl

nobody_answers_for_what_they_ask : waived (codes "mo") (asked LatchInferred (codes "a.v:2:1") (pos 95)) [] LatchInferred ≡ refused (codes "OwnerIsAsker\n")
unfolding digits
nobody_answers_for_what_they_ask = refl

-- ---- sign-offs

abbrev signed : List ℕ → List WaiverRow → Outcome
signed who rows =
    signoff_outcome (codes "top") (request who) (pos 5) (kept_with (1 ∷ []) rows) (verdict LatchInferred)

a_finding_stands : signed (codes "al") [] ≡ refused (codes "FindingsStand 1\n")
unfolding digits
a_finding_stands = refl

who_put_a_file_last_may_not_sign : signed (codes "jo") (waiver None ∷ []) ≡ refused (codes "SignerEdited a.v\n")
who_put_a_file_last_may_not_sign = refl

the_grade_is_waived : grade_of (row LatchInferred ∷ []) ≡ grade.Waived
the_grade_is_waived = refl

the_grade_is_clean : grade_of (row WildSelector ∷ []) ≡ grade.Clean
the_grade_is_clean = refl
