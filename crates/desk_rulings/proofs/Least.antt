-- Where the rows of waivers are sound, the one that stands by them is the one that stands by the book.
use Rattle.std.proofs.Common.{◌≡◌, ◌∙◌, ℕ, suc, ◌+◌, nat_eq, nat_lt, Bool, true, false, not, cond, List, [], ◌∷◌, ◌++◌, Option, Some, None, length, get_or, refl, ap, sym, arith}
use Rattle.std.specs.Prelude.{ℤ, ◌&&◌, ◌||◌, ◌==◌, ◌-ℤ◌, bytes_eq, find, int_lt, is_some, nat_le, option_map, position, if◌then◌else◌}
use Rattle.std.specs.List.{cons_option, position_or_len}
use Rattle.std.proofs.lemmas.Bool.{or_parts, and_parts, not-false, eqb-true, lt-ltb}
use Rattle.std.proofs.lemmas.Bool.Decides.{Decides-like, nat_tests, same_from_decides}
use Rattle.std.proofs.lemmas.List.{length_push}
use Rattle.std.proofs.lemmas.List.Quantifiers.{position-Some}
use Rattle.std.proofs.lemmas.Option.{get_or_from_slice_get}
use Rattle.std.proofs.lemmas.Slice.Eq.{bytes_eq-Decides}
use Rattle.rtl_rule.specs.Rows.{row_of, rule_at, rule_number, rule_with, rules}
use Rattle.rtl_rule.specs.declared.rule.Rule.{Rule}
use Rattle.rtl_rule.proofs.Rules.{coded, number_tells}
use Rattle.desk_tables.specs.Editions.{version_of}
use Rattle.desk_tables.specs.Rules.{broken_row, broken_meta, first_broken, in_table, is_sound_waiver, or_else, reply_breaks, signoff_breaks, waiver_breaks}
use Rattle.desk_tables.specs.Tables.{Kept}
use Rattle.desk_tables.specs.declared.rows.Table.{Table}
use Rattle.desk_tables.specs.declared.rows.Table.TheVariants.{Meta, Waivers, SignOffs, Replies}
use Rattle.desk_tables.specs.declared.rows.WaiverId.{WaiverId}
use Rattle.desk_tables.specs.declared.rows.WaiverRow.{WaiverRow}
use Rattle.desk_tables.specs.Limits.{MAX_WAIVERS}
use Rattle.waiver_book.specs.Books.{id_at, refusal, standing, term, MAX_TERM}
use Rattle.waiver_book.specs.declared.fault.WaiveFault.{WaiveFault}
use Rattle.waiver_book.specs.declared.fault.WaiveFault.TheVariants.{NotWaivable, NoSuchFinding, TermPast, TermTooLong, OwnerIsAsker, Already}
use Rattle.desk_requests.specs.declared.ask.Request.{Request}
use Rattle.desk_requests.specs.declared.ask.WaiverAsk.{WaiverAsk}
use Rattle.desk_rulings.specs.Grants.{refused_at, waiver_of}
use Rattle.waiver_book.specs.Waivers.{covers as book_covers, has_key, Entry}
use Rattle.desk_rulings.specs.Books.{book_of, entry_with}
use Rattle.desk_rulings.specs.Rulings.{Site, covers, is_for, standing_in, stands}

-- ---- rules by their codes

same_some : {X : Type 0} (x y : X) → Some x ≡ Some y → x ≡ y
same_some x y same = cc

at_place : (code : List ℕ) (found : Option ℕ) (rule : Rule) → position (λ it. bytes_eq (row_of it).code code) rules ≡ found → rule_at found ≡ Some rule → (row_of rule).code ≡ code
at_place code None rule place is = absurd (cc)
at_place code (Some i) rule place is =
    let passes = position-Some (λ it. bytes_eq (row_of it).code code) rules i rule place in
    let read : get_or rules i rule ≡ rule = get_or_from_slice_get rules i rule rule is in
    (bytes_eq-Decides (row_of rule).code code).0 (ap (λ it. bytes_eq (row_of it).code code) (sym read) ∙ passes.1)

has_code : (code : List ℕ) (rule : Rule) → rule_with code ≡ Some rule → (row_of rule).code ≡ code
has_code code rule is = at_place code (position (λ it. bytes_eq (row_of it).code code) rules) rule refl is

-- a code is that of a rule where its rule is that rule
code_tells : (code : List ℕ) (rule other : Rule) → rule_with code ≡ Some rule → bytes_eq code (row_of other).code ≡ nat_eq (rule_number rule) (rule_number other)
code_tells code rule other is =
    same_from_decides _ _
    (Decides-like _ (λ (same : code ≡ (row_of other).code). same_some rule other (sym is ∙ ap rule_with same ∙ coded other))
    (λ same. sym (has_code code rule is) ∙ ap (λ it. (row_of it).code) same)
    (bytes_eq-Decides code (row_of other).code))
    (number_tells rule other)

-- ---- one row

swapped : (one other : Bool) → (one && other) ≡ (other && one)
swapped true true = refl
swapped true false = refl
swapped false true = refl
swapped false false = refl

covers_same : (today : ℤ) (site : Site) (row : WaiverRow) (rule : Rule) → rule_with row.rule ≡ Some rule → book_covers site.key site.digest today (entry_with row rule) ≡ covers today site row
covers_same today site row rule is =
    ap (λ it. (((it && row.at == site.key.at) && bytes_eq row.target site.key.target) && bytes_eq row.file site.key.file) && bytes_eq row.digest site.digest && stands today row) (sym (code_tells row.rule rule site.key.rule is))
    ∙ swapped (is_for site row) (stands today row)

-- ---- all rows
abbrev pub number : Option (WaiverId × ℤ) → Option WaiverId
number found = option_map (λ it. it.0) found

position_by : (b : Bool) (n m : ℕ) → cond (nat_lt (cond (not b) (1 + n) 0) (suc m)) (Some (cond (not b) (1 + n) 0)) None ≡ cond b (Some 0) (option_map suc (cond (nat_lt n m) (Some n) None))
position_by true n m = ap (λ it. cond it (Some 0) None) (lt-ltb 0 (suc m) (omega arith))
position_by false n m = by (nat_lt n m) (grind (arith, nat_tests))
  where
    by : (b : Bool) → nat_lt (1 + n) (suc m) ≡ b → cond (nat_lt (1 + n) (suc m)) (Some (1 + n)) None ≡ option_map suc (cond b (Some n) None)
    by true is =
        let same : 1 + n ≡ suc n = omega arith in
        ap (λ it. cond it (Some (1 + n)) None) is ∙ ap Some same
    by false is = ap (λ it. cond it (Some (1 + n)) None) is

mapped_on : (g h : ℕ → WaiverId) (place : Option ℕ) → ((n : ℕ) → h n ≡ g (suc n)) → option_map h place ≡ option_map g (option_map suc place)
mapped_on g h None same = refl
mapped_on g h (Some n) same = ap Some (same n)

chosen : (b : Bool) (row : WaiverRow) (rest : Option WaiverRow) (g : ℕ → WaiverId) (place : Option ℕ) → row.id ≡ g 0 → number (option_map (λ it. (it.id, it.last_day)) rest) ≡ option_map g place → number (option_map (λ it. (it.id, it.last_day)) (cond b (Some row) rest)) ≡ option_map g (cond b (Some 0) place)
chosen true row rest g place first others = ap Some first
chosen false row rest g place first others = others

unbroken : (b : Bool) (n : ℕ) (rest : Option ℕ) → (if b then Some n else rest) ≡ None → (b ≡ false) × (rest ≡ None)
unbroken true n rest is = absurd (cc)
unbroken false n rest is = (refl, is)

some_rule : (found : Option Rule) → is_some found ≡ true → (rule : Rule) × (found ≡ Some rule)
some_rule None is = absurd (cc)
some_rule (Some rule) is = (rule, refl)

ruled : (row : WaiverRow) → is_sound_waiver row ≡ true → (rule : Rule) × (rule_with row.rule ≡ Some rule)
ruled row sound =
    some_rule (rule_with row.rule)
    (and_parts _ _ (and_parts _ _ sound).0).1

-- one row, and those behind it
least_step : (today : ℤ) (site : Site) (before : List WaiverRow) (row : WaiverRow) (rows : List WaiverRow) (rule : Rule) → rule_with row.rule ≡ Some rule → row.id.0 ≡ length before + 1 → number (standing_in today rows site) ≡ option_map (λ place. id_at (length (before ++ row ∷ []) + place)) (position (book_covers site.key site.digest today) (book_of rows)) → number (standing_in today (row ∷ rows) site) ≡ option_map (λ place. id_at (length before + place)) (position (book_covers site.key site.digest today) (book_of (row ∷ rows)))
least_step today site before row rows rule its counted least =
    let p : Entry → Bool = book_covers site.key site.digest today in
    let g : ℕ → WaiverId = λ place. id_at (length before + place) in
    let h : ℕ → WaiverId = λ place. id_at (length (before ++ row ∷ []) + place) in
    let rest : Option ℕ = position p (book_of rows) in
    let others : number (standing_in today rows site) ≡ option_map g (option_map suc rest) = least ∙ mapped_on g h rest (λ n. ap (λ (m : ℕ). record { 0 = m }) (omega (arith, length_push before row))) in
    let same : row.id ≡ g 0 = ap (λ (m : ℕ). record { 0 = m }) (omega (arith, counted)) in
    chosen (covers today site row) row (find (covers today site) rows) g (option_map suc rest) same others
    ∙ ap (λ it. option_map g (cond it (Some 0) (option_map suc rest))) (sym (covers_same today site row rule its))
    ∙ ap (option_map g) (sym (position_by (p (entry_with row rule)) (position_or_len p (book_of rows)) (length (book_of rows))))
    ∙ ap (λ it. option_map g (position p (cons_option (option_map (entry_with row) it) (book_of rows)))) (sym its)

least_from : (today : ℤ) (site : Site) (before rows : List WaiverRow) → first_broken waiver_breaks before rows ≡ None → number (standing_in today rows site) ≡ option_map (λ place. id_at (length before + place)) (position (book_covers site.key site.digest today) (book_of rows))
least_from today site before [] whole = refl
least_from today site before (row ∷ rows) whole =
    let two : (waiver_breaks before row ≡ false) × (first_broken waiver_breaks (before ++ row ∷ []) rows ≡ None) = unbroken (waiver_breaks before row) (length before + 1) _ whole in
    let second = or_parts (not (is_sound_waiver row) || nat_le MAX_WAIVERS (length before)) (not (row.id.0 == length before + 1)) two.0 in
    let first = or_parts (not (is_sound_waiver row)) (nat_le MAX_WAIVERS (length before)) second.0 in
    let counted : row.id.0 ≡ length before + 1 = eqb-true row.id.0 (length before + 1) (not-false (row.id.0 == length before + 1) second.1) in
    let its = ruled row (not-false (is_sound_waiver row) first.0) in
    least_step today site before row rows its.0 its.1 counted
    (least_from today site (before ++ row ∷ []) rows two.1)

mapped_same : (g h : ℕ → WaiverId) (place : Option ℕ) → ((n : ℕ) → g n ≡ h n) → option_map g place ≡ option_map h place
mapped_same g h None same = refl
mapped_same g h (Some n) same = ap Some (same n)

either : {A : Type 0} (one other : Option A) → or_else one other ≡ None → (one ≡ None) × (other ≡ None)
either None other is = (refl, is)
either (Some it) other is = absurd (cc)

unfound : (table : Table) (place : Option ℕ) → in_table table place ≡ None → place ≡ None
unfound table None is = refl
unfound table (Some n) is = absurd (cc)

id_from_none : (place : ℕ) → id_at (0 + place) ≡ id_at place
id_from_none place = ap (λ (m : ℕ). record { 0 = m }) (omega arith)

pub least_number : (kept : Kept) (site : Site) (today : ℤ) → broken_row kept ≡ None → number (standing_in today kept.waivers site) ≡ standing site.key site.digest today (book_of kept.waivers)
least_number kept site today sound =
    let behind : or_else (in_table Waivers (first_broken waiver_breaks [] kept.waivers)) (or_else (in_table SignOffs (first_broken (signoff_breaks (version_of kept.meta)) [] kept.signoffs)) (in_table Replies (first_broken reply_breaks [] kept.replies))) ≡ None = (either _ _ (either (in_table Meta (broken_meta kept.meta)) _ sound).1).1 in
    least_from today site [] kept.waivers (unfound Waivers (first_broken waiver_breaks [] kept.waivers) (either _ _ behind).0)
    ∙ mapped_same (λ place. id_at (0 + place)) id_at (position (book_covers site.key site.digest today) (book_of kept.waivers)) id_from_none

-- ---- refusals

five : (a b c d e : Bool) (one two three four five' : WaiveFault) (last other : Option WaiveFault) → last ≡ other → or_else (if a then Some one else (if b then Some two else (if c then Some three else (if d then Some four else (if e then Some five' else None))))) last ≡ (if a then Some one else (if b then Some two else (if c then Some three else (if d then Some four else (if e then Some five' else other)))))
five true b c d e one two three four five' last other is = refl
five false true c d e one two three four five' last other is = refl
five false false true d e one two three four five' last other is = refl
five false false false true e one two three four five' last other is = refl
five false false false false true one two three four five' last other is = refl
five false false false false false one two three four five' last other is = is

already : (found : Option (WaiverId × ℤ)) → option_map (λ it. Already it.0) found ≡ option_map Already (number found)
already None = refl
already (Some found) = refl

pub books_refusal : (kept : Kept) (site : Site) (ask : WaiverAsk) (request : Request) (today : ℤ) → broken_row kept ≡ None → refused_at site ask request today kept.waivers ≡ refusal (waiver_of ask site) (site.key ∷ []) today request.user (book_of kept.waivers)
books_refusal kept site ask request today sound =
    let last : option_map (λ it. Already it.0) (standing_in today kept.waivers site) ≡ option_map Already (standing site.key site.digest today (book_of kept.waivers)) = already (standing_in today kept.waivers site) ∙ ap (option_map Already) (least_number kept site today sound) in
    five (not (row_of site.key.rule).waivable) (not (has_key site.key (site.key ∷ []))) (int_lt ask.last_day today) (int_lt MAX_TERM (ask.last_day -ℤ today)) (bytes_eq ask.owner request.user) (NotWaivable site.key.rule) NoSuchFinding (TermPast ask.last_day) (TermTooLong (term today ask.last_day)) OwnerIsAsker
    (option_map (λ it. Already it.0) (standing_in today kept.waivers site))
    (option_map Already (standing site.key site.digest today (book_of kept.waivers))) last
