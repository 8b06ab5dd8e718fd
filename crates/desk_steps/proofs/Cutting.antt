-- Texts cut at a byte.
use Rattle.std.specs.Prelude.{ℕ, suc, ◌+◌, ◌-◌, ◌<◌, ◌≢◌, ◌==◌, nat_lt, Bool, true, false, cond, List, [], ◌∷◌, drop, take, length, ◌≤◌, Option, None, Some, IfSome}
use Rattle.std.specs.Borrow.{Bor}
use Rattle.std.proofs.Common.{◌≡◌, ◌∙◌, ap, sym, refl, subst, arith}
use Rattle.std.proofs.lemmas.Bool.Decides.{nat_tests}
use Rattle.desk_steps.specs.Cuts.{left, place_of}
use Rattle.desk_steps.specs.Lines.{Cut, cut_at, lines, longer, on_first, parts}

-- the cut at a place, if it is in the text
abbrev cut_there : List ℕ → ℕ → Bool → Option Cut
cut_there text at false = None
cut_there text at true = Some (record { before = take at text; behind = drop (at + 1) text })

longer_cut : (byte : ℕ) (text : List ℕ) (at : ℕ) (inside : Bool) → longer byte (cut_there text at inside) ≡ cut_there (byte ∷ text) (suc at) inside
longer_cut byte text at false = refl
longer_cut byte text at true =
    let same : suc at + 1 ≡ suc (at + 1) = omega arith in
    ap (λ n. Some (record { before = byte ∷ take at text; behind = drop n (byte ∷ text) })) (sym same)

some_lt : (n : ℕ) → nat_lt 0 (suc n) ≡ true
some_lt n = grind (arith, nat_tests)

lt_suc : (a b : ℕ) → nat_lt (suc a) (suc b) ≡ nat_lt a b
lt_suc a b = grind (arith, nat_tests)

found : (mark : ℕ) (text : List ℕ) → cut_at mark text ≡ cut_there text (place_of mark text) (nat_lt (place_of mark text) (length text))
found mark [] = refl
found mark (byte ∷ text) = by (byte == mark) (found mark text)
  where
    by : (here : Bool) → cut_at mark text ≡ cut_there text (place_of mark text) (nat_lt (place_of mark text) (length text)) → cond here (Some (record { before = []; behind = text })) (longer byte (cut_at mark text)) ≡ cut_there (byte ∷ text) (cond here 0 (suc (place_of mark text))) (nat_lt (cond here 0 (suc (place_of mark text))) (length (byte ∷ text)))
    by true rest = ap (cut_there (byte ∷ text) 0) (sym (some_lt (length text)))
    by false rest =
        ap (longer byte) rest
        ∙ longer_cut byte text (place_of mark text) (nat_lt (place_of mark text) (length text))
        ∙ ap (cut_there (byte ∷ text) (suc (place_of mark text))) (sym (lt_suc (place_of mark text) (length text)))

-- where the byte isn't there; and where it first is
pub cut_missing : (mark : ℕ) (text : List ℕ) → length text ≤ place_of mark text → cut_at mark text ≡ None
cut_missing mark text least =
    let outside : nat_lt (place_of mark text) (length text) ≡ false = grind (arith, nat_tests) in
    found mark text ∙ ap (cut_there text (place_of mark text)) outside

pub cut_found : (mark : ℕ) (text : List ℕ) → place_of mark text < length text → cut_at mark text ≡ Some (record { before = take (place_of mark text) text; behind = drop (place_of mark text + 1) text })
cut_found mark text less =
    let inside : nat_lt (place_of mark text) (length text) ≡ true = grind (arith, nat_tests) in
    found mark text ∙ ap (cut_there text (place_of mark text)) inside

-- what is cut off is shorter
pub shorter : (mark : ℕ) (text : List ℕ) (cut : Cut) → cut_at mark text ≡ Some cut → length cut.behind < length text
shorter mark [] cut is = absurd (cc)
shorter mark (byte ∷ text) cut is = by (byte == mark) (cut_at mark text) refl (shorter mark text) is
  where
    by : (here : Bool) (later : Option Cut) → cut_at mark text ≡ later → ((one : Cut) → cut_at mark text ≡ Some one → length one.behind < length text) → cond here (Some (record { before = []; behind = text })) (longer byte later) ≡ Some cut → length cut.behind < length (byte ∷ text)
    by true later same less found =
        let rest : text ≡ cut.behind = cc in
        subst (λ (xs : List ℕ). length xs < length (byte ∷ text)) rest (omega arith)
    by false None same less found = absurd (cc)
    by false (Some one) same less found =
        let rest : one.behind ≡ cut.behind = cc in
        let short : length one.behind < length text = less one same in
        subst (λ (xs : List ℕ). length xs < length (byte ∷ text)) rest (omega (arith, short))

-- ---- lines

abbrev lined : List ℕ → Option Cut → List (List ℕ)
lined [] None = []
lined (byte ∷ text) None = (byte ∷ text) ∷ []
lined text (Some cut) = cut.before ∷ lines cut.behind

lines_are : (text : List ℕ) → lines text ≡ lined text (cut_at 10 text)
lines_are [] = refl
lines_are (byte ∷ text) = by (byte == 10) text (cut_at 10 text) (lines_are text)
  where
    by : (here : Bool) (rest : List ℕ) (later : Option Cut) → lines rest ≡ lined rest later → cond here ([] ∷ lines rest) (on_first byte (lines rest)) ≡ lined (byte ∷ rest) (cond here (Some (record { before = []; behind = rest })) (longer byte later))
    by true rest later is = refl
    by false [] None is = refl
    by false (next ∷ rest) None is = ap (on_first byte) is
    by false [] (Some cut) is = ap (on_first byte) is
    by false (next ∷ rest) (Some cut) is = ap (on_first byte) is

lined_some : (text : List ℕ) (cut : Cut) → lined text (Some cut) ≡ cut.before ∷ lines cut.behind
lined_some [] cut = refl
lined_some (byte ∷ text) cut = refl

pub line_cut : (text : List ℕ) (cut : Cut) → cut_at 10 text ≡ Some cut → lines text ≡ cut.before ∷ lines cut.behind
line_cut text cut is = lines_are text ∙ ap (lined text) is ∙ lined_some text cut

pub line_whole : (text : List ℕ) → text ≢ [] → cut_at 10 text ≡ None → lines text ≡ text ∷ []
line_whole [] some is = absurd (some refl)
line_whole (byte ∷ text) some is = lines_are (byte ∷ text) ∙ ap (lined (byte ∷ text)) is

-- ---- parts

abbrev parted : ℕ → List ℕ → Option Cut → List (List ℕ)
parted mark text None = text ∷ []
parted mark text (Some cut) = cut.before ∷ parts mark cut.behind

parts_are : (mark : ℕ) (text : List ℕ) → parts mark text ≡ parted mark text (cut_at mark text)
parts_are mark [] = refl
parts_are mark (byte ∷ text) = by (byte == mark) (cut_at mark text) (parts_are mark text)
  where
    by : (here : Bool) (later : Option Cut) → parts mark text ≡ parted mark text later → cond here ([] ∷ parts mark text) (on_first byte (parts mark text)) ≡ parted mark (byte ∷ text) (cond here (Some (record { before = []; behind = text })) (longer byte later))
    by true later is = refl
    by false None is = ap (on_first byte) is
    by false (Some cut) is = ap (on_first byte) is

pub part_cut : (text : List ℕ) (cut : Cut) → cut_at 32 text ≡ Some cut → parts 32 text ≡ cut.before ∷ parts 32 cut.behind
part_cut text cut is = parts_are 32 text ∙ ap (parted 32 text) is

pub part_whole : (text : List ℕ) → cut_at 32 text ≡ None → parts 32 text ≡ text ∷ []
part_whole text is = parts_are 32 text ∙ ap (parted 32 text) is

-- nothing is left behind the last line
pub none_left : (text : List ℕ) → lines (take (length text - length text) (drop (length text) text)) ≡ []
none_left text =
    let none : length text - length text ≡ 0 = omega arith in
    ap (λ n. lines (take n (drop (length text) text))) none

-- less is left behind a part
pub less_left : (rest next : Option (Bor (List ℕ))) (text : Bor (List ℕ)) → rest ≡ Some text → IfSome next (λ more. length more.now < length text.now) → left next < left rest
less_left rest next text is shorter = rw is (by next shorter)
  where
    by : (next : Option (Bor (List ℕ))) → IfSome next (λ more. length more.now < length text.now) → left next < left (Some text)
    by None shorter = omega arith
    by (Some more) shorter = omega (arith, shorter)
