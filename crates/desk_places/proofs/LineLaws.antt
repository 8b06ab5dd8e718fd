-- Lines and columns by where lines begin.
use Rattle.std.proofs.Common.{◌≡◌, ℕ, zero, suc, ◌+◌, ◌-◌, ◌<◌, ◌≤◌, List, [], ◌∷◌, ◌++◌, length, take, drop, get_or, length-drop, min, Bool, true, false, not, cond, refl, ap, sym, subst, ◌∙◌, arith, add-one, eq-or-lt_of_le, ⊎_elim}
use Rattle.std.specs.List.{count_by, suffix_len, prefix_len}
use Rattle.std.proofs.Math.Seq.{take-suc}
use Rattle.std.proofs.lemmas.List.{reverse-append, drop_more}
use Rattle.std.proofs.lemmas.List.Sums.{count_by_more_yes, count_by_more_no}
use Rattle.std.proofs.lemmas.Grind.{common_steps}
use Rattle.desk_places.specs.Lines.{behind_feeds, is_line_feed, line_starts}
use Rattle.desk_places.specs.Places.{line_of, column_of}

-- what passes from the end back, with one element more at the end
suffix_len-push : {X : Type 0} (p : X → Bool) (xs : List X) (x : X) → suffix_len p (xs ++ x ∷ []) ≡ cond (p x) (1 + suffix_len p xs) 0
suffix_len-push p xs x = ap (prefix_len p) (reverse-append xs (x ∷ []))

one_byte : (text : List ℕ) (at : ℕ) → at < length text → take (at + 1) text ≡ take at text ++ get_or text at 0 ∷ []
one_byte text at below = rw add-one (take-suc text at 0 below)

-- one byte further, at a line feed and at another byte
line_fed : (text : List ℕ) (at : ℕ) → at < length text → is_line_feed (get_or text at 0) ≡ true → line_of text (at + 1) ≡ line_of text at + 1
line_fed text at below is = ap (λ n. 1 + n) (count_by_more_yes is_line_feed text at 0 below is) ∙ omega arith

line_kept : (text : List ℕ) (at : ℕ) → at < length text → is_line_feed (get_or text at 0) ≡ false → line_of text (at + 1) ≡ line_of text at
line_kept text at below is = ap (λ n. 1 + n) (count_by_more_no is_line_feed text at 0 below is)

column_next : (text : List ℕ) (at : ℕ) → at < length text → (feed : Bool) → is_line_feed (get_or text at 0) ≡ feed → column_of text (at + 1) ≡ cond feed 1 (column_of text at + 1)
column_next text at below feed is =
    ap (λ l. 1 + suffix_len (λ b. not (is_line_feed b)) l) (one_byte text at below)
    ∙ ap (λ n. 1 + n) (suffix_len-push (λ b. not (is_line_feed b)) (take at text) (get_or text at 0))
    ∙ ap (λ f. 1 + cond (not f) (1 + suffix_len (λ b. not (is_line_feed b)) (take at text)) 0) is
    ∙ by_test feed (suffix_len (λ b. not (is_line_feed b)) (take at text))
  where
    by_test : (b : Bool) (n : ℕ) → 1 + cond (not b) (1 + n) 0 ≡ cond b 1 (1 + n + 1)
    by_test true n = refl
    by_test false n = omega arith

-- starts that all stand behind a place
abbrev AreBehind : ℕ → List ℕ → Type 0
AreBehind at starts = (k : ℕ) → k < length starts → at < get_or starts k 0

behind_one : (at : ℕ) (starts : List ℕ) → AreBehind (at + 1) starts → AreBehind at ((at + 1) ∷ starts)
behind_one at starts are zero inside = omega arith
behind_one at starts are (suc k) inside =
    let further : at + 1 < get_or starts k 0 = are k (omega arith) in
    omega arith

behind_less : (at : ℕ) (starts : List ℕ) → AreBehind (at + 1) starts → AreBehind at starts
behind_less at starts are k inside =
    let further : at + 1 < get_or starts k 0 = are k inside in
    omega arith

are_behind : (at : ℕ) (text : List ℕ) → AreBehind at (behind_feeds at text)
are_behind at [] = λ k inside. absurd (omega arith)
are_behind at (byte ∷ text) = by (is_line_feed byte) (are_behind (at + 1) text)
  where
    by : (feed : Bool) → AreBehind (at + 1) (behind_feeds (at + 1) text) → AreBehind at (cond feed ((at + 1) ∷ behind_feeds (at + 1) text) (behind_feeds (at + 1) text))
    by true are = behind_one at (behind_feeds (at + 1) text) are
    by false are = behind_less at (behind_feeds (at + 1) text) are

-- the lines and columns of the places from one on, whose line begins at `begin`, with the lines behind it at `starts`
abbrev Tells : List ℕ → ℕ → ℕ → List ℕ → Type 0
Tells text from begin starts =
    (k at : ℕ) → from ≤ at → at ≤ length text → k < length (begin ∷ starts) → get_or (begin ∷ starts) k 0 ≤ at
    → (suc k < length (begin ∷ starts) → at < get_or (begin ∷ starts) (suc k) 0)
    → (line_of text at ≡ line_of text from + k) × (column_of text at + get_or (begin ∷ starts) k 0 ≡ at + 1)

-- at the place itself
at_once : (text : List ℕ) (from begin : ℕ) (starts : List ℕ) → column_of text from + begin ≡ from + 1 → AreBehind from starts → (k at : ℕ) → from ≡ at → k < length (begin ∷ starts) → get_or (begin ∷ starts) k 0 ≤ at → (line_of text at ≡ line_of text from + k) × (column_of text at + get_or (begin ∷ starts) k 0 ≡ at + 1)
at_once text from begin starts column are zero at same inside begun =
    subst (λ (n : ℕ). (line_of text n ≡ line_of text from + 0) × (column_of text n + begin ≡ n + 1)) same (omega arith, column)
at_once text from begin starts column are (suc k) at same inside begun =
    let further : from < get_or starts k 0 = are k (omega arith) in
    absurd (omega arith)

-- over a byte that is no line feed
over_byte : (text : List ℕ) (from begin : ℕ) (starts : List ℕ) → column_of text from + begin ≡ from + 1 → AreBehind from starts → line_of text (from + 1) ≡ line_of text from → Tells text (from + 1) begin starts → Tells text from begin starts
over_byte text from begin starts column are line tells k at least most inside begun last =
    ⊎_elim
    (λ same. at_once text from begin starts column are k at same inside begun)
    (λ less. subst (λ (n : ℕ). (line_of text at ≡ n + k) × (column_of text at + get_or (begin ∷ starts) k 0 ≡ at + 1)) line (tells k at (omega arith) most inside begun last))
    (eq-or-lt_of_le least)

-- over a line feed
over_feed : (text : List ℕ) (from begin : ℕ) (starts : List ℕ) → column_of text from + begin ≡ from + 1 → AreBehind (from + 1) starts → line_of text (from + 1) ≡ line_of text from + 1 → Tells text (from + 1) (from + 1) starts → Tells text from begin ((from + 1) ∷ starts)
over_feed text from begin starts column are line tells zero at least most inside begun last =
    let before : at < from + 1 = last (omega arith) in
    at_once text from begin ((from + 1) ∷ starts) column (behind_one from starts are) zero at (omega arith) inside begun
over_feed text from begin starts column are line tells (suc k) at least most inside begun last =
    ⊎_elim
    (λ same. at_once text from begin ((from + 1) ∷ starts) column (behind_one from starts are) (suc k) at same inside begun)
    (λ less.
    let told : (line_of text at ≡ line_of text (from + 1) + k) × (column_of text at + get_or ((from + 1) ∷ starts) k 0 ≡ at + 1) = tells k at (omega arith) most (omega arith) begun (λ more. last (omega arith)) in
    (told.0 ∙ omega (arith, line), told.1))
    (eq-or-lt_of_le least)

tells : (text : List ℕ) (rest : List ℕ) (from begin : ℕ) → drop from text ≡ rest → column_of text from + begin ≡ from + 1 → Tells text from begin (behind_feeds from rest)
tells text [] from begin left column = λ k at least most inside begun last.
    let none : length text - from ≡ 0 = sym (length-drop from text) ∙ ap length left in
    at_once text from begin [] column (are_behind from []) k at (omega arith) inside begun
tells text (byte ∷ rest) from begin left column =
    let some : length text - from ≡ suc (length rest) = sym (length-drop from text) ∙ ap length left in
    let below : from < length text = omega arith in
    let more : drop from text ≡ get_or text from 0 ∷ drop (from + 1) text = drop_more text from 0 below in
    let first : byte ≡ get_or text from 0 = cc in
    let others : drop (from + 1) text ≡ rest = cc in
    by below (is_line_feed byte) (ap is_line_feed (sym first)) (are_behind (from + 1) rest) (tells text rest (from + 1) begin others) (tells text rest (from + 1) (from + 1) others)
  where
    by : from < length text → (feed : Bool) → is_line_feed (get_or text from 0) ≡ feed → AreBehind (from + 1) (behind_feeds (from + 1) rest) → (column_of text (from + 1) + begin ≡ from + 1 + 1 → Tells text (from + 1) begin (behind_feeds (from + 1) rest)) → (column_of text (from + 1) + (from + 1) ≡ from + 1 + 1 → Tells text (from + 1) (from + 1) (behind_feeds (from + 1) rest)) → Tells text from begin (cond feed ((from + 1) ∷ behind_feeds (from + 1) rest) (behind_feeds (from + 1) rest))
    by below true is are same other =
        let first : column_of text (from + 1) ≡ 1 = column_next text from below true is in
        over_feed text from begin (behind_feeds (from + 1) rest) column are (line_fed text from below is) (other (omega arith))
    by below false is are same other =
        let further : column_of text (from + 1) ≡ column_of text from + 1 = column_next text from below false is in
        over_byte text from begin (behind_feeds (from + 1) rest) column (behind_less from (behind_feeds (from + 1) rest) are) (line_kept text from below is) (same (omega arith))

-- a place in the line that begins last before it
located : (text : List ℕ) (k at : ℕ) → at ≤ length text → k < length (line_starts text) → get_or (line_starts text) k 0 ≤ at → (k + 1 < length (line_starts text) → at < get_or (line_starts text) (k + 1) 0) → (line_of text at ≡ 1 + k) × (column_of text at + get_or (line_starts text) k 0 ≡ at + 1)
located text k at most inside begun last =
    let next : k + 1 ≡ suc k = omega arith in
    tells text text 0 0 refl refl k at (omega arith) most inside begun (λ more. subst (λ (n : ℕ). at < get_or (line_starts text) n 0) next (last (omega arith)))

-- behind its end a text has the place of its end
line_clamped : (text : List ℕ) (at : ℕ) → line_of text (min at (length text)) ≡ line_of text at
line_clamped text at =
    let same : take (min at (length text)) text ≡ take at text = grind (arith, common_steps) in
    ap (λ l. 1 + count_by is_line_feed l) same

column_clamped : (text : List ℕ) (at : ℕ) → column_of text (min at (length text)) ≡ column_of text at
column_clamped text at =
    let same : take (min at (length text)) text ≡ take at text = grind (arith, common_steps) in
    ap (λ l. 1 + suffix_len (λ b. not (is_line_feed b)) l) same

-- the line and column of a place, by the line that begins last before it
pub placed : (text starts : List ℕ) (at clamped k : ℕ) → starts ≡ line_starts text → clamped ≡ min at (length text) → k < length starts → get_or starts k 0 ≤ clamped → (k + 1 < length starts → clamped < get_or starts (k + 1) 0) → (line_of text at ≡ k + 1) × (column_of text at + get_or starts k 0 ≡ clamped + 1)
placed text starts at clamped k are is inside begun last =
    subst (λ (xs : List ℕ). k < length xs → get_or xs k 0 ≤ clamped → (k + 1 < length xs → clamped < get_or xs (k + 1) 0) → (line_of text at ≡ k + 1) × (column_of text at + get_or xs k 0 ≡ clamped + 1)) (sym are)
    (λ inside begun last.
    let told : (line_of text clamped ≡ 1 + k) × (column_of text clamped + get_or (line_starts text) k 0 ≡ clamped + 1) = located text k clamped (omega (arith, is)) inside begun last in
    let line : line_of text clamped ≡ line_of text at = ap (line_of text) is ∙ line_clamped text at in
    let column : column_of text clamped ≡ column_of text at = ap (column_of text) is ∙ column_clamped text at in
    (sym line ∙ omega (arith, told.0), ap (λ n. n + get_or (line_starts text) k 0) (sym column) ∙ told.1))
    inside begun last
