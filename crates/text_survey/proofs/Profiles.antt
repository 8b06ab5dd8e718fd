-- What is kept of nests: the least places, level by level.
use Rattle.std.proofs.Common.{◌≡◌, ℕ, zero, suc, ◌+◌, ◌-◌, ◌<◌, ◌≤◌, min, List, [], ◌∷◌, ◌++◌, Vec, Global, length, map, take, drop, get_or, reverse, Option, Some, None, inl, inr, refl, sym, ap, subst, ◌∙◌, arith}
use Rattle.std.specs.List.{All, Contains}
use Rattle.std.proofs.Math.Nat.{eq-or-lt_of_le}
use Rattle.text_grammar.specs.Deeper.{IsLeastPlace}
use Rattle.text_survey.specs.Depths.{Nest, Nothing, Both, Within, nest_deeper, lesser, least_of, merged, IsProfile, AreProfiles, Depths, depths, none_read, wrapped, joined, behind_place, forgotten, Keeps}
use Rattle.std.proofs.lemmas.List.{length-append, length-map, length-reverse, reverse-append, reverse-reverse, take-append-le, drop_more}
use Rattle.text_survey.proofs.Stacks.{popped}

min_swap : (a b : ℕ) → min a b ≡ min b a
min_swap a b = omega arith

min_assoc : (a b c : ℕ) → min (min a b) c ≡ min a (min b c)
min_assoc a b c = omega arith

pub merged_swap : (xs ys : List ℕ) → merged xs ys ≡ merged ys xs
merged_swap [] [] = refl
merged_swap [] (y ∷ ys) = refl
merged_swap (x ∷ xs) [] = refl
merged_swap (x ∷ xs) (y ∷ ys) = ap (λ n. n ∷ merged xs ys) (min_swap x y) ∙ ap (λ l. min y x ∷ l) (merged_swap xs ys)

merged_nil : (xs : List ℕ) → merged xs [] ≡ xs
merged_nil [] = refl
merged_nil (x ∷ xs) = refl

one_more : (u : List ℕ) (x : ℕ) (behind : List ℕ) → u ++ x ∷ behind ≡ (u ++ x ∷ []) ++ behind
one_more [] x behind = refl
one_more (y ∷ u) x behind = ap (λ xs. y ∷ xs) (one_more u x behind)

-- before the first level, where the deeper one stands second
pub merge_start : (a b d o t : List ℕ) → d ≡ b → o ≡ a → t ≡ [] → t ++ merged (reverse d) (reverse o) ≡ merged (reverse a) (reverse b)
merge_start a b d o t e f g = rw (e, f, g) (merged_swap (reverse b) (reverse a))

-- a shallower one has no level more
pub no_less : (d o o' : List ℕ) (b : ℕ) → d ≡ [] → o ≡ o' ++ b ∷ [] → length o ≤ length d → ⊥
no_less d o o' b e f h = absurd (omega (arith, ap length e, ap length f, length-append o' (b ∷ []), h))

-- one level more is merged
pub merge_turn : (t d o d' o' result : List ℕ) (a b : ℕ) → d ≡ d' ++ a ∷ [] → o ≡ o' ++ b ∷ [] → t ++ merged (reverse d) (reverse o) ≡ result
    → (t ++ min a b ∷ []) ++ merged (reverse d') (reverse o') ≡ result
merge_turn t d o d' o' result a b e f h =
    sym (one_more t (min a b) (merged (reverse d') (reverse o')))
    ∙ ap (λ l. t ++ l) (sym (ap (λ x. merged x (reverse o)) (ap reverse e ∙ popped d' a) ∙ ap (λ x. merged (a ∷ reverse d') x) (ap reverse f ∙ popped o' b)))
    ∙ h

-- all levels of the shallower one are merged
pub merge_done : (t d o result : List ℕ) → o ≡ [] → t ++ merged (reverse d) (reverse o) ≡ result → t ++ reverse d ≡ result
merge_done t d o result e h = ap (λ l. t ++ l) (sym (ap (λ x. merged (reverse d) (reverse x)) e ∙ merged_nil (reverse d))) ∙ h

-- one level is put back
pub back_turn : (t t' d result : List ℕ) (a : ℕ) → t ≡ t' ++ a ∷ [] → t ++ reverse d ≡ result → t' ++ reverse (d ++ a ∷ []) ≡ result
back_turn t t' d result a e h =
    ap (λ l. t' ++ l) (popped d a) ∙ one_more t' a (reverse d) ∙ ap (λ l. l ++ reverse d) (sym e) ∙ h

-- ---- the least of places

-- the lesser of two that may be there
abbrev pub both : Option ℕ → Option ℕ → Option ℕ
both None o = o
both (Some x) o = lesser x o

lesser_both : (x : ℕ) (o p : Option ℕ) → lesser x (both o p) ≡ both (lesser x o) p
lesser_both x None p = refl
lesser_both x (Some y) None = refl
lesser_both x (Some y) (Some z) = ap (λ n. Some n) (sym (min_assoc x y z))

both_none : (o : Option ℕ) → both o None ≡ o
both_none None = refl
both_none (Some x) = refl

both_swap : (o p : Option ℕ) → both o p ≡ both p o
both_swap None p = sym (both_none p)
both_swap (Some x) None = refl
both_swap (Some x) (Some y) = ap (λ n. Some n) (min_swap x y)

least_append : (xs ys : List ℕ) → least_of (xs ++ ys) ≡ both (least_of xs) (least_of ys)
least_append [] ys = refl
least_append (x ∷ xs) ys = ap (lesser x) (least_append xs ys) ∙ lesser_both x (least_of xs) (least_of ys)

lesser_lesser : (x y : ℕ) (o p : Option ℕ) → lesser (min x y) (both o p) ≡ both (lesser x o) (lesser y p)
lesser_lesser x y None None = refl
lesser_lesser x y None (Some z) = ap (λ n. Some n) (omega arith)
lesser_lesser x y (Some z) None = ap (λ n. Some n) (omega arith)
lesser_lesser x y (Some z) (Some w) = ap (λ n. Some n) (omega arith)

drop_merged : (k : ℕ) (xs ys : List ℕ) → drop k (merged xs ys) ≡ merged (drop k xs) (drop k ys)
drop_merged zero xs ys = refl
drop_merged (suc k) [] [] = refl
drop_merged (suc k) [] (y ∷ ys) = sym (nil_merged (drop k ys))
  where
    nil_merged : (zs : List ℕ) → merged [] zs ≡ zs
    nil_merged zs = refl
drop_merged (suc k) (x ∷ xs) [] = sym (merged_nil (drop k xs))
drop_merged (suc k) (x ∷ xs) (y ∷ ys) = drop_merged k xs ys

least_merged : (xs ys : List ℕ) → least_of (merged xs ys) ≡ both (least_of xs) (least_of ys)
least_merged [] ys = refl
least_merged (x ∷ xs) [] = sym (both_none (least_of (x ∷ xs)))
least_merged (x ∷ xs) (y ∷ ys) = ap (lesser (min x y)) (least_merged xs ys) ∙ lesser_lesser x y (least_of xs) (least_of ys)

-- ---- profiles

pub profile_nothing : IsProfile [] Nothing
profile_nothing zero = refl
profile_nothing (suc k) = refl

pub profile_within : (p : List ℕ) (n : Nest) (at : ℕ) → IsProfile p n → IsProfile (p ++ at ∷ []) (Within at n)
profile_within p n at h zero = ap (λ l. least_of (drop 0 l)) (popped p at) ∙ ap (lesser at) (h 0)
profile_within p n at h (suc k) = ap (λ l. least_of (drop (suc k) l)) (popped p at) ∙ h k ∙ ap (λ i. least_of (nest_deeper i n)) (omega arith)

pub profile_both : (p a b : List ℕ) (m n : Nest) → reverse p ≡ merged (reverse a) (reverse b) → IsProfile a m → IsProfile b n → IsProfile p (Both m n)
profile_both p a b m n e g h k =
    ap (λ l. least_of (drop k l)) e ∙ ap least_of (drop_merged k (reverse a) (reverse b)) ∙ least_merged (drop k (reverse a)) (drop k (reverse b))
    ∙ ap (λ o. both o (least_of (drop k (reverse b)))) (g k) ∙ ap (λ o. both (least_of (nest_deeper k m)) o) (h k) ∙ sym (least_append (nest_deeper k m) (nest_deeper k n))

-- ---- stacks of profiles

abbrev profiles : List (Vec ℕ Global) → List (List ℕ)
profiles vs = map (λ v. v.items) (reverse vs)

pushed : (vs : List (Vec ℕ Global)) (v : Vec ℕ Global) → profiles (vs ++ v ∷ []) ≡ v.items ∷ profiles vs
pushed vs v = ap (map (λ (x : Vec ℕ Global). x.items)) (popped vs v)

some_node : (at : ℕ) (places places' : List ℕ) → places' ≡ places ++ at ∷ [] → (found : List ℕ) → reverse places ≡ found → reverse places' ≡ at ∷ found
some_node at places places' e found h = ap reverse e ∙ popped places at ∙ ap (λ l. at ∷ l) h

pub kept_new : (ps : List ℕ) (vs : List (Vec ℕ Global)) (v : Vec ℕ Global) → ps ≡ [] → vs ≡ v ∷ [] → v.items ≡ [] → Keeps ps vs none_read
kept_new ps vs v e f g = (ap reverse e, rw (f, g) (profile_nothing, tt))

pub kept_node : (ps ps' : List ℕ) (vs vs' : List (Vec ℕ Global)) (v : Vec ℕ Global) (at : ℕ) (s : Depths) → ps' ≡ ps ++ at ∷ [] → vs' ≡ vs ++ v ∷ [] → v.items ≡ [] → Keeps ps vs s
    → Keeps ps' vs' (depths (at ∷ s.places) Nothing (s.top ∷ s.under))
kept_node ps ps' vs vs' v at s e f g h = (
  some_node at ps ps' e s.places h.0,
  subst (λ l. AreProfiles l (Nothing ∷ s.top ∷ s.under)) (sym (ap profiles f ∙ pushed vs v))
      (subst (λ l. IsProfile l Nothing) (sym g) profile_nothing, h.1),
)

pub kept_operator : (ps ps' : List ℕ) (vs : List (Vec ℕ Global)) (at : ℕ) (s : Depths) → ps' ≡ ps ++ at ∷ [] → Keeps ps vs s → Keeps ps' vs (depths (at ∷ s.places) s.top s.under)
kept_operator ps ps' vs at s e h = (some_node at ps ps' e s.places h.0, h.1)

no_profiles : (vs : List (Vec ℕ Global)) (n : Nest) (ns : List Nest) → vs ≡ [] → AreProfiles (profiles vs) (n ∷ ns) → ⊥
no_profiles [] n ns e h = h
no_profiles (v ∷ vs) n ns e h = cc

last_place : (ps ps' : List ℕ) (at : ℕ) (found : List ℕ) → ps ≡ ps' ++ at ∷ [] → reverse ps ≡ found → found ≡ at ∷ reverse ps'
last_place ps ps' at found e h = sym h ∙ ap reverse e ∙ popped ps' at

-- the latest node is closed
pub kept_wrap : (ps ps' : List ℕ) (vs vs1 vs' : List (Vec ℕ Global)) (v v' : Vec ℕ Global) (at : ℕ) (s : Depths) → ps ≡ ps' ++ at ∷ [] → vs ≡ vs1 ++ v ∷ [] → v'.items ≡ v.items ++ at ∷ [] → vs' ≡ vs1 ++ v' ∷ []
    → Keeps ps vs s → Keeps ps' vs' (wrapped s.places s.top s.under)
kept_wrap ps ps' vs vs1 vs' v v' at s e f g i h =
    let old = subst (λ l. AreProfiles l (s.top ∷ s.under)) (ap profiles f ∙ pushed vs1 v) h.1 in
    subst (λ l. Keeps ps' vs' (wrapped l s.top s.under)) (sym (last_place ps ps' at s.places e h.0)) (
      refl,
      subst (λ l. AreProfiles l (Within at s.top ∷ s.under)) (sym (ap profiles i ∙ pushed vs1 v'))
          (subst (λ l. IsProfile l (Within at s.top)) (sym g) (profile_within v.items s.top at old.0), old.1),
    )

pub kept_wrap_none : (ps ps' : List ℕ) (vs : List (Vec ℕ Global)) (s : Depths) → ps ≡ [] → ps' ≡ [] → Keeps ps vs s → Keeps ps' vs (wrapped s.places s.top s.under)
kept_wrap_none ps ps' vs s e f h =
    let none : s.places ≡ [] = sym h.0 ∙ ap reverse e in
    subst (λ l. Keeps ps' vs (wrapped l s.top s.under)) (sym none) (ap reverse f, h.1)

pub kept_none : (ps : List ℕ) (vs : List (Vec ℕ Global)) (s : Depths) → vs ≡ [] → Keeps ps vs s → ⊥
kept_none ps vs s e h = no_profiles vs s.top s.under e h.1

two_by : (ps : List ℕ) (places : List ℕ) (l m o : List ℕ) (rest : List (List ℕ)) (top : Nest) (under : List Nest) → reverse m ≡ merged (reverse o) (reverse l) → AreProfiles (l ∷ o ∷ rest) (top ∷ under)
    → AreProfiles (m ∷ rest) ((joined places top under).top ∷ (joined places top under).under)
two_by ps places l m o rest top [] e h = absurd h.1
two_by ps places l m o rest top (before ∷ under) e h = (profile_both m o l before top e h.1.0 h.0, h.1.1)

joined_places : (places : List ℕ) (top : Nest) (under : List Nest) → (joined places top under).places ≡ places
joined_places places top [] = refl
joined_places places top (before ∷ under) = refl

-- the last two are put together
pub kept_join : (ps : List ℕ) (vs vs1 vs2 vs' : List (Vec ℕ Global)) (l o m : Vec ℕ Global) (s : Depths) → vs ≡ vs1 ++ l ∷ [] → vs1 ≡ vs2 ++ o ∷ [] → reverse m.items ≡ merged (reverse o.items) (reverse l.items) → vs' ≡ vs2 ++ m ∷ []
    → Keeps ps vs s → Keeps ps vs' (joined s.places s.top s.under)
kept_join ps vs vs1 vs2 vs' l o m s e f g i h =
    let old = subst (λ x. AreProfiles x (s.top ∷ s.under)) (ap profiles e ∙ pushed vs1 l ∙ ap (λ x. l.items ∷ x) (ap profiles f ∙ pushed vs2 o)) h.1 in (
      h.0 ∙ sym (joined_places s.places s.top s.under),
      subst (λ x. AreProfiles x ((joined s.places s.top s.under).top ∷ (joined s.places s.top s.under).under)) (sym (ap profiles i ∙ pushed vs2 m))
          (two_by ps s.places l.items m.items o.items (profiles vs2) s.top s.under g old),
    )

one_by : (places : List ℕ) (l : List ℕ) (top : Nest) (under : List Nest) → AreProfiles (l ∷ []) (top ∷ under) → joined places top under ≡ depths places top under
one_by places l top [] h = refl
one_by places l top (before ∷ under) h = absurd h.1

pub kept_join_none : (ps : List ℕ) (vs vs1 vs2 vs' : List (Vec ℕ Global)) (l : Vec ℕ Global) (s : Depths) → vs ≡ vs1 ++ l ∷ [] → vs1 ≡ [] → vs2 ≡ [] → vs' ≡ vs2 ++ l ∷ []
    → Keeps ps vs s → Keeps ps vs' (joined s.places s.top s.under)
kept_join_none ps vs vs1 vs2 vs' l s e f g i h =
    let old = subst (λ x. AreProfiles x (s.top ∷ s.under)) (ap profiles e ∙ pushed vs1 l ∙ ap (λ x. l.items ∷ x) (ap profiles f)) h.1 in
    subst (λ x. Keeps ps vs' x) (sym (one_by s.places l.items s.top s.under old))
    (h.0, subst (λ x. AreProfiles x (s.top ∷ s.under)) (sym (ap profiles i ∙ pushed vs2 l ∙ ap (λ x. l.items ∷ x) (ap profiles g))) old)

-- what was read last isn't kept
forget_by : (places : List ℕ) (v : List ℕ) (rest : List (List ℕ)) (top : Nest) (under : List Nest) → AreProfiles (v ∷ rest) (top ∷ under) → 1 ≤ length rest
    → AreProfiles rest ((forgotten places top under).top ∷ (forgotten places top under).under)
forget_by places v [] top under h l = absurd (omega (arith, l))
forget_by places v (r ∷ rest) top [] h l = absurd h.1
forget_by places v (r ∷ rest) top (before ∷ under) h l = h.1

forgotten_places : (places : List ℕ) (top : Nest) (under : List Nest) → (forgotten places top under).places ≡ places
forgotten_places places top [] = refl
forgotten_places places top (before ∷ under) = refl

-- the place of a node is taken away, where there is one
abbrev pub Behind : List ℕ → List ℕ → Type 0
Behind ps ps' = reverse ps' ≡ behind_place (reverse ps)

pub behind_some : (ps ps' : List ℕ) (at : ℕ) → ps ≡ ps' ++ at ∷ [] → Behind ps ps'
behind_some ps ps' at e = sym (ap behind_place (ap reverse e ∙ popped ps' at))

pub behind_none : (ps ps' : List ℕ) → ps ≡ [] → ps' ≡ [] → Behind ps ps'
behind_none ps ps' e f = ap reverse f ∙ sym (ap (λ x. behind_place (reverse x)) e)

count_profiles : (vs : List (Vec ℕ Global)) → length (profiles vs) ≡ length vs
count_profiles vs = length-map (reverse vs) (λ (v : Vec ℕ Global). v.items) ∙ length-reverse vs

pub kept_forget : (ps ps' : List ℕ) (vs vs' : List (Vec ℕ Global)) (v : Vec ℕ Global) (s : Depths) → Behind ps ps' → vs ≡ vs' ++ v ∷ [] → 1 < length vs → Keeps ps vs s → Keeps ps' vs' (forgotten (behind_place s.places) s.top s.under)
kept_forget ps ps' vs vs' v s b e l h =
    let old = subst (λ x. AreProfiles x (s.top ∷ s.under)) (ap profiles e ∙ pushed vs' v) h.1 in (
      b ∙ ap behind_place h.0 ∙ sym (forgotten_places (behind_place s.places) s.top s.under),
      forget_by (behind_place s.places) v.items (profiles vs') s.top s.under old (omega (arith, count_profiles vs', ap length e, length-append vs' (v ∷ []), l)),
    )

one_forgot : (places : List ℕ) (top : Nest) (under : List Nest) (ps : List (List ℕ)) → AreProfiles ps (top ∷ under) → length ps ≤ 1 → forgotten places top under ≡ depths places top under
one_forgot places top [] ps h l = refl
one_forgot places top (before ∷ under) [] h l = absurd h
one_forgot places top (before ∷ under) (p ∷ []) h l = absurd h.1
one_forgot places top (before ∷ under) (p ∷ q ∷ ps) h l = absurd (omega (arith, l))

pub kept_forget_none : (ps ps' : List ℕ) (vs : List (Vec ℕ Global)) (s : Depths) → Behind ps ps' → length vs ≤ 1 → Keeps ps vs s → Keeps ps' vs (forgotten (behind_place s.places) s.top s.under)
kept_forget_none ps ps' vs s b l h =
    subst (λ x. Keeps ps' vs x) (sym (one_forgot (behind_place s.places) s.top s.under (profiles vs) h.1 (omega (arith, count_profiles vs, l))))
    (b ∙ ap behind_place h.0, h.1)

-- what the last profile says
pub kept_least : (ps : List ℕ) (vs front : List (Vec ℕ Global)) (v : Vec ℕ Global) (s : Depths) (k : ℕ) → vs ≡ front ++ v ∷ [] → Keeps ps vs s → least_of (drop k (reverse v.items)) ≡ least_of (nest_deeper k s.top)
kept_least ps vs front v s k e h =
    let old = subst (λ x. AreProfiles x (s.top ∷ s.under)) (ap profiles e ∙ pushed front v) h.1 in
    old.0 k

-- one place more was seen
pub least_seen : (seen : Option ℕ) (x : ℕ) (xs : List ℕ) (o : Option ℕ) → both seen (least_of (x ∷ xs)) ≡ o → both (lesser x seen) (least_of xs) ≡ o
least_seen None x xs o h = h
least_seen (Some y) x xs o h = ap (λ z. both z (least_of xs)) (ap (λ n. Some n) (min_swap x y)) ∙ sym (lesser_both y (Some x) (least_of xs)) ∙ h

pub none_left : (o : Option ℕ) → both o (least_of []) ≡ o
none_left o = both_none o

-- the next place is seen
pub least_turn : (seen o : Option ℕ) (xs : List ℕ) (i d : ℕ) → i < length xs → both seen (least_of (drop i xs)) ≡ o → both (lesser (get_or xs i d) seen) (least_of (drop (i + 1) xs)) ≡ o
least_turn seen o xs i d l h =
    least_seen seen (get_or xs i d) (drop (i + 1) xs) o (ap (λ ys. both seen (least_of ys)) (sym (drop_more xs i d l)) ∙ h)

-- the levels below the last ones, from either end
least_reverse : (xs : List ℕ) → least_of (reverse xs) ≡ least_of xs
least_reverse [] = refl
least_reverse (x ∷ xs) =
    ap least_of (reverse-append (x ∷ []) xs) ∙ least_append (reverse xs) (x ∷ []) ∙ both_swap (least_of (reverse xs)) (Some x) ∙ ap (lesser x) (least_reverse xs)

take_reverse : (k : ℕ) (ys : List ℕ) → take (length ys - k) (reverse ys) ≡ reverse (drop k ys)
take_reverse zero ys = ap (λ n. take n (reverse ys)) (omega (arith, length-reverse ys)) ∙ take_whole (reverse ys)
  where
    take_whole : (zs : List ℕ) → take (length zs) zs ≡ zs
    take_whole [] = refl
    take_whole (z ∷ zs) = ap (λ l. z ∷ l) (take_whole zs)
take_reverse (suc k) [] = take_none (length {A = ℕ} [] - suc k)
  where
    take_none : (n : ℕ) → take {A = ℕ} n [] ≡ []
    take_none zero = refl
    take_none (suc n) = refl
take_reverse (suc k) (y ∷ ys) =
    ap (λ l. take (suc (length ys) - suc k) l) (reverse-append (y ∷ []) ys)
    ∙ take-append-le (suc (length ys) - suc k) (reverse ys) (y ∷ []) (omega (arith, length-reverse ys))
    ∙ ap (λ n. take n (reverse ys)) (omega arith) ∙ take_reverse k ys

pub least_levels : (xs : List ℕ) (n k : ℕ) → n ≡ length xs - k → least_of (take n xs) ≡ least_of (drop k (reverse xs))
least_levels xs n k e =
    ap (λ m. least_of (take m xs)) (e ∙ ap (λ l. l - k) (sym (length-reverse xs)))
    ∙ ap (λ l. least_of (take (length (reverse xs) - k) l)) (sym (reverse-reverse xs))
    ∙ ap least_of (take_reverse k (reverse xs)) ∙ least_reverse (drop k (reverse xs))

some_number : (x y : ℕ) → Some x ≡ Some y → x ≡ y
some_number x y e = cc

there_first : (x : ℕ) (xs : List ℕ) (at : ℕ) → x ≡ at → Contains (x ∷ xs) at
there_first x xs at e = (0, omega arith, e)

there_later : (x : ℕ) (xs : List ℕ) (at : ℕ) → Contains xs at → Contains (x ∷ xs) at
there_later x xs at w = (suc w.0, omega (arith, w.1), w.2)

all_least : (x : ℕ) (xs : List ℕ) (at : ℕ) → at ≤ x → All (λ other. at ≤ other) xs → All (λ other. at ≤ other) (x ∷ xs)
all_least x xs at h a zero d l = h
all_least x xs at h a (suc k) d l = a k d (omega (arith, l))

none_less : (at : ℕ) → All (λ other. at ≤ other) []
none_less at k d l = absurd (omega (arith, l))

less_all : (xs : List ℕ) (at y : ℕ) → at ≤ y → All (λ other. y ≤ other) xs → All (λ other. at ≤ other) xs
less_all xs at y h a k d l = omega (arith, h, a k d l)

-- a place that is found is the least, and there is none where none is found
lesser_most : (x : ℕ) (o : Option ℕ) (at : ℕ) → lesser x o ≡ Some at → at ≤ x
lesser_most x None at e = omega (arith, some_number x at e)
lesser_most x (Some y) at e = omega (arith, some_number (min x y) at e)

pub none_found : (xs : List ℕ) → least_of xs ≡ None → xs ≡ []
none_found [] e = refl
none_found (x ∷ xs) e = absurd (none_by (least_of xs) e)
  where
    none_by : (o : Option ℕ) → lesser x o ≡ None → ⊥
    none_by None h = cc
    none_by (Some y) h = cc

found_by : (x : ℕ) (xs : List ℕ) (at : ℕ) → ((y : ℕ) → least_of xs ≡ Some y → IsLeastPlace xs y) → (o : Option ℕ) → least_of xs ≡ o → lesser x o ≡ Some at → IsLeastPlace (x ∷ xs) at
found_by x xs at ih None e f =
    let same : x ≡ at = some_number x at f in
    let empty : xs ≡ [] = none_found xs e in
    record { there = there_first x xs at same; least = all_least x xs at (omega (arith, same)) (subst (λ l. All (λ other. at ≤ other) l) (sym empty) (none_less at)) }
found_by x xs at ih (Some y) e f =
    let same : min x y ≡ at = some_number (min x y) at f in
    let w = ih y e in
    record {
      there = elim (eq-or-lt_of_le (lesser_most x (Some y) at f)) [ inl z ↦ there_first x xs at (sym z) | inr z ↦ there_later x xs at (subst (λ n. Contains xs n) (omega (arith, same, z)) w.there) ];
      least = all_least x xs at (lesser_most x (Some y) at f) (less_all xs at y (omega (arith, same)) w.least);
    }

pub found : (xs : List ℕ) (at : ℕ) → least_of xs ≡ Some at → IsLeastPlace xs at
found [] at e = cc
found (x ∷ xs) at e = found_by x xs at (λ y g. found xs y g) (least_of xs) refl e
