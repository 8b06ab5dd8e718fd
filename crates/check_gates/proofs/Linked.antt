-- Links between signals, and their rows.
use Rattle.std.proofs.Common.{◌≡◌, ◌∙◌, ℕ, zero, suc, ◌+◌, ◌<◌, ◌≤◌, ◌==◌, ◌&&◌, Bool, true, false, cond, List, [], ◌∷◌, ◌++◌, length, map, get_or, set, take, Option, None, Some, refl, sym, ap, subst, inl, inr, arith, append-nil}
use Rattle.std.specs.Prelude.{◌⊎◌, ◌≢◌, Vec}
use Rattle.std.specs.List.{cons_option, filter_map, slice_get}
use Rattle.std.specs.Option.{IsSomeAnd, option_to_list}
use Rattle.text_ground.specs.declared.text.Spot.{Spot}
use Rattle.std.specs.declared.alloc.Global.{Global}
use Rattle.std.proofs.lemmas.Bool.{and_parts, and_from, cases_Bool, cases_eq, eq-eqb, eqb-true, false≢true, ne_eqb, not-true, not_from_false, both_ways}
use Rattle.std.proofs.lemmas.Option.{none-some, same_Some}
use Rattle.std.proofs.lemmas.List.{length-append, length-set, take_all, take_more}
use Rattle.std.proofs.lemmas.List.Elements.{filter_map-append}
use Rattle.rtl_flat.specs.declared.signal.Signal.{Signal}
use Rattle.rtl_flat.specs.Expression.{Tree, Sized, Whole}
use Rattle.rtl_flat.specs.Process.{Selection, Piece, Doing, Assign, Comb, Edge', Task}
use Rattle.rtl_flat.specs.Process as part
use Rattle.rtl_flat.specs.Signs.{Has, width_in}
use Rattle.rtl_flat.specs.Flats.{Flat, widths}
use Rattle.check_chains.specs.rtl_scan.Arrows.{Among}
use Rattle.check_chains.specs.rtl_scan.Graph.{row}
use Rattle.check_chains.specs.Inner.{whole_of}
use Rattle.check_gates.specs.declared.reach.Link.{Link}
use Rattle.check_gates.specs.Reach.{HasLink, Here, Onward, Reaches}
use Rattle.net_model.specs.Gates.{GoesTo, IsPlainConnection, Itself, Through}
use Rattle.check_gates.specs.Links.{AreRows, IsPut, bit_named, is_elsewhere, is_link, link_if, linked, plain_in, plain_of, whole_piece, whole_target}
use Rattle.check_gates.proofs.Reached.{among_cases, among_left, among_right}

-- ---- what a loop keeps

kept_one : {X Y : Type 0} (f : X → Option Y) (x : X) → filter_map f (x ∷ []) ≡ option_to_list (f x)
kept_one {X} {Y} f x = by_case (f x) refl
  where
    by_case : (o : Option Y) → f x ≡ o → filter_map f (x ∷ []) ≡ option_to_list o
    by_case None is = rw is refl
    by_case (Some y) is = rw is refl

pub kept_next : {X Y : Type 0} (f : X → Option Y) (xs : List X) (i : ℕ) (x : X) → i < length xs → x ≡ get_or xs i x → filter_map f (take (i + 1) xs) ≡ filter_map f (take i xs) ++ option_to_list (f x)
kept_next f xs i x inside is =
    ap (filter_map f) (take_more xs i x inside ∙ ap (λ y. take i xs ++ y ∷ []) (sym is))
    ∙ filter_map-append f (take i xs) (x ∷ []) ∙ ap (λ l. filter_map f (take i xs) ++ l) (kept_one f x)

pub kept_all : {X Z Y : Type 0} (f : Z → Option Y) (g : X → Z) (xs : List X) (i : ℕ) → length xs ≤ i → filter_map (λ x. f (g x)) (take i xs) ≡ filter_map f (map g xs)
kept_all {X} f g xs i past = ap (filter_map (λ x. f (g x))) (take_all i xs past) ∙ same xs
  where
    same : (ys : List X) → filter_map (λ x. f (g x)) ys ≡ filter_map f (map g ys)
    same [] = refl
    same (y ∷ ys) = rw (same ys) refl

-- ---- rows

pub no_rows : (rows : List (Vec ℕ Global)) → rows ≡ [] → AreRows 0 [] rows
no_rows rows none =
    record {
      size = ap length none;
      each = λ i j. (λ h. absurd (subst (λ l. Among (row l i) j) none h), λ h. absurd h.1);
    }

no_row_push : (rows : List (Vec ℕ Global)) (v : Vec ℕ Global) → v.items ≡ [] → (i j : ℕ) → Among (row (rows ++ v ∷ []) i) j → Among (row rows i) j
no_row_push [] v none zero j h = absurd (subst (λ l. Among l j) none h)
no_row_push [] v none (suc i) j h = absurd h
no_row_push (x ∷ rows) v none zero j h = h
no_row_push (x ∷ rows) v none (suc i) j h = no_row_push rows v none i j h

pub one_row : (n : ℕ) (old new : List (Vec ℕ Global)) (v : Vec ℕ Global) → AreRows n [] old → v.items ≡ [] → new ≡ old ++ v ∷ [] → AreRows (n + 1) [] new
one_row n old new v are none is =
    record {
      size =
          let same = ap length is in
          let more = length-append old (v ∷ []) in
          omega (arith, same, more, are.size);
      each = λ i j. (λ h. absurd (((are.each i j).0 (no_row_push old v none i j (subst (λ l. Among (row l i) j) is h))).1), λ h. absurd h.1);
    }

row_here : (rows : List (Vec ℕ Global)) (place : ℕ) (v : Vec ℕ Global) → place < length rows → row (set rows place v) place ≡ v.items
row_here [] place v inside = absurd (omega (arith, inside))
row_here (x ∷ rows) zero v inside = refl
row_here (x ∷ rows) (suc place) v inside = row_here rows place v (omega (arith, inside))

row_there : (rows : List (Vec ℕ Global)) (place i : ℕ) (v : Vec ℕ Global) → (i ≡ place → ⊥) → row (set rows place v) i ≡ row rows i
row_there [] place i v other = refl
row_there (x ∷ rows) zero zero v other = absurd (other refl)
row_there (x ∷ rows) zero (suc i) v other = refl
row_there (x ∷ rows) (suc place) zero v other = refl
row_there (x ∷ rows) (suc place) (suc i) v other =
    row_there rows place i v (λ same. other (ap suc same))

pub put_into : (rows : List (Vec ℕ Global)) (place value : ℕ) (v : Vec ℕ Global) → place < length rows → v.items ≡ row rows place ++ value ∷ [] → IsPut place value rows (set rows place v)
put_into rows place value v inside is =
    record { size = length-set rows place v; each = λ i j. (to i j, from i j) }
  where
    last : (j : ℕ) → Among (value ∷ []) j → j ≡ value
    last j (inl same) = same
    last j (inr none) = absurd none

    to : (i j : ℕ) → Among (row (set rows place v) i) j → Among (row rows i) j ⊎ ((i ≡ place) × (j ≡ value))
    to i j h = elim (cases_eq i place) [
      | inl same ↦ elim (among_cases (row rows place) (value ∷ []) j (subst (λ l. Among l j) (ap (row (set rows place v)) same ∙ row_here rows place v inside ∙ is) h)) [
        | inl before ↦ inl (subst (λ n. Among (row rows n) j) (sym same) before)
        | inr now ↦ inr (same, last j now)
      ]
      | inr other ↦ inl (subst (λ l. Among l j) (row_there rows place i v other) h)
    ]

    from : (i j : ℕ) → Among (row rows i) j ⊎ ((i ≡ place) × (j ≡ value)) → Among (row (set rows place v) i) j
    from i j (inl before) = elim (cases_eq i place) [
      | inl same ↦ subst (λ l. Among l j) (sym (ap (row (set rows place v)) same ∙ row_here rows place v inside ∙ is))
          (among_left (row rows place) (value ∷ []) j (subst (λ n. Among (row rows n) j) same before))
      | inr other ↦ subst (λ l. Among l j) (sym (row_there rows place i v other)) before
    ]
    from i j (inr now) =
        subst (λ l. Among l j) (sym (ap (row (set rows place v)) now.0 ∙ row_here rows place v inside ∙ is))
        (among_right (row rows place) (value ∷ []) j (inl now.1))

-- ---- links of rows

pub links_left : (xs ys : List Link) (i j : ℕ) → HasLink xs i j → HasLink (xs ++ ys) i j
links_left [] ys i j h = absurd h
links_left (x ∷ xs) ys i j (inl here) = inl here
links_left (x ∷ xs) ys i j (inr later) = inr (links_left xs ys i j later)

pub links_right : (xs ys : List Link) (i j : ℕ) → HasLink ys i j → HasLink (xs ++ ys) i j
links_right [] ys i j h = h
links_right (x ∷ xs) ys i j h = inr (links_right xs ys i j h)

pub links_cases : (xs ys : List Link) (i j : ℕ) → HasLink (xs ++ ys) i j → HasLink xs i j ⊎ HasLink ys i j
links_cases [] ys i j h = inr h
links_cases (x ∷ xs) ys i j (inl here) = inl (inl here)
links_cases (x ∷ xs) ys i j (inr later) = elim (links_cases xs ys i j later) [
  | inl here ↦ inl (inr here)
  | inr there ↦ inr there
]

-- one link more, which is in range
pub link_in : (count : ℕ) (links : List Link) (link : Link) (old new : List (Vec ℕ Global)) → link.source < count → AreRows count links old → IsPut link.source link.target old new → AreRows count (links ++ link ∷ []) new
link_in count links link old new inside are put =
    record { size = put.size ∙ are.size; each = λ i j. (λ h. to i j ((put.each i j).0 h), λ h. (put.each i j).1 (from i j h)) }
  where
    to : (i j : ℕ) → Among (row old i) j ⊎ ((i ≡ link.source) × (j ≡ link.target)) → (i < count) × HasLink (links ++ link ∷ []) i j
    to i j (inl before) =
        let h = (are.each i j).0 before in (h.0, links_left links (link ∷ []) i j h.1)
    to i j (inr now) = (omega (arith, now.0, inside), links_right links (link ∷ []) i j (inl now))

    last : (i j : ℕ) → HasLink (link ∷ []) i j → (i ≡ link.source) × (j ≡ link.target)
    last i j (inl now) = now
    last i j (inr none) = absurd none

    from : (i j : ℕ) → (i < count) × HasLink (links ++ link ∷ []) i j → Among (row old i) j ⊎ ((i ≡ link.source) × (j ≡ link.target))
    from i j h = elim (links_cases links (link ∷ []) i j h.1) [
      | inl before ↦ inl ((are.each i j).1 (h.0, before))
      | inr now ↦ inr (last i j now)
    ]

-- one that isn't
pub link_past : (count : ℕ) (links : List Link) (link : Link) (rows : List (Vec ℕ Global)) → count ≤ link.source → AreRows count links rows → AreRows count (links ++ link ∷ []) rows
link_past count links link rows past are =
    record { size = are.size; each = λ i j. (λ h. to i j ((are.each i j).0 h), λ h. (are.each i j).1 (h.0, from i j h.0 (links_cases links (link ∷ []) i j h.1))) }
  where
    to : (i j : ℕ) → (i < count) × HasLink links i j → (i < count) × HasLink (links ++ link ∷ []) i j
    to i j h = (h.0, links_left links (link ∷ []) i j h.1)

    none : (i j : ℕ) → i < count → HasLink (link ∷ []) i j → HasLink links i j
    none i j below (inl now) = absurd (omega (arith, below, now.0, past))
    none i j below (inr none') = absurd none'

    from : (i j : ℕ) → i < count → HasLink links i j ⊎ HasLink (link ∷ []) i j → HasLink links i j
    from i j below (inl before) = before
    from i j below (inr now) = none i j below now

-- ---- plain connections

whole_is : (width : ℕ) (signed : Bool) (spot : Spot) (e : Tree) (i : ℕ) → whole_of (Sized width signed spot e) ≡ Some i → e ≡ Whole i
whole_is width signed spot (Whole k) i h = let same : k ≡ i = cc in ap Whole same
whole_is width signed spot _ i h = absurd (cc)

named_is : (e : Tree) (i : ℕ) → bit_named e ≡ Some i → (signed : Bool) × (spot : Spot) × (e ≡ Sized 1 signed spot (Whole i))
named_is (Sized width signed spot e) i h =
    by_width (cases_Bool (width == 1))
  where
    by_width : ((width == 1) ≡ true) ⊎ ((width == 1) ≡ false) → (signed' : Bool) × (spot' : Spot) × (Sized width signed spot e ≡ Sized 1 signed' spot' (Whole i))
    by_width (inl one) =
        let is : whole_of (Sized width signed spot e) ≡ Some i = sym (ap (λ b. cond b (whole_of (Sized width signed spot e)) None) one) ∙ h in
        let width_is = eqb-true width 1 one in
        (signed, spot, ap (λ w. Sized w signed spot e) width_is ∙ ap (Sized 1 signed spot) (whole_is width signed spot e i is))
    by_width (inr other) =
        let is : None ≡ Some i = sym (ap (λ b. cond b (whole_of (Sized width signed spot e)) None) other) ∙ h in absurd (cc)
named_is _ i h = absurd (cc)

pub target_is : (target : List Piece) (j : ℕ) → whole_target target ≡ Some j → (at : Spot) × (target ≡ record { signal = j; selection = part.Whole; spot = at } ∷ [])
target_is [] j h = absurd (cc)
target_is (piece ∷ others ∷ more) j h = absurd (cc)
target_is (piece ∷ []) j h = by_selection piece.selection refl
  where
    by_selection : (what : Selection) → piece.selection ≡ what → (at : Spot) × (piece ∷ [] ≡ record { signal = j; selection = part.Whole; spot = at } ∷ [])
    by_selection part.Whole is =
        let number : Some piece.signal ≡ Some j = sym (ap (λ one. whole_piece one piece.signal) is) ∙ h in
        let same : piece.signal ≡ j = cc in
        (piece.spot, λ n. record { signal = same n; selection = is n; spot = piece.spot } ∷ [])
    by_selection (part.BitAt low index) is =
        let none : None ≡ Some j = sym (ap (λ one. whole_piece one piece.signal) is) ∙ h in absurd (cc)
    by_selection (part.BitBy low index) is =
        let none : None ≡ Some j = sym (ap (λ one. whole_piece one piece.signal) is) ∙ h in absurd (cc)
    by_selection (part.Part low width) is =
        let none : None ≡ Some j = sym (ap (λ one. whole_piece one piece.signal) is) ∙ h in absurd (cc)

-- ---- what a link asks

pub elsewhere_is : (instance : ℕ) (o : Option Signal) → is_elsewhere instance o ≡ true → IsSomeAnd o (λ signal. signal.instance ≢ instance)
elsewhere_is instance None h = absurd (false≢true h)
elsewhere_is instance (Some signal) h = λ same. both_ways (signal.instance == instance) (not-true (signal.instance == instance) h) (eq-eqb signal.instance instance same)

pub is_elsewhere_from : (instance : ℕ) (o : Option Signal) → IsSomeAnd o (λ signal. signal.instance ≢ instance) → is_elsewhere instance o ≡ true
is_elsewhere_from instance None h = absurd h
is_elsewhere_from instance (Some signal) h = not_from_false (signal.instance == instance) (ne_eqb signal.instance instance h)

-- what the ends of a link are
pub record AreEnds (d : Flat) (instance i j : ℕ) : Type 0 where
  pub one_bit : widths d i ≡ 1
  pub port_bit : widths d j ≡ 1
  pub outside : Has (λ signal. signal.instance ≢ instance) d.signals j

pub ends_of : (d : Flat) (instance i j : ℕ) → is_link d instance i j ≡ true → AreEnds d instance i j
ends_of d instance i j h =
    let (bits, third) = and_parts ((widths d i == 1) && (widths d j == 1)) (is_elsewhere instance (slice_get d.signals j)) h in
    let (first, second) = and_parts (widths d i == 1) (widths d j == 1) bits in
    record {
      one_bit = eqb-true (widths d i) 1 first;
      port_bit = eqb-true (widths d j) 1 second;
      outside = elsewhere_is instance (slice_get d.signals j) third;
    }

pub link_from : (d : Flat) (instance i j : ℕ) → AreEnds d instance i j → is_link d instance i j ≡ true
link_from d instance i j are =
    and_from ((widths d i == 1) && (widths d j == 1)) (is_elsewhere instance (slice_get d.signals j))
    (and_from (widths d i == 1) (widths d j == 1) (eq-eqb (widths d i) 1 are.one_bit) (eq-eqb (widths d j) 1 are.port_bit))
    (is_elsewhere_from instance (slice_get d.signals j) are.outside)

pub link_if_is : (b : Bool) (i j m n : ℕ) → link_if b i j ≡ Some (record { source = m; target = n }) → (b ≡ true) × (i ≡ m) × (j ≡ n)
link_if_is true i j m n h =
    let same : record { source = i; target = j } ≡ record { source = m; target = n } = same_Some _ _ h in
    (refl, ap (λ (link : Link). link.source) same, ap (λ (link : Link). link.target) same)
link_if_is false i j m n h = absurd (none-some _ h)

pub linked_is : (d : Flat) (instance : ℕ) (source target : Option ℕ) (i j : ℕ) → linked d instance source target ≡ Some (record { source = i; target = j }) → (source ≡ Some i) × (target ≡ Some j) × AreEnds d instance i j
linked_is d instance None target i j h = absurd (none-some _ h)
linked_is d instance (Some m) None i j h = absurd (none-some _ h)
linked_is d instance (Some m) (Some n) i j h =
    let (is, first, second) = link_if_is (is_link d instance m n) m n i j h in
    let ends = ends_of d instance m n is in
    (ap Some first, ap Some second, subst (λ b. AreEnds d instance i b) second (subst (λ a. AreEnds d instance a n) first ends))

module _ (d : Flat) (task : Task) (i j : ℕ) where
  pub plain_to : IsPlainConnection d task i j → plain_of d task ≡ Some (record { source = i; target = j })
  plain_to is =
      ap (plain_in d task.instance) is.does
      ∙ ap (λ b. link_if b i j) (link_from d task.instance i j (record { one_bit = is.one_bit; port_bit = is.port_bit; outside = is.outside }))

  pub plain_from : plain_of d task ≡ Some (record { source = i; target = j }) → IsPlainConnection d task i j
  plain_from h = by_doing task.does refl h
    where
      by_doing : (does : Doing) → task.does ≡ does → plain_in d task.instance does ≡ Some (record { source = i; target = j }) → IsPlainConnection d task i j
      by_doing (Assign target value) e is =
          let (first, second, ends) = linked_is d task.instance (bit_named value) (whole_target target) i j is in
          let (signed, spot, value_is) = named_is value i first in
          let (at, target_is') = target_is target j second in
          record {
            signed = signed;
            spot = spot;
            at = at;
            does = e ∙ ap (λ t. Assign t value) target_is' ∙ ap (Assign (record { signal = j; selection = part.Whole; spot = at } ∷ [])) value_is;
            outside = ends.outside;
            one_bit = ends.one_bit;
            port_bit = ends.port_bit;
          }
      by_doing (Comb list body) e is = absurd (none-some _ is)
      by_doing (Edge' events body) e is = absurd (none-some _ is)

-- ---- links of all processes

-- a process with a link
pub record IsOf (f : Task → Option Link) (tasks : List Task) (i j : ℕ) : Type 0 where
  pub process : ℕ
  pub task : Task
  pub there : slice_get tasks process ≡ Some task
  pub is : f task ≡ Some (record { source = i; target = j })

pub link_of : (f : Task → Option Link) (tasks : List Task) (i j : ℕ) → HasLink (filter_map f tasks) i j → IsOf f tasks i j
link_of f [] i j h = absurd h
link_of f (task ∷ tasks) i j h = by_case (λ k. link_of f tasks i j k) (f task) refl h
  where
    later : IsOf f tasks i j → IsOf f (task ∷ tasks) i j
    later found = record { process = suc found.process; task = found.task; there = found.there; is = found.is }

    by_case : (HasLink (filter_map f tasks) i j → IsOf f tasks i j) → (o : Option Link) → f task ≡ o → HasLink (cons_option o (filter_map f tasks)) i j → IsOf f (task ∷ tasks) i j
    by_case go None is k = later (go k)
    by_case go (Some link) is (inl here) =
        record { process = 0; task = task; there = refl; is = is ∙ (λ n. Some (record { source = sym here.0 n; target = sym here.1 n })) }
    by_case go (Some link) is (inr k) = later (go k)

pub has_link : (f : Task → Option Link) (tasks : List Task) (i j p : ℕ) (task : Task) → slice_get tasks p ≡ Some task → f task ≡ Some (record { source = i; target = j }) → HasLink (filter_map f tasks) i j
has_link f [] i j p task there is = absurd (none-some _ there)
has_link f (x ∷ tasks) i j zero task there is =
    let same : x ≡ task = same_Some x task there in
    subst (λ o. HasLink (cons_option o (filter_map f tasks)) i j) (sym (ap f same ∙ is)) (inl (refl, refl))
has_link f (x ∷ tasks) i j (suc p) task there is =
    behind (f x) (has_link f tasks i j p task there is)
  where
    behind : (o : Option Link) → HasLink (filter_map f tasks) i j → HasLink (cons_option o (filter_map f tasks)) i j
    behind None h = h
    behind (Some link) h = inr h

-- ---- what is reached

pub bit_inside : (signals : List Signal) (i : ℕ) → width_in signals i ≡ 1 → i < length signals
bit_inside [] i h = absurd (omega (arith, h))
bit_inside (s ∷ signals) zero h = omega arith
bit_inside (s ∷ signals) (suc i) h = let inside = bit_inside signals i h in omega (arith, inside)

-- the rows of all plain connections
pub record ArePlain (d : Flat) (rows : List (Vec ℕ Global)) : Type 0 where
  pub are : AreRows (length d.signals) (filter_map (plain_of d) d.tasks) rows

pub goes_from : (d : Flat) (rows : List (Vec ℕ Global)) (start k : ℕ) → ArePlain d rows → Reaches rows start k → GoesTo d start k
goes_from d rows start k plain Here = Itself
goes_from d rows start k plain (Onward i j from among below) =
    let found = link_of (plain_of d) d.tasks i j ((plain.are.each i j).0 among).1 in
    Through i j found.process found.task (goes_from d rows start i plain from) found.there (plain_from d found.task i j found.is)

pub reaches_from : (d : Flat) (rows : List (Vec ℕ Global)) (start k : ℕ) → ArePlain d rows → GoesTo d start k → Reaches rows start k
reaches_from d rows start k plain Itself = Here
reaches_from d rows start k plain (Through i j p task from there is) =
    let size = plain.are.size in
    let inside = bit_inside d.signals j is.port_bit in
    Onward i j (reaches_from d rows start i plain from)
    ((plain.are.each i j).1 (bit_inside d.signals i is.one_bit, has_link (plain_of d) d.tasks i j p task there (plain_to d task i j is)))
    (omega (arith, size, inside))

-- ---- what a loop over optional links keeps

pub push_kept : {X : Type 0} (old new front : List X) (o : Option X) (x : X) → old ≡ front → o ≡ Some x → new ≡ old ++ x ∷ [] → new ≡ front ++ option_to_list o
push_kept old new front o x same is more =
    more ∙ ap (λ l. l ++ x ∷ []) same ∙ ap (λ p. front ++ option_to_list p) (sym is)

pub pass_kept : {X : Type 0} (old new front : List X) (o : Option X) → old ≡ front → o ≡ None → new ≡ old → new ≡ front ++ option_to_list o
pass_kept old new front o same is more =
    more ∙ same ∙ sym (append-nil front) ∙ ap (λ p. front ++ option_to_list p) (sym is)

pub none_of : {X : Type 0} (o : Option X) → ((x : X) → o ≡ Some x → ⊥) → o ≡ None
none_of None h = refl
none_of (Some x) h = absurd (h x refl)
