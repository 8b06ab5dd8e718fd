-- How what may be x spreads.
use Rattle.std.proofs.Common.{ℕ, zero, suc, ◌≡◌, ◌∙◌, ◌+◌, ◌<◌, Bool, true, false, not, ◌&&◌, ◌||◌, List, [], ◌∷◌, ◌++◌, Some, length, take, get_or, set, refl, sym, ap, subst, inl, inr, arith, ◌⊎◌}
use Rattle.std.specs.Prelude.{◌==◌}
use Rattle.std.proofs.lemmas.Bool.{and_parts, cases_eq, eq-eqb, eqb-true, false≢true, or_cases, or_left, or_right}
use Rattle.std.specs.List.{slice_get}
use Rattle.std.proofs.lemmas.List.{get_or-set_other, get_or-set_same, length-set, length_push, take_more}
use Rattle.check_chains.specs.rtl_scan.declared.bits.Row.{Row}
use Rattle.check_chains.specs.rtl_scan.Sets.{IsInOrder, has_rows}
use Rattle.check_chains.specs.rtl_scan.Usage.{has_row_of}
use Rattle.rtl_flat.specs.declared.signal.Signal.{Signal}
use Rattle.rtl_flat.specs.Process.{Task}
use Rattle.rtl_flat.specs.Signs.{width_in}
use Rattle.rtl_rule.specs.Parts.{written}
use Rattle.rtl_flat.specs.Flats.{Flat, widths}
use Rattle.check_chains.proofs.check_found_proofs.Inside.{written_inside}
use Rattle.check_chains.proofs.check_found_proofs.Signals.{rows_have_some}
use Rattle.check_unknown.specs.declared.doubt.Spread.{Spread}
use Rattle.check_unknown.specs.Spreading.{Among, IsReader, Marks, Visits, is_marked, is_seen, left, writes}
use Rattle.check_unknown.specs.Unknowns.{Behind}
use Rattle.rtl_rule.proofs.Below.{some_found}
use Rattle.check_unknown.proofs.Processes.{same_some}

pub among_push : (xs : List ℕ) (y x : ℕ) → Among (xs ++ y ∷ []) x → Among xs x ⊎ (x ≡ y)
among_push [] y x (inl e) = inr e
among_push [] y x (inr h) = absurd h
among_push (z ∷ xs) y x (inl e) = inl (inl e)
among_push (z ∷ xs) y x (inr h) =
    elim (among_push xs y x h) [ inl before ↦ inl (inr before) | inr last ↦ inr last ]

pub among_before : (xs : List ℕ) (y x : ℕ) → Among xs x → Among (xs ++ y ∷ []) x
among_before [] y x h = absurd h
among_before (z ∷ xs) y x (inl e) = inl e
among_before (z ∷ xs) y x (inr h) = inr (among_before xs y x h)

pub among_last : (xs : List ℕ) (y : ℕ) → Among (xs ++ y ∷ []) y
among_last [] y = inl refl
among_last (z ∷ xs) y = inr (among_last xs y)

-- one mark more
left_set : (marks : List Bool) (i : ℕ) → i < length marks → get_or marks i false ≡ false → left (set marks i true) + 1 ≡ left marks
left_set [] i inside h = absurd (omega (arith, inside))
left_set (true ∷ marks) zero inside h = absurd (false≢true (sym h))
left_set (false ∷ marks) zero inside h = omega arith
left_set (true ∷ marks) (suc i) inside h = left_set marks i (omega (arith, inside)) h
left_set (false ∷ marks) (suc i) inside h =
    let more = left_set marks i (omega (arith, inside)) h in
    omega (arith, more)

pub marks_none : (P : ℕ → Bool) (old : Spread) → ((s : ℕ) → s < length old.marked.items → P s ≡ true → is_marked old s ≡ true) → Marks P old old
marks_none P old there =
    record { same_length = refl; from = λ s h. inl h; keeps = λ s h. h; to = there; waits = λ s h. h; only = λ s h. inl h; count = refl }

pub marks_one : (i : ℕ) (old new : Spread) → i < length old.marked.items → is_marked old i ≡ false → new.marked.items ≡ set old.marked.items i true → new.waiting.items ≡ old.waiting.items ++ i ∷ [] → length new.marked.items ≡ length old.marked.items → Marks (λ s. s == i) old new
marks_one i old new inside unmarked marked waiting same =
    let at_i : is_marked new i ≡ true
    = ap (λ (ms : List Bool). get_or ms i false) marked ∙ get_or-set_same old.marked.items i true false inside in
    record {
      same_length = same;
      from = λ s h. elim (cases_eq s i) [
        | inl here ↦ inr (eq-eqb s i here, subst (λ (xs : List ℕ). Among xs s) (sym waiting) (subst (λ j. Among (old.waiting.items ++ j ∷ []) s) here (among_last old.waiting.items s)))
        | inr other ↦ inl (sym (ap (λ (ms : List Bool). get_or ms s false) marked ∙ get_or-set_other old.marked.items i s true false other) ∙ h)
      ];
      keeps = λ s h. elim (cases_eq s i) [
        | inl here ↦ subst (λ j. is_marked new j ≡ true) (sym here) at_i
        | inr other ↦ ap (λ (ms : List Bool). get_or ms s false) marked ∙ get_or-set_other old.marked.items i s true false other ∙ h
      ];
      to = λ s there h. subst (λ j. is_marked new j ≡ true) (sym (eqb-true s i h)) at_i;
      waits = λ s h. subst (λ (xs : List ℕ). Among xs s) (sym waiting) (among_before old.waiting.items i s h);
      only = λ s h. elim (among_push old.waiting.items i s (subst (λ (xs : List ℕ). Among xs s) waiting h)) [
        | inl before ↦ inl before
        | inr last ↦ inr (subst (λ j. is_marked new j ≡ true) (sym last) at_i)
      ];
      count =
          let fewer = left_set old.marked.items i inside unmarked in
          let now = ap left marked in
          let longer = ap length waiting ∙ length_push old.waiting.items i in
          omega (arith, fewer, now, longer);
    }

-- marks after marks
pub marks_both : (P Q R : ℕ → Bool) (a b c : Spread) → ((s : ℕ) → R s ≡ (P s || Q s)) → Marks P a b → Marks Q b c → Marks R a c
marks_both P Q R a b c is h k =
    record {
      same_length = k.same_length ∙ h.same_length;
      from = λ s m. elim (k.from s m) [
        | inl before ↦ elim (h.from s before) [
          | inl first ↦ inl first
          | inr then' ↦ inr (is s ∙ or_left (P s) (Q s) then'.0, k.waits s then'.1)
        ]
        | inr later ↦ inr (is s ∙ or_right (P s) (Q s) later.0, later.1)
      ];
      keeps = λ s m. k.keeps s (h.keeps s m);
      to = λ s there m. elim (or_cases (P s) (Q s) (sym (is s) ∙ m)) [
        | inl first ↦ k.keeps s (h.to s there first)
        | inr second ↦ k.to s (let e = h.same_length in omega (arith, there, e)) second
      ];
      waits = λ s m. k.waits s (h.waits s m);
      only = λ s m. elim (k.only s m) [
        | inl before ↦ elim (h.only s before) [
          | inl first ↦ inl first
          | inr marked ↦ inr (k.keeps s marked)
        ]
        | inr marked ↦ inr marked
      ];
      count = k.count ∙ h.count;
    }

pub has_row_append : (rows : List Row) (row : Row) (s : ℕ) → has_row_of (rows ++ row ∷ []) s ≡ (has_row_of rows s || (s == row.signal.0))
has_row_append [] row s = or_false (s == row.signal.0)
  where
    or_false : (b : Bool) → (b || false) ≡ b
    or_false true = refl
    or_false false = refl
has_row_append (one ∷ rows) row s =
    ap (λ b. (s == one.signal.0) || b) (has_row_append rows row s) ∙ assoc (s == one.signal.0) (has_row_of rows s) (s == row.signal.0)
  where
    assoc : (a b c : Bool) → (a || (b || c)) ≡ ((a || b) || c)
    assoc true b c = refl
    assoc false b c = refl

pub rows_more : (rows : List Row) (i : ℕ) (default : Row) → i < length rows → (first old new : Spread) → Marks (has_row_of (take i rows)) first old → Marks (λ s. s == (get_or rows i default).signal.0) old new → Marks (has_row_of (take (i + 1) rows)) first new
rows_more rows i default inside first old new h k =
    marks_both (has_row_of (take i rows)) (λ s. s == (get_or rows i default).signal.0) (has_row_of (take (i + 1) rows)) first old new
    (λ s. ap (λ rs. has_row_of rs s) (take_more rows i default inside) ∙ has_row_append (take i rows) (get_or rows i default) s) h k

-- the same signals by another test
pub marks_as : (P Q : ℕ → Bool) (old new : Spread) → ((s : ℕ) → Q s ≡ P s) → Marks P old new → Marks Q old new
marks_as P Q old new is h =
    record {
      same_length = h.same_length;
      from = λ s m. elim (h.from s m) [ inl before ↦ inl before | inr later ↦ inr (is s ∙ later.0, later.1) ];
      keeps = h.keeps;
      to = λ s there m. h.to s there (sym (is s) ∙ m);
      waits = h.waits;
      only = h.only;
      count = h.count;
    }

-- a signal with a width is there
pub width_there : (signals : List Signal) (s : ℕ) → 0 < width_in signals s → s < length signals
width_there [] s h = absurd (omega (arith, h))
width_there (one ∷ signals) zero h = omega arith
width_there (one ∷ signals) (suc s) h =
    let below = width_there signals s h in
    omega (arith, below)

-- a process that reads what may be x was looked at
pub visited : (d : Flat) (p : ℕ) (seen : List Bool) (old new : Spread) → IsReader d p → p < length seen → ((task : Task) → slice_get d.tasks p ≡ Some task → Marks (writes d task) old new) → Visits d p seen old (set seen p true) new
visited d p seen old new reader inside marks =
    let task = reader.task in
    let m = marks task reader.there in
    let here : is_seen (set seen p true) p ≡ true = get_or-set_same seen p true false inside in
    record {
      same_length = length-set seen p true;
      now = here;
      stay = stay;
      waits = m.waits;
      count = m.count;
      spreads = λ current h. record {
        same_length = m.same_length ∙ h.same_length;
        sound = λ s marked. elim (m.from s marked) [
          | inl before ↦ h.sound s before
          | inr later ↦ Behind p s reader.signal task reader.there reader.doubtful reader.reads later.0
        ];
        began = λ s u. m.keeps s (h.began s u);
        latched = λ s k is. m.keeps s (h.latched s k is);
        waiting = λ s w. elim (m.only s w) [
          | inl before ↦ m.keeps s (h.waiting s before)
          | inr marked ↦ marked
        ];
        done = λ q other there was s w. elim (cases_eq q p) [
          | inl same ↦
              let is = same_some task other (sym reader.there ∙ subst (λ k. slice_get d.tasks k ≡ Some other) same there) in
              let own = subst (λ (t : Task). writes d t s ≡ true) (sym is) w in
              let at_bit = some_found (widths d s) (written d task.does s) own in
              let k = at_bit.number in
              let below = at_bit.below in
              let bit = at_bit.is in
              let wide : 0 < width_in d.signals s = omega (arith, below) in
              let in_signals = width_there d.signals s wide in
              m.to s (let e = h.same_length in omega (arith, in_signals, e)) own
          | inr apart ↦ m.keeps s (h.done q other there (sym (get_or-set_other seen p q true false apart) ∙ was) s w)
        ];
        closed = λ s q other marked there r. elim (m.from s marked) [
          | inl before ↦ elim (h.closed s q other before there r) [
            | inl at_hand ↦ inl at_hand
            | inr rest ↦ elim rest [
              | inl waits ↦ inr (inl (m.waits s waits))
              | inr was ↦ inr (inr (stay q was))
            ]
          ]
          | inr later ↦ inr (inl later.1)
        ];
      };
    }
  where
    stay : (q : ℕ) → is_seen seen q ≡ true → is_seen (set seen p true) q ≡ true
    stay q was =
        elim (cases_eq q p) [
          | inl same ↦ subst (λ k. is_seen (set seen p true) k ≡ true) (sym same) (get_or-set_same seen p true false inside)
          | inr apart ↦ get_or-set_other seen p q true false apart ∙ was
        ]

pub writes_are : (d : Flat) (task : Task) (rows : List Row) → ((s k : ℕ) → has_rows rows s k ≡ written d task.does s k) → IsInOrder rows → (s : ℕ) → writes d task s ≡ has_row_of rows s
writes_are d task rows are order s =
    sym (rows_have_some (widths d) (written d task.does) rows (record { order = order; same = are; inside = written_inside (widths d) task.does }) s)

and_true : (b : Bool) → (b && true) ≡ b
and_true true = refl
and_true false = refl

pub unless_is : (signal : ℕ) (temporary : Bool) → temporary ≡ false → (s : ℕ) → ((s == signal) && not temporary) ≡ (s == signal)
unless_is signal temporary e s =
    ap (λ t. (s == signal) && not t) e ∙ and_true (s == signal)

pub unless_none : (signal : ℕ) (temporary : Bool) (old : Spread) → temporary ≡ true → Marks (λ s. (s == signal) && not temporary) old old
unless_none signal temporary old e =
    marks_none (λ s. (s == signal) && not temporary) old
    (λ s there h. absurd (false≢true (sym (ap not e) ∙ (and_parts (s == signal) (not temporary) h).1)))

split : (a e n m : Bool) → (e ≡ true → n ≡ m) → ((a || e) && n) ≡ ((a && n) || (e && m))
split true true true m h = refl
split true true false m h = h refl
split true false true m h = refl
split true false false m h = refl
split false true n m h = h refl
split false false n m h = refl

pub kept_more : (rows : List Row) (temporaries : List Bool) (i : ℕ) (default : Row) → i < length rows → (temporary : Bool) → temporary ≡ get_or temporaries (get_or rows i default).signal.0 false → (first old new : Spread) → Marks (λ s. has_row_of (take i rows) s && not (get_or temporaries s false)) first old → Marks (λ s. (s == (get_or rows i default).signal.0) && not temporary) old new → Marks (λ s. has_row_of (take (i + 1) rows) s && not (get_or temporaries s false)) first new
kept_more rows temporaries i default inside temporary is first old new h k =
    let row = get_or rows i default in
    marks_both (λ s. has_row_of (take i rows) s && not (get_or temporaries s false)) (λ s. (s == row.signal.0) && not temporary) (λ s. has_row_of (take (i + 1) rows) s && not (get_or temporaries s false)) first old new
    (λ s.
    ap (λ b. b && not (get_or temporaries s false)) (ap (λ rs. has_row_of rs s) (take_more rows i default inside) ∙ has_row_append (take i rows) row s)
    ∙ split (has_row_of (take i rows) s) (s == row.signal.0) (not (get_or temporaries s false)) (not temporary) (λ e. ap (λ j. not (get_or temporaries j false)) (eqb-true s row.signal.0 e) ∙ ap not (sym is)))
    h k
