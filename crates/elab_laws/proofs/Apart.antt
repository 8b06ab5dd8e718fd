-- A continuous target without faults is at places that are known, and has no bit twice.
use Rattle.std.specs.Prelude.{ℕ, ◌+◌, ◌<◌, ◌≤◌, ℤ, pos, ◌-ℤ◌, int_le, int_lt, unsigned_abs, true, ◌&&◌, ◌⊎◌, List, [], ◌∷◌, ◌++◌, Option, None, Some, Ok, Err}
use Rattle.std.specs.List.{All, list_any}
use Rattle.std.proofs.Common.{◌≡◌, sym, refl, subst, arith, inl, inr, append_assoc}
use Rattle.std.proofs.lemmas.List.{append-nil}
use Rattle.std.proofs.lemmas.Bool.Decides.{nat_tests}
use Rattle.std.proofs.lemmas.Int.{ints}
use Rattle.std.proofs.lemmas.List.Elements.{All-nil, All-cons, All-head, All-tail, All-append, All-push, All-weaker}
use Rattle.rtl_const.specs.Constant.{Outcome, constant}
use Rattle.rtl_tree.specs.TreeExpr.{Identifier}
use Rattle.rtl_tree.specs.TreeStmt.{Target, Whole, Bit, Part, Joined, Targets, no_targets, more_targets}
use Rattle.rtl_flat.specs.declared.signal.Signal.{Signal}
use Rattle.rtl_flat.specs.Expression.{Tree}
use Rattle.rtl_flat.specs.Process.{Selection, Piece}
use Rattle.rtl_flat.specs.Process as piece
use Rattle.rtl_flat.specs.Signs.{width_in}
use Rattle.rtl_flat.specs.WellFormed.{IsFixed, Selects, AreApart, HasNoneTwice}
use Rattle.elab_body.specs.elab_scope.declared.covers.Cover.{Cover}
use Rattle.elab_body.specs.elab_scope.declared.known.Known.{Known}
use Rattle.elab_body.specs.elab_scope.declared.known.Known.TheVariants as known
use Rattle.elab_body.specs.elab_scope.declared.known.Role.{Role}
use Rattle.elab_body.specs.elab_scope.declared.known.Shape.{Shape}
use Rattle.elab_body.specs.elab_scope.declared.rules.Writer.TheVariants.{Continuous}
use Rattle.elab_body.specs.elab_scope.declared.widths.Field.{Field}
use Rattle.elab_body.specs.elab_scope.Expressions.{faults, constant_faults}
use Rattle.elab_body.specs.elab_scope.Names.{Meanings, numbers_in}
use Rattle.elab_body.specs.elab_scope.Rules.{missing, number_faults, run_faults, part_faults, range_faults, write_faults, index_faults}
use Rattle.elab_body.specs.elab_scope.Selects.{msb_in, lsb_in}
use Rattle.elab_body.specs.elab_scope.Sources.{Describes, IsDescribed}
use Rattle.elab_body.specs.elab_scope.Targets.{part_target_faults, joined_faults, bit_selection, part_selection, pieces_of, all_pieces_of, whole_cover, bit_in, bit_cover, part_cover, overlap, cover_faults, with_cover, covered, all_covered, twice_faults, all_twice_faults}
use Rattle.elab_body.specs.elab_scope.Trees.{field_in, low_of, own_context, signal_of, spot_in, tree_of}
use Rattle.elab_body.specs.elab_scope.Widths.{field}
use Rattle.elab_body.proofs.elab_scope_proofs.Fitting.{no_cons}
use Rattle.elab_body.proofs.elab_scope_proofs.Leaves as leaf
use Rattle.elab_body.proofs.elab_scope_proofs.Sound.{nil_left, nil_right}
use Rattle.elab_laws.proofs.Targets.{piece_at}

-- ---- places that are known

fixed_bit : (id : Identifier) (low : ℕ) (o : Outcome) (index : Tree) → index_faults Continuous id o ≡ [] → IsFixed (bit_selection low o index)
fixed_bit id low (Ok number) index h = tt
fixed_bit id low (Err cause) index h = absurd (no_cons _ _ h)

fixed_part : (f : Option Field) → IsFixed (part_selection f)
fixed_part None = tt
fixed_part (Some f) = tt

abbrev pub IsFixedPiece : Piece → Type 0
IsFixedPiece p = IsFixed p.selection

pub one_fixed : (p : Piece) → IsFixed p.selection → All IsFixedPiece (p ∷ [])
one_fixed p h = All-cons IsFixedPiece p [] h (All-nil IsFixedPiece)

mutual
  pub target_fixed : (file base : ℕ) (scope : Meanings) (t : Target) → part_target_faults Continuous scope t ≡ [] → All (λ piece. IsFixed piece.selection) (pieces_of file base scope t)
  target_fixed file base scope (Whole name) h = one_fixed _ tt
  target_fixed file base scope (Bit name index) h =
      let first = write_faults Continuous name (scope name.text) ++ range_faults name (scope name.text) ++ faults scope index in
      one_fixed _ (fixed_bit name (low_of (scope name.text)) (constant (numbers_in scope) index) (tree_of file base scope index (own_context scope index)) (nil_right first _ h))
  target_fixed file base scope (Part name kind first second) h =
      one_fixed _ (fixed_part (field_in (scope name.text) (msb_in scope kind first second) (lsb_in scope kind first second)))
  target_fixed file base scope (Joined at parts) h =
      row_fixed file base scope parts (nil_left (joined_faults Continuous scope parts) _ h)

  row_fixed : (file base : ℕ) (scope : Meanings) (parts : Targets) → joined_faults Continuous scope parts ≡ [] → All (λ piece. IsFixed piece.selection) (all_pieces_of file base scope parts)
  row_fixed file base scope no_targets h = All-nil IsFixedPiece
  row_fixed file base scope (more_targets first others) h =
      All-append IsFixedPiece (pieces_of file base scope first) (all_pieces_of file base scope others) (target_fixed file base scope first (nil_left (part_target_faults Continuous scope first) _ h)) (row_fixed file base scope others (nil_right (part_target_faults Continuous scope first) _ h))

-- ---- bits that are covered

abbrev IsSignal : Option Known → Type 0
IsSignal (Some (known.Signal n role shape)) = Unit {0}
IsSignal _ = ⊥

is_signal : (id : Identifier) (k : Option Known) → write_faults Continuous id k ≡ [] → IsSignal k
is_signal id None h = absurd (no_cons _ _ h)
is_signal id (Some (known.Integer n)) h = absurd (no_cons _ _ h)
is_signal id (Some (known.Parameter n width signed)) h = absurd (no_cons _ _ h)
is_signal id (Some (known.Signal n role shape)) h = tt

-- bit k of signal i of the design is in a cover
abbrev IsIn : ℕ → Cover → ℕ → ℕ → Type 0
IsIn base c i k = (i ≡ base + c.signal) × (c.low ≤ k) × (k < c.low + c.count)

abbrev IsInSome : ℕ → List Cover → ℕ → ℕ → Type 0
IsInSome base [] i k = ⊥
IsInSome base (c ∷ cs) i k = IsIn base c i k ⊎ IsInSome base cs i k

abbrev IsInOne : ℕ → Option Cover → ℕ → ℕ → Type 0
IsInOne base None i k = ⊥
IsInOne base (Some c) i k = IsIn base c i k

in_before : (base : ℕ) (cs : List Cover) (o : Option Cover) (i k : ℕ) → IsInSome base cs i k → IsInSome base (with_cover cs o) i k
in_before base cs None i k h = h
in_before base [] (Some c) i k h = absurd h
in_before base (d ∷ cs) (Some c) i k (inl h) = inl h
in_before base (d ∷ cs) (Some c) i k (inr h) = inr (in_before base cs (Some c) i k h)

in_last : (base : ℕ) (cs : List Cover) (o : Option Cover) (i k : ℕ) → IsInOne base o i k → IsInSome base (with_cover cs o) i k
in_last base cs None i k h = absurd h
in_last base [] (Some c) i k h = inl h
in_last base (d ∷ cs) (Some c) i k h = inr (in_last base cs (Some c) i k h)

overlaps : (base : ℕ) (a b : Cover) (i k : ℕ) → IsIn base a i k → IsIn base b i k → overlap a b ≡ true
overlaps base a b i k h g =
    let same : a.signal ≡ b.signal = omega (arith, h.0, g.0) in
    let low : a.low < b.low + b.count = omega (arith, h.1, g.2) in
    let high : b.low < a.low + a.count = omega (arith, g.1, h.2) in
    grind (arith, nat_tests)

any_overlap : (base : ℕ) (c : Cover) (cs : List Cover) (i k : ℕ) → IsIn base c i k → IsInSome base cs i k → list_any (overlap c) cs ≡ true
any_overlap base c [] i k h g = absurd g
any_overlap base c (d ∷ cs) i k h (inl g) =
    let one : overlap c d ≡ true = overlaps base c d i k h g in
    rw one refl
any_overlap base c (d ∷ cs) i k h (inr g) =
    let one : list_any (overlap c) cs ≡ true = any_overlap base c cs i k h g in
    grind (arith, one)

-- a bit that is written before isn't written again
not_again : (base : ℕ) (id : Identifier) (cs : List Cover) (o : Option Cover) (i k : ℕ) → cover_faults id cs o ≡ [] → IsInOne base o i k → IsInSome base cs i k → ⊥
not_again base id cs None i k h one some = one
not_again base id cs (Some c) i k h one some =
    let is : list_any (overlap c) cs ≡ true = any_overlap base c cs i k one some in
    no_cons _ _ (rw is at h)

-- ---- pieces whose bits are covered

abbrev IsCovered : ℕ → List Signal → List Cover → Piece → Type 0
IsCovered base ss cs p =
    (k : ℕ) → Selects (width_in ss p.signal) p.selection k → IsInSome base cs p.signal k

-- pieces with no bit twice whose bits are covered
record Kept (base : ℕ) (ss : List Signal) (pieces : List Piece) (cs : List Cover) : Type 0 where
  pub apart : HasNoneTwice ss pieces
  pub within : All (IsCovered base ss cs) pieces

pushed : (ss : List Signal) (before : List Piece) (p : Piece) → HasNoneTwice ss before → All (λ q. AreApart ss q p) before → HasNoneTwice ss (before ++ p ∷ [])
pushed ss [] p h all = (All-nil (AreApart ss p), tt)
pushed ss (q ∷ before) p h all =
    (All-push (AreApart ss q) before p h.0 (All-head (λ q. AreApart ss q p) q before all), pushed ss before p h.1 (All-tail (λ q. AreApart ss q p) q before all))

-- a piece more
one_more : (base : ℕ) (ss : List Signal) (id : Identifier) (before : List Piece) (cs : List Cover) (p : Piece) (o : Option Cover) → Kept base ss before cs → cover_faults id cs o ≡ [] → ((k : ℕ) → Selects (width_in ss p.signal) p.selection k → IsInOne base o p.signal k) → Kept base ss (before ++ p ∷ []) (with_cover cs o)
one_more base ss id before cs p o kept h inside =
    record {
      apart = pushed ss before p kept.apart (All-weaker (IsCovered base ss cs) (λ q. AreApart ss q p) (λ q is. λ same k mine yours. not_again base id cs o p.signal k h (inside k yours) (subst (λ i. IsInSome base cs i k) same (is k mine))) before kept.within);
      within =
          All-push (IsCovered base ss (with_cover cs o)) before p (All-weaker (IsCovered base ss cs) (IsCovered base ss (with_cover cs o)) (λ q is. λ k mine. in_before base cs o q.signal k (is k mine)) before kept.within) (λ k mine. in_last base cs o p.signal k (inside k mine));
    }

whole_inside : (base : ℕ) (ss : List Signal) (k : Option Known) (j : ℕ) → IsDescribed base ss k → IsSignal k → j < width_in ss (signal_of base k) → IsInOne base (whole_cover k) (signal_of base k) j
whole_inside base ss None j d is s = absurd is
whole_inside base ss (Some (known.Integer n)) j d is s = absurd is
whole_inside base ss (Some (known.Parameter n width signed)) j d is s = absurd is
whole_inside base ss (Some (known.Signal n role None)) j d is s = absurd d
whole_inside base ss (Some (known.Signal n role (Some shape))) j d is s = (refl, omega arith, omega (arith, d.1))

is_inside : (low width j : ℕ) → j < width → (int_le (pos low) (pos (low + j)) && int_lt (pos (low + j)) (pos (low + width))) ≡ true
is_inside low width j h = grind (arith, ints, nat_tests)

place_is : (low j : ℕ) → unsigned_abs (pos (low + j) -ℤ pos low) ≡ j
place_is low j = grind (arith, ints, nat_tests)

there : (base n low width j p : ℕ) → p ≡ j → IsIn base (record { signal = n; low = p; count = 1 }) (base + n) j
there base n low width j p is = (refl, omega (arith, is), omega (arith, is))

at_place : (base n : ℕ) (shape : Shape) (j : ℕ) → j < shape.width → IsInOne base (bit_in n shape (pos (shape.low + j))) (base + n) j
at_place base n shape j h =
    let low : ℕ = shape.low in
    rw (is_inside shape.low shape.width j h) (there base n shape.low shape.width j (unsigned_abs (pos (shape.low + j) -ℤ pos shape.low)) (place_is shape.low j))

bit_found : (base n : ℕ) (shape : Shape) (index : ℤ) (j : ℕ) → index ≡ pos (shape.low + j) → j < shape.width → IsInOne base (bit_in n shape index) (base + n) j
bit_found base n shape index j is h =
    subst (λ index. IsInOne base (bit_in n shape index) (base + n) j) (sym is) (at_place base n shape j h)

bit_inside : (base : ℕ) (ss : List Signal) (id : Identifier) (k : Option Known) (o : Outcome) (index : Tree) (j : ℕ) → IsDescribed base ss k → IsSignal k → index_faults Continuous id o ≡ [] → Selects (width_in ss (signal_of base k)) (bit_selection (low_of k) o index) j → IsInOne base (bit_cover k o) (signal_of base k) j
bit_inside base ss id None o index j d is h s = absurd is
bit_inside base ss id (Some (known.Integer n)) o index j d is h s = absurd is
bit_inside base ss id (Some (known.Parameter n width signed)) o index j d is h s = absurd is
bit_inside base ss id (Some (known.Signal n role None)) o index j d is h s = absurd d
bit_inside base ss id (Some (known.Signal n role (Some shape))) (Err cause) index j d is h s =
    absurd (no_cons _ _ h)
bit_inside base ss id (Some (known.Signal n role (Some shape))) (Ok number) index j d is h s =
    bit_found base n shape number j s.0 (omega (arith, d.1, s.1))

part_of : (base n : ℕ) (ss : List Signal) (role : Role) (shape : Option Shape) (f : Option Field) (at j : ℕ) → missing at f ≡ [] → Selects (width_in ss (base + n)) (part_selection f) j → IsInOne base (part_cover (Some (known.Signal n role shape)) f) (base + n) j
part_of base n ss role shape None at j h s = absurd (no_cons _ _ h)
part_of base n ss role shape (Some f) at j h s = (refl, s.0, s.1)

part_inside : (base : ℕ) (ss : List Signal) (at : ℕ) (k : Option Known) (m l : Outcome) (j : ℕ) → IsDescribed base ss k → IsSignal k → number_faults m ≡ [] → number_faults l ≡ [] → part_faults at k m l ≡ [] → Selects (width_in ss (signal_of base k)) (part_selection (field_in k m l)) j → IsInOne base (part_cover k (field_in k m l)) (signal_of base k) j
part_inside base ss at None m l j d is p q h s = absurd is
part_inside base ss at (Some (known.Integer n)) m l j d is p q h s = absurd is
part_inside base ss at (Some (known.Parameter n width signed)) m l j d is p q h s = absurd is
part_inside base ss at (Some (known.Signal n role None)) m l j d is p q h s = absurd d
part_inside base ss at (Some (known.Signal n role (Some shape))) (Err cause) l j d is p q h s =
    absurd (no_cons _ _ p)
part_inside base ss at (Some (known.Signal n role (Some shape))) (Ok m) (Err cause) j d is p q h s =
    absurd (no_cons _ _ q)
part_inside base ss at (Some (known.Signal n role (Some shape))) (Ok m) (Ok l) j d is p q h s =
    part_of base n ss role (Some shape) (field shape m l) at j h s

mutual
  target_kept : (file base : ℕ) (scope : Meanings) (ss : List Signal) → Describes base ss scope → (t : Target) (before : List Piece) (cs : List Cover) → part_target_faults Continuous scope t ≡ [] → twice_faults scope cs t ≡ [] → Kept base ss before cs → Kept base ss (before ++ pieces_of file base scope t) (covered scope cs t)
  target_kept file base scope ss d (Whole name) before cs h twice kept =
      one_more base ss name before cs (piece_at (spot_in file name.at) (signal_of base (scope name.text)) piece.Whole) (whole_cover (scope name.text)) kept twice (λ j s. whole_inside base ss (scope name.text) j (d name.text) (is_signal name (scope name.text) h) s)
  target_kept file base scope ss d (Bit name index) before cs h twice kept =
      let first = write_faults Continuous name (scope name.text) in
      let second = range_faults name (scope name.text) in
      let front = first ++ second ++ faults scope index in
      let three : front ≡ [] = nil_left front _ h in
      let two : first ++ second ≡ [] = nil_left (first ++ second) _ three in
      let o = constant (numbers_in scope) index in
      let tree = tree_of file base scope index (own_context scope index) in
      one_more base ss name before cs (piece_at (spot_in file name.at) (signal_of base (scope name.text)) (bit_selection (low_of (scope name.text)) o tree)) (bit_cover (scope name.text) o) kept twice (λ j s. bit_inside base ss name (scope name.text) o tree j (d name.text) (is_signal name (scope name.text) (nil_left first second two)) (nil_right front _ h) s)
  target_kept file base scope ss d (Part name kind start end) before cs h twice kept =
      let first = write_faults Continuous name (scope name.text) in
      let second = range_faults name (scope name.text) in
      let third = constant_faults scope start in
      let fourth = constant_faults scope end in
      let fifth = run_faults name.at kind (constant (numbers_in scope) end) in
      let m = msb_in scope kind start end in
      let l = lsb_in scope kind start end in
      let last = part_faults name.at (scope name.text) m l in
      let five : first ++ second ++ third ++ fourth ++ fifth ≡ [] = nil_left (first ++ second ++ third ++ fourth ++ fifth) last h in
      let four : first ++ second ++ third ++ fourth ≡ [] = nil_left (first ++ second ++ third ++ fourth) fifth five in
      let three : first ++ second ++ third ≡ [] = nil_left (first ++ second ++ third) fourth four in
      let two : first ++ second ≡ [] = nil_left (first ++ second) third three in
      let ends = leaf.ends kind (constant (numbers_in scope) start) (constant (numbers_in scope) end) (nil_right (faults scope start) _ (nil_right (first ++ second) third three)) (nil_right (faults scope end) _ (nil_right (first ++ second ++ third) fourth four)) in
      let f = field_in (scope name.text) m l in
      one_more base ss name before cs (piece_at (spot_in file name.at) (signal_of base (scope name.text)) (part_selection f)) (part_cover (scope name.text) f) kept twice (λ j s. part_inside base ss name.at (scope name.text) m l j (d name.text) (is_signal name (scope name.text) (nil_left first second two)) ends.0 ends.1 (nil_right (first ++ second ++ third ++ fourth ++ fifth) last h) s)
  target_kept file base scope ss d (Joined at parts) before cs h twice kept =
      row_kept file base scope ss d parts before cs (nil_left (joined_faults Continuous scope parts) _ h) twice kept

  row_kept : (file base : ℕ) (scope : Meanings) (ss : List Signal) → Describes base ss scope → (parts : Targets) (before : List Piece) (cs : List Cover) → joined_faults Continuous scope parts ≡ [] → all_twice_faults scope cs parts ≡ [] → Kept base ss before cs → Kept base ss (before ++ all_pieces_of file base scope parts) (all_covered scope cs parts)
  row_kept file base scope ss d no_targets before cs h twice kept =
      subst (λ ps. Kept base ss ps cs) (sym (append-nil before)) kept
  row_kept file base scope ss d (more_targets first others) before cs h twice kept =
      let a = pieces_of file base scope first in
      let b = all_pieces_of file base scope others in
      let one = target_kept file base scope ss d first before cs (nil_left (part_target_faults Continuous scope first) _ h) (nil_left (twice_faults scope cs first) _ twice) kept in
      let all = row_kept file base scope ss d others (before ++ a) (covered scope cs first) (nil_right (part_target_faults Continuous scope first) _ h) (nil_right (twice_faults scope cs first) _ twice) one in
      subst (λ ps. Kept base ss ps (all_covered scope (covered scope cs first) others)) (append_assoc before a b) all

-- a target without faults has no bit twice
pub target_apart : (file base : ℕ) (scope : Meanings) (ss : List Signal) → Describes base ss scope → (t : Target) → part_target_faults Continuous scope t ≡ [] → twice_faults scope [] t ≡ [] → HasNoneTwice ss (pieces_of file base scope t)
target_apart file base scope ss d t h twice =
    (target_kept file base scope ss d t [] [] h twice (record { apart = tt; within = All-nil (IsCovered base ss []) })).apart
