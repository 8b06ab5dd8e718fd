-- What a target without faults has.
use Rattle.std.specs.Prelude.{ℕ, zero, suc, ◌+◌, ◌<◌, ◌≤◌, ℤ, false, List, [], ◌∷◌, ◌++◌, length, Option, None, Some, Ok, Err}
use Rattle.std.specs.List.{All}
use Rattle.std.proofs.Common.{◌≡◌, ◌∙◌, ap, sym, refl, arith}
use Rattle.std.proofs.lemmas.List.Elements.{All-nil, All-cons, All-append}
use Rattle.std.proofs.lemmas.List.Sums.{sum_by-append, sum_by-cons}
use Rattle.rtl_const.specs.Constant.{Outcome, constant}
use Rattle.text_ground.specs.declared.text.Spot.{Spot}
use Rattle.rtl_tree.specs.TreeExpr.{Identifier}
use Rattle.rtl_tree.specs.TreeStmt.{Target, Whole, Bit, Part, Joined, Targets, no_targets, more_targets}
use Rattle.rtl_flat.specs.declared.signal.Kind.{Kind}
use Rattle.rtl_flat.specs.declared.signal.Signal.{Signal}
use Rattle.rtl_flat.specs.Expression.{Tree}
use Rattle.rtl_flat.specs.Process.{Selection, Piece}
use Rattle.rtl_flat.specs.Process as piece
use Rattle.rtl_flat.specs.Signs.{Has, IsExpression, width_in}
use Rattle.rtl_flat.specs.Sizing.{low_in}
use Rattle.rtl_flat.specs.WellFormed.{IsSelection, selection_width, target_width}
use Rattle.elab_body.specs.elab_scope.declared.context.Context.{Context}
use Rattle.elab_body.specs.elab_scope.declared.known.Known.{Known}
use Rattle.elab_body.specs.elab_scope.declared.known.Known.TheVariants as known
use Rattle.elab_body.specs.elab_scope.declared.known.Role.{Role}
use Rattle.elab_body.specs.elab_scope.declared.known.Role.TheVariants as role
use Rattle.elab_body.specs.elab_scope.declared.known.Shape.{Shape}
use Rattle.elab_body.specs.elab_scope.declared.rules.Writer.{Writer}
use Rattle.elab_body.specs.elab_scope.declared.rules.Writer.TheVariants.{Continuous, Procedural}
use Rattle.elab_body.specs.elab_scope.declared.widths.Breadth.{Breadth}
use Rattle.elab_body.specs.elab_scope.declared.widths.Breadth.TheVariants.{Bits}
use Rattle.elab_body.specs.elab_scope.declared.widths.Field.{Field}
use Rattle.elab_body.specs.elab_scope.Expressions.{faults, constant_faults}
use Rattle.elab_body.specs.elab_scope.Names.{Meanings, numbers_in}
use Rattle.elab_body.specs.elab_scope.Own.{name_breadth, part_breadth, field_breadth}
use Rattle.elab_body.specs.elab_scope.Rules.{width_faults, number_faults, run_faults, part_faults, missing, range_faults, write_faults, index_faults}
use Rattle.elab_body.specs.elab_scope.Selects.{msb_in, lsb_in}
use Rattle.elab_body.specs.elab_scope.Sources.{IsDescribed, part_source}
use Rattle.elab_body.specs.elab_scope.Targets.{target_breadth, targets_breadth, part_target_faults, joined_faults, bit_selection, part_selection, pieces_of, all_pieces_of}
use Rattle.elab_body.specs.elab_scope.Trees.{field_in, low_of, own_context, signal_of, spot_in, tree_of}
use Rattle.elab_body.specs.elab_scope.Widths.{beside, fit, fitted}
use Rattle.elab_body.proofs.elab_scope_proofs.Fitting.{no_cons, fitted_is, summed, beside_summed, fit_summed, fit_is}
use Rattle.elab_body.proofs.elab_scope_proofs.Leaves as leaf
use Rattle.elab_body.proofs.elab_scope_proofs.Sound.{nil_left, nil_right, Sound}
use Rattle.elab_laws.specs.Scopes.{written_kind, HasKind, IsScopeOf}
use Rattle.elab_laws.proofs.Values.{own_expression}

abbrev pub IsPart : List Signal → Piece → Type 0
IsPart ss p = IsSelection ss p.signal p.selection

abbrev pub IsOfKind : List Signal → Kind → Piece → Type 0
IsOfKind ss kind p = Has (λ s. s.kind ≡ kind) ss p.signal

-- parts of a target that are lawful, and are of this breadth together
pub record SoundTarget (ss : List Signal) (kind : Kind) (b : Breadth) (pieces : List Piece) : Type 0 where
  pub parts : All (λ piece. IsSelection ss piece.signal piece.selection) pieces
  pub kinds : All (λ piece. Has (λ s. s.kind ≡ kind) ss piece.signal) pieces
  pub some : 1 ≤ target_width ss pieces
  pub most : target_width ss pieces ≤ 128
  pub width : b ≡ Bits (target_width ss pieces)

-- the same in a row, where the whole may not fit
record SoundRow (ss : List Signal) (kind : Kind) (b : Breadth) (pieces : List Piece) : Type 0 where
  pub parts : All (λ piece. IsSelection ss piece.signal piece.selection) pieces
  pub kinds : All (λ piece. Has (λ s. s.kind ≡ kind) ss piece.signal) pieces
  pub width : b ≡ summed (target_width ss pieces)

pub low_there : (ss : List Signal) (i low : ℕ) → i < length ss → low_in ss i ≡ low → Has (λ s. s.low ≡ low) ss i
low_there [] i low h is = absurd (omega arith)
low_there (s ∷ ss) zero low h is = is
low_there (s ∷ ss) (suc i) low h is = low_there ss i low (omega arith) is

pub width_there : (ss : List Signal) (i low width : ℕ) → i < length ss → low + width ≤ width_in ss i → Has (λ s. low + width ≤ s.width) ss i
width_there [] i low width h is = absurd (omega arith)
width_there (s ∷ ss) zero low width h is = is
width_there (s ∷ ss) (suc i) low width h is = width_there ss i low width (omega arith) is

one_width : (ss : List Signal) (p : Piece) → target_width ss (p ∷ []) ≡ selection_width ss p.signal p.selection
one_width ss p = omega (arith, sum_by-cons (λ p. selection_width ss p.signal p.selection) p [])

pub single : (ss : List Signal) (kind : Kind) (b : Breadth) (p : Piece) (n : ℕ) → IsSelection ss p.signal p.selection → Has (λ s. s.kind ≡ kind) ss p.signal → selection_width ss p.signal p.selection ≡ n → 1 ≤ n → n ≤ 128 → b ≡ Bits n → SoundTarget ss kind b (p ∷ [])
single ss kind b p n part has is low high same =
    let width : target_width ss (p ∷ []) ≡ n = one_width ss p ∙ is in
    record {
      parts = All-cons (IsPart ss) p [] part (All-nil (IsPart ss));
      kinds = All-cons (IsOfKind ss kind) p [] has (All-nil (IsOfKind ss kind));
      some = omega (arith, width, low);
      most = omega (arith, width, high);
      width = same ∙ ap Bits (sym width);
    }

no_integer : (by : Writer) (id : Identifier) (n : Option ℤ) → write_faults by id (Some (known.Integer n)) ≡ [] → ⊥
no_integer Continuous id n h = no_cons _ _ h
no_integer Procedural id n h = no_cons _ _ h

no_parameter : (by : Writer) (id : Identifier) (n : Option ℤ) (width : ℕ) (signed : _) → write_faults by id (Some (known.Parameter n width signed)) ≡ [] → ⊥
no_parameter Continuous id n width signed h = no_cons _ _ h
no_parameter Procedural id n width signed h = no_cons _ _ h

-- what may be written is of the kind that is written
may_be_written : (by : Writer) (base : ℕ) (ss : List Signal) (id : Identifier) (n : ℕ) (r : Role) (shape : Option Shape) → HasKind base ss (Some (known.Signal n r shape)) → write_faults by id (Some (known.Signal n r shape)) ≡ [] → Has (λ s. s.kind ≡ written_kind by) ss (base + n)
may_be_written Continuous base ss id n role.Input shape k h = absurd (no_cons _ _ h)
may_be_written Continuous base ss id n role.Net shape k h = k
may_be_written Continuous base ss id n role.Variable shape k h = absurd (no_cons _ _ h)
may_be_written Procedural base ss id n role.Input shape k h = absurd (no_cons _ _ h)
may_be_written Procedural base ss id n role.Net shape k h = absurd (no_cons _ _ h)
may_be_written Procedural base ss id n role.Variable shape k h = k

abbrev pub piece_at : Spot → ℕ → Selection → Piece
piece_at spot signal selection = record { signal = signal; selection = selection; spot = spot }

whole : (by : Writer) (base : ℕ) (ss : List Signal) (spot : Spot) (id : Identifier) (k : Option Known) → IsDescribed base ss k → HasKind base ss k → write_faults by id k ≡ [] → SoundTarget ss (written_kind by) (name_breadth k) (piece_at spot (signal_of base k) piece.Whole ∷ [])
whole by base ss spot id None d has h = absurd (no_cons _ _ h)
whole by base ss spot id (Some (known.Integer n)) d has h = absurd (no_integer by id n h)
whole by base ss spot id (Some (known.Parameter n width signed)) d has h =
    absurd (no_parameter by id n width signed h)
whole by base ss spot id (Some (known.Signal n r None)) d has h = absurd d
whole by base ss spot id (Some (known.Signal n r (Some shape))) d has h =
    single ss (written_kind by) (fitted shape.width) (piece_at spot (base + n) piece.Whole) shape.width d.0 (may_be_written by base ss id n r (Some shape) has h) d.1 d.4 d.5 (fitted_is shape.width d.4 d.5)

bit_of : (ss : List Signal) (kind : Kind) (spot : Spot) (i low : ℕ) (o : Outcome) (index : Tree) → Has (λ s. s.low ≡ low) ss i → Has (λ s. s.kind ≡ kind) ss i → IsExpression ss index → SoundTarget ss kind (Bits 1) (piece_at spot i (bit_selection low o index) ∷ [])
bit_of ss kind spot i low (Ok number) index there has e =
    single ss kind (Bits 1) (piece_at spot i (piece.BitAt low number)) 1 there has refl (omega arith) (omega arith) refl
bit_of ss kind spot i low (Err cause) index there has e =
    single ss kind (Bits 1) (piece_at spot i (piece.BitBy low index)) 1 (there, e) has refl (omega arith) (omega arith) refl

bit : (by : Writer) (base : ℕ) (ss : List Signal) (spot : Spot) (id : Identifier) (k : Option Known) (o : Outcome) (index : Tree) → IsDescribed base ss k → HasKind base ss k → write_faults by id k ≡ [] → IsExpression ss index → SoundTarget ss (written_kind by) (Bits 1) (piece_at spot (signal_of base k) (bit_selection (low_of k) o index) ∷ [])
bit by base ss spot id None o index d has h e = absurd (no_cons _ _ h)
bit by base ss spot id (Some (known.Integer n)) o index d has h e = absurd (no_integer by id n h)
bit by base ss spot id (Some (known.Parameter n width signed)) o index d has h e =
    absurd (no_parameter by id n width signed h)
bit by base ss spot id (Some (known.Signal n r None)) o index d has h e = absurd d
bit by base ss spot id (Some (known.Signal n r (Some shape))) o index d has h e =
    bit_of ss (written_kind by) spot (base + n) shape.low o index (low_there ss (base + n) shape.low d.0 d.3) (may_be_written by base ss id n r (Some shape) has h) e

-- a part that is there
pub part_of : (ss : List Signal) (kind : Kind) (spot : Spot) (at i : ℕ) (f : Option Field) (trees : Context → Tree) → missing at f ≡ [] → Sound ss (field_breadth f) false trees (part_source spot i f) → Has (λ s. s.kind ≡ kind) ss i → SoundTarget ss kind (field_breadth f) (piece_at spot i (part_selection f) ∷ [])
part_of ss kind spot at i None trees h s has = absurd (no_cons _ _ h)
part_of ss kind spot at i (Some f) trees h s has =
    single ss kind (Bits f.width) (piece_at spot i (piece.Part f.low f.width)) f.width (s.some, width_there ss i f.low f.width s.lawful.0 s.lawful.2) has refl s.some s.small refl

part : (by : Writer) (base : ℕ) (ss : List Signal) (spot : Spot) (at : ℕ) (id : Identifier) (k : Option Known) (m l : Outcome) → IsDescribed base ss k → HasKind base ss k → write_faults by id k ≡ [] → number_faults m ≡ [] → number_faults l ≡ [] → part_faults at k m l ≡ [] → SoundTarget ss (written_kind by) (part_breadth k m l) (piece_at spot (signal_of base k) (part_selection (field_in k m l)) ∷ [])
part by base ss spot at id None m l d has h p q r = absurd (no_cons _ _ h)
part by base ss spot at id (Some (known.Integer n)) m l d has h p q r = absurd (no_integer by id n h)
part by base ss spot at id (Some (known.Parameter n width signed)) m l d has h p q r =
    absurd (no_parameter by id n width signed h)
part by base ss spot at id (Some (known.Signal n o None)) m l d has h p q r = absurd d
part by base ss spot at id (Some (known.Signal n o (Some shape))) (Err cause) l d has h p q r =
    absurd (no_cons _ _ p)
part by base ss spot at id (Some (known.Signal n o (Some shape))) (Ok m) (Err cause) d has h p q r =
    absurd (no_cons _ _ q)
part by base ss spot at id (Some (known.Signal n o (Some shape))) (Ok m) (Ok l) d has h p q r =
    let s = leaf.part base ss spot at id (Some (known.Signal n o (Some shape))) (Ok m) (Ok l) d refl refl refl r in
    part_of ss (written_kind by) spot at (base + n) (field_in (Some (known.Signal n o (Some shape))) (Ok m) (Ok l)) _ r s (may_be_written by base ss id n o (Some shape) has h)

along : (at : ℕ) (a b : Breadth) → a ≡ b → width_faults at (fit a) ≡ [] → width_faults at (fit b) ≡ []
along at a b is h = sym (ap (λ b. width_faults at (fit b)) is) ∙ h

joined : (ss : List Signal) (kind : Kind) (at : ℕ) (b : Breadth) (pieces : List Piece) → SoundRow ss kind b pieces → width_faults at (fit b) ≡ [] → SoundTarget ss kind (fit b) pieces
joined ss kind at b pieces r h =
    let n : ℕ = target_width ss pieces in
    let fine : (1 ≤ n) × (n ≤ 128) = fit_summed at n (along at b (summed n) r.width h) in
    record {
      parts = r.parts;
      kinds = r.kinds;
      some = fine.0;
      most = fine.1;
      width = ap fit r.width ∙ fit_is n fine.0 fine.1;
    }

more : (ss : List Signal) (kind : Kind) (a b : Breadth) (first others : List Piece) → SoundTarget ss kind a first → SoundRow ss kind b others → SoundRow ss kind (beside a b) (first ++ others)
more ss kind a b first others s r =
    let m : ℕ = target_width ss first in
    let n : ℕ = target_width ss others in
    let together : target_width ss (first ++ others) ≡ m + n = sum_by-append (λ p. selection_width ss p.signal p.selection) first others in
    record {
      parts = All-append (IsPart ss) first others s.parts r.parts;
      kinds = All-append (IsOfKind ss kind) first others s.kinds r.kinds;
      width =
          ap (λ a. beside a b) s.width
          ∙ ap (beside (Bits m)) r.width
          ∙ beside_summed m n s.most
          ∙ ap summed (sym together);
    }

mutual
  pub target_sound : (file base : ℕ) (scope : Meanings) (ss : List Signal) → IsScopeOf base ss scope → (by : Writer) (t : Target) → part_target_faults by scope t ≡ [] → SoundTarget ss (written_kind by) (target_breadth scope t) (pieces_of file base scope t)
  target_sound file base scope ss d by (Whole name) h =
      whole by base ss (spot_in file name.at) name (scope name.text) (d.described name.text) (d.kinds name.text) h
  target_sound file base scope ss d by (Bit name index) h =
      let first = write_faults by name (scope name.text) in
      let second = range_faults name (scope name.text) in
      let last = index_faults by name (constant (numbers_in scope) index) in
      let front : first ++ second ++ faults scope index ≡ [] = nil_left (first ++ second ++ faults scope index) last h in
      bit by base ss (spot_in file name.at) name (scope name.text) (constant (numbers_in scope) index) (tree_of file base scope index (own_context scope index)) (d.described name.text) (d.kinds name.text) (nil_left first second (nil_left (first ++ second) _ front)) (own_expression file base scope ss d index (nil_right (first ++ second) _ front))
  target_sound file base scope ss d by (Part name kind start end) h =
      let first = write_faults by name (scope name.text) in
      let second = range_faults name (scope name.text) in
      let third = constant_faults scope start in
      let fourth = constant_faults scope end in
      let fifth = run_faults name.at kind (constant (numbers_in scope) end) in
      let last = part_faults name.at (scope name.text) (msb_in scope kind start end) (lsb_in scope kind start end) in
      let five : first ++ second ++ third ++ fourth ++ fifth ≡ [] = nil_left (first ++ second ++ third ++ fourth ++ fifth) last h in
      let four : first ++ second ++ third ++ fourth ≡ [] = nil_left (first ++ second ++ third ++ fourth) fifth five in
      let three : first ++ second ++ third ≡ [] = nil_left (first ++ second ++ third) fourth four in
      let ends = leaf.ends kind (constant (numbers_in scope) start) (constant (numbers_in scope) end) (nil_right (faults scope start) _ (nil_right (first ++ second) third three)) (nil_right (faults scope end) _ (nil_right (first ++ second ++ third) fourth four)) in
      part by base ss (spot_in file name.at) name.at name (scope name.text) (msb_in scope kind start end) (lsb_in scope kind start end) (d.described name.text) (d.kinds name.text) (nil_left first second (nil_left (first ++ second) third three)) ends.0 ends.1 (nil_right (first ++ second ++ third ++ fourth ++ fifth) last h)
  target_sound file base scope ss d by (Joined at parts) h =
      joined ss (written_kind by) at (targets_breadth scope parts) (all_pieces_of file base scope parts) (row_sound file base scope ss d by parts (nil_left (joined_faults by scope parts) _ h)) (nil_right (joined_faults by scope parts) _ h)

  row_sound : (file base : ℕ) (scope : Meanings) (ss : List Signal) → IsScopeOf base ss scope → (by : Writer) (parts : Targets) → joined_faults by scope parts ≡ [] → SoundRow ss (written_kind by) (targets_breadth scope parts) (all_pieces_of file base scope parts)
  row_sound file base scope ss d by no_targets h =
      record { parts = All-nil (IsPart ss); kinds = All-nil (IsOfKind ss (written_kind by)); width = refl }
  row_sound file base scope ss d by (more_targets first others) h =
      more ss (written_kind by) (target_breadth scope first) (targets_breadth scope others) (pieces_of file base scope first) (all_pieces_of file base scope others) (target_sound file base scope ss d by first (nil_left (part_target_faults by scope first) _ h)) (row_sound file base scope ss d by others (nil_right (part_target_faults by scope first) _ h))
