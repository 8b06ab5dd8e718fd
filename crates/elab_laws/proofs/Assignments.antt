-- Assignments and connections without faults.
use Rattle.std.specs.Prelude.{ℕ, ◌<◌, ◌≤◌, max, Bool, true, List, [], ◌∷◌, length}
use Rattle.std.proofs.Common.{◌≡◌, refl, subst, arith}
use Rattle.std.proofs.lemmas.List.Elements.{All-nil}
use Rattle.text_ground.specs.declared.text.Spot.{Spot}
use Rattle.rtl_tree.specs.TreeExpr.{Formula}
use Rattle.rtl_tree.specs.TreeStmt.{Target}
use Rattle.rtl_flat.specs.declared.signal.Kind.{Kind}
use Rattle.rtl_flat.specs.declared.signal.Kind.TheVariants.{Net}
use Rattle.rtl_flat.specs.declared.signal.Signal.{Signal}
use Rattle.rtl_flat.specs.Expression.{Tree, Sized}
use Rattle.rtl_flat.specs.Expression as tree
use Rattle.rtl_flat.specs.Process.{Piece, Whole, Assign as Assigning}
use Rattle.rtl_flat.specs.Signs.{Has, IsExpression, width_in}
use Rattle.rtl_flat.specs.Sizing.{HaveBits, signed_in}
use Rattle.rtl_flat.specs.Sizing as sizing
use Rattle.rtl_flat.specs.WellFormed.{IsAssignment, IsProcess, AreApart, target_width}
use Rattle.rtl_flat.proofs.Signed.{is_expression}
use Rattle.elab_body.specs.elab_scope.declared.rules.Writer.{Writer}
use Rattle.elab_body.specs.elab_scope.declared.rules.Writer.TheVariants.{Continuous}
use Rattle.elab_body.specs.elab_scope.declared.widths.Breadth.{Breadth}
use Rattle.elab_body.specs.elab_scope.declared.widths.Breadth.TheVariants.{Bits}
use Rattle.elab_body.specs.elab_scope.Expressions.{faults}
use Rattle.elab_body.specs.elab_scope.Names.{Meanings}
use Rattle.elab_body.specs.elab_scope.Targets.{assigned_context, part_target_faults, pieces_of, target_breadth, target_faults, twice_faults, where_known}
use Rattle.elab_body.specs.elab_scope.Trees.{tree_of}
use Rattle.elab_body.specs.elab_scope.Widths.{bits, wider}
use Rattle.elab_body.proofs.elab_scope_proofs.Sound.{nil_left, nil_right}
use Rattle.elab_laws.specs.Scopes.{written_kind, IsScopeOf}
use Rattle.elab_laws.proofs.Apart.{one_fixed, target_apart, target_fixed}
use Rattle.elab_laws.proofs.Targets.{SoundTarget, piece_at, single, target_sound}
use Rattle.elab_laws.proofs.Values.{Assigned, Fits, assigned_value, beside_target, bits_most, bits_of_fit, wider_fits}

fit : (ss : List Signal) (kind : Kind) (b : Breadth) (target : List Piece) → SoundTarget ss kind b target → Fits b (target_width ss target)
fit ss kind b target t = record { some = t.some; most = t.most; width = t.width }

-- a target with a value that is sized with it
together : (ss : List Signal) (kind : Kind) (b : Breadth) (target : List Piece) (value : Tree) → SoundTarget ss kind b target → Assigned ss (target_width ss target) value → IsAssignment ss kind target value
together ss kind b target value t v =
    record { parts = t.parts; kinds = t.kinds; not_empty = t.some; at_most = t.most; sized = v.sized; covered = v.covered }

-- an assignment of an expression without faults to a target without faults
pub assignment : (file base : ℕ) (scope : Meanings) (ss : List Signal) → IsScopeOf base ss scope → (by : Writer) (t : Target) (e : Formula) → target_faults by scope t ≡ [] → faults scope e ≡ [] → IsAssignment ss (written_kind by) (pieces_of file base scope t) (tree_of file base scope e (assigned_context scope e t))
assignment file base scope ss d by t e h g =
    let s = target_sound file base scope ss d by t (nil_left (part_target_faults by scope t) _ h) in
    together ss (written_kind by) (target_breadth scope t) (pieces_of file base scope t) (tree_of file base scope e (assigned_context scope e t)) s (assigned_value file base scope ss d e g (target_breadth scope t) (target_width ss (pieces_of file base scope t)) (fit ss (written_kind by) (target_breadth scope t) (pieces_of file base scope t) s))

no_twice : (file base : ℕ) (scope : Meanings) (ss : List Signal) → IsScopeOf base ss scope → (t : Target) → target_faults Continuous scope t ≡ [] → twice_faults scope [] t ≡ []
no_twice file base scope ss d t h =
    let s = target_sound file base scope ss d Continuous t (nil_left (part_target_faults Continuous scope t) _ h) in
    subst (λ b. where_known Continuous b (twice_faults scope [] t) ≡ []) s.width (nil_right (part_target_faults Continuous scope t) _ h)

-- any value that is sized with a continuous target
driven : (file base : ℕ) (scope : Meanings) (ss : List Signal) → IsScopeOf base ss scope → (t : Target) → target_faults Continuous scope t ≡ [] → (value : Tree) → IsAssignment ss Net (pieces_of file base scope t) value → IsProcess ss (Assigning (pieces_of file base scope t) value)
driven file base scope ss d t h value a =
    let parts : part_target_faults Continuous scope t ≡ [] = nil_left (part_target_faults Continuous scope t) _ h in
    (a, target_fixed file base scope t parts, target_apart file base scope ss d.described t parts (no_twice file base scope ss d t h))

-- a continuous assignment
pub continuous : (file base : ℕ) (scope : Meanings) (ss : List Signal) → IsScopeOf base ss scope → (t : Target) (e : Formula) → target_faults Continuous scope t ≡ [] → faults scope e ≡ [] → IsProcess ss (Assigning (pieces_of file base scope t) (tree_of file base scope e (assigned_context scope e t)))
continuous file base scope ss d t e h g =
    driven file base scope ss d t h (tree_of file base scope e (assigned_context scope e t)) (assignment file base scope ss d Continuous t e h g)

-- a signal that is read whole, in a context that is no narrower and signed only where the signal is
pub whole_read : (ss : List Signal) → HaveBits ss → (i w : ℕ) (s : Bool) (spot : Spot) → i < length ss → width_in ss i ≤ w → w ≤ 128 → (s ≡ true → signed_in ss i ≡ true) → IsExpression ss (Sized w s spot (tree.Whole i))
whole_read ss has i w s spot there below top may =
    is_expression ss has w s (sizing.Whole spot i) there below top may

-- a port of an instance, which is driven whole
pub input_connection : (file base : ℕ) (scope : Meanings) (ss : List Signal) → IsScopeOf base ss scope → (i : ℕ) (spot : Spot) (b : Breadth) (e : Formula) → i < length ss → width_in ss i ≤ 128 → b ≡ Bits (width_in ss i) → Has (λ s. s.kind ≡ Net) ss i → faults scope e ≡ [] → IsProcess ss (Assigning (piece_at spot i Whole ∷ []) (tree_of file base scope e (beside_target scope e b)))
input_connection file base scope ss d i spot b e there most is has h =
    let p : Piece = piece_at spot i Whole in
    let some : 1 ≤ width_in ss i = d.bits i there in
    let s = single ss Net b p (width_in ss i) there has refl some most is in
    let value = tree_of file base scope e (beside_target scope e b) in
    (together ss Net b (p ∷ []) value s (assigned_value file base scope ss d e h b (target_width ss (p ∷ [])) (fit ss Net b (p ∷ []) s)), one_fixed p tt, (All-nil (AreApart ss p), tt))

-- a port that drives a target
pub output_connection : (file base : ℕ) (scope : Meanings) (ss : List Signal) → IsScopeOf base ss scope → (t : Target) (i : ℕ) (s : Bool) (spot : Spot) (b : Breadth) → i < length ss → width_in ss i ≤ 128 → b ≡ Bits (width_in ss i) → (s ≡ true → signed_in ss i ≡ true) → target_faults Continuous scope t ≡ [] → IsProcess ss (Assigning (pieces_of file base scope t) (Sized (bits (wider (target_breadth scope t) b)) s spot (tree.Whole i)))
output_connection file base scope ss d t i s spot b there most is may h =
    let target = target_sound file base scope ss d Continuous t (nil_left (part_target_faults Continuous scope t) _ h) in
    let n : ℕ = target_width ss (pieces_of file base scope t) in
    let f : Fits (target_breadth scope t) n = fit ss Net (target_breadth scope t) (pieces_of file base scope t) target in
    let g : Fits b (width_in ss i) = record { some = d.bits i there; most = most; width = is } in
    let w : ℕ = bits (wider (target_breadth scope t) b) in
    let both : w ≡ max n (width_in ss i) = bits_of_fit (wider (target_breadth scope t) b) (max n (width_in ss i)) (wider_fits (target_breadth scope t) b n (width_in ss i) f g) in
    let value : Tree = Sized w s spot (tree.Whole i) in
    let v : Assigned ss n value = record { sized = whole_read ss d.bits i w s spot there (omega (arith, both)) (bits_most (wider (target_breadth scope t) b)) may; covered = omega (arith, both) } in
    driven file base scope ss d t h value (together ss Net (target_breadth scope t) (pieces_of file base scope t) value target v)
