-- The selector of a case and its labels in their context.
use Rattle.std.specs.Prelude.{ℕ, ◌≤◌, max, Bool, true, false, ◌&&◌, List, [], ◌∷◌, ◌++◌, map}
use Rattle.std.specs.List.{All}
use Rattle.std.proofs.Common.{◌≡◌, ◌∙◌, sym, refl, arith, get_or}
use Rattle.std.proofs.lemmas.Bool.{true≢false}
use Rattle.std.proofs.lemmas.List.Elements.{All-nil, All-cons, All-map}
use Rattle.rtl_tree.specs.TreeExpr.{Formula}
use Rattle.rtl_tree.specs.TreeStmt.{Branch, Labelled, Default, Branches, no_branches, more_branches}
use Rattle.rtl_flat.specs.declared.signal.Signal.{Signal}
use Rattle.rtl_flat.specs.Signs.{IsExpression, sign_of, width_in}
use Rattle.rtl_flat.specs.Sizes.{width_of}
use Rattle.elab_body.specs.elab_scope.declared.context.Context.{Context}
use Rattle.elab_body.specs.elab_scope.declared.widths.Breadth.{Breadth}
use Rattle.elab_body.specs.elab_scope.Expressions.{faults}
use Rattle.elab_body.specs.elab_scope.Names.{Meanings}
use Rattle.elab_body.specs.elab_scope.Own.{breadth, sign}
use Rattle.elab_body.specs.elab_scope.Trees.{tree_of}
use Rattle.elab_body.specs.elab_scope.Widths.{bits, wider}
use Rattle.elab_body.proofs.elab_scope_proofs.Law.{tree_is_expression}
use Rattle.elab_body.proofs.elab_scope_proofs.Sound.{nil_left, nil_right}
use Rattle.elab_body.specs.Acts.{labels_breadth, labels_sign, branches_breadth, branches_sign}
use Rattle.elab_body.specs.Bodies.{all_faults, branches_steps, steps}
use Rattle.elab_body.specs.Steps.{faulty}
use Rattle.elab_body.specs.Faultless.{AreFaultless}
use Rattle.elab_laws.specs.Scopes.{IsScopeOf}
use Rattle.elab_laws.proofs.Steps.{faultless_left, faultless_right, no_faults}
use Rattle.elab_laws.proofs.Values.{Fits, bits_of_fit, own_bits, own_fits, tree_sign, tree_width, wider_fits}

-- labels of at most so many bits
abbrev pub AreBelow : Meanings → ℕ → List Formula → Type 0
AreBelow scope n [] = Unit {0}
AreBelow scope n (label ∷ labels) = (bits (breadth scope label) ≤ n) × AreBelow scope n labels

abbrev pub IsBelow : Meanings → ℕ → Branch → Type 0
IsBelow scope n (Labelled labels body) = AreBelow scope n labels
IsBelow scope n (Default at body) = Unit {0}

abbrev pub AllBelow : Meanings → ℕ → Branches → Type 0
AllBelow scope n no_branches = Unit {0}
AllBelow scope n (more_branches first others) = IsBelow scope n first × AllBelow scope n others

abbrev pub AreSigned : Meanings → List Formula → Type 0
AreSigned scope [] = Unit {0}
AreSigned scope (label ∷ labels) = (sign scope label ≡ true) × AreSigned scope labels

abbrev pub IsSignedBranch : Meanings → Branch → Type 0
IsSignedBranch scope (Labelled labels body) = AreSigned scope labels
IsSignedBranch scope (Default at body) = Unit {0}

abbrev pub AllSigned : Meanings → Branches → Type 0
AllSigned scope no_branches = Unit {0}
AllSigned scope (more_branches first others) = IsSignedBranch scope first × AllSigned scope others

-- the widest of some labels and of what came before, which has n bits
record WidestLabels (scope : Meanings) (b : Breadth) (labels : List Formula) (n : ℕ) : Type 0 where
  pub size : ℕ
  pub fits : Fits b size
  pub above : n ≤ size
  pub each : AreBelow scope size labels

pub record WidestBranches (scope : Meanings) (b : Breadth) (branches : Branches) (n : ℕ) : Type 0 where
  pub size : ℕ
  pub fits : Fits b size
  pub above : n ≤ size
  pub each : AllBelow scope size branches

below_more : (scope : Meanings) (m n : ℕ) (labels : List Formula) → m ≤ n → AreBelow scope m labels → AreBelow scope n labels
below_more scope m n [] low h = tt
below_more scope m n (label ∷ labels) low h =
    let first : bits (breadth scope label) ≤ m = h.0 in
    (omega (arith, first, low), below_more scope m n labels low h.1)

widest_labels : (base : ℕ) (scope : Meanings) (ss : List Signal) → IsScopeOf base ss scope → (b : Breadth) (n : ℕ) → Fits b n → (labels : List Formula) → all_faults scope labels ≡ [] → WidestLabels scope (labels_breadth scope b labels) labels n
widest_labels base scope ss d b n f [] h =
    record { size = n; fits = f; above = omega arith; each = tt }
widest_labels base scope ss d b n f (label ∷ labels) h =
    let m : ℕ = own_bits base scope ss label in
    let g : Fits (breadth scope label) m = own_fits base scope ss d label (nil_left (faults scope label) _ h) in
    let own : bits (breadth scope label) ≡ m = bits_of_fit (breadth scope label) m g in
    let r = widest_labels base scope ss d (wider b (breadth scope label)) (max n m) (wider_fits b (breadth scope label) n m f g) labels (nil_right (faults scope label) _ h) in
    let top : max n m ≤ r.size = r.above in
    record { size = r.size; fits = r.fits; above = omega (arith, top); each = (omega (arith, top, own), r.each) }

pub widest_branches : (base : ℕ) (scope : Meanings) (ss : List Signal) → IsScopeOf base ss scope → (b : Breadth) (n : ℕ) → Fits b n → (branches : Branches) → AreFaultless (branches_steps branches scope) → WidestBranches scope (branches_breadth scope b branches) branches n
widest_branches base scope ss d b n f no_branches h =
    record { size = n; fits = f; above = omega arith; each = tt }
widest_branches base scope ss d b n f (more_branches (Default at body) others) h =
    let r = widest_branches base scope ss d b n f others (faultless_right (steps body scope) _ h) in
    record { size = r.size; fits = r.fits; above = r.above; each = (tt, r.each) }
widest_branches base scope ss d b n f (more_branches (Labelled labels body) others) h =
    let item = faulty (all_faults scope labels) ++ steps body scope in
    let none : all_faults scope labels ≡ [] = no_faults (all_faults scope labels) (faultless_left (faulty (all_faults scope labels)) (steps body scope) (faultless_left item _ h)) in
    let one = widest_labels base scope ss d b n f labels none in
    let r = widest_branches base scope ss d (labels_breadth scope b labels) one.size one.fits others (faultless_right item _ h) in
    let low : n ≤ one.size = one.above in
    let high : one.size ≤ r.size = r.above in
    record { size = r.size; fits = r.fits; above = omega (arith, low, high); each = (below_more scope one.size r.size labels high one.each, r.each) }

both_true : (a b : Bool) → (a && b) ≡ true → (a ≡ true) × (b ≡ true)
both_true true b h = (refl, h)
both_true false b h = absurd (true≢false (sym h))

signed_labels : (scope : Meanings) (signed : Bool) (labels : List Formula) → labels_sign scope signed labels ≡ true → (signed ≡ true) × AreSigned scope labels
signed_labels scope signed [] h = (h, tt)
signed_labels scope signed (label ∷ labels) h =
    let r = signed_labels scope (signed && sign scope label) labels h in
    let both = both_true signed (sign scope label) r.0 in
    (both.0, (both.1, r.1))

pub signed_branches : (scope : Meanings) (signed : Bool) (branches : Branches) → branches_sign scope signed branches ≡ true → (signed ≡ true) × AllSigned scope branches
signed_branches scope signed no_branches h = (h, tt)
signed_branches scope signed (more_branches (Default at body) others) h =
    let r = signed_branches scope signed others h in
    (r.0, (tt, r.1))
signed_branches scope signed (more_branches (Labelled labels body) others) h =
    let r = signed_branches scope (labels_sign scope signed labels) others h in
    let one = signed_labels scope signed labels r.0 in
    (one.0, (one.1, r.1))

pub labels_lawful : (file base : ℕ) (scope : Meanings) (ss : List Signal) → IsScopeOf base ss scope → (c : Context) → c.width ≤ 128 → (labels : List Formula) → all_faults scope labels ≡ [] → AreBelow scope c.width labels → (c.signed ≡ true → AreSigned scope labels) → All (IsExpression ss) (map (λ label. tree_of file base scope label c) labels)
labels_lawful file base scope ss d c top [] h low may = All-nil (IsExpression ss)
labels_lawful file base scope ss d c top (label ∷ labels) h low may =
    All-cons (IsExpression ss) (tree_of file base scope label c) (map (λ label. tree_of file base scope label c) labels) (tree_is_expression file base scope ss d.described d.bits label (nil_left (faults scope label) _ h) c low.0 top (λ is. (may is).0)) (labels_lawful file base scope ss d c top labels (nil_right (faults scope label) _ h) low.1 (λ is. (may is).1))

pub same_widths : (file base : ℕ) (scope : Meanings) (ss : List Signal) (c : Context) (selector : Formula) (labels : List Formula) → All (λ label. width_of (width_in ss) label ≡ width_of (width_in ss) (tree_of file base scope selector c)) (map (λ label. tree_of file base scope label c) labels)
same_widths file base scope ss c selector labels =
    All-map (λ label. width_of (width_in ss) label ≡ width_of (width_in ss) (tree_of file base scope selector c)) (λ label. tree_of file base scope label c) labels (λ k label lt. tree_width file base scope (width_in ss) (get_or labels k label) c ∙ sym (tree_width file base scope (width_in ss) selector c))

pub same_signs : (file base : ℕ) (scope : Meanings) (c : Context) (selector : Formula) (labels : List Formula) → All (λ label. sign_of label ≡ sign_of (tree_of file base scope selector c)) (map (λ label. tree_of file base scope label c) labels)
same_signs file base scope c selector labels =
    All-map (λ label. sign_of label ≡ sign_of (tree_of file base scope selector c)) (λ label. tree_of file base scope label c) labels (λ k label lt. tree_sign file base scope (get_or labels k label) c ∙ sym (tree_sign file base scope selector c))
