-- Literals with a z bit.
use Rattle.std.proofs.Common.{ℕ, ◌≡◌, Bool, true, false, ◌||◌, List, [], ◌∷◌, ◌++◌, refl, ap}
use Rattle.std.specs.List.{cons_option, list_any}
use Rattle.rtl_bits.specs.declared.Bit.{Bit}
use Rattle.text_ground.specs.declared.text.Spot.{Spot}
use Rattle.rtl_flat.specs.declared.expr.Index.TheVariants as index
use Rattle.rtl_flat.specs.declared.expr.Node.{Node, Row_of-SizedExpr, end_of-SizedExpr, more_of-SizedExpr}
use Rattle.rtl_flat.specs.declared.expr.Node.TheVariants as node
use Rattle.rtl_flat.specs.declared.expr.Select.TheVariants as select
use Rattle.rtl_flat.specs.Expression.{Tree, Sized, form, row}
use Rattle.rtl_rule.specs.Parts.{is_literal_with, is_z, place_of, spot_if}
use Rattle.check_assign.specs.Marks.{z_spots}

row_no_literal : (test : Bit → Bool) (w : ℕ) (s : Bool) (at : Spot) {m : _} (parts : Row_of-SizedExpr m) → false ≡ is_literal_with test (Sized w s at (row parts))
row_no_literal test w s at end_of-SizedExpr = refl
row_no_literal test w s at (more_of-SizedExpr w' s' a at' others) = refl

pub no_literal : (test : Bit → Bool) (w : ℕ) (s : Bool) (at : Spot) (n : Node) → ((bits : List Bit) → n ≡ node.Literal bits → ⊥) → false ≡ is_literal_with test (Sized w s at (form n))
no_literal test w s at (node.Literal bits) other = absurd (other bits refl)
no_literal test w s at (node.Read i select.Whole) other = refl
no_literal test w s at (node.Read i (select.Bit low (index.Fixed k))) other = refl
no_literal test w s at (node.Read i (select.Bit low (index.Computed' p w' s' a at'))) other = refl
no_literal test w s at (node.Read i (select.Part low width)) other = refl
no_literal test w s at (node.Concat' shape parts) other = row_no_literal test w s at parts
no_literal test w s at _ other = refl

-- ---- their places

pub z_none : (otherwise : Spot) (one : Tree) → is_literal_with is_z one ≡ false → z_spots otherwise (one ∷ []) ≡ []
z_none otherwise one none = ap (λ b. cons_option (spot_if b (place_of otherwise one)) []) none

pub z_some : (otherwise : Spot) (one : Tree) → is_literal_with is_z one ≡ true → z_spots otherwise (one ∷ []) ≡ place_of otherwise one ∷ []
z_some otherwise one some = ap (λ b. cons_option (spot_if b (place_of otherwise one)) []) some

-- a place more, where there is one
abbrev with_spot : Bool → Spot → List Spot → List Spot
with_spot found spot others = cons_option (spot_if found spot) others

with_append : (b : Bool) (spot : Spot) (all xs ys : List Spot) → all ≡ xs ++ ys → with_spot b spot all ≡ with_spot b spot xs ++ ys
with_append true spot all xs ys e = ap (λ zs. spot ∷ zs) e
with_append false spot all xs ys e = e

pub z_append : (otherwise : Spot) (xs ys : List Tree) → z_spots otherwise (xs ++ ys) ≡ z_spots otherwise xs ++ z_spots otherwise ys
z_append otherwise [] ys = refl
z_append otherwise (x ∷ xs) ys =
    with_append (is_literal_with is_z x) (place_of otherwise x) (z_spots otherwise (xs ++ ys)) (z_spots otherwise xs) (z_spots otherwise ys) (z_append otherwise xs ys)

with_none : (b c : Bool) (spot : Spot) (others : List Spot) → with_spot b spot others ≡ [] → (others ≡ [] → c ≡ false) → (b || c) ≡ false
with_none true c spot others e later = absurd (cc)
with_none false c spot others e later = later e

with_some : (b c : Bool) (spot : Spot) (others : List Spot) → (with_spot b spot others ≡ [] → ⊥) → ((others ≡ [] → ⊥) → c ≡ true) → (b || c) ≡ true
with_some true c spot others e later = refl
with_some false c spot others e later = later e

-- there is none just where no expression is such a literal
pub z_empty : (otherwise : Spot) (xs : List Tree) → z_spots otherwise xs ≡ [] → list_any (is_literal_with is_z) xs ≡ false
z_empty otherwise [] none = refl
z_empty otherwise (x ∷ xs) none =
    with_none (is_literal_with is_z x) (list_any (is_literal_with is_z) xs) (place_of otherwise x) (z_spots otherwise xs) none (z_empty otherwise xs)

pub z_there : (otherwise : Spot) (xs : List Tree) → (z_spots otherwise xs ≡ [] → ⊥) → list_any (is_literal_with is_z) xs ≡ true
z_there otherwise [] some = absurd (some refl)
z_there otherwise (x ∷ xs) some =
    with_some (is_literal_with is_z x) (list_any (is_literal_with is_z) xs) (place_of otherwise x) (z_spots otherwise xs) some (z_there otherwise xs)
