-- Expressions without faults in the contexts that statements and targets give them.
use Rattle.std.specs.Prelude.{ℕ, ◌≤◌, max, min, List, []}
use Rattle.std.proofs.Common.{◌≡◌, ◌∙◌, ap, refl, arith}
use Rattle.rtl_tree.specs.TreeExpr.{Formula, Number, Read, ReadBit, ReadPart, Parens, Apply, Concat, Repeat, Unary, Binary, Choose}
use Rattle.rtl_flat.specs.declared.signal.Signal.{Signal}
use Rattle.rtl_flat.specs.Expression.{Tree}
use Rattle.rtl_flat.specs.Signs.{IsExpression, sign_of, width_in}
use Rattle.rtl_flat.specs.Sizes.{width_of}
use Rattle.rtl_flat.specs.Sizing.{own_width}
use Rattle.elab_body.specs.elab_scope.declared.context.Context.{Context}
use Rattle.elab_body.specs.elab_scope.declared.widths.Breadth.{Breadth}
use Rattle.elab_body.specs.elab_scope.declared.widths.Breadth.TheVariants.{Bits, Unfit, Hidden}
use Rattle.elab_body.specs.elab_scope.Expressions.{faults}
use Rattle.elab_body.specs.elab_scope.Names.{Meanings}
use Rattle.elab_body.specs.elab_scope.Own.{breadth, sign}
use Rattle.elab_body.specs.elab_scope.Sources.{source}
use Rattle.elab_body.specs.elab_scope.Trees.{own_context, tree_of}
use Rattle.elab_body.specs.elab_scope.Widths.{bits, wider}
use Rattle.elab_body.proofs.elab_scope_proofs.Law.{sound, tree_is_expression}
use Rattle.elab_laws.specs.Scopes.{IsScopeOf}

-- a tree has the width and the sign of its context
pub tree_width : (file base : ℕ) (scope : Meanings) (ws : ℕ → ℕ) (e : Formula) (c : Context) → width_of ws (tree_of file base scope e c) ≡ c.width
tree_width file base scope ws (Number value at) c = refl
tree_width file base scope ws (Read name) c = refl
tree_width file base scope ws (ReadBit name index) c = refl
tree_width file base scope ws (ReadPart name kind first second) c = refl
tree_width file base scope ws (Parens at inner) c = tree_width file base scope ws inner c
tree_width file base scope ws (Apply function at inner) c = refl
tree_width file base scope ws (Concat at parts) c = refl
tree_width file base scope ws (Repeat at times parts) c = refl
tree_width file base scope ws (Unary operator at a) c = refl
tree_width file base scope ws (Binary operator at a b) c = refl
tree_width file base scope ws (Choose at k a b) c = refl

pub tree_sign : (file base : ℕ) (scope : Meanings) (e : Formula) (c : Context) → sign_of (tree_of file base scope e c) ≡ c.signed
tree_sign file base scope (Number value at) c = refl
tree_sign file base scope (Read name) c = refl
tree_sign file base scope (ReadBit name index) c = refl
tree_sign file base scope (ReadPart name kind first second) c = refl
tree_sign file base scope (Parens at inner) c = tree_sign file base scope inner c
tree_sign file base scope (Apply function at inner) c = refl
tree_sign file base scope (Concat at parts) c = refl
tree_sign file base scope (Repeat at times parts) c = refl
tree_sign file base scope (Unary operator at a) c = refl
tree_sign file base scope (Binary operator at a b) c = refl
tree_sign file base scope (Choose at k a b) c = refl

-- a breadth of so many bits that fit
pub record Fits (b : Breadth) (n : ℕ) : Type 0 where
  pub some : 1 ≤ n
  pub most : n ≤ 128
  pub width : b ≡ Bits n

pub bits_most : (b : Breadth) → bits b ≤ 128
bits_most (Bits n) = omega arith
bits_most Unfit = omega arith
bits_most Hidden = omega arith

-- how many bits an expression without faults has
pub own_bits : (base : ℕ) (scope : Meanings) (ss : List Signal) → Formula → ℕ
own_bits base scope ss e = own_width ss (source 0 base scope e)

pub own_fits : (base : ℕ) (scope : Meanings) (ss : List Signal) → IsScopeOf base ss scope → (e : Formula) → faults scope e ≡ [] → Fits (breadth scope e) (own_bits base scope ss e)
unfolding own_bits
own_fits base scope ss d e h =
    let s = sound 0 base scope ss d.described e h in
    record { some = s.some; most = s.small; width = s.width }

clamped : (n : ℕ) → 1 ≤ n → n ≤ 128 → min (max n 1) 128 ≡ n
clamped n low high = omega arith

pub bits_of_fit : (b : Breadth) (n : ℕ) → Fits b n → bits b ≡ n
bits_of_fit b n f = ap bits f.width ∙ clamped n f.some f.most

pub wider_fits : (a b : Breadth) (m n : ℕ) → Fits a m → Fits b n → Fits (wider a b) (max m n)
wider_fits a b m n f g =
    let low : 1 ≤ m = f.some in
    let high : m ≤ 128 = f.most in
    let top : n ≤ 128 = g.most in
    record {
      some = omega (arith, low);
      most = omega (arith, high, top);
      width = ap (λ w. wider w b) f.width ∙ ap (wider (Bits m)) g.width;
    }

-- an expression that is sized by itself
pub own_expression : (file base : ℕ) (scope : Meanings) (ss : List Signal) → IsScopeOf base ss scope → (e : Formula) → faults scope e ≡ [] → IsExpression ss (tree_of file base scope e (own_context scope e))
own_expression file base scope ss d e h =
    tree_is_expression file base scope ss d.described d.bits e h (own_context scope e) (omega arith) (bits_most (breadth scope e)) (λ is. is)

-- an expression that is sized with a target of so many bits
pub record Assigned (ss : List Signal) (n : ℕ) (value : Tree) : Type 0 where
  pub sized : IsExpression ss value
  pub covered : n ≤ width_of (width_in ss) value

abbrev pub beside_target : Meanings → Formula → Breadth → Context
beside_target scope e b = record { width = bits (wider b (breadth scope e)); signed = sign scope e }

pub assigned_value : (file base : ℕ) (scope : Meanings) (ss : List Signal) → IsScopeOf base ss scope → (e : Formula) → faults scope e ≡ [] → (b : Breadth) (n : ℕ) → Fits b n → Assigned ss n (tree_of file base scope e (beside_target scope e b))
assigned_value file base scope ss d e h b n f =
    let m : ℕ = own_bits base scope ss e in
    let g : Fits (breadth scope e) m = own_fits base scope ss d e h in
    let own : bits (breadth scope e) ≡ m = bits_of_fit (breadth scope e) m g in
    let both : bits (wider b (breadth scope e)) ≡ max n m = bits_of_fit (wider b (breadth scope e)) (max n m) (wider_fits b (breadth scope e) n m f g) in
    let width = tree_width file base scope (width_in ss) e (beside_target scope e b) in
    record {
      sized = tree_is_expression file base scope ss d.described d.bits e h (beside_target scope e b) (omega (arith, own, both)) (bits_most (wider b (breadth scope e))) (λ is. is);
      covered = omega (arith, width, both);
    }
