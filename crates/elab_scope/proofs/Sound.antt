-- What an expression without faults has, form by form.
use Rattle.std.specs.Prelude.{ℕ, ◌≤◌, max, min, Bool, true, false, ◌&&◌, List, [], ◌∷◌, ◌++◌, length}
use Rattle.std.proofs.Common.{◌≡◌, ◌∙◌, ap, sym, refl, arith}
use Rattle.rtl_bits.specs.Bits.{extended}
use Rattle.rtl_bits.specs.Inside.{length-tabulate}
use Rattle.rtl_const.specs.Constant.{Outcome}
use Rattle.rtl_tree.specs.declared.tree.operators.SystemFunction.{SystemFunction}
use Rattle.rtl_tree.specs.declared.tree.operators.SystemFunction.TheVariants.{Signed, Unsigned, Clog2}
use Rattle.text_ground.specs.declared.text.Spot.{Spot}
use Rattle.rtl_tree.specs.TreeExpr.{Formula}
use Rattle.rtl_flat.specs.declared.signal.Signal.{Signal}
use Rattle.rtl_flat.specs.Expression.{Tree, Sized}
use Rattle.rtl_flat.specs.Expression as tree
use Rattle.rtl_flat.specs.Sizing.{Source, own_width, own_sign, sized, IsLawful}
use Rattle.rtl_flat.specs.Sizing as sizing
use Rattle.elab_scope.specs.declared.context.Context.{Context}
use Rattle.elab_scope.specs.declared.operators.Prefix.{Prefix}
use Rattle.elab_scope.specs.declared.operators.Prefix.TheVariants.{Turn, Fold}
use Rattle.elab_scope.specs.declared.operators.Operation.{Operation}
use Rattle.elab_scope.specs.declared.operators.Operation.TheVariants.{Join, Compare, Link, Shift, Power}
use Rattle.elab_scope.specs.declared.widths.Breadth.{Breadth}
use Rattle.elab_scope.specs.declared.widths.Breadth.TheVariants.{Bits}
use Rattle.elab_scope.specs.Faults.{Refusal}
use Rattle.elab_scope.specs.Names.{Meanings}
use Rattle.elab_scope.specs.Own.{breadth, sign, function_breadth, is_signed, prefix_breadth, prefix_sign, operation_breadth, operation_sign}
use Rattle.elab_scope.specs.Sources.{source, function_source, prefix_source, operation_source}
use Rattle.elab_scope.specs.Trees.{tree_of, own_context, shared_context, operand_context, left_context, right_context, number_bits, function_form, prefix_form, operation_form}
use Rattle.elab_scope.specs.Widths.{bits, wider}

pub nil_left : (xs ys : List Refusal) → xs ++ ys ≡ [] → xs ≡ []
nil_left [] ys h = refl
nil_left (x ∷ xs) ys h = cc

pub nil_right : (xs ys : List Refusal) → xs ++ ys ≡ [] → ys ≡ []
nil_right [] ys h = h
nil_right (x ∷ xs) ys h = cc

-- a source has this breadth, this sign and these trees, and is lawful
pub record Sound (ss : List Signal) (b : Breadth) (s : Bool) (trees : Context → Tree) (e : Source) : Type 0 where
  pub lawful : IsLawful ss e
  pub width : b ≡ Bits (own_width ss e)
  pub some : 1 ≤ own_width ss e
  pub small : own_width ss e ≤ 128
  pub sign : s ≡ own_sign ss e
  pub tree : (c : Context) → trees c ≡ sized ss c.width c.signed e

-- an expression is its source
abbrev pub IsSound : ℕ → ℕ → Meanings → List Signal → Formula → Type 0
IsSound file base scope ss e =
    Sound ss (breadth scope e) (sign scope e) (tree_of file base scope e) (source file base scope e)

clamped : (n : ℕ) → 1 ≤ n → n ≤ 128 → min (max n 1) 128 ≡ n
clamped n low high = omega arith

abbrev context : ℕ → Bool → Context
context w s = record { width = w; signed = s }

own_is : (file base : ℕ) (scope : Meanings) (ss : List Signal) (e : Formula) → IsSound file base scope ss e → own_context scope e ≡ context (own_width ss (source file base scope e)) (own_sign ss (source file base scope e))
own_is file base scope ss e h =
    ap (λ w. context (bits w) (sign scope e)) h.width
    ∙ ap (λ w. context w (sign scope e)) (clamped (own_width ss (source file base scope e)) h.some h.small)
    ∙ ap (context (own_width ss (source file base scope e))) h.sign

-- an operand that is sized by itself
pub own_tree : (file base : ℕ) (scope : Meanings) (ss : List Signal) (e : Formula) → IsSound file base scope ss e → tree_of file base scope e (own_context scope e) ≡ sized ss (own_width ss (source file base scope e)) (own_sign ss (source file base scope e)) (source file base scope e)
own_tree file base scope ss e h =
    ap (tree_of file base scope e) (own_is file base scope ss e h) ∙ h.tree _

shared_is : (file base : ℕ) (scope : Meanings) (ss : List Signal) (a b : Formula) → IsSound file base scope ss a → IsSound file base scope ss b → shared_context scope a b ≡ context (max (own_width ss (source file base scope a)) (own_width ss (source file base scope b))) (own_sign ss (source file base scope a) && own_sign ss (source file base scope b))
shared_is file base scope ss a b ha hb =
    let m = own_width ss (source file base scope a) in
    let n = own_width ss (source file base scope b) in
    let p : 1 ≤ max m n = omega (arith, ha.some) in
    let q : max m n ≤ 128 = omega (arith, ha.small, hb.small) in
    ap (λ w. context (bits (wider w (breadth scope b))) (sign scope a && sign scope b)) ha.width
    ∙ ap (λ w. context (bits (wider (Bits m) w)) (sign scope a && sign scope b)) hb.width
    ∙ ap (λ w. context w (sign scope a && sign scope b)) (clamped (max m n) p q)
    ∙ ap (λ s. context (max m n) (s && sign scope b)) ha.sign
    ∙ ap (λ s. context (max m n) (own_sign ss (source file base scope a) && s)) hb.sign

pub unary : (file base : ℕ) (scope : Meanings) (ss : List Signal) (spot : Spot) (p : Prefix) (e : Formula) → IsSound file base scope ss e → Sound ss (prefix_breadth p (breadth scope e)) (prefix_sign p (sign scope e)) (λ c. Sized c.width c.signed spot (prefix_form p (tree_of file base scope e (operand_context scope p e c)))) (prefix_source spot p (source file base scope e))
unary file base scope ss spot (Turn o) e h =
    record {
      lawful = h.lawful;
      width = h.width;
      some = h.some;
      small = h.small;
      sign = h.sign;
      tree = λ c. ap (λ t. Sized c.width c.signed spot (tree.Turned o t)) (h.tree c);
    }
unary file base scope ss spot (Fold o) e h =
    record {
      lawful = (h.lawful, h.small);
      width = refl;
      some = omega arith;
      small = omega arith;
      sign = refl;
      tree = λ c. ap (λ t. Sized c.width c.signed spot (tree.Folded o t)) (own_tree file base scope ss e h);
    }

widened : (a b : Breadth) (m n : ℕ) → a ≡ Bits m → b ≡ Bits n → wider a b ≡ Bits (max m n)
widened a b m n p q = ap (λ w. wider w b) p ∙ ap (wider (Bits m)) q

recast : (file base : ℕ) (scope : Meanings) (ss : List Signal) (spot : Spot) (s : Bool) (e : Formula) → IsSound file base scope ss e → Sound ss (breadth scope e) s (λ c. Sized c.width c.signed spot (tree.Recast (tree_of file base scope e (own_context scope e)))) (sizing.Recast spot s (source file base scope e))
recast file base scope ss spot s e h =
    record {
      lawful = (h.lawful, h.small);
      width = h.width;
      some = h.some;
      small = h.small;
      sign = refl;
      tree = λ c. ap (λ t. Sized c.width c.signed spot (tree.Recast t)) (own_tree file base scope ss e h);
    }

length-number : (width : ℕ) (n : Outcome) → 1 ≤ width → width ≤ 128 → length (number_bits (Bits width) n) ≡ width
length-number width n low high = length-tabulate (bits (Bits width)) _ ∙ clamped width low high

-- what a function of the system gives
pub applied : (file base : ℕ) (scope : Meanings) (ss : List Signal) (spot : Spot) (f : SystemFunction) (e : Formula) (n : Outcome) → IsSound file base scope ss e → Sound ss (function_breadth f (breadth scope e)) (is_signed f) (λ c. Sized c.width c.signed spot (function_form f (extended c.width c.signed (number_bits (Bits 32) n)) (tree_of file base scope e (own_context scope e)))) (function_source spot f (number_bits (Bits 32) n) (source file base scope e))
applied file base scope ss spot Signed e n h = recast file base scope ss spot true e h
applied file base scope ss spot Unsigned e n h = recast file base scope ss spot false e h
applied file base scope ss spot Clog2 e n h =
    let long : length (number_bits (Bits 32) n) ≡ 32 = length-number 32 n (omega arith) (omega arith) in
    record {
      lawful = omega (arith, long);
      width = ap Bits (sym long);
      some = omega (arith, long);
      small = omega (arith, long);
      sign = refl;
      tree = λ c. refl;
    }

pub binary : (file base : ℕ) (scope : Meanings) (ss : List Signal) (spot : Spot) (o : Operation) (n : Outcome) (a b : Formula) → IsSound file base scope ss a → IsSound file base scope ss b → Sound ss (operation_breadth o (breadth scope a) (breadth scope b)) (operation_sign o (sign scope a) (sign scope b)) (λ c. Sized c.width c.signed spot (operation_form o (left_context scope o a b c).signed (extended c.width c.signed (number_bits (breadth scope a) n)) (tree_of file base scope a (left_context scope o a b c)) (tree_of file base scope b (right_context scope o a b c)))) (operation_source spot o (number_bits (breadth scope a) n) (sign scope a) (source file base scope a) (source file base scope b))
binary file base scope ss spot (Join o) n a b ha hb =
    record {
      lawful = (ha.lawful, hb.lawful);
      width = widened (breadth scope a) (breadth scope b) _ _ ha.width hb.width;
      some = omega (arith, ha.some);
      small = omega (arith, ha.small, hb.small);
      sign = ap (λ s. s && sign scope b) ha.sign ∙ ap (λ s. own_sign ss (source file base scope a) && s) hb.sign;
      tree = λ c.
          ap (λ t. Sized c.width c.signed spot (tree.Joined o c.signed t (tree_of file base scope b c))) (ha.tree c)
          ∙ ap (λ t. Sized c.width c.signed spot (tree.Joined o c.signed (sized ss c.width c.signed (source file base scope a)) t)) (hb.tree c);
    }
binary file base scope ss spot (Compare o) n a b ha hb =
    let k = own_width ss (source file base scope a) in
    let m = own_width ss (source file base scope b) in
    let s = own_sign ss (source file base scope a) && own_sign ss (source file base scope b) in
    record {
      lawful = (ha.lawful, hb.lawful, omega (arith, ha.small, hb.small));
      width = refl;
      some = omega arith;
      small = omega arith;
      sign = refl;
      tree = λ c.
          ap (λ d. Sized c.width c.signed spot (tree.Compared o d.signed (tree_of file base scope a d) (tree_of file base scope b d))) (shared_is file base scope ss a b ha hb)
          ∙ ap (λ t. Sized c.width c.signed spot (tree.Compared o s t (tree_of file base scope b (context (max k m) s)))) (ha.tree (context (max k m) s))
          ∙ ap (λ t. Sized c.width c.signed spot (tree.Compared o s (sized ss (max k m) s (source file base scope a)) t)) (hb.tree (context (max k m) s));
    }
binary file base scope ss spot (Link o) n a b ha hb =
    record {
      lawful = (ha.lawful, hb.lawful, ha.small, hb.small);
      width = refl;
      some = omega arith;
      small = omega arith;
      sign = refl;
      tree = λ c.
          ap (λ t. Sized c.width c.signed spot (tree.Linked o t (tree_of file base scope b (own_context scope b)))) (own_tree file base scope ss a ha)
          ∙ ap (λ t. Sized c.width c.signed spot (tree.Linked o (sized ss (own_width ss (source file base scope a)) (own_sign ss (source file base scope a)) (source file base scope a)) t)) (own_tree file base scope ss b hb);
    }
binary file base scope ss spot (Shift o) n a b ha hb =
    record {
      lawful = (ha.lawful, hb.lawful, hb.small);
      width = ha.width;
      some = ha.some;
      small = ha.small;
      sign = ha.sign;
      tree = λ c.
          ap (λ t. Sized c.width c.signed spot (tree.Shifted o c.signed t (tree_of file base scope b (own_context scope b)))) (ha.tree c)
          ∙ ap (λ t. Sized c.width c.signed spot (tree.Shifted o c.signed (sized ss c.width c.signed (source file base scope a)) t)) (own_tree file base scope ss b hb);
    }
binary file base scope ss spot Power n a b ha hb =
    let width = own_width ss (source file base scope a) in
    let long : length (number_bits (breadth scope a) n) ≡ width = ap (λ b. length (number_bits b n)) ha.width ∙ length-number width n ha.some ha.small in
    record {
      lawful = omega (arith, long, ha.some);
      width = ha.width ∙ ap Bits (sym long);
      some = omega (arith, long, ha.some);
      small = omega (arith, long, ha.small);
      sign = refl;
      tree = λ c. refl;
    }

pub choice : (file base : ℕ) (scope : Meanings) (ss : List Signal) (spot : Spot) (k a b : Formula) → IsSound file base scope ss k → IsSound file base scope ss a → IsSound file base scope ss b → Sound ss (wider (breadth scope a) (breadth scope b)) (sign scope a && sign scope b) (λ c. Sized c.width c.signed spot (tree.Chosen (tree_of file base scope k (own_context scope k)) (tree_of file base scope a c) (tree_of file base scope b c))) (sizing.Chosen spot (source file base scope k) (source file base scope a) (source file base scope b))
choice file base scope ss spot k a b hk ha hb =
    record {
      lawful = (hk.lawful, ha.lawful, hb.lawful, hk.small);
      width = widened (breadth scope a) (breadth scope b) _ _ ha.width hb.width;
      some = omega (arith, ha.some);
      small = omega (arith, ha.small, hb.small);
      sign = ap (λ s. s && sign scope b) ha.sign ∙ ap (λ s. own_sign ss (source file base scope a) && s) hb.sign;
      tree = λ c.
          ap (λ t. Sized c.width c.signed spot (tree.Chosen t (tree_of file base scope a c) (tree_of file base scope b c))) (own_tree file base scope ss k hk)
          ∙ ap (λ t. Sized c.width c.signed spot (tree.Chosen (sized ss (own_width ss (source file base scope k)) (own_sign ss (source file base scope k)) (source file base scope k)) t (tree_of file base scope b c))) (ha.tree c)
          ∙ ap (λ t. Sized c.width c.signed spot (tree.Chosen (sized ss (own_width ss (source file base scope k)) (own_sign ss (source file base scope k)) (source file base scope k)) (sized ss c.width c.signed (source file base scope a)) t)) (hb.tree c);
    }
