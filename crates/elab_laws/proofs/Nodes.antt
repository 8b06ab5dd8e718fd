-- The nodes that are counted are those of the trees in the design.
use Rattle.std.specs.Prelude.{ℕ, suc, ◌+◌, Bool, ◌++◌, length, Option, None, Some, Ok, Err}
use Rattle.std.proofs.Common.{◌≡◌, ◌∙◌, arith, length-append, refl}
use Rattle.rtl_const.specs.Constant.{Outcome, constant}
use Rattle.rtl_tree.specs.declared.tree.operators.SystemFunction.{SystemFunction}
use Rattle.rtl_tree.specs.declared.tree.operators.SystemFunction.TheVariants.{Signed, Unsigned, Clog2}
use Rattle.rtl_tree.specs.TreeExpr.{Formula, Number, Read, ReadBit, ReadPart, Parens, Apply, Concat, Repeat, Unary, Binary, Choose, Formulas, no_formulas, more_formulas}
use Rattle.rtl_flat.specs.Expression.{Tree, nodes}
use Rattle.elab_body.specs.elab_scope.declared.context.Context.{Context}
use Rattle.elab_body.specs.elab_scope.declared.known.Known.{Known}
use Rattle.elab_body.specs.elab_scope.declared.known.Known.TheVariants as known
use Rattle.elab_body.specs.elab_scope.declared.operators.Operation.{Operation}
use Rattle.elab_body.specs.elab_scope.declared.operators.Operation.TheVariants.{Join, Compare, Link, Shift, Power}
use Rattle.elab_body.specs.elab_scope.declared.operators.Prefix.{Prefix}
use Rattle.elab_body.specs.elab_scope.declared.operators.Prefix.TheVariants.{Turn, Fold}
use Rattle.elab_body.specs.elab_scope.declared.widths.Field.{Field}
use Rattle.elab_body.specs.elab_scope.Names.{Meanings, numbers_in}
use Rattle.elab_body.specs.elab_scope.Operators.{operation, prefix}
use Rattle.elab_body.specs.elab_scope.Own.{sign}
use Rattle.elab_body.specs.elab_scope.Selects.{msb_in, lsb_in}
use Rattle.elab_body.specs.elab_scope.Trees.{bit_form, field_in, function_form, left_context, low_of, named_form, operand_context, operation_form, own_context, part_form, prefix_form, right_context, row_tree, signal_of, tree_of}
use Rattle.elab_body.specs.elab_nodes.Nodes.{argument_count, index_count, node_count, operands_count, row_count}
use Rattle.elab_laws.specs.Laws.{NodesLaw}

named_nodes : (base : ℕ) (found : Option Known) (width : ℕ) (signed : Bool) → length (nodes (named_form base found width signed)) ≡ 0
named_nodes base None width signed = refl
named_nodes base (Some (known.Signal number role shape)) width signed = refl
named_nodes base (Some (known.Parameter number bits sign)) width signed = refl
named_nodes base (Some (known.Integer number)) width signed = refl

bit_nodes : (signal low : ℕ) (o : Outcome) (signed : Bool) (index : Tree) (n : ℕ) → length (nodes index) ≡ n → length (nodes (bit_form signal low o signed index)) ≡ index_count o n
bit_nodes signal low (Ok number) signed index n is = refl
bit_nodes signal low (Err cause) signed index n is = is

part_nodes : (signal : ℕ) (field : Option Field) → length (nodes (part_form signal field)) ≡ 0
part_nodes signal None = refl
part_nodes signal (Some field) = refl

prefix_nodes : (p : Prefix) (a : Tree) → length (nodes (prefix_form p a)) ≡ length (nodes a)
prefix_nodes (Turn operator) a = refl
prefix_nodes (Fold operator) a = refl

function_nodes : (f : SystemFunction) (number : _) (a : Tree) (n : ℕ) → length (nodes a) ≡ n → length (nodes (function_form f number a)) ≡ argument_count f n
function_nodes Signed number a n is = is
function_nodes Unsigned number a n is = is
function_nodes Clog2 number a n is = refl

operation_nodes : (o : Operation) (signed : Bool) (number : _) (a b : Tree) (n : ℕ) → length (nodes a) + length (nodes b) ≡ n → length (nodes (operation_form o signed number a b)) ≡ operands_count o n
operation_nodes (Join operator) signed number a b n is = length-append (nodes a) (nodes b) ∙ is
operation_nodes (Compare operator) signed number a b n is = length-append (nodes a) (nodes b) ∙ is
operation_nodes (Link operator) signed number a b n is = length-append (nodes a) (nodes b) ∙ is
operation_nodes (Shift operator) signed number a b n is = length-append (nodes a) (nodes b) ∙ is
operation_nodes Power signed number a b n is = refl

joined : (a b m n : ℕ) → a ≡ m → b ≡ n → a + b ≡ m + n
joined a b m n p q = omega arith

three : (x y a b c l m n : ℕ) → x ≡ y + c → y ≡ a + b → a ≡ l → b ≡ m → c ≡ n → x ≡ l + (m + n)
three x y a b c l m n p q e f g = omega arith

one_more : (a n : ℕ) → a ≡ n → suc a ≡ 1 + n
one_more a n is = omega arith

two_more : (a n : ℕ) → a ≡ n → suc (suc a) ≡ 2 + n
two_more a n is = omega arith

mutual
  pub tree_nodes : (file base : ℕ) (scope : Meanings) (e : Formula) (c : Context) → length (nodes (tree_of file base scope e c)) ≡ node_count scope e
  tree_nodes file base scope (Number value at) c = refl
  tree_nodes file base scope (Read name) c =
      one_more _ 0 (named_nodes base (scope name.text) c.width c.signed)
  tree_nodes file base scope (ReadBit name index) c =
      one_more _ _ (bit_nodes (signal_of base (scope name.text)) (low_of (scope name.text)) (constant (numbers_in scope) index) (sign scope index) (tree_of file base scope index (own_context scope index)) (node_count scope index) (tree_nodes file base scope index (own_context scope index)))
  tree_nodes file base scope (ReadPart name kind first second) c =
      one_more _ 0 (part_nodes (signal_of base (scope name.text)) (field_in (scope name.text) (msb_in scope kind first second) (lsb_in scope kind first second)))
  tree_nodes file base scope (Parens at inner) c = tree_nodes file base scope inner c
  tree_nodes file base scope (Apply function at inner) c =
      one_more _ _ (function_nodes function _ (tree_of file base scope inner (own_context scope inner)) (node_count scope inner) (tree_nodes file base scope inner (own_context scope inner)))
  tree_nodes file base scope (Concat at parts) c = one_more _ _ (row_nodes file base scope parts)
  tree_nodes file base scope (Repeat at times parts) c =
      two_more (length (nodes (row_tree file base scope parts))) (row_count scope parts) (row_nodes file base scope parts)
  tree_nodes file base scope (Unary operator at a) c =
      let p : Prefix = prefix operator in
      let inner : Context = operand_context scope p a c in
      one_more _ _ (prefix_nodes p (tree_of file base scope a inner) ∙ tree_nodes file base scope a inner)
  tree_nodes file base scope (Binary operator at a b) c =
      let o : Operation = operation operator in
      let left : Context = left_context scope o a b c in
      let right : Context = right_context scope o a b c in
      let one : Tree = tree_of file base scope a left in
      let other : Tree = tree_of file base scope b right in
      one_more _ _ (operation_nodes o left.signed _ one other (node_count scope a + node_count scope b) (joined (length (nodes one)) (length (nodes other)) (node_count scope a) (node_count scope b) (tree_nodes file base scope a left) (tree_nodes file base scope b right)))
  tree_nodes file base scope (Choose at condition taken otherwise) c =
      let test : Tree = tree_of file base scope condition (own_context scope condition) in
      let one : Tree = tree_of file base scope taken c in
      let other : Tree = tree_of file base scope otherwise c in
      one_more _ _ (three (length (nodes test ++ nodes one ++ nodes other)) (length (nodes test ++ nodes one)) (length (nodes test)) (length (nodes one)) (length (nodes other)) (node_count scope condition) (node_count scope taken) (node_count scope otherwise) (length-append (nodes test ++ nodes one) (nodes other)) (length-append (nodes test) (nodes one)) (tree_nodes file base scope condition (own_context scope condition)) (tree_nodes file base scope taken c) (tree_nodes file base scope otherwise c))

  row_nodes : (file base : ℕ) (scope : Meanings) (parts : Formulas) → length (nodes (row_tree file base scope parts)) ≡ row_count scope parts
  row_nodes file base scope no_formulas = refl
  row_nodes file base scope (more_formulas first others) =
      let one : Tree = tree_of file base scope first (own_context scope first) in
      let rest : Tree = row_tree file base scope others in
      length-append (nodes one) (nodes rest)
      ∙ joined (length (nodes one)) (length (nodes rest)) (node_count scope first) (row_count scope others) (tree_nodes file base scope first (own_context scope first)) (row_nodes file base scope others)

pub counted : NodesLaw
counted file base scope e c = tree_nodes file base scope e c
