-- Where parameters are alike by the desk and by the standard, an expression is sized alike.
use Rattle.std.specs.Prelude.{ℕ, ℤ, ◌==◌, ◌&&◌, ◌||◌, not, Bool, true, false, if◌then◌else◌, List, [], ◌∷◌, ◌++◌, length, map, Option, None, Some, Box, Vec}
use Rattle.std.specs.declared.alloc.Global.{Global}
use Rattle.std.specs.List.{list_all, list_any}
use Rattle.std.proofs.Common.{◌≡◌, ◌∙◌, ap, refl, sym, subst, arith}
use Rattle.std.proofs.lemmas.Bool.{and_parts, eq-eqb, eqb-true}
use Rattle.std.proofs.lemmas.List.{length-replicate}
use Rattle.rtl_bits.specs.Inside.{length-tabulate}
use Rattle.rtl_bits.specs.declared.Bit.{Bit}
use Rattle.rtl_bits.specs.declared.Bit.TheVariants.{Zero, One, X, Z}
use Rattle.rtl_bits.specs.Bits.{all_with, all_x, bits_of, extended, same_bit}
use Rattle.rtl_tree.specs.declared.tree.expr.Expr.{Expr}
use Rattle.rtl_tree.specs.declared.tree.expr.Expr.TheVariants as expr
use Rattle.rtl_tree.specs.declared.tree.operators.SystemFunction.{SystemFunction}
use Rattle.rtl_tree.specs.declared.tree.operators.SystemFunction.TheVariants.{Signed, Unsigned, Clog2}
use Rattle.rtl_tree.specs.TreeExpr.{Formula, Number, Read, ReadBit, ReadPart, Parens, Apply, Concat, Repeat, Unary, Binary, Choose, Formulas, no_formulas, more_formulas, formula, formula_row}
use Rattle.rtl_tree.specs.TreeStmt.{Branches, no_branches, more_branches, Labelled, Default}
use Rattle.rtl_tree.proofs.TreeViews.{concat_is, repeat_is}
use Rattle.rtl_const.specs.Constant.{Outcome, constant}
use Rattle.rtl_flat.specs.declared.note.Note.{Note}
use Rattle.rtl_flat.specs.declared.note.Reading.TheVariants.{ParameterFormat}
use Rattle.elab_walk.specs.elab_parts.elab_body.Acts.{branches_breadth, branches_sign, case_context, labels_breadth, labels_sign}
use Rattle.elab_walk.specs.elab_scope.declared.context.Context.{Context}
use Rattle.elab_walk.specs.elab_scope.declared.known.Known.{Known}
use Rattle.elab_walk.specs.elab_scope.declared.known.Known.TheVariants as known
use Rattle.elab_walk.specs.elab_scope.declared.operators.Operation.{Operation}
use Rattle.elab_walk.specs.elab_scope.declared.operators.Operation.TheVariants.{Join, Compare, Link, Shift, Power}
use Rattle.elab_walk.specs.elab_scope.declared.operators.Prefix.{Prefix}
use Rattle.elab_walk.specs.elab_scope.declared.operators.Prefix.TheVariants.{Turn, Fold}
use Rattle.elab_walk.specs.elab_scope.declared.widths.Breadth.{Breadth}
use Rattle.elab_walk.specs.elab_scope.Names.{numbers_in}
use Rattle.elab_walk.specs.elab_scope.Operators.{operation, prefix}
use Rattle.elab_walk.specs.elab_scope.Own.{breadth, function_breadth, operation_breadth, operation_sign, part_breadth, prefix_breadth, prefix_sign, row_breadth, sign, name_breadth, name_sign}
use Rattle.elab_walk.specs.elab_scope.Selects.{lsb_in, lsb_of, msb_in, msb_of}
use Rattle.elab_walk.specs.elab_scope.Trees.{left_context, named_bits, operand_context, own_context, right_context}
use Rattle.elab_walk.specs.elab_scope.Widths.{beside, bits, fit, fitted, repeated, wider}
use Rattle.elab_standard.specs.declared.scopes.By.TheVariants as by
use Rattle.elab_standard.specs.declared.standard.Standard.{Standard}
use Rattle.elab_standard.specs.declared.uses.Home.{Home}
use Rattle.elab_standard.specs.Alike.{case_alike, is_alike, reads_alike, row_alike}
use Rattle.elab_standard.specs.Cases.{case_labels}
use Rattle.elab_standard.specs.Differing.{argument_differs, context_differs, differs, literal_differs, operands_differ, row_differs, same_sign}
use Rattle.elab_standard.specs.Nested.{format_notes}
use Rattle.elab_standard.specs.Notes.{note_if, root_place}
use Rattle.elab_standard.specs.Scopes.{Scopes, bits_given, read_bits, restated, restated_name, standard_bits}
use Rattle.elab_standard.specs.Uses.{any_differs, is_case_differing}
use Rattle.elab_standard.specs.Worth.{taken_context}
use Rattle.elab_standard.proofs.Readers.{same_numbers}

-- ---- names

signs_agree : (a b : Bool) → same_sign a b ≡ true → a ≡ b
signs_agree true true is = refl
signs_agree true false is = absurd (cc)
signs_agree false true is = absurd (cc)
signs_agree false false is = refl

sign_itself : (a : Bool) → same_sign a a ≡ true
sign_itself true = refl
sign_itself false = refl

bits_agree : (a b : Bit) → same_bit a b ≡ true → a ≡ b
bits_agree Zero Zero is = refl
bits_agree One One is = refl
bits_agree X X is = refl
bits_agree Z Z is = refl
bits_agree Zero One is = absurd (cc)
bits_agree Zero X is = absurd (cc)
bits_agree Zero Z is = absurd (cc)
bits_agree One Zero is = absurd (cc)
bits_agree One X is = absurd (cc)
bits_agree One Z is = absurd (cc)
bits_agree X Zero is = absurd (cc)
bits_agree X One is = absurd (cc)
bits_agree X Z is = absurd (cc)
bits_agree Z Zero is = absurd (cc)
bits_agree Z One is = absurd (cc)
bits_agree Z X is = absurd (cc)

bit_itself : (a : Bit) → same_bit a a ≡ true
bit_itself Zero = refl
bit_itself One = refl
bit_itself X = refl
bit_itself Z = refl

all_agree : (a b : List Bit) → length a ≡ length b → all_with same_bit a b ≡ true → a ≡ b
all_agree [] [] long is = refl
all_agree [] (y ∷ b) long is = absurd (cc)
all_agree (x ∷ a) [] long is = absurd (cc)
all_agree (x ∷ a) (y ∷ b) long is =
    let parts = and_parts (same_bit x y) (all_with same_bit a b) is in
    let first : x ≡ y = bits_agree x y parts.0 in
    let shorter : length a ≡ length b = cc in
    let others : a ≡ b = all_agree a b shorter parts.1 in
    ap (λ one. one ∷ a) first ∙ ap (λ rest. y ∷ rest) others

all_itself : (a : List Bit) → all_with same_bit a a ≡ true
all_itself [] = refl
all_itself (x ∷ a) = ap (λ one. one && all_with same_bit a a) (bit_itself x) ∙ all_itself a

given_length : (width : ℕ) (value : Option ℕ) → length (bits_given width value) ≡ width
given_length width None = length-replicate width X
given_length width (Some n) = length-tabulate width _

-- a parameter that is alike has the same width and sign
pub same_name : (known : Option Known) (standard : Option Standard) → is_alike known standard ≡ true → restated_name known standard ≡ known
same_name None standard is = refl
same_name (Some (known.Signal number role shape)) standard is = refl
same_name (Some (known.Integer number)) standard is = refl
same_name (Some (known.Parameter number width signed)) None is = refl
same_name (Some (known.Parameter number width signed)) (Some standard) is =
    let parts = and_parts (standard.width == width) _ is in
    let more = and_parts (same_sign standard.signed signed) _ parts.1 in
    let wide : standard.width ≡ width = eqb-true standard.width width parts.0 in
    let signs : standard.signed ≡ signed = signs_agree standard.signed signed more.0 in
    ap (λ w. Some (known.Parameter number w standard.signed)) wide
    ∙ ap (λ t. Some (known.Parameter number width t)) signs

-- and as many bits
pub same_length : (number : Option ℤ) (width : ℕ) (signed : Bool) (standard : Standard) → standard.width ≡ width → length (named_bits (Some (known.Parameter number width signed))) ≡ length (standard_bits standard)
same_length number width signed standard wide =
    length-tabulate (bits (fitted width)) _
    ∙ ap (λ w. bits (fitted w)) (sym wide)
    ∙ sym (given_length (bits (fitted standard.width)) standard.bits)

-- and the same bits
pub same_read : (known : Option Known) (standard : Option Standard) → is_alike known standard ≡ true → read_bits known standard ≡ named_bits known
same_read None standard is = refl
same_read (Some (known.Signal number role shape)) standard is = refl
same_read (Some (known.Integer number)) standard is = refl
same_read (Some (known.Parameter number width signed)) None is = refl
same_read (Some (known.Parameter number width signed)) (Some standard) is =
    let parts = and_parts (standard.width == width) _ is in
    let more = and_parts (same_sign standard.signed signed) _ parts.1 in
    let wide : standard.width ≡ width = eqb-true standard.width width parts.0 in
    let own : List Bit = named_bits (Some (known.Parameter number width signed)) in
    sym (all_agree own (standard_bits standard) (same_length number width signed standard wide) more.1)

-- ---- expressions

part_alike : (known : Option Known) (standard : Option Standard) (a b : Outcome) → part_breadth (restated_name known standard) a b ≡ part_breadth known a b
part_alike None standard a b = refl
part_alike (Some (known.Signal number role shape)) standard a b = refl
part_alike (Some (known.Integer number)) standard a b = refl
part_alike (Some (known.Parameter number width signed)) None a b = refl
part_alike (Some (known.Parameter number width signed)) (Some standard) a b = refl

mutual
  same_breadth : (s : Scopes) (e : Formula) → reads_alike s e ≡ true → breadth (restated s) e ≡ breadth s.scope e
  same_breadth s (Number value at) is = refl
  same_breadth s (Read name) is = ap name_breadth (same_name (s.scope name.text) (s.standards name.text) is)
  same_breadth s (ReadBit name index) is = refl
  same_breadth s (ReadPart name kind first second) is =
      ap (λ numbers. part_breadth (restated s name.text) (msb_of kind (constant numbers first) (constant numbers second)) (lsb_of kind (constant numbers first) (constant numbers second))) (same_numbers by.Standard s)
      ∙ part_alike (s.scope name.text) (s.standards name.text) (msb_in s.scope kind first second) (lsb_in s.scope kind first second)
  same_breadth s (Parens at inner) is = same_breadth s inner is
  same_breadth s (Apply function at inner) is = ap (function_breadth function) (same_breadth s inner is)
  same_breadth s (Concat at parts) is = ap fit (same_row s parts is)
  same_breadth s (Repeat at times parts) is =
      ap (λ all. repeated (constant (numbers_in (restated s)) times) (fit all)) (same_row s parts is)
      ∙ ap (λ numbers. repeated (constant numbers times) (fit (row_breadth s.scope parts))) (same_numbers by.Standard s)
  same_breadth s (Unary operator at a) is = ap (prefix_breadth (prefix operator)) (same_breadth s a is)
  same_breadth s (Binary operator at a b) is =
      let both = and_parts (reads_alike s a) (reads_alike s b) is in
      ap (λ one. operation_breadth (operation operator) one (breadth (restated s) b)) (same_breadth s a both.0)
      ∙ ap (operation_breadth (operation operator) (breadth s.scope a)) (same_breadth s b both.1)
  same_breadth s (Choose at condition taken otherwise) is =
      let both = and_parts (reads_alike s condition) _ is in
      let arms = and_parts (reads_alike s taken) (reads_alike s otherwise) both.1 in
      ap (λ one. wider one (breadth (restated s) otherwise)) (same_breadth s taken arms.0)
      ∙ ap (wider (breadth s.scope taken)) (same_breadth s otherwise arms.1)

  same_row : (s : Scopes) (parts : Formulas) → row_alike s parts ≡ true → row_breadth (restated s) parts ≡ row_breadth s.scope parts
  same_row s no_formulas is = refl
  same_row s (more_formulas first others) is =
      let both = and_parts (reads_alike s first) (row_alike s others) is in
      ap (λ one. beside one (row_breadth (restated s) others)) (same_breadth s first both.0)
      ∙ ap (beside (breadth s.scope first)) (same_row s others both.1)

same_own_sign : (s : Scopes) (e : Formula) → reads_alike s e ≡ true → sign (restated s) e ≡ sign s.scope e
same_own_sign s (Number value at) is = refl
same_own_sign s (Read name) is = ap name_sign (same_name (s.scope name.text) (s.standards name.text) is)
same_own_sign s (ReadBit name index) is = refl
same_own_sign s (ReadPart name kind first second) is = refl
same_own_sign s (Parens at inner) is = same_own_sign s inner is
same_own_sign s (Apply function at inner) is = refl
same_own_sign s (Concat at parts) is = refl
same_own_sign s (Repeat at times parts) is = refl
same_own_sign s (Unary operator at a) is = ap (prefix_sign (prefix operator)) (same_own_sign s a is)
same_own_sign s (Binary operator at a b) is =
    let both = and_parts (reads_alike s a) (reads_alike s b) is in
    ap (λ one. operation_sign (operation operator) one (sign (restated s) b)) (same_own_sign s a both.0)
    ∙ ap (operation_sign (operation operator) (sign s.scope a)) (same_own_sign s b both.1)
same_own_sign s (Choose at condition taken otherwise) is =
    let both = and_parts (reads_alike s condition) _ is in
    let arms = and_parts (reads_alike s taken) (reads_alike s otherwise) both.1 in
    ap (λ one. one && sign (restated s) otherwise) (same_own_sign s taken arms.0)
    ∙ ap (λ one. sign s.scope taken && one) (same_own_sign s otherwise arms.1)

same_own : (s : Scopes) (e : Formula) → reads_alike s e ≡ true → own_context (restated s) e ≡ own_context s.scope e
same_own s e is =
    let wide = same_breadth s e is in
    let signs = same_own_sign s e is in
    cc

same_left : (s : Scopes) (operator : Operation) (a b : Formula) (c : Context) → reads_alike s a ≡ true → reads_alike s b ≡ true → left_context (restated s) operator a b c ≡ left_context s.scope operator a b c
same_left s (Join operator) a b c one other = refl
same_left s (Compare operator) a b c one other =
    let wide = same_breadth s a one in
    let signs = same_own_sign s a one in
    let wide' = same_breadth s b other in
    let signs' = same_own_sign s b other in
    cc
same_left s (Link operator) a b c one other = same_own s a one
same_left s (Shift operator) a b c one other = refl
same_left s Power a b c one other = refl

same_right : (s : Scopes) (operator : Operation) (a b : Formula) (c : Context) → reads_alike s a ≡ true → reads_alike s b ≡ true → right_context (restated s) operator a b c ≡ right_context s.scope operator a b c
same_right s (Join operator) a b c one other = refl
same_right s (Compare operator) a b c one other = same_left s (Compare operator) a b c one other
same_right s (Link operator) a b c one other = same_own s b other
same_right s (Shift operator) a b c one other = same_own s b other
same_right s Power a b c one other = same_own s b other

same_operand : (s : Scopes) (operator : Prefix) (a : Formula) (c : Context) → reads_alike s a ≡ true → operand_context (restated s) operator a c ≡ operand_context s.scope operator a c
same_operand s (Turn operator) a c is = refl
same_operand s (Fold operator) a c is = same_own s a is

none_apart : (c : Context) → context_differs c c ≡ false
none_apart c = ap not (ap (λ one. one && same_sign c.signed c.signed) (eq-eqb c.width c.width refl) ∙ sign_itself c.signed)

neither : (a b : Bool) → a ≡ false → b ≡ false → a || b ≡ false
neither a b one other = cc

same_literal : (c : Context) (known : Option Known) (standard : Option Standard) → is_alike known standard ≡ true → literal_differs c known standard ≡ false
same_literal c known standard is =
    let own : List Bit = extended c.width c.signed (named_bits known) in
    ap (λ bits. not (all_with same_bit own (extended c.width c.signed bits))) (same_read known standard is)
    ∙ ap not (all_itself own)

argument_agrees : (f : SystemFunction) (a : Bool) → a ≡ false → argument_differs f a ≡ false
argument_agrees Signed a h = h
argument_agrees Unsigned a h = h
argument_agrees Clog2 a h = refl

operands_agree : (o : Operation) (a : Bool) → a ≡ false → operands_differ o a ≡ false
operands_agree (Join operator) a h = h
operands_agree (Compare operator) a h = h
operands_agree (Link operator) a h = h
operands_agree (Shift operator) a h = h
operands_agree Power a h = refl

mutual
  pub never_differs : (s : Scopes) (e : Formula) (c : Context) → reads_alike s e ≡ true → differs s e c c ≡ false
  never_differs s (Number value at) c is = none_apart c
  never_differs s (Read name) c is =
      neither _ _ (none_apart c) (same_literal c (s.scope name.text) (s.standards name.text) is)
  never_differs s (ReadBit name index) c is = none_apart c
  never_differs s (ReadPart name kind first second) c is = none_apart c
  never_differs s (Parens at inner) c is = never_differs s inner c is
  never_differs s (Apply function at inner) c is =
      neither _ _ (none_apart c) (argument_agrees function _ (ap (differs s inner (own_context s.scope inner)) (same_own s inner is) ∙ never_differs s inner (own_context s.scope inner) is))
  never_differs s (Concat at parts) c is = neither _ _ (none_apart c) (row_never s parts is)
  never_differs s (Repeat at times parts) c is = neither _ _ (none_apart c) (row_never s parts is)
  never_differs s (Unary operator at a) c is =
      neither _ _ (none_apart c)
      (ap (differs s a (operand_context s.scope (prefix operator) a c)) (same_operand s (prefix operator) a c is)
      ∙ never_differs s a (operand_context s.scope (prefix operator) a c) is)
  never_differs s (Binary operator at a b) c is =
      let both = and_parts (reads_alike s a) (reads_alike s b) is in
      let left = left_context s.scope (operation operator) a b c in
      let right = right_context s.scope (operation operator) a b c in
      neither _ _ (none_apart c)
      (operands_agree (operation operator) _
      (neither _ _
      (ap (differs s a left) (same_left s (operation operator) a b c both.0 both.1) ∙ never_differs s a left both.0)
      (ap (differs s b right) (same_right s (operation operator) a b c both.0 both.1) ∙ never_differs s b right both.1)))
  never_differs s (Choose at condition taken otherwise) c is =
      let both = and_parts (reads_alike s condition) _ is in
      let arms = and_parts (reads_alike s taken) (reads_alike s otherwise) both.1 in
      neither _ _
      (neither _ _
      (neither _ _ (none_apart c)
      (ap (differs s condition (own_context s.scope condition)) (same_own s condition both.0) ∙ never_differs s condition (own_context s.scope condition) both.0))
      (never_differs s taken c arms.0))
      (never_differs s otherwise c arms.1)

  row_never : (s : Scopes) (parts : Formulas) → row_alike s parts ≡ true → row_differs s parts ≡ false
  row_never s no_formulas is = refl
  row_never s (more_formulas first others) is =
      let both = and_parts (reads_alike s first) (row_alike s others) is in
      neither _ _ (ap (differs s first (own_context s.scope first)) (same_own s first both.0) ∙ never_differs s first (own_context s.scope first) both.0) (row_never s others both.1)

-- an expression is told of nowhere
pub alike_format : (home : Home) (s : Scopes) (e : Formula) (wanted : ℕ) → reads_alike s e ≡ true → format_notes home s e wanted ≡ []
alike_format home s e wanted is =
    let own = taken_context wanted (own_context s.scope e) in
    let same : differs s e own (taken_context wanted (own_context (restated s) e)) ≡ false
    = ap (λ c. differs s e own (taken_context wanted c)) (same_own s e is) ∙ never_differs s e own is in
    ap (λ broken. note_if broken home ParameterFormat (root_place e)) same

-- ---- cases

labels_wide : (s : Scopes) (widest : Breadth) (labels others : List Formula) → list_all (reads_alike s) (labels ++ others) ≡ true → (labels_breadth (restated s) widest labels ≡ labels_breadth s.scope widest labels) × (list_all (reads_alike s) others ≡ true)
labels_wide s widest [] others all = (refl, all)
labels_wide s widest (label ∷ labels) others all =
    let both = and_parts (reads_alike s label) (list_all (reads_alike s) (labels ++ others)) all in
    let rest = labels_wide s (wider widest (breadth s.scope label)) labels others both.1 in
    (ap (λ one. labels_breadth (restated s) (wider widest one) labels) (same_breadth s label both.0) ∙ rest.0, rest.1)

branches_wide : (s : Scopes) (widest : Breadth) (branches : Branches) → list_all (reads_alike s) (case_labels branches) ≡ true → branches_breadth (restated s) widest branches ≡ branches_breadth s.scope widest branches
branches_wide s widest no_branches all = refl
branches_wide s widest (more_branches (Labelled labels body) others) all =
    let here = labels_wide s widest labels (case_labels others) all in
    ap (λ one. branches_breadth (restated s) one others) here.0
    ∙ branches_wide s (labels_breadth s.scope widest labels) others here.1
branches_wide s widest (more_branches (Default at body) others) all = branches_wide s widest others all

labels_signed : (s : Scopes) (signed : Bool) (labels others : List Formula) → list_all (reads_alike s) (labels ++ others) ≡ true → (labels_sign (restated s) signed labels ≡ labels_sign s.scope signed labels) × (list_all (reads_alike s) others ≡ true)
labels_signed s signed [] others all = (refl, all)
labels_signed s signed (label ∷ labels) others all =
    let both = and_parts (reads_alike s label) (list_all (reads_alike s) (labels ++ others)) all in
    let rest = labels_signed s (signed && sign s.scope label) labels others both.1 in
    (ap (λ one. labels_sign (restated s) (signed && one) labels) (same_own_sign s label both.0) ∙ rest.0, rest.1)

branches_signed : (s : Scopes) (signed : Bool) (branches : Branches) → list_all (reads_alike s) (case_labels branches) ≡ true → branches_sign (restated s) signed branches ≡ branches_sign s.scope signed branches
branches_signed s signed no_branches all = refl
branches_signed s signed (more_branches (Labelled labels body) others) all =
    let here = labels_signed s signed labels (case_labels others) all in
    ap (λ one. branches_sign (restated s) one others) here.0
    ∙ branches_signed s (labels_sign s.scope signed labels) others here.1
branches_signed s signed (more_branches (Default at body) others) all = branches_signed s signed others all

same_case : (s : Scopes) (selector : Formula) (branches : Branches) → case_alike s selector branches ≡ true → case_context (restated s) selector branches ≡ case_context s.scope selector branches
same_case s selector branches is =
    let both = and_parts (reads_alike s selector) (list_all (reads_alike s) (case_labels branches)) is in
    let wide : branches_breadth (restated s) (breadth (restated s) selector) branches ≡ branches_breadth s.scope (breadth s.scope selector) branches
    = ap (λ one. branches_breadth (restated s) one branches) (same_breadth s selector both.0) ∙ branches_wide s (breadth s.scope selector) branches both.1 in
    let signs : branches_sign (restated s) (sign (restated s) selector) branches ≡ branches_sign s.scope (sign s.scope selector) branches
    = ap (λ one. branches_sign (restated s) one branches) (same_own_sign s selector both.0) ∙ branches_signed s (sign s.scope selector) branches both.1 in
    cc

none_differs : (s : Scopes) (members : List Formula) (c : Context) → list_all (reads_alike s) members ≡ true → any_differs s members c c ≡ false
none_differs s [] c all = refl
none_differs s (first ∷ others) c all =
    let both = and_parts (reads_alike s first) (list_all (reads_alike s) others) all in
    neither _ _ (never_differs s first c both.0) (none_differs s others c both.1)

-- a case whose selector and labels are alike doesn't differ
pub alike_case : (s : Scopes) (selector : Formula) (branches : Branches) → case_alike s selector branches ≡ true → is_case_differing s selector branches ≡ false
alike_case s selector branches is =
    let own = case_context s.scope selector branches in
    ap (any_differs s (selector ∷ case_labels branches) own) (same_case s selector branches is)
    ∙ none_differs s (selector ∷ case_labels branches) own is

-- ---- expressions as the code holds them

pub concat_alike : (s : Scopes) (at : ℕ) (parts : Vec Expr Global) (e : Expr) → e ≡ expr.Concat at parts → reads_alike s (formula e) ≡ row_alike s (formula_row (map formula parts.items))
concat_alike s at parts e is =
    ap (λ e. reads_alike s (formula e)) is ∙ ap (reads_alike s) (concat_is at parts)

pub repeat_alike : (s : Scopes) (at : ℕ) (times : Box Expr Global) (parts : Vec Expr Global) (e : Expr) → e ≡ expr.Repeat at times parts → reads_alike s (formula e) ≡ row_alike s (formula_row (map formula parts.items))
repeat_alike s at times parts e is =
    ap (λ e. reads_alike s (formula e)) is ∙ ap (reads_alike s) (repeat_is at times parts)
