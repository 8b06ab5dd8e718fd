-- Where no place is deeper than a number, nothing is.
use Rattle.std.proofs.Common.{◌≡◌, ℕ, zero, suc, ◌-◌, ◌≤◌, List, [], ◌∷◌, ◌++◌, Option, Some, None, refl, arith}
use Rattle.std.specs.List.{All, flat_map}
use Rattle.rtl_tree.specs.TreeExpr.{Formula, Number, Read, ReadBit, ReadPart, Parens, Apply, Concat, Repeat, Unary, Binary, Choose, Formulas, no_formulas, more_formulas, Bounds}
use Rattle.rtl_tree.specs.TreeStmt.{Target, Whole, Bit, Part, Joined, Targets, no_targets, more_targets, Span, Fixed, Named, Valued, Pause, Action, Null, Delayed, Assign, If, IfElse, Case, For, Block, Actions, no_actions, more_actions, Branch, Labelled, Default, Branches, no_branches, more_branches, target_place}
use Rattle.rtl_tree.specs.TreeItem.{Head, Drive, Happening, Edge, Change, ChangeBit, ChangePart, Sensitivity, Star, StarInParens, Listed, Association, ByPosition, ByName, ModuleItem, Ports, Nets, Variables, Integers, Parameters, Drives, GateDrive, Gates, Always, Instances}
use Rattle.rtl_tree.specs.TreeGate.{GateSpan, One, Two, GatePause, Gate}
use Rattle.rtl_tree.specs.TreeWritten.{WrittenItem, Plain, Primitives, Genvars, Region, WrittenItems, no_items, more_items, GenerateBlock, Single, GenerateChoice, GenerateChoices, no_choices, more_choices}
use Rattle.rtl_tree.specs.TreeWritten as generate
use Rattle.rtl_tree.specs.TreeModule.{HeaderParameter, HeaderPort, Header, Absent, Empty, Declared, WrittenCircuit}
use Rattle.rtl_tree.specs.TreeModule as modules
use Rattle.text_grammar.specs.Deeper.{of_any, here, formula_deeper, formulas_deeper, bounds_deeper, target_deeper, targets_deeper, span_deeper, pause_deeper, action_deeper, actions_deeper, branch_deeper, branches_deeper, head_deeper, net_deeper, valuation_deeper, drive_deeper, happening_deeper, sensitivity_deeper, positional_deeper, associated_deeper, association_deeper, instantiation_deeper, gate_drive_deeper, item_deeper, gate_span_deeper, gate_pause_deeper, gate_deeper, written_deeper, written_items_deeper, made_deeper, choice_deeper, choices_deeper, header_parameter_deeper, header_port_deeper, header_deeper, deeper, too_deep}
use Rattle.text_grammar.specs.declared.nesting.TheConstants.{MAX_NESTING}
use Rattle.text_grammar.specs.Depth.{greatest, if_any, formula_depth, formulas_depth, bounds_depth, target_depth, targets_depth, span_depth, pause_depth, action_depth, actions_depth, branch_depth, branches_depth, head_depth, net_depth, valuation_depth, drive_depth, happening_depth, sensitivity_depth, positional_depth, associated_depth, association_depth, instantiation_depth, gate_drive_depth, item_depth, gate_span_depth, gate_pause_depth, gate_depth, written_depth, written_items_depth, made_depth, choice_depth, choices_depth, header_parameter_depth, header_port_depth, header_depth, depth}

left : (xs ys : List ℕ) → xs ++ ys ≡ [] → xs ≡ []
left [] ys e = refl
left (x ∷ xs) ys e = cc

right : (xs ys : List ℕ) → xs ++ ys ≡ [] → ys ≡ []
right [] ys e = e
right (x ∷ xs) ys e = cc

some : (k at : ℕ) → here k at ≡ [] → 1 ≤ k
some zero at e = cc
some (suc k) at e = omega arith

-- a function of lists without places
of_list : {A : Type 0} (f : A → List ℕ) (g : A → ℕ) (k : ℕ) → ((x : A) → f x ≡ [] → g x ≤ k) → (xs : List A) → flat_map f xs ≡ [] → greatest g xs ≤ k
of_list f g k h [] e = omega arith
of_list f g k h (x ∷ xs) e = omega (arith, h x (left (f x) (flat_map f xs) e), of_list f g k h xs (right (f x) (flat_map f xs) e))

of_option : {A : Type 0} (f : A → List ℕ) (g : A → ℕ) (k : ℕ) → ((x : A) → f x ≡ [] → g x ≤ k) → (o : Option A) → of_any f o ≡ [] → if_any g o ≤ k
of_option f g k h None e = omega arith
of_option f g k h (Some x) e = h x e

-- two parts, three or four
both : (a b : List ℕ) → a ++ b ≡ [] → (a ≡ []) × (b ≡ [])
both a b e = (left a b e, right a b e)

three : (a b c : List ℕ) → (a ++ b) ++ c ≡ [] → (a ≡ []) × (b ≡ []) × (c ≡ [])
three a b c e = (left a b (left (a ++ b) c e), right a b (left (a ++ b) c e), right (a ++ b) c e)

four : (a b c d : List ℕ) → ((a ++ b) ++ c) ++ d ≡ [] → (a ≡ []) × (b ≡ []) × (c ≡ []) × (d ≡ [])
four a b c d e =
    let v = three a b c (left ((a ++ b) ++ c) d e) in
    (v.0, v.1, v.2, right ((a ++ b) ++ c) d e)

mutual
  formula : (f : Formula) (k : ℕ) → formula_deeper k f ≡ [] → formula_depth f ≤ k
  formula (Number value at) k e = some k at e
  formula (Read name) k e = some k name.at e
  formula (ReadBit name i) k e =
      let v = both (here k name.at) (formula_deeper (k - 1) i) e in
      omega (arith, some k name.at v.0, formula i (k - 1) v.1)
  formula (ReadPart name kind a b) k e =
      let v = three (here k name.at) (formula_deeper (k - 1) a) (formula_deeper (k - 1) b) e in
      omega (arith, some k name.at v.0, formula a (k - 1) v.1, formula b (k - 1) v.2)
  formula (Parens at i) k e =
      let v = both (here k at) (formula_deeper (k - 1) i) e in
      omega (arith, some k at v.0, formula i (k - 1) v.1)
  formula (Apply s at i) k e =
      let v = both (here k at) (formula_deeper (k - 1) i) e in
      omega (arith, some k at v.0, formula i (k - 1) v.1)
  formula (Concat at fs) k e =
      let v = both (here k at) (formulas_deeper (k - 1) fs) e in
      omega (arith, some k at v.0, formulas fs (k - 1) v.1)
  formula (Repeat at t fs) k e =
      let v = three (here k at) (formula_deeper (k - 1) t) (formulas_deeper (k - 1) fs) e in
      omega (arith, some k at v.0, formula t (k - 1) v.1, formulas fs (k - 1) v.2)
  formula (Unary op at a) k e =
      let v = both (here k at) (formula_deeper (k - 1) a) e in
      omega (arith, some k at v.0, formula a (k - 1) v.1)
  formula (Binary op at a b) k e =
      let v = three (here k at) (formula_deeper (k - 1) a) (formula_deeper (k - 1) b) e in
      omega (arith, some k at v.0, formula a (k - 1) v.1, formula b (k - 1) v.2)
  formula (Choose at c t o) k e =
      let v = four (here k at) (formula_deeper (k - 1) c) (formula_deeper (k - 1) t) (formula_deeper (k - 1) o) e in
      omega (arith, some k at v.0, formula c (k - 1) v.1, formula t (k - 1) v.2, formula o (k - 1) v.3)

  formulas : (fs : Formulas) (k : ℕ) → formulas_deeper k fs ≡ [] → formulas_depth fs ≤ k
  formulas no_formulas k e = omega arith
  formulas (more_formulas f fs) k e =
      let v = both (formula_deeper k f) (formulas_deeper k fs) e in
      omega (arith, formula f k v.0, formulas fs k v.1)

bounds : (b : Bounds) (k : ℕ) → bounds_deeper k b ≡ [] → bounds_depth b ≤ k
bounds b k e =
    let v = both (formula_deeper k b.msb) (formula_deeper k b.lsb) e in
    omega (arith, formula b.msb k v.0, formula b.lsb k v.1)

mutual
  target : (t : Target) (k : ℕ) → target_deeper k t ≡ [] → target_depth t ≤ k
  target (Whole name) k e = some k name.at e
  target (Bit name i) k e =
      let v = both (here k name.at) (formula_deeper (k - 1) i) e in
      omega (arith, some k name.at v.0, formula i (k - 1) v.1)
  target (Part name kind a b) k e =
      let v = three (here k name.at) (formula_deeper (k - 1) a) (formula_deeper (k - 1) b) e in
      omega (arith, some k name.at v.0, formula a (k - 1) v.1, formula b (k - 1) v.2)
  target (Joined at ts) k e =
      let v = both (here k at) (targets_deeper (k - 1) ts) e in
      omega (arith, some k at v.0, targets ts (k - 1) v.1)

  targets : (ts : Targets) (k : ℕ) → targets_deeper k ts ≡ [] → targets_depth ts ≤ k
  targets no_targets k e = omega arith
  targets (more_targets t ts) k e =
      let v = both (target_deeper k t) (targets_deeper k ts) e in
      omega (arith, target t k v.0, targets ts k v.1)

span : (s : Span) (k : ℕ) → span_deeper k s ≡ [] → span_depth s ≤ k
span (Fixed value) k e = omega arith
span (Named name) k e = omega arith
span (Valued f) k e = formula f k e

pause : (p : Pause) (k : ℕ) → pause_deeper k p ≡ [] → pause_depth p ≤ k
pause p k e = span p.span k e

mutual
  action : (a : Action) (k : ℕ) → action_deeper k a ≡ [] → action_depth a ≤ k
  action (Null at) k e = some k at e
  action (Delayed p body) k e =
      let v = three (here k p.at) (pause_deeper (k - 1) p) (action_deeper (k - 1) body) e in
      omega (arith, some k p.at v.0, pause p (k - 1) v.1, action body (k - 1) v.2)
  action (Assign t kind p value) k e =
      let v = four (here k (target_place t)) (target_deeper (k - 1) t) (of_any (pause_deeper (k - 1)) p) (formula_deeper (k - 1) value) e in
      omega (arith, some k (target_place t) v.0, target t (k - 1) v.1, of_option (pause_deeper (k - 1)) pause_depth (k - 1) (λ x h. pause x (k - 1) h) p v.2, formula value (k - 1) v.3)
  action (If at c a) k e =
      let v = three (here k at) (formula_deeper (k - 1) c) (action_deeper (k - 1) a) e in
      omega (arith, some k at v.0, formula c (k - 1) v.1, action a (k - 1) v.2)
  action (IfElse at c a b) k e =
      let v = four (here k at) (formula_deeper (k - 1) c) (action_deeper (k - 1) a) (action_deeper (k - 1) b) e in
      omega (arith, some k at v.0, formula c (k - 1) v.1, action a (k - 1) v.2, action b (k - 1) v.3)
  action (Case at kind full parallel selector bs) k e =
      let v = three (here k at) (formula_deeper (k - 1) selector) (branches_deeper (k - 1) bs) e in
      omega (arith, some k at v.0, formula selector (k - 1) v.1, branches bs (k - 1) v.2)
  action (For at i start c j step body) k e =
      let front = (((here k at ++ formula_deeper (k - 1) start) ++ formula_deeper (k - 1) c) ++ formula_deeper (k - 1) step) in
      let v = four (here k at) (formula_deeper (k - 1) start) (formula_deeper (k - 1) c) (formula_deeper (k - 1) step) (left front (action_deeper (k - 1) body) e) in
      omega (arith, some k at v.0, formula start (k - 1) v.1, formula c (k - 1) v.2, formula step (k - 1) v.3, action body (k - 1) (right front (action_deeper (k - 1) body) e))
  action (Block at l body) k e =
      let v = both (here k at) (actions_deeper (k - 1) body) e in
      omega (arith, some k at v.0, actions body (k - 1) v.1)

  actions : (all : Actions) (k : ℕ) → actions_deeper k all ≡ [] → actions_depth all ≤ k
  actions no_actions k e = omega arith
  actions (more_actions a others) k e =
      let v = both (action_deeper k a) (actions_deeper k others) e in
      omega (arith, action a k v.0, actions others k v.1)

  branch : (b : Branch) (k : ℕ) → branch_deeper k b ≡ [] → branch_depth b ≤ k
  branch (Labelled labels body) k e =
      let v = both (flat_map (formula_deeper k) labels) (action_deeper k body) e in
      omega (arith, of_list (formula_deeper k) formula_depth k (λ f h. formula f k h) labels v.0, action body k v.1)
  branch (Default at body) k e = action body k e

  branches : (bs : Branches) (k : ℕ) → branches_deeper k bs ≡ [] → branches_depth bs ≤ k
  branches no_branches k e = omega arith
  branches (more_branches b others) k e =
      let v = both (branch_deeper k b) (branches_deeper k others) e in
      omega (arith, branch b k v.0, branches others k v.1)

head : (h : Head) (k : ℕ) → head_deeper k h ≡ [] → head_depth h ≤ k
head h k e = of_option (bounds_deeper k) bounds_depth k (λ b x. bounds b k x) h.bounds e

drive : (d : Drive) (k : ℕ) → drive_deeper k d ≡ [] → drive_depth d ≤ k
drive d k e =
    let v = both (target_deeper k d.target) (formula_deeper k d.value) e in
    omega (arith, target d.target k v.0, formula d.value k v.1)

gate_drive : (d : GateDrive) (k : ℕ) → gate_drive_deeper k d ≡ [] → gate_drive_depth d ≤ k
gate_drive d k e =
    let v = both (flat_map (target_deeper k) d.outputs) (formula_deeper k d.value) e in
    omega (arith, of_list (target_deeper k) target_depth k (λ t h. target t k h) d.outputs v.0, formula d.value k v.1)

happening : (h : Happening) (k : ℕ) → happening_deeper k h ≡ [] → happening_depth h ≤ k
happening (Edge edge at name) k e = omega arith
happening (Change name) k e = omega arith
happening (ChangeBit name i) k e = formula i k e
happening (ChangePart name a b) k e =
    let v = both (formula_deeper k a) (formula_deeper k b) e in
    omega (arith, formula a k v.0, formula b k v.1)

sensitivity : (s : Sensitivity) (k : ℕ) → sensitivity_deeper k s ≡ [] → sensitivity_depth s ≤ k
sensitivity Star k e = omega arith
sensitivity StarInParens k e = omega arith
sensitivity (Listed es) k e = of_list (happening_deeper k) happening_depth k (λ h x. happening h k x) es e

value : (v : Option Formula) (k : ℕ) → of_any (formula_deeper k) v ≡ [] → if_any formula_depth v ≤ k
value v k e = of_option (formula_deeper k) formula_depth k (λ f h. formula f k h) v e

association : (a : Association) (k : ℕ) → association_deeper k a ≡ [] → association_depth a ≤ k
association (ByPosition xs) k e = of_list (positional_deeper k) positional_depth k (λ x h. value x.value k h) xs e
association (ByName xs) k e = of_list (associated_deeper k) associated_depth k (λ x h. value x.value k h) xs e

range : (b : Option Bounds) (k : ℕ) → of_any (bounds_deeper k) b ≡ [] → if_any bounds_depth b ≤ k
range b k e = of_option (bounds_deeper k) bounds_depth k (λ x h. bounds x k h) b e

item : (i : ModuleItem) (k : ℕ) → item_deeper k i ≡ [] → item_depth i ≤ k
item (Ports h names) k e = head h k e
item (Nets at signed b nets) k e =
    let v = both (of_any (bounds_deeper k) b) (flat_map (net_deeper k) nets) e in
    omega (arith, range b k v.0, of_list (net_deeper k) net_depth k (λ n h. value n.value k h) nets v.1)
item (Variables at signed b variables) k e = range b k e
item (Integers at names) k e = omega arith
item (Parameters at kind b values) k e =
    let v = both (of_any (bounds_deeper k) b) (flat_map (valuation_deeper k) values) e in
    omega (arith, range b k v.0, of_list (valuation_deeper k) valuation_depth k (λ x h. formula x.value k h) values v.1)
item (Drives at p drives) k e =
    let v = both (of_any (pause_deeper k) p) (flat_map (drive_deeper k) drives) e in
    omega (arith, of_option (pause_deeper k) pause_depth k (λ x h. pause x k h) p v.0, of_list (drive_deeper k) drive_depth k (λ d h. drive d k h) drives v.1)
item (Gates at names p drives) k e =
    let v = both (of_any (pause_deeper k) p) (flat_map (gate_drive_deeper k) drives) e in
    omega (arith, of_option (pause_deeper k) pause_depth k (λ x h. pause x k h) p v.0, of_list (gate_drive_deeper k) gate_drive_depth k (λ d h. gate_drive d k h) drives v.1)
item (Always at s body) k e =
    let v = both (sensitivity_deeper k s) (action_deeper k body) e in
    omega (arith, sensitivity s k v.0, action body k v.1)
item (Instances child parameters instantiations) k e =
    let v = both (association_deeper k parameters) (flat_map (instantiation_deeper k) instantiations) e in
    omega (arith, association parameters k v.0, of_list (instantiation_deeper k) instantiation_depth k (λ p h. association p.connections k h) instantiations v.1)

gate_span : (s : GateSpan) (k : ℕ) → gate_span_deeper k s ≡ [] → gate_span_depth s ≤ k
gate_span (One s) k e = span s k e
gate_span (Two rise fall) k e =
    let v = both (formula_deeper k rise) (formula_deeper k fall) e in
    omega (arith, formula rise k v.0, formula fall k v.1)

gate_pause : (p : GatePause) (k : ℕ) → gate_pause_deeper k p ≡ [] → gate_pause_depth p ≤ k
gate_pause p k e = gate_span p.span k e

gate : (g : Gate) (k : ℕ) → gate_deeper k g ≡ [] → gate_depth g ≤ k
gate g k e =
    let v = both (target_deeper k g.output) (flat_map (formula_deeper k) g.terminals) e in
    omega (arith, target g.output k v.0, of_list (formula_deeper k) formula_depth k (λ f h. formula f k h) g.terminals v.1)

mutual
  written : (i : WrittenItem) (k : ℕ) → written_deeper k i ≡ [] → written_depth i ≤ k
  written (Plain i) k e = item i k e
  written (Primitives at kind p gates) k e =
      let v = both (of_any (gate_pause_deeper k) p) (flat_map (gate_deeper k) gates) e in
      omega (arith, of_option (gate_pause_deeper k) gate_pause_depth k (λ x h. gate_pause x k h) p v.0, of_list (gate_deeper k) gate_depth k (λ g h. gate g k h) gates v.1)
  written (Genvars at names) k e = omega arith
  written (Region at items) k e =
      let v = both (here k at) (written_items_deeper (k - 1) items) e in
      omega (arith, some k at v.0, row items (k - 1) v.1)
  written (generate.If at c taken) k e =
      let v = three (here k at) (formula_deeper (k - 1) c) (made_deeper (k - 1) taken) e in
      omega (arith, some k at v.0, formula c (k - 1) v.1, block taken (k - 1) v.2)
  written (generate.IfElse at c taken otherwise) k e =
      let v = four (here k at) (formula_deeper (k - 1) c) (made_deeper (k - 1) taken) (made_deeper (k - 1) otherwise) e in
      omega (arith, some k at v.0, formula c (k - 1) v.1, block taken (k - 1) v.2, block otherwise (k - 1) v.3)
  written (generate.Case at selector chosen) k e =
      let v = three (here k at) (formula_deeper (k - 1) selector) (choices_deeper (k - 1) chosen) e in
      omega (arith, some k at v.0, formula selector (k - 1) v.1, choices chosen (k - 1) v.2)
  written (generate.For at i start c j step body) k e =
      let front = (((here k at ++ formula_deeper (k - 1) start) ++ formula_deeper (k - 1) c) ++ formula_deeper (k - 1) step) in
      let v = four (here k at) (formula_deeper (k - 1) start) (formula_deeper (k - 1) c) (formula_deeper (k - 1) step) (left front (made_deeper (k - 1) body) e) in
      omega (arith, some k at v.0, formula start (k - 1) v.1, formula c (k - 1) v.2, formula step (k - 1) v.3, block body (k - 1) (right front (made_deeper (k - 1) body) e))

  row : (items : WrittenItems) (k : ℕ) → written_items_deeper k items ≡ [] → written_items_depth items ≤ k
  row no_items k e = omega arith
  row (more_items i others) k e =
      let v = both (written_deeper k i) (written_items_deeper k others) e in
      omega (arith, written i k v.0, row others k v.1)

  block : (made : GenerateBlock) (k : ℕ) → made_deeper k made ≡ [] → made_depth made ≤ k
  block (generate.Null at) k e = some k at e
  block (Single i) k e = written i k e
  block (generate.Block at label items) k e =
      let v = both (here k at) (written_items_deeper (k - 1) items) e in
      omega (arith, some k at v.0, row items (k - 1) v.1)

  choice : (chosen : GenerateChoice) (k : ℕ) → choice_deeper k chosen ≡ [] → choice_depth chosen ≤ k
  choice (generate.Labelled labels body) k e =
      let v = both (flat_map (formula_deeper k) labels) (made_deeper k body) e in
      omega (arith, of_list (formula_deeper k) formula_depth k (λ f h. formula f k h) labels v.0, block body k v.1)
  choice (generate.Default at body) k e = block body k e

  choices : (all : GenerateChoices) (k : ℕ) → choices_deeper k all ≡ [] → choices_depth all ≤ k
  choices no_choices k e = omega arith
  choices (more_choices chosen others) k e =
      let v = both (choice_deeper k chosen) (choices_deeper k others) e in
      omega (arith, choice chosen k v.0, choices others k v.1)

parameter : (p : HeaderParameter) (k : ℕ) → header_parameter_deeper k p ≡ [] → header_parameter_depth p ≤ k
parameter p k e =
    let v = both (of_any (λ h. of_any (bounds_deeper k) h.bounds) p.heading) (formula_deeper k p.value) e in
    omega (arith, of_option (λ h. of_any (bounds_deeper k) h.bounds) (λ h. if_any bounds_depth h.bounds) k (λ h x. range h.bounds k x) p.heading v.0, formula p.value k v.1)

header : (h : Header) (k : ℕ) → header_deeper k h ≡ [] → header_depth h ≤ k
header Absent k e = omega arith
header Empty k e = omega arith
header (Declared ports) k e = of_list (header_port_deeper k) header_port_depth k (λ p h. of_option (head_deeper k) head_depth k (λ x y. head x k y) p.head h) ports e
header (modules.Named names) k e = omega arith

circuit : (c : WrittenCircuit) (k : ℕ) → deeper k c ≡ [] → depth c ≤ k
circuit c k e =
    let v = three (flat_map (header_parameter_deeper k) c.parameters) (header_deeper k c.header) (flat_map (written_deeper k) c.items) e in
    omega (arith, of_list (header_parameter_deeper k) header_parameter_depth k (λ p h. parameter p k h) c.parameters v.0, header c.header k v.1, of_list (written_deeper k) written_depth k (λ i h. written i k h) c.items v.2)

-- modules without a place that is too deep
pub shallow : (cs : List WrittenCircuit) → too_deep cs ≡ [] → All (λ c. depth c ≤ MAX_NESTING) cs
shallow [] e k d l = absurd (omega (arith, l))
shallow (c ∷ cs) e zero d l = circuit c MAX_NESTING (left (deeper MAX_NESTING c) (too_deep cs) e)
shallow (c ∷ cs) e (suc k) d l = shallow cs (right (deeper MAX_NESTING c) (too_deep cs) e) k d (omega (arith, l))
