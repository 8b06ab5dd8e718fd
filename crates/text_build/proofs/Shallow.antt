-- Where nothing is deeper than a number, no place is.
use Rattle.std.proofs.Common.{◌≡◌, ℕ, zero, suc, ◌-◌, ◌≤◌, List, [], ◌∷◌, ◌++◌, Option, Some, None, refl, arith}
use Rattle.std.specs.List.{flat_map}
use Rattle.rtl_tree.specs.TreeExpr.{Formula, Number, Read, ReadBit, ReadPart, Parens, Apply, Concat, Repeat, Unary, Binary, Choose, Formulas, no_formulas, more_formulas, Bounds}
use Rattle.rtl_tree.specs.TreeStmt.{Target, Whole, Bit, Part, Joined, Targets, no_targets, more_targets, Span, Fixed, Named, Valued, Pause, Action, Null, Delayed, Assign, If, IfElse, Case, For, Block, Actions, no_actions, more_actions, Branch, Labelled, Default, Branches, no_branches, more_branches, target_place}
use Rattle.rtl_tree.specs.TreeItem.{Head, Drive, GateDrive, Happening, Edge, Change, ChangeBit, ChangePart, Sensitivity, Star, StarInParens, Listed, Association, ByPosition, ByName, ModuleItem, Ports, Nets, Variables, Integers, Parameters, Drives, Gates, Always, Instances}
use Rattle.rtl_tree.specs.TreeGate.{GateSpan, One, Two, GatePause, Gate}
use Rattle.rtl_tree.specs.TreeWritten.{WrittenItem, Plain, Primitives, Genvars, Region, WrittenItems, no_items, more_items, GenerateBlock, Single, GenerateChoice, GenerateChoices, no_choices, more_choices}
use Rattle.rtl_tree.specs.TreeWritten as generate
use Rattle.rtl_tree.specs.TreeModule.{HeaderParameter, Header, Absent, Empty, Declared, WrittenCircuit}
use Rattle.rtl_tree.specs.TreeModule as modules
use Rattle.text_grammar.specs.Deeper.{of_any, here, formula_deeper, formulas_deeper, bounds_deeper, target_deeper, targets_deeper, span_deeper, pause_deeper, action_deeper, actions_deeper, branch_deeper, branches_deeper, head_deeper, net_deeper, valuation_deeper, drive_deeper, gate_drive_deeper, happening_deeper, sensitivity_deeper, positional_deeper, associated_deeper, association_deeper, instantiation_deeper, item_deeper, gate_span_deeper, gate_pause_deeper, gate_deeper, written_deeper, written_items_deeper, made_deeper, choice_deeper, choices_deeper, header_parameter_deeper, header_port_deeper, header_deeper, deeper, too_deep}
use Rattle.text_grammar.specs.Depth.{greatest, if_any, formula_depth, formulas_depth, bounds_depth, target_depth, targets_depth, span_depth, pause_depth, action_depth, actions_depth, branch_depth, branches_depth, head_depth, net_depth, valuation_depth, drive_depth, gate_drive_depth, happening_depth, sensitivity_depth, positional_depth, associated_depth, association_depth, instantiation_depth, item_depth, gate_span_depth, gate_pause_depth, gate_depth, written_depth, written_items_depth, made_depth, choice_depth, choices_depth, header_parameter_depth, header_port_depth, header_depth, depth}
use Rattle.text_grammar.specs.declared.nesting.TheConstants.{MAX_NESTING}

-- parts without places make a whole without
join : {xs ys : List ℕ} → xs ≡ [] → ys ≡ [] → xs ++ ys ≡ []
join {xs = []} a b = b
join {xs = x ∷ xs} a b = cc

none : (k at : ℕ) → 1 ≤ k → here k at ≡ []
none zero at h = absurd (omega (arith, h))
none (suc k) at h = refl

of_list : {A : Type 0} (f : A → List ℕ) (g : A → ℕ) (k : ℕ) → ((x : A) → g x ≤ k → f x ≡ []) → (xs : List A) → greatest g xs ≤ k → flat_map f xs ≡ []
of_list f g k h [] e = refl
of_list f g k h (x ∷ xs) e = join (h x (omega (arith, e))) (of_list f g k h xs (omega (arith, e)))

of_option : {A : Type 0} (f : A → List ℕ) (g : A → ℕ) (k : ℕ) → ((x : A) → g x ≤ k → f x ≡ []) → (o : Option A) → if_any g o ≤ k → of_any f o ≡ []
of_option f g k h None e = refl
of_option f g k h (Some x) e = h x e

mutual
  formula : (f : Formula) (k : ℕ) → formula_depth f ≤ k → formula_deeper k f ≡ []
  formula (Number value at) k e = none k at e
  formula (Read name) k e = none k name.at e
  formula (ReadBit name i) k e = join (none k name.at (omega (arith, e))) (formula i (k - 1) (omega (arith, e)))
  formula (ReadPart name p a b) k e = join (join (none k name.at (omega (arith, e))) (formula a (k - 1) (omega (arith, e)))) (formula b (k - 1) (omega (arith, e)))
  formula (Parens at i) k e = join (none k at (omega (arith, e))) (formula i (k - 1) (omega (arith, e)))
  formula (Apply s at i) k e = join (none k at (omega (arith, e))) (formula i (k - 1) (omega (arith, e)))
  formula (Concat at fs) k e = join (none k at (omega (arith, e))) (formulas fs (k - 1) (omega (arith, e)))
  formula (Repeat at t fs) k e = join (join (none k at (omega (arith, e))) (formula t (k - 1) (omega (arith, e)))) (formulas fs (k - 1) (omega (arith, e)))
  formula (Unary op at a) k e = join (none k at (omega (arith, e))) (formula a (k - 1) (omega (arith, e)))
  formula (Binary op at a b) k e = join (join (none k at (omega (arith, e))) (formula a (k - 1) (omega (arith, e)))) (formula b (k - 1) (omega (arith, e)))
  formula (Choose at c t o) k e =
      join (join (join (none k at (omega (arith, e))) (formula c (k - 1) (omega (arith, e)))) (formula t (k - 1) (omega (arith, e)))) (formula o (k - 1) (omega (arith, e)))

  formulas : (fs : Formulas) (k : ℕ) → formulas_depth fs ≤ k → formulas_deeper k fs ≡ []
  formulas no_formulas k e = refl
  formulas (more_formulas f fs) k e = join (formula f k (omega (arith, e))) (formulas fs k (omega (arith, e)))

bounds : (b : Bounds) (k : ℕ) → bounds_depth b ≤ k → bounds_deeper k b ≡ []
bounds b k e = join (formula b.msb k (omega (arith, e))) (formula b.lsb k (omega (arith, e)))

mutual
  target : (t : Target) (k : ℕ) → target_depth t ≤ k → target_deeper k t ≡ []
  target (Whole name) k e = none k name.at e
  target (Bit name i) k e = join (none k name.at (omega (arith, e))) (formula i (k - 1) (omega (arith, e)))
  target (Part name p a b) k e = join (join (none k name.at (omega (arith, e))) (formula a (k - 1) (omega (arith, e)))) (formula b (k - 1) (omega (arith, e)))
  target (Joined at ts) k e = join (none k at (omega (arith, e))) (targets ts (k - 1) (omega (arith, e)))

  targets : (ts : Targets) (k : ℕ) → targets_depth ts ≤ k → targets_deeper k ts ≡ []
  targets no_targets k e = refl
  targets (more_targets t ts) k e = join (target t k (omega (arith, e))) (targets ts k (omega (arith, e)))

span : (s : Span) (k : ℕ) → span_depth s ≤ k → span_deeper k s ≡ []
span (Fixed value) k e = refl
span (Named name) k e = refl
span (Valued f) k e = formula f k e

pause : (p : Pause) (k : ℕ) → pause_depth p ≤ k → pause_deeper k p ≡ []
pause p k e = span p.span k e

pauses : (o : Option Pause) (k : ℕ) → if_any pause_depth o ≤ k → of_any (pause_deeper k) o ≡ []
pauses o k e = of_option (pause_deeper k) pause_depth k (λ x h. pause x k h) o e

mutual
  action : (a : Action) (k : ℕ) → action_depth a ≤ k → action_deeper k a ≡ []
  action (Null at) k e = none k at e
  action (Delayed p body) k e = join (join (none k p.at (omega (arith, e))) (pause p (k - 1) (omega (arith, e)))) (action body (k - 1) (omega (arith, e)))
  action (Assign t kind p value) k e =
      join (join (join (none k (target_place t) (omega (arith, e))) (target t (k - 1) (omega (arith, e)))) (pauses p (k - 1) (omega (arith, e)))) (formula value (k - 1) (omega (arith, e)))
  action (If at c a) k e = join (join (none k at (omega (arith, e))) (formula c (k - 1) (omega (arith, e)))) (action a (k - 1) (omega (arith, e)))
  action (IfElse at c a b) k e =
      join (join (join (none k at (omega (arith, e))) (formula c (k - 1) (omega (arith, e)))) (action a (k - 1) (omega (arith, e)))) (action b (k - 1) (omega (arith, e)))
  action (Case at kind full parallel selector bs) k e =
      join (join (none k at (omega (arith, e))) (formula selector (k - 1) (omega (arith, e)))) (branches bs (k - 1) (omega (arith, e)))
  action (For at i start c j step body) k e =
      join
      (join (join (join (none k at (omega (arith, e))) (formula start (k - 1) (omega (arith, e)))) (formula c (k - 1) (omega (arith, e)))) (formula step (k - 1) (omega (arith, e))))
      (action body (k - 1) (omega (arith, e)))
  action (Block at l body) k e = join (none k at (omega (arith, e))) (actions body (k - 1) (omega (arith, e)))

  actions : (all : Actions) (k : ℕ) → actions_depth all ≤ k → actions_deeper k all ≡ []
  actions no_actions k e = refl
  actions (more_actions a others) k e = join (action a k (omega (arith, e))) (actions others k (omega (arith, e)))

  branch : (b : Branch) (k : ℕ) → branch_depth b ≤ k → branch_deeper k b ≡ []
  branch (Labelled labels body) k e = join (of_list (formula_deeper k) formula_depth k (λ f h. formula f k h) labels (omega (arith, e))) (action body k (omega (arith, e)))
  branch (Default at body) k e = action body k e

  branches : (bs : Branches) (k : ℕ) → branches_depth bs ≤ k → branches_deeper k bs ≡ []
  branches no_branches k e = refl
  branches (more_branches b others) k e = join (branch b k (omega (arith, e))) (branches others k (omega (arith, e)))

head : (h : Head) (k : ℕ) → head_depth h ≤ k → head_deeper k h ≡ []
head h k e = of_option (bounds_deeper k) bounds_depth k (λ b x. bounds b k x) h.bounds e

drive : (d : Drive) (k : ℕ) → drive_depth d ≤ k → drive_deeper k d ≡ []
drive d k e = join (target d.target k (omega (arith, e))) (formula d.value k (omega (arith, e)))

gate_drive : (d : GateDrive) (k : ℕ) → gate_drive_depth d ≤ k → gate_drive_deeper k d ≡ []
gate_drive d k e = join (of_list (target_deeper k) target_depth k (λ t h. target t k h) d.outputs (omega (arith, e))) (formula d.value k (omega (arith, e)))

happening : (h : Happening) (k : ℕ) → happening_depth h ≤ k → happening_deeper k h ≡ []
happening (Edge edge at name) k e = refl
happening (Change name) k e = refl
happening (ChangeBit name i) k e = formula i k e
happening (ChangePart name a b) k e = join (formula a k (omega (arith, e))) (formula b k (omega (arith, e)))

sensitivity : (s : Sensitivity) (k : ℕ) → sensitivity_depth s ≤ k → sensitivity_deeper k s ≡ []
sensitivity Star k e = refl
sensitivity StarInParens k e = refl
sensitivity (Listed es) k e = of_list (happening_deeper k) happening_depth k (λ h x. happening h k x) es e

value : (v : Option Formula) (k : ℕ) → if_any formula_depth v ≤ k → of_any (formula_deeper k) v ≡ []
value v k e = of_option (formula_deeper k) formula_depth k (λ f h. formula f k h) v e

association : (a : Association) (k : ℕ) → association_depth a ≤ k → association_deeper k a ≡ []
association (ByPosition xs) k e = of_list (positional_deeper k) positional_depth k (λ x h. value x.value k h) xs e
association (ByName xs) k e = of_list (associated_deeper k) associated_depth k (λ x h. value x.value k h) xs e

range : (b : Option Bounds) (k : ℕ) → if_any bounds_depth b ≤ k → of_any (bounds_deeper k) b ≡ []
range b k e = of_option (bounds_deeper k) bounds_depth k (λ x h. bounds x k h) b e

item : (i : ModuleItem) (k : ℕ) → item_depth i ≤ k → item_deeper k i ≡ []
item (Ports h names) k e = head h k e
item (Nets at signed b nets) k e = join (range b k (omega (arith, e))) (of_list (net_deeper k) net_depth k (λ n h. value n.value k h) nets (omega (arith, e)))
item (Variables at signed b variables) k e = range b k e
item (Integers at names) k e = refl
item (Parameters at kind b values) k e =
    join (range b k (omega (arith, e))) (of_list (valuation_deeper k) valuation_depth k (λ x h. formula x.value k h) values (omega (arith, e)))
item (Drives at p drives) k e = join (pauses p k (omega (arith, e))) (of_list (drive_deeper k) drive_depth k (λ d h. drive d k h) drives (omega (arith, e)))
item (Gates at names p drives) k e = join (pauses p k (omega (arith, e))) (of_list (gate_drive_deeper k) gate_drive_depth k (λ d h. gate_drive d k h) drives (omega (arith, e)))
item (Always at s body) k e = join (sensitivity s k (omega (arith, e))) (action body k (omega (arith, e)))
item (Instances child parameters instantiations) k e =
    join (association parameters k (omega (arith, e))) (of_list (instantiation_deeper k) instantiation_depth k (λ p h. association p.connections k h) instantiations (omega (arith, e)))

gate_span : (s : GateSpan) (k : ℕ) → gate_span_depth s ≤ k → gate_span_deeper k s ≡ []
gate_span (One s) k e = span s k e
gate_span (Two rise fall) k e = join (formula rise k (omega (arith, e))) (formula fall k (omega (arith, e)))

gate_pauses : (o : Option GatePause) (k : ℕ) → if_any gate_pause_depth o ≤ k → of_any (gate_pause_deeper k) o ≡ []
gate_pauses o k e = of_option (gate_pause_deeper k) gate_pause_depth k (λ p h. gate_span p.span k h) o e

gate : (g : Gate) (k : ℕ) → gate_depth g ≤ k → gate_deeper k g ≡ []
gate g k e = join (target g.output k (omega (arith, e))) (of_list (formula_deeper k) formula_depth k (λ f h. formula f k h) g.terminals (omega (arith, e)))

mutual
  written : (i : WrittenItem) (k : ℕ) → written_depth i ≤ k → written_deeper k i ≡ []
  written (Plain i) k e = item i k e
  written (Primitives at kind p gates) k e = join (gate_pauses p k (omega (arith, e))) (of_list (gate_deeper k) gate_depth k (λ g h. gate g k h) gates (omega (arith, e)))
  written (Genvars at names) k e = refl
  written (Region at items) k e = join (none k at (omega (arith, e))) (written_all items (k - 1) (omega (arith, e)))
  written (generate.If at c a) k e = join (join (none k at (omega (arith, e))) (formula c (k - 1) (omega (arith, e)))) (made a (k - 1) (omega (arith, e)))
  written (generate.IfElse at c a b) k e =
      join (join (join (none k at (omega (arith, e))) (formula c (k - 1) (omega (arith, e)))) (made a (k - 1) (omega (arith, e)))) (made b (k - 1) (omega (arith, e)))
  written (generate.Case at selector all) k e =
      join (join (none k at (omega (arith, e))) (formula selector (k - 1) (omega (arith, e)))) (choices all (k - 1) (omega (arith, e)))
  written (generate.For at i start c j step body) k e =
      join
      (join (join (join (none k at (omega (arith, e))) (formula start (k - 1) (omega (arith, e)))) (formula c (k - 1) (omega (arith, e)))) (formula step (k - 1) (omega (arith, e))))
      (made body (k - 1) (omega (arith, e)))

  written_all : (all : WrittenItems) (k : ℕ) → written_items_depth all ≤ k → written_items_deeper k all ≡ []
  written_all no_items k e = refl
  written_all (more_items i others) k e = join (written i k (omega (arith, e))) (written_all others k (omega (arith, e)))

  made : (b : GenerateBlock) (k : ℕ) → made_depth b ≤ k → made_deeper k b ≡ []
  made (generate.Null at) k e = none k at e
  made (Single i) k e = written i k e
  made (generate.Block at l items) k e = join (none k at (omega (arith, e))) (written_all items (k - 1) (omega (arith, e)))

  choice : (c : GenerateChoice) (k : ℕ) → choice_depth c ≤ k → choice_deeper k c ≡ []
  choice (generate.Labelled labels body) k e =
      join (of_list (formula_deeper k) formula_depth k (λ f h. formula f k h) labels (omega (arith, e))) (made body k (omega (arith, e)))
  choice (generate.Default at body) k e = made body k e

  choices : (all : GenerateChoices) (k : ℕ) → choices_depth all ≤ k → choices_deeper k all ≡ []
  choices no_choices k e = refl
  choices (more_choices c others) k e = join (choice c k (omega (arith, e))) (choices others k (omega (arith, e)))

parameter : (p : HeaderParameter) (k : ℕ) → header_parameter_depth p ≤ k → header_parameter_deeper k p ≡ []
parameter p k e =
    join
    (of_option (λ h. of_any (bounds_deeper k) h.bounds) (λ h. if_any bounds_depth h.bounds) k (λ h x. range h.bounds k x) p.heading (omega (arith, e)))
    (formula p.value k (omega (arith, e)))

header : (h : Header) (k : ℕ) → header_depth h ≤ k → header_deeper k h ≡ []
header Absent k e = refl
header Empty k e = refl
header (Declared ports) k e = of_list (header_port_deeper k) header_port_depth k (λ p h. of_option (head_deeper k) head_depth k (λ x y. head x k y) p.head h) ports e
header (modules.Named names) k e = refl

pub module_shallow : (c : WrittenCircuit) (k : ℕ) → depth c ≤ k → deeper k c ≡ []
module_shallow c k e =
    join
    (join (of_list (header_parameter_deeper k) header_parameter_depth k (λ p h. parameter p k h) c.parameters (omega (arith, e))) (header c.header k (omega (arith, e))))
    (of_list (written_deeper k) written_depth k (λ i h. written i k h) c.items (omega (arith, e)))

-- modules that are shallow enough hold nothing too deep
pub all_shallow : (cs : List WrittenCircuit) → greatest depth cs ≤ MAX_NESTING → too_deep cs ≡ []
all_shallow cs e = of_list (deeper MAX_NESTING) depth MAX_NESTING (λ c h. module_shallow c MAX_NESTING h) cs e
