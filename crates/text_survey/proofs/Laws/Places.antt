-- The places in a nest are those in the trees that it came from.
use Rattle.std.proofs.Common.{◌≡◌, ℕ, ◌-◌, List, [], ◌∷◌, ◌++◌, Option, Some, None, refl, sym, ap, ◌∙◌}
use Rattle.std.specs.List.{flat_map}
use Rattle.rtl_tree.specs.TreeExpr.{Formula, Number, Read, ReadBit, ReadPart, Parens, Apply, Concat, Repeat, Unary, Binary, Choose, Formulas, no_formulas, more_formulas, Bounds}
use Rattle.rtl_tree.specs.TreeStmt.{Target, Whole, Bit, Part, Joined, Targets, no_targets, more_targets, Span, Fixed, Named, Valued, Pause, Action, Null, Delayed, Assign, If, IfElse, Case, For, Block, Actions, no_actions, more_actions, Branch, Labelled, Default, Branches, no_branches, more_branches, target_place}
use Rattle.rtl_tree.specs.TreeItem.{Head, Net, Drive, Happening, Edge, Change, ChangeBit, ChangePart, Sensitivity, Star, StarInParens, Listed, Association, ByPosition, ByName, ModuleItem, Ports, Nets, Variables, Integers, Parameters, Drives, GateDrive, Gates, Always, Instances}
use Rattle.rtl_tree.specs.TreeGate.{GateSpan, One, Two, GatePause, Gate}
use Rattle.rtl_tree.specs.TreeWritten.{WrittenItem, Plain, Primitives, Genvars, Region, WrittenItems, no_items, more_items, GenerateBlock, Single, GenerateChoice, GenerateChoices, no_choices, more_choices}
use Rattle.rtl_tree.specs.TreeWritten as generate
use Rattle.rtl_tree.specs.TreeModule.{Heading, HeaderParameter, HeaderPort, Header, Absent, Empty, Declared, WrittenCircuit}
use Rattle.rtl_tree.specs.TreeModule as modules
use Rattle.text_grammar.specs.Deeper.{of_any, here, formula_deeper, formulas_deeper, bounds_deeper, target_deeper, targets_deeper, span_deeper, pause_deeper, action_deeper, actions_deeper, branch_deeper, branches_deeper, head_deeper, net_deeper, valuation_deeper, drive_deeper, happening_deeper, sensitivity_deeper, positional_deeper, associated_deeper, association_deeper, instantiation_deeper, gate_drive_deeper, item_deeper, gate_span_deeper, gate_pause_deeper, gate_deeper, written_deeper, written_items_deeper, made_deeper, choice_deeper, choices_deeper, header_parameter_deeper, header_port_deeper, header_deeper, deeper, too_deep}
use Rattle.text_grammar.specs.declared.nesting.TheConstants.{MAX_NESTING}
use Rattle.text_survey.specs.Depths.{Nest, Nothing, Both, Within, nest_deeper}
use Rattle.text_survey.proofs.Laws.Nests.{nest, nest_row, beside, skip, all_beside, valued, bounded, spanned, paused, nest_target, nest_targets, nest_action, nest_actions, nest_branch, nest_branches, net, valuation, drive, beside_target, happening, awaited, positional, associated, arguments, placed, gate_drive, in_item, gate_spanned, gate_paused, gate, in_written, in_items, in_made, in_choice, in_choices, headed, heading, head_parameter, head_port, in_header, in_circuit}

-- what comes in front of the same, and what follows the same
front : (xs ys zs : List ℕ) → ys ≡ zs → xs ++ ys ≡ xs ++ zs
front xs ys zs e = ap (λ l. xs ++ l) e

assoc : (xs ys zs : List ℕ) → (xs ++ ys) ++ zs ≡ xs ++ (ys ++ zs)
assoc [] ys zs = refl
assoc (x ∷ xs) ys zs = ap (λ l. x ∷ l) (assoc xs ys zs)

left2 : (x a b : List ℕ) → x ++ (a ++ b) ≡ (x ++ a) ++ b
left2 x a b = sym (assoc x a b)

left3 : (x a b c : List ℕ) → x ++ (a ++ (b ++ c)) ≡ ((x ++ a) ++ b) ++ c
left3 x a b c = left2 x a (b ++ c) ∙ left2 (x ++ a) b c

left4 : (x a b c d : List ℕ) → x ++ (a ++ (b ++ (c ++ d))) ≡ (((x ++ a) ++ b) ++ c) ++ d
left4 x a b c d = left3 x a b (c ++ d) ∙ left2 ((x ++ a) ++ b) c d

nil : (xs : List ℕ) → xs ++ [] ≡ xs
nil [] = refl
nil (x ∷ xs) = ap (λ l. x ∷ l) (nil xs)

-- what a function puts beside what was read before has these places
Puts : (Nest → Nest) → ℕ → List ℕ → Type 0
Puts g k places = (m : Nest) → nest_deeper k (g m) ≡ nest_deeper k m ++ places

puts_nothing : (g : Nest → Nest) (k : ℕ) → ((m : Nest) → g m ≡ m) → Puts g k []
unfolding Puts
puts_nothing g k e m = ap (nest_deeper k) (e m) ∙ sym (nil (nest_deeper k m))

-- one after another
puts_then : (g h : Nest → Nest) (k : ℕ) (xs ys : List ℕ) → Puts g k xs → Puts h k ys → Puts (λ m. h (g m)) k (xs ++ ys)
unfolding Puts
puts_then g h k xs ys p q m = q (g m) ∙ ap (λ l. l ++ ys) (p m) ∙ assoc (nest_deeper k m) xs ys

puts_all : {A : Type 0} (g : A → Nest → Nest) (k : ℕ) (f : A → List ℕ) → ((x : A) → Puts (g x) k (f x)) → (xs : List A) → Puts (all_beside g xs) k (flat_map f xs)
unfolding Puts
puts_all g k f p [] m = sym (nil (nest_deeper k m))
puts_all g k f p (x ∷ xs) m =
    puts_all g k f p xs (g x m) ∙ ap (λ l. l ++ flat_map f xs) (p x m) ∙ assoc (nest_deeper k m) (f x) (flat_map f xs)

skips : {A : Type 0} (xs : List A) (m : Nest) → all_beside skip xs m ≡ m
skips [] m = refl
skips (x ∷ xs) m = skips xs m

puts_skip : {A : Type 0} (xs : List A) (k : ℕ) → Puts (all_beside skip xs) k []
puts_skip xs k = puts_nothing (all_beside skip xs) k (skips xs)

-- ---- expressions

mutual
  unfolding Puts

  formula_places : (f : Formula) (k : ℕ) → nest_deeper k (nest f) ≡ formula_deeper k f
  formula_places (Number value at) k = nil (here k at)
  formula_places (Read name) k = nil (here k name.at)
  formula_places (ReadBit name i) k = front (here k name.at) _ _ (formula_places i (k - 1))
  formula_places (ReadPart name kind a b) k =
      front (here k name.at) _ _ (ap (λ l. l ++ nest_deeper (k - 1) (nest b)) (formula_places a (k - 1)) ∙ front (formula_deeper (k - 1) a) _ _ (formula_places b (k - 1)))
      ∙ left2 (here k name.at) (formula_deeper (k - 1) a) (formula_deeper (k - 1) b)
  formula_places (Parens at i) k = front (here k at) _ _ (formula_places i (k - 1))
  formula_places (Apply s at i) k = front (here k at) _ _ (formula_places i (k - 1))
  formula_places (Concat at fs) k = front (here k at) _ _ (row_places fs (k - 1) Nothing)
  formula_places (Repeat at t fs) k =
      front (here k at) _ _ (row_places fs (k - 1) (Both Nothing (nest t)) ∙ ap (λ l. l ++ formulas_deeper (k - 1) fs) (formula_places t (k - 1)))
      ∙ left2 (here k at) (formula_deeper (k - 1) t) (formulas_deeper (k - 1) fs)
  formula_places (Unary op at a) k = front (here k at) _ _ (formula_places a (k - 1))
  formula_places (Binary op at a b) k =
      front (here k at) _ _ (ap (λ l. l ++ nest_deeper (k - 1) (nest b)) (formula_places a (k - 1)) ∙ front (formula_deeper (k - 1) a) _ _ (formula_places b (k - 1)))
      ∙ left2 (here k at) (formula_deeper (k - 1) a) (formula_deeper (k - 1) b)
  formula_places (Choose at c t o) k =
      front (here k at) _ _
      (assoc (nest_deeper (k - 1) (nest c)) (nest_deeper (k - 1) (nest t)) (nest_deeper (k - 1) (nest o))
      ∙ ap (λ l. l ++ (nest_deeper (k - 1) (nest t) ++ nest_deeper (k - 1) (nest o))) (formula_places c (k - 1))
      ∙ front (formula_deeper (k - 1) c) _ _ (ap (λ l. l ++ nest_deeper (k - 1) (nest o)) (formula_places t (k - 1)) ∙ front (formula_deeper (k - 1) t) _ _ (formula_places o (k - 1))))
      ∙ left3 (here k at) (formula_deeper (k - 1) c) (formula_deeper (k - 1) t) (formula_deeper (k - 1) o)

  row_places : (fs : Formulas) (k : ℕ) (m : Nest) → nest_deeper k (nest_row fs m) ≡ nest_deeper k m ++ formulas_deeper k fs
  row_places no_formulas k m = sym (nil (nest_deeper k m))
  row_places (more_formulas f fs) k m =
      row_places fs k (Both m (nest f)) ∙ assoc (nest_deeper k m) (nest_deeper k (nest f)) (formulas_deeper k fs)
      ∙ front (nest_deeper k m) _ _ (ap (λ l. l ++ formulas_deeper k fs) (formula_places f k))

puts_formula : (f : Formula) (k : ℕ) → Puts (beside f) k (formula_deeper k f)
unfolding Puts
puts_formula f k m = front (nest_deeper k m) _ _ (formula_places f k)

puts_value : (v : Option Formula) (k : ℕ) → Puts (valued v) k (of_any (formula_deeper k) v)
puts_value None k = puts_nothing (valued None) k (λ m. refl)
puts_value (Some f) k = puts_formula f k

puts_bounds : (b : Option Bounds) (k : ℕ) → Puts (bounded b) k (of_any (bounds_deeper k) b)
puts_bounds None k = puts_nothing (bounded None) k (λ m. refl)
puts_bounds (Some b) k = puts_then (beside b.msb) (beside b.lsb) k (formula_deeper k b.msb) (formula_deeper k b.lsb) (puts_formula b.msb k) (puts_formula b.lsb k)

puts_span : (s : Span) (k : ℕ) → Puts (spanned s) k (span_deeper k s)
puts_span (Fixed value) k = puts_nothing (spanned (Fixed value)) k (λ m. refl)
puts_span (Named name) k = puts_nothing (spanned (Named name)) k (λ m. refl)
puts_span (Valued f) k = puts_formula f k

puts_pause : (p : Option Pause) (k : ℕ) → Puts (paused p) k (of_any (pause_deeper k) p)
puts_pause None k = puts_nothing (paused None) k (λ m. refl)
puts_pause (Some p) k = puts_span p.span k

-- ---- targets and statements

mutual
  unfolding Puts

  target_places : (t : Target) (k : ℕ) → nest_deeper k (nest_target t) ≡ target_deeper k t
  target_places (Whole name) k = nil (here k name.at)
  target_places (Bit name i) k = front (here k name.at) _ _ (formula_places i (k - 1))
  target_places (Part name kind a b) k =
      front (here k name.at) _ _ (ap (λ l. l ++ nest_deeper (k - 1) (nest b)) (formula_places a (k - 1)) ∙ front (formula_deeper (k - 1) a) _ _ (formula_places b (k - 1)))
      ∙ left2 (here k name.at) (formula_deeper (k - 1) a) (formula_deeper (k - 1) b)
  target_places (Joined at ts) k = front (here k at) _ _ (targets_places ts (k - 1) Nothing)

  targets_places : (ts : Targets) (k : ℕ) (m : Nest) → nest_deeper k (nest_targets ts m) ≡ nest_deeper k m ++ targets_deeper k ts
  targets_places no_targets k m = sym (nil (nest_deeper k m))
  targets_places (more_targets t ts) k m =
      targets_places ts k (Both m (nest_target t)) ∙ assoc (nest_deeper k m) (nest_deeper k (nest_target t)) (targets_deeper k ts)
      ∙ front (nest_deeper k m) _ _ (ap (λ l. l ++ targets_deeper k ts) (target_places t k))

puts_target : (t : Target) (k : ℕ) → Puts (λ m. Both m (nest_target t)) k (target_deeper k t)
unfolding Puts
puts_target t k m = front (nest_deeper k m) _ _ (target_places t k)

-- a node beside what was read before
puts_node : (n : Nest) (k : ℕ) (places : List ℕ) → nest_deeper k n ≡ places → Puts (λ m. Both m n) k places
unfolding Puts
puts_node n k places e m = front (nest_deeper k m) _ _ e

-- what stands within a node
within : (g : Nest → Nest) (k at : ℕ) (places : List ℕ) → Puts g (k - 1) places → nest_deeper k (Within at (g Nothing)) ≡ here k at ++ places
unfolding Puts
within g k at places p = front (here k at) _ _ (p Nothing)

mutual
  unfolding Puts

  action_places : (a : Action) (k : ℕ) → nest_deeper k (nest_action a) ≡ action_deeper k a
  action_places (Null at) k = nil (here k at)
  action_places (Delayed p body) k =
      within (λ m. Both (spanned p.span m) (nest_action body)) k p.at (pause_deeper (k - 1) p ++ action_deeper (k - 1) body)
      (puts_then (spanned p.span) (λ m. Both m (nest_action body)) (k - 1) (span_deeper (k - 1) p.span) (action_deeper (k - 1) body) (puts_span p.span (k - 1)) (puts_node (nest_action body) (k - 1) (action_deeper (k - 1) body) (action_places body (k - 1))))
      ∙ left2 (here k p.at) (pause_deeper (k - 1) p) (action_deeper (k - 1) body)
  action_places (Assign t kind p value) k =
      within (λ m. beside value (paused p (Both m (nest_target t)))) k (target_place t) (target_deeper (k - 1) t ++ (of_any (pause_deeper (k - 1)) p ++ formula_deeper (k - 1) value))
      (puts_then (λ m. Both m (nest_target t)) (λ m. beside value (paused p m)) (k - 1) (target_deeper (k - 1) t) (of_any (pause_deeper (k - 1)) p ++ formula_deeper (k - 1) value) (puts_target t (k - 1))
      (puts_then (paused p) (beside value) (k - 1) (of_any (pause_deeper (k - 1)) p) (formula_deeper (k - 1) value) (puts_pause p (k - 1)) (puts_formula value (k - 1))))
      ∙ left3 (here k (target_place t)) (target_deeper (k - 1) t) (of_any (pause_deeper (k - 1)) p) (formula_deeper (k - 1) value)
  action_places (If at c a) k =
      within (λ m. Both (beside c m) (nest_action a)) k at (formula_deeper (k - 1) c ++ action_deeper (k - 1) a)
      (puts_then (beside c) (λ m. Both m (nest_action a)) (k - 1) (formula_deeper (k - 1) c) (action_deeper (k - 1) a) (puts_formula c (k - 1)) (puts_node (nest_action a) (k - 1) (action_deeper (k - 1) a) (action_places a (k - 1))))
      ∙ left2 (here k at) (formula_deeper (k - 1) c) (action_deeper (k - 1) a)
  action_places (IfElse at c a b) k =
      within (λ m. Both (Both (beside c m) (nest_action a)) (nest_action b)) k at (formula_deeper (k - 1) c ++ (action_deeper (k - 1) a ++ action_deeper (k - 1) b))
      (puts_then (beside c) (λ m. Both (Both m (nest_action a)) (nest_action b)) (k - 1) (formula_deeper (k - 1) c) (action_deeper (k - 1) a ++ action_deeper (k - 1) b) (puts_formula c (k - 1))
      (puts_then (λ m. Both m (nest_action a)) (λ m. Both m (nest_action b)) (k - 1) (action_deeper (k - 1) a) (action_deeper (k - 1) b) (puts_node (nest_action a) (k - 1) (action_deeper (k - 1) a) (action_places a (k - 1))) (puts_node (nest_action b) (k - 1) (action_deeper (k - 1) b) (action_places b (k - 1)))))
      ∙ left3 (here k at) (formula_deeper (k - 1) c) (action_deeper (k - 1) a) (action_deeper (k - 1) b)
  action_places (Case at kind full parallel selector bs) k =
      within (λ m. nest_branches bs (beside selector m)) k at (formula_deeper (k - 1) selector ++ branches_deeper (k - 1) bs)
      (puts_then (beside selector) (nest_branches bs) (k - 1) (formula_deeper (k - 1) selector) (branches_deeper (k - 1) bs) (puts_formula selector (k - 1)) (puts_branches bs (k - 1)))
      ∙ left2 (here k at) (formula_deeper (k - 1) selector) (branches_deeper (k - 1) bs)
  action_places (For at i start c j step body) k =
      within (λ m. Both (beside step (beside c (beside start m))) (nest_action body)) k at (formula_deeper (k - 1) start ++ (formula_deeper (k - 1) c ++ (formula_deeper (k - 1) step ++ action_deeper (k - 1) body)))
      (puts_then (beside start) (λ m. Both (beside step (beside c m)) (nest_action body)) (k - 1) (formula_deeper (k - 1) start) (formula_deeper (k - 1) c ++ (formula_deeper (k - 1) step ++ action_deeper (k - 1) body)) (puts_formula start (k - 1))
      (puts_then (beside c) (λ m. Both (beside step m) (nest_action body)) (k - 1) (formula_deeper (k - 1) c) (formula_deeper (k - 1) step ++ action_deeper (k - 1) body) (puts_formula c (k - 1))
      (puts_then (beside step) (λ m. Both m (nest_action body)) (k - 1) (formula_deeper (k - 1) step) (action_deeper (k - 1) body) (puts_formula step (k - 1)) (puts_node (nest_action body) (k - 1) (action_deeper (k - 1) body) (action_places body (k - 1))))))
      ∙ left4 (here k at) (formula_deeper (k - 1) start) (formula_deeper (k - 1) c) (formula_deeper (k - 1) step) (action_deeper (k - 1) body)
  action_places (Block at l body) k = within (nest_actions body) k at (actions_deeper (k - 1) body) (puts_actions body (k - 1))

  puts_actions : (all : Actions) (k : ℕ) → Puts (nest_actions all) k (actions_deeper k all)
  puts_actions no_actions k m = sym (nil (nest_deeper k m))
  puts_actions (more_actions a others) k m =
      puts_then (λ x. Both x (nest_action a)) (nest_actions others) k (action_deeper k a) (actions_deeper k others) (puts_node (nest_action a) k (action_deeper k a) (action_places a k)) (puts_actions others k) m

  puts_branch : (b : Branch) (k : ℕ) → Puts (nest_branch b) k (branch_deeper k b)
  puts_branch (Labelled labels body) k m =
      puts_then (all_beside beside labels) (λ x. Both x (nest_action body)) k (flat_map (formula_deeper k) labels) (action_deeper k body) (puts_all beside k (formula_deeper k) (λ f. puts_formula f k) labels) (puts_node (nest_action body) k (action_deeper k body) (action_places body k)) m
  puts_branch (Default at body) k m = puts_node (nest_action body) k (action_deeper k body) (action_places body k) m

  puts_branches : (bs : Branches) (k : ℕ) → Puts (nest_branches bs) k (branches_deeper k bs)
  puts_branches no_branches k m = sym (nil (nest_deeper k m))
  puts_branches (more_branches b others) k m =
      puts_then (nest_branch b) (nest_branches others) k (branch_deeper k b) (branches_deeper k others) (puts_branch b k) (puts_branches others k) m

-- ---- items and modules

puts_net : (n : Net) (k : ℕ) → Puts (net n) k (net_deeper k n)
puts_net n k = puts_value n.value k

puts_drive : (d : Drive) (k : ℕ) → Puts (drive d) k (drive_deeper k d)
puts_drive d k = puts_then (λ m. Both m (nest_target d.target)) (beside d.value) k (target_deeper k d.target) (formula_deeper k d.value) (puts_target d.target k) (puts_formula d.value k)

puts_gate_drive : (d : GateDrive) (k : ℕ) → Puts (gate_drive d) k (gate_drive_deeper k d)
puts_gate_drive d k =
    puts_then (all_beside beside_target d.outputs) (beside d.value) k (flat_map (target_deeper k) d.outputs) (formula_deeper k d.value) (puts_all beside_target k (target_deeper k) (λ t. puts_target t k) d.outputs) (puts_formula d.value k)

puts_happening : (h : Happening) (k : ℕ) → Puts (happening h) k (happening_deeper k h)
puts_happening (Edge e at name) k = puts_nothing (happening (Edge e at name)) k (λ m. refl)
puts_happening (Change name) k = puts_nothing (happening (Change name)) k (λ m. refl)
puts_happening (ChangeBit name i) k = puts_formula i k
puts_happening (ChangePart name a b) k = puts_then (beside a) (beside b) k (formula_deeper k a) (formula_deeper k b) (puts_formula a k) (puts_formula b k)

puts_sensitivity : (s : Sensitivity) (k : ℕ) → Puts (awaited s) k (sensitivity_deeper k s)
puts_sensitivity Star k = puts_nothing (awaited Star) k (λ m. refl)
puts_sensitivity StarInParens k = puts_nothing (awaited StarInParens) k (λ m. refl)
puts_sensitivity (Listed es) k = puts_all happening k (happening_deeper k) (λ h. puts_happening h k) es

puts_arguments : (a : Association) (k : ℕ) → Puts (arguments a) k (association_deeper k a)
puts_arguments (ByPosition xs) k = puts_all positional k (positional_deeper k) (λ x. puts_value x.value k) xs
puts_arguments (ByName xs) k = puts_all associated k (associated_deeper k) (λ x. puts_value x.value k) xs

-- a list of which nothing counts
then_skip : {A : Type 0} (g : Nest → Nest) (xs : List A) (k : ℕ) (places : List ℕ) → Puts g k places → Puts (λ m. all_beside skip xs (g m)) k places
unfolding Puts
then_skip g xs k places p m = ap (nest_deeper k) (skips xs (g m)) ∙ p m

puts_item : (i : ModuleItem) (k : ℕ) → Puts (in_item i) k (item_deeper k i)
puts_item (Ports h names) k = then_skip (bounded h.bounds) names k (head_deeper k h) (puts_bounds h.bounds k)
puts_item (Nets at signed bounds nets) k =
    puts_then (bounded bounds) (all_beside net nets) k (of_any (bounds_deeper k) bounds) (flat_map (net_deeper k) nets) (puts_bounds bounds k) (puts_all net k (net_deeper k) (λ n. puts_net n k) nets)
puts_item (Variables at signed bounds variables) k = then_skip (bounded bounds) variables k (of_any (bounds_deeper k) bounds) (puts_bounds bounds k)
puts_item (Integers at names) k = puts_skip names k
puts_item (Parameters at kind bounds values) k =
    puts_then (bounded bounds) (all_beside valuation values) k (of_any (bounds_deeper k) bounds) (flat_map (valuation_deeper k) values) (puts_bounds bounds k)
    (puts_all valuation k (valuation_deeper k) (λ v. puts_formula v.value k) values)
puts_item (Drives at pause drives) k =
    puts_then (paused pause) (all_beside drive drives) k (of_any (pause_deeper k) pause) (flat_map (drive_deeper k) drives) (puts_pause pause k) (puts_all drive k (drive_deeper k) (λ d. puts_drive d k) drives)
puts_item (Gates at names pause drives) k =
    puts_then (paused pause) (all_beside gate_drive drives) k (of_any (pause_deeper k) pause) (flat_map (gate_drive_deeper k) drives) (puts_pause pause k)
    (puts_all gate_drive k (gate_drive_deeper k) (λ d. puts_gate_drive d k) drives)
puts_item (Always at s body) k =
    puts_then (awaited s) (λ m. Both m (nest_action body)) k (sensitivity_deeper k s) (action_deeper k body) (puts_sensitivity s k) (puts_node (nest_action body) k (action_deeper k body) (action_places body k))
puts_item (Instances child parameters instantiations) k =
    puts_then (arguments parameters) (all_beside placed instantiations) k (association_deeper k parameters) (flat_map (instantiation_deeper k) instantiations) (puts_arguments parameters k)
    (puts_all placed k (instantiation_deeper k) (λ p. puts_arguments p.connections k) instantiations)

puts_gate_span : (s : GateSpan) (k : ℕ) → Puts (gate_spanned s) k (gate_span_deeper k s)
puts_gate_span (One s) k = puts_span s k
puts_gate_span (Two rise fall) k = puts_then (beside rise) (beside fall) k (formula_deeper k rise) (formula_deeper k fall) (puts_formula rise k) (puts_formula fall k)

puts_gate_pause : (p : Option GatePause) (k : ℕ) → Puts (gate_paused p) k (of_any (gate_pause_deeper k) p)
puts_gate_pause None k = puts_nothing (gate_paused None) k (λ m. refl)
puts_gate_pause (Some p) k = puts_gate_span p.span k

puts_gate : (g : Gate) (k : ℕ) → Puts (gate g) k (gate_deeper k g)
puts_gate g k =
    puts_then (beside_target g.output) (all_beside beside g.terminals) k (target_deeper k g.output) (flat_map (formula_deeper k) g.terminals) (puts_target g.output k) (puts_all beside k (formula_deeper k) (λ f. puts_formula f k) g.terminals)

-- ---- generate constructs

-- a node at a place with what stands in it, beside what was read before
puts_within : (g : Nest → Nest) (k at : ℕ) (places all : List ℕ) → Puts g (k - 1) places → here k at ++ places ≡ all → Puts (λ m. Both m (Within at (g Nothing))) k all
puts_within g k at places all p e = puts_node (Within at (g Nothing)) k all (within g k at places p ∙ e)

mutual
  unfolding Puts

  puts_written : (i : WrittenItem) (k : ℕ) → Puts (in_written i) k (written_deeper k i)
  puts_written (Plain item) k = puts_item item k
  puts_written (Primitives at kind pause gates) k =
      puts_then (gate_paused pause) (all_beside gate gates) k (of_any (gate_pause_deeper k) pause) (flat_map (gate_deeper k) gates) (puts_gate_pause pause k) (puts_all gate k (gate_deeper k) (λ g. puts_gate g k) gates)
  puts_written (Genvars at names) k = puts_skip names k
  puts_written (Region at items) k =
      puts_within (in_items items) k at (written_items_deeper (k - 1) items) (written_deeper k (Region at items)) (puts_items items (k - 1)) refl
  puts_written (generate.If at c taken) k =
      puts_within (λ m. in_made taken (beside c m)) k at (formula_deeper (k - 1) c ++ made_deeper (k - 1) taken) (written_deeper k (generate.If at c taken))
      (puts_then (beside c) (in_made taken) (k - 1) (formula_deeper (k - 1) c) (made_deeper (k - 1) taken) (puts_formula c (k - 1)) (puts_made taken (k - 1)))
      (left2 (here k at) (formula_deeper (k - 1) c) (made_deeper (k - 1) taken))
  puts_written (generate.IfElse at c taken otherwise) k =
      puts_within (λ m. in_made otherwise (in_made taken (beside c m))) k at (formula_deeper (k - 1) c ++ (made_deeper (k - 1) taken ++ made_deeper (k - 1) otherwise)) (written_deeper k (generate.IfElse at c taken otherwise))
      (puts_then (beside c) (λ m. in_made otherwise (in_made taken m)) (k - 1) (formula_deeper (k - 1) c) (made_deeper (k - 1) taken ++ made_deeper (k - 1) otherwise) (puts_formula c (k - 1))
      (puts_then (in_made taken) (in_made otherwise) (k - 1) (made_deeper (k - 1) taken) (made_deeper (k - 1) otherwise) (puts_made taken (k - 1)) (puts_made otherwise (k - 1))))
      (left3 (here k at) (formula_deeper (k - 1) c) (made_deeper (k - 1) taken) (made_deeper (k - 1) otherwise))
  puts_written (generate.Case at selector choices) k =
      puts_within (λ m. in_choices choices (beside selector m)) k at (formula_deeper (k - 1) selector ++ choices_deeper (k - 1) choices) (written_deeper k (generate.Case at selector choices))
      (puts_then (beside selector) (in_choices choices) (k - 1) (formula_deeper (k - 1) selector) (choices_deeper (k - 1) choices) (puts_formula selector (k - 1)) (puts_choices choices (k - 1)))
      (left2 (here k at) (formula_deeper (k - 1) selector) (choices_deeper (k - 1) choices))
  puts_written (generate.For at i start c j step body) k =
      puts_within (λ m. in_made body (beside step (beside c (beside start m)))) k at (formula_deeper (k - 1) start ++ (formula_deeper (k - 1) c ++ (formula_deeper (k - 1) step ++ made_deeper (k - 1) body))) (written_deeper k (generate.For at i start c j step body))
      (puts_then (beside start) (λ m. in_made body (beside step (beside c m))) (k - 1) (formula_deeper (k - 1) start) (formula_deeper (k - 1) c ++ (formula_deeper (k - 1) step ++ made_deeper (k - 1) body)) (puts_formula start (k - 1))
      (puts_then (beside c) (λ m. in_made body (beside step m)) (k - 1) (formula_deeper (k - 1) c) (formula_deeper (k - 1) step ++ made_deeper (k - 1) body) (puts_formula c (k - 1))
      (puts_then (beside step) (in_made body) (k - 1) (formula_deeper (k - 1) step) (made_deeper (k - 1) body) (puts_formula step (k - 1)) (puts_made body (k - 1)))))
      (left4 (here k at) (formula_deeper (k - 1) start) (formula_deeper (k - 1) c) (formula_deeper (k - 1) step) (made_deeper (k - 1) body))

  puts_items : (items : WrittenItems) (k : ℕ) → Puts (in_items items) k (written_items_deeper k items)
  puts_items no_items k m = sym (nil (nest_deeper k m))
  puts_items (more_items i others) k m =
      puts_then (in_written i) (in_items others) k (written_deeper k i) (written_items_deeper k others) (puts_written i k) (puts_items others k) m

  puts_made : (b : GenerateBlock) (k : ℕ) → Puts (in_made b) k (made_deeper k b)
  puts_made (generate.Null at) k m = front (nest_deeper k m) _ _ (nil (here k at))
  puts_made (Single item) k m = puts_written item k m
  puts_made (generate.Block at label items) k m =
      puts_within (in_items items) k at (written_items_deeper (k - 1) items) (made_deeper k (generate.Block at label items)) (puts_items items (k - 1)) refl m

  puts_choice : (c : GenerateChoice) (k : ℕ) → Puts (in_choice c) k (choice_deeper k c)
  puts_choice (generate.Labelled labels body) k m =
      puts_then (all_beside beside labels) (in_made body) k (flat_map (formula_deeper k) labels) (made_deeper k body) (puts_all beside k (formula_deeper k) (λ f. puts_formula f k) labels) (puts_made body k) m
  puts_choice (generate.Default at body) k m = puts_made body k m

  puts_choices : (choices : GenerateChoices) (k : ℕ) → Puts (in_choices choices) k (choices_deeper k choices)
  puts_choices no_choices k m = sym (nil (nest_deeper k m))
  puts_choices (more_choices c others) k m =
      puts_then (in_choice c) (in_choices others) k (choice_deeper k c) (choices_deeper k others) (puts_choice c k) (puts_choices others k) m

-- ---- modules

puts_heading : (h : Option Heading) (k : ℕ) → Puts (heading h) k (of_any (λ x. of_any (bounds_deeper k) x.bounds) h)
puts_heading None k = puts_nothing (heading None) k (λ m. refl)
puts_heading (Some h) k = puts_bounds h.bounds k

puts_parameter : (p : HeaderParameter) (k : ℕ) → Puts (head_parameter p) k (header_parameter_deeper k p)
puts_parameter p k =
    puts_then (heading p.heading) (beside p.value) k (of_any (λ x. of_any (bounds_deeper k) x.bounds) p.heading) (formula_deeper k p.value) (puts_heading p.heading k) (puts_formula p.value k)

puts_head : (h : Option Head) (k : ℕ) → Puts (headed h) k (of_any (head_deeper k) h)
puts_head None k = puts_nothing (headed None) k (λ m. refl)
puts_head (Some h) k = puts_bounds h.bounds k

puts_header : (h : Header) (k : ℕ) → Puts (in_header h) k (header_deeper k h)
puts_header Absent k = puts_nothing (in_header Absent) k (λ m. refl)
puts_header Empty k = puts_nothing (in_header Empty) k (λ m. refl)
puts_header (Declared ports) k = puts_all head_port k (header_port_deeper k) (λ p. puts_head p.head k) ports
puts_header (modules.Named names) k = puts_skip names k

puts_circuit : (c : WrittenCircuit) (k : ℕ) → Puts (in_circuit c) k (deeper k c)
unfolding Puts
puts_circuit c k m =
    puts_then (all_beside head_parameter c.parameters) (λ m. all_beside in_written c.items (in_header c.header m)) k
    (flat_map (header_parameter_deeper k) c.parameters) (header_deeper k c.header ++ flat_map (written_deeper k) c.items)
    (puts_all head_parameter k (header_parameter_deeper k) (λ p. puts_parameter p k) c.parameters)
    (puts_then (in_header c.header) (all_beside in_written c.items) k (header_deeper k c.header) (flat_map (written_deeper k) c.items) (puts_header c.header k)
    (puts_all in_written k (written_deeper k) (λ i. puts_written i k) c.items)) m
    ∙ front (nest_deeper k m) _ _ (left2 (flat_map (header_parameter_deeper k) c.parameters) (header_deeper k c.header) (flat_map (written_deeper k) c.items))

-- the places of all modules that are nested too deep
pub places : (cs : List WrittenCircuit) → nest_deeper MAX_NESTING (all_beside in_circuit cs Nothing) ≡ too_deep cs
unfolding Puts
places cs = puts_all in_circuit MAX_NESTING (deeper MAX_NESTING) (λ c. puts_circuit c MAX_NESTING) cs Nothing
