-- Bodies and continuous assignments whose expressions and cases have no findings.
use Rattle.std.proofs.Common.{◌≡◌, ◌∙◌, ℕ, true, false, not, List, [], ◌∷◌, Some, refl, ap, subst}
use Rattle.std.specs.List.{All, filter, flat_map, slice_get}
use Rattle.std.proofs.lemmas.Bool.{not_from_false}
use Rattle.std.proofs.lemmas.List.Elements.{All-cons, All-nil}
use Rattle.rtl_flat.specs.Expression.{Tree, Sized, Literal, Whole, BitAt, BitBy, Part, Turned, Joined, Compared, Linked, Folded, Shifted, Chosen, Empty, Beside, Repeated, Recast}
use Rattle.rtl_flat.specs.Flows.{labels_of}
use Rattle.rtl_flat.specs.Process.{Selection, Piece, Watched, Action, Set, If, Case, Block, Actions, Branches, NoBranch, Branch, Doing, Assign, Comb, Edge', Task}
use Rattle.rtl_flat.specs.Process as part
use Rattle.rtl_flat.specs.WellFormed.{IsBody, IsProcess}
use Rattle.event_model.specs.Queue.{doing_of}
use Rattle.net_laws.specs.event_laws.Steady.{AreLawful}
use Rattle.net_model.specs.Numbers.{is_literal}
use Rattle.net_laws.specs.Rules.{EachOf, EachPart, DividesByPower, HasNone, IsClear, OfIndex, OfLabels, OfStatement, SelectsInside}
use Rattle.net_laws.proofs.Apart as apart
use Rattle.net_laws.proofs.Firm as firm
use Rattle.rtl_bits.specs.declared.Bit.TheVariants.{X, Z}
use Rattle.rtl_rule.specs.Parts.{all_of, index_of, indices, is_one_literal, items_of, labels, own_labels, own_trees, trees, valued_trees}
use Rattle.rtl_flat.specs.Flats.{Flat}
use Rattle.check_laws.specs.Cases.{Does, IsBodyOf}
use Rattle.check_laws.specs.Expressions.{AreMarked, ExclusiveBodies, FirmAssigns, HasNoDoubt, TameBodies}
use Rattle.check_laws.proofs.Cases.{full_case, parallel_case}
use Rattle.check_laws.proofs.Expressions.{divide_variable, select_range, tristate, unknown_literal}
use Rattle.rtl_rule.proofs.Lists.{Each, each_all, each_both, each_flat, each_from, each_left, each_passing, each_right}
use Rattle.check_laws.proofs.Sites.{task_of}
use Rattle.check_laws.proofs.Statements.{each_of}

-- ---- from lists of expressions to statements

module _ (C : Tree → Type 0) where
  abbrev OfLabel : Tree → Type 0
  OfLabel label = is_literal label ≡ false → C label

  abbrev OfOwn : Action → Type 0
  OfOwn one = Each C (own_trees one) × Each OfLabel (own_labels one)

  of_index : (selection : Selection) → Each C (index_of selection) → OfIndex C selection
  of_index part.Whole h = tt
  of_index (part.BitAt low index) h = tt
  of_index (part.BitBy low index) h = h.0
  of_index (part.Part low width) h = tt

  of_pieces : (target : List Piece) → Each C (indices target) → All (λ piece. OfIndex C piece.selection) target
  of_pieces [] h = All-nil (λ (piece : Piece). OfIndex C piece.selection)
  of_pieces (one ∷ target) h =
      All-cons (λ (piece : Piece). OfIndex C piece.selection) one target (of_index one.selection (each_left C (index_of one.selection) (indices target) h)) (of_pieces target (each_right C (index_of one.selection) (indices target) h))

  of_labels : (branches : Branches) → Each OfLabel (labels_of branches) → OfLabels C branches
  of_labels NoBranch h = tt
  of_labels (Branch labels body others) h =
      (each_all OfLabel labels (each_left OfLabel labels (labels_of others) h), of_labels others (each_right OfLabel labels (labels_of others) h))

  of_statement : (one : Action) → OfOwn one → OfStatement C one
  of_statement (Set target value delayed spot) h = (of_pieces target h.0.1, h.0.0)
  of_statement (If test taken other spot) h = h.0.0
  of_statement (Case kind full parallel selector branches fallback spot) h = (h.0.0, of_labels branches h.1)
  of_statement (Block body) h = tt

  statements_of : (body : Actions) → Each C (flat_map own_trees (all_of body)) → Each OfLabel (flat_map own_labels (all_of body)) → EachOf (OfStatement C) body
  statements_of body h k =
      let all = all_of body in
      each_of (OfStatement C) OfOwn (λ b. tt) of_statement body (each_both (λ one. Each C (own_trees one)) (λ one. Each OfLabel (own_labels one)) OfOwn (λ one a b. (a, b)) all (each_flat C own_trees all h) (each_flat OfLabel own_labels all k))

  of_process : (does : Doing) (body : Actions) → Does does body → Each C (trees does) → Each OfLabel (labels does) → EachOf (OfStatement C) body
  of_process (Assign target value) body is h k = absurd is
  of_process (Comb list own) body is h k =
      subst (EachOf (OfStatement C)) is (statements_of own (each_right C (flat_map (λ (item : Watched). index_of item.selection) (items_of (Comb list own))) (flat_map own_trees (all_of own)) h) k)
  of_process (Edge' events own) body is h k =
      subst (EachOf (OfStatement C)) is (statements_of own (each_right C (flat_map (λ (item : Watched). index_of item.selection) events) (flat_map own_trees (all_of own)) h) k)

-- ---- clear expressions

-- both words for a label that is one literal are the same
one_literal : (e : Tree) → is_one_literal e ≡ is_literal e
one_literal (Sized width signed spot (Literal bits)) = refl
one_literal (Sized width signed spot (Sized w s at e)) = refl
one_literal (Sized width signed spot (Whole i)) = refl
one_literal (Sized width signed spot (BitAt i low index)) = refl
one_literal (Sized width signed spot (BitBy i low s index)) = refl
one_literal (Sized width signed spot (Part i low w)) = refl
one_literal (Sized width signed spot (Turned o a)) = refl
one_literal (Sized width signed spot (Joined o s a b)) = refl
one_literal (Sized width signed spot (Compared o s a b)) = refl
one_literal (Sized width signed spot (Linked o a b)) = refl
one_literal (Sized width signed spot (Folded o a)) = refl
one_literal (Sized width signed spot (Shifted o s a b)) = refl
one_literal (Sized width signed spot (Chosen c a b)) = refl
one_literal (Sized width signed spot Empty) = refl
one_literal (Sized width signed spot (Beside a b)) = refl
one_literal (Sized width signed spot (Repeated n a)) = refl
one_literal (Sized width signed spot (Recast a)) = refl
one_literal (Literal bits) = refl
one_literal (Whole i) = refl
one_literal (BitAt i low index) = refl
one_literal (BitBy i low s index) = refl
one_literal (Part i low w) = refl
one_literal (Turned o a) = refl
one_literal (Joined o s a b) = refl
one_literal (Compared o s a b) = refl
one_literal (Linked o a b) = refl
one_literal (Folded o a) = refl
one_literal (Shifted o s a b) = refl
one_literal (Chosen c a b) = refl
one_literal Empty = refl
one_literal (Beside a b) = refl
one_literal (Repeated n a) = refl
one_literal (Recast a) = refl

module _ (d : Flat) (lawful : AreLawful d) (marked : AreMarked d) (none : HasNoDoubt d) (p : ℕ) (task : Task) (there : slice_get d.tasks p ≡ Some task) where
  abbrev IsClearHere : Tree → Type 0
  IsClearHere = IsClear d

  abbrev IsKnown : Tree → Type 0
  IsKnown e = EachPart (HasNone X) e × EachPart (HasNone Z) e

  abbrev IsInside : Tree → Type 0
  IsInside e = EachPart (SelectsInside d) e × EachPart DividesByPower e

  known : Each IsKnown (valued_trees task.does)
  known =
      let es = valued_trees task.does in
      each_both (EachPart (HasNone X)) (EachPart (HasNone Z)) IsKnown (λ e a b. (a, b)) es
      (each_from (EachPart (HasNone X)) es (unknown_literal d marked none.x1 p task there))
      (each_from (EachPart (HasNone Z)) es (tristate d marked none.z1 p task there))

  inside_in : (es : List Tree) → All (EachPart (SelectsInside d)) es → All (EachPart DividesByPower) es → Each IsInside es
  inside_in es x2 x3 =
      each_both (EachPart (SelectsInside d)) (EachPart DividesByPower) IsInside (λ e a b. (a, b)) es
      (each_from (EachPart (SelectsInside d)) es x2) (each_from (EachPart DividesByPower) es x3)

  clear_trees : Each IsClearHere (trees task.does)
  clear_trees =
      let es = trees task.does in
      each_both IsKnown IsInside IsClearHere (λ e a b. record { x1 = a.0; z1 = a.1; x2 = b.0; x3 = b.1 }) es
      (each_left IsKnown es (filter (λ label. not (is_one_literal label)) (labels task.does)) known)
      (inside_in es (select_range d marked none.x2 p task there).0 (divide_variable d lawful marked none.x2 none.x3 p task there).0)

  clear_labels : Each (OfLabel IsClearHere) (labels task.does)
  clear_labels =
      let es = labels task.does in
      let free = λ (label : Tree). not (is_one_literal label) in
      each_both (λ e. free e ≡ true → IsKnown e) IsInside (OfLabel IsClearHere)
      (λ e a b. λ is. let k = a (not_from_false _ (one_literal e ∙ is)) in record { x1 = k.0; z1 = k.1; x2 = b.0; x3 = b.1 }) es
      (each_passing IsKnown free es (each_right IsKnown (trees task.does) (filter free es) known))
      (inside_in es (select_range d marked none.x2 p task there).1 (divide_variable d lawful marked none.x2 none.x3 p task there).1)

-- the body of a lawful process
pub lawful_body : (d : Flat) → AreLawful d → (p : ℕ) (body : Actions) → IsBodyOf d p body → IsBody d.signals body
lawful_body d lawful p body is = by_does is.task.does is.does (lawful p is.task.does (ap doing_of is.there))
  where
    by_does : (does : Doing) → Does does body → IsProcess d.signals does → IsBody d.signals body
    by_does (Assign target value) same h = absurd same
    by_does (Comb list own) same h = subst (IsBody d.signals) same h.1
    by_does (Edge' events own) same h = subst (IsBody d.signals) same h.2

pub firm_assigns : (d : Flat) → FirmAssigns d
firm_assigns d lawful marked none p target value is =
    let at = task_of d p (Assign target value) is in
    let clear = subst (λ does. Each (IsClear d) (trees does)) at.is (clear_trees d lawful marked none p at.task at.there) in
    firm.firm d value (lawful p (Assign target value) is).0.sized clear.0

pub tame_bodies : (d : Flat) → TameBodies d
tame_bodies d lawful marked none p body is =
    let clear = of_process (IsClear d) is.task.does body is.does (clear_trees d lawful marked none p is.task is.there) (clear_labels d lawful marked none p is.task is.there) in
    firm.tame d body (lawful_body d lawful p body is) clear (full_case d none.c1 p body is)

pub exclusive_bodies : (d : Flat) → ExclusiveBodies d
exclusive_bodies d lawful marked none p body is =
    apart.exclusive d body (lawful_body d lawful p body is) (tame_bodies d lawful marked none p body is) (parallel_case d none.c2 p body is)
