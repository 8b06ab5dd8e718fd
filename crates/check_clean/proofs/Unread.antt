-- A signal of which no operand reads a bit itself isn't read.
use Rattle.std.proofs.Common.{◌≡◌, ◌∙◌, ◌+◌, ◌<◌, ℕ, Bool, true, false, List, [], ◌∷◌, ◌++◌, Option, None, Some, refl, subst, sym}
use Rattle.std.specs.Prelude.{ℤ, ◌==◌, ◌||◌, nat_le, nat_lt}
use Rattle.std.proofs.lemmas.Bool.{and_parts, eqb-true, false_from_ne_true, ltb-true, or_from}
use Rattle.text_ground.specs.declared.text.Spot.{Spot}
use Rattle.rtl_flat.specs.Expression.{Tree, Sized, Literal, Whole, BitAt, BitBy, Part, Turned, Joined, Compared, Linked, Folded, Shifted, Chosen, Empty, Beside, Repeated, Recast}
use Rattle.rtl_flat.specs.Flows.{action_then, actions_then, all_bits, bit_at, index_reads, is_complete, labels_of, may_select, other_flow, reads, reads_all, span, target_reads, way_past, ways}
use Rattle.rtl_flat.specs.Paths.{BitSet, Flow, End, reads_bit, some, some_way}
use Rattle.rtl_flat.specs.Process.{Selection, Piece, Action, Set, If, Case, Block, Actions, Done, Then, Otherwise, Without, With, Branches, NoBranch, Branch}
use Rattle.rtl_flat.specs.Process as part
use Rattle.rtl_flat.proofs.Flows.{some_action}
use Rattle.check_laws.specs.net_laws.Rules.{EachIn, EachItem, EachOf, EachOther}
use Rattle.rtl_rule.specs.Parts.{has_some, index_of, indices, nodes, own_reads}
use Rattle.rtl_rule.proofs.Below.{some_at}
use Rattle.check_laws.specs.check_clocks.Clocks.{statement_trees}
use Rattle.check_laws.specs.Expressions.{IsForm, IsMarked, IsRow}
use Rattle.rtl_rule.proofs.Lists.{Each, each_left, each_right}

-- ---- expressions

module _ (ws : ℕ → ℕ) (i : ℕ) where
  -- reads no bit of the signal itself
  abbrev pub IsUnnamed : Tree → Type 0
  IsUnnamed node = has_some ws (own_reads ws node) i ≡ true → ⊥

  -- a bit that is in the signal isn't in a set that has none of it
  none_in : (bits : BitSet) → ((k : ℕ) → bits i k ≡ true → k < ws i) → (has_some ws bits i ≡ true → ⊥) → (k : ℕ) → bits i k ≡ false
  none_in bits inside none k =
      false_from_ne_true (bits i k) (λ is. none (some_at (ws i) (bits i) k (inside k is) is))

  in_span : (j low high k : ℕ) → span ws j low high i k ≡ true → k < ws i
  in_span j low high k h =
      let (same, inner) = and_parts (i == j) _ h in
      let (above, rest) = and_parts (nat_le low k) _ inner in
      let (below, inside) = and_parts (nat_lt k high) _ rest in
      subst (λ n. k < ws n) (sym (eqb-true i j same)) (ltb-true k (ws j) inside)

  in_bit : (j low : ℕ) (index : ℤ) (k : ℕ) → bit_at ws j low index i k ≡ true → k < ws i
  in_bit j low index k h =
      let (same, inner) = and_parts (i == j) _ h in
      subst (λ n. k < ws n) (sym (eqb-true i j same)) (ltb-true k (ws j) (and_parts (nat_lt k (ws j)) _ inner).0)

  mutual
    pub unread : (e : Tree) → IsMarked e → Each IsUnnamed (nodes e) → (k : ℕ) → reads ws e i k ≡ false
    unread (Sized w s at e) marked h k = unread_form w s at e marked h.0 h.1 k
    unread _ marked h k = absurd marked

    unread_form : (w : ℕ) (s : Bool) (at : Spot) (e : Tree) → IsForm e → IsUnnamed (Sized w s at e) → Each IsUnnamed (nodes e) → (k : ℕ) → reads ws e i k ≡ false
    unread_form w s at (Sized w' s' at' e) marked here h k = absurd marked
    unread_form w s at (Literal bits) marked here h k = refl
    unread_form w s at (Whole j) marked here h k =
        none_in (all_bits ws j) (in_span j 0 (ws j)) here k
    unread_form w s at (BitAt j low index) marked here h k =
        none_in (bit_at ws j low index) (in_bit j low index) here k
    unread_form w s at (BitBy j low signed index) marked here h k =
        or_from _ _ (unread index marked.1 h k) (none_in (all_bits ws j) (in_span j 0 (ws j)) here k)
    unread_form w s at (Part j low width) marked here h k =
        none_in (span ws j low (low + width)) (in_span j low (low + width)) here k
    unread_form w s at (Turned operator a) marked here h k = unread a marked h k
    unread_form w s at (Joined operator signed a b) marked here h k =
        or_from _ _ (unread a marked.0 (each_left IsUnnamed (nodes a) (nodes b) h) k) (unread b marked.1 (each_right IsUnnamed (nodes a) (nodes b) h) k)
    unread_form w s at (Compared operator signed a b) marked here h k =
        or_from _ _ (unread a marked.0 (each_left IsUnnamed (nodes a) (nodes b) h) k) (unread b marked.1 (each_right IsUnnamed (nodes a) (nodes b) h) k)
    unread_form w s at (Linked operator a b) marked here h k =
        or_from _ _ (unread a marked.0 (each_left IsUnnamed (nodes a) (nodes b) h) k) (unread b marked.1 (each_right IsUnnamed (nodes a) (nodes b) h) k)
    unread_form w s at (Folded operator a) marked here h k = unread a marked h k
    unread_form w s at (Shifted operator signed a amount) marked here h k =
        or_from _ _ (unread a marked.0 (each_left IsUnnamed (nodes a) (nodes amount) h) k) (unread amount marked.1 (each_right IsUnnamed (nodes a) (nodes amount) h) k)
    unread_form w s at (Chosen c a b) marked here h k =
        let front = each_left IsUnnamed (nodes c ++ nodes a) (nodes b) h in
        or_from _ _ (unread c marked.0 (each_left IsUnnamed (nodes c) (nodes a) front) k)
        (or_from _ _ (unread a marked.1 (each_right IsUnnamed (nodes c) (nodes a) front) k) (unread b marked.2 (each_right IsUnnamed (nodes c ++ nodes a) (nodes b) h) k))
    unread_form w s at Empty marked here h k = refl
    unread_form w s at (Beside a others) marked here h k =
        or_from _ _ (unread a marked.0 (each_left IsUnnamed (nodes a) (nodes others) h) k) (unread_row others marked.1 (each_right IsUnnamed (nodes a) (nodes others) h) k)
    unread_form w s at (Repeated times a) marked here h k = unread a marked h k
    unread_form w s at (Recast a) marked here h k = unread a marked h k

    unread_row : (e : Tree) → IsRow e → Each IsUnnamed (nodes e) → (k : ℕ) → reads ws e i k ≡ false
    unread_row Empty marked h k = refl
    unread_row (Beside a others) marked h k =
        or_from _ _ (unread a marked.0 (each_left IsUnnamed (nodes a) (nodes others) h) k) (unread_row others marked.1 (each_right IsUnnamed (nodes a) (nodes others) h) k)
    unread_row _ marked h k = absurd marked

  -- a select that may mean no bit of the signal
  pub no_select : (j : ℕ) (selection : Selection) → (has_some ws (may_select ws j selection) i ≡ true → ⊥) → (k : ℕ) → may_select ws j selection i k ≡ false
  no_select j part.Whole none k = none_in (all_bits ws j) (in_span j 0 (ws j)) none k
  no_select j (part.BitAt low index) none k =
      none_in (bit_at ws j low index) (in_bit j low index) none k
  no_select j (part.BitBy low index) none k =
      none_in (all_bits ws j) (in_span j 0 (ws j)) none k
  no_select j (part.Part low width) none k =
      none_in (span ws j low (low + width)) (in_span j low (low + width)) none k

-- ---- bodies

module _ (ws : ℕ → ℕ) (i k : ℕ) where
  abbrev pub Unread : Tree → Type 0
  Unread e = reads ws e i k ≡ false

  -- a statement whose own expressions don't read a bit
  abbrev pub IsQuiet : Action → Type 0
  IsQuiet one = Each Unread (statement_trees one)

  index_unread : (selection : Selection) → Each Unread (index_of selection) → index_reads ws selection i k ≡ false
  index_unread part.Whole h = refl
  index_unread (part.BitAt low index) h = refl
  index_unread (part.BitBy low index) h = h.0
  index_unread (part.Part low width) h = refl

  target_unread : (target : List Piece) → Each Unread (indices target) → target_reads ws target i k ≡ false
  target_unread [] h = refl
  target_unread (piece ∷ target) h =
      or_from _ _ (index_unread piece.selection (each_left Unread (index_of piece.selection) (indices target) h))
      (target_unread target (each_right Unread (index_of piece.selection) (indices target) h))

  all_unread : (es : List Tree) → Each Unread es → reads_all ws es i k ≡ false
  all_unread [] h = refl
  all_unread (e ∷ es) h = or_from _ _ h.0 (all_unread es h.1)

  abbrev on_way : Option Flow → Bool
  on_way None = false
  on_way (Some way) = some (reads_bit i k) way

  past_unread : (complete : Bool) (fallback : Otherwise) → some (reads_bit i k) (other_flow ws fallback) ≡ false → on_way (way_past ws complete fallback) ≡ false
  past_unread complete (With body) h = h
  past_unread true Without h = refl
  past_unread false Without h = refl

  mutual
    quiet_action : (a : Action) → EachIn IsQuiet a → some (reads_bit i k) (action_then ws a End) ≡ false
    quiet_action (Set target e delayed spot) h =
        or_from (reads ws e i k || target_reads ws target i k) false
        (or_from _ _ h.0 (target_unread target (each_left Unread (indices target) [] h.1))) refl
    quiet_action (If test taken other spot) h =
        or_from (reads ws test i k) _ h.0.0
        (or_from _ false (or_from _ _ (quiet_other other h.2) (quiet_actions taken h.1)) refl)
    quiet_action (Case kind full parallel selector branches fallback spot) h =
        or_from (reads ws selector i k || reads_all ws (labels_of branches) i k) _
        (or_from _ _ h.0.0 (all_unread (labels_of branches) h.0.1))
        (or_from _ false (quiet_items branches h.1 (way_past ws (is_complete ws kind full selector branches) fallback) (past_unread (is_complete ws kind full selector branches) fallback (quiet_other fallback h.2))) refl)
    quiet_action (Block body) h = quiet_actions body h.1

    pub quiet_actions : (body : Actions) → EachOf IsQuiet body → some (reads_bit i k) (actions_then ws body End) ≡ false
    quiet_actions Done h = refl
    quiet_actions (Then a others) h =
        some_action (reads_bit i k) ws a (actions_then ws others End)
        ∙ or_from _ _ (quiet_action a h.0) (quiet_actions others h.1)

    quiet_other : (other : Otherwise) → EachOther IsQuiet other → some (reads_bit i k) (other_flow ws other) ≡ false
    quiet_other Without h = refl
    quiet_other (With body) h = quiet_actions body h

    quiet_items : (branches : Branches) → EachItem IsQuiet branches → (way : Option Flow) → on_way way ≡ false → some_way (reads_bit i k) (ways ws way branches) ≡ false
    quiet_items NoBranch h (Some way) past = past
    quiet_items NoBranch h None past = refl
    quiet_items (Branch labels body others) h (Some way) past =
        or_from _ _ past (quiet_items others h.1 (Some (actions_then ws body End)) (quiet_actions body h.0))
    quiet_items (Branch labels body others) h None past =
        quiet_items others h.1 (Some (actions_then ws body End)) (quiet_actions body h.0)
