-- What holds of the operands that are listed of an expression holds of each part of it.
use Rattle.std.proofs.Common.{ℕ, Bool, ◌++◌}
use Rattle.text_ground.specs.declared.text.Spot.{Spot}
use Rattle.rtl_flat.specs.Expression.{Tree, Sized, Literal, Whole, BitAt, BitBy, Part, Turned, Joined, Compared, Linked, Folded, Shifted, Chosen, Empty, Beside, Repeated, Recast}
use Rattle.net_laws.specs.Rules.{EachPart}
use Rattle.rtl_rule.specs.Parts.{nodes}
use Rattle.check_laws.specs.Expressions.{IsForm, IsMarked, IsRow}
use Rattle.rtl_rule.proofs.Lists.{Each, each_left, each_right}

-- `P` of an operator follows from `Q` of the sized expression that it makes, and is plain of what has no operator
module _ (P Q : Tree → Type 0) (sized : (w : ℕ) (s : Bool) (at : Spot) (e : Tree) → P (Sized w s at e)) (empty : P Empty) (beside : (a others : Tree) → P (Beside a others)) (from : (w : ℕ) (s : Bool) (at : Spot) (e : Tree) → IsForm e → Q (Sized w s at e) → P e) where
  mutual
    pub each_part : (e : Tree) → IsMarked e → Each Q (nodes e) → EachPart P e
    each_part (Sized w s at e) marked h = (sized w s at e, each_form w s at e marked h.0 h.1)
    each_part (Literal bits) marked h = absurd marked
    each_part (Whole i) marked h = absurd marked
    each_part (BitAt i low index) marked h = absurd marked
    each_part (BitBy i low signed index) marked h = absurd marked
    each_part (Part i low width) marked h = absurd marked
    each_part (Turned operator a) marked h = absurd marked
    each_part (Joined operator signed a b) marked h = absurd marked
    each_part (Compared operator signed a b) marked h = absurd marked
    each_part (Linked operator a b) marked h = absurd marked
    each_part (Folded operator a) marked h = absurd marked
    each_part (Shifted operator signed a amount) marked h = absurd marked
    each_part (Chosen c a b) marked h = absurd marked
    each_part Empty marked h = absurd marked
    each_part (Beside a others) marked h = absurd marked
    each_part (Repeated times a) marked h = absurd marked
    each_part (Recast a) marked h = absurd marked

    each_form : (w : ℕ) (s : Bool) (at : Spot) (e : Tree) → IsForm e → Q (Sized w s at e) → Each Q (nodes e) → EachPart P e
    each_form w s at (Sized w' s' at' e) marked here h = absurd marked
    each_form w s at (Literal bits) marked here h = from w s at (Literal bits) marked here
    each_form w s at (Whole i) marked here h = from w s at (Whole i) marked here
    each_form w s at (BitAt i low index) marked here h = from w s at (BitAt i low index) marked here
    each_form w s at (BitBy i low signed index) marked here h = (from w s at (BitBy i low signed index) marked here, each_part index marked.1 h)
    each_form w s at (Part i low width) marked here h = from w s at (Part i low width) marked here
    each_form w s at (Turned operator a) marked here h = (from w s at (Turned operator a) marked here, each_part a marked h)
    each_form w s at (Joined operator signed a b) marked here h =
        (from w s at (Joined operator signed a b) marked here, each_part a marked.0 (each_left Q (nodes a) (nodes b) h), each_part b marked.1 (each_right Q (nodes a) (nodes b) h))
    each_form w s at (Compared operator signed a b) marked here h =
        (from w s at (Compared operator signed a b) marked here, each_part a marked.0 (each_left Q (nodes a) (nodes b) h), each_part b marked.1 (each_right Q (nodes a) (nodes b) h))
    each_form w s at (Linked operator a b) marked here h =
        (from w s at (Linked operator a b) marked here, each_part a marked.0 (each_left Q (nodes a) (nodes b) h), each_part b marked.1 (each_right Q (nodes a) (nodes b) h))
    each_form w s at (Folded operator a) marked here h = (from w s at (Folded operator a) marked here, each_part a marked h)
    each_form w s at (Shifted operator signed a amount) marked here h =
        (from w s at (Shifted operator signed a amount) marked here, each_part a marked.0 (each_left Q (nodes a) (nodes amount) h), each_part amount marked.1 (each_right Q (nodes a) (nodes amount) h))
    each_form w s at (Chosen c a b) marked here h =
        let left = each_left Q (nodes c ++ nodes a) (nodes b) h in
        (from w s at (Chosen c a b) marked here, each_part c marked.0 (each_left Q (nodes c) (nodes a) left), each_part a marked.1 (each_right Q (nodes c) (nodes a) left), each_part b marked.2 (each_right Q (nodes c ++ nodes a) (nodes b) h))
    each_form w s at Empty marked here h = from w s at Empty marked here
    each_form w s at (Beside a others) marked here h =
        (from w s at (Beside a others) marked here, each_part a marked.0 (each_left Q (nodes a) (nodes others) h), each_row others marked.1 (each_right Q (nodes a) (nodes others) h))
    each_form w s at (Repeated times a) marked here h = (from w s at (Repeated times a) marked here, each_part a marked h)
    each_form w s at (Recast a) marked here h = (from w s at (Recast a) marked here, each_part a marked h)

    each_row : (e : Tree) → IsRow e → Each Q (nodes e) → EachPart P e
    each_row Empty marked h = empty
    each_row (Beside a others) marked h =
        (beside a others, each_part a marked.0 (each_left Q (nodes a) (nodes others) h), each_row others marked.1 (each_right Q (nodes a) (nodes others) h))
    each_row (Sized w s at e) marked h = absurd marked
    each_row (Literal bits) marked h = absurd marked
    each_row (Whole i) marked h = absurd marked
    each_row (BitAt i low index) marked h = absurd marked
    each_row (BitBy i low signed index) marked h = absurd marked
    each_row (Part i low width) marked h = absurd marked
    each_row (Turned operator a) marked h = absurd marked
    each_row (Joined operator signed a b) marked h = absurd marked
    each_row (Compared operator signed a b) marked h = absurd marked
    each_row (Linked operator a b) marked h = absurd marked
    each_row (Folded operator a) marked h = absurd marked
    each_row (Shifted operator signed a amount) marked h = absurd marked
    each_row (Chosen c a b) marked h = absurd marked
    each_row (Repeated times a) marked h = absurd marked
    each_row (Recast a) marked h = absurd marked
