-- Lemmas: inputs that are joined until one is left, and terminals of which the last is an input.
use Rattle.std.proofs.Common.{◌≡◌, ℕ, ◌<◌, ◌≤◌, Bool, List, [], ◌∷◌, ◌++◌, map, length, refl, sym, ◌∙◌, ap, arith}
use Rattle.std.proofs.lemmas.List.{append-nil, append_assoc, length-append, length-map}
use Rattle.std.specs.List.{flat_map}
use Rattle.rtl_tree.specs.declared.tree.operators.BinaryOperator.{BinaryOperator}
use Rattle.rtl_tree.specs.TreeExpr.{Formula}
use Rattle.rtl_tree.specs.TreeStmt.{Target}
use Rattle.rtl_unroll.specs.Gates.{alone, driven, input, inverted_if, joined, one_input, output_of, pairs, several_inputs, together}

pub pairs_most : (operator : BinaryOperator) (at : ℕ) (es : List Formula) → length (pairs operator at es) ≤ length es
pairs_most operator at [] = omega arith
pairs_most operator at (a ∷ []) = omega arith
pairs_most operator at (a ∷ b ∷ others) = omega (arith, pairs_most operator at others)

joined_none : {A : Type 0} (turns : List A) (operator : BinaryOperator) (at : ℕ) → joined turns operator at [] ≡ []
joined_none [] operator at = refl
joined_none (turn ∷ turns) operator at = joined_none turns operator at

joined_one : {A : Type 0} (turns : List A) (operator : BinaryOperator) (at : ℕ) (e : Formula) → joined turns operator at (e ∷ []) ≡ e ∷ []
joined_one [] operator at e = refl
joined_one (turn ∷ turns) operator at e = joined_one turns operator at e

-- further turns change nothing
pub joined_enough : {A B : Type 0} (turns : List A) (others : List B) (operator : BinaryOperator) (at : ℕ) (es : List Formula)
    → length es ≤ length turns
    → length es ≤ length others
    → joined turns operator at es ≡ joined others operator at es
joined_enough turns others operator at [] h k =
    joined_none turns operator at ∙ sym (joined_none others operator at)
joined_enough turns others operator at (e ∷ []) h k =
    joined_one turns operator at e ∙ sym (joined_one others operator at e)
joined_enough [] others operator at (a ∷ b ∷ es) h k = absurd (omega arith)
joined_enough (turn ∷ turns) [] operator at (a ∷ b ∷ es) h k = absurd (omega arith)
joined_enough (turn ∷ turns) (other ∷ others) operator at (a ∷ b ∷ es) h k =
    joined_enough
    turns
    others
    operator
    at
    (pairs operator at (a ∷ b ∷ es))
    (omega (arith, pairs_most operator at es))
    (omega (arith, pairs_most operator at es))

pub pairs_fewer : (operator : BinaryOperator) (at : ℕ) (es : List Formula) → 1 < length es → length (pairs operator at es) < length es
pairs_fewer operator at [] h = absurd (omega arith)
pairs_fewer operator at (a ∷ []) h = absurd (omega arith)
pairs_fewer operator at (a ∷ b ∷ others) h = omega (arith, pairs_most operator at others)

-- a turn of the loop
pub joined_turn : (operator : BinaryOperator) (at : ℕ) (es made : List Formula)
    → 1 < length es
    → made ≡ pairs operator at es
    → joined made operator at made ≡ joined es operator at es
joined_turn operator at [] made h e = absurd (omega arith)
joined_turn operator at (a ∷ []) made h e = absurd (omega arith)
joined_turn operator at (a ∷ b ∷ es) made h e =
    rw
    e
    (joined_enough
    (pairs operator at (a ∷ b ∷ es))
    (b ∷ es)
    operator
    at
    (pairs operator at (a ∷ b ∷ es))
    (omega arith)
    (omega (arith, pairs_most operator at es)))

pub joined_done : (operator : BinaryOperator) (at : ℕ) (es : List Formula) → length es ≤ 1 → joined es operator at es ≡ es
joined_done operator at [] h = refl
joined_done operator at (a ∷ []) h = refl
joined_done operator at (a ∷ b ∷ es) h = absurd (omega arith)

pub together_of : (inverted : Bool) (operator : BinaryOperator) (at : ℕ) (inputs wrapped made : List Formula)
    → wrapped ≡ map input inputs
    → made ≡ joined wrapped operator at wrapped
    → together inverted operator at inputs ≡ map (inverted_if inverted at) made
together_of inverted operator at inputs wrapped made w m =
    let n : length (map input inputs) ≡ length inputs = length-map inputs input in
    ap
    (map (inverted_if inverted at))
    (joined_enough inputs (map input inputs) operator at (map input inputs) (omega arith) (omega arith)
    ∙ ap (λ es. joined es operator at es) (sym w)
    ∙ sym m)

-- all terminals but the last are outputs
pub one_input_push : (inverted : Bool) (at : ℕ) (outputs : List Target) (terminals : List Formula) (last : Formula)
    → one_input inverted at outputs (terminals ++ last ∷ [])
    ≡ driven (outputs ++ flat_map output_of terminals) (alone inverted at last ∷ [])
one_input_push inverted at outputs [] last =
    ap (λ all. driven all (alone inverted at last ∷ [])) (sym (append-nil outputs))
one_input_push inverted at outputs (a ∷ []) last =
    one_input_push inverted at (outputs ++ output_of a) [] last
    ∙ ap
    (λ all. driven all (alone inverted at last ∷ []))
    (append_assoc outputs (output_of a) [])
one_input_push inverted at outputs (a ∷ b ∷ terminals) last =
    one_input_push inverted at (outputs ++ output_of a) (b ∷ terminals) last
    ∙ ap
    (λ all. driven all (alone inverted at last ∷ []))
    (append_assoc outputs (output_of a) (flat_map output_of (b ∷ terminals)))

-- what a list of one element at most was before its last left
pub popped_one : {A : Type 0} (old new : List A) (x : A) → old ≡ new ++ x ∷ [] → length old ≤ 1 → old ≡ x ∷ []
popped_one old [] x e h = e
popped_one old (y ∷ new) x e h =
    absurd (omega (arith, ap length e, length-append (y ∷ new) (x ∷ [])))

pub several_many : (inverted : Bool) (operator : BinaryOperator) (at : ℕ) (output : Target) (es : List Formula)
    → 1 < length es
    → several_inputs inverted operator at output es ≡ driven (output ∷ []) (together inverted operator at es)
several_many inverted operator at output [] h = absurd (omega arith)
several_many inverted operator at output (a ∷ []) h = absurd (omega arith)
several_many inverted operator at output (a ∷ b ∷ es) h = refl
