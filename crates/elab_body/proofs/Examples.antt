-- Bodies at work.
use Rattle.std.specs.Prelude.{ℕ, true, false, if◌then◌else◌, [], ◌∷◌, None, Some}
use Rattle.std.specs.Str.{bytes_eq}
use Rattle.std.proofs.Common.{◌≡◌, refl}
use Rattle.rtl_tree.specs.declared.tree.operators.BinaryOperator.TheVariants.{Add, Less}
use Rattle.rtl_tree.specs.declared.tree.stmt.AssignmentKind.TheVariants.{Blocking}
use Rattle.rtl_tree.specs.TreeExpr.{Identifier, Formula, Number, Read, Binary}
use Rattle.rtl_tree.specs.TreeStmt.{Bit, Whole, Valued, Action, Null, Delayed, Assign, If, For}
use Rattle.elab_nodes.specs.elab_scope.declared.known.Known.TheVariants.{Signal, Integer}
use Rattle.elab_nodes.specs.elab_scope.declared.known.Role.TheVariants.{Variable}
use Rattle.elab_nodes.specs.elab_scope.Faults.{TooLarge, NotAssignable}
use Rattle.elab_nodes.specs.elab_scope.Names.{Meanings}
use Rattle.elab_nodes.specs.elab_scope.Rules.{fault}
use Rattle.elab_body.specs.Bodies.{all_turns, loop_faults, steps, turns}
use Rattle.elab_body.specs.Faultless.{node_total, statement_count}
use Rattle.elab_body.specs.Steps.{Statement, Turn, Faulty, Nodes, checked, delays_of}

-- a variable d of two bits and integers i and j
abbrev scope : Meanings
scope name =
    if bytes_eq name (100 ∷ []) then Some (Signal 0 Variable (Some (record { width = 2; signed = false; low = 0 })))
    else if bytes_eq name (105 ∷ []) then Some (Integer None)
    else if bytes_eq name (106 ∷ []) then Some (Integer None) else None

abbrev d : ℕ → Identifier
d at = record { text = 100 ∷ []; at = at }

abbrev i : ℕ → Identifier
i at = record { text = 105 ∷ []; at = at }

abbrev whole : ℕ → ℕ → Formula
whole n at = Number (record { width = 32; val = n; unk = 0; signed = true; sized = false; radix = 10 }) at

-- for (i = 0; i < 2; i = i + 1) body
abbrev twice : Action → Action
twice body =
    For 10 (i 15) (whole 0 19) (Binary Less 24 (Read (i 22)) (whole 2 26)) (i 29) (Binary Add 35 (Read (i 33)) (whole 1 37)) body

-- for (j = 0; j < 2; j = j + 1) body
abbrev j : ℕ → Identifier
j at = record { text = 106 ∷ []; at = at }

abbrev outer_twice : Action → Action
outer_twice body =
    For 2 (j 3) (whole 0 4) (Binary Less 5 (Read (j 5)) (whole 2 6)) (j 7) (Binary Add 8 (Read (j 8)) (whole 1 9)) body

-- d[i] = d;
abbrev one_bit : Action
one_bit = Assign (Bit (d 50) (Read (i 52))) Blocking None (Read (d 57))

-- a loop is its turns
two_turns : steps (twice one_bit) scope ≡ Statement 50 ∷ Nodes 50 1 ∷ Statement 50 ∷ Nodes 50 1 ∷ []
unfolding turns all_turns loop_faults
two_turns = refl

-- the statement that is one too many ends it
one_left : checked 1 9 9 (steps (twice one_bit) scope) ≡ fault 50 TooLarge ∷ []
unfolding turns all_turns loop_faults
one_left = refl

-- and so does the statement whose nodes are one too many
one_node_left : checked 9 9 1 (steps (twice one_bit) scope) ≡ fault 50 TooLarge ∷ []
unfolding turns all_turns loop_faults
one_node_left = refl

two_nodes_left : checked 9 9 2 (steps (twice one_bit) scope) ≡ []
unfolding turns all_turns loop_faults
two_nodes_left = refl

all_nodes : node_total (steps (twice one_bit) scope) ≡ 2
unfolding turns all_turns loop_faults
all_nodes = refl

-- if (d + d) ; has the nodes of its condition, and a constant condition has none
condition_nodes : steps (If 10 (Binary Add 16 (Read (d 14)) (Read (d 18))) (Null 20)) scope ≡ Statement 10 ∷ Nodes 10 3 ∷ []
condition_nodes = refl

-- a turn that leaves no statement counts as one
empty_turns : steps (twice (Null 50)) scope ≡ Turn 10 ∷ Turn 10 ∷ []
unfolding turns all_turns loop_faults
empty_turns = refl

-- and counts as one among statements
empty_counts : statement_count (steps (twice (Null 50)) scope) ≡ 2
unfolding turns all_turns loop_faults
empty_counts = refl

-- so does one around it: an empty turn is no statement
empty_around : steps (outer_twice (twice (Null 50))) scope ≡ Turn 10 ∷ Turn 10 ∷ Turn 2 ∷ Turn 10 ∷ Turn 10 ∷ Turn 2 ∷ []
unfolding turns all_turns loop_faults
empty_around = refl

-- a loop doesn't count by the integer of a loop around it
same_index : steps (twice (twice one_bit)) scope ≡ Faulty (fault 15 (NotAssignable (105 ∷ []))) ∷ Turn 10 ∷ Faulty (fault 15 (NotAssignable (105 ∷ []))) ∷ Turn 10 ∷ []
unfolding turns all_turns loop_faults
same_index = refl

-- a delay counts in each turn
two_delays : delays_of (steps (twice (Delayed (record { at = 45; span = Valued (whole 5 47) }) one_bit)) scope) ≡ 45 ∷ 45 ∷ []
unfolding turns all_turns loop_faults
two_delays = refl

-- a branch that a constant condition doesn't take isn't looked at
not_taken : steps (If 10 (whole 0 14) (Assign (Whole (i 20)) Blocking None (Read (d 24)))) scope ≡ []
not_taken = refl

-- outside its loop an integer is neither read nor assigned
outside : steps (Assign (Whole (i 20)) Blocking None (Read (i 24))) scope ≡ Statement 20 ∷ Nodes 20 1 ∷ Faulty (fault 20 (NotAssignable (105 ∷ []))) ∷ Faulty (fault 24 (NotAssignable (105 ∷ []))) ∷ []
outside = refl
