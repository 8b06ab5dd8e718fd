-- The laws at work: their premises hold of a module and its signals in a design.
use Rattle.std.specs.Prelude.{ℕ, zero, suc, ◌<◌, ◌≤◌, Bool, true, false, if◌then◌else◌, List, [], ◌∷◌, length, None, Some}
use Rattle.std.specs.Str.{bytes_eq}
use Rattle.std.proofs.Common.{refl, arith}
use Rattle.rtl_tree.specs.declared.tree.operators.BinaryOperator.TheVariants.{Add, Less}
use Rattle.rtl_tree.specs.declared.tree.stmt.AssignmentKind.TheVariants.{Blocking}
use Rattle.rtl_tree.specs.declared.tree.operators.PartKind.TheVariants.{Between}
use Rattle.rtl_tree.specs.TreeExpr.{Identifier, Formula, Number, Read, Binary}
use Rattle.rtl_tree.specs.TreeStmt.{Action, Assign, Bit, For, Joined, Part, Target, more_targets, no_targets}
use Rattle.rtl_flat.specs.declared.signal.Kind.{Kind}
use Rattle.rtl_flat.specs.declared.signal.Kind.TheVariants.{Net, Var}
use Rattle.rtl_flat.specs.declared.signal.Signal.{Signal}
use Rattle.rtl_flat.specs.Process.{Assign as Assigning, body_of}
use Rattle.rtl_flat.specs.Signs.{width_in}
use Rattle.rtl_flat.specs.WellFormed.{IsBody, IsProcess}
use Rattle.elab_body.specs.elab_scope.declared.known.Known.TheVariants as known
use Rattle.elab_body.specs.elab_scope.declared.known.Role.TheVariants as role
use Rattle.elab_body.specs.elab_scope.Names.{Meanings}
use Rattle.elab_body.specs.elab_scope.Sources.{IsDescribed}
use Rattle.elab_body.specs.elab_scope.Targets.{assigned_context, pieces_of}
use Rattle.elab_body.specs.elab_scope.Trees.{tree_of}
use Rattle.elab_body.specs.Acts.{acts}
use Rattle.elab_body.specs.Bodies.{all_turns, loop_faults, steps, turns}
use Rattle.elab_body.specs.Faultless.{AreFaultless}
use Rattle.elab_laws.specs.Scopes.{HasKind, IsScopeOf}
use Rattle.elab_laws.proofs.Always.{body}
use Rattle.elab_laws.proofs.Assignments.{continuous}

abbrev signal : Kind → Signal
signal kind =
    record { path = []; width = 2; signed = false; low = 0; kind = kind; top_output = false; instance = 0; spot = record { file = 0; at = 0 } }

-- a signal of another module, and then a variable d and a net y of two bits
abbrev signals : List Signal
signals = signal Net ∷ signal Var ∷ signal Net ∷ []

-- d, y and an integer i
abbrev scope : Meanings
scope name =
    if bytes_eq name (100 ∷ []) then Some (known.Signal 0 role.Variable (Some (record { width = 2; signed = false; low = 0 })))
    else if bytes_eq name (121 ∷ []) then Some (known.Signal 1 role.Net (Some (record { width = 2; signed = false; low = 0 })))
    else if bytes_eq name (105 ∷ []) then Some (known.Integer None) else None

described : (a b c : Bool) → IsDescribed 1 signals (if a then Some (known.Signal 0 role.Variable (Some (record { width = 2; signed = false; low = 0 }))) else if b then Some (known.Signal 1 role.Net (Some (record { width = 2; signed = false; low = 0 }))) else if c then Some (known.Integer None) else None)
described true b c = (omega arith, refl, refl, refl, omega arith, omega arith)
described false true c = (omega arith, refl, refl, refl, omega arith, omega arith)
described false false true = tt
described false false false = tt

kinds : (a b c : Bool) → HasKind 1 signals (if a then Some (known.Signal 0 role.Variable (Some (record { width = 2; signed = false; low = 0 }))) else if b then Some (known.Signal 1 role.Net (Some (record { width = 2; signed = false; low = 0 }))) else if c then Some (known.Integer None) else None)
kinds true b c = refl
kinds false true c = refl
kinds false false true = tt
kinds false false false = tt

some : (i : ℕ) → i < length signals → 1 ≤ width_in signals i
some zero h = omega arith
some (suc zero) h = omega arith
some (suc (suc zero)) h = omega arith
some (suc (suc (suc i))) h = absurd (omega arith)

in_design : IsScopeOf 1 signals scope
in_design =
    record {
      described = λ name. described (bytes_eq name (100 ∷ [])) (bytes_eq name (121 ∷ [])) (bytes_eq name (105 ∷ []));
      kinds = λ name. kinds (bytes_eq name (100 ∷ [])) (bytes_eq name (121 ∷ [])) (bytes_eq name (105 ∷ []));
      bits = some;
    }

abbrev d : ℕ → Identifier
d at = record { text = 100 ∷ []; at = at }

abbrev y : ℕ → Identifier
y at = record { text = 121 ∷ []; at = at }

abbrev i : ℕ → Identifier
i at = record { text = 105 ∷ []; at = at }

abbrev whole : ℕ → ℕ → Formula
whole n at = Number (record { width = 32; val = n; unk = 0; signed = true; sized = false; radix = 10 }) at

-- {y[0], y[1:1]}
abbrev halves : Target
halves =
    Joined 7 (more_targets (Bit (y 8) (whole 0 10)) (more_targets (Part (y 14) Between (whole 1 16) (whole 1 18)) no_targets))

-- assign {y[0], y[1:1]} = d;
driven : IsProcess signals (Assigning (pieces_of 0 1 scope halves) (tree_of 0 1 scope (Read (d 24)) (assigned_context scope (Read (d 24)) halves)))
driven = continuous 0 1 scope signals in_design halves (Read (d 24)) refl refl

-- for (i = 0; i < 2; i = i + 1) d[i] = d;
abbrev twice : Action
twice =
    For 10 (i 15) (whole 0 19) (Binary Less 24 (Read (i 22)) (whole 2 26)) (i 29) (Binary Add 35 (Read (i 33)) (whole 1 37)) (Assign (Bit (d 50) (Read (i 52))) Blocking None (Read (d 57)))

no_faults : AreFaultless (steps twice scope)
unfolding turns all_turns loop_faults
no_faults = tt

made : IsBody signals (body_of (acts 0 1 twice scope))
made = body 0 1 scope signals in_design twice no_faults
