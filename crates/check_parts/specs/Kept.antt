-- It serves inner contracts and proofs; no answer of the program is stated by it.
-- The plain form of what is kept by reference.
use Rattle.std.specs.Prelude.{List, map}
use Rattle.std.specs.Borrow.{Bor}
use Rattle.rtl_flat.specs.declared.act.Act.{Act}
use Rattle.rtl_flat.specs.declared.act.TargetPart.{TargetPart}
use Rattle.rtl_flat.specs.declared.expr.SizedExpr.{SizedExpr}
use Rattle.rtl_flat.specs.Expression.{Tree, tree}
use Rattle.rtl_flat.specs.Process.{Action, Piece, action, piece}

abbrev pub actions : List (Bor Act) → List Action
actions kept = map (λ one. action one.now) kept

abbrev pub targets : List (Bor TargetPart) → List Piece
targets kept = map (λ one. piece one.now) kept

abbrev pub expressions : List (Bor SizedExpr) → List Tree
expressions kept = map (λ e. tree e.now) kept
