-- The breadths and the faults of targets that hold vectors.
use Rattle.std.specs.Prelude.{ℕ, List, map, Vec, Option}
use Rattle.std.specs.declared.alloc.Global.{Global}
use Rattle.std.proofs.Common.{◌≡◌, ◌∙◌, ap, refl}
use Rattle.rtl_tree.specs.declared.tree.stmt.Lvalue.{Lvalue}
use Rattle.rtl_tree.specs.declared.tree.stmt.Lvalue.TheVariants as lvalue
use Rattle.rtl_tree.specs.TreeStmt.{Targets, no_targets, more_targets, target, target_row}
use Rattle.rtl_tree.proofs.TreeViews.{joined_is}
use Rattle.elab_scope.specs.declared.covers.Cover.{Cover}
use Rattle.elab_scope.specs.declared.rules.Writer.{Writer}
use Rattle.elab_scope.specs.declared.widths.Breadth.TheVariants.{Bits}
use Rattle.elab_scope.specs.Faults.{Refusal, after}
use Rattle.elab_scope.specs.Names.{Meanings}
use Rattle.elab_scope.specs.Rules.{width_faults}
use Rattle.elab_scope.specs.Targets.{target_breadth, targets_breadth, part_target_faults, joined_faults, covered, all_covered, twice_faults, all_twice_faults, pieces_of, all_pieces_of}
use Rattle.elab_scope.specs.Widths.{beside, fit}
use Rattle.elab_scope.proofs.Least.{after_append}
use Rattle.elab_scope.proofs.Views.{none_beside}

pub joined_breadth : (scope : Meanings) (at : ℕ) (parts : Vec Lvalue Global) (l : Lvalue) → l ≡ lvalue.Concat at parts → target_breadth scope (target l) ≡ fit (targets_breadth scope (target_row (map target parts.items)))
joined_breadth scope at parts l is =
    ap (λ l. target_breadth scope (target l)) is ∙ ap (target_breadth scope) (joined_is at parts)

-- what is told after the faults of a target of several parts
pub joined_told : (by : Writer) (scope : Meanings) (best : Option Refusal) (at : ℕ) (parts : Vec Lvalue Global) (l : Lvalue) → l ≡ lvalue.Concat at parts → after best (part_target_faults by scope (target l)) ≡ after (after best (joined_faults by scope (target_row (map target parts.items)))) (width_faults at (fit (targets_breadth scope (target_row (map target parts.items)))))
joined_told by scope best at parts l is =
    let row : Targets = target_row (map target parts.items) in
    ap (λ l. after best (part_target_faults by scope (target l))) is
    ∙ ap (λ l. after best (part_target_faults by scope l)) (joined_is at parts)
    ∙ after_append best (joined_faults by scope row) (width_faults at (fit (targets_breadth scope row)))

pub targets_alone : (scope : Meanings) (row : Targets) → beside (Bits 0) (targets_breadth scope row) ≡ targets_breadth scope row
targets_alone scope no_targets = refl
targets_alone scope (more_targets first others) =
    none_beside (target_breadth scope first) (targets_breadth scope others)

pub joined_covered : (scope : Meanings) (earlier : List Cover) (at : ℕ) (parts : Vec Lvalue Global) (l : Lvalue) → l ≡ lvalue.Concat at parts → covered scope earlier (target l) ≡ all_covered scope earlier (target_row (map target parts.items))
joined_covered scope earlier at parts l is =
    ap (λ l. covered scope earlier (target l)) is ∙ ap (covered scope earlier) (joined_is at parts)

pub joined_twice : (scope : Meanings) (earlier : List Cover) (at : ℕ) (parts : Vec Lvalue Global) (l : Lvalue) → l ≡ lvalue.Concat at parts → twice_faults scope earlier (target l) ≡ all_twice_faults scope earlier (target_row (map target parts.items))
joined_twice scope earlier at parts l is =
    ap (λ l. twice_faults scope earlier (target l)) is ∙ ap (twice_faults scope earlier) (joined_is at parts)

pub joined_pieces : (file base : ℕ) (scope : Meanings) (at : ℕ) (parts : Vec Lvalue Global) (l : Lvalue) → l ≡ lvalue.Concat at parts → pieces_of file base scope (target l) ≡ all_pieces_of file base scope (target_row (map target parts.items))
joined_pieces file base scope at parts l is =
    ap (λ l. pieces_of file base scope (target l)) is ∙ ap (pieces_of file base scope) (joined_is at parts)
