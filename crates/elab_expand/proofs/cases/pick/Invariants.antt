use Rattle.std.proofs.Common.{◌≡◌, None, map, drop}
use Rattle.rtl_tree.specs.TreeWritten.{choice, choice_row}
use Rattle.elab_expand.specs.Expansions.{choices_judged, pick}
use Rattle.elab_expand.specs.Openings.{tally}
use Rattle.elab_expand.specs.Scoping.{scopes}
use Rattle.elab_expand.proofs.cases.pick.Given as goal

abbrev pub invariant-loop-place : goal.invariant-loop-place
invariant-loop-place l =
    (pick (scopes l.within) l.number l.place (choice_row (map choice (drop l.place l.choices))) l.default ≡ pick (scopes l.within) l.number 0 (choice_row (map choice l.choices)) None)
    × (choices_judged (scopes l.within) l.at l.number (choice_row (map choice (drop l.place l.choices))) (tally l.so_far) ≡ choices_judged (scopes l.within) l.at l.number (choice_row (map choice l.choices)) (tally l.initial.so_far))
