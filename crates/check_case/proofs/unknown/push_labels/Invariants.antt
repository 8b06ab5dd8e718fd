use Rattle.std.proofs.Common.{◌≡◌, ℕ, map, take}
use Rattle.rtl_flat.specs.Expression.{tree}
use Rattle.rtl_flat.specs.Process.{task}
use Rattle.rtl_rule.specs.Parts.{first_of, within, written}
use Rattle.rtl_flat.specs.Flats.{Flat}
use Rattle.check_found.specs.Gathered.{Gets}
use Rattle.check_case.specs.Cases.{IsUnknownItem, label_in, unknown_item_at}
use Rattle.check_case.proofs.unknown.push_labels.Given as goal

abbrev pub invariant-loop-label : goal.invariant-loop-label
invariant-loop-label l =
    (d : Flat) (p : ℕ) → l.signal ≡ first_of d (written d (task l.process).does) → Gets IsUnknownItem (unknown_item_at d) (map (λ e. within (p, task l.process) (label_in l.kind (tree e.now))) (take l.label-index l.labels)) l.fn.found.items l.found.items
