use Rattle.std.proofs.Common.{◌∙◌, map, sym, ap}
use Rattle.std.specs.Ordering.{nat_cmp}
use Rattle.std.specs.BTreeMap.{get}
use Rattle.std.specs.List.{filter_map}
use Rattle.std.proofs.lemmas.Result.{on_ok_weaker}
use Rattle.rtl_flat.specs.Expression.{tree}
use Rattle.rtl_flat.specs.Process.{action, piece}
use Rattle.rtl_flat.specs.Flats.{flat, widths}
use Rattle.check_assign.specs.Assigned.{own_targets}
use Rattle.check_loops.specs.check_found.Marked.{joined, least_of}
use Rattle.check_assign.specs.Marks.{spot_of}
use Rattle.check_assign.proofs.Firsts.{own_none, own_same}
use Rattle.check_loops.proofs.check_found_proofs.Places.{joined-none}
use Rattle.check_assign.proofs.targets.note_act.Goals as goal

pub returns-then-is_delayed-delayed : goal.returns-then-is_delayed-delayed
returns-then-is_delayed-delayed c = λ s.
    let ws = widths (flat c.args.design.now) in
    let set = c.in-Set in
    let old = get nat_cmp c.args.marks.now.spots s in
    sym (ap (λ one. joined old (least_of (own_targets ws c.args.delayed s (action one)))) set.is
    ∙ ap (joined old) (own_none ws c.args.delayed set.is_delayed s (map piece set.target.parts.items) (tree set.value) set.spot c.if-is_delayed-delayed.true) ∙ joined-none old)

pub returns-else-is_delayed-delayed : goal.returns-else-is_delayed-delayed
returns-else-is_delayed-delayed c =
    let ws = widths (flat c.args.design.now) in
    let set = c.in-Set in
    on_ok_weaker c.note_parts.result (λ are s.
    let old = get nat_cmp c.args.marks.now.spots s in
    are s ∙ ap (λ parts. joined old (least_of (filter_map (spot_of ws s) (map piece parts)))) c.deref.ensures.value
    ∙ ap (joined old) (own_same ws c.args.delayed set.is_delayed s (map piece set.target.parts.items) (tree set.value) set.spot c.if-is_delayed-delayed.false)
    ∙ sym (ap (λ one. joined old (least_of (own_targets ws c.args.delayed s (action one)))) set.is))
    c.note_parts.ensures
