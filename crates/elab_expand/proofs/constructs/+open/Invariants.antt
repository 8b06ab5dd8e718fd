use Rattle.std.proofs.Common.{◌≡◌, ◌-◌, map, drop}
use Rattle.rtl_tree.specs.TreeWritten.{item_row, made, written_item}
use Rattle.elab_items.specs.Settings.{settings_of}
use Rattle.elab_expand.specs.Expansions.{opened_body, opened_items, turns}
use Rattle.elab_expand.specs.Openings.{loop_of, opening, outers}
use Rattle.elab_expand.proofs.constructs.+open.Given as goal

abbrev pub invariant-open_items-loop-item : goal.invariant-open_items-loop-item
invariant-open_items-loop-item l =
    opened_items (settings_of l.site.given.now) (item_row (map written_item (drop l.item-index l.items))) (opening (outers l.site.outer.now) l.block l.so_far)
    ≡ opened_items (settings_of l.site.given.now) (item_row (map written_item l.items)) (opening (outers l.site.outer.now) l.initial.block l.initial.so_far)

abbrev pub invariant-open_turns-loop-turn : goal.invariant-open_turns-loop-turn
invariant-open_turns-loop-turn l =
    turns (opened_body (made l.body)) (loop_of l.head l.name) (4096 - l._turn) l.number (opening (outers l.site.outer.now) l.block l.so_far)
    ≡ turns (opened_body (made l.body)) (loop_of l.head l.name) 4096 l.first (opening (outers l.site.outer.now) l.initial.block l.initial.so_far)
