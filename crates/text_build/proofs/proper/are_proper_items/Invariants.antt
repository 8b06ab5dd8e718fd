use Rattle.std.proofs.Common.{◌≡◌, map, drop}
use Rattle.std.specs.List.{list_all}
use Rattle.rtl_tree.specs.TreeWritten.{written_item}
use Rattle.text_build.specs.Tests.{is_proper_written}
use Rattle.text_build.proofs.proper.are_proper_items.Given as goal

abbrev pub invariant-loop-item : goal.invariant-loop-item
invariant-loop-item l =
    list_all is_proper_written (map written_item (drop l.item-index l.items))
    ≡ list_all is_proper_written (map written_item l.items)
