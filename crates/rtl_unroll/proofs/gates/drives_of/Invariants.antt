use Rattle.std.proofs.Common.{◌≡◌, ◌++◌, map}
use Rattle.std.specs.List.{flat_map}
use Rattle.std.specs.Vec.Iter.{into_iter_items}
use Rattle.rtl_tree.specs.TreeExpr.{identifier}
use Rattle.rtl_tree.specs.TreeGate.{gate}
use Rattle.rtl_tree.specs.TreeItem.{gate_drive}
use Rattle.rtl_unroll.specs.Gates.{drives_of, name_of}
use Rattle.rtl_unroll.proofs.gates.drives_of.Given as goal

abbrev pub invariant-loop-one : goal.invariant-loop-one
invariant-loop-one l =
    record {
      names : map identifier l.names.items ++ flat_map name_of (map gate (into_iter_items l.one-iterator))
          ≡ flat_map name_of (map gate l.fn.gates.items);
      drives : map gate_drive l.drives.items ++ flat_map (drives_of l.kind) (map gate (into_iter_items l.one-iterator))
          ≡ flat_map (drives_of l.kind) (map gate l.fn.gates.items);
    }
