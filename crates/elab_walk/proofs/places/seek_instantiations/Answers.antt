use Rattle.std.proofs.Common.{ℕ, List, map, refl}
use Rattle.rtl_tree.specs.declared.tree.item.Instance.{Instance}
use Rattle.rtl_tree.specs.TreeItem.{association, instantiation}
use Rattle.elab_walk.specs.Rooms.{connection_places, instantiation_places}
use Rattle.elab_walk.proofs.Seeking.{more_sought}
use Rattle.elab_walk.proofs.places.seek_instantiations.Goals as goal

pub loop-instance-preserved : goal.loop-instance-preserved
loop-instance-preserved c =
    let row : List Instance → List ℕ = λ instances. instantiation_places (map instantiation instances) in
    let own : Instance → List ℕ = λ instance. connection_places (association instance.connections) in
    more_sought row own (λ instance instances. refl) c.loop-instance.seek c.seek_connections-seek.result c.args.instances.now c.loop-instance.instance-index c.instance-item.result _ c.loop-instance-test.true c.instance-item.is c.seek_connections-seek.ensures c.loop-instance.invariant
