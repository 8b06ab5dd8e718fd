use Rattle.std.proofs.Common.{◌∙◌, ap, map, sym}
use Rattle.std.specs.Option.{option_map}
use Rattle.rtl_tree.specs.TreeModule.{header_port}
use Rattle.elab_uses.specs.elab_links.Ports.{port_name}
use Rattle.elab_uses.proofs.elab_links_proofs.Places.{at_place}
use Rattle.elab_readings.proofs.Steps.{some_at}
use Rattle.elab_readings.proofs.connections.declared_at.Goals as goal

pub returns-in-Some : goal.returns-in-Some
returns-in-Some c =
    let ports = c.args.ports.now in
    sym (at_place port_name (map header_port ports) c.args.place ∙ ap (option_map port_name) (some_at header_port ports c.args.place c.in-Some.port.now c.in-Some.ensures.lookup.3.0 c.in-Some.ensures.lookup.1))
