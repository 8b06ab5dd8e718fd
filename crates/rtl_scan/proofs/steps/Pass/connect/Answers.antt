use Rattle.std.specs.Prelude.{map, false}
use Rattle.std.proofs.lemmas.Result.{on_ok_weaker}
use Rattle.rtl_flat.specs.Signs.{width_in}
use Rattle.rtl_flat.specs.Expression.{tree}
use Rattle.rtl_flat.specs.Process.{piece}
use Rattle.rtl_flat.specs.Flows.{reads}
use Rattle.rtl_scan.specs.Scan.{write_flow}
use Rattle.rtl_scan.proofs.Passes.{read_scanned}
use Rattle.rtl_scan.proofs.steps.Pass.connect.Goals as goal

pub returns : goal.returns
returns c =
    let ws = width_in c.args.self.now.widths.signals.now in
    on_ok_weaker c.write.result
    (read_scanned c.args.self.now.counted (reads ws (tree c.args.value.now)) (write_flow ws (map piece c.args.parts.now) false) c.args.sets.now c.read.new.sets c.write.new.sets c.args.log.now.items c.write.new.log.items c.in_ok-read.ensures) c.write.ensures
