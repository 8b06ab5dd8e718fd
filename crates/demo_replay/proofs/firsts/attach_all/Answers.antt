use Rattle.std.proofs.Common.{List, Option, length, map, subst, sym, eqb-true}
use Rattle.rtl_flat.specs.Flats.{flat}
use Rattle.demo_told.specs.declared.demo.Demo.{Demo}
use Rattle.demo_told.specs.declared.demo.Shown.{Shown as Values}
use Rattle.demo_replay.specs.Firsts.{AreFirsts, told}
use Rattle.demo_replay.proofs.Showing.{no_firsts}
use Rattle.demo_replay.proofs.firsts.attach_all.Goals as goal

pub returns-then-is_empty : goal.returns-then-is_empty
returns-then-is_empty c =
    subst (λ (all : List (Option (Demo × Values))). AreFirsts (flat c.args.design.now) c.args.findings.now (map told all)) (sym c.new.ensures.items)
    (no_firsts c.args.design.now c.args.findings.now (eqb-true (length c.args.findings.now) 0 (sym c.if-is_empty.ensures)))
