use Rattle.std.proofs.Common.{◌∙◌, take, sym}
use Rattle.desk_verdict.proofs.Unshown.{none_first, nothing_first}
use Rattle.desk_verdict.proofs.verdict.shown_of.Goals as goal

pub returns : goal.returns
returns c =
    let design = c.args.design.now in
    let findings = c.args.findings.now in
    nothing_first c.nothing.result design (take c.args.count findings) c.args.count
    (none_first design findings c.args.count (c.none_shown.ensures design) c.requires.all (sym c.has_needed.ensures ∙ c.if-has_needed.false) c.requires.within)
    c.nothing.ensures
