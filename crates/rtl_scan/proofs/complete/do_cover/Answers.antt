use Rattle.std.proofs.Common.{◌∙◌, arith}
use Rattle.rtl_scan.proofs.Known.{covers_are}
use Rattle.rtl_scan.proofs.complete.do_cover.Goals as goal

pub returns : goal.returns
returns c =
    c.match_all.ensures ∙ covers_are c.args.kind c.args.own c.args.width c.args.signed c.args.labels.now c.in_ok-labels.labels (omega arith) (omega arith) (omega arith) (omega arith) c.in_ok-labels.ensures
