use Rattle.std.proofs.Common.{subst, sym}
use Rattle.rtl_const.proofs.Ranges.{IsRanged, constant_is}
use Rattle.rtl_tree.specs.TreeExpr.{formula}
use Rattle.elab_scope.specs.Names.{meanings, numbers_in}
use Rattle.elab_scope.proofs.selects.ends_of.Goals as goal

pub end_above-requires-clause-base : goal.end_above-requires-clause-base
end_above-requires-clause-base c =
    subst IsRanged (sym c.constant-first.ensures) (constant_is (numbers_in (meanings c.args.names.now)) (formula c.args.first.now))

pub end_above-requires-clause-width : goal.end_above-requires-clause-width
end_above-requires-clause-width c =
    subst IsRanged (sym c.constant-second.ensures) (constant_is (numbers_in (meanings c.args.names.now)) (formula c.args.second.now))

pub end_below-requires-clause-base : goal.end_below-requires-clause-base
end_below-requires-clause-base c =
    subst IsRanged (sym c.constant-first.ensures) (constant_is (numbers_in (meanings c.args.names.now)) (formula c.args.first.now))

pub end_below-requires-clause-width : goal.end_below-requires-clause-width
end_below-requires-clause-width c =
    subst IsRanged (sym c.constant-second.ensures) (constant_is (numbers_in (meanings c.args.names.now)) (formula c.args.second.now))
