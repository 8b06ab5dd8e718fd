use Rattle.std.proofs.Common.{◌≡◌, ◌∙◌, ◌++◌, sym, ap, subst, append-nil, List}
use Rattle.rtl_scan.specs.declared.bits.Row.{Row}
use Rattle.rtl_scan.specs.Sets.{has_rows, rows_of, IsInOrder}
use Rattle.rtl_scan.proofs.Rows.{rows_have, rows_in_order}
use Rattle.rtl_scan.proofs.bits.BitSet.to_bits.Goals as goal

pub returns-clause-bits : goal.returns-clause-bits
returns-clause-bits c = λ s k.
    let all : c.loop-signal.rows.items ≡ rows_of c.args.self.now.masks.entries
    = sym (ap (λ es. c.loop-signal.rows.items ++ rows_of es) c.in-None.ensures.steps.0 ∙ append-nil c.loop-signal.rows.items) ∙ c.loop-signal.invariant in
    ap (λ rows. has_rows rows s k) all ∙ rows_have c.args.self.now.masks.entries c.into_iter-signal-iterator.ensures.into_iter_gives.5 s k

pub returns-clause-order : goal.returns-clause-order
returns-clause-order c =
    let all : c.loop-signal.rows.items ≡ rows_of c.args.self.now.masks.entries
    = sym (ap (λ es. c.loop-signal.rows.items ++ rows_of es) c.in-None.ensures.steps.0 ∙ append-nil c.loop-signal.rows.items) ∙ c.loop-signal.invariant in
    subst (λ (rows : List Row). IsInOrder rows) (sym all) (rows_in_order c.args.self.now.masks.entries c.into_iter-signal-iterator.ensures.into_iter_gives.5)
