use Rattle.std.specs.Cmp.Lexicographic.{slice_cmp}
use Rattle.std.specs.Ordering.{nat_cmp}
use Rattle.std.specs.BTreeMap.{get_by, UpdatesBy}
use Rattle.std.specs.Prelude.{Some, OnErr, Result, Ok, Err}
use Rattle.std.proofs.Common.{◌∙◌, sym, ap, subst}
use Rattle.name_map.specs.Packed.{is_short}
use Rattle.name_map.specs.Values.{values_of, with_value}
use Rattle.name_map.proofs.Written.{read_short, read_long, same_short, same_long, written_short, written_long}
use Rattle.name_map.proofs.NameMap.exchange.Goals as goal

always : {A E : Type 0} (r : Result A E) (P : Type 0) → P → OnErr r P
always (Ok a) P p = tt
always (Err e) P p = p

pub returns-in_err-had-clause-err : goal.returns-in_err-had-clause-err
unfolding values_of
returns-in_err-had-clause-err g c =
    always c.from_residual.result _ (same_short c.insert.new.self c.args.self.now.short c.args.self.now.long c.in_err-had.ensures.err)

pub returns-in_err-had-2-clause-err : goal.returns-in_err-had-2-clause-err
unfolding values_of
returns-in_err-had-2-clause-err g c =
    always c.from_residual-in_err-had-2.result _ (same_long c.args.self.now.short c.insert-2.new.self c.args.self.now.long c.in_err-had-2.ensures.err)

pub returns-then-is_short-clause-had : goal.returns-then-is_short-clause-had
unfolding values_of
returns-then-is_short-clause-had g c =
    let map = c.args.self.now in
    c.in_ok-had.ensures.old ∙ ap (λ number. get_by (nat_cmp number) map.short) c.packed.ensures
    ∙ sym (read_short map.short map.long c.as_bytes-bytes.result.now (sym c.if-is_short.ensures))
    ∙ ap (λ name. values_of map name) c.as_bytes-bytes.ensures

pub returns-then-is_short-clause-ok : goal.returns-then-is_short-clause-ok
unfolding values_of
returns-then-is_short-clause-ok g c =
    let map = c.args.self.now in
    written_short map.short c.insert.new.self map.long c.as_bytes-bytes.result.now c.args.value (sym c.if-is_short.ensures)
    (subst (λ number. UpdatesBy nat_cmp (nat_cmp number) map.short c.insert.new.self (Some c.args.value)) c.packed.ensures c.in_ok-had.ensures.updates)
    ∙ ap (λ name. with_value (values_of map) name c.args.value) c.as_bytes-bytes.ensures

pub returns-clause-had : goal.returns-clause-had
unfolding values_of
returns-clause-had g c =
    let map = c.args.self.now in
    c.in_ok-had-2.ensures.old
    ∙ ap (λ items. get_by (λ key. slice_cmp nat_cmp items key.items) map.long) c.in_ok-key.ensures.items
    ∙ sym (read_long map.short map.long c.as_bytes-bytes.result.now (sym c.if-is_short.ensures))
    ∙ ap (λ name. values_of map name) c.as_bytes-bytes.ensures

pub returns-clause-ok : goal.returns-clause-ok
unfolding values_of
returns-clause-ok g c =
    let map = c.args.self.now in
    written_long map.short map.long c.insert-2.new.self c.in_ok-key.key.items c.args.value
    (ap is_short c.in_ok-key.ensures.items ∙ sym c.if-is_short.ensures)
    c.in_ok-had-2.ensures.updates
    ∙ ap (λ name. with_value (values_of map) name c.args.value) (c.in_ok-key.ensures.items ∙ c.as_bytes-bytes.ensures)
