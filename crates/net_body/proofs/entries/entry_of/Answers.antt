use Rattle.std.proofs.Common.{◌∙◌, ℕ, ap, sym, subst}
use Rattle.std.specs.List.{All}
use mathlib.Core.Path.{fun_ext}
use Rattle.rtl_flat.specs.Process.{selection}
use Rattle.rtl_flat.specs.Value.{store}
use Rattle.event_model.specs.Writes.{write_at}
use Rattle.net_model.specs.Block.{span_by}
use Rattle.net_number.proofs.Selected.{selection_sized}
use Rattle.net_body.specs.Entries.{IsInside}
use Rattle.net_body.proofs.Targets.{span_inside}
use Rattle.net_body.proofs.entries.entry_of.Goals as goal

pub span-requires : goal.span-requires
span-requires c =
    selection_sized c.args.signals.now c.args.numbers.now c.args.part.now.signal.0 c.args.part.now.select c.requires.stored.stored c.requires.stored.each c.requires.selected

pub returns-clause-inside : goal.returns-clause-inside
returns-clause-inside c =
    let signals = c.args.signals.now in
    let i = c.args.part.now.signal.0 in
    let s = selection c.args.part.now.select in
    let n = store c.args.numbers.now in
    let same = fun_ext c.requires.stored.each in
    subst (λ o. All (IsInside signals) (write_at i o c.select.result))
    (sym (c.span.ensures ∙ ap (λ (ws : ℕ → ℕ). span_by ws c.args.fill n i s) (sym same)))
    (span_inside signals c.args.fill n i s c.select.result c.requires.selected (c.select.ensures.width ∙ c.count_of-count.ensures))
