use Rattle.std.proofs.Common.{◌≡◌, ◌∷◌, ◌+◌, ◌-◌, ap, ◌∙◌, map, arith}
use Rattle.rtl_flat.specs.Process.{piece, selection}
use Rattle.rtl_flat.specs.Signs.{width_in}
use Rattle.rtl_flat.specs.Value.{store}
use Rattle.event_model.specs.Writes.{counts, count_of}
use Rattle.event_write.proofs.Parts.{prepared_more}
use Rattle.event_write.proofs.entries.+prepare_parts.Goals as goal

pub returns-clause-entries : goal.returns-clause-entries
returns-clause-entries t c =
    let ws = width_in c.args.signals.now in
    let is : c.args.parts.now ≡ c.in-Some.part.now ∷ c.in-Some.others.now = c.in-Some.ensures.cases.0 in
    let all : c.args.left ≡ count_of ws c.in-Some.part.now.signal.0 (selection c.in-Some.part.now.select) + counts ws (map piece c.in-Some.others.now) =
    c.requires.left ∙ ap (λ ps. counts ws (map piece ps)) is in
    let count = c.count_of.ensures in
    let left : c.args.left - c.count_of.result ≡ counts ws (map piece c.in-Some.others.now) = omega (arith, all, count) in
    prepared_more ws (store c.args.values.now) c.in-Some.part.now c.in-Some.others.now c.args.parts.now (c.args.left - c.count_of.result) c.args.value c.is_empty-is_last.result
    c.args.prepared.now.items c.push.new.prepared.items c.prepare_parts.new.prepared.items c.entry_of.result
    is c.is_empty-is_last.ensures left c.push.ensures.items c.entry_of.ensures c.prepare_parts.ensures.entries
