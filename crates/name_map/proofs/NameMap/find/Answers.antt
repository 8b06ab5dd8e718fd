use Rattle.std.specs.BTreeMap.{get_by}
use Rattle.std.specs.Ordering.{nat_cmp}
use Rattle.std.proofs.Common.{◌∙◌, sym, ap}
use Rattle.name_map.specs.Values.{values_of}
use Rattle.name_map.proofs.Written.{read_short, read_long}
use Rattle.name_map.proofs.NameMap.find.Goals as goal

pub returns-then-is_short : goal.returns-then-is_short
unfolding values_of
returns-then-is_short g c =
    let map = c.args.self.now in
    c.copied.ensures ∙ c.get.ensures.value ∙ ap (λ number. get_by (nat_cmp number) map.short) c.packed.ensures
    ∙ sym (read_short map.short map.long c.as_bytes-bytes.result.now (sym c.if-is_short.ensures))
    ∙ ap (λ name. values_of map name) c.as_bytes-bytes.ensures

pub returns-else-is_short : goal.returns-else-is_short
unfolding values_of
returns-else-is_short g c =
    let map = c.args.self.now in
    c.copied-else-is_short.ensures ∙ c.get-else-is_short.ensures.value
    ∙ sym (read_long map.short map.long c.as_bytes-bytes.result.now (sym c.if-is_short.ensures))
    ∙ ap (λ name. values_of map name) c.as_bytes-bytes.ensures
