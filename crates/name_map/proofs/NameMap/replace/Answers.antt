use Rattle.std.specs.Ordering.{nat_cmp}
use Rattle.std.specs.BTreeMap.{get_by, UpdatesBy}
use Rattle.std.specs.Prelude.{true, false, Option, None, Some, IsSome}
use Rattle.std.proofs.Common.{rules, ◌≡◌, ◌∙◌, sym, ap, subst}
use Rattle.name_map.specs.Values.{values_of, with_value}
use Rattle.name_map.proofs.Written.{read_short, read_long, written_short, written_long}
use Rattle.name_map.proofs.NameMap.replace.Goals as goal

pub returns-in-Some : goal.returns-in-Some
unfolding values_of
returns-in-Some g c =
    let map = c.args.self.now in
    written_short map.short (c.get_mut.follows.lender c.args.value) map.long c.as_bytes-bytes.result.now c.args.value (sym c.if-is_short.ensures)
    (subst (λ number. UpdatesBy nat_cmp (nat_cmp number) map.short (c.get_mut.follows.lender c.args.value) (Some c.args.value)) c.packed.ensures
    ((c.get_mut.follows.holds c.args.value).3 (search rules)))
    ∙ ap (λ name. with_value (values_of map) name c.args.value) c.as_bytes-bytes.ensures

-- the name has a value
never : {V : Type 0} (o p : Option V) → o ≡ p → p ≡ None → IsSome o → ⊥
never o p e f some = let never : false ≡ true = subst (λ o. IsSome o) (e ∙ f) some in cc

pub returns-in_default : goal.returns-in_default
unfolding values_of
returns-in_default g c =
    let map = c.args.self.now in
    absurd (never (values_of map c.args.name.now) _
    (ap (λ name. values_of map name) (sym c.as_bytes-bytes.ensures) ∙ read_short map.short map.long c.as_bytes-bytes.result.now (sym c.if-is_short.ensures))
    (ap (λ number. get_by (nat_cmp number) map.short) (sym c.packed.ensures) ∙ sym c.in_default.ensures.value)
    c.requires)

pub returns-in-Some-get_mut : goal.returns-in-Some-get_mut
unfolding values_of
returns-in-Some-get_mut g c =
    let map = c.args.self.now in
    written_long map.short map.long (c.get_mut-else-is_short.follows.lender c.args.value) c.as_bytes-bytes.result.now c.args.value (sym c.if-is_short.ensures)
    ((c.get_mut-else-is_short.follows.holds c.args.value).3 (search rules))
    ∙ ap (λ name. with_value (values_of map) name c.args.value) c.as_bytes-bytes.ensures

pub returns-in_default-get_mut : goal.returns-in_default-get_mut
unfolding values_of
returns-in_default-get_mut g c =
    let map = c.args.self.now in
    absurd (never (values_of map c.args.name.now) _
    (ap (λ name. values_of map name) (sym c.as_bytes-bytes.ensures) ∙ read_long map.short map.long c.as_bytes-bytes.result.now (sym c.if-is_short.ensures))
    (sym c.in_default-get_mut.ensures.value)
    c.requires)
