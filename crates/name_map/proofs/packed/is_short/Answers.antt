use Rattle.std.proofs.Common.{sym, ◌≡◌, ◌∙◌, ◌&&◌, Bool, true, false, length, nat_le, refl, ap}
use Rattle.name_map.proofs.Numbers.{all_bytes}
use Rattle.name_map.proofs.packed.is_short.Goals as goal

both : (a : Bool) → a ≡ (a && true)
both true = refl
both false = refl

pub returns : goal.returns
returns c =
    both (nat_le (length c.args.name.now) 15)
    ∙ ap (λ b. nat_le (length c.args.name.now) 15 && b) (sym (all_bytes c.args.name.now c.type_inv.name))
