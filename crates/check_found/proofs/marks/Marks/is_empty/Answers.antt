use Rattle.std.proofs.Common.{◌≡◌, ℕ, List, [], ◌∷◌, length, refl, ap, arith}
use Rattle.std.specs.Map.{lookup}
use Rattle.std.specs.Ordering.{nat_cmp}
use Rattle.std.specs.BTreeMap.{is_at}
use Rattle.check_found.proofs.marks.Marks.is_empty.Goals as goal

no_entries : {K V : Type 0} (entries : List (K × V)) → length entries ≡ 0 → entries ≡ []
no_entries [] h = refl
no_entries (entry ∷ others) h = absurd (omega arith)

pub returns : goal.returns
returns c = λ is s.
    ap (λ es. lookup (is_at (nat_cmp s)) es) (no_entries c.args.self.now.spots.entries (c.is_empty.ensures.0 is))
