use Rattle.std.specs.Prelude.{List, [], ◌∷◌, Option, None, Bool, true, false, if◌then◌else◌, length}
use Rattle.std.specs.Map.{lookup}
use Rattle.std.proofs.Common.{◌≡◌, refl, arith}
use Rattle.std.proofs.Math.Path.{fun_ext}
use Rattle.name_map.specs.Packed.{is_short}
use Rattle.name_map.specs.Values.{values_of}
use Rattle.name_map.proofs.NameMap.new.Goals as goal

nothing : {K V : Type 0} (test : K → Bool) (entries : List (K × V)) → length entries ≡ 0 → lookup test entries ≡ None
nothing test [] h = refl
nothing test (e ∷ es) h = absurd (omega arith)

either : {V : Type 0} (b : Bool) (x y : Option V) → x ≡ None → y ≡ None → (if b then x else y) ≡ None
either true x y g h = g
either false x y g h = h

pub returns : goal.returns
unfolding values_of
returns g c =
    fun_ext (λ name. either (is_short name) _ _ (nothing _ c.new.result.entries c.new.ensures.len) (nothing _ c.new-2.result.entries c.new-2.ensures.len))
