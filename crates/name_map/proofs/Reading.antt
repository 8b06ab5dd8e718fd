-- What is read off a map that has a value more.
use Rattle.std.specs.Prelude.{ℕ, List, Bool, true, false, Option, Some, if◌then◌else◌}
use Rattle.std.specs.Str.{bytes_eq}
use Rattle.std.proofs.Common.{◌≡◌, refl}
use Rattle.std.proofs.Math.Path.{fun_ext}
use Rattle.name_map.specs.Values.{Values, with_value}

chosen : {V : Type 0} {W : Type 0} (read : Option V → W) (b : Bool) (value : V) (old : Option V) → read (if b then Some value else old) ≡ (if b then read (Some value) else read old)
chosen read true value old = refl
chosen read false value old = refl

pub read_with : {V : Type 0} {W : Type 0} (read : Option V → W) (values : Values V) (name : List ℕ) (value : V) → ◌≡◌ {A = List ℕ → W} (λ other. read (with_value values name value other)) (λ other. if bytes_eq name other then read (Some value) else read (values other))
read_with read values name value =
    fun_ext (λ other. chosen read (bytes_eq name other) value (values other))
