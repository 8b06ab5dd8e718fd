-- A choice that gave something: which side it took.
use Rattle.std.proofs.Common.{◌≡◌, ℕ, ◌+◌, Bool, true, false, cond, Option, Some, None, refl}
use Rattle.std.specs.Option.{option_map}
use Rattle.rtl_tree.specs.declared.token.Form.{Form}
use Rattle.rtl_text.specs.Forms.{formed}

pub pick : {A : Type 0} (o : Bool) (x y r : A) (P : Type 0) → (o ≡ true → x ≡ r → P) → (o ≡ false → y ≡ r → P) → cond o x y ≡ r → P
pick true x y r P f g h = f refl h
pick false x y r P f g h = g refl h

pub formed_is : (form : Form) (o : Option ℕ) (r : Form × ℕ) → formed form o ≡ Some r → (n : ℕ) × (o ≡ Some n) × (r ≡ (form, n))
formed_is form None r h = cc
formed_is form (Some n) r h = (n, refl, cc)

pub more_is : (o : Option ℕ) (n : ℕ) → option_map (λ k. 1 + k) o ≡ Some n → (m : ℕ) × (o ≡ Some m) × (n ≡ 1 + m)
more_is None n h = cc
more_is (Some m) n h = (m, refl, cc)
