-- It serves inner contracts and proofs; no answer of the program is stated by it.
-- What rules about one process ask of all of them.
use Rattle.std.specs.Prelude.{◌≡◌, ◌↔◌, ℕ, Bool, true, List, length, Some, Vec}
use Rattle.std.specs.List.{slice_get}
use Rattle.std.specs.declared.alloc.Global.{Global}
use Rattle.rtl_flat.specs.PathSets.{IsTemporary}
use Rattle.rtl_flat.specs.Flats.{Flat}
use Rattle.net_list.specs.check_clocks.Roles.{AreRoles}
use Rattle.net_list.specs.check_gates.Tops.{AreTops}

pub record AreFacts (d : Flat) (tops : List (Vec ℕ Global)) (clocks resets temporaries : List Bool) : Type 0 where
  pub tops_are : AreTops d (length d.signals) tops
  pub roles_are : AreRoles d (length d.tasks) clocks resets
  pub temporaries_are : (s : ℕ) → slice_get temporaries s ≡ Some true ↔ IsTemporary d.signals d.tasks s
