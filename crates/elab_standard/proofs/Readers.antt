-- Whoever reads the names, numbers are the desk's.
use Rattle.std.specs.Prelude.{ℕ, List, Option, None, Some}
use Rattle.std.proofs.Common.{◌≡◌, refl}
use mathlib.Core.Path.{fun_ext}
use Rattle.elab_walk.specs.elab_scope.declared.known.Known.{Known}
use Rattle.elab_walk.specs.elab_scope.declared.known.Known.TheVariants as known
use Rattle.elab_walk.specs.elab_scope.Names.{number_of, numbers_in}
use Rattle.elab_standard.specs.declared.scopes.By.{By}
use Rattle.elab_standard.specs.declared.scopes.By.TheVariants as by
use Rattle.elab_standard.specs.declared.standard.Standard.{Standard}
use Rattle.elab_standard.specs.Reads.{read_by}
use Rattle.elab_standard.specs.Scopes.{Scopes, restated_name}

same_number : (known : Option Known) (standard : Option Standard) → number_of (restated_name known standard) ≡ number_of known
same_number None standard = refl
same_number (Some (known.Signal number role shape)) standard = refl
same_number (Some (known.Integer number)) standard = refl
same_number (Some (known.Parameter number width signed)) None = refl
same_number (Some (known.Parameter number width signed)) (Some standard) = refl

pub same_numbers : (by : By) (s : Scopes) → numbers_in (read_by by s) ≡ numbers_in s.scope
same_numbers by.Desk s = refl
same_numbers by.Standard s = fun_ext (λ name. same_number (s.scope name) (s.standards name))
