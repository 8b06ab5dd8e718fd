-- When the names of a module stand for signals of a design.
use Rattle.std.specs.Prelude.{ℕ, ◌+◌, ◌≡◌, List, Option, Some}
use Rattle.rtl_flat.specs.declared.signal.Kind.{Kind}
use Rattle.rtl_flat.specs.declared.signal.Kind.TheVariants.{Net, Var}
use Rattle.rtl_flat.specs.declared.signal.Signal.{Signal}
use Rattle.rtl_flat.specs.Signs.{Has}
use Rattle.rtl_flat.specs.Sizing.{HaveBits}
use Rattle.elab_body.specs.elab_scope.declared.known.Known.{Known}
use Rattle.elab_body.specs.elab_scope.declared.known.Known.TheVariants as known
use Rattle.elab_body.specs.elab_scope.declared.known.Role.TheVariants as role
use Rattle.elab_body.specs.elab_scope.declared.rules.Writer.{Writer}
use Rattle.elab_body.specs.elab_scope.declared.rules.Writer.TheVariants.{Continuous, Procedural}
use Rattle.elab_body.specs.elab_scope.Names.{Meanings}
use Rattle.elab_body.specs.elab_scope.Sources.{Describes}

-- the kind of the signals that an assignment writes: nets continuously, variables by statements (IEEE 1364-2001
-- sections 6.1 and 9.2)
abbrev pub written_kind : Writer → Kind
written_kind Continuous = Net
written_kind Procedural = Var

-- whether the design's signal is of the kind that the module gives it; of an input, which nothing in the module may
-- write, nothing is said
abbrev pub HasKind : ℕ → List Signal → Option Known → Type 0
HasKind base signals (Some (known.Signal number role.Net shape)) =
    Has (λ s. s.kind ≡ Net) signals (base + number)
HasKind base signals (Some (known.Signal number role.Variable shape)) =
    Has (λ s. s.kind ≡ Var) signals (base + number)
HasKind base signals _ = Unit {0}

-- whether the names of a module stand for signals of a design, where those of the module are numbered from a base on
pub record IsScopeOf (base : ℕ) (signals : List Signal) (scope : Meanings) : Type 0 where
  pub described : Describes base signals scope
  pub kinds : (name : List ℕ) → HasKind base signals (scope name)
  pub bits : HaveBits signals
