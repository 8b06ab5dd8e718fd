-- The faults of a module, and which of them is told.
-- Worked examples: crates/tests_rows/stdin.
use Rattle.std.specs.Prelude.{ℕ, nat_lt, ◌==◌, Bool, ◌&&◌, ◌||◌, if◌then◌else◌, List, [], ◌∷◌, Option, None, Some}
use Rattle.text_ground.specs.declared.text.Spot.{Spot}
use Rattle.rtl_const.specs.declared.fault.ConstFault.{ConstFault}
use Rattle.elab_scope.specs.declared.fault.ElabFault.{ElabFault}
use Rattle.elab_scope.specs.declared.fault.ElabFault.TheVariants as told
use Rattle.elab_scope.specs.declared.fault.Cause.{Cause}
use Rattle.elab_scope.specs.declared.fault.Cause.TheVariants as found
use Rattle.elab_scope.specs.declared.fault.Fault.{Fault}

-- the rule that is broken, with the name that is told
pub data Breach : Type 0 where
  NoSuchModule : (name : List ℕ) → Breach
  ModuleTwice : (name : List ℕ) → Breach
  Undeclared : (name : List ℕ) → Breach
  DeclaredTwice : (name : List ℕ) → Breach
  Width : Breach
  Port : (name : List ℕ) → Breach
  Parameter : (name : List ℕ) → Breach
  NotAssignable : (name : List ℕ) → Breach
  Range : Breach
  Const : (fault : ConstFault) → Breach
  Genvar : (name : List ℕ) → Breach
  TooManyTurns : Breach
  InstanceLoop : (name : List ℕ) → Breach
  TooLarge : Breach

-- a fault at a place of the module's file
pub record Refusal : Type 0 where
  pub at : ℕ
  pub breach : Breach

abbrev pub breach : Cause → Breach
breach (found.NoSuchModule name) = NoSuchModule name.now
breach (found.ModuleTwice name) = ModuleTwice name.now
breach (found.Undeclared name) = Undeclared name.now
breach (found.DeclaredTwice name) = DeclaredTwice name.now
breach found.Width = Width
breach (found.Port name) = Port name.now
breach (found.Parameter name) = Parameter name.now
breach (found.NotAssignable name) = NotAssignable name.now
breach found.Range = Range
breach (found.Const fault) = Const fault
breach (found.Genvar name) = Genvar name.now
breach found.TooManyTurns = TooManyTurns
breach (found.InstanceLoop name) = InstanceLoop name.now
breach found.TooLarge = TooLarge

abbrev pub refusal : Fault → Refusal
refusal fault = record { at = fault.at; breach = breach fault.cause }

-- the order of the rules at one place
abbrev pub rank : Breach → ℕ
rank (NoSuchModule name) = 1
rank (ModuleTwice name) = 2
rank (Undeclared name) = 3
rank (DeclaredTwice name) = 4
rank Width = 5
rank (Port name) = 6
rank (Parameter name) = 7
rank (NotAssignable name) = 8
rank Range = 9
rank (Genvar name) = 10
rank TooManyTurns = 11
rank (Const fault) = 12
rank (InstanceLoop name) = 13
rank TooLarge = 14

-- whether a fault is told rather than another: the lesser place decides, and then the order of the rules
abbrev pub comes_before : Refusal → Refusal → Bool
comes_before a b = nat_lt a.at b.at || ((a.at == b.at) && nat_lt (rank a.breach) (rank b.breach))

-- the one of two that is told; where neither comes before the other, the one that was there
abbrev pub keep : Option Refusal → Refusal → Option Refusal
keep None fault = Some fault
keep (Some best) fault = if comes_before fault best then Some fault else Some best

-- what is told after further faults
abbrev pub after : Option Refusal → List Refusal → Option Refusal
after best [] = best
after best (fault ∷ others) = after (keep best fault) others

-- what is told of some faults
abbrev pub least : List Refusal → Option Refusal
least faults = after None faults

-- a fault as it is told, with its file; or want of memory
pub data Answer : Type 0 where
  Named : (breach : Breach) → Answer
  Placed : (breach : Breach) (spot : Spot) → Answer
  Memory : Answer

abbrev pub answer : ElabFault → Answer
answer (told.NoSuchModule name) = Named (NoSuchModule name.items)
answer (told.ModuleTwice name) = Named (ModuleTwice name.items)
answer (told.Undeclared name spot) = Placed (Undeclared name.items) spot
answer (told.DeclaredTwice name spot) = Placed (DeclaredTwice name.items) spot
answer (told.Width spot) = Placed Width spot
answer (told.Port name spot) = Placed (Port name.items) spot
answer (told.Parameter name spot) = Placed (Parameter name.items) spot
answer (told.NotAssignable name spot) = Placed (NotAssignable name.items) spot
answer (told.Range spot) = Placed Range spot
answer (told.Const fault spot) = Placed (Const fault) spot
answer (told.Genvar name spot) = Placed (Genvar name.items) spot
answer (told.TooManyTurns spot) = Placed TooManyTurns spot
answer (told.InstanceLoop name spot) = Placed (InstanceLoop name.items) spot
answer (told.TooLarge spot) = Placed TooLarge spot
answer told.Memory = Memory

-- a fault of a module whose name doesn't resolve is told without its place
abbrev pub located_at : Spot → Breach → Answer
located_at spot (NoSuchModule name) = Named (NoSuchModule name)
located_at spot (ModuleTwice name) = Named (ModuleTwice name)
located_at spot other = Placed other spot

abbrev pub located : ℕ → Refusal → Answer
located file fault = located_at (record { file = file; at = fault.at }) fault.breach
