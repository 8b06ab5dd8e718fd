-- Which process is told where nothing is inferred.
use Rattle.std.specs.Prelude.{◌<◌, ℕ}
use Rattle.net_list.specs.declared.fault.InferFault.{InferFault}
use Rattle.net_list.specs.declared.fault.InferFault.TheVariants.{Shape, Memory}

-- the least number of which something holds
pub record IsLeast (P : ℕ → Type 0) (n : ℕ) : Type 0 where
  pub holds : P n
  pub none_below : (m : ℕ) → m < n → P m → ⊥

-- the least process of which nothing is inferred, or want of memory
abbrev pub IsFirst : (ℕ → Type 0) → InferFault → Type 0
IsFirst P (Shape p) = IsLeast P p.0
IsFirst P Memory = Unit {0}
