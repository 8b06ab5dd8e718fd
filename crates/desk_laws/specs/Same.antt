-- Two answers of the desk that say the same.
use Rattle.std.specs.Prelude.{◌≡◌, ◌≢◌, ℕ, List, Option, false}
use Rattle.std.specs.Io.KnownBytes.{Appends}
use Rattle.desk_top.specs.Delivery.{gave_up}

-- no read and no write failed, and memory didn't run out
pub record IsUndisturbed (status : ℕ) : Type 0 where
  pub kept_up : gave_up status ≡ false
  pub written : status ≢ 5

-- one exit status, and one list of bytes that each of two sinks took
pub record AreSame (one other : ℕ) (before now old new : Option (List ℕ)) : Type 0 where
  pub status : one ≡ other
  pub bytes : List ℕ
  pub first : Appends before now bytes
  pub second : Appends old new bytes
