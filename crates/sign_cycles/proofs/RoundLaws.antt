-- The laws of rounds, as they are stated.
use Rattle.std.proofs.Common.{ℕ}
use Rattle.rtl_flat.specs.Flats.{Flat}
use Rattle.net_rest.specs.Rest.{IsSolvable}
use Rattle.sign_cycles.specs.PowerUp.{CanAllWake}
use Rattle.sign_cycles.specs.RoundLaws.{Agree, Arrive, ArrivedFollow, BringsUp, SettledForBoth}
use Rattle.sign_cycles.specs.Round.{HasNoClock, HasNoLatch}
use Rattle.sign_cycles.proofs.Followed as followed
use Rattle.sign_cycles.proofs.Settled as settled
use Rattle.sign_cycles.proofs.Up as up

pub arrive : (d : Flat) (level : ℕ → ℕ) → IsSolvable d level → Arrive d
arrive d level solvable f s n round is = settled.arrive d level solvable f s n is round

pub arrived_follow : (d : Flat) (level : ℕ → ℕ) → IsSolvable d level → ArrivedFollow d
arrived_follow d level solvable f held inputs given t held_are holds arrived are same registers latches =
    followed.followed d level solvable f inputs given t arrived are same registers latches held held_are holds

pub agree : (d : Flat) (level : ℕ → ℕ) → IsSolvable d level → HasNoClock d → HasNoLatch d → Agree d
agree d level solvable no_clock no_latch = followed.agree d level solvable no_clock no_latch

pub brings_up : (d : Flat) (level : ℕ → ℕ) → IsSolvable d level → CanAllWake d → BringsUp d
brings_up d level solvable wakes f rounds is = up.brings_up d level solvable wakes f rounds is

pub settled_both : (d : Flat) (level : ℕ → ℕ) → IsSolvable d level → SettledForBoth d
settled_both d level solvable f g s n is = followed.settled_both d level solvable f g s n is
