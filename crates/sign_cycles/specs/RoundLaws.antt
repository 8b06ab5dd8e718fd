-- What rounds lead to.
use Rattle.std.specs.Prelude.{◌≡◌, ℕ, List, IsTrue}
use Rattle.event_model.specs.Queue.{State, IsAtRest, is_input, power_up}
use Rattle.rtl_flat.specs.Flats.{Flat}
use Rattle.event_model.specs.Writes.{Values}
use Rattle.net_model.specs.declared.fill.Fill.{Fill}
use Rattle.net_model.specs.Numbers.{AreNumbers, bit}
use Rattle.net_model.specs.Solution.{IsRegisterBit}
use Rattle.net_rest.specs.event_runs.Nets.{given_with}
use Rattle.net_rest.specs.Rest.{AreGiven, AreHeld, IsHeldBit, numbers_of}
use Rattle.sign_cycles.specs.PowerUp.{IsBroughtUp, after_rounds}
use Rattle.sign_cycles.specs.Round.{Follows, IsArrived, IsFollowed, IsRound, IsSettled, Round, after_round}

-- a round from a settled state that comes to rest has arrived
abbrev pub Arrive : Flat → Type 0
Arrive d =
    (f : Fill) (s : State) (n : Values) (round : Round) →
    IsSettled d f s n → IsRound d s round → IsAtRest d (after_round d s round) →
    IsArrived d (given_with n round.step) (after_round d s round)

-- a state that has arrived follows what it is given, where that says what registers and closed latches are
abbrev pub ArrivedFollow : Flat → Type 0
ArrivedFollow d =
    (f : Fill) (held inputs given : Values) (t : State) →
    AreNumbers d held → AreHeld d held given → IsArrived d inputs t → AreGiven d given →
    ((i : ℕ) → IsTrue (is_input d i) → inputs i ≡ given i) →
    ((i k : ℕ) → IsRegisterBit d i k → bit t.value i k ≡ bit given i k) →
    ((i k : ℕ) → IsHeldBit d given i k → bit t.value i k ≡ bit given i k) →
    IsFollowed d f held given t (numbers_of d f t.value)

-- without clocks and latches every list of rounds follows
abbrev pub Agree : Flat → Type 0
Agree d =
    (f : Fill) (s : State) (n : Values) (rounds : List Round) → IsSettled d f s n → Follows d f s n rounds

-- a design that is brought up is settled
abbrev pub BringsUp : Flat → Type 0
BringsUp d =
    (f : Fill) (rounds : List Round) →
    IsBroughtUp d rounds →
    IsSettled d f (after_rounds d (power_up d) rounds) (numbers_of d f (after_rounds d (power_up d) rounds).value)

-- a state that is settled for one fill is settled for the other
abbrev pub SettledForBoth : Flat → Type 0
SettledForBoth d =
    (f g : Fill) (s : State) (n : Values) → IsSettled d f s n → IsSettled d g s (numbers_of d g s.value)
