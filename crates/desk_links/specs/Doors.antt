-- Links that come through a door.
-- Worked examples: crates/tests_serving/stdin.
use Rattle.std.specs.Prelude.{◌≡◌, ℕ, List, [], ◌∷◌, ◌++◌, Option, None, Some, Result, Ok, Err, ⊤}
use Rattle.desk_io.specs.declared.failed.Failed.{Failed}
use Rattle.desk_links.specs.Links.{Talk, fresh_talk}

-- a link that was given back: what was said on it, and how many of its calls failed
pub record Ended : Type 0 where
  pub talk : Talk
  pub faults : ℕ

-- the ports at which the door was opened, the inputs of the links that were given, and the links that
-- were given back
pub record Visits : Type 0 where
  pub ports : List ℕ
  pub given : List (List ℕ)
  pub ended : List Ended

abbrev pub no_visits : Visits
no_visits = record { ports = []; given = []; ended = [] }

-- one link more is given, with this input
abbrev pub with_given : List ℕ → Visits → Visits
with_given input visits = record visits { given = visits.given ++ input ∷ [] }

-- the door is opened at one port more
abbrev pub with_port : ℕ → Visits → Visits
with_port port visits = record visits { ports = visits.ports ++ port ∷ [] }

-- where a door tells its visits, it goes on telling them, and so they go on
abbrev pub Tells : Option Visits → Option Visits → (Visits → Visits → Type 0) → Type 0
Tells None after P = ⊤
Tells (Some before) None P = ⊥
Tells (Some before) (Some after) P = P before after

abbrev pub IsSameVisits : Visits → Visits → Type 0
IsSameVisits before after = after ≡ before

-- the door is opened at this port and no other, or that failed and nothing changes
abbrev pub Opens : ℕ → Result Unit Failed → Visits → Visits → Type 0
Opens port (Ok done) before after = after ≡ with_port port before
Opens port (Err fault) before after = after ≡ before

-- a link is given of which nothing was read
pub record GivesLink (talk : Option Talk) (faults : ℕ) (before after : Visits) : Type 0 where
  pub input : List ℕ
  pub fresh : talk ≡ Some (fresh_talk input)
  pub unharmed : faults ≡ 0
  pub ports : after.ports ≡ before.ports
  pub given : after.given ≡ before.given ++ input ∷ []
  pub ended : after.ended ≡ before.ended

-- a link is given back
pub record TakesLink (talk : Option Talk) (faults : ℕ) (before after : Visits) : Type 0 where
  pub ports : after.ports ≡ before.ports
  pub given : after.given ≡ before.given
  pub ended :
      (told : Talk) → talk ≡ Some told →
      after.ended ≡ before.ended ++ record { talk = told; faults = faults } ∷ []
