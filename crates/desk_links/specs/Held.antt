-- It serves inner contracts and proofs; no answer of the program is stated by it.
-- What clocks, links and doors hold.
use Rattle.std.specs.Prelude.{ℕ, ℤ, List, [], ◌∷◌, ◌++◌, drop, map, take}
use Rattle.desk_links.specs.Doors.{Ended, Visits}
use Rattle.desk_links.specs.Links.{Talk}
use Rattle.desk_links.specs.declared.clock.memory.MemoryClock.{MemoryClock}
use Rattle.desk_links.specs.declared.clock.system.SystemClock.{SystemClock}
use Rattle.desk_links.specs.declared.door.memory.Chain.{Chain}
use Rattle.desk_links.specs.declared.door.memory.Chain.TheVariants.{End, More'}
use Rattle.desk_links.specs.declared.door.memory.MemoryDoor.{MemoryDoor}
use Rattle.desk_links.specs.declared.door.tcp.TcpDoor.{TcpDoor}
use Rattle.desk_links.specs.declared.link.memory.MemoryLink.{MemoryLink}
use Rattle.desk_links.specs.declared.link.memory.Past.{Past}
use Rattle.desk_links.specs.declared.link.tcp.TcpLink.{TcpLink}

-- the days that are left
abbrev pub clock_days : MemoryClock → List ℤ
clock_days clock = drop clock.at clock.days.items

abbrev pub clock_faults : MemoryClock → ℕ
clock_faults clock = clock.faults

abbrev pub system_faults : {R : Type 0} → SystemClock R → ℕ
system_faults clock = clock.faults

-- what was said on a link
abbrev pub talk_of : Past → Talk
talk_of past = record {
  read = take past.at past.input.items;
  left = drop past.at past.input.items;
  written = past.written.items;
}

abbrev pub link_talk : MemoryLink → Talk
link_talk link = talk_of link.past

abbrev pub link_faults : MemoryLink → ℕ
link_faults link = link.past.faults

abbrev pub tcp_link_faults : {C S : Type 0} → TcpLink C S → ℕ
tcp_link_faults link = link.faults

-- the links of a chain, the first that was given back first
abbrev pub chain_links : Chain → List Ended
chain_links End = []
chain_links (More' past _ older) =
    chain_links older ++ record { talk = talk_of past; faults = past.faults } ∷ []

abbrev pub door_visits : MemoryDoor → Visits
door_visits door = record {
  ports = door.ports.items;
  given = map (λ input. input.items) door.given.items;
  ended = chain_links door.ended;
}

abbrev pub door_faults : MemoryDoor → ℕ
door_faults door = door.faults

abbrev pub tcp_faults : {R S L : Type 0} → TcpDoor R S L → ℕ
tcp_faults door = door.faults
