-- Where nothing is told of instances, each has room in the design.
use Rattle.std.specs.Prelude.{ℕ, ◌+◌, ◌-◌, ◌<◌, ◌≤◌, nat_lt, nat_le, ◌&&◌, Bool, true, false, List, [], ◌∷◌, ◌++◌, length, Option, None, Some}
use Rattle.std.specs.List.{flat_map, slice_get}
use Rattle.std.specs.Option.{option_map}
use Rattle.std.proofs.Common.{◌≡◌, ap, refl, arith, length-append}
use Rattle.std.proofs.lemmas.Bool.Decides.{nat_tests}
use Rattle.std.proofs.lemmas.List.{length-map}
use Rattle.elab_laws.specs.elab_scope.Faults.{Answer, Refusal, least, located}
use Rattle.elab_laws.proofs.elab_scope_proofs.Fitting.{no_cons}
use Rattle.elab_laws.proofs.elab_scope_proofs.Sound.{nil_left, nil_right}
use Rattle.elab_laws.specs.elab_body.Steps.{checked}
use Rattle.elab_flat.specs.elab_items.Scopes.{declaration_faults, listings_of}
use Rattle.elab_flat.specs.elab_items.Signals.{signal_in}
use Rattle.elab_flat.proofs.elab_items_proofs.Law.{few_enough}
use Rattle.elab_flat.specs.elab_walk.declared.room.Room.{Room}
use Rattle.elab_flat.specs.elab_walk.Refusals.{own_faults, refusal, told_first, told_of, told_where}
use Rattle.elab_flat.specs.elab_walk.Rooms.{has_room, extra_count, process_faults, process_places, room_after, surplus, visit_steps}
use Rattle.elab_flat.specs.elab_walk.Placements.{Placement, home_of, signals_at, placements}
use Rattle.elab_flat.specs.elab_walk.Visits.{Library, Visit}
use Rattle.elab_flat.proofs.elab_walk_proofs.Leaving.{nothing_told}
use Rattle.elab_flat.proofs.elab_walk_proofs.Seeking.{short}
use Rattle.elab_lawful.proofs.Trees.{behind_first}

-- an instance of which nothing is told
pub record IsClean (library : Library) (room : Room) (v : Visit) : Type 0 where
  pub number : room.number < 20000
  pub declared : declaration_faults v.settings room.base v.circuit ≡ []
  pub steps : checked room.left.statements room.left.delays room.left.nodes (visit_steps library v) ≡ []
  pub places : length (process_places v.circuit.items) ≤ room.processes

abbrev pub AreClean : Library → Room → List Visit → Type 0
AreClean library room [] = Unit {0}
AreClean library room (v ∷ vs) = IsClean library room v × AreClean library (room_after library room v) vs

none_first : (a b : Option Answer) → told_first a b ≡ None → (a ≡ None) × (b ≡ None)
none_first None b h = (refl, h)
none_first (Some x) b h = absurd cc

none_located : (file : ℕ) (o : Option Refusal) → option_map (located file) o ≡ None → o ≡ None
none_located file None h = refl
none_located file (Some x) h = absurd cc

none_where : (b : Bool) (v : Visit) (faults : List Refusal) → told_where b v faults ≡ None → (b ≡ true) × (faults ≡ [])
none_where false v faults h = absurd cc
none_where true v faults h = (refl, nothing_told faults (none_located v.place.file (least faults) h))

no_surplus : (place : Option ℕ) → surplus place ≡ [] → place ≡ None
no_surplus None h = refl
no_surplus (Some at) h = absurd (no_cons _ _ h)

first_holds : (a b : Bool) → a && b ≡ true → a ≡ true
first_holds true b h = refl
first_holds false b h = absurd cc

clean_one : (library : Library) (room : Room) (v : Visit) → told_of library room v ≡ None → IsClean library room v
clean_one library room v h =
    let both = none_where (has_room room v.circuit) v (own_faults library room v) h in
    let few : nat_lt room.number 20000 ≡ true = first_holds (nat_lt room.number 20000) (nat_le (extra_count v.circuit) room.extras) both.0 in
    let declared : List Refusal = declaration_faults v.settings room.base v.circuit in
    let found : List Refusal = checked room.left.statements room.left.delays room.left.nodes (visit_steps library v) in
    let over : List Refusal = process_faults room.processes (process_places v.circuit.items) in
    let two : declared ++ found ≡ [] = nil_left (declared ++ found) over both.1 in
    record {
      number = grind (arith, nat_tests);
      declared = nil_left declared found two;
      steps = nil_right declared found two;
      places = short room.processes (process_places v.circuit.items) (no_surplus (slice_get (process_places v.circuit.items) room.processes) (nil_right (declared ++ found) over both.1));
    }

pub clean : (library : Library) (room : Room) (vs : List Visit) → refusal library room vs ≡ None → AreClean library room vs
clean library room [] h = tt
clean library room (v ∷ vs) h =
    let both = none_first (told_of library room v) (refusal library (room_after library room v) vs) h in
    (clean_one library room v both.0, clean library (room_after library room v) vs both.1)

-- ---- how many instances and signals there are

pub instances_few : (library : Library) (room : Room) (n : ℕ) (vs : List Visit) → room.number ≡ n → n ≤ 20000 → AreClean library room vs → n + length vs ≤ 20000
instances_few library room n [] is less h = omega arith
instances_few library room n (v ∷ vs) is less h =
    let own : room.number < 20000 = h.0.number in
    let rest : n + 1 + length vs ≤ 20000 =
    instances_few library (room_after library room v) (n + 1) vs (ap (λ k. k + 1) is) (omega arith) h.1 in
    omega arith

pub signal_count : (placement : Placement) → length (signals_at placement) ≡ length (listings_of placement.visit.settings placement.visit.circuit)
signal_count placement = length-map (listings_of placement.visit.settings placement.visit.circuit) (signal_in (home_of placement))

pub signals_few : (library : Library) (room : Room) (n b : ℕ) (vs : List Visit) → room.base ≡ b → b ≤ 20000 → AreClean library room vs → b + length (flat_map signals_at (placements n b vs)) ≤ 20000
signals_few library room n b [] is less h = omega arith
signals_few library room n b (v ∷ vs) is less h =
    let placement : Placement = record { visit = v; number = n; base = b } in
    let few : length (listings_of v.settings v.circuit) ≤ 20000 - room.base =
    few_enough v.settings room.base v.circuit h.0.declared in
    let own : length (signals_at (record { visit = v; number = n; base = b })) ≡ length (listings_of v.settings v.circuit) = signal_count placement in
    let end : behind_first v b ≤ 20000 = omega arith in
    let rest : behind_first v b + length (flat_map signals_at (placements (n + 1) (behind_first v b) vs)) ≤ 20000 =
    signals_few library (room_after library room v) (n + 1) (behind_first v b) vs (ap (λ k. k + length (listings_of v.settings v.circuit)) is) end h.1 in
    omega (arith, length-append (signals_at (record { visit = v; number = n; base = b })) (flat_map signals_at (placements (n + 1) (behind_first v b) vs)))
