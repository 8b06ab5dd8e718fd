-- The processes of instances of which nothing is told are lawful, and within the limits on a design.
use Rattle.std.specs.Prelude.{ℕ, ◌+◌, ◌<◌, ◌≤◌, ◌==◌, nat_lt, cond, Bool, true, false, List, [], ◌∷◌, ◌++◌, length, map, drop}
use Rattle.std.specs.List.{All, sum_by}
use Rattle.std.proofs.Common.{◌≡◌, ◌∙◌, ap, sym, subst, arith, length-append}
use Rattle.std.proofs.lemmas.Bool.Decides.{nat_tests}
use Rattle.std.proofs.lemmas.List.{length-map}
use Rattle.std.proofs.lemmas.List.Elements.{All-append}
use Rattle.std.proofs.lemmas.List.Sums.{sum_by-append}
use Rattle.rtl_tree.specs.TreeItem.{ModuleItem}
use Rattle.rtl_flat.specs.declared.instance.Delay.{Delay}
use Rattle.rtl_flat.specs.declared.signal.Signal.{Signal}
use Rattle.rtl_flat.specs.Process.{Task}
use Rattle.rtl_flat.specs.WellFormed.{IsProcess, process_statements}
use Rattle.elab_laws.specs.elab_scope.Faults.{Refusal}
use Rattle.elab_laws.specs.elab_body.Steps.{Step, delays_of, faulty}
use Rattle.elab_laws.specs.elab_body.Faultless.{AreFaultless, statement_count}
use Rattle.elab_laws.proofs.Always.{limit}
use Rattle.elab_laws.proofs.Steps.{count_append, faultless_left, faultless_right}
use Rattle.elab_flat.specs.elab_links.Instances.{link_faults}
use Rattle.elab_flat.specs.elab_parts.Delays.{item_delays}
use Rattle.elab_flat.specs.elab_parts.Items.{item_places, item_steps}
use Rattle.elab_flat.specs.elab_parts.Tasks.{item_tasks}
use Rattle.elab_flat.proofs.elab_parts_proofs.Law.{delay_places}
use Rattle.elab_flat.proofs.elab_parts_proofs.Pausing.{no_pauses, pauses_append}
use Rattle.elab_flat.specs.elab_walk.declared.room.Room.{Room}
use Rattle.elab_flat.specs.elab_walk.Links.{link_steps}
use Rattle.elab_flat.specs.elab_walk.Rooms.{link_places, part_steps, parts_steps, process_places, room_after, visit_steps}
use Rattle.elab_flat.specs.elab_walk.Placements.{Placement, placements}
use Rattle.elab_flat.specs.elab_walk.Visits.{Library, Visit, children, holder_of, item_children, scope_in}
use Rattle.elab_flat.specs.Held.{depth_of, held_under}
use Rattle.elab_flat.specs.Works.{Works, group_in, group_tasks, part_tasks, placed, with_part, with_parts, with_placement, with_placements}
use Rattle.elab_lawful.proofs.Groups.{AreLinked, IsHolder, IsLinked, base_of, bases_left, children_left, linked_drop, part_lawful}
use Rattle.elab_lawful.proofs.Nodes.{links_undelayed}
use Rattle.elab_lawful.proofs.Parts.{IsBefore, before_weaker, delays_inside}
use Rattle.elab_lawful.proofs.Rooms.{AreClean, IsClean}
use Rattle.elab_lawful.proofs.Scopes.{IsFit}
use Rattle.elab_lawful.proofs.Tasks.{IsInside, IsLawful, statements_in}
use Rattle.elab_lawful.proofs.Trees.{AreHolders, behind_first, depth_in, held_are, held_visits, visit_of}

-- lawful processes, and delays in them
pub record AreWorks (signals : List Signal) (count : ℕ) (works : Works) : Type 0 where
  pub each : All (λ one. IsProcess signals one.does) works.tasks
  pub inside : All (λ one. one.instance < count) works.tasks
  pub delayed : All (λ one. one.process.0 < length works.tasks) works.delays

-- lawful works, by so many processes, statements and delays more than others
pub record AreMore (signals : List Signal) (count p s d : ℕ) (works new : Works) : Type 0 where
  pub lawful : AreWorks signals count new
  pub tasks : length new.tasks ≤ length works.tasks + p
  pub statements : sum_by (λ one. process_statements one.does) new.tasks ≤ sum_by (λ one. process_statements one.does) works.tasks + s
  pub delays : length new.delays ≤ length works.delays + d

-- ---- an item more

part_delays : (library : Library) (placement : Placement) (process : ℕ) (item : ModuleItem) → length (item_delays placement.visit.place.file process (scope_in placement.visit) item) ≡ length (delays_of (part_steps library placement.visit.way (scope_in placement.visit) item))
part_delays library placement process item =
    let own : List Step = item_steps (scope_in placement.visit) item in
    let wrong : List Refusal = link_faults library.lookups library.files placement.visit.way (scope_in placement.visit) item in
    let same : length (map (λ (delay : Delay). delay.spot.at) (item_delays placement.visit.place.file process (scope_in placement.visit) item)) ≡ length (delays_of (item_steps (scope_in placement.visit) item)) =
    ap length (delay_places placement.visit.place.file process (scope_in placement.visit) item) in
    let links : List Step = link_steps library (scope_in placement.visit) item in
    let joined : length (delays_of (own ++ links ++ faulty wrong)) ≡ length (delays_of own ++ delays_of links ++ delays_of (faulty wrong)) =
    ap length (pauses_append (own ++ links) (faulty wrong) ∙ ap (λ all. all ++ delays_of (faulty wrong)) (pauses_append own links)) in
    let none : length (delays_of (faulty wrong)) ≡ 0 = ap length (no_pauses wrong) in
    let quiet : length (delays_of links) ≡ 0 =
    ap length (links_undelayed library (scope_in placement.visit) item) in
    omega (arith, length-map (item_delays placement.visit.place.file process (scope_in placement.visit) item) (λ (delay : Delay). delay.spot.at), length-append (delays_of own ++ delays_of links) (delays_of (faulty wrong)), length-append (delays_of own) (delays_of links))

part_more : (library : Library) (placement : Placement) (signals : List Signal) (count : ℕ) (kids : List Placement) (rest : List Visit) (item : ModuleItem) (works : Works) → IsHolder placement signals count kids → (length placement.visit.way < 32 → map visit_of kids ≡ item_children library (holder_of placement.visit) item ++ rest) → AreFaultless (part_steps library placement.visit.way (scope_in placement.visit) item) → AreWorks signals count works → AreMore signals count (length (item_places item ++ link_places item)) (statement_count (part_steps library placement.visit.way (scope_in placement.visit) item)) (length (delays_of (part_steps library placement.visit.way (scope_in placement.visit) item))) works (with_part library placement (map base_of kids) works item)
part_more library placement signals count kids rest item works all are h w =
    let p : ℕ = length (item_places item ++ link_places item) in
    let s : ℕ = statement_count (part_steps library placement.visit.way (scope_in placement.visit) item) in
    let more : List Task = part_tasks library placement (map base_of kids) item in
    let own : List Task = item_tasks placement.visit.place.file placement.base placement.number (scope_in placement.visit) item in
    let links : List Task = group_tasks placement (map base_of kids) (group_in library placement item) in
    let part = part_lawful library placement signals count kids rest item all are h in
    let few : length more ≤ p = part.few in
    let small : sum_by statements_in more ≤ s = part.small in
    let delays : List Delay = item_delays placement.visit.place.file (length works.tasks) (scope_in placement.visit) item in
    let end : ℕ = length (works.tasks ++ more) in
    let former : length works.tasks ≤ length (works.tasks ++ more) = omega (arith, length-append works.tasks more) in
    let later : length works.tasks + length own ≤ length (works.tasks ++ more) =
    omega (arith, length-append works.tasks more, length-append own links) in
    record {
      lawful = record {
        each = All-append (IsLawful signals) works.tasks more w.each part.each;
        inside = All-append (IsInside count) works.tasks more w.inside part.inside;
        delayed = All-append (IsBefore end) works.delays delays (before_weaker (length works.tasks) end works.delays former w.delayed) (before_weaker (length works.tasks + length own) end delays later (delays_inside placement.visit.place.file placement.base placement.number (length works.tasks) (scope_in placement.visit) item));
      };
      tasks = omega (arith, length-append works.tasks more);
      statements = omega (arith, sum_by-append statements_in works.tasks more);
      delays = omega (arith, length-append works.delays delays, part_delays library placement (length works.tasks) item);
    }

-- ---- the items of an instance

no_more : (signals : List Signal) (count : ℕ) (works : Works) → AreWorks signals count works → AreMore signals count 0 0 0 works works
no_more signals count works h = record { lawful = h; tasks = omega arith; statements = omega arith; delays = omega arith }

then_more : (signals : List Signal) (count p s d q t e : ℕ) (a b c : Works) → AreMore signals count p s d a b → AreMore signals count q t e b c → AreMore signals count (p + q) (s + t) (d + e) a c
then_more signals count p s d q t e a b c first second =
    let tasks : length b.tasks ≤ length a.tasks + p = first.tasks in
    let statements : sum_by statements_in b.tasks ≤ sum_by statements_in a.tasks + s = first.statements in
    let delays : length b.delays ≤ length a.delays + d = first.delays in
    let tasks' : length c.tasks ≤ length b.tasks + q = second.tasks in
    let statements' : sum_by statements_in c.tasks ≤ sum_by statements_in b.tasks + t = second.statements in
    let delays' : length c.delays ≤ length b.delays + e = second.delays in
    record { lawful = second.lawful; tasks = omega arith; statements = omega arith; delays = omega arith }

more_weaker : (signals : List Signal) (count p s d q t e : ℕ) (a b : Works) → p ≤ q → s ≤ t → d ≤ e → AreMore signals count p s d a b → AreMore signals count q t e a b
more_weaker signals count p s d q t e a b fewer smaller shorter h =
    let tasks : length b.tasks ≤ length a.tasks + p = h.tasks in
    let statements : sum_by statements_in b.tasks ≤ sum_by statements_in a.tasks + s = h.statements in
    let delays : length b.delays ≤ length a.delays + d = h.delays in
    record { lawful = h.lawful; tasks = omega arith; statements = omega arith; delays = omega arith }

parts_more : (library : Library) (placement : Placement) (signals : List Signal) (count : ℕ) (kids : List Placement) (items : List ModuleItem) (works : Works) → IsHolder placement signals count kids → (length placement.visit.way < 32 → map visit_of kids ≡ children library (holder_of placement.visit) items) → AreFaultless (parts_steps library placement.visit.way (scope_in placement.visit) items) → AreWorks signals count works → AreMore signals count (length (process_places items)) (statement_count (parts_steps library placement.visit.way (scope_in placement.visit) items)) (length (delays_of (parts_steps library placement.visit.way (scope_in placement.visit) items))) works (with_parts library placement (map base_of kids) works items)
parts_more library placement signals count kids [] works all are h w = no_more signals count works w
parts_more library placement signals count kids (first ∷ others) works all are h w =
    let own : List Step = part_steps library placement.visit.way (scope_in placement.visit) first in
    let more : List Step = parts_steps library placement.visit.way (scope_in placement.visit) others in
    let left : List Placement = drop (placed (group_in library placement first)) kids in
    let next : Works = with_part library placement (map base_of kids) works first in
    let later : IsHolder placement signals count (drop (placed (group_in library placement first)) kids) =
    record { scope = all.scope; inside = all.inside; linked = linked_drop signals (placed (group_in library placement first)) kids all.linked } in
    let one = part_more library placement signals count kids (children library (holder_of placement.visit) others) first works all are (faultless_left own more h) w in
    let rest = parts_more library placement signals count (drop (placed (group_in library placement first)) kids) others (with_part library placement (map base_of kids) works first) later (λ less. children_left library placement first kids (children library (holder_of placement.visit) others) (are less)) (faultless_right own more h) one.lawful in
    let p : ℕ = length (item_places first ++ link_places first) in
    let q : ℕ = length (process_places others) in
    let bases : List ℕ → Works = λ bases. with_parts library placement bases (with_part library placement (map base_of kids) works first) others in
    let both : AreMore signals count (length (item_places first ++ link_places first) + length (process_places others)) (statement_count own + statement_count more) (length (delays_of own) + length (delays_of more)) works (bases (map base_of (drop (placed (group_in library placement first)) kids))) =
    then_more signals count p (statement_count own) (length (delays_of own)) q (statement_count more) (length (delays_of more)) works next (bases (map base_of left)) one rest in
    subst (λ bs. AreMore signals count (length (process_places (first ∷ others))) (statement_count (own ++ more)) (length (delays_of (own ++ more))) works (with_parts library placement bs (with_part library placement (map base_of kids) works first) others)) (sym (bases_left library placement first kids)) (more_weaker signals count (p + q) (statement_count own + statement_count more) (length (delays_of own) + length (delays_of more)) (length (process_places (first ∷ others))) (statement_count (own ++ more)) (length (delays_of (own ++ more))) works (bases (map base_of left)) (omega (arith, length-append (item_places first ++ link_places first) (process_places others))) (omega (arith, count_append own more)) (omega (arith, ap length (pauses_append own more), length-append (delays_of own) (delays_of more))) both)

-- ---- instances in a row

abbrev pub AreFit : List Signal → List Placement → Type 0
AreFit signals [] = Unit {0}
AreFit signals (placement ∷ placements) = IsFit signals placement × AreFit signals placements

not_top : (n : ℕ) → 1 ≤ n → (n == 0) ≡ false
not_top n h = grind (arith, nat_tests)

fit_linked : (signals : List Signal) (n b : ℕ) (vs : List Visit) → 1 ≤ n → AreFit signals (placements n b vs) → AreLinked signals (placements n b vs)
fit_linked signals n b [] some h = tt
fit_linked signals n b (v ∷ vs) some h =
    (h.0.links (not_top n some), fit_linked signals (n + 1) (behind_first v b) vs (omega arith) h.1)

linked_where : (signals : List Signal) (x y : Bool) (placement : Placement) (held : List Placement) → IsLinked signals placement.base placement.visit → AreLinked signals held → AreLinked signals (cond x (cond y (placement ∷ held) held) [])
linked_where signals true true placement held one all = (one, all)
linked_where signals true false placement held one all = all
linked_where signals false y placement held one all = tt

held_linked : (signals : List Signal) (d : ℕ) (all : List Placement) → AreLinked signals all → AreLinked signals (held_under d all)
held_linked signals d [] h = tt
held_linked signals d (first ∷ others) h =
    linked_where signals (nat_lt d (depth_of first)) (depth_of first == d + 1) first (held_under d others) h.0 (held_linked signals d others h.1)

placement_more : (library : Library) (signals : List Signal) (count n b : ℕ) (v : Visit) (vs : List Visit) (works : Works) → n < count → (depth_in v < 32 → held_visits (depth_in v) vs ≡ children library (holder_of v) v.circuit.items) → AreFit signals (placements n b (v ∷ vs)) → AreFaultless (visit_steps library v) → AreWorks signals count works → AreMore signals count (length (process_places v.circuit.items)) (statement_count (visit_steps library v)) (length (delays_of (visit_steps library v))) works (with_placement library works (record { visit = v; number = n; base = b }) (placements (n + 1) (behind_first v b) vs))
placement_more library signals count n b v vs works inside are fits h w =
    let placement : Placement = record { visit = v; number = n; base = b } in
    let others : List Placement = placements (n + 1) (behind_first v b) vs in
    let kids : List Placement = held_under (depth_in v) (placements (n + 1) (behind_first v b) vs) in
    let linked : AreLinked signals (held_under (depth_in v) (placements (n + 1) (behind_first v b) vs)) =
    held_linked signals (depth_in v) others (fit_linked signals (n + 1) (behind_first v b) vs (omega arith) fits.1) in
    let all : IsHolder (record { visit = v; number = n; base = b }) signals count (held_under (depth_in v) (placements (n + 1) (behind_first v b) vs)) =
    record { scope = fits.0.scope; inside = inside; linked = linked } in
    parts_more library placement signals count kids v.circuit.items works all (λ less. held_are (depth_in v) (n + 1) (behind_first v b) vs ∙ are less) h w

-- works within the limits on a design
pub record AreWithin (signals : List Signal) (count : ℕ) (works : Works) : Type 0 where
  pub lawful : AreWorks signals count works
  pub tasks : length works.tasks ≤ 20000
  pub statements : sum_by (λ one. process_statements one.does) works.tasks ≤ 100000
  pub delays : length works.delays ≤ 100000

-- the same, where so much may still come
pub record HaveRoom (room : Room) (works : Works) : Type 0 where
  pub tasks : length works.tasks + room.processes ≤ 20000
  pub statements : sum_by (λ one. process_statements one.does) works.tasks + room.left.statements ≤ 100000
  pub delays : length works.delays + room.left.delays ≤ 100000

more_room : (library : Library) (signals : List Signal) (count : ℕ) (room : Room) (v : Visit) (works new : Works) → IsClean library room v → HaveRoom room works → AreMore signals count (length (process_places v.circuit.items)) (statement_count (visit_steps library v)) (length (delays_of (visit_steps library v))) works new → HaveRoom (room_after library room v) new
more_room library signals count room v works new clean has more =
    let few = limit room.left.statements room.left.delays room.left.nodes (visit_steps library v) clean.steps in
    let places : length (process_places v.circuit.items) ≤ room.processes = clean.places in
    let statements : statement_count (visit_steps library v) ≤ room.left.statements = few.1 in
    let delays : length (delays_of (visit_steps library v)) ≤ room.left.delays = few.2 in
    let tasks' : length new.tasks ≤ length works.tasks + length (process_places v.circuit.items) = more.tasks in
    let statements' : sum_by statements_in new.tasks ≤ sum_by statements_in works.tasks + statement_count (visit_steps library v) = more.statements in
    let delays' : length new.delays ≤ length works.delays + length (delays_of (visit_steps library v)) = more.delays in
    let tasks'' : length works.tasks + room.processes ≤ 20000 = has.tasks in
    let statements'' : sum_by statements_in works.tasks + room.left.statements ≤ 100000 = has.statements in
    let delays'' : length works.delays + room.left.delays ≤ 100000 = has.delays in
    record { tasks = omega arith; statements = omega arith; delays = omega arith }

pub placements_within : (library : Library) (signals : List Signal) (count n b : ℕ) (room : Room) (vs : List Visit) (works : Works) → n + length vs ≤ count → AreHolders library vs → AreFit signals (placements n b vs) → AreClean library room vs → HaveRoom room works → AreWorks signals count works → AreWithin signals count (with_placements library works (placements n b vs))
placements_within library signals count n b room [] works inside are fits clean has w =
    let tasks : length works.tasks + room.processes ≤ 20000 = has.tasks in
    let statements : sum_by statements_in works.tasks + room.left.statements ≤ 100000 = has.statements in
    let delays : length works.delays + room.left.delays ≤ 100000 = has.delays in
    record { lawful = w; tasks = omega arith; statements = omega arith; delays = omega arith }
placements_within library signals count n b room (v ∷ vs) works inside are fits clean has w =
    let few = limit room.left.statements room.left.delays room.left.nodes (visit_steps library v) clean.0.steps in
    let placement : Placement = record { visit = v; number = n; base = b } in
    let next : Works = with_placement library works placement (placements (n + 1) (behind_first v b) vs) in
    let more = placement_more library signals count n b v vs works (omega arith) are.0.held fits few.0 w in
    let less : n + 1 + length vs ≤ count = omega arith in
    placements_within library signals count (n + 1) (behind_first v b) (room_after library room v) vs next less are.1 fits.1 clean.1 (more_room library signals count room v works next clean.0 has more) more.lawful
