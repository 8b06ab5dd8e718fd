-- The flat design of instances of which nothing is told is lawful.
use Rattle.std.specs.Prelude.{ℕ, ◌+◌, ◌<◌, ◌≤◌, List, [], ◌∷◌, ◌++◌, length, map}
use Rattle.std.specs.List.{All, flat_map}
use Rattle.std.proofs.Common.{◌≡◌, ◌∙◌, ap, refl, sym, subst, arith, append_assoc, length-append}
use Rattle.std.proofs.lemmas.List.{length-map}
use Rattle.std.proofs.lemmas.List.Elements.{All-append, All-cons, All-nil}
use Rattle.text_ground.specs.declared.dropped.Dropped.{Dropped}
use Rattle.rtl_flat.specs.declared.instance.DroppedRegion.{DroppedRegion}
use Rattle.rtl_flat.specs.declared.instance.Instance.{Instance}
use Rattle.rtl_flat.specs.declared.signal.Signal.{Signal}
use Rattle.rtl_flat.specs.Sizing.{HaveBits}
use Rattle.rtl_flat.specs.WellFormed.{IsSignal}
use Rattle.elab_flat.specs.elab_items.declared.reach.Reach.{Reach}
use Rattle.elab_flat.specs.elab_items.declared.reach.Reach.TheVariants.{Scalar, Bits, Hidden}
use Rattle.elab_flat.specs.elab_items.Rosters.{Listing}
use Rattle.elab_flat.specs.elab_items.Scopes.{declaration_faults, listings_of}
use Rattle.elab_flat.specs.elab_items.Signals.{Home, signal_in, width_of}
use Rattle.elab_flat.proofs.elab_items_proofs.Lawful.{IsLawful as IsReachLawful}
use Rattle.elab_flat.proofs.elab_items_proofs.Places.{AreWide, Stands}
use Rattle.elab_flat.specs.elab_walk.declared.room.Room.{Room}
use Rattle.elab_flat.specs.elab_walk.Rooms.{room_after, whole_room}
use Rattle.elab_flat.specs.elab_walk.Placements.{Placement, home_of, instance_of, region, regions_at, signals_at, placements}
use Rattle.elab_flat.specs.elab_walk.Regions.{dropped_in}
use Rattle.elab_flat.specs.elab_walk.Visits.{Library, Visit, all_visits, visits}
use Rattle.elab_flat.specs.Flats.{flat_of}
use Rattle.elab_flat.specs.Works.{no_works, with_placements}
use Rattle.elab_lawful.specs.Laws.{IsLawful, LawfulLaw}
use Rattle.elab_laws.proofs.Widths.{signals_wide}
use Rattle.elab_lawful.proofs.Claimed.{stands}
use Rattle.elab_lawful.proofs.Rooms.{AreClean, clean, instances_few, signal_count, signals_few}
use Rattle.elab_lawful.proofs.Scopes.{fit}
use Rattle.elab_lawful.proofs.Trees.{behind_first, depth_in, hierarchy, holders}
use Rattle.elab_lawful.proofs.Works.{AreFit, AreWithin, AreWorks, HaveRoom, placements_within}

-- ---- signals

reach_wide : (reach : Reach) → IsReachLawful 128 reach → (1 ≤ width_of reach) × (width_of reach ≤ 128)
reach_wide Scalar own = (omega arith, omega arith)
reach_wide (Bits width low) own = own
reach_wide Hidden own = absurd own

abbrev IsSignalOf : ℕ → Signal → Type 0
IsSignalOf count s = (1 ≤ s.width) × (s.width ≤ 128) × (s.instance < count)

listed_signals : (count : ℕ) (home : Home) (listings : List Listing) → home.instance < count → AreWide listings → All (IsSignalOf count) (map (signal_in home) listings)
listed_signals count home [] inside h = All-nil (IsSignalOf count)
listed_signals count home (one ∷ others) inside h =
    let wide = reach_wide one.line.reach h.0 in
    All-cons (IsSignalOf count) (signal_in home one) (map (signal_in home) others) (wide.0, wide.1, inside) (listed_signals count home others inside h.1)

each_signal : (library : Library) (room : Room) (count n b : ℕ) (vs : List Visit) → n + length vs ≤ count → AreClean library room vs → All (IsSignalOf count) (flat_map signals_at (placements n b vs))
each_signal library room count n b [] inside h = All-nil (IsSignalOf count)
each_signal library room count n b (v ∷ vs) inside h =
    let placement : Placement = record { visit = v; number = n; base = b } in
    let own : n < count = omega arith in
    let less : n + 1 + length vs ≤ count = omega arith in
    let all : Stands _ = stands v.settings room.base v.circuit h.0.declared in
    All-append (IsSignalOf count) (signals_at placement) (flat_map signals_at (placements (n + 1) (behind_first v b) vs)) (listed_signals count (home_of placement) (listings_of v.settings v.circuit) own all.wide) (each_signal library (room_after library room v) count (n + 1) (behind_first v b) vs less h.1)

-- ---- regions without a meaning

abbrev IsRegionOf : ℕ → DroppedRegion → Type 0
IsRegionOf count one = one.instance < count

own_regions : (count : ℕ) (placement : Placement) (all : List Dropped) → placement.number < count → All (IsRegionOf count) (map (region placement) all)
own_regions count placement [] inside = All-nil (IsRegionOf count)
own_regions count placement (one ∷ others) inside =
    All-cons (IsRegionOf count) (region placement one) (map (region placement) others) inside (own_regions count placement others inside)

each_region : (count n b : ℕ) (vs : List Visit) → n + length vs ≤ count → All (IsRegionOf count) (flat_map regions_at (placements n b vs))
each_region count n b [] inside = All-nil (IsRegionOf count)
each_region count n b (v ∷ vs) inside =
    let placement : Placement = record { visit = v; number = n; base = b } in
    let own : n < count = omega arith in
    let less : n + 1 + length vs ≤ count = omega arith in
    All-append (IsRegionOf count) (regions_at placement) (flat_map regions_at (placements (n + 1) (behind_first v b) vs)) (own_regions count placement (dropped_in v.circuit) own) (each_region count (n + 1) (behind_first v b) vs less)

-- ---- what the names of each instance stand for

fits : (library : Library) (room : Room) (signals before : List Signal) (n b : ℕ) (vs : List Visit) → room.base ≡ b → b ≡ length before → signals ≡ before ++ flat_map signals_at (placements n b vs) → HaveBits signals → AreClean library room vs → AreFit signals (placements n b vs)
fits library room signals before n b [] base at is bits h = tt
fits library room signals before n b (v ∷ vs) base at is bits h =
    let placement : Placement = record { visit = v; number = n; base = b } in
    let own : List Signal = signals_at (record { visit = v; number = n; base = b }) in
    let more : List Signal = flat_map signals_at (placements (n + 1) (behind_first v b) vs) in
    let count : length (signals_at (record { visit = v; number = n; base = b })) ≡ length (listings_of v.settings v.circuit) =
    signal_count placement in
    let end : behind_first v b ≡ length (before ++ signals_at (record { visit = v; number = n; base = b })) =
    omega (arith, length-append before (signals_at (record { visit = v; number = n; base = b }))) in (
      fit signals placement before more is at bits (subst (λ b. declaration_faults v.settings b v.circuit ≡ []) base h.0.declared),
      fits library (room_after library room v) signals (before ++ own) (n + 1) (behind_first v b) vs (ap (λ k. k + length (listings_of v.settings v.circuit)) base) end (is ∙ sym (append_assoc before own more)) bits h.1,
    )

-- ---- the whole

placement_count : (n b : ℕ) (vs : List Visit) → length (placements n b vs) ≡ length vs
placement_count n b [] = refl
placement_count n b (v ∷ vs) =
    let rest : length (placements (n + 1) (behind_first v b) vs) ≡ length vs = placement_count (n + 1) (behind_first v b) vs in
    omega arith

instance_count : (vs : List Visit) → length (map instance_of (placements 0 0 vs)) ≡ length vs
instance_count vs = length-map (placements 0 0 vs) instance_of ∙ placement_count 0 0 vs

no_works_are : (signals : List Signal) (count : ℕ) → AreWorks signals count no_works
no_works_are signals count = record { each = λ k d less. absurd (omega arith); inside = λ k d less. absurd (omega arith); delayed = λ k d less. absurd (omega arith) }

whole : (library : Library) (v : Visit) → depth_in v ≡ 1 → AreClean library whole_room (visits library 32 v) → IsLawful (flat_of library (placements 0 0 (visits library 32 v)))
whole library v at h =
    let vs : List Visit = visits library 32 v in
    let all : List Placement = placements 0 0 (visits library 32 v) in
    let instances : List Instance = map instance_of all in
    let signals : List Signal = flat_map signals_at all in
    let count : ℕ = length instances in
    let same : length instances ≡ length (visits library 32 v) = instance_count vs in
    let inside : 0 + length (visits library 32 v) ≤ length instances = omega arith in
    let each : All (IsSignal instances) signals = each_signal library whole_room count 0 0 vs inside h in
    let bits : HaveBits signals = (signals_wide instances signals each).0 in
    let ready : AreFit signals all = fits library whole_room signals [] 0 0 vs refl refl refl bits h in
    let room : HaveRoom whole_room no_works = record { tasks = omega arith; statements = omega arith; delays = omega arith } in
    let within : AreWithin signals count (with_placements library no_works all) =
    placements_within library signals count 0 0 whole_room vs no_works inside (holders library v at) ready h room (no_works_are signals count) in
    let few : 0 + length (visits library 32 v) ≤ 20000 = instances_few library whole_room 0 vs refl (omega arith) h in
    let short : 0 + length signals ≤ 20000 = signals_few library whole_room 0 0 vs refl (omega arith) h in
    record {
      hierarchy = hierarchy library v at;
      each_signal = each;
      each_process = within.lawful.each;
      in_instances = within.lawful.inside;
      each_dropped = each_region count 0 0 vs inside;
      each_delay = within.lawful.delayed;
      signal_limit = omega arith;
      process_limit = within.tasks;
      instance_limit = omega arith;
      statement_limit = within.statements;
      delay_limit = within.delays;
    }

pub lawful : LawfulLaw
unfolding all_visits
lawful library v at h = whole library v at (clean library whole_room (visits library 32 v) h)
