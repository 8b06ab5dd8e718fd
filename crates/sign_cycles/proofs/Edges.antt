-- Steps of one clock or reset: at rest each register has what its process gives to it, and the state shows numbers that
-- follow.
use Rattle.std.proofs.Common.{◌≡◌, ◌∙◌, ◌<◌, ◌==◌, ℕ, zero, suc, Bool, true, false, cond, if◌then◌else◌, List, [], ◌∷◌, length, get_or, map, Option, None, Some, refl, sym, ap, subst, inl, inr, arith}
use Rattle.std.specs.Prelude.{unwrap_or}
use Rattle.std.specs.List.{All, list_any, slice_get}
use Rattle.std.proofs.lemmas.Bool.{and_parts, eqb-true, false≢true, false_from_ne_true, or_left, or_right}
use Rattle.std.proofs.lemmas.List.Elements.{All-cons, All-head, All-nil, All-tail}
use Rattle.std.proofs.lemmas.List.Sorted.{All-permutation, list_any-IsPermutation}
use Rattle.rtl_bits.specs.declared.Bit.{Bit}
use Rattle.rtl_bits.specs.declared.Bit.TheVariants.{X}
use Rattle.rtl_bits.specs.Bit.{is_unknown}
use Rattle.rtl_bits.specs.Bits.{has_unknown}
use Rattle.rtl_flat.specs.Flows.{body_flow, may_select}
use Rattle.rtl_flat.specs.Paths.{IsPath, MayWrite, ReadsOutside}
use Rattle.rtl_flat.specs.PathSets.{items_list}
use Rattle.rtl_flat.specs.declared.signal.Kind.TheVariants.{Var}
use Rattle.rtl_flat.specs.Signs.{Has}
use Rattle.rtl_flat.specs.WellFormed.{has_edge}
use Rattle.rtl_flat.specs.Process.{Watched, Actions, Edge'}
use Rattle.event_model.specs.Bodies.{Made, Now, Later, body_made}
use Rattle.event_model.specs.Queue.{State, IsAtRest, Reaches, doing_at, happens, offer}
use Rattle.rtl_flat.specs.Flats.{Flat, widths}
use Rattle.event_model.specs.Traces.{FollowsPath, Same, covers, makes_now}
use Rattle.event_model.specs.Writes.{Values, Write, driven}
use Rattle.event_edges.specs.event_laws.Steady.{HaveWidths}
use Rattle.event_edges.specs.event_laws.Laws.{RunAlike, after_body}
use Rattle.event_edges.proofs.event_laws_proofs.Laws.{depends, made_out, may_now, writes_variables}
use Rattle.net_model.specs.declared.fill.Fill.{Fill}
use Rattle.net_model.specs.Block.{block_bit}
use Rattle.net_model.specs.Control.{InClockCone, IsClockOrReset, IsReached, Itself, Through, waits_for}
use Rattle.net_model.specs.Cycle.{Chain, Guard, IsChain, IsCycle, Setting, Turn, clocked_bit, item_bit, register_bit, reset_bit, strongest}
use Rattle.net_model.specs.Lawful.{TurnsControl}
use Rattle.net_model.specs.Numbers.{AreNumbers, bit}
use Rattle.net_model.specs.Solution.{IsLasting, IsRegisterBit}
use Rattle.event_edges.specs.event_runs.Effects.{laters}
use Rattle.event_edges.specs.event_runs.Nets.{given_with}
use Rattle.event_edges.proofs.event_runs_proofs.Nets.{resolved_from}
use Rattle.net_rest.specs.net_laws.Laws.{last_written, late_writes}
use Rattle.net_rest.proofs.net_laws_proofs.Known.{known_at}
use Rattle.net_rest.proofs.net_laws_proofs.Late.{last_append}
use Rattle.net_rest.proofs.net_laws_proofs.Laws.{late_is, tame_depends, whole_path, block_known}
use Rattle.net_rest.specs.Rest.{AreGiven, AreHeld, IsHeldBit, numbers_of}
use Rattle.net_rest.proofs.Levels.{read_lasts}
use Rattle.net_rest.proofs.Numbers.{are_numbers, has_source, number_same, past_ends}
use Rattle.net_rest.proofs.Rest.{held_as, latch_inside, register_inside}
use Rattle.sign_cycles.specs.Round.{IsArrived, IsFollowed, IsSettled}
use Rattle.sign_cycles.proofs.Followed as followed
use Rattle.sign_cycles.proofs.Settled.{arrive}
use Rattle.event_edges.specs.Laws.{HaveTaken}
use Rattle.event_edges.specs.Registers.{update_bit, updates_bit}
use Rattle.event_edges.specs.Synchronous.{IsItem, IsSynchronous}
use Rattle.event_edges.specs.Turned.{IsEdgeStart, IsTurnedAt, fires, found_at, item_fires, set_to}
use Rattle.event_edges.proofs.Cone.{item_fixed, item_in_cone, item_reached, item_whole, item_width, listed_item}
use Rattle.event_edges.proofs.Hearing.{any_same, find}
use Rattle.event_edges.proofs.Laws.{at_edge, cone_turns}
use Rattle.event_edges.proofs.Ports.{one_bit}
use Rattle.event_edges.proofs.Turning.{whole_selected}
use Rattle.sign_cycles.specs.Agree.{AreReset, IsNext, IsSettledKnown}
use Rattle.sign_cycles.specs.Formed.{IsCleanClocked, IsConstant}
use Rattle.sign_cycles.specs.Laws.{IsFollowed as IsStepFollowed}
use Rattle.sign_cycles.proofs.Chains.{IsKnownItem, IsUsable, branches_usable, chain_bit, constant_bit, fires_at, part_usable, strongest_is, strongest_same, takes_bit}
use Rattle.sign_cycles.proofs.DataSteps.{given_pairs, pairs, settled_round}
use Rattle.sign_cycles.proofs.Held.{held_turn}

-- ---- the last of late writes

module _ (i k : ℕ) (b : Bit) where
  one_last : (c : Bool) (old : Option Bit) (x : Bit) → (if c then x else unwrap_or old b) ≡ unwrap_or (if c then Some x else old) b
  one_last true old x = refl
  one_last false old x = refl

  update_last : (us : List Write) (old : Option Bit) → update_bit i k us (unwrap_or old b) ≡ unwrap_or (last_written i k old us) b
  update_last [] old = refl
  update_last (w ∷ us) old =
      ap (update_bit i k us) (one_last (covers i k w) old _) ∙ update_last us _

  pub updates_last : (ms : List Made) (old : Option Bit) → updates_bit i k (laters ms) (unwrap_or old b) ≡ unwrap_or (last_written i k old (late_writes ms)) b
  updates_last [] old = refl
  updates_last (Now w ∷ ms) old = updates_last ms old
  updates_last (Later us ∷ ms) old =
      ap (updates_bit i k (laters ms)) (update_last us old)
      ∙ updates_last ms (last_written i k old us)
      ∙ ap (λ (o : Option Bit). unwrap_or o b) (sym (last_append i k old us (late_writes ms)))

-- ---- lists of items

module _ (P : Watched → Type 0) where
  all_items : (events : List Watched) → ((place : ℕ) (item : Watched) → slice_get events place ≡ Some item → P item) → All P events
  all_items [] each = All-nil P
  all_items (item ∷ events) each =
      All-cons P item events (each 0 item refl) (all_items events (λ place one there. each (suc place) one there))

  of_guards : (resets : List Guard) → All P (map (λ (guard : Guard). guard.item) resets) → All (λ (guard : Guard). P guard.item) resets
  of_guards [] all = All-nil (λ (guard : Guard). P guard.item)
  of_guards (guard ∷ resets) all =
      All-cons (λ (one : Guard). P one.item) guard resets (All-head P guard.item (map (λ (one : Guard). one.item) resets) all)
      (of_guards resets (All-tail P guard.item (map (λ (one : Guard). one.item) resets) all))

-- a bit of an item is listed
items_at : (ws : ℕ → ℕ) (events : List Watched) (place : ℕ) (item : Watched) (i k : ℕ) → slice_get events place ≡ Some item → may_select ws item.signal item.selection i k ≡ true → items_list ws events i k ≡ true
items_at ws [] place item i k there h = absurd (cc)
items_at ws (first ∷ events) zero item i k there h =
    let same : first ≡ item = cc in
    or_left (may_select ws first.signal first.selection i k) (items_list ws events i k) (ap (λ (x : Watched). may_select ws x.signal x.selection i k) same ∙ h)
items_at ws (first ∷ events) (suc place) item i k there h =
    or_right (may_select ws first.signal first.selection i k) (items_list ws events i k) (items_at ws events place item i k there h)

-- bits of lists that a test chooses
picked_bit : (b : Bool) (x y x' y' : List Bit) (k : ℕ) → (b ≡ true → get_or x k X ≡ get_or x' k X) → (b ≡ false → get_or y k X ≡ get_or y' k X) → get_or (if b then x else y) k X ≡ get_or (if b then x' else y') k X
picked_bit true x y x' y' k left right = left refl
picked_bit false x y x' y' k left right = right refl

picked_second : (b : Bool) (x y : List Bit) (k : ℕ) → (b ≡ true → ⊥) → get_or (if b then x else y) k X ≡ get_or y k X
picked_second true x y k never = absurd (never refl)
picked_second false x y k never = refl

picked_first : (b : Bool) (x y : List Bit) (k : ℕ) → (b ≡ false → get_or x k X ≡ get_or y k X) → get_or (if b then x else y) k X ≡ get_or x k X
picked_first true x y k same = refl
picked_first false x y k same = sym (same refl)

picked_wide : (b : Bool) (x y : List Bit) (n : ℕ) → length x ≡ n → length y ≡ n → length (if b then x else y) ≡ n
picked_wide true x y n left right = left
picked_wide false x y n left right = right

picked_known : (b : Bool) (x y : List Bit) → has_unknown x ≡ false → has_unknown y ≡ false → has_unknown (if b then x else y) ≡ false
picked_known true x y left right = left
picked_known false x y left right = right

-- ---- clean designs

module _ (d : Flat) (chains : ℕ → Chain) (level : ℕ → ℕ) (clean : IsCleanClocked d chains level) where
  module _ (p : ℕ) (events : List Watched) (body : Actions) (is : doing_at d p ≡ Some (Edge' events body)) where
    pub usable : IsUsable d body
    usable =
        let formed = clean.formed p events body is in
        record { lawful = (clean.solvable.lawful p (Edge' events body) is).2; tame = formed.tame; split = formed.split }

    pub item_lasts : (item : Watched) → IsItem d p events body item → IsLasting d item.signal
    item_lasts item here temporary =
        item_fixed d clean.synchronous p events body item here temporary.of_process.variable

    -- a variable that the body writes is none of its items
    unlisted : (i k : ℕ) → MayWrite (body_flow (widths d) body) i k → items_list (widths d) events i 0 ≡ true → ⊥
    unlisted i k may listed =
        let one = listed_item (widths d) events i 0 listed in
        item_fixed d clean.synchronous p events body one.item (record { does = is; place = one.place; there = one.there })
        (subst (λ j. Has (λ s. s.kind ≡ Var) d.signals j) one.same (writes_variables d body i k usable.lawful may))

    -- what holds of the items of the body holds of its clock and of those of its resets
    all_of_chain : (P : Watched → Type 0) → ((item : Watched) → IsItem d p events body item → P item) → All P ((chains p).clock ∷ map (λ (guard : Guard). guard.item) (chains p).resets)
    all_of_chain P each =
        All-permutation P events ((chains p).clock ∷ map (λ (guard : Guard). guard.item) (chains p).resets) (clean.formed p events body is).chained.items
        (all_items P events (λ place item there. each item (record { does = is; place = place; there = there })))

    pub of_clock : (P : Watched → Type 0) → ((item : Watched) → IsItem d p events body item → P item) → P (chains p).clock
    of_clock P each =
        All-head P (chains p).clock (map (λ (guard : Guard). guard.item) (chains p).resets) (all_of_chain P each)

    pub of_items : (P : Watched → Type 0) → ((item : Watched) → IsItem d p events body item → P item) → All (λ (guard : Guard). P guard.item) (chains p).resets
    of_items P each =
        of_guards P (chains p).resets
        (All-tail P (chains p).clock (map (λ (guard : Guard). guard.item) (chains p).resets) (all_of_chain P each))

    -- the strongest reset gives its constant from any numbers
    pub strongest_constant :
        (f : Fill) (v n m : Values) → AreNumbers d n → AreNumbers d m → (guard : Guard) → strongest v (chains p).resets ≡ Some guard →
        (i k : ℕ) → MayWrite (body_flow (widths d) body) i k → IsLasting d i → block_bit (widths d) f n guard.branch i k ≡ block_bit (widths d) f m guard.branch i k
    strongest_constant f v n m are are' guard found i k may lasts =
        let formed = clean.formed p events body is in
        constant_bit d f n m are are' body guard.branch
        (strongest_is d (λ (one : Guard). IsUsable d one.branch) v (chains p).resets (branches_usable d (chains p).resets (chains p).part body formed.chained.chained usable) guard found)
        (strongest_is d (λ (one : Guard). IsConstant d body one.branch) v (chains p).resets formed.constants guard found) i k may lasts

  -- registers that keep their values while resets keep theirs stay reset
  pub stay_reset :
      (f : Fill) (n m : Values) → AreNumbers d n → AreNumbers d m →
      ((p : ℕ) (events : List Watched) (body : Actions) (item : Watched) → IsItem d p events body item → item_bit m item ≡ item_bit n item) →
      ((i k : ℕ) → IsRegisterBit d i k → bit m i k ≡ bit n i k) → AreReset d chains f n → AreReset d chains f m
  stay_reset f n m are are' items kept reset p events body is guard found i k may lasts =
      let same = strongest_same d m n (chains p).resets (of_items p events body is (λ (item : Watched). item_bit m item ≡ item_bit n item) (items p events body)) in
      let before = sym same ∙ found in
      kept i k (record { process = p; events = events; body = body; does = is; may = may; lasting = lasts })
      ∙ reset p events body is guard before i k may lasts
      ∙ strongest_constant p events body is f n n m are are' guard before i k may lasts

-- a clock or a reset has one bit
start_bit : (d : Flat) (c i : ℕ) → IsReached d c i → widths d i ≡ 1 → widths d c ≡ 1
start_bit d c _ Itself one = one
start_bit d c _ (Through k j reached passed) one = start_bit d c k reached passed.one_bit

pub clock_bit : (d : Flat) → IsSynchronous d → (c : ℕ) → IsClockOrReset d c → widths d c ≡ 1
clock_bit d sync c is =
    let edges = is.edges in
    let one = find (waits_for is.signal) edges.events edges.waits in
    let item : IsItem d edges.process edges.events edges.body one.item = record { does = edges.does; place = one.place; there = one.there } in
    start_bit d c is.signal is.reached
    (ap (widths d) (sym (eqb-true one.item.signal is.signal (and_parts (one.item.signal == is.signal) (has_edge one.item.edge) one.passes).0))
    ∙ item_width d sync edges.process edges.events edges.body one.item item)

-- a settled state whose registers keep their resets
pub settled_known : (d : Flat) (chains : ℕ → Chain) (f : Fill) (t : State) (next : Values) → IsSettled d f t next → AreReset d chains f next → IsSettledKnown d chains f t next
settled_known d chains f t next settled reset =
    record {
      rest = settled.rest;
      wide = settled.wide;
      shows = λ i k inside lasts.
          let numbers = settled.solution.numbers in
          let size = numbers.wide i in
          record {
            known = ap is_unknown (settled.shows i k lasts) ∙ known_at (next i) k (numbers.known i) (omega (arith, size, inside));
            same = settled.shows i k lasts;
          };
      drivers = settled.drivers;
      solution = settled.solution;
      resets = reset;
    }

-- ---- a step of one clock or reset

-- where it has come to rest: inputs are as given, what is reached has turned, registers have taken what they take, and closed
-- latches hold. It is the same with data beside it
pub record IsEdgeEnd (d : Flat) (given : Values) (c : ℕ) (b : Bit) (s t : State) : Type 0 where
  pub arrived : IsArrived d given t
  pub turned : IsTurnedAt d c b s t
  pub taken : HaveTaken d s t
  pub held : (i k : ℕ) → IsHeldBit d given i k → Same t.value s.value i k

module _ (d : Flat) (chains : ℕ → Chain) (level : ℕ → ℕ) (clean : IsCleanClocked d chains level) (f : Fill) (s : State) (n : Values) (known : IsSettledKnown d chains f s n) (setting : Setting) (its_clock : IsClockOrReset d setting.input) (turns : TurnsControl d n setting) where
  abbrev pub c : ℕ
  c = setting.input

  abbrev pub b : Bit
  b = get_or setting.number 0 X

  pub settled : IsSettled d f s n
  settled = settled_round d chains f s n known

  pub before : IsArrived d n s
  before =
      arrive d level clean.solvable f s n settled (record { step = []; events = [] }) (record { settings = tt; can = tt }) settled.rest

  one_wide : widths d c ≡ 1
  one_wide = clock_bit d clean.synchronous c its_clock

  pub number_is : setting.number ≡ b ∷ []
  number_is = one_bit setting.number b (turns.can_be.wide ∙ one_wide) refl

  new_known : is_unknown b ≡ false
  new_known =
      let size = turns.can_be.wide ∙ one_wide in
      known_at setting.number 0 turns.can_be.known (omega (arith, size))

  pub start : IsEdgeStart d c (bit s.value c 0) b s
  start =
      record {
        rest = settled.rest;
        order = before.orderly;
        resolved = resolved_from d clean.solvable.lawful s clean.solvable.sole
            (λ p target e here i k is sole.
            before.driven p target e here i k is
            ∙ ap (λ bits. bit (driven (widths d) target bits) i k) (sym (before.drivers p target e here)));
        clock = its_clock;
        before = old_is;
        other = λ same.
            turns.other (number_is ∙ ap (λ (x : Bit). x ∷ []) (sym same) ∙ sym old_is ∙ before.inputs c its_clock.input);
      }
    where
      old_is : s.value c ≡ bit s.value c 0 ∷ []
      old_is = one_bit (s.value c) (bit s.value c 0) (settled.wide c ∙ one_wide) refl

  -- ---- where it ends

  module _ (given : Values) (given_known : (i : ℕ) → has_unknown (given i) ≡ false) (t : State) (end : IsEdgeEnd d given c b s t) where
    abbrev new : Values
    new = numbers_of d f t.value

    wide : HaveWidths d t.value
    wide = end.arrived.orderly.steady.widths

    numbers : AreNumbers d new
    numbers = are_numbers d f t.value

    -- ---- one process

    module _ (p : ℕ) (events : List Watched) (body : Actions) (is : doing_at d p ≡ Some (Edge' events body)) where
      -- what its events are is known
      item_known : (item : Watched) → IsItem d p events body item → is_unknown (item_bit t.value item) ≡ false
      item_known item here =
          let inside : 0 < widths d item.signal = let one = item_width d clean.synchronous p events body item here in omega (arith, one) in
          elim (item_reached d clean.synchronous p events body item here c its_clock.input) [
            | inl reached ↦ ap (λ (bits : List Bit). is_unknown (get_or bits 0 X)) (end.turned.turned item.signal reached) ∙ new_known
            | inr apart ↦
                ap is_unknown (end.turned.others item.signal 0 (item_in_cone d clean.synchronous p events body item here) apart)
                ∙ (known.shows item.signal 0 inside (item_lasts d chains level clean p events body is item here)).known
          ]

      item_same : (item : Watched) → IsItem d p events body item → item_bit new item ≡ item_bit t.value item
      item_same item here =
          let inside : 0 < widths d item.signal = let one = item_width d clean.synchronous p events body item here in omega (arith, one) in
          number_same d f t.value item.signal 0 inside
          (has_source d item.signal 0 (clean.solvable.sourced item.signal 0 inside (item_lasts d chains level clean p events body is item here))) (item_known item here)

      item_before : (item : Watched) → IsItem d p events body item → item_bit s.value item ≡ item_bit n item
      item_before item here =
          settled.shows item.signal 0 (item_lasts d chains level clean p events body is item here)

      -- what the body finds, in numbers
      abbrev found : Values
      found i = if items_list (widths d) events i 0 then new i else n i

      found_numbers : AreNumbers d found
      found_numbers =
          record {
            wide = λ i.
                picked_wide (items_list (widths d) events i 0) (new i) (n i) (widths d i) (numbers.wide i) (settled.solution.numbers.wide i);
            known = λ i.
                picked_known (items_list (widths d) events i 0) (new i) (n i) (numbers.known i) (settled.solution.numbers.known i);
          }

      abbrev met : Values
      met = found_at (widths d) events s.value t.value

      met_wide : HaveWidths d met
      met_wide i =
          picked_wide (items_list (widths d) events i 0) (t.value i) (s.value i) (widths d i) (wide i) (settled.wide i)

      item_bits : (i k : ℕ) → items_list (widths d) events i 0 ≡ true → Same new t.value i k
      item_bits i k listed =
          let one = listed_item (widths d) events i 0 listed in
          let here : IsItem d p events body one.item = record { does = is; place = one.place; there = one.there } in
          past_ends d new t.value numbers.wide wide i k (λ inside.
          let single : widths d i ≡ 1 = ap (widths d) one.same ∙ item_width d clean.synchronous p events body one.item here in
          let first : 0 ≡ k = omega (arith, inside, single) in
          subst (λ (j : ℕ). Same new t.value i j) first
          (subst (λ (j : ℕ). Same new t.value j 0) (sym one.same) (item_same one.item here)))

      outside : (i k : ℕ) → ReadsOutside (body_flow (widths d) body) i k → Same found met i k
      outside i k reads' =
          picked_bit (items_list (widths d) events i 0) (new i) (n i) (t.value i) (s.value i) k (item_bits i k)
          (λ none. sym (settled.shows i k (read_lasts d p (Edge' events body) is i k reads')))

      path : FollowsPath (widths d) found body
      path =
          let fit = usable d chains level clean p events body is in
          whole_path d found body found_numbers fit.lawful fit.tame

      both : RunAlike d body found met
      both =
          depends d found met body found_numbers.wide met_wide (usable d chains level clean p events body is).lawful path outside

      met_path : FollowsPath (widths d) met body
      met_path = subst (IsPath (body_flow (widths d) body)) both.steps path

      -- ---- one register bit

      module _ (i k : ℕ) (may : MayWrite (body_flow (widths d) body) i k) (lasts : IsLasting d i) where
        never_now : list_any (makes_now i k) (body_made (widths d) found body) ≡ false
        never_now =
            false_from_ne_true (list_any (makes_now i k) (body_made (widths d) found body)) (λ now.
            lasts (record {
              process = p;
              of_process = clean.synchronous.blocking p events body is i k
                  (may_now d found body i k (usable d chains level clean p events body is).lawful now);
            }))

        found_old : Same found n i k
        found_old =
            picked_second (items_list (widths d) events i 0) (new i) (n i) k (unlisted d chains level clean p events body is i k may)

        abbrev asked : Bit
        asked = block_bit (widths d) f found body i k

        -- what it was asked for is what the function of the body gives
        asks : updates_bit i k (laters (body_made (widths d) met body)) (bit s.value i k) ≡ asked
        asks =
            let fit = usable d chains level clean p events body is in
            let after = after_body d found body in
            let kept : bit after i k ≡ bit s.value i k = made_out d found body i k found_numbers.wide fit.lawful never_now ∙ found_old ∙ sym (settled.shows i k lasts) in
            ap (λ (ms : List Made). updates_bit i k (laters ms) (bit s.value i k)) (sym both.made)
            ∙ ap (λ (x : Bit). updates_bit i k (laters (body_made (widths d) found body)) x) (sym kept)
            ∙ updates_last i k (bit after i k) (body_made (widths d) found body) None
            ∙ sym (late_is d f found body i k found_numbers fit.lawful fit.tame fit.split)

        fires_same : fires s.value t.value events ≡ fires n new events
        fires_same =
            any_same (item_fires s.value t.value) (item_fires n new) events (λ place item there.
            let here : IsItem d p events body item = record { does = is; place = place; there = there } in
            ap (λ (x : Bit). happens item.edge x (item_bit t.value item)) (item_before item here)
            ∙ ap (λ (x : Bit). happens item.edge (item_bit n item) x) (sym (item_same item here)))

        -- the part at the clock's edge reads no clock and no reset
        part_same : block_bit (widths d) f found (chains p).part i k ≡ block_bit (widths d) f n (chains p).part i k
        part_same =
            let formed = clean.formed p events body is in
            let part = part_usable d (chains p).resets (chains p).part body formed.chained.chained (usable d chains level clean p events body is) in
            tame_depends d f found n (chains p).part i k found_numbers settled.solution.numbers part.lawful part.tame part.split
            (λ j l reads'.
            picked_second (items_list (widths d) events j 0) (new j) (n j) l (λ listed.
            let one = listed_item (widths d) events j 0 listed in
            formed.apart j l reads'
            (subst (InClockCone d) (sym one.same) (item_in_cone d clean.synchronous p events body one.item (record { does = is; place = one.place; there = one.there })))))
            (inl found_old)

        item_found : (item : Watched) → IsItem d p events body item → item_bit found item ≡ item_bit new item
        item_found item here =
            picked_first (items_list (widths d) events item.signal 0) (new item.signal) (n item.signal) 0 (λ none.
            absurd (false≢true (sym none
            ∙ items_at (widths d) events here.place item item.signal 0 here.there
            (whole_selected (widths d) item.signal item.selection item.signal (item_whole d clean.synchronous p events body item here) refl (item_width d clean.synchronous p events body item here)))))

        -- so it is by its strongest reset, or else by its clock
        asked_is : asked ≡ reset_bit (widths d) f n (strongest new (chains p).resets) (block_bit (widths d) f n (chains p).part i k) i k
        asked_is =
            let formed = clean.formed p events body is in
            let same = strongest_same d found new (chains p).resets (of_items d chains level clean p events body is (λ (item : Watched). item_bit found item ≡ item_bit new item) item_found) in
            chain_bit d f found found_numbers i k (chains p).resets (chains p).part body formed.chained.chained formed.chained.tests
            ∙ ap (λ (o : Option Guard). reset_bit (widths d) f found o (block_bit (widths d) f found (chains p).part i k) i k) same
            ∙ ap (λ (x : Bit). reset_bit (widths d) f found (strongest new (chains p).resets) x i k) part_same
            ∙ by_guard (strongest new (chains p).resets) refl
          where
            by_guard : (o : Option Guard) → strongest new (chains p).resets ≡ o → reset_bit (widths d) f found o (block_bit (widths d) f n (chains p).part i k) i k ≡ reset_bit (widths d) f n o (block_bit (widths d) f n (chains p).part i k) i k
            by_guard None e = refl
            by_guard (Some guard) e =
                strongest_constant d chains level clean p events body is f new found n found_numbers settled.solution.numbers guard e i k may lasts

        items_known : (item : Watched) → IsItem d p events body item → IsKnownItem n new item
        items_known item here =
            let size = settled.solution.numbers.wide item.signal in
            let one = item_width d clean.synchronous p events body item here in
            record {
              edged = clean.synchronous.edges p events body item here;
              before = known_at (n item.signal) 0 (settled.solution.numbers.known item.signal) (omega (arith, size, one));
              after = ap is_unknown (item_same item here) ∙ item_known item here;
            }

        is_register_bit : bit t.value i k ≡ register_bit (widths d) f n new (chains p) i k
        is_register_bit =
            let formed = clean.formed p events body is in
            end.taken p events body is met_path i k may lasts
            ∙ ap (λ (x : Bit). if fires s.value t.value events then x else bit s.value i k) asks
            ∙ ap (λ (x : Bit). if fires s.value t.value events then asked else x) (settled.shows i k lasts)
            ∙ ap (λ (x : Bool). if x then asked else bit n i k)
            (fires_same ∙ list_any-IsPermutation (fires_at n new) events ((chains p).clock ∷ map (λ (guard : Guard). guard.item) (chains p).resets) formed.chained.items)
            ∙ takes_bit (widths d) f n new (chains p).clock (chains p).part i k asked (chains p).resets formed.one_reset
            (of_items d chains level clean p events body is (IsKnownItem n new) items_known) asked_is
            (λ guard found'. known.resets p events body is guard found' i k may lasts)

    pub registers_are : (i k : ℕ) (register : IsRegisterBit d i k) → bit t.value i k ≡ register_bit (widths d) f n new (chains register.process) i k
    registers_are i k register =
        is_register_bit register.process register.events register.body register.does i k register.may register.lasting

    -- ---- the numbers that follow

    -- a register bit that its process gives is known
    register_known : (i k : ℕ) → IsRegisterBit d i k → is_unknown (bit t.value i k) ≡ false
    register_known i k register =
        ap is_unknown (registers_are i k register) ∙ by_guard (strongest new (chains p).resets) refl
      where
        p : ℕ
        p = register.process

        its_body : IsUsable d register.body
        its_body = usable d chains level clean p register.events register.body register.does

        inside : k < widths d i
        inside = register_inside d level clean.solvable i k register

        chained : IsChain d register.events register.body (chains p)
        chained = (clean.formed p register.events register.body register.does).chained

        by_clock : (e : Bool) → is_unknown (cond e (block_bit (widths d) f n (chains p).part i k) (bit n i k)) ≡ false
        by_clock true =
            block_known d f n (chains p).part i k settled.solution.numbers
            (part_usable d (chains p).resets (chains p).part register.body chained.chained its_body).lawful inside
        by_clock false =
            let size = settled.solution.numbers.wide i in
            known_at (n i) k (settled.solution.numbers.known i) (omega (arith, size, inside))

        by_guard : (o : Option Guard) → strongest new (chains p).resets ≡ o → is_unknown (reset_bit (widths d) f n o (clocked_bit (widths d) f n new (chains p).clock (chains p).part i k) i k) ≡ false
        by_guard None e = by_clock (happens (chains p).clock.edge (item_bit n (chains p).clock) (item_bit new (chains p).clock))
        by_guard (Some guard) e =
            block_known d f n guard.branch i k settled.solution.numbers
            (strongest_is d (λ (one : Guard). IsUsable d one.branch) new (chains p).resets (branches_usable d (chains p).resets (chains p).part register.body chained.chained its_body) guard e).lawful inside

    -- closed latches have what they had
    pub latch_holds : (i k : ℕ) → IsHeldBit d t.value i k → bit t.value i k ≡ bit n i k
    latch_holds i k is =
        end.held i k (held_as d level clean.solvable t.value given end.arrived.inputs i k is) ∙ settled.shows i k is.latch.lasting

    given_are : AreGiven d t.value
    given_are =
        record {
          inputs = λ i input.
              ap has_unknown (end.arrived.inputs i input) ∙ given_known i;
          registers = register_known;
          latches = λ i k is.
              let size = settled.solution.numbers.wide i in
              let inside = latch_inside d level clean.solvable i k is.latch in
              ap is_unknown (latch_holds i k is) ∙ known_at (n i) k (settled.solution.numbers.known i) (omega (arith, size, inside));
        }

    pub all_followed : (held : Values) → AreNumbers d held → AreHeld d held t.value → IsFollowed d f held t.value t new
    all_followed held are holds =
        followed.followed d level clean.solvable f given t.value t end.arrived given_are (λ i input. sym (end.arrived.inputs i input))
        (λ i k register. refl) (λ i k is. refl) held are holds

    pub from_before : IsFollowed d f n t.value t new
    from_before = all_followed n settled.solution.numbers (λ i k is. sym (latch_holds i k is))

    -- registers whose resets are active have their constants
    reset : AreReset d chains f new
    reset p events body is guard found' i k may lasts =
        from_before.solution.kept i k (record { process = p; events = events; body = body; does = is; may = may; lasting = lasts })
        ∙ is_register_bit p events body is i k may lasts
        ∙ ap (λ (o : Option Guard). reset_bit (widths d) f n o (clocked_bit (widths d) f n new (chains p).clock (chains p).part i k) i k) found'
        ∙ strongest_constant d chains level clean p events body is f new n new settled.solution.numbers numbers guard found' i k may lasts

    pub known_after : IsSettledKnown d chains f t new
    known_after = settled_known d chains f t new from_before.settled reset

  -- ---- alone

  module _ (t : State) (next : IsNext d s (setting ∷ []) t) where
    reaches : Reaches d (set_to s c b) t
    reaches = subst (λ (bits : List Bit). Reaches d (offer s ((c, bits) ∷ [])) t) number_is next.reaches

    arrived : IsArrived d (given_with n (pairs (setting ∷ []))) t
    arrived =
        subst (IsArrived d (given_with n (pairs (setting ∷ [])))) next.reaches.leads
        (arrive d level clean.solvable f s n settled (record { step = pairs (setting ∷ []); events = next.reaches.events })
        (record { settings = ((turns.can_be.wide, turns.can_be.known), tt); can = next.reaches.can })
        (subst (IsAtRest d) (sym next.reaches.leads) next.rest))

    end : IsEdgeEnd d (given_with n (pairs (setting ∷ []))) c b s t
    end =
        record {
          arrived = arrived;
          turned = cone_turns d clean.synchronous c (bit s.value c 0) b s start reaches.events reaches.can t reaches.leads next.rest;
          taken = at_edge d clean.synchronous c (bit s.value c 0) b s start reaches.events reaches.can t reaches.leads next.rest;
          held = λ i k is. held_turn d chains level clean f s n settled setting turns.can_be i k is t next;
        }

    known_given : (i : ℕ) → has_unknown (given_with n (pairs (setting ∷ [])) i) ≡ false
    known_given i =
        followed.given_known d level clean.solvable n (pairs (setting ∷ [])) ((turns.can_be.wide, turns.can_be.known), tt) settled.solution.numbers.known i

    pub register_is : (i k : ℕ) (register : IsRegisterBit d i k) → bit t.value i k ≡ register_bit (widths d) f n (numbers_of d f t.value) (chains register.process) i k
    register_is = registers_are (given_with n (pairs (setting ∷ []))) known_given t end

    follows : IsCycle d chains f n (Turn setting) (numbers_of d f t.value)
    follows =
        let solution = (from_before (given_with n (pairs (setting ∷ []))) known_given t end).solution in
        record {
          inputs = λ i input.
              solution.inputs i input ∙ arrived.inputs i input ∙ ap (λ (v : Values). v i) (given_pairs n (setting ∷ []));
          registers = λ p events body is i k may lasts.
              let register : IsRegisterBit d i k = record { process = p; events = events; body = body; does = is; may = may; lasting = lasts } in
              solution.kept i k register ∙ register_is i k register;
          rest = record {
            numbers = solution.numbers;
            inputs = λ i input. refl;
            kept = λ i k register. refl;
            assigns = solution.assigns;
            blocks = solution.blocks;
            others = solution.others;
          };
        }

    pub turn_follows : IsStepFollowed d chains f n (Turn setting) t
    turn_follows =
        record {
          next = numbers_of d f t.value;
          follows = follows;
          settled = known_after (given_with n (pairs (setting ∷ []))) known_given t end;
        }
