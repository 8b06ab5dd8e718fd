-- Steps of one clock or reset: what a register takes may be unknown, and else is what its process gives to it.
use Rattle.std.proofs.Common.{◌≡◌, ◌∙◌, ℕ, zero, suc, Bool, true, false, if◌then◌else◌, List, [], ◌∷◌, length, get_or, map, Option, None, Some, refl, sym, ap, subst, inl, inr, arith}
use Rattle.std.specs.List.{list_any, slice_get}
use Rattle.std.proofs.lemmas.Bool.{cases_Bool, false_from_ne_true, or_left, or_right}
use Rattle.std.proofs.lemmas.List.Sorted.{list_any-IsPermutation}
use Rattle.rtl_bits.specs.declared.Bit.{Bit}
use Rattle.rtl_bits.specs.declared.Bit.TheVariants.{X}
use Rattle.rtl_bits.specs.Bit.{is_unknown}
use Rattle.rtl_bits.specs.Bits.{has_unknown}
use Rattle.rtl_flat.specs.declared.signal.Kind.TheVariants.{Var}
use Rattle.rtl_flat.specs.Flows.{body_flow, may_select}
use Rattle.rtl_flat.specs.Paths.{IsPath, MayWrite, ReadsOutside}
use Rattle.rtl_flat.specs.PathSets.{items_list}
use Rattle.rtl_flat.specs.Process.{Watched, Actions, Edge'}
use Rattle.rtl_flat.specs.Signs.{Has}
use Rattle.event_model.specs.Bodies.{Made, body_made}
use Rattle.event_model.specs.Queue.{State, Reaches, doing_at, happens, offer}
use Rattle.rtl_flat.specs.Flats.{Flat, widths}
use Rattle.event_model.specs.Traces.{FollowsPath, Same, makes_now}
use Rattle.event_model.specs.Writes.{Values}
use Rattle.net_model.specs.declared.fill.Fill.{Fill}
use Rattle.net_model.specs.Block.{block_bit}
use Rattle.net_model.specs.Control.{InClockCone, IsClockOrReset}
use Rattle.net_model.specs.Cycle.{Chain, Guard, IsCycle, Setting, Turn, item_bit, reset_bit, strongest}
use Rattle.net_model.specs.Lawful.{TurnsControl}
use Rattle.net_model.specs.Numbers.{AreNumbers, bit}
use Rattle.net_model.specs.Solution.{IsLasting}
use Rattle.sign_cycles.specs.event_edges.Laws.{HaveTaken}
use Rattle.sign_cycles.specs.event_edges.Registers.{updates_bit}
use Rattle.sign_cycles.specs.event_edges.Synchronous.{IsItem, IsSynchronous}
use Rattle.sign_cycles.specs.event_edges.Turned.{IsEdgeStart, fires, found_at, item_fires, set_to}
use Rattle.sign_cycles.proofs.event_edges_proofs.Cone.{item_fixed, item_in_cone, item_whole, item_width, listed_item}
use Rattle.sign_cycles.proofs.event_edges_proofs.Hearing.{any_same}
use Rattle.sign_cycles.proofs.event_edges_proofs.Laws.{at_edge}
use Rattle.sign_cycles.proofs.event_edges_proofs.Ports.{one_bit}
use Rattle.sign_cycles.proofs.event_edges_proofs.Turning.{whole_selected}
use Rattle.sign_cycles.specs.net_rest.event_laws.Laws.{AgreeOutside, RunAlike, after_body}
use Rattle.sign_cycles.specs.net_rest.event_laws.Steady.{HaveWidths}
use Rattle.sign_cycles.specs.net_rest.event_runs.Effects.{laters}
use Rattle.sign_cycles.specs.net_rest.event_runs.Nets.{given_with}
use Rattle.sign_cycles.proofs.net_rest_proofs.event_laws_proofs.Laws.{depends, made_out, may_now, writes_variables}
use Rattle.sign_cycles.proofs.net_laws_proofs.Known.{known_at}
use Rattle.sign_cycles.proofs.net_laws_proofs.Laws.{late_is, tame_depends, whole_path}
use Rattle.sign_cycles.proofs.net_rest_proofs.Levels.{read_lasts}
use Rattle.sign_cycles.proofs.net_rest_proofs.Numbers.{past_ends}
use Rattle.sign_cycles.proofs.net_rest_proofs.Rest.{held_as}
use Rattle.net_covers.specs.Marks.{AreMarks, Tells}
use Rattle.net_covers.specs.event_covers.Covers.{MayBe}
use Rattle.net_covers.proofs.Mixture.{stable}
use Rattle.sign_cycles.specs.Agree.{IsNext}
use Rattle.sign_cycles.specs.Formed.{IsCleanClocked}
use Rattle.sign_cycles.specs.Round.{IsArrived}
use Rattle.sign_cycles.proofs.Chains.{IsKnownItem, IsUsable, chain_bit, fires_at, part_usable, strongest_same, takes_bit}
use Rattle.sign_cycles.proofs.DataSteps.{given_pairs, pairs}
use Rattle.sign_cycles.proofs.Edges.{clock_bit, of_items, strongest_constant, updates_last, usable}
use Rattle.sign_unknown.proofs.Cone.{items_same}
use Rattle.sign_unknown.proofs.Held.{held_turn}
use Rattle.sign_unknown.proofs.Kept.{IsKept, kept_arrived, kept_next, kept_way, next_idle, tells_move, tells_same}
use Rattle.net_covers.proofs.Bodies.{marked_made, marked_path}
use Rattle.sign_unknown.proofs.Unclocked.{turn_reset}
use Rattle.sign_unknown.proofs.Updates.{if_may, updates_may, updates_old}

-- a bit of an item is listed
items_at : (ws : ℕ → ℕ) (events : List Watched) (place : ℕ) (item : Watched) (i k : ℕ) → slice_get events place ≡ Some item → may_select ws item.signal item.selection i k ≡ true → items_list ws events i k ≡ true
items_at ws [] place item i k there h = absurd (cc)
items_at ws (first ∷ events) zero item i k there h =
    let same : first ≡ item = cc in
    or_left (may_select ws first.signal first.selection i k) (items_list ws events i k) (ap (λ (x : Watched). may_select ws x.signal x.selection i k) same ∙ h)
items_at ws (first ∷ events) (suc place) item i k there h =
    or_right (may_select ws first.signal first.selection i k) (items_list ws events i k) (items_at ws events place item i k there h)

item_listed : (d : Flat) → IsSynchronous d → (p : ℕ) (events : List Watched) (body : Actions) (item : Watched) → IsItem d p events body item → items_list (widths d) events item.signal 0 ≡ true
item_listed d sync p events body item here =
    items_at (widths d) events here.place item item.signal 0 here.there
    (whole_selected (widths d) item.signal item.selection item.signal (item_whole d sync p events body item here) refl (item_width d sync p events body item here))

module _ (d : Flat) (chains : ℕ → Chain) (level : ℕ → ℕ) (clean : IsCleanClocked d chains level) (f : Fill) (Doubt : ℕ → Type 0) (marks : AreMarks d Doubt) (s : State) (n : Values) (kept : IsKept d chains f Doubt s n) (setting : Setting) (its_clock : IsClockOrReset d setting.input) (turns : TurnsControl d n setting) (t : State) (next : IsNext d s (setting ∷ []) t) (m : Values) (cycle : IsCycle d chains f n (Turn setting) m) where
  abbrev c : ℕ
  c = setting.input

  abbrev b : Bit
  b = get_or setting.number 0 X

  one_wide : widths d c ≡ 1
  one_wide = clock_bit d clean.synchronous c its_clock

  number_is : setting.number ≡ b ∷ []
  number_is = one_bit setting.number b (turns.can_be.wide ∙ one_wide) refl

  begins : IsEdgeStart d c (bit s.value c 0) b s
  begins =
      let way = kept_way d level clean.solvable chains f Doubt s n kept in
      record {
        rest = kept.rest;
        order = way.orderly;
        resolved = way.resolved;
        clock = its_clock;
        before = old_is;
        other = λ same.
            turns.other (number_is ∙ ap (λ (x : Bit). x ∷ []) (sym same) ∙ sym old_is ∙ kept.inputs c its_clock.input);
      }
    where
      old_is : s.value c ≡ bit s.value c 0 ∷ []
      old_is = one_bit (s.value c) (bit s.value c 0) (kept.wide c ∙ one_wide) refl

  taken : HaveTaken d s t
  taken =
      let reaches : Reaches d (set_to s c b) t = subst (λ (bits : List Bit). Reaches d (offer s ((c, bits) ∷ [])) t) number_is next.reaches in
      at_edge d clean.synchronous c (bit s.value c 0) b s begins reaches.events reaches.can t reaches.leads next.rest

  arrived : IsArrived d (given_with n (pairs (setting ∷ []))) t
  arrived = kept_arrived d level clean.solvable chains f Doubt s n kept (setting ∷ []) (turns.can_be.wide, tt) t next

  wide : HaveWidths d t.value
  wide = arrived.orderly.steady.widths

  old : AreNumbers d n
  old = kept.solution.numbers

  new : AreNumbers d m
  new = cycle.rest.numbers

  -- ---- one process

  module _ (p : ℕ) (events : List Watched) (body : Actions) (is : doing_at d p ≡ Some (Edge' events body)) where
    its_body : IsUsable d body
    its_body = usable d chains level clean p events body is

    -- its clock and its resets are the numbers', before and after
    item_before : (item : Watched) → IsItem d p events body item → item_bit s.value item ≡ item_bit n item
    item_before =
        items_same d clean.synchronous s.value n kept.wide old.wide kept.driven (next_idle d level clean.solvable f n n old kept.solution).driven
        (λ top clock. kept.inputs top clock.input) p events body

    item_after : (item : Watched) → IsItem d p events body item → item_bit t.value item ≡ item_bit m item
    item_after =
        items_same d clean.synchronous t.value m wide new.wide arrived.driven (next_idle d level clean.solvable f n m old cycle.rest).driven
        (λ top clock.
        arrived.inputs top clock.input ∙ ap (λ (v : Values). v top) (given_pairs n (setting ∷ [])) ∙ sym (cycle.inputs top clock.input)) p events body

    -- a variable that the body writes is none of its items
    unlisted : (i k : ℕ) → MayWrite (body_flow (widths d) body) i k → items_list (widths d) events i 0 ≡ false
    unlisted i k may =
        false_from_ne_true (items_list (widths d) events i 0) (λ listed.
        let one = listed_item (widths d) events i 0 listed in
        item_fixed d clean.synchronous p events body one.item (record { does = is; place = one.place; there = one.there })
        (subst (λ j. Has (λ s. s.kind ≡ Var) d.signals j) one.same (writes_variables d body i k its_body.lawful may)))

    -- what the body finds, in numbers and in values
    abbrev found : Values
    found = found_at (widths d) events n m

    abbrev met : Values
    met = found_at (widths d) events s.value t.value

    either_wide : (x : Bool) (v u : List Bit) (l : ℕ) → length v ≡ l → length u ≡ l → length (if x then v else u) ≡ l
    either_wide true v u l left right = left
    either_wide false v u l left right = right

    either_known : (x : Bool) (v u : List Bit) → has_unknown v ≡ false → has_unknown u ≡ false → has_unknown (if x then v else u) ≡ false
    either_known true v u left right = left
    either_known false v u left right = right

    found_numbers : AreNumbers d found
    found_numbers =
        record {
          wide = λ i. either_wide (items_list (widths d) events i 0) (m i) (n i) (widths d i) (new.wide i) (old.wide i);
          known = λ i. either_known (items_list (widths d) events i 0) (m i) (n i) (new.known i) (old.known i);
        }

    met_wide : HaveWidths d met
    met_wide i =
        either_wide (items_list (widths d) events i 0) (t.value i) (s.value i) (widths d i) (wide i) (kept.wide i)

    -- items have one bit
    item_bits : (i k : ℕ) → items_list (widths d) events i 0 ≡ true → Same t.value m i k
    item_bits i k listed =
        let one = listed_item (widths d) events i 0 listed in
        let here : IsItem d p events body one.item = record { does = is; place = one.place; there = one.there } in
        past_ends d t.value m wide new.wide i k (λ inside.
        let single : widths d i ≡ 1 = ap (widths d) one.same ∙ item_width d clean.synchronous p events body one.item here in
        let first : 0 ≡ k = omega (arith, inside, single) in
        subst (λ (j : ℕ). Same t.value m i j) first
        (subst (λ (j : ℕ). Same t.value m j 0) (sym one.same) (item_after one.item here)))

    old_place : (v u : Values) (i k : ℕ) → items_list (widths d) events i 0 ≡ false → Same (found_at (widths d) events v u) v i k
    old_place v u i k none = ap (λ (x : Bool). get_or (if x then u i else v i) k X) none

    new_place : (v u : Values) (i k : ℕ) → items_list (widths d) events i 0 ≡ true → Same (found_at (widths d) events v u) u i k
    new_place v u i k listed = ap (λ (x : Bool). get_or (if x then u i else v i) k X) listed

    finds : (j l : ℕ) → ReadsOutside (body_flow (widths d) body) j l → Tells Doubt met found j l
    finds j l outside =
        elim (cases_Bool (items_list (widths d) events j 0)) [
          | inl listed ↦
              tells_same Doubt met found j l
              (new_place s.value t.value j l listed ∙ item_bits j l listed ∙ sym (new_place n m j l listed))
          | inr none ↦
              tells_move Doubt s.value n met found j l (old_place s.value t.value j l none) (old_place n m j l none)
              (kept.tells j l (read_lasts d p (Edge' events body) is j l outside))
        ]

    path : FollowsPath (widths d) found body
    path = whole_path d found body found_numbers its_body.lawful its_body.tame

    -- ---- one register bit

    module _ (i k : ℕ) (may : MayWrite (body_flow (widths d) body) i k) (lasts : IsLasting d i) where
      -- what the body asks for
      abbrev asked : Bit
      asked = block_bit (widths d) f found body i k

      found_old : Same found n i k
      found_old = old_place n m i k (unlisted i k may)

      never_now : list_any (makes_now i k) (body_made (widths d) found body) ≡ false
      never_now =
          false_from_ne_true (list_any (makes_now i k) (body_made (widths d) found body)) (λ now.
          lasts (record { process = p; of_process = clean.synchronous.blocking p events body is i k (may_now d found body i k its_body.lawful now) }))

      asks : asked ≡ updates_bit i k (laters (body_made (widths d) found body)) (bit n i k)
      asks =
          let after = after_body d found body in
          let stays : bit after i k ≡ bit n i k = made_out d found body i k found_numbers.wide its_body.lawful never_now ∙ found_old in
          late_is d f found body i k found_numbers its_body.lawful its_body.tame its_body.split
          ∙ sym (updates_last i k (bit after i k) (body_made (widths d) found body) None)
          ∙ ap (λ (x : Bit). updates_bit i k (laters (body_made (widths d) found body)) x) stays

      -- the part at the clock's edge reads no clock and no reset
      part_same : block_bit (widths d) f found (chains p).part i k ≡ block_bit (widths d) f n (chains p).part i k
      part_same =
          let formed = clean.formed p events body is in
          let part = part_usable d (chains p).resets (chains p).part body formed.chained.chained its_body in
          tame_depends d f found n (chains p).part i k found_numbers old part.lawful part.tame part.split
          (λ j l reads'. old_place n m j l (false_from_ne_true (items_list (widths d) events j 0) (λ listed.
          let one = listed_item (widths d) events j 0 listed in
          formed.apart j l reads'
          (subst (InClockCone d) (sym one.same) (item_in_cone d clean.synchronous p events body one.item (record { does = is; place = one.place; there = one.there }))))))
          (inl found_old)

      -- it finds its clock and its resets as they are after the step
      item_found : (item : Watched) → IsItem d p events body item → item_bit found item ≡ item_bit m item
      item_found item here = new_place n m item.signal 0 (item_listed d clean.synchronous p events body item here)

      -- so it is by its strongest reset, or else by its clock
      asked_is : asked ≡ reset_bit (widths d) f n (strongest m (chains p).resets) (block_bit (widths d) f n (chains p).part i k) i k
      asked_is =
          let formed = clean.formed p events body is in
          let same = strongest_same d found m (chains p).resets (of_items d chains level clean p events body is (λ (item : Watched). item_bit found item ≡ item_bit m item) item_found) in
          chain_bit d f found found_numbers i k (chains p).resets (chains p).part body formed.chained.chained formed.chained.tests
          ∙ ap (λ (o : Option Guard). reset_bit (widths d) f found o (block_bit (widths d) f found (chains p).part i k) i k) same
          ∙ ap (λ (x : Bit). reset_bit (widths d) f found (strongest m (chains p).resets) x i k) part_same
          ∙ by_guard (strongest m (chains p).resets) refl
        where
          by_guard : (o : Option Guard) → strongest m (chains p).resets ≡ o → reset_bit (widths d) f found o (block_bit (widths d) f n (chains p).part i k) i k ≡ reset_bit (widths d) f n o (block_bit (widths d) f n (chains p).part i k) i k
          by_guard None e = refl
          by_guard (Some guard) e =
              strongest_constant d chains level clean p events body is f m found n found_numbers old guard e i k may lasts

      known_item : (item : Watched) → IsItem d p events body item → IsKnownItem n m item
      known_item item here =
          let size = old.wide item.signal in
          let size' = new.wide item.signal in
          let one = item_width d clean.synchronous p events body item here in
          record {
            edged = clean.synchronous.edges p events body item here;
            before = known_at (n item.signal) 0 (old.known item.signal) (omega (arith, size, one));
            after = known_at (m item.signal) 0 (new.known item.signal) (omega (arith, size', one));
          }

      -- the number that follows
      number_takes : bit m i k ≡ (if fires s.value t.value events then updates_bit i k (laters (body_made (widths d) found body)) (bit n i k) else bit n i k)
      number_takes =
          let formed = clean.formed p events body is in
          cycle.registers p events body is i k may lasts
          ∙ sym (takes_bit (widths d) f n m (chains p).clock (chains p).part i k asked (chains p).resets formed.one_reset
          (of_items d chains level clean p events body is (IsKnownItem n m) known_item) asked_is
          (λ guard active. kept.resets p events body is guard active i k may lasts))
          ∙ ap (λ (x : Bool). if x then asked else bit n i k)
          (sym (fires_same ∙ list_any-IsPermutation (fires_at n m) events ((chains p).clock ∷ map (λ (guard : Guard). guard.item) (chains p).resets) formed.chained.items))
          ∙ ap (λ (x : Bit). if fires s.value t.value events then x else bit n i k) asks
        where
          fires_same : fires s.value t.value events ≡ fires n m events
          fires_same =
              any_same (item_fires s.value t.value) (item_fires n m) events (λ place item there.
              let here : IsItem d p events body item = record { does = is; place = place; there = there } in
              ap (λ (x : Bit). happens item.edge x (item_bit t.value item)) (item_before item here)
              ∙ ap (λ (x : Bit). happens item.edge (item_bit n item) x) (item_after item here))

      -- the body reads a marked signal outside
      abbrev FindsMarked : Type 0
      FindsMarked = (j : ℕ) × (l : ℕ) × ReadsOutside (body_flow (widths d) body) j l × Doubt j

      before_tells : Tells Doubt s.value n i k
      before_tells = kept.tells i k lasts

      -- then what it makes may be what numbers make
      marked_takes : FindsMarked → MayBe (bit t.value i k) (bit m i k)
      marked_takes (j, l, outside, doubt) known =
          let writes : (i' k' : ℕ) → MayWrite (body_flow (widths d) body) i' k' → Doubt i' = λ i' k' may'. marks.spreads p (Edge' events body) is j l i' k' outside doubt may' in
          let marked = marks.clocked p events body is in
          let follows = marked_path d Doubt body its_body.lawful marked writes found met found_numbers.wide met_wide finds path in
          let makes = marked_made d Doubt body its_body.lawful marked writes found met found_numbers.wide met_wide finds path in
          let takes = taken p events body is follows i k may lasts in
          takes
          ∙ if_may (fires s.value t.value events) _ (bit s.value i k) _ (bit n i k)
          (updates_may i k (body_made (widths d) met body) (body_made (widths d) found body) (bit s.value i k) (bit n i k) makes before_tells.may)
          before_tells.may (ap is_unknown (sym takes) ∙ known)
          ∙ sym number_takes

      -- else it makes the same
      module _ (agree : AgreeOutside d body found met) where
        both : RunAlike d body found met
        both = depends d found met body found_numbers.wide met_wide its_body.lawful path agree

        same_takes : bit t.value i k ≡ (if fires s.value t.value events then updates_bit i k (laters (body_made (widths d) found body)) (bit s.value i k) else bit s.value i k)
        same_takes =
            taken p events body is (subst (IsPath (body_flow (widths d) body)) both.steps path) i k may lasts
            ∙ ap (λ (ms : List Made). if fires s.value t.value events then updates_bit i k (laters ms) (bit s.value i k) else bit s.value i k) (sym both.made)

        may_take : MayBe (bit t.value i k) (bit m i k)
        may_take known =
            same_takes
            ∙ if_may (fires s.value t.value events) _ (bit s.value i k) _ (bit n i k)
            (updates_old i k (laters (body_made (widths d) found body)) (bit s.value i k) (bit n i k) before_tells.may)
            before_tells.may (ap is_unknown (sym same_takes) ∙ known)
            ∙ sym number_takes

        takes_same : Same s.value n i k → Same t.value m i k
        takes_same same =
            same_takes
            ∙ ap (λ (x : Bit). if fires s.value t.value events then updates_bit i k (laters (body_made (widths d) found body)) x else x) same
            ∙ sym number_takes

      register_tells : Tells Doubt t.value m i k
      register_tells =
          record {
            may = λ known.
                stable (bit t.value i k) (bit m i k) (λ (some : FindsMarked). marked_takes some known)
                (λ none. may_take (λ j l outside. sym ((finds j l outside).same (λ doubt. none (j, l, outside, doubt)))) known);
            same = λ free.
                takes_same (λ j l outside. sym ((finds j l outside).same (λ doubt. free (marks.spreads p (Edge' events body) is j l i k outside doubt may))))
                (before_tells.same free);
          }

  -- ---- the state

  pub edge_kept : IsKept d chains f Doubt t m
  edge_kept =
      kept_next d level clean.solvable chains f Doubt s n kept (setting ∷ []) (turns.can_be.wide, tt) t next m marks cycle.inputs cycle.rest
      (turn_reset d chains level clean f n m old setting cycle)
      (λ i k register. register_tells register.process register.events register.body register.does i k register.may register.lasting)
      (λ i k held.
      held_turn d chains level clean f Doubt s n kept setting turns.can_be i k
      (held_as d level clean.solvable m (given_with n (pairs (setting ∷ []))) (λ j input. cycle.inputs j input ∙ ap (λ (v : Values). v j) (sym (given_pairs n (setting ∷ [])))) i k held)
      t next)
