-- The work that is left in delayed updates.
use Rattle.std.proofs.Common.{◌≡◌, ◌≤◌, ◌<◌, ◌+◌, ◌∙◌, ℕ, zero, suc, Bool, true, false, cond, List, [], ◌∷◌, length, map, drop, refl, sym, ap, arith}
use Rattle.std.specs.Prelude.{Vec, vec_capacity}
use Rattle.std.specs.declared.alloc.Global.{Global}
use Rattle.std.proofs.lemmas.List.{length-map}
use Rattle.event_model.specs.Queue.{State, after_delayed, write, write_all}
use Rattle.rtl_flat.specs.Flats.{Flat}
use Rattle.event_model.specs.Writes.{Write}
use Rattle.event_tables.specs.event_write.declared.entries.Entry.{Entry as Code}
use Rattle.event_tables.specs.event_write.declared.queue_state.QueueState.{QueueState}
use Rattle.event_tables.specs.event_write.Entries.{Entry, entry, glue, updates, writes_of}
use Rattle.event_tables.specs.event_write.QueueState.{state}
use Rattle.event_tables.proofs.event_write_proofs.Entering.{some_update}
use Rattle.event_queue.specs.Rooms.{IsMadeReady, IsTaken}

-- writes leave the activated updates
activated_stay : (d : Flat) (s : State) (ws : List Write) → (write_all d s ws).activated ≡ s.activated
activated_stay d s [] = refl
activated_stay d s (w ∷ ws) = activated_stay d (write d s w) ws

-- an update that is made is no longer activated
one_made : (d : Flat) (s : State) (us : List (List Write)) → 1 ≤ length us → length (after_delayed d s us).activated + 1 ≡ length us
one_made d s [] some = absurd (omega (arith, some))
one_made d s (ws ∷ us) some =
    let stays = ap length (activated_stay d (record s { activated = us }) ws) in omega (arith, stays)

-- entries that are left make an update
some_left : (entries : List Entry) (n : ℕ) → n < length entries → 1 ≤ length (updates (drop n entries))
some_left [] n lt = absurd (omega (arith, lt))
some_left (e ∷ es) zero lt =
    let (u, us, is) = some_update e es in let count = ap length is in omega (arith, count)
some_left (e ∷ es) (suc n) lt = some_left es n (omega (arith, lt))

pub update_made : (d : Flat) (m n : QueueState) → state n ≡ after_delayed d (state m) (state m).activated → m.next < length m.active.items → length (state n).activated + 1 ≡ length (state m).activated
update_made d m n is there =
    let count = length-map m.active.items entry in
    let some = some_left (map entry m.active.items) m.next (omega (arith, count, there)) in
    ap (λ (s : State). length s.activated + 1) is ∙ one_made d (state m) (state m).activated some

-- no more updates than entries
glued : (ws : List Write) (us : List (List Write)) → length (glue ws us) ≤ length us + 1
glued ws [] = omega arith
glued ws (u ∷ us) = omega arith

pub few_updates : (es : List Entry) → length (updates es) ≤ length es
few_updates [] = omega arith
few_updates (e ∷ es) = by_last e.is_last (few_updates es)
  where
    by_last : (b : Bool) → length (updates es) ≤ length es → length (cond b (writes_of e ∷ updates es) (glue (writes_of e) (updates es))) ≤ length (e ∷ es)
    by_last true h = omega (arith, h)
    by_last false h = let few = glued (writes_of e) (updates es) in omega (arith, h, few)

-- no entry where there is no update
pub none_waiting : (es : List Entry) → updates es ≡ [] → length es ≡ 0
none_waiting [] e = refl
none_waiting (e ∷ es) none =
    let (u, us, is) = some_update e es in
    let count = ap length (sym is ∙ none) in
    absurd (omega (arith, count))

-- ---- what events leave

-- the first activated update is made
pub delayed_taken : (d : Flat) (m n : QueueState) → state n ≡ after_delayed d (state m) (state m).activated → n.woken.levels ≡ m.woken.levels → n.waiting ≡ m.waiting → n.scratch ≡ m.scratch → n.active ≡ m.active → m.next < length m.active.items → IsTaken 0 1 m n
delayed_taken d m n is levels waiting scratch active there =
    let made = update_made d m n is there in
    let count = ap (λ (v : Vec Code Global). length v.items) waiting in
    let room = ap (λ (v : Vec Code Global). vec_capacity v) waiting in
    let ample = ap (λ (v : Vec Code Global). vec_capacity v) scratch in
    record {
      levels = levels;
      waiting = omega (arith, count);
      room = omega (arith, room);
      scratch = omega (arith, ample);
      active = active;
      load = omega (arith, made, count);
    }

-- all updates become active
pub made_ready : (m n : QueueState) → state n ≡ record (state m) { activated = (state m).delayed; delayed = [] } → n.woken.levels ≡ m.woken.levels → vec_capacity n.active ≡ vec_capacity m.waiting → vec_capacity m.active ≤ vec_capacity n.waiting → n.scratch ≡ m.scratch → IsMadeReady m n
made_ready m n is levels active waiting scratch =
    let empty = none_waiting (map entry n.waiting.items) (ap (λ (s : State). s.delayed) is) in
    let count = length-map n.waiting.items entry in
    let full = few_updates (map entry m.waiting.items) in
    let all = length-map m.waiting.items entry in
    let moved = ap (λ (s : State). length s.activated) is in
    let ample = ap (λ (v : Vec Code Global). vec_capacity v) scratch in
    record {
      levels = levels;
      waiting = omega (arith, empty, count);
      room = λ most w a. (omega (arith, a, waiting), omega (arith, w, active));
      scratch = omega (arith, ample);
      load = omega (arith, empty, count, full, all, moved);
    }
