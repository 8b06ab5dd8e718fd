-- A nonblocking update, one of its writes after the other.
use Rattle.std.proofs.Common.{◌≡◌, ◌<◌, ◌≤◌, ◌+◌, ◌∙◌, ◌++◌, ℕ, zero, suc, true, false, cond, List, [], ◌∷◌, length, map, drop, get_or, refl, sym, ap, arith, add-one}
use Rattle.std.proofs.lemmas.Bool.{true≢false}
use Rattle.event_model.specs.Queue.{State, after_delayed, write, write_all}
use Rattle.rtl_flat.specs.Flats.{Flat}
use Rattle.event_model.specs.Writes.{Write}
use Rattle.event_write.specs.declared.queue_state.QueueState.{QueueState}
use Rattle.event_write.specs.Entries.{Entry, IsClosed, entry, glue, updates, writes_of}
use Rattle.event_write.specs.QueueState.{IsQueueState}
use Rattle.event_write.proofs.Entering.{some_update}

activated_apart : (d : Flat) (s : State) (ws : List Write) (us : List (List Write)) → record (write_all d s ws) { activated = us } ≡ write_all d (record s { activated = us }) ws
activated_apart d s [] us = refl
activated_apart d s (w ∷ ws) us = activated_apart d (write d s w) ws us

pub write_append : (d : Flat) (s : State) (xs ys : List Write) → write_all d s (xs ++ ys) ≡ write_all d (write_all d s xs) ys
write_append d s [] ys = refl
write_append d s (x ∷ xs) ys = write_append d (write d s x) xs ys

-- the last part of an update
pub update_ends : (d : Flat) (s : State) (e : Entry) (rest : List Entry) → e.is_last ≡ true → write_all d (record s { activated = updates rest }) (writes_of e) ≡ after_delayed d s (updates (e ∷ rest))
update_ends d s e rest last =
    ap (λ b. after_delayed d s (cond b (writes_of e ∷ updates rest) (glue (writes_of e) (updates rest)))) (sym last)

-- a part before others
pub update_goes : (d : Flat) (s t : State) (e : Entry) (rest : List Entry) → e.is_last ≡ false → IsClosed (e ∷ rest) → t ≡ write_all d (record s { activated = updates rest }) (writes_of e) → after_delayed d t (updates rest) ≡ after_delayed d s (updates (e ∷ rest))
update_goes d s t e [] early closed is = absurd (true≢false (sym closed ∙ early))
update_goes d s t e (f ∷ rest) early closed is =
    let w = writes_of e in
    let (u, us, all) = some_update f rest in
    ap (λ (x : State). after_delayed d x (updates (f ∷ rest))) is
    ∙ ap (λ (vs : List (List Write)). after_delayed d (write_all d (record s { activated = vs }) w) vs) all
    ∙ ap (λ (x : State). write_all d x u) (activated_apart d (record s { activated = u ∷ us }) w us)
    ∙ sym (write_append d (record s { activated = us }) w u)
    ∙ ap (λ (vs : List (List Write)). after_delayed d s (glue w vs)) (sym all)
    ∙ ap (λ b. after_delayed d s (cond b (w ∷ updates (f ∷ rest)) (glue w (updates (f ∷ rest))))) (sym early)

left_suc : {A B : Type 0} (f : A → B) (xs : List A) (i : ℕ) (x : A) → i < length xs → x ≡ get_or xs i x → drop i (map f xs) ≡ f x ∷ drop (suc i) (map f xs)
left_suc f [] i x lt is = absurd (omega (arith, lt))
left_suc f (y ∷ ys) zero x lt is = ap (λ z. f z ∷ map f ys) (sym is)
left_suc f (y ∷ ys) (suc i) x lt is = left_suc f ys i x (omega (arith, lt)) is

-- what is left of entries
pub left_mapped : {A B : Type 0} (f : A → B) (xs : List A) (i : ℕ) (x : A) → i < length xs → x ≡ get_or xs i x → drop i (map f xs) ≡ f x ∷ drop (i + 1) (map f xs)
left_mapped f xs i x lt is =
    left_suc f xs i x lt is ∙ ap (λ n. f x ∷ drop n (map f xs)) (sym (add-one i))

-- what is left behind a closed entry is closed
pub closed_behind : (e : Entry) (rest : List Entry) → IsClosed (e ∷ rest) → IsClosed rest
closed_behind e [] closed = tt
closed_behind e (f ∷ rest) closed = closed

-- queue whose first updates are made
pub with_next : (d : Flat) (m : QueueState) (n : ℕ) → IsQueueState d m → n ≤ length m.active.items → IsClosed (drop n (map entry m.active.items)) → IsQueueState d (record m { next = n })
with_next d m n is within closed =
    record {
      values = is.values;
      woken = is.woken;
      drivers = is.drivers;
      driver_widths = is.driver_widths;
      tallies = is.tallies;
      tallied = is.tallied;
      pending = is.pending;
      pending_values = is.pending_values;
      pending_widths = is.pending_widths;
      offered = is.offered;
      offered_values = is.offered_values;
      next = within;
      active = closed;
      active_inside = is.active_inside;
      waiting = is.waiting;
      waiting_inside = is.waiting_inside;
    }
