-- The queue from which a simulator begins.
use Rattle.std.proofs.Common.{◌≡◌, ◌≤◌, ◌<◌, ◌+◌, ◌-◌, ◌∙◌, ℕ, zero, suc, Bool, true, false, cond, ◌&&◌, ◌||◌, List, [], ◌∷◌, length, map, take, drop, replicate, Option, None, Some, refl, sym, ap, inl, inr, arith}
use Rattle.std.specs.Prelude.{◌==◌, nat_lt, if◌then◌else◌}
use Rattle.std.specs.List.{slice_get}
use Rattle.std.proofs.lemmas.Bool.{cases_lt, cases_order, eq-eqb, le-ltb, lt-ltb, ne_eqb}
use Rattle.std.proofs.lemmas.Option.{slice_get_past}
use Rattle.std.proofs.lemmas.List.{length-append, length-map, length-replicate, length-take}
use mathlib.Core.Path.{fun_ext}
use Rattle.rtl_bits.specs.declared.Bit.{Bit}
use Rattle.rtl_bits.specs.declared.Bit.TheVariants.{Zero, Z}
use Rattle.rtl_bits.specs.Bits.{extended, top_bit}
use Rattle.rtl_flat.specs.declared.act.Does.{Does}
use Rattle.rtl_flat.specs.declared.act.Does.TheVariants as does
use Rattle.rtl_flat.specs.declared.act.Process.{Process}
use Rattle.rtl_flat.specs.declared.signal.Signal.{Signal}
use Rattle.rtl_flat.specs.Process.{Doing, Assign, Comb, Edge', Task, doing, task}
use Rattle.rtl_flat.specs.Signs.{width_in}
use Rattle.rtl_flat.specs.Value.{store}
use Rattle.rank_set.specs.Ranks.{flag}
use Rattle.rank_set.proofs.Law.{flag-replicate}
use Rattle.event_model.specs.Writes.{Values}
use Rattle.event_model.specs.Queue.{doing_at, doing_of, drive_now, first_bits, first_drive, is_assignment, power_up, settled_at}
use Rattle.rtl_flat.specs.Flats.{Flat}
use Rattle.event_tables.specs.event_write.declared.queue_state.QueueState.{QueueState}
use Rattle.event_tables.specs.event_write.Entries.{entry, updates}
use Rattle.event_tables.specs.event_write.QueueState.{HasWidth, driver_of, flagged_value, state}
use Rattle.event_tables.specs.event_write.Stored.{AreStored}
use Rattle.event_queue.specs.First.{blank, driver_in, first_driver, first_value, now_driver, quiet}

-- ---- values

first_width : (signals : List Signal) (i : ℕ) → width_in signals i ≡ length (store (map first_value signals) i)
first_width [] i = refl
first_width (s ∷ signals) zero = sym (length-replicate s.width _)
first_width (s ∷ signals) (suc i) = first_width signals i

pub first_stored : (signals : List Signal) → AreStored signals (map first_value signals)
first_stored signals =
    record { count = sym (length-map signals first_value); each = first_width signals }

pub first_are : (signals : List Signal) (i : ℕ) → store (map first_value signals) i ≡ first_bits (slice_get signals i)
first_are [] i = refl
first_are (s ∷ signals) zero = refl
first_are (s ∷ signals) (suc i) = first_are signals i

-- ---- drivers

extended_length : (width : ℕ) (signed : Bool) (bits : List Bit) → length (extended width signed bits) ≡ width
extended_length width signed bits =
    let all = length-append (take width bits) (replicate (width - length bits) (cond signed (top_bit bits) Zero)) in
    let front = length-take width bits in
    let back = length-replicate (width - length bits) (cond signed (top_bit bits) Zero) in
    omega (arith, all, front, back)

first_one : (ws : ℕ → ℕ) (d : Doing) → driver_of (Some (first_driver ws d)) ≡ first_drive ws (Some d)
first_one ws (Assign target e) = refl
first_one ws (Comb list body) = refl
first_one ws (Edge' events body) = refl

pub first_driven : (ws : ℕ → ℕ) (processes : List Process) (p : ℕ) → driver_in (map (λ process. first_driver ws (doing process.does)) processes) p ≡ first_drive ws (doing_of (slice_get (map task processes) p))
first_driven ws [] p = refl
first_driven ws (x ∷ processes) zero = first_one ws (doing x.does)
first_driven ws (x ∷ processes) (suc p) = first_driven ws processes p

first_fits : (ws : ℕ → ℕ) (d : Doing) → HasWidth ws (Some d) (length (driver_of (Some (first_driver ws d))))
first_fits ws (Assign target e) = length-replicate _ Z
first_fits ws (Comb list body) = tt
first_fits ws (Edge' events body) = tt

pub first_driver_widths : (ws : ℕ → ℕ) (processes : List Process) (p : ℕ) → HasWidth ws (doing_of (slice_get (map task processes) p)) (length (driver_in (map (λ process. first_driver ws (doing process.does)) processes) p))
first_driver_widths ws [] p = tt
first_driver_widths ws (x ∷ processes) zero = first_fits ws (doing x.does)
first_driver_widths ws (x ∷ processes) (suc p) = first_driver_widths ws processes p

now_one : (v : Values) (d : Doing) → driver_of (Some (now_driver v d)) ≡ drive_now v (Some d)
now_one v (Assign target e) = refl
now_one v (Comb list body) = refl
now_one v (Edge' events body) = refl

pub now_driven : (v : Values) (processes : List Process) (p : ℕ) → driver_in (map (λ process. now_driver v (doing process.does)) processes) p ≡ drive_now v (doing_of (slice_get (map task processes) p))
now_driven v [] p = refl
now_driven v (x ∷ processes) zero = now_one v (doing x.does)
now_driven v (x ∷ processes) (suc p) = now_driven v processes p

now_fits : (ws : ℕ → ℕ) (v : Values) (d : Does) → HasWidth ws (Some (doing d)) (length (driver_of (Some (now_driver v (doing d)))))
now_fits ws v (does.Assign target e) = extended_length e.width e.signed _
now_fits ws v (does.Comb list body) = tt
now_fits ws v (does.Edge events body) = tt

pub now_driver_widths : (ws : ℕ → ℕ) (v : Values) (processes : List Process) (p : ℕ) → HasWidth ws (doing_of (slice_get (map task processes) p)) (length (driver_in (map (λ process. now_driver v (doing process.does)) processes) p))
now_driver_widths ws v [] p = tt
now_driver_widths ws v (x ∷ processes) zero = now_fits ws v x.does
now_driver_widths ws v (x ∷ processes) (suc p) = now_driver_widths ws v processes p

blank_fits : (ws : ℕ → ℕ) (d : Doing) → HasWidth ws (Some d) (length (blank ws d))
blank_fits ws (Assign target e) = length-replicate _ Z
blank_fits ws (Comb list body) = tt
blank_fits ws (Edge' events body) = tt

pub blank_widths : (ws : ℕ → ℕ) (processes : List Process) (p : ℕ) → HasWidth ws (doing_of (slice_get (map task processes) p)) (length (store (map (λ process. blank ws (doing process.does)) processes) p))
blank_widths ws [] p = tt
blank_widths ws (x ∷ processes) zero = blank_fits ws (doing x.does)
blank_widths ws (x ∷ processes) (suc p) = blank_widths ws processes p

-- ---- states

none_held : (n : ℕ) (values : List (List Bit)) (k : ℕ) → flagged_value (replicate n false) values k ≡ None
none_held n values k = ap (λ (b : Bool). if b then Some (store values k) else None) (flag-replicate n k)

pub quiet_state : (m : QueueState) (w n k : ℕ) → m.woken.flags ≡ replicate w false → m.pending ≡ replicate n false → m.offered ≡ replicate k false → m.next ≡ 0 → m.active.items ≡ [] → m.waiting.items ≡ [] → state m ≡ quiet (store m.values.items) (λ p. false) (driver_in m.drivers.items)
quiet_state m w n k woken pending offered next active waiting =
    let s = state m in
    ap (λ (x : ℕ → Bool). record s { woken = x }) (ap flag woken ∙ fun_ext (flag-replicate w))
    ∙ ap (λ (q : ℕ → Option (List Bit)). record s { woken = λ p. false; pending = q }) (ap (λ (flags : List Bool). flagged_value flags m.pending_values.items) pending ∙ fun_ext (none_held n m.pending_values.items))
    ∙ ap (λ (q : ℕ → Option (List Bit)). record s { woken = λ p. false; pending = λ p. None; offered = q }) (ap (λ (flags : List Bool). flagged_value flags m.offered_values.items) offered ∙ fun_ext (none_held k m.offered_values.items))
    ∙ ap (λ us. record s { woken = λ p. false; pending = λ p. None; offered = λ p. None; activated = us }) (ap (λ j. updates (drop j (map entry m.active.items))) next ∙ ap (λ es. updates (map entry es)) active)
    ∙ ap (λ us. record s { woken = λ p. false; pending = λ p. None; offered = λ p. None; activated = []; delayed = us }) (ap (λ es. updates (map entry es)) waiting)

-- at power-up the continuous assignments are woken
pub powered : (d : Flat) (v : Values) (w : ℕ → Bool) (driver : ℕ → List Bit) → ((i : ℕ) → v i ≡ (power_up d).value i) → ((p : ℕ) → w p ≡ (power_up d).woken p) → ((p : ℕ) → driver p ≡ (power_up d).driver p) → quiet v w driver ≡ power_up d
powered d v w driver values woken drivers =
    ap (λ (x : Values). quiet x w driver) (fun_ext values)
    ∙ ap (λ (x : ℕ → Bool). quiet (power_up d).value x driver) (fun_ext woken)
    ∙ ap (λ (x : ℕ → List Bit). quiet (power_up d).value (power_up d).woken x) (fun_ext drivers)

pub settled_is : (d : Flat) (v : Values) (driver : ℕ → List Bit) → ((p : ℕ) → driver p ≡ drive_now v (doing_at d p)) → quiet v (λ p. false) driver ≡ settled_at d v
settled_is d v driver drivers =
    ap (λ (x : ℕ → List Bit). quiet v (λ p. false) x) (fun_ext drivers)

-- ---- who is woken

-- no process is an assignment past the end
pub past_all : (d : Flat) (p : ℕ) → length d.tasks ≤ p → is_assignment (doing_at d p) ≡ false
past_all d p past = ap (λ (o : Option Task). is_assignment (doing_of o)) (slice_get_past d.tasks p past)

-- one number more
pub one_more : (h : ℕ → Bool) (n p : ℕ) → ((nat_lt p n && h p) || ((p == n) && h n)) ≡ (nat_lt p (n + 1) && h p)
one_more h n p =
    elim (cases_order p n) as (λ _. ((nat_lt p n && h p) || ((p == n) && h n)) ≡ (nat_lt p (n + 1) && h p)) [
      | inl same ↦ let within : p < n + 1 = omega (arith, same) in
          rw (le-ltb p n (omega (arith, same)), eq-eqb p n same, lt-ltb p (n + 1) within) (ap h (sym same))
      | inr apart ↦
          elim apart as (λ _. ((nat_lt p n && h p) || ((p == n) && h n)) ≡ (nat_lt p (n + 1) && h p)) [
            | inl below ↦ let within : p < n + 1 = omega (arith, below) in
                rw (lt-ltb p n below, ne_eqb p n (λ same. omega (arith, below, same)), lt-ltb p (n + 1) within) (or_none (h p))
            | inr above ↦ rw (le-ltb p n (omega (arith, above)), ne_eqb p n (λ same. omega (arith, above, same)), le-ltb p (n + 1) (omega (arith, above))) refl
          ]
    ]
  where
    or_none : (b : Bool) → (b || false) ≡ b
    or_none true = refl
    or_none false = refl

-- all of them
pub all_of_them : (d : Flat) (n p : ℕ) → length d.tasks ≤ n → (nat_lt p n && is_assignment (doing_at d p)) ≡ is_assignment (doing_at d p)
all_of_them d n p all =
    elim (cases_lt p n) as (λ _. (nat_lt p n && is_assignment (doing_at d p)) ≡ is_assignment (doing_at d p)) [
      | inl below ↦ ap (λ b. b && is_assignment (doing_at d p)) (lt-ltb p n below)
      | inr above ↦ ap (λ b. b && is_assignment (doing_at d p)) (le-ltb p n above) ∙ sym (past_all d p (omega (arith, all, above)))
    ]
