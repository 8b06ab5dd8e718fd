-- The flags of what is kept.
use Rattle.std.proofs.Common.{◌≡◌, ◌<◌, ◌≤◌, ◌∙◌, ℕ, zero, suc, Bool, true, false, List, [], ◌∷◌, length, map, drop, None, Some, refl, sym, ap, inl, inr, arith}
use Rattle.std.specs.Prelude.{cond, if◌then◌else◌, is_some, nat_lt}
use Rattle.std.proofs.lemmas.Bool.{cases_lt, le-ltb, lt-ltb}
use Rattle.std.proofs.lemmas.List.{drop_all, length-map}
use Rattle.rtl_bits.specs.declared.Bit.{Bit}
use Rattle.rtl_flat.specs.Value.{store}
use Rattle.rank_set.specs.Ranks.{flag}
use Rattle.event_model.specs.Queue.{Event, Delayed}
use Rattle.rtl_flat.specs.Flats.{Flat}
use Rattle.event_model.specs.Order.{first_delayed}
use Rattle.event_write.specs.declared.queue_state.QueueState.{QueueState}
use Rattle.event_write.specs.declared.entries.Entry.{Entry as Code}
use Rattle.event_write.specs.Entries.{Entry, entry, updates}
use Rattle.event_write.specs.QueueState.{IsQueueState, flagged_value, state}
use Rattle.event_write.proofs.Entering.{some_update}
use Rattle.event_take.specs.Lawful.{IsFlagged}

held_flag : (flags : List Bool) (values : List (List Bit)) (k : ℕ) → is_some (flagged_value flags values k) ≡ flag flags k
held_flag flags values k = by_flag (flag flags k)
  where
    by_flag : (b : Bool) → is_some (if b then Some (store values k) else None) ≡ b
    by_flag true = refl
    by_flag false = refl

pub flagged : (d : Flat) (m : QueueState) → IsQueueState d m → IsFlagged d (state m) m.offered m.pending m.woken.flags
flagged d m is =
    record {
      signals = is.offered;
      drivers = is.pending;
      processes = is.woken;
      offered_are = held_flag m.offered m.offered_values.items;
      pending_are = held_flag m.pending m.pending_values.items;
      woken_are = λ k. refl;
    }

-- entries that are left make an activated update
pub some_left : (entries : List Entry) (n : ℕ) → n < length entries → first_delayed (updates (drop n entries)) ≡ Delayed ∷ []
some_left [] n lt = absurd (omega (arith, lt))
some_left (e ∷ es) zero lt = let (u, us, is) = some_update e es in ap first_delayed is
some_left (e ∷ es) (suc n) lt = some_left es n (omega (arith, lt))

pub none_left : (entries : List Entry) (n : ℕ) → length entries ≤ n → first_delayed (updates (drop n entries)) ≡ []
none_left entries n past = ap (λ (es : List Entry). first_delayed (updates es)) (drop_all n entries past)

-- whether an activated update is left
pub late_is : (entries : List Code) (next n : ℕ) → n ≡ length entries → first_delayed (updates (drop next (map entry entries))) ≡ cond (nat_lt next n) (Delayed ∷ []) []
late_is entries next n size =
    let count = length-map entries entry in
    elim (cases_lt next n) [
      | inl lt ↦ some_left (map entry entries) next (omega (arith, lt, size, count)) ∙ sym (ap (λ (b : Bool). cond {A = List Event} b (Delayed ∷ []) []) (lt-ltb next n lt))
      | inr past ↦ none_left (map entry entries) next (omega (arith, past, size, count)) ∙ sym (ap (λ (b : Bool). cond {A = List Event} b (Delayed ∷ []) []) (le-ltb next n past))
    ]
