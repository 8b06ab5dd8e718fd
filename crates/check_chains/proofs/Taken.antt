-- An event that is taken out of others.
use Rattle.std.specs.Borrow.{Bor}
use Rattle.std.proofs.Common.{◌≡◌, ◌<◌, ◌≤◌, ◌==◌, ℕ, zero, suc, Bool, true, false, List, [], ◌∷◌, length, map, get_or, None, Some, refl, inl, inr, arith}
use Rattle.std.specs.List.{list_all, position, position_or_len, remove}
use Rattle.std.proofs.lemmas.Bool.{cases_lt, lt-ltb}
use Rattle.std.proofs.lemmas.List.Quantifiers.{position-Some}
use Rattle.std.proofs.lemmas.List.Sums.{fails_before_first}
use Rattle.rtl_flat.specs.declared.act.EventItem.{EventItem}
use Rattle.rtl_flat.specs.Process.{watched}
use Rattle.rtl_flat.specs.WellFormed.{has_edge}
use Rattle.check_chains.specs.Chains.{taken_out}
use Rattle.check_chains.specs.Inner.{events_view}

abbrev pub is_of : ℕ → Bor EventItem → Bool
is_of r item = item.now.signal.0 == r

taken_at : (r : ℕ) (xs : List (Bor EventItem)) (i : ℕ) (d : Bor EventItem) → i < length xs → is_of r (get_or xs i d) ≡ true → ((k : ℕ) → k < i → is_of r (get_or xs k d) ≡ false) → taken_out r (events_view xs) ≡ Some (watched (get_or xs i d).now, events_view (remove xs i))
taken_at r [] i d inside here before = absurd (omega arith)
taken_at r (x ∷ xs) zero d inside here before = rw here refl
taken_at r (x ∷ xs) (suc i) d inside here before =
    rw (before 0 (omega arith), taken_at r xs i d (omega arith) here (λ k h. before (suc k) (omega arith))) refl

pub taken : (r : ℕ) (xs : List (Bor EventItem)) (i : ℕ) (d : Bor EventItem) → position (is_of r) xs ≡ Some i → taken_out r (events_view xs) ≡ Some (watched (get_or xs i d).now, events_view (remove xs i))
taken r xs i d found =
    let (inside, here, before) = position-Some (is_of r) xs i d found in
    taken_at r xs i d inside here before

none_at : (r : ℕ) (xs : List (Bor EventItem)) → ((k : ℕ) (d : Bor EventItem) → k < length xs → is_of r (get_or xs k d) ≡ false) → taken_out r (events_view xs) ≡ None
none_at r [] none = refl
none_at r (x ∷ xs) none =
    rw (none 0 x (omega arith), none_at r xs (λ k d h. none (suc k) d (omega arith))) refl

no_place : (p : Bor EventItem → Bool) (xs : List (Bor EventItem)) → position p xs ≡ None → length xs ≤ position_or_len p xs
no_place p xs none =
    elim (cases_lt (position_or_len p xs) (length xs)) [
      | inl below ↦
          let test = lt-ltb (position_or_len p xs) (length xs) below in
          let clash = rw test at none in
          absurd (cc)
      | inr past ↦ past
    ]

pub not_taken : (r : ℕ) (xs : List (Bor EventItem)) → position (is_of r) xs ≡ None → taken_out r (events_view xs) ≡ None
not_taken r xs none =
    let past = no_place (is_of r) xs none in
    none_at r xs (λ k d h. fails_before_first (is_of r) xs k d (omega arith))

-- ---- edges

pub all_watched : (events : List EventItem) → list_all (λ (item : EventItem). has_edge item.edge) events ≡ list_all (λ item. has_edge item.edge) (map watched events)
all_watched [] = refl
all_watched (x ∷ others) = rw (all_watched others) refl
