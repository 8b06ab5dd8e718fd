-- A write, in the values that are kept and in the state.
use Rattle.std.proofs.Common.{◌≡◌, ◌<◌, ◌∙◌, ℕ, zero, suc, Bool, ◌||◌, List, [], ◌∷◌, length, map, set, get_or, Vec, refl, sym, ap, subst, inl, inr, arith}
use Rattle.std.specs.Prelude.{if◌then◌else◌}
use Rattle.std.specs.List.{All}
use Rattle.std.specs.declared.alloc.Global.{Global}
use Rattle.std.proofs.lemmas.Bool.{cases_eq, eq-eqb, ne_eqb}
use Rattle.std.proofs.lemmas.Option.{slice_get_read}
use Rattle.std.proofs.lemmas.List.{get_or-set_same, get_or-set_other}
use mathlib.Core.Path.{fun_ext}
use Rattle.rtl_bits.specs.declared.Bit.{Bit}
use Rattle.rtl_flat.specs.Value.{store}
use Rattle.event_model.specs.Writes.{Values, Write, put, written}
use Rattle.event_model.specs.Queue.{State, write, hears, doing_at}
use Rattle.rtl_flat.specs.Flats.{Flat, widths}
use Rattle.event_write.specs.QueueState.{items_of, row}

pub put_at : {A : Type 0} (f : ℕ → A) (k : ℕ) (a : A) → put f k a k ≡ a
put_at f k a = ap (λ b. if b then a else f k) (eq-eqb k k refl)

pub put_other : {A : Type 0} (f : ℕ → A) (k : ℕ) (a : A) (j : ℕ) → (j ≡ k → ⊥) → put f k a j ≡ f j
put_other f k a j apart = ap (λ b. if b then a else f j) (ne_eqb j k apart)

-- a row that is read
pub row_at : {A : Type 0} (rows : List (Vec A Global)) (i : ℕ) (v : Vec A Global) → i < length rows → v ≡ get_or rows i v → row rows i ≡ v.items
row_at rows i v within is = ap items_of (slice_get_read rows (length rows) i v refl within is)

-- one value that is set
pub store_set : (values : List (List Bit)) (i : ℕ) (bits : List Bit) → i < length values → (j : ℕ) → store (set values i bits) j ≡ put (store values) i bits j
store_set values i bits within j =
    elim (cases_eq j i) [
      | inl same ↦ ap (store (set values i bits)) same ∙ get_or-set_same values i bits [] within
          ∙ sym (ap (put (store values) i bits) same ∙ put_at (store values) i bits)
      | inr apart ↦ get_or-set_other values i j bits [] apart ∙ sym (put_other (store values) i bits j apart)
    ]

-- the state after a write, from its values and its woken processes
pub write_is : (d : Flat) (s : State) (w : Write) (value : Values) (woken : ℕ → Bool) → ((i : ℕ) → value i ≡ written s.value w i) → ((p : ℕ) → woken p ≡ (s.woken p || hears (widths d) w.signal (s.value w.signal) (written s.value w w.signal) (doing_at d p)))
    → record s { value = value; woken = woken } ≡ write d s w
write_is d s w value woken values_are woken_are =
    ap (λ (v : Values). record s { value = v; woken = woken }) (fun_ext values_are)
    ∙ ap (λ (f : ℕ → Bool). record s { value = written s.value w; woken = f }) (fun_ext woken_are)

-- what holds of each element that is seen
pub seen_at : {A B : Type 0} (P : B → Type 0) (f : A → B) (xs : List A) (i : ℕ) (x : A) → All P (map f xs) → i < length xs → x ≡ get_or xs i x → P (f x)
seen_at P f [] i x h lt is = absurd (omega (arith, lt))
seen_at P f (y ∷ ys) zero x h lt is = subst (λ z. P (f z)) (sym is) (h 0 (f y) (omega arith))
seen_at P f (y ∷ ys) (suc i) x h lt is =
    seen_at P f ys i x (λ k d within. h (suc k) d (omega (arith, within))) (omega (arith, lt)) is
