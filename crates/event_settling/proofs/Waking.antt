-- Who is woken by writes listens to a bit that one of them is over.
use Rattle.std.proofs.Common.{◌≡◌, ◌≢◌, ◌∙◌, ◌+◌, ℕ, suc, Bool, true, ◌&&◌, List, [], ◌∷◌, get_or, None, Some, sym, ap, subst, inl, inr, arith}
use Rattle.std.specs.List.{All, list_any}
use Rattle.std.proofs.lemmas.Bool.{and_parts, cases_Bool, false≢true, or_cases, or_left, or_right}
use Rattle.std.proofs.lemmas.List.Elements.{All-head, All-tail}
use Rattle.rtl_bits.specs.declared.Bit.{Bit}
use Rattle.rtl_bits.specs.declared.Bit.TheVariants.{Zero, One, X, Z}
use Rattle.rtl_bits.specs.declared.Edge.{Edge}
use Rattle.rtl_bits.specs.declared.Edge.TheVariants.{No, Pos, Neg}
use Rattle.rtl_flat.specs.Flows.{may_select, reads}
use Rattle.rtl_flat.specs.Paths.{BitSet}
use Rattle.rtl_flat.specs.PathSets.{items_list, listed}
use Rattle.rtl_flat.specs.Process.{Watched, Doing, Assign, Comb, Edge'}
use Rattle.event_model.specs.Queue.{happens, hears, hears_from, item_hears, listens}
use Rattle.rtl_flat.specs.Flats.{Flat, widths}
use Rattle.event_model.specs.Traces.{covers}
use Rattle.event_model.specs.Writes.{Values, Write, written}
use Rattle.event_runs.specs.event_laws.Steady.{HaveWidths, IsWithin}
use Rattle.event_runs.proofs.event_laws_proofs.Lengths.{have_written}
use Rattle.event_runs.proofs.event_laws_proofs.Written.{written_out}
use Rattle.event_runs.specs.Effects.{is_heard}

-- the bits that a process listens to
abbrev pub attends : (ℕ → ℕ) → Doing → BitSet
attends ws (Assign target e) = reads ws e
attends ws (Comb list body) = listed ws (Comb list body)
attends ws (Edge' events body) = items_list ws events

-- ---- one bit

never : (edge : Edge) (a : Bit) → happens edge a a ≡ true → ⊥
never No Zero h = false≢true h
never No One h = false≢true h
never No X h = false≢true h
never No Z h = false≢true h
never Pos Zero h = false≢true h
never Pos One h = false≢true h
never Pos X h = false≢true h
never Pos Z h = false≢true h
never Neg Zero h = false≢true h
never Neg One h = false≢true h
never Neg X h = false≢true h
never Neg Z h = false≢true h

-- what is listened to is a bit of the set that changes
both : (read : Bool) (edge : Edge) (a b : Bit) → (read && happens edge a b) ≡ true → (read ≡ true) × (a ≢ b)
both read edge a b h =
    let parts = and_parts read (happens edge a b) h in
    (parts.0, λ same. never edge a (subst (λ (c : Bit). happens edge a c ≡ true) (sym same) parts.1))

items_both :
    (ws : ℕ → ℕ) (items : List Watched) (s k : ℕ) (a b : Bit) → list_any (item_hears ws s k a b) items ≡ true →
    (items_list ws items s k ≡ true) × (a ≢ b)
items_both ws [] s k a b h = absurd (false≢true h)
items_both ws (item ∷ others) s k a b h =
    elim (or_cases (item_hears ws s k a b item) (list_any (item_hears ws s k a b) others) h) [
      | inl here ↦
          let it = both (may_select ws item.signal item.selection s k) item.edge a b here in
          (or_left (may_select ws item.signal item.selection s k) (items_list ws others s k) it.0, it.1)
      | inr there ↦
          let them = items_both ws others s k a b there in
          (or_right (may_select ws item.signal item.selection s k) (items_list ws others s k) them.0, them.1)
    ]

bit_both : (ws : ℕ → ℕ) (does : Doing) (s k : ℕ) (a b : Bit) → listens ws s k a b does ≡ true → (attends ws does s k ≡ true) × (a ≢ b)
bit_both ws (Assign target e) s k a b h = both (reads ws e s k) No a b h
bit_both ws (Comb None body) s k a b h = both (listed ws (Comb None body) s k) No a b h
bit_both ws (Comb (Some items) body) s k a b h = items_both ws items s k a b h
bit_both ws (Edge' events body) s k a b h = items_both ws events s k a b h

-- ---- one write

-- a bit among those of a signal that is listened to and changes
pub record Changes (ws : ℕ → ℕ) (does : Doing) (s k : ℕ) (old new : List Bit) : Type 0 where
  place : ℕ
  attended : attends ws does s (k + place) ≡ true
  changed : get_or old place X ≢ get_or new place X

changes_from : (ws : ℕ → ℕ) (does : Doing) (s k : ℕ) (old new : List Bit) → hears_from ws s k old new does ≡ true → Changes ws does s k old new
changes_from ws does s k [] new h = absurd (false≢true h)
changes_from ws does s k (a ∷ old) [] h = absurd (false≢true h)
changes_from ws does s k (a ∷ old) (b ∷ new) h =
    elim (or_cases (listens ws s k a b does) (hears_from ws s (k + 1) old new does) h) [
      | inl here ↦
          let it = bit_both ws does s k a b here in
          let place : k + 0 ≡ k = omega arith in
          record { place = 0; attended = ap (attends ws does s) place ∙ it.0; changed = it.1 }
      | inr there ↦
          let them = changes_from ws does s (k + 1) old new there in
          let place : k + suc them.place ≡ k + 1 + them.place = omega arith in
          record { place = suc them.place; attended = ap (attends ws does s) place ∙ them.attended; changed = them.changed }
    ]

-- a bit that a process listens to and that one of some writes is over
pub record IsReached (d : Flat) (does : Doing) (us : List Write) : Type 0 where
  pub signal : ℕ
  pub bit : ℕ
  pub over : list_any (covers signal bit) us ≡ true
  pub attended : attends (widths d) does signal bit ≡ true

one_reached :
    (d : Flat) (v : Values) (w : Write) (us : List Write) (does : Doing) → HaveWidths d v → IsWithin (widths d) w →
    hears (widths d) w.signal (v w.signal) (written v w w.signal) (Some does) ≡ true → IsReached d does (w ∷ us)
one_reached d v w us does have inside h =
    let at = changes_from (widths d) does w.signal 0 (v w.signal) (written v w w.signal) h in
    let place : 0 + at.place ≡ at.place = omega arith in
    record {
      signal = w.signal;
      bit = at.place;
      over = elim (cases_Bool (covers w.signal at.place w)) [
        | inl is ↦ or_left (covers w.signal at.place w) (list_any (covers w.signal at.place) us) is
        | inr out ↦ absurd (at.changed (sym (written_out d v w have inside w.signal at.place out)))
      ];
      attended = ap (attends (widths d) does w.signal) (sym place) ∙ at.attended;
    }

-- ---- several writes

pub reached :
    (d : Flat) (v : Values) (us : List Write) (does : Doing) → HaveWidths d v → All (IsWithin (widths d)) us →
    is_heard d v us (Some does) ≡ true → IsReached d does us
reached d v [] does have inside h = absurd (false≢true h)
reached d v (w ∷ us) does have inside h =
    let here = All-head (IsWithin (widths d)) w us inside in
    elim (or_cases (hears (widths d) w.signal (v w.signal) (written v w w.signal) (Some does)) (is_heard d (written v w) us (Some does)) h) [
      | inl first ↦ one_reached d v w us does have here first
      | inr later ↦
          let it = reached d (written v w) us does (have_written d v w have here) (All-tail (IsWithin (widths d)) w us inside) later in
          record {
            signal = it.signal;
            bit = it.bit;
            over = or_right (covers it.signal it.bit w) (list_any (covers it.signal it.bit) us) it.over;
            attended = it.attended;
          }
    ]
