-- The numbers that a simulation begins with.
use Rattle.std.proofs.Common.{◌≡◌, ◌∙◌, ◌<◌, ℕ, zero, suc, Bool, true, false, not, ◌&&◌, cond, List, [], ◌∷◌, length, map, replicate, get_or, Option, None, Some, refl, sym, ap, subst, inl, inr, arith}
use Rattle.std.specs.Prelude.{◌⊎◌, ◌↔◌, ◌==◌, IsTrue}
use Rattle.std.specs.BTreeMap.{BTreeMap}
use Rattle.std.specs.List.{All, slice_get}
use Rattle.std.specs.Option.{IsSomeAnd}
use Rattle.std.proofs.lemmas.Bool.{cases_eq, false≢true}
use Rattle.std.proofs.lemmas.List.{get_or-map, get_or-replicate, length-map, length-replicate}
use Rattle.std.proofs.lemmas.List.Elements.{All-from_get_or}
use Rattle.rtl_bits.specs.declared.Bit.{Bit}
use Rattle.rtl_bits.specs.declared.Bit.TheVariants.{X}
use Rattle.rtl_bits.specs.Bits.{has_unknown, is_one_at}
use Rattle.rtl_flat.specs.declared.expr.SigId.{SigId}
use Rattle.rtl_flat.specs.declared.signal.Kind.{Kind}
use Rattle.rtl_flat.specs.declared.signal.Kind.TheVariants.{TopInput, Net, Var}
use Rattle.rtl_flat.specs.declared.signal.Signal.{Signal}
use Rattle.rtl_flat.specs.PathSets.{IsTemporary}
use Rattle.rtl_flat.specs.Value.{store}
use Rattle.event_model.specs.Queue.{is_input, is_input_kind, is_input_of}
use Rattle.rtl_flat.specs.Flats.{Flat, widths}
use Rattle.net_model.specs.declared.fill.Fill.{Fill}
use Rattle.net_model.specs.Numbers.{bit, fill_bit}
use Rattle.check_found.specs.rtl_scan.Arrows.{Among}
use Rattle.check_found.specs.rtl_scan.Sets.{has}
use Rattle.check_found.proofs.rtl_scan_proofs.Users.{some_bit_is}
use Rattle.net_start.specs.Listing.{AreGiven, AreMasked, fills_of, is_var, is_var_kind}
use Rattle.net_start.specs.Start.{AreKnown, IsStart}
use Rattle.net_start.specs.Stored.{AreInputs, AreStored, IsStored, is_kept, places}
use Rattle.net_start.proofs.Listed.{place_among}
use Rattle.net_start.proofs.Masking.{fills_at, fills_known}

-- ---- variables

pub var_is : (o : Option Signal) → is_var o ≡ true ↔ IsSomeAnd o (λ signal. signal.kind ≡ Var)
var_is None = (λ h. absurd (false≢true h), λ h. absurd h)
var_is (Some signal) = (to signal.kind, λ is. ap is_var_kind is)
  where
    to : (kind : Kind) → is_var_kind kind ≡ true → kind ≡ Var
    to Var h = refl
    to Net h = absurd (false≢true h)
    to TopInput h = absurd (false≢true h)

var_no_input : (o : Option Signal) → IsSomeAnd o (λ signal. signal.kind ≡ Var) → is_input_of o ≡ false
var_no_input None h = absurd h
var_no_input (Some signal) is = ap is_input_kind is

there : {A : Type 0} (xs : List A) (i : ℕ) (P : A → Type 0) → IsSomeAnd (slice_get xs i) P → i < length xs
there [] i P h = absurd h
there (x ∷ xs) zero P h = omega arith
there (x ∷ xs) (suc i) P h = let below = there xs i P h in omega (arith, below)

input_there : (signals : List Signal) (i : ℕ) → is_input_of (slice_get signals i) ≡ true → i < length signals
input_there [] i h = absurd (false≢true h)
input_there (s ∷ signals) zero h = omega arith
input_there (s ∷ signals) (suc i) h = let below = input_there signals i h in omega (arith, below)

both_true : (a b : Bool) → (a && b) ≡ true → (a ≡ true) × (b ≡ true)
both_true true b h = (refl, h)
both_true false b h = absurd (false≢true h)

true_both : (a b : Bool) → a ≡ true → b ≡ true → (a && b) ≡ true
true_both true b h h' = h'
true_both false b h h' = absurd (false≢true h)

not_true : (b : Bool) → not b ≡ true → b ≡ true → ⊥
not_true true h h' = false≢true h
not_true false h h' = false≢true h'

true_not : (b : Bool) → (b ≡ true → ⊥) → not b ≡ true
true_not true h = absurd (h refl)
true_not false h = refl

module _ (d : Flat) where
  pub stored_is :
      (s mask : ℕ) (temporary : Bool) → ((k : ℕ) → is_one_at mask k ≡ is_kept d s k) →
      (temporary ≡ true ↔ IsTemporary d.signals d.tasks s) →
      (is_var (slice_get d.signals s) && (not (mask == 0) && not temporary)) ≡ true ↔ IsStored d s
  stored_is s mask temporary bits answer = (to, back)
    where
      to : (is_var (slice_get d.signals s) && (not (mask == 0) && not temporary)) ≡ true → IsStored d s
      to h =
          let (variable, rest) = both_true (is_var (slice_get d.signals s)) (not (mask == 0) && not temporary) h in
          let (some, lasts) = both_true (not (mask == 0)) (not temporary) rest in
          let (k, one) = (some_bit_is mask).0 some in
          record {
            variable = (var_is (slice_get d.signals s)).0 variable;
            bit = k;
            kept = sym (bits k) ∙ one;
            lasting = λ is. not_true temporary lasts (answer.1 is);
          }

      back : IsStored d s → (is_var (slice_get d.signals s) && (not (mask == 0) && not temporary)) ≡ true
      back is =
          true_both (is_var (slice_get d.signals s)) (not (mask == 0) && not temporary) ((var_is (slice_get d.signals s)).1 is.variable)
          (true_both (not (mask == 0)) (not temporary) ((some_bit_is mask).1 (is.bit, bits is.bit ∙ is.kept)) (true_not temporary (λ t. is.lasting (answer.0 t))))

  pub stored_there : (s : ℕ) → IsStored d s → s < length d.signals
  stored_there s is = there d.signals s (λ signal. signal.kind ≡ Var) is.variable

  pub top_there : (s : ℕ) → IsTrue (is_input d s) → s < length d.signals
  top_there s is = input_there d.signals s is

-- ---- places

pub place_of : (xs : List ℕ) (i : ℕ) → ((j : ℕ) × (j < length xs) × (get_or xs j 0 ≡ i)) ⊎ (Among xs i → ⊥)
place_of [] i = inr (λ h. h)
place_of (x ∷ xs) i = elim (cases_eq i x) [
  | inl same ↦ inl (0, omega arith, sym same)
  | inr other ↦ later (place_of xs i) other
]
  where
    neither : Among (x ∷ xs) i → (Among xs i → ⊥) → (i ≡ x → ⊥) → ⊥
    neither (inl same) none other = other same
    neither (inr more) none other = none more

    later : ((j : ℕ) × (j < length xs) × (get_or xs j 0 ≡ i)) ⊎ (Among xs i → ⊥) → (i ≡ x → ⊥) → ((j : ℕ) × (j < length (x ∷ xs)) × (get_or (x ∷ xs) j 0 ≡ i)) ⊎ (Among (x ∷ xs) i → ⊥)
    later (inl (j, below, is)) other = inl (suc j, omega (arith, below), is)
    later (inr none) other = inr (λ h. neither h none other)

pub as_many : (ws : ℕ → ℕ) (signals : List ℕ) (values : List (List Bit)) → map length values ≡ map ws signals → length values ≡ length signals
as_many ws signals values wide =
    sym (length-map values length) ∙ (ap length wide ∙ length-map signals ws)

width_at : (ws : ℕ → ℕ) (signals : List ℕ) (values : List (List Bit)) → map length values ≡ map ws signals → (j : ℕ) → j < length signals → length (store values j) ≡ ws (get_or signals j 0)
width_at ws signals values wide j below =
    let many = as_many ws signals values wide in
    sym (get_or-map (λ (bits : List Bit). length bits) values j [] 0 (omega (arith, below, many)))
    ∙ (ap (λ l. get_or l j 0) wide ∙ get_or-map ws signals j 0 0 below)

-- ---- all together

module _
    (d : Flat) (f : Fill) (masks : BTreeMap ℕ ℕ) (kept : (s k : ℕ) → has masks s k ≡ is_kept d s k)
    (stored : List ℕ) (registers : List (List Bit)) (tops : List ℕ) (inputs : List (List Bit))
    (are_stored : AreStored d stored) (are_tops : AreInputs d tops)
    (registers_wide : map length registers ≡ map (widths d) stored) (inputs_wide : map length inputs ≡ map (widths d) tops)
    (inputs_known : AreKnown inputs)
    (made first mid last : List (List Bit)) (masked : AreMasked masks f stored registers (length registers) made)
    (fills : first ≡ fills_of f d.signals)
    (one : AreGiven stored made (length stored) (store first) (store mid))
    (other : AreGiven tops inputs (length tops) (store mid) (store last)) where
  abbrev at : ℕ → ℕ
  at j = get_or stored j 0

  no_top : (s : ℕ) → is_input d s ≡ false → Among tops s → ⊥
  no_top s none among = false≢true (sym none ∙ (are_tops.each s).0 among)

  stored_no_top : (s : ℕ) → Among stored s → Among tops s → ⊥
  stored_no_top s among =
      no_top s (var_no_input (slice_get d.signals s) ((are_stored.each s).0 among).variable)

  -- what registers and latches have
  stored_last : (j : ℕ) → j < length stored → store last (at j) ≡ store made j
  stored_last j below =
      other.left (at j) (stored_no_top (at j) (place_among stored j below)) ∙ one.given j below

  -- what nothing gives
  rest_last : (i : ℕ) → (Among stored i → ⊥) → (Among tops i → ⊥) → store last i ≡ replicate (widths d i) (fill_bit f)
  rest_last i none none' =
      other.left i none' ∙ (one.left i none ∙ (ap (λ l. store l i) fills ∙ fills_at f d.signals i))

  register_below : (j : ℕ) → j < length stored → j < length registers
  register_below j below =
      let many = as_many (widths d) stored registers registers_wide in omega (arith, below, many)

  wide_last : (i : ℕ) → length (store last i) ≡ widths d i
  wide_last i = elim (place_of tops i) as (λ _. length (store last i) ≡ widths d i) [
    | inl (j, below, is) ↦ subst (λ m. length (store last m) ≡ widths d m) is (ap length (other.given j below) ∙ width_at (widths d) tops inputs inputs_wide j below)
    | inr none ↦ elim (place_of stored i) as (λ _. length (store last i) ≡ widths d i) [
      | inl (j, below, is) ↦
          subst (λ m. length (store last m) ≡ widths d m) is
          (ap length (stored_last j below) ∙ (masked.wide j (register_below j below) ∙ width_at (widths d) stored registers registers_wide j below))
      | inr none' ↦ ap length (rest_last i none' none) ∙ length-replicate (widths d i) (fill_bit f)
    ]
  ]

  known_last : (i : ℕ) → has_unknown (store last i) ≡ false
  known_last i = elim (place_of tops i) as (λ _. has_unknown (store last i) ≡ false) [
    | inl (j, below, is) ↦
        let many = as_many (widths d) tops inputs inputs_wide in
        subst (λ m. has_unknown (store last m) ≡ false) is (ap has_unknown (other.given j below) ∙ inputs_known j (omega (arith, below, many)))
    | inr none ↦ elim (place_of stored i) as (λ _. has_unknown (store last i) ≡ false) [
      | inl (j, below, is) ↦
          subst (λ m. has_unknown (store last m) ≡ false) is (ap has_unknown (stored_last j below) ∙ masked.known j (register_below j below))
      | inr none' ↦ ap has_unknown (rest_last i none' none) ∙ fills_known f (widths d i)
    ]
  ]

  pub is_start : IsStart d f stored registers tops inputs (store last)
  is_start = record {
    numbers = record { wide = wide_last; known = known_last };
    registers_are = λ j below k inside.
        let wide = width_at (widths d) stored registers registers_wide j below in
        ap (λ l. get_or l k X) (stored_last j below)
        ∙ (masked.bits j (register_below j below) k (omega (arith, inside, wide))
        ∙ ap (λ b. cond b (bit (store registers) j k) (fill_bit f)) (kept (at j) k));
    inputs_are = λ j below. other.given j below;
    others = λ i k inside no_input none.
        ap (λ l. get_or l k X) (rest_last i none (no_top i no_input)) ∙ get_or-replicate (widths d i) k (fill_bit f) X inside;
  }

-- all signals of a list are there
pub all_inside : (n : ℕ) (signals : List SigId) → ((s : ℕ) → Among (places signals) s → s < n) → All (λ signal. signal.0 < n) signals
all_inside n signals inside =
    All-from_get_or (λ (signal : SigId). signal.0 < n) signals (record { 0 = 0 })
    (λ i below. inside (get_or signals i (record { 0 = 0 })).0
    (subst (Among (places signals)) (get_or-map (λ (signal : SigId). signal.0) signals i (record { 0 = 0 }) 0 below)
    (place_among (places signals) i (let many = length-map signals (λ (signal : SigId). signal.0) in omega (arith, below, many)))))
