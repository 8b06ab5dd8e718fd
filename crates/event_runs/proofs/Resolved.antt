-- Bits of what drivers give, alone and together.
use Rattle.std.proofs.Common.{◌≡◌, ◌∙◌, ◌⊎◌, ◌+◌, ◌-◌, ◌<◌, ◌==◌, ℕ, zero, suc, Bool, true, false, if◌then◌else◌, nat_lt, List, [], ◌∷◌, length, replicate, drop, Option, None, Some, get_or, refl, sym, ap, subst, inl, inr, arith}
use Rattle.std.specs.List.{All, list_any, slice_get}
use Rattle.std.proofs.lemmas.Bool.{and_parts, cases_Bool, eqb-true, false_from_ne_true, false≢true, ltb-true, or_cases, or_left, or_right, true≢false}
use Rattle.std.proofs.lemmas.List.{get_or-drop, get_or-replicate, get_or-take, length-drop, length-replicate, length-take}
use Rattle.std.proofs.lemmas.List.Elements.{All-append, All-cons, All-head, All-nil, All-tail}
use Rattle.std.proofs.lemmas.List.Folds.{list_any-append}
use Rattle.rtl_bits.specs.declared.Bit.{Bit}
use Rattle.rtl_bits.specs.declared.Bit.TheVariants.{Zero, One, X, Z}
use Rattle.rtl_bits.specs.Bit.{resolve_bit}
use Rattle.rtl_bits.specs.Bits.{selected, zip_with}
use Rattle.rtl_flat.specs.Expression.{Tree}
use Rattle.rtl_flat.specs.Flows.{may_select, may_target}
use Rattle.rtl_flat.specs.Process.{Piece, Selection, Whole, BitAt, BitBy, Part, Doing, Assign, Comb, Edge', Task}
use Rattle.rtl_flat.specs.WellFormed.{IsFixed, IsProcess, IsSelection}
use Rattle.event_model.specs.Queue.{bits_in, doing_of, drive_with, net_writes, resolved, resolved_from}
use Rattle.rtl_flat.specs.Flats.{Flat, widths}
use Rattle.event_model.specs.Traces.{Same, covers}
use Rattle.event_model.specs.Writes.{Values, Span, Write, all_written, bit_inside, count_of, counts, driven, no_drive, span_of, write_at, writes, written}
use Rattle.event_laws.specs.Steady.{AreLawful, HaveWidths, IsWithin}
use Rattle.event_laws.proofs.Inside.{AreSelections, at_most, has_width, nets_within, writes_within}
use Rattle.event_laws.proofs.Lengths.{have_written}
use Rattle.event_laws.proofs.Sizes.{selected_length, zip_length}
use Rattle.event_laws.proofs.Targets.{IsOver, none_over, part_over, place_of, target_may}
use Rattle.event_laws.proofs.Written.{covered, covers_from, written_in, written_out}
use Rattle.event_runs.proofs.Writes.{have_all, kept}

-- ---- writes that show given values

-- whether what a write gives to a bit is so
abbrev pub GivesSo : (Bit → Type 0) → ℕ → ℕ → Write → Type 0
GivesSo P i k w = covers i k w ≡ true → P (get_or w.bits (k - w.at) X)

-- a bit that is so, or is written, is so after writes that give it so
pub over_so :
    (d : Flat) (P : Bit → Type 0) (i k : ℕ) (v : Values) (us : List Write) → HaveWidths d v → All (IsWithin (widths d)) us → All (GivesSo P i k) us →
    P (get_or (v i) k X) ⊎ IsOver i k us → P (get_or (all_written v us i) k X)
over_so d P i k v [] have inside gives (inl so) = so
over_so d P i k v [] have inside gives (inr over) = absurd (none_over i k over)
over_so d P i k v (w ∷ us) have inside gives before =
    let here = All-head (IsWithin (widths d)) w us inside in
    over_so d P i k (written v w) us (have_written d v w have here) (All-tail (IsWithin (widths d)) w us inside) (All-tail (GivesSo P i k) w us gives)
    (elim (cases_Bool (covers i k w)) [
      | inl over ↦ inl (subst P (sym (written_in d v w have here i k over)) (All-head (GivesSo P i k) w us gives over))
      | inr not_over ↦ later before (written_out d v w have here i k not_over) not_over
    ])
  where
    later :
        P (get_or (v i) k X) ⊎ IsOver i k (w ∷ us) → Same (written v w) v i k → covers i k w ≡ false →
        P (get_or (written v w i) k X) ⊎ IsOver i k us
    later (inl so) stays not_over = inl (subst P (sym stays) so)
    later (inr over) stays not_over =
        elim (or_cases (covers i k w) (list_any (covers i k) us) over) [
          | inl first ↦ absurd (true≢false (sym first ∙ not_over))
          | inr others ↦ inr others
        ]

-- whether a write gives to a bit what a value has there
abbrev pub Gives : Values → ℕ → ℕ → Write → Type 0
Gives g i k w = GivesSo (λ b. b ≡ get_or (g i) k X) i k w

pub shows_given :
    (d : Flat) (g : Values) (i k : ℕ) (v : Values) (us : List Write) → HaveWidths d v → All (IsWithin (widths d)) us → All (Gives g i k) us →
    Same v g i k ⊎ IsOver i k us → Same (all_written v us) g i k
shows_given d g i k = over_so d (λ b. b ≡ get_or (g i) k X) i k

-- a bit of a part
selected_bit : (at count : ℕ) (a : List Bit) (j : ℕ) → j < length (selected at count a) → get_or (selected at count a) j X ≡ get_or a (at + j) X
selected_bit at count a j below =
    let few = at_most at count a in
    get_or-take count (drop at a) j X (omega (arith, below, few)) ∙ get_or-drop at a j X

part_gives : (given : Values) (signal at count i k : ℕ) → Gives given i k (record { signal = signal; at = at; bits = selected at count (given signal) })
part_gives given signal at count i k over =
    let (here, from, below) = covered i k (record { signal = signal; at = at; bits = selected at count (given signal) }) over in
    let place : at + (k - at) ≡ k = omega (arith, from) in
    selected_bit at count (given signal) (k - at) (omega (arith, from, below))
    ∙ ap (λ j. get_or (given signal) j X) place ∙ ap (λ n. get_or (given n) k X) here

span_gives : (given : Values) (signal i k : ℕ) (span : Option Span) → All (Gives given i k) (write_at signal span (bits_in span (given signal)))
span_gives given signal i k None = All-nil (Gives given i k)
span_gives given signal i k (Some span) =
    All-cons (Gives given i k) (record { signal = signal; at = span.at; bits = selected span.at span.count (given signal) }) []
    (part_gives given signal span.at span.count i k) (All-nil (Gives given i k))

-- the writes of nets give what is given to them
nets_give : (ws : ℕ → ℕ) (given : Values) (i k : ℕ) (target : List Piece) → All (Gives given i k) (net_writes ws given target)
nets_give ws given i k [] = All-nil (Gives given i k)
nets_give ws given i k (piece ∷ others) =
    let span = span_of ws (no_drive ws) piece.signal piece.selection in
    All-append (Gives given i k) (write_at piece.signal span (bits_in span (given piece.signal))) (net_writes ws given others)
    (span_gives given piece.signal i k span) (nets_give ws given i k others)

-- ---- the bits of a target are written

module _ (d : Flat) (given : Values) (wide : HaveWidths d given) (i k : ℕ) where
  bit_over :
      (signal : ℕ) (b : Bool) → b ≡ true → i ≡ signal → k < widths d signal →
      IsOver i k (write_at signal (if b then Some (record { at = k; count = 1 }) else None) (bits_in (if b then Some (record { at = k; count = 1 }) else None) (given signal)))
  bit_over signal false is here below = absurd (false≢true is)
  bit_over signal true is here below =
      let size = wide signal in
      let one = selected_length k 1 (given signal) (omega (arith, size, below)) in
      or_left _ false (covers_from i k (record { signal = signal; at = k; bits = selected k 1 (given signal) }) (sym here) (omega arith) (omega (arith, one)))

  net_part :
      (signal : ℕ) (selection : Selection) → IsSelection d.signals signal selection → IsFixed selection → may_select (widths d) signal selection i k ≡ true →
      IsOver i k (write_at signal (span_of (widths d) (no_drive (widths d)) signal selection) (bits_in (span_of (widths d) (no_drive (widths d)) signal selection) (given signal)))
  net_part signal Whole lawful fixed is =
      let size = wide signal in
      part_over (widths d) (no_drive (widths d)) signal Whole i k (selected 0 (widths d signal) (given signal))
      (selected_length 0 (widths d signal) (given signal) (omega (arith, size))) is
  net_part signal (BitAt low index) lawful fixed is =
      let (here, inside) = and_parts (i == signal) _ is in
      let (below, place) = and_parts (nat_lt k (widths d signal)) _ inside in
      subst (λ z. IsOver i k (write_at signal (bit_inside (widths d signal) z) (bits_in (bit_inside (widths d signal) z) (given signal))))
      (sym (place_of low k index place))
      (bit_over signal (nat_lt k (widths d signal)) below (eqb-true i signal here) (ltb-true k (widths d signal) below))
  net_part signal (BitBy low index) lawful fixed is = absurd fixed
  net_part signal (Part low width) lawful fixed is =
      let size = wide signal in
      let room = has_width (low + width) d.signals signal lawful.1 in
      part_over (widths d) (no_drive (widths d)) signal (Part low width) i k (selected low width (given signal))
      (selected_length low width (given signal) (omega (arith, size, room))) is

  net_over :
      (target : List Piece) → AreSelections d.signals target → All (λ piece. IsFixed piece.selection) target → may_target (widths d) target i k ≡ true →
      IsOver i k (net_writes (widths d) given target)
  net_over [] lawful fixed is = absurd (false≢true is)
  net_over (piece ∷ others) lawful fixed is =
      let span = span_of (widths d) (no_drive (widths d)) piece.signal piece.selection in
      let here = write_at piece.signal span (bits_in span (given piece.signal)) in
      list_any-append (covers i k) here (net_writes (widths d) given others)
      ∙ elim (or_cases (may_select (widths d) piece.signal piece.selection i k) (may_target (widths d) others i k) is) [
        | inl chosen ↦
            or_left (list_any (covers i k) here) _
            (net_part piece.signal piece.selection (All-head (λ (one : Piece). IsSelection d.signals one.signal one.selection) piece others lawful)
            (All-head (λ (one : Piece). IsFixed one.selection) piece others fixed) chosen)
        | inr there ↦
            or_right (list_any (covers i k) here) _
            (net_over others (All-tail (λ (one : Piece). IsSelection d.signals one.signal one.selection) piece others lawful)
            (All-tail (λ (one : Piece). IsFixed one.selection) piece others fixed) there)
      ]

  -- so they show what is given
  pub nets_show :
      (v : Values) (target : List Piece) → HaveWidths d v → AreSelections d.signals target → All (λ piece. IsFixed piece.selection) target →
      may_target (widths d) target i k ≡ true → Same (all_written v (net_writes (widths d) given target)) given i k
  nets_show v target have lawful fixed is =
      shows_given d given i k v (net_writes (widths d) given target) have (nets_within d.signals given target lawful)
      (nets_give (widths d) given i k target) (inr (net_over target lawful fixed is))

-- ---- one driver

module _ (d : Flat) where
  none_wide : HaveWidths d (no_drive (widths d))
  none_wide i = length-replicate (widths d i) Z

  -- what a driver gives has widths
  driven_wide : (target : List Piece) (bits : List Bit) → AreSelections d.signals target → HaveWidths d (driven (widths d) target bits)
  driven_wide target bits lawful =
      have_all d (no_drive (widths d)) (writes (widths d) (no_drive (widths d)) target bits) none_wide
      (writes_within d.signals (no_drive (widths d)) target bits lawful)

  -- it is z where the target has no bit
  pub driven_out :
      (target : List Piece) (bits : List Bit) → AreSelections d.signals target → (i k : ℕ) → k < widths d i → may_target (widths d) target i k ≡ false →
      get_or (driven (widths d) target bits i) k X ≡ Z
  driven_out target bits lawful i k below not_there =
      kept d (no_drive (widths d)) (writes (widths d) (no_drive (widths d)) target bits) none_wide
      (writes_within d.signals (no_drive (widths d)) target bits lawful) i k
      (false_from_ne_true _ (λ over. true≢false (sym (target_may d.signals (no_drive (widths d)) target bits lawful i k over) ∙ not_there)))
      ∙ get_or-replicate (widths d i) k Z X below

  -- a driver with z in all bits gives z everywhere
  z_gives :
      (n i k : ℕ) → k < widths d i → (target : List Piece) → All (Gives (no_drive (widths d)) i k) (writes (widths d) (no_drive (widths d)) target (replicate n Z))
  z_gives n i k below [] = All-nil (Gives (no_drive (widths d)) i k)
  z_gives n i k below (piece ∷ others) =
      let ws = widths d in
      let span = span_of ws (no_drive ws) piece.signal piece.selection in
      let part = selected (counts ws others) (count_of ws piece.signal piece.selection) (replicate n Z) in
      All-append (Gives (no_drive ws) i k) (write_at piece.signal span part) (writes ws (no_drive ws) others (replicate n Z))
      (one span (counts ws others) (count_of ws piece.signal piece.selection)) (z_gives n i k below others)
    where
      each : (at count at' : ℕ) → Gives (no_drive (widths d)) i k (record { signal = piece.signal; at = at'; bits = selected at count (replicate n Z) })
      each at count at' over =
          let bits = selected at count (replicate n Z) in
          let (here, from, within) = covered i k (record { signal = piece.signal; at = at'; bits = bits }) over in
          let all = length-replicate n Z in
          let front = length-take count (drop at (replicate n Z)) in
          let back = length-drop at (replicate n Z) in
          selected_bit at count (replicate n Z) (k - at') (omega (arith, from, within))
          ∙ get_or-replicate n (at + (k - at')) Z X (omega (arith, from, within, all, front, back))
          ∙ sym (get_or-replicate (widths d i) k Z X below)

      one : (span : Option Span) (at count : ℕ) → All (Gives (no_drive (widths d)) i k) (write_at piece.signal span (selected at count (replicate n Z)))
      one None at count = All-nil (Gives (no_drive (widths d)) i k)
      one (Some span) at count =
          All-cons (Gives (no_drive (widths d)) i k) (record { signal = piece.signal; at = span.at; bits = selected at count (replicate n Z) }) []
          (each at count span.at) (All-nil (Gives (no_drive (widths d)) i k))

  pub driven_z :
      (n : ℕ) (target : List Piece) → AreSelections d.signals target → (i k : ℕ) → k < widths d i →
      get_or (driven (widths d) target (replicate n Z) i) k X ≡ Z
  driven_z n target lawful i k below =
      shows_given d (no_drive (widths d)) i k (no_drive (widths d)) (writes (widths d) (no_drive (widths d)) target (replicate n Z)) none_wide
      (writes_within d.signals (no_drive (widths d)) target (replicate n Z) lawful) (z_gives n i k below target) (inl refl)
      ∙ get_or-replicate (widths d i) k Z X below

-- ---- all drivers

zip_bit : (f : Bit → Bit → Bit) (a b : List Bit) (k : ℕ) → k < length a → k < length b → get_or (zip_with f a b) k X ≡ f (get_or a k X) (get_or b k X)
zip_bit f [] b k in_a in_b = absurd (omega (arith, in_a))
zip_bit f (x ∷ a) [] k in_a in_b = absurd (omega (arith, in_b))
zip_bit f (x ∷ a) (y ∷ b) zero in_a in_b = refl
zip_bit f (x ∷ a) (y ∷ b) (suc k) in_a in_b = zip_bit f a b k (omega (arith, in_a)) (omega (arith, in_b))

z_left : (b : Bit) → resolve_bit Z b ≡ b
z_left b = refl

z_right : (b : Bit) → resolve_bit b Z ≡ b
z_right Zero = refl
z_right One = refl
z_right X = refl
z_right Z = refl

module _ (d : Flat) where
  -- lawful processes
  abbrev pub AreAll : List Task → Type 0
  AreAll tasks = (q : ℕ) (does : Doing) → doing_of (slice_get tasks q) ≡ Some does → IsProcess d.signals does

  drive_wide :
      (does : Doing) (bits : List Bit) (i : ℕ) (others : List Bit) → IsProcess d.signals does → length others ≡ widths d i →
      length (drive_with (widths d) does bits i others) ≡ widths d i
  drive_wide (Assign target e) bits i others lawful size =
      zip_length resolve_bit (driven (widths d) target bits i) others (driven_wide d target bits lawful.0.parts i ∙ sym size)
      ∙ driven_wide d target bits lawful.0.parts i
  drive_wide (Comb list body) bits i others lawful size = size
  drive_wide (Edge' events body) bits i others lawful size = size

  resolved_wide_from : (n : ℕ) (tasks : List Task) (driver : ℕ → List Bit) → AreAll tasks → (i : ℕ) → length (resolved_from (widths d) n tasks driver i) ≡ widths d i
  resolved_wide_from n [] driver all i = none_wide d i
  resolved_wide_from n (one ∷ others) driver all i =
      drive_wide one.does (driver n) i (resolved_from (widths d) (n + 1) others driver i) (all 0 one.does refl)
      (resolved_wide_from (n + 1) others driver (λ q. all (suc q)) i)

  -- a bit of what one gives beside others
  drive_bit :
      (target : List Piece) (e : Tree) (bits : List Bit) (i k : ℕ) (others : List Bit) → AreSelections d.signals target → k < widths d i →
      length others ≡ widths d i →
      get_or (drive_with (widths d) (Assign target e) bits i others) k X ≡ resolve_bit (get_or (driven (widths d) target bits i) k X) (get_or others k X)
  drive_bit target e bits i k others lawful below size =
      let mine = driven_wide d target bits lawful i in
      zip_bit resolve_bit (driven (widths d) target bits i) others k (omega (arith, mine, below)) (omega (arith, size, below))

  module _ (i k : ℕ) (below : k < widths d i) where
    -- two lists of drivers that give the same to a bit
    abbrev pub GiveSame : ℕ → List Task → (ℕ → List Bit) → (ℕ → List Bit) → Type 0
    GiveSame n tasks f g =
        (q m : ℕ) (target : List Piece) (e : Tree) → m ≡ n + q → doing_of (slice_get tasks q) ≡ Some (Assign target e) →
        Same (driven (widths d) target (f m)) (driven (widths d) target (g m)) i k

    one_alike :
        (does : Doing) (a b xs ys : List Bit) → IsProcess d.signals does → length xs ≡ widths d i → length ys ≡ widths d i → get_or xs k X ≡ get_or ys k X →
        ((target : List Piece) (e : Tree) → does ≡ Assign target e → Same (driven (widths d) target a) (driven (widths d) target b) i k) →
        get_or (drive_with (widths d) does a i xs) k X ≡ get_or (drive_with (widths d) does b i ys) k X
    one_alike (Assign target e) a b xs ys lawful size size' rest same =
        drive_bit target e a i k xs lawful.0.parts below size
        ∙ ap (λ x. resolve_bit x (get_or xs k X)) (same target e refl)
        ∙ ap (resolve_bit (get_or (driven (widths d) target b i) k X)) rest
        ∙ sym (drive_bit target e b i k ys lawful.0.parts below size')
    one_alike (Comb list body) a b xs ys lawful size size' rest same = rest
    one_alike (Edge' events body) a b xs ys lawful size size' rest same = rest

    pub alike_from :
        (n : ℕ) (tasks : List Task) (f g : ℕ → List Bit) → AreAll tasks → GiveSame n tasks f g →
        Same (resolved_from (widths d) n tasks f) (resolved_from (widths d) n tasks g) i k
    alike_from n [] f g all same = refl
    alike_from n (one ∷ others) f g all same =
        let rest : AreAll others = λ q. all (suc q) in
        one_alike one.does (f n) (g n) (resolved_from (widths d) (n + 1) others f i) (resolved_from (widths d) (n + 1) others g i) (all 0 one.does refl)
        (resolved_wide_from (n + 1) others f rest i) (resolved_wide_from (n + 1) others g rest i)
        (alike_from (n + 1) others f g rest (λ q m target e number there. same (suc q) m target e (omega (arith, number)) there))
        (λ target e is. same 0 n target e (omega arith) (ap Some is))

    one_silent :
        (does : Doing) (bits xs : List Bit) → IsProcess d.signals does → length xs ≡ widths d i →
        ((target : List Piece) (e : Tree) → does ≡ Assign target e → get_or (driven (widths d) target bits i) k X ≡ Z) →
        get_or (drive_with (widths d) does bits i xs) k X ≡ get_or xs k X
    one_silent (Assign target e) bits xs lawful size silent =
        drive_bit target e bits i k xs lawful.0.parts below size ∙ ap (λ x. resolve_bit x (get_or xs k X)) (silent target e refl)
    one_silent (Comb list body) bits xs lawful size silent = refl
    one_silent (Edge' events body) bits xs lawful size silent = refl

    -- drivers that all give z
    abbrev pub AreSilent : ℕ → List Task → (ℕ → List Bit) → Type 0
    AreSilent n tasks driver =
        (q m : ℕ) (target : List Piece) (e : Tree) → m ≡ n + q → doing_of (slice_get tasks q) ≡ Some (Assign target e) →
        get_or (driven (widths d) target (driver m) i) k X ≡ Z

    pub silent_from : (n : ℕ) (tasks : List Task) (driver : ℕ → List Bit) → AreAll tasks → AreSilent n tasks driver → get_or (resolved_from (widths d) n tasks driver i) k X ≡ Z
    silent_from n [] driver all silent = get_or-replicate (widths d i) k Z X below
    silent_from n (one ∷ others) driver all silent =
        let rest : AreAll others = λ q. all (suc q) in
        one_silent one.does (driver n) (resolved_from (widths d) (n + 1) others driver i) (all 0 one.does refl) (resolved_wide_from (n + 1) others driver rest i)
        (λ target e is. silent 0 n target e (omega arith) (ap Some is))
        ∙ silent_from (n + 1) others driver rest (λ q m target e number there. silent (suc q) m target e (omega (arith, number)) there)

    -- one driver among those that give z
    pub alone_from :
        (n : ℕ) (tasks : List Task) (driver : ℕ → List Bit) → AreAll tasks → (p m : ℕ) (target : List Piece) (e : Tree) → m ≡ n + p →
        doing_of (slice_get tasks p) ≡ Some (Assign target e) →
        ((q m : ℕ) (target' : List Piece) (e' : Tree) → (q ≡ p → ⊥) → m ≡ n + q → doing_of (slice_get tasks q) ≡ Some (Assign target' e') →
        get_or (driven (widths d) target' (driver m) i) k X ≡ Z) →
        Same (resolved_from (widths d) n tasks driver) (driven (widths d) target (driver m)) i k
    alone_from n [] driver all p m target e number here silent = absurd (cc)
    alone_from n (one ∷ others) driver all zero m target e number here silent =
        let rest : AreAll others = λ q. all (suc q) in
        let is : one.does ≡ Assign target e = cc in
        let same : m ≡ n = omega (arith, number) in
        let xs = resolved_from (widths d) (n + 1) others driver i in
        ap (λ does. get_or (drive_with (widths d) does (driver n) i xs) k X) is
        ∙ drive_bit target e (driver n) i k xs (all 0 (Assign target e) here).0.parts below (resolved_wide_from (n + 1) others driver rest i)
        ∙ ap (resolve_bit (get_or (driven (widths d) target (driver n) i) k X))
        (silent_from (n + 1) others driver rest (λ q m' target' e' number' there. silent (suc q) m' target' e' (λ meets. absurd (omega (arith, meets))) (omega (arith, number')) there))
        ∙ z_right _ ∙ ap (λ j. get_or (driven (widths d) target (driver j) i) k X) (sym same)
    alone_from n (one ∷ others) driver all (suc p) m target e number here silent =
        let rest : AreAll others = λ q. all (suc q) in
        one_silent one.does (driver n) (resolved_from (widths d) (n + 1) others driver i) (all 0 one.does refl) (resolved_wide_from (n + 1) others driver rest i)
        (λ target' e' is. silent 0 n target' e' (λ meets. absurd (omega (arith, meets))) (omega arith) (ap Some is))
        ∙ alone_from (n + 1) others driver rest p m target e (omega (arith, number)) here
        (λ q m' target' e' other number' there. silent (suc q) m' target' e' (λ meets. other (omega (arith, meets))) (omega (arith, number')) there)

  pub resolved_wide : AreLawful d → (driver : ℕ → List Bit) → HaveWidths d (resolved d driver)
  resolved_wide lawful driver = resolved_wide_from 0 d.tasks driver lawful
