-- From numbers the function of any body gives digits.
use Rattle.std.proofs.Common.{◌≡◌, ◌∙◌, ◌-◌, ◌<◌, ℕ, Bool, true, false, cond, not, ◌&&◌, if◌then◌else◌, List, [], ◌∷◌, length, get_or, All, Option, None, Some, refl, sym, subst, inl, inr, arith}
use Rattle.std.specs.Prelude.{unwrap_or}
use Rattle.std.proofs.lemmas.Bool.{cases_Bool, cond-false, cond-true}
use Rattle.std.proofs.lemmas.List.Elements.{All-append, All-head, All-nil, All-tail}
use Rattle.rtl_bits.specs.declared.Bit.{Bit}
use Rattle.rtl_bits.specs.declared.Bit.TheVariants.{X}
use Rattle.rtl_bits.specs.Bit.{is_one}
use Rattle.rtl_bits.specs.Bits.{selected, truth_bit}
use Rattle.rtl_bits.specs.Inside.{length-tabulate}
use Rattle.rtl_bits.proofs.Lists.{get_or-tabulate}
use Rattle.rtl_flat.specs.declared.act.CaseKind.{CaseKind}
use Rattle.rtl_flat.specs.Expression.{Tree}
use Rattle.rtl_flat.specs.Flows.{action_then}
use Rattle.rtl_flat.specs.Paths.{BitSet, End, may_write_blocking, may_write_delayed}
use Rattle.rtl_flat.specs.Process.{Piece, Action, Set, If, Case, Block, Actions, Done, Then, Otherwise, Without, With, Branches, NoBranch, Branch}
use Rattle.rtl_flat.specs.WellFormed.{AreBranches, IsAction, IsBody, IsOtherwise}
use Rattle.rtl_flat.specs.Flats.{Flat, widths}
use Rattle.event_model.specs.Traces.{covers}
use Rattle.event_model.specs.Writes.{Values, Write, count_of, counts, write_at}
use Rattle.event_laws.specs.Steady.{IsWithin}
use Rattle.event_laws.proofs.Lengths.{have_written}
use Rattle.event_laws.proofs.Written.{covered}
use Rattle.net_model.specs.declared.fill.Fill.{Fill}
use Rattle.net_model.specs.Block.{Maps, act, act_arms, act_first, act_other, acts, arm_bits, arms_late, arms_write, bit_after, digit_writes, filled_case, fresh, item_meets, joined_arms, some_meets, span_by, with_bits, write_each, write_next, write_now}
use Rattle.net_model.specs.Numbers.{AreNumbers, bit, digits, fill_bit}
use Rattle.net_laws.proofs.Depends.{with_wide, writes_within}
use Rattle.net_laws.proofs.Digits.{digits_known, fill_known}
use Rattle.net_laws.proofs.Known.{Known, KnownBit, known_at, known_each, or_known, selected_known}
use Rattle.net_laws.proofs.Numbers.{IsKnownWrite, part_known, written_known}

-- maps whose bits are digits
pub record IsNumeric (d : Flat) (m : Maps) : Type 0 where
  pub now : AreNumbers d m.now
  pub next : (i k : ℕ) (b : Bit) → k < widths d i → m.next i k ≡ Some b → KnownBit b

-- ---- writes

digit_known : (ws : ℕ → ℕ) (f : Fill) (n : Values) (target : List Piece) (bits : List Bit) → Known bits → All IsKnownWrite (digit_writes ws f n target bits)
digit_known ws f n [] bits known = All-nil IsKnownWrite
digit_known ws f n (piece ∷ others) bits known =
    let count = count_of ws piece.signal piece.selection in
    let at = span_by ws f n piece.signal piece.selection in
    All-append IsKnownWrite (write_at piece.signal at (selected (counts ws others) count bits)) (digit_writes ws f n others bits)
    (part_known piece.signal at (selected (counts ws others) count bits) (selected_known (counts ws others) count bits known))
    (digit_known ws f n others bits known)

module _ (d : Flat) where
  now_numeric : (m : Maps) (w : Write) → IsWithin (widths d) w → IsKnownWrite w → IsNumeric d m → IsNumeric d (write_now m w)
  now_numeric m w inside known is =
      record {
        now = record { wide = have_written d m.now w is.now.wide inside; known = written_known m.now w known is.now.known };
        next = is.next;
      }

  next_numeric : (m : Maps) (w : Write) → IsKnownWrite w → IsNumeric d m → IsNumeric d (write_next m w)
  next_numeric m w known is = record { now = is.now; next = at }
    where
      at : (i k : ℕ) (b : Bit) → k < widths d i → cond (covers i k w) (Some (get_or w.bits (k - w.at) X)) (m.next i k) ≡ Some b → KnownBit b
      at i k b below e =
          elim (cases_Bool (covers i k w)) [
            | inl over ↦
                let place = covered i k w over in
                let from = place.1 in
                let end = place.2 in
                let some : Some (get_or w.bits (k - w.at) X) ≡ Some b = sym (cond-true (covers i k w) (Some (get_or w.bits (k - w.at) X)) (m.next i k) over) ∙ e in
                let same : get_or w.bits (k - w.at) X ≡ b = cc in
                subst KnownBit same (known_at w.bits (k - w.at) known (omega (arith, from, end)))
            | inr not_over ↦ is.next i k b below (sym (cond-false (covers i k w) (Some (get_or w.bits (k - w.at) X)) (m.next i k) not_over) ∙ e)
          ]

  each_numeric : (delayed : Bool) (m : Maps) (us : List Write) → All (IsWithin (widths d)) us → All IsKnownWrite us → IsNumeric d m → IsNumeric d (write_each delayed m us)
  each_numeric delayed m [] inside known is = is
  each_numeric true m (w ∷ us) inside known is =
      each_numeric true (write_next m w) us (All-tail (IsWithin (widths d)) w us inside) (All-tail IsKnownWrite w us known)
      (next_numeric m w (All-head IsKnownWrite w us known) is)
  each_numeric false m (w ∷ us) inside known is =
      each_numeric false (write_now m w) us (All-tail (IsWithin (widths d)) w us inside) (All-tail IsKnownWrite w us known)
      (now_numeric m w (All-head (IsWithin (widths d)) w us inside) (All-head IsKnownWrite w us known) is)

  -- ---- cases

  either_known : (c : Bool) (x y : Bit) → KnownBit x → KnownBit y → KnownBit (cond c x y)
  either_known true x y left right = left
  either_known false x y left right = right

  with_numbers : (n : Values) (bits : BitSet) (new : ℕ → ℕ → Bit) → AreNumbers d n → ((i k : ℕ) → k < widths d i → KnownBit (new i k)) → AreNumbers d (with_bits n bits new)
  with_numbers n bits new are known =
      record {
        wide = with_wide d (λ i k. Unit {0}) n bits new are.wide;
        known = λ i. known_each (with_bits n bits new i) (λ k below. at i k below);
      }
    where
      at : (i k : ℕ) → k < length (with_bits n bits new i) → KnownBit (get_or (with_bits n bits new i) k X)
      at i k below =
          let long = length-tabulate (length (n i)) (λ j. cond (bits i j) (new i j) (bit n i j)) in
          let wide = are.wide i in
          subst KnownBit (sym (get_or-tabulate (length (n i)) (λ j. cond (bits i j) (new i j) (bit n i j)) k X (omega (arith, below, long))))
          (either_known (bits i k) (new i k) (bit n i k) (known i k (omega (arith, below, long, wide))) (known_at (n i) k (are.known i) (omega (arith, below, long))))

  -- a bit that may be written at the end
  either_next : (c : Bool) (x : Bit) (old : Option Bit) (b : Bit) → KnownBit x → (old ≡ Some b → KnownBit b) → cond c (Some x) old ≡ Some b → KnownBit b
  either_next true x old b known before e = let same : x ≡ b = cc in subst KnownBit same known
  either_next false x old b known before e = before e

  promised_numeric : (full : Bool) (f : Fill) (at_once later : BitSet) (m : Maps) → IsNumeric d m → IsNumeric d (cond full (filled_case f at_once later m) m)
  promised_numeric false f at_once later m is = is
  promised_numeric true f at_once later m is =
      record {
        now = with_numbers m.now at_once (λ i k. fill_bit f) is.now (λ i k below. fill_known f);
        next = λ i k b below. either_next (later i k) (fill_bit f) (m.next i k) b (fill_known f) (is.next i k b below);
      }

  abbrev AreNumeric : List Maps → Type 0
  AreNumeric [] = Unit {0}
  AreNumeric (m ∷ ms) = IsNumeric d m × AreNumeric ms

  after_known : (m : Maps) → IsNumeric d m → (i k : ℕ) → k < widths d i → (o : Option Bit) → m.next i k ≡ o → KnownBit (unwrap_or o (bit m.now i k))
  after_known m is i k below None e =
      let wide = is.now.wide i in
      known_at (m.now i) k (is.now.known i) (omega (arith, below, wide))
  after_known m is i k below (Some b) e = is.next i k b below e

  pub numeric_bit : (m : Maps) → IsNumeric d m → (i k : ℕ) → k < widths d i → KnownBit (bit_after m i k)
  numeric_bit m is i k below = after_known m is i k below (m.next i k) refl

  arms_known : (arms : List Maps) → AreNumeric arms → (i k : ℕ) → k < widths d i → KnownBit (arm_bits arms i k)
  arms_known [] are i k below = refl
  arms_known (m ∷ ms) are i k below =
      or_known (bit_after m i k) (arm_bits ms i k) (numeric_bit m are.0 i k below) (arms_known ms are.1 i k below)

  joined_numeric : (m : Maps) (arms : List Maps) → IsNumeric d m → AreNumeric arms → IsNumeric d (joined_arms m arms)
  joined_numeric m arms is are =
      record {
        now = with_numbers m.now (λ i k. arms_write arms i k && not (arms_late arms i k)) (arm_bits arms) is.now (arms_known arms are);
        next = λ i k b below. either_next (arms_late arms i k) (arm_bits arms i k) (m.next i k) b (arms_known arms are i k below) (is.next i k b below);
      }

  either_numeric : (c : Bool) (x y : Maps) → IsNumeric d x → IsNumeric d y → IsNumeric d (if c then x else y)
  either_numeric true x y left right = left
  either_numeric false x y left right = right

  more_numeric : (c : Bool) (x : Maps) (xs : List Maps) → IsNumeric d x → AreNumeric xs → AreNumeric (if c then x ∷ xs else xs)
  more_numeric true x xs first others = (first, others)
  more_numeric false x xs first others = others

module _ (d : Flat) (f : Fill) where
  abbrev ws : ℕ → ℕ
  ws = widths d

  mutual
    action_numeric : (m : Maps) → IsNumeric d m → (a : Action) → IsAction d.signals a → IsNumeric d (act ws f m a)
    action_numeric m is (Set target e delayed spot) lawful =
        let bits = digits f m.now e in
        each_numeric d delayed m (digit_writes ws f m.now target bits) (writes_within d f m.now target lawful.parts bits)
        (digit_known ws f m.now target bits (digits_known d f m.now is.now e lawful.sized.widths)) is
    action_numeric m is (If test taken other spot) lawful =
        either_numeric d (is_one (truth_bit (digits f m.now test))) (acts ws f m taken) (act_other ws f m m other)
        (body_numeric m is taken lawful.1) (other_numeric m is m is other lawful.2)
    action_numeric m is (Case kind full parallel selector branches fallback spot) lawful =
        let bits = digits f m.now selector in
        let flow = action_then ws (Case kind full parallel selector branches fallback spot) End in
        let past = cond full (filled_case f (may_write_blocking flow) (may_write_delayed flow) m) m in
        either_numeric d (parallel && item_meets f m.now kind bits branches) (joined_arms m (act_arms ws f m kind bits branches)) (act_first ws f m kind bits (act_other ws f m past fallback) branches)
        (joined_numeric d m (act_arms ws f m kind bits branches) is (arms_numeric m is kind selector bits branches lawful.1))
        (items_numeric m is kind selector bits (act_other ws f m past fallback)
        (other_numeric m is past (promised_numeric d full f (may_write_blocking flow) (may_write_delayed flow) m is) fallback lawful.2) branches lawful.1)
    action_numeric m is (Block body) lawful = body_numeric m is body lawful

    pub body_numeric : (m : Maps) → IsNumeric d m → (body : Actions) → IsBody d.signals body → IsNumeric d (acts ws f m body)
    body_numeric m is Done lawful = is
    body_numeric m is (Then first others) lawful =
        body_numeric (act ws f m first) (action_numeric m is first lawful.0) others lawful.1

    other_numeric : (m : Maps) → IsNumeric d m → (past : Maps) → IsNumeric d past → (other : Otherwise) → IsOtherwise d.signals other → IsNumeric d (act_other ws f m past other)
    other_numeric m is past without Without lawful = without
    other_numeric m is past without (With body) lawful = body_numeric m is body lawful

    items_numeric :
        (m : Maps) → IsNumeric d m → (kind : CaseKind) (selector : Tree) (bits : List Bit) (none : Maps) → IsNumeric d none → (branches : Branches) → AreBranches d.signals selector branches →
        IsNumeric d (act_first ws f m kind bits none branches)
    items_numeric m is kind selector bits none past NoBranch lawful = past
    items_numeric m is kind selector bits none past (Branch labels body others) lawful =
        either_numeric d (some_meets f m.now kind bits labels) (acts ws f m body) (act_first ws f m kind bits none others)
        (body_numeric m is body lawful.3) (items_numeric m is kind selector bits none past others lawful.4)

    arms_numeric :
        (m : Maps) → IsNumeric d m → (kind : CaseKind) (selector : Tree) (bits : List Bit) (branches : Branches) → AreBranches d.signals selector branches →
        AreNumeric d (act_arms ws f m kind bits branches)
    arms_numeric m is kind selector bits NoBranch lawful = tt
    arms_numeric m is kind selector bits (Branch labels body others) lawful =
        more_numeric d (some_meets f m.now kind bits labels) (acts ws f (fresh m) body) (act_arms ws f m kind bits others)
        (body_numeric (fresh m) (record { now = is.now; next = is.next }) body lawful.3) (arms_numeric m is kind selector bits others lawful.4)
