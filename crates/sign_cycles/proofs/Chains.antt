-- Bodies that wait for edges: their resets, and what is done at the clock's edge.
use Rattle.std.proofs.Common.{◌≡◌, ◌∙◌, ◌||◌, ◌≤◌, ℕ, Bool, true, false, cond, if◌then◌else◌, List, [], ◌∷◌, length, map, Option, Some, refl, sym, ap, subst, inl, inr, arith}
use Rattle.std.specs.Prelude.{IsTrue}
use Rattle.std.specs.List.{All, list_any}
use Rattle.std.proofs.lemmas.Bool.{cases_Bool, cond-false, cond-true, false≢true, or_left, or_right}
use Rattle.std.proofs.lemmas.List.Elements.{All-cons, All-head, All-nil, All-tail}
use Rattle.rtl_bits.specs.declared.Bit.{Bit}
use Rattle.rtl_bits.specs.declared.Bit.TheVariants.{Zero, One, X, Z}
use Rattle.rtl_bits.specs.declared.Edge.{Edge}
use Rattle.rtl_bits.specs.declared.Edge.TheVariants.{No, Pos, Neg}
use Rattle.rtl_bits.specs.Bit.{is_one, is_unknown}
use Rattle.rtl_bits.specs.Bits.{same_bit, truth_bit}
use Rattle.text_ground.specs.declared.text.Spot.{Spot}
use Rattle.rtl_flat.specs.Expression.{Tree}
use Rattle.rtl_flat.specs.Flows.{body_flow, reads}
use Rattle.rtl_flat.specs.Paths.{Read, Step, MayWrite, MayWriteLate, MayWriteNow, ReadsOutside, first, may_write_late, may_write_now, reads_bit, some, writes_now}
use Rattle.rtl_flat.specs.Process.{Watched, Set, If, Case, Block, Actions, Done, Then, With}
use Rattle.rtl_flat.specs.WellFormed.{IsBody, has_edge}
use Rattle.rtl_flat.proofs.Paths.{decided}
use Rattle.event_model.specs.Queue.{happens}
use Rattle.rtl_flat.specs.Flats.{Flat, widths}
use Rattle.event_model.specs.Writes.{Values}
use Rattle.net_model.specs.declared.fill.Fill.{Fill}
use Rattle.net_model.specs.Block.{Maps, acts, first_maps, bit_after, block_bit}
use Rattle.net_model.specs.Cycle.{Guard, IsChained, Tests, clocked_bit, is_active, item_bit, level, opened, reset_bit, strongest}
use Rattle.net_model.specs.Numbers.{AreNumbers, bit, digits}
use Rattle.net_model.specs.Solution.{IsLasting}
use Rattle.net_rest.specs.net_laws.Tame.{AreExclusive, AreSplit, AreTame}
use Rattle.net_rest.proofs.net_laws_proofs.Laws.{tame_depends}
use Rattle.sign_cycles.specs.Formed.{IsConstant}

-- a body whose run from numbers is as synthesis takes it
pub record IsUsable (d : Flat) (body : Actions) : Type 0 where
  pub lawful : IsBody d.signals body
  pub tame : AreTame d body
  pub split : AreSplit d body

-- ---- bodies without the blocks that hold nothing else

opened_flow : (ws : ℕ → ℕ) (body : Actions) → body_flow ws (opened body) ≡ body_flow ws body
opened_flow ws Done = refl
opened_flow ws (Then (Set target e delayed spot) others) = refl
opened_flow ws (Then (If test taken other spot) others) = refl
opened_flow ws (Then (Case kind full parallel selector branches fallback spot) others) = refl
opened_flow ws (Then (Block body) Done) = opened_flow ws body
opened_flow ws (Then (Block body) (Then one others)) = refl

opened_acts : (ws : ℕ → ℕ) (f : Fill) (m : Maps) (body : Actions) → acts ws f m (opened body) ≡ acts ws f m body
opened_acts ws f m Done = refl
opened_acts ws f m (Then (Set target e delayed spot) others) = refl
opened_acts ws f m (Then (If test taken other spot) others) = refl
opened_acts ws f m (Then (Case kind full parallel selector branches fallback spot) others) = refl
opened_acts ws f m (Then (Block body) Done) = opened_acts ws f m body
opened_acts ws f m (Then (Block body) (Then one others)) = refl

module _ (d : Flat) where
  opened_lawful : (body : Actions) → IsBody d.signals body → IsBody d.signals (opened body)
  opened_lawful Done lawful = lawful
  opened_lawful (Then (Set target e delayed spot) others) lawful = lawful
  opened_lawful (Then (If test taken other spot) others) lawful = lawful
  opened_lawful (Then (Case kind full parallel selector branches fallback spot) others) lawful = lawful
  opened_lawful (Then (Block body) Done) lawful = opened_lawful body lawful.0
  opened_lawful (Then (Block body) (Then one others)) lawful = lawful

  opened_tame : (body : Actions) → AreTame d body → AreTame d (opened body)
  opened_tame Done tame = tame
  opened_tame (Then (Set target e delayed spot) others) tame = tame
  opened_tame (Then (If test taken other spot) others) tame = tame
  opened_tame (Then (Case kind full parallel selector branches fallback spot) others) tame = tame
  opened_tame (Then (Block body) Done) tame = opened_tame body tame.0
  opened_tame (Then (Block body) (Then one others)) tame = tame

  opened_exclusive : (body : Actions) → AreExclusive d body → AreExclusive d (opened body)
  opened_exclusive Done exclusive = exclusive
  opened_exclusive (Then (Set target e delayed spot) others) exclusive = exclusive
  opened_exclusive (Then (If test taken other spot) others) exclusive = exclusive
  opened_exclusive (Then (Case kind full parallel selector branches fallback spot) others) exclusive = exclusive
  opened_exclusive (Then (Block body) Done) exclusive = opened_exclusive body exclusive.0
  opened_exclusive (Then (Block body) (Then one others)) exclusive = exclusive

  pub opened_usable : (body : Actions) → IsUsable d body → IsUsable d (opened body)
  opened_usable body usable =
      record {
        lawful = opened_lawful body usable.lawful;
        tame = opened_tame body usable.tame;
        split = record {
          one_way = λ i k now late.
              usable.split.one_way i k (subst (λ flow. MayWriteNow flow i k) (opened_flow (widths d) body) now)
              (subst (λ flow. MayWriteLate flow i k) (opened_flow (widths d) body) late);
          exclusive = opened_exclusive body usable.split.exclusive;
        };
      }

  -- ---- the two branches of an `if`

  -- of what a body writes, a part writes some
  part_split : (body part : Actions) → ((f : Step → Bool) → some f (body_flow (widths d) part) ≡ true → some f (body_flow (widths d) body) ≡ true) → AreSplit d body → AreExclusive d part → AreSplit d part
  part_split body part inside split exclusive =
      record {
        one_way = λ i k now late.
            split.one_way i k
            ((decided (body_flow (widths d) body) i k).now.0 (inside (may_write_now i k) ((decided (body_flow (widths d) part) i k).now.1 now)))
            ((decided (body_flow (widths d) body) i k).late.0 (inside (may_write_late i k) ((decided (body_flow (widths d) part) i k).late.1 late)));
        exclusive = exclusive;
      }

  module _ (test : Tree) (taken other : Actions) (spot : Spot) where
    abbrev whole : Actions
    whole = Then (If test taken (With other) spot) Done

    in_taken : (f : Step → Bool) → some f (body_flow (widths d) taken) ≡ true → some f (body_flow (widths d) whole) ≡ true
    in_taken f h =
        or_right (f (Read (reads (widths d) test))) _
        (or_left _ false (or_right (some f (body_flow (widths d) other)) (some f (body_flow (widths d) taken)) h))

    in_other : (f : Step → Bool) → some f (body_flow (widths d) other) ≡ true → some f (body_flow (widths d) whole) ≡ true
    in_other f h =
        or_right (f (Read (reads (widths d) test))) _
        (or_left _ false (or_left (some f (body_flow (widths d) other)) (some f (body_flow (widths d) taken)) h))

    taken_usable : IsUsable d whole → IsUsable d taken
    taken_usable usable =
        record {
          lawful = usable.lawful.0.1;
          tame = usable.tame.0.1;
          split = part_split whole taken in_taken usable.split usable.split.exclusive.0.0;
        }

    other_usable : IsUsable d whole → IsUsable d other
    other_usable usable =
        record {
          lawful = usable.lawful.0.2;
          tame = usable.tame.0.2;
          split = part_split whole other in_other usable.split usable.split.exclusive.0.1;
        }

  -- ---- resets

  -- what is done at the clock's edge
  pub part_usable : (resets : List Guard) (part body : Actions) → IsChained resets part body → IsUsable d body → IsUsable d part
  part_usable [] part body chained usable = subst (IsUsable d) chained usable
  part_usable (guard ∷ others) part body (other, spot, is, rest) usable =
      part_usable others part other rest
      (other_usable guard.test guard.branch other spot (subst (IsUsable d) is (opened_usable body usable)))

  -- what it reads outside the body does
  pub part_reads : (resets : List Guard) (part body : Actions) → IsChained resets part body → (i k : ℕ) → ReadsOutside (body_flow (widths d) part) i k → ReadsOutside (body_flow (widths d) body) i k
  part_reads [] part body chained i k outside =
      subst (λ (one : Actions). ReadsOutside (body_flow (widths d) one) i k) (sym chained) outside
  part_reads (guard ∷ others) part body (other, spot, is, rest) i k outside =
      let within = part_reads others part other rest i k outside in
      let read = (decided (body_flow (widths d) other) i k).outside.1 within in
      let flow = body_flow (widths d) (whole guard.test guard.branch other spot) in
      let whole_reads : ReadsOutside flow i k = (decided flow i k).outside.0 (in_first guard.test guard.branch other (reads_bit i k) (writes_now i k) refl read) in
      subst (λ one. ReadsOutside one i k) (opened_flow (widths d) body)
      (subst (λ (one : Actions). ReadsOutside (body_flow (widths d) one) i k) (sym is) whole_reads)
    where
      in_first : (test : Tree) (taken other' : Actions) (f g : Step → Bool) → g (Read (reads (widths d) test)) ≡ false → first f g (body_flow (widths d) other') ≡ true → first f g (body_flow (widths d) (whole test taken other' spot)) ≡ true
      in_first test taken other' f g none h =
          or_right (f (Read (reads (widths d) test))) _
          (rw none (or_left _ _ (or_left (first f g (body_flow (widths d) other')) (first f g (body_flow (widths d) taken)) h)))

  -- and what each reset does
  pub branches_usable : (resets : List Guard) (part body : Actions) → IsChained resets part body → IsUsable d body → All (λ (guard : Guard). IsUsable d guard.branch) resets
  branches_usable [] part body chained usable = All-nil (λ (guard : Guard). IsUsable d guard.branch)
  branches_usable (guard ∷ others) part body (other, spot, is, rest) usable =
      let whole = subst (IsUsable d) is (opened_usable body usable) in
      All-cons (λ (one : Guard). IsUsable d one.branch) guard others (taken_usable guard.test guard.branch other spot whole)
      (branches_usable others part other rest (other_usable guard.test guard.branch other spot whole))

  -- what holds of each reset holds of the strongest
  pub strongest_is : (P : Guard → Type 0) (n : Values) (resets : List Guard) → All P resets → (guard : Guard) → strongest n resets ≡ Some guard → P guard
  strongest_is P n [] all guard is = absurd (cc)
  strongest_is P n (first ∷ others) all guard is =
      elim (cases_Bool (is_active n first.item)) [
        | inl on ↦
            let found : Some first ≡ Some guard = sym (cond-true (is_active n first.item) (Some first) (strongest n others) on) ∙ is in
            let same : first ≡ guard = cc in
            subst P same (All-head P first others all)
        | inr off ↦
            strongest_is P n others (All-tail P first others all) guard
            (sym (cond-false (is_active n first.item) (Some first) (strongest n others) off) ∙ is)
      ]

  -- it is the same where the resets are
  pub strongest_same : (n m : Values) (resets : List Guard) → All (λ (guard : Guard). item_bit n guard.item ≡ item_bit m guard.item) resets → strongest n resets ≡ strongest m resets
  strongest_same n m [] same = refl
  strongest_same n m (guard ∷ others) same =
      ap (λ (b : Bit). cond (same_bit b (level guard.item.edge)) (Some guard) (strongest n others)) (All-head (λ (one : Guard). item_bit n one.item ≡ item_bit m one.item) guard others same)
      ∙ ap (λ (o : Option Guard). cond (is_active m guard.item) (Some guard) o) (strongest_same n m others (All-tail (λ (one : Guard). item_bit n one.item ≡ item_bit m one.item) guard others same))

  -- the function of a body is that of the strongest reset, or of what is done at the clock's edge
  module _ (f : Fill) (n : Values) (are : AreNumbers d n) (i k : ℕ) where
    abbrev chosen : Actions → Actions → Bool → Bit
    chosen taken other b =
        bit_after (if b then acts (widths d) f (first_maps n) taken else acts (widths d) f (first_maps n) other) i k

    abbrev by_strongest : Actions → Option Guard → Bit
    by_strongest part o = reset_bit (widths d) f n o (block_bit (widths d) f n part i k) i k

    pub chain_bit :
        (resets : List Guard) (part body : Actions) → IsChained resets part body → All (Tests d) resets →
        block_bit (widths d) f n body i k ≡ reset_bit (widths d) f n (strongest n resets) (block_bit (widths d) f n part i k) i k
    chain_bit [] part body chained tests = ap (λ b. block_bit (widths d) f n b i k) chained
    chain_bit (guard ∷ others) part body (other, spot, is, rest) tests =
        let test : is_one (truth_bit (digits f n guard.test)) ≡ is_active n guard.item = All-head (Tests d) guard others tests f n are in
        ap (λ (m : Maps). bit_after m i k) (sym (opened_acts (widths d) f (first_maps n) body) ∙ ap (acts (widths d) f (first_maps n)) is)
        ∙ elim (cases_Bool (is_active n guard.item)) [
          | inl on ↦
              ap (chosen guard.branch other) (test ∙ on)
              ∙ sym (ap (by_strongest part) (cond-true (is_active n guard.item) (Some guard) (strongest n others) on))
          | inr off ↦
              ap (chosen guard.branch other) (test ∙ off)
              ∙ chain_bit others part other rest (All-tail (Tests d) guard others tests)
              ∙ sym (ap (by_strongest part) (cond-false (is_active n guard.item) (Some guard) (strongest n others) off))
        ]

  -- a reset gives its constant from any numbers
  pub constant_bit :
      (f : Fill) (n m : Values) → AreNumbers d n → AreNumbers d m → (body branch : Actions) → IsUsable d branch → IsConstant d body branch →
      (i k : ℕ) → MayWrite (body_flow (widths d) body) i k → IsLasting d i → block_bit (widths d) f n branch i k ≡ block_bit (widths d) f m branch i k
  constant_bit f n m are are' body branch usable constant i k may lasts =
      tame_depends d f n m branch i k are are' usable.lawful usable.tame usable.split
      (λ j l reads'. absurd (constant.reads_nothing j l reads')) (inr (constant.sets i k may lasts))

-- ---- levels and edges

-- a reset that is active, and not by this change, was so before
stays_active : (edge : Edge) (a b : Bit) → IsTrue (has_edge edge) → is_unknown a ≡ false → is_unknown b ≡ false → same_bit b (level edge) ≡ true → happens edge a b ≡ false → same_bit a (level edge) ≡ true
stays_active No a b edged known known' on none = absurd (false≢true edged)
stays_active Pos One b edged known known' on none = refl
stays_active Pos Zero One edged known known' on none = absurd (false≢true (sym none))
stays_active Pos Zero Zero edged known known' on none = on
stays_active Pos Zero X edged known known' on none = on
stays_active Pos Zero Z edged known known' on none = on
stays_active Pos X b edged known known' on none = absurd (false≢true (sym known))
stays_active Pos Z b edged known known' on none = absurd (false≢true (sym known))
stays_active Neg Zero b edged known known' on none = refl
stays_active Neg One Zero edged known known' on none = absurd (false≢true (sym none))
stays_active Neg One One edged known known' on none = on
stays_active Neg One X edged known known' on none = on
stays_active Neg One Z edged known known' on none = on
stays_active Neg X b edged known known' on none = absurd (false≢true (sym known))
stays_active Neg Z b edged known known' on none = absurd (false≢true (sym known))

-- a change that leaves it inactive is none of its edges
pub no_edge_away : (edge : Edge) (a b : Bit) → IsTrue (has_edge edge) → is_unknown a ≡ false → is_unknown b ≡ false → same_bit b (level edge) ≡ false → happens edge a b ≡ false
no_edge_away No a b edged known known' off = absurd (false≢true edged)
no_edge_away Pos a One edged known known' off = absurd (false≢true (sym off))
no_edge_away Pos Zero Zero edged known known' off = refl
no_edge_away Pos One Zero edged known known' off = refl
no_edge_away Pos X b edged known known' off = absurd (false≢true (sym known))
no_edge_away Pos Z b edged known known' off = absurd (false≢true (sym known))
no_edge_away Pos a X edged known known' off = absurd (false≢true (sym known'))
no_edge_away Pos a Z edged known known' off = absurd (false≢true (sym known'))
no_edge_away Neg a Zero edged known known' off = absurd (false≢true (sym off))
no_edge_away Neg Zero One edged known known' off = refl
no_edge_away Neg One One edged known known' off = refl
no_edge_away Neg X b edged known known' off = absurd (false≢true (sym known))
no_edge_away Neg Z b edged known known' off = absurd (false≢true (sym known))
no_edge_away Neg a X edged known known' off = absurd (false≢true (sym known'))
no_edge_away Neg a Z edged known known' off = absurd (false≢true (sym known'))

-- ---- what a register takes

-- an item that waits for an edge, and whose bits are known before a step and after it
pub record IsKnownItem (old new : Values) (item : Watched) : Type 0 where
  pub edged : IsTrue (has_edge item.edge)
  pub before : is_unknown (item_bit old item) ≡ false
  pub after : is_unknown (item_bit new item) ≡ false

abbrev pub fires_at : Values → Values → Watched → Bool
fires_at old new item = happens item.edge (item_bit old item) (item_bit new item)

module _ (ws : ℕ → ℕ) (f : Fill) (old new : Values) (clock : Watched) (part : Actions) (i k : ℕ) (asked : Bit) where
  abbrev gives : Option Guard → Bit
  gives o = reset_bit ws f old o (clocked_bit ws f old new clock part i k) i k

  -- where no reset is active a register takes what the clock gives
  by_clock : (b : Bool) → asked ≡ block_bit ws f old part i k → (if b then asked else bit old i k) ≡ cond b (block_bit ws f old part i k) (bit old i k)
  by_clock true is = is
  by_clock false is = refl

  by_reset : (b : Bool) (constant : Bit) → asked ≡ constant → (b ≡ false → bit old i k ≡ constant) → (if b then asked else bit old i k) ≡ constant
  by_reset true constant is otherwise = is
  by_reset false constant is otherwise = otherwise refl

  -- at rest after the step it has what its process gives to it
  pub takes_bit :
      (resets : List Guard) → length resets ≤ 1 → All (λ (guard : Guard). IsKnownItem old new guard.item) resets →
      asked ≡ reset_bit ws f old (strongest new resets) (block_bit ws f old part i k) i k →
      ((guard : Guard) → strongest old resets ≡ Some guard → bit old i k ≡ block_bit ws f old guard.branch i k) →
      (if fires_at old new clock || list_any (fires_at old new) (map (λ (guard : Guard). guard.item) resets) then asked else bit old i k)
      ≡ reset_bit ws f old (strongest new resets) (clocked_bit ws f old new clock part i k) i k
  takes_bit [] one known is held =
      ap (λ (b : Bool). if b then asked else bit old i k) (last_none (fires_at old new clock)) ∙ by_clock (fires_at old new clock) is
    where
      last_none : (b : Bool) → (b || false) ≡ b
      last_none true = refl
      last_none false = refl
  takes_bit (guard ∷ []) one known is held =
      elim (cases_Bool (is_active new guard.item)) [
        | inl on ↦
            let found = cond-true (is_active new guard.item) (Some guard) (strongest new []) on in
            by_reset (fires_at old new clock || (fires_at old new guard.item || false)) (block_bit ws f old guard.branch i k)
            (is ∙ ap (λ o. reset_bit ws f old o (block_bit ws f old part i k) i k) found) (λ none. held guard (before on none))
            ∙ sym (ap gives found)
        | inr off ↦
            let found = cond-false (is_active new guard.item) (Some guard) (strongest new []) off in
            let away = no_edge_away guard.item.edge (item_bit old guard.item) (item_bit new guard.item) item.edged item.before item.after off in
            ap (λ (b : Bool). if b then asked else bit old i k) (clock_alone (fires_at old new clock) (fires_at old new guard.item) away)
            ∙ by_clock (fires_at old new clock) (is ∙ ap (λ o. reset_bit ws f old o (block_bit ws f old part i k) i k) found)
            ∙ sym (ap gives found)
      ]
    where
      item : IsKnownItem old new guard.item
      item = All-head (λ (one : Guard). IsKnownItem old new one.item) guard [] known

      clock_alone : (a b : Bool) → b ≡ false → (a || (b || false)) ≡ a
      clock_alone true b none = refl
      clock_alone false true none = absurd (false≢true (sym none))
      clock_alone false false none = refl

      none_last : (a b : Bool) → (a || (b || false)) ≡ false → b ≡ false
      none_last true b none = absurd (false≢true (sym none))
      none_last false true none = absurd (false≢true (sym none))
      none_last false false none = refl

      before : is_active new guard.item ≡ true → (fires_at old new clock || (fires_at old new guard.item || false)) ≡ false → strongest old (guard ∷ []) ≡ Some guard
      before on none =
          cond-true (is_active old guard.item) (Some guard) (strongest old [])
          (stays_active guard.item.edge (item_bit old guard.item) (item_bit new guard.item) item.edged item.before item.after on (none_last (fires_at old new clock) (fires_at old new guard.item) none))
  takes_bit (guard ∷ other ∷ others) one known is held = absurd (omega (arith, one))
