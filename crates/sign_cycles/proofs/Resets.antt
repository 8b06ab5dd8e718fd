-- An active reset sets its register to its constant, whatever else the values are, unknown ones too.
use Rattle.std.proofs.Common.{◌≡◌, ◌≢◌, ◌∙◌, ◌<◌, ℕ, Bool, true, false, if◌then◌else◌, List, [], ◌∷◌, length, Option, None, Some, refl, sym, ap, subst, inl, inr, arith}
use Rattle.std.specs.Prelude.{IsTrue, unwrap_or}
use Rattle.std.specs.List.{All, list_any}
use Rattle.std.proofs.lemmas.Bool.{and_from, false≢true, or_cases}
use Rattle.std.proofs.lemmas.List.{append-nil}
use Rattle.std.proofs.lemmas.List.Elements.{All-head}
use Rattle.rtl_bits.specs.declared.Bit.{Bit}
use Rattle.rtl_bits.specs.declared.Bit.TheVariants.{Zero, One, X, Z}
use Rattle.rtl_bits.specs.declared.Edge.{Edge}
use Rattle.rtl_bits.specs.declared.Edge.TheVariants.{No, Pos, Neg}
use Rattle.rtl_bits.specs.Bit.{is_one, is_unknown}
use Rattle.rtl_bits.specs.Bits.{same_bit, truth_bit}
use Rattle.rtl_flat.specs.Flows.{body_flow, reads}
use Rattle.rtl_flat.specs.Paths.{MayWrite}
use Rattle.rtl_flat.specs.Process.{Watched, If, Actions, Done, Then, With, Edge'}
use Rattle.rtl_flat.specs.Value.{value}
use Rattle.rtl_flat.specs.WellFormed.{has_edge}
use Rattle.event_model.specs.Bodies.{Made, body_made}
use Rattle.event_model.specs.Queue.{doing_at, happens, item_hears}
use Rattle.rtl_flat.specs.Flats.{Flat, widths}
use Rattle.event_model.specs.Traces.{Same, makes_late, makes_now}
use Rattle.event_model.specs.Writes.{Values}
use Rattle.event_edges.specs.event_laws.Steady.{HaveWidths}
use Rattle.event_edges.proofs.event_laws_proofs.Agreement.{value_agrees}
use Rattle.event_edges.specs.event_laws.Laws.{Makes, after_body}
use Rattle.event_edges.proofs.event_laws_proofs.Laws.{depends, may_now, sure_made, writes_variables}
use Rattle.event_edges.proofs.event_laws_proofs.Within.{reads_inside}
use Rattle.net_model.specs.declared.fill.Fill.{Fill}
use Rattle.net_model.specs.Block.{block_bit}
use Rattle.net_model.specs.Cycle.{Chain, Guard, IsChained, Tests, level}
use Rattle.net_model.specs.Numbers.{AreNumbers, bit}
use Rattle.net_model.specs.Solution.{IsLasting}
use Rattle.event_edges.specs.event_runs.Effects.{laters}
use Rattle.net_rest.specs.net_laws.Laws.{last_late, late_writes}
use Rattle.net_rest.proofs.net_laws_proofs.After.{made_either}
use Rattle.net_rest.proofs.net_laws_proofs.Late.{any_late, late_known, some_last}
use Rattle.net_rest.proofs.net_laws_proofs.Laws.{exact, late_is, whole_path}
use Rattle.net_rest.proofs.net_laws_proofs.Numbers.{body_known}
use Rattle.net_rest.specs.Rest.{numbers_of}
use Rattle.net_rest.proofs.Latches.{opened_made}
use Rattle.net_rest.proofs.Numbers.{are_numbers, has_source, number_same}
use Rattle.event_edges.specs.Registers.{updates_bit}
use Rattle.event_edges.specs.Reset.{IsReset}
use Rattle.event_edges.specs.Synchronous.{IsItem}
use Rattle.event_edges.proofs.Cone.{item_fixed, item_whole, item_width}
use Rattle.event_edges.proofs.Hearing.{passing}
use Rattle.event_edges.proofs.Ports.{sole}
use Rattle.event_edges.proofs.Turning.{whole_selected}
use Rattle.sign_cycles.specs.Formed.{IsCleanClocked, IsConstant, TestsAlone}
use Rattle.sign_cycles.proofs.Chains.{IsUsable, branches_usable, constant_bit, opened_usable}
use Rattle.sign_cycles.proofs.Edges.{item_lasts, of_items, updates_last, usable}

-- ---- levels

pub level_known : (edge : Edge) → IsTrue (has_edge edge) → is_unknown (level edge) ≡ false
level_known No edged = absurd (false≢true edged)
level_known Pos edged = refl
level_known Neg edged = refl

pub same_self : (b : Bit) → same_bit b b ≡ true
same_self Zero = refl
same_self One = refl
same_self X = refl
same_self Z = refl

pub level_same : (edge : Edge) → same_bit (level edge) (level edge) ≡ true
level_same edge = same_self (level edge)

-- each change to the level of an edge is one
turns_to : (edge : Edge) (old : Bit) → IsTrue (has_edge edge) → old ≢ level edge → happens edge old (level edge) ≡ true
turns_to No old edged other = absurd (false≢true edged)
turns_to Pos Zero edged other = refl
turns_to Pos One edged other = absurd (other refl)
turns_to Pos X edged other = refl
turns_to Pos Z edged other = refl
turns_to Neg Zero edged other = absurd (other refl)
turns_to Neg One edged other = refl
turns_to Neg X edged other = refl
turns_to Neg Z edged other = refl

-- ---- a reset

-- the one reset of a body
module _ (d : Flat) (chains : ℕ → Chain) (level_of : ℕ → ℕ) (clean : IsCleanClocked d chains level_of) (f : Fill) (p : ℕ) (events : List Watched) (body : Actions) (is : doing_at d p ≡ Some (Edge' events body)) (guard : Guard) (only : (chains p).resets ≡ guard ∷ []) where
  given : IsUsable d body
  given = usable d chains level_of clean p events body is

  chained : IsChained (guard ∷ []) (chains p).part body
  chained =
      subst (λ (resets : List Guard). IsChained resets (chains p).part body) only (clean.formed p events body is).chained.chained

  abbrev whole : Actions
  whole = Then (If guard.test guard.branch (With chained.0) chained.1) Done

  whole_usable : IsUsable d whole
  whole_usable = subst (IsUsable d) chained.2 (opened_usable d body given)

  tests : Tests d guard
  tests =
      All-head (Tests d) guard [] (subst (All (Tests d)) only (clean.formed p events body is).chained.tests)

  alone : TestsAlone d guard
  alone =
      All-head (TestsAlone d) guard [] (subst (All (TestsAlone d)) only (clean.formed p events body is).alone)

  pub constant : IsConstant d body guard.branch
  constant =
      All-head (λ (one : Guard). IsConstant d body one.branch) guard []
      (subst (All (λ (one : Guard). IsConstant d body one.branch)) only (clean.formed p events body is).constants)

  pub branch : IsUsable d guard.branch
  branch =
      All-head (λ (one : Guard). IsUsable d one.branch) guard [] (branches_usable d (guard ∷ []) (chains p).part body chained given)

  pub item : IsItem d p events body guard.item
  item =
      All-head (λ (one : Guard). IsItem d p events body one.item) guard []
      (subst (All (λ (one : Guard). IsItem d p events body one.item)) only (of_items d chains level_of clean p events body is (IsItem d p events body) (λ one here. here)))

  edged : IsTrue (has_edge guard.item.edge)
  edged = clean.synchronous.edges p events body guard.item item

  one_wide : widths d guard.item.signal ≡ 1
  one_wide = item_width d clean.synchronous p events body guard.item item

  -- where the reset is active the body makes what the branch does
  module _ (v : Values) (wide : HaveWidths d v) (now : bit v guard.item.signal 0 ≡ level guard.item.edge) where
    abbrev near : Values
    near = numbers_of d f v

    near_numbers : AreNumbers d near
    near_numbers = are_numbers d f v

    near_same : Same near v guard.item.signal 0
    near_same =
        let inside : 0 < widths d guard.item.signal = let one = one_wide in omega (arith, one) in
        number_same d f v guard.item.signal 0 inside
        (has_source d guard.item.signal 0 (clean.solvable.sourced guard.item.signal 0 inside (item_lasts d chains level_of clean p events body is guard.item item)))
        (ap is_unknown now ∙ level_known guard.item.edge edged)

    read_same : (j l : ℕ) → reads (widths d) guard.test j l ≡ true → Same near v j l
    read_same j l read =
        let inside : l < widths d j = reads_inside (widths d) guard.test j l read in
        let single : widths d j ≡ 1 = ap (widths d) (alone j l read) ∙ one_wide in
        let first : 0 ≡ l = omega (arith, inside, single) in
        subst (λ (x : ℕ). Same near v j x) first
        (subst (λ (x : ℕ). Same near v x 0) (sym (alone j l read)) near_same)

    value_is : value near guard.test ≡ value v guard.test
    value_is =
        value_agrees (length d.signals) (widths d) near v (λ i below. near_numbers.wide i) (λ i below. wide i) guard.test whole_usable.lawful.0.0.widths read_same

    test_true : is_one (truth_bit (value v guard.test)) ≡ true
    test_true =
        ap (λ bits. is_one (truth_bit bits)) (sym value_is ∙ sym (exact d f near guard.test near_numbers whole_usable.lawful.0.0 whole_usable.tame.0.0).same)
        ∙ tests f near near_numbers
        ∙ ap (λ (b : Bit). same_bit b (level guard.item.edge)) (near_same ∙ now)
        ∙ level_same guard.item.edge

    made_is : body_made (widths d) v body ≡ body_made (widths d) v guard.branch
    made_is =
        sym (opened_made (widths d) v body)
        ∙ ap (body_made (widths d) v) chained.2
        ∙ append-nil (if is_one (truth_bit (value v guard.test)) then body_made (widths d) v guard.branch else body_made (widths d) v chained.0)
        ∙ ap (λ (b : Bool). if b then body_made (widths d) v guard.branch else body_made (widths d) v chained.0) test_true

    branch_made : body_made (widths d) near guard.branch ≡ body_made (widths d) v guard.branch
    branch_made =
        (depends d near v guard.branch near_numbers.wide wide branch.lawful (whole_path d near guard.branch near_numbers branch.lawful branch.tame)
        (λ j l reads'. absurd (constant.reads_nothing j l reads'))).made

    module _ (i k : ℕ) (may : MayWrite (body_flow (widths d) body) i k) (lasts : IsLasting d i) (b : Bit) where
      abbrev ms : List Made
      ms = body_made (widths d) near guard.branch

      late_bit : unwrap_or (last_late d near guard.branch i k) b ≡ block_bit (widths d) f near guard.branch i k
      late_bit =
          elim (or_cases (list_any (makes_now i k) ms) (list_any (makes_late i k) ms) (sym (made_either i k ms) ∙ makes)) [
            | inl now' ↦ absurd (constant.late i k (may_now d near guard.branch i k branch.lawful now'))
            | inr late ↦
                let (x, last, known) = some_last i k None (late_writes ms) (late_known ms (body_known d near near_numbers guard.branch branch.lawful branch.tame)) (any_late i k ms ∙ late) in
                ap (λ (o : Option Bit). unwrap_or o b) last
                ∙ sym (late_is d f near guard.branch i k near_numbers branch.lawful branch.tame branch.split
                ∙ ap (λ (o : Option Bit). unwrap_or o (bit (after_body d near guard.branch) i k)) last)
          ]
        where
          makes : Makes d near guard.branch i k
          makes =
              sure_made d near guard.branch i k near_numbers.wide branch.lawful (whole_path d near guard.branch near_numbers branch.lawful branch.tame)
              (constant.sets i k may lasts)

      asks_constant : (n : Values) → AreNumbers d n → updates_bit i k (laters (body_made (widths d) v body)) b ≡ block_bit (widths d) f n guard.branch i k
      asks_constant n are =
          ap (λ all. updates_bit i k (laters all) b) (made_is ∙ sym branch_made)
          ∙ updates_last i k b ms None
          ∙ late_bit
          ∙ constant_bit d f near n near_numbers are body guard.branch branch constant i k may lasts

  -- so each register bit of the body is reset
  pub is_reset :
      (n : Values) → AreNumbers d n → (i k : ℕ) → MayWrite (body_flow (widths d) body) i k → IsLasting d i →
      IsReset d p guard.item.signal (level guard.item.edge) i k (block_bit (widths d) f n guard.branch i k)
  is_reset n are i k may lasts =
      record {
        list = events;
        body = body;
        does = is;
        known = level_known guard.item.edge edged;
        one_bit = one_wide;
        unwritten = λ l writes.
            item_fixed d clean.synchronous p events body guard.item item (writes_variables d body guard.item.signal l given.lawful writes);
        heard = λ old other.
            passing (item_hears (widths d) guard.item.signal 0 old (level guard.item.edge)) events item.place guard.item item.there
            (and_from _ _
            (whole_selected (widths d) guard.item.signal guard.item.selection guard.item.signal (item_whole d clean.synchronous p events body guard.item item) refl one_wide)
            (turns_to guard.item.edge old edged other));
        variable = writes_variables d body i k given.lawful may;
        sole = sole d clean.synchronous p (Edge' events body) is i k may;
        asks = λ v wide now b. asks_constant v wide now i k may lasts b n are;
      }
