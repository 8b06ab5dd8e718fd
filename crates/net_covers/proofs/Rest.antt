-- Values at rest beside a solution, process by process in the order of levels.
use Rattle.std.proofs.Common.{◌≡◌, ◌∙◌, ◌<◌, ℕ, true, List, Option, Some, get_or, sym, ap, subst, inl, inr}
use Rattle.std.specs.Prelude.{IsTrue}
use Rattle.std.specs.List.{list_any}
use Rattle.std.proofs.lemmas.Bool.{or_cases}
use Rattle.rtl_bits.specs.declared.Bit.TheVariants.{X}
use Rattle.rtl_bits.specs.Bit.{is_unknown}
use Rattle.rtl_flat.specs.Expression.{Tree}
use Rattle.rtl_flat.specs.Flows.{body_flow, flow_of, may_target, reads}
use Rattle.rtl_flat.specs.Levels.{HasNoEdge}
use Rattle.rtl_flat.specs.Paths.{MayWrite, ReadsOutside}
use Rattle.rtl_flat.specs.Process.{Actions, Assign, Comb, Doing, Edge', Piece, Watched}
use Rattle.rtl_flat.specs.Value.{value}
use Rattle.rtl_flat.specs.WellFormed.{IsBody}
use Rattle.event_model.specs.Bodies.{body_made}
use Rattle.event_model.specs.Queue.{doing_at, is_input}
use Rattle.rtl_flat.specs.Flats.{Flat, widths}
use Rattle.event_model.specs.Traces.{FollowsPath, Same, makes, makes_late, makes_now}
use Rattle.event_model.specs.Writes.{Values, driven}
use Rattle.event_covers.specs.Covers.{AllMayBe, MayBe}
use Rattle.event_covers.proofs.Laws.{values_may}
use Rattle.net_rest.specs.event_laws.Laws.{AgreeOutside, MakesNow}
use Rattle.net_rest.proofs.event_laws_proofs.Laws.{may_late, sure_made}
use Rattle.net_rest.proofs.net_laws_proofs.After.{made_either}
use Rattle.net_rest.proofs.net_laws_proofs.Laws.{whole_path}
use Rattle.net_model.specs.declared.fill.Fill.{Fill}
use Rattle.net_model.specs.Numbers.{AreNumbers, bit}
use Rattle.net_model.specs.Solution.{IsLasting, IsRegisterBit, IsSolution}
use Rattle.net_rest.specs.Rest.{AreHeld, IsComputing, IsHeldBit, IsIdle, IsSolvable}
use Rattle.net_rest.proofs.Computing.{after_same, takes_path, value_same}
use Rattle.net_rest.proofs.Latches.{IsLive, branch_lawful, branch_tame, open_makes}
use Rattle.net_rest.proofs.Levels.{assign_reads, by_level}
use Rattle.net_rest.proofs.Numbers.{past_ends}
use Rattle.net_rest.proofs.Rest.{gate_has, held_bit, its_target, live_by, solution_rests}
use Rattle.net_covers.specs.Marks.{AreMarks, AtRestTell, Tells}
use Rattle.net_covers.proofs.Bodies.{marked_after, marked_path}
use Rattle.net_covers.proofs.Made.{driven_may}
use Rattle.net_covers.proofs.Mixture.{mixed, mixed_in, mixed_may, mixed_wide, stable}

-- ---- blocks that compute

module _ (d : Flat) (level : ℕ → ℕ) (solvable : IsSolvable d level) (p : ℕ) (list : Option (List Watched)) (body : Actions) (here : doing_at d p ≡ Some (Comb list body)) (n : Values) (are : AreNumbers d n) where
  computing : IsComputing d p list body
  computing = solvable.computing p list body here

  lawful_body : IsBody d.signals body
  lawful_body = (solvable.lawful p (Comb list body) here).1

  pub number_path : FollowsPath (widths d) n body
  number_path = whole_path d n body are lawful_body computing.tame

  -- what such a block may write it makes
  live_made :
      IsLive d n body → (i k : ℕ) → MayWrite (body_flow (widths d) body) i k → IsLasting d i →
      list_any (makes i k) (body_made (widths d) n body) ≡ true
  live_made (inl computes) i k may lasts =
      sure_made d n body i k are.wide lawful_body number_path (computes i k may lasts)
  live_made (inr (gate, gated, is)) i k may lasts =
      let lawful = branch_lawful d body gate gated lawful_body in
      ap (list_any (makes i k)) (open_makes d body gate gated n are.wide is)
      ∙ sure_made d n gated.branch i k are.wide lawful (whole_path d n gated.branch are lawful (branch_tame d body gate gated computing.tame)) (gated.sure i k may lasts)

  -- at once
  pub live_now : IsLive d n body → (i k : ℕ) → MayWrite (body_flow (widths d) body) i k → IsLasting d i → MakesNow d n body i k
  live_now live i k may lasts =
      elim (or_cases (list_any (makes_now i k) (body_made (widths d) n body)) (list_any (makes_late i k) (body_made (widths d) n body))
      (sym (made_either i k (body_made (widths d) n body)) ∙ live_made live i k may lasts)) [
        | inl now ↦ now
        | inr late ↦ absurd (computing.plain.no_late i k (may_late d n body i k lawful_body late))
      ]

-- ---- values at rest

module _ (d : Flat) (level : ℕ → ℕ) (solvable : IsSolvable d level) (Doubt : ℕ → Type 0) (marks : AreMarks d Doubt) (f : Fill) (held given n given' v : Values) (held_are : AreNumbers d held) (holds : AreHeld d held given) (solution : IsSolution d f held given n) (idle : IsIdle d given' v) (inputs : (i : ℕ) → IsTrue (is_input d i) → v i ≡ n i) (registers : (i k : ℕ) → IsRegisterBit d i k → Tells Doubt v n i k) (latches : (i k : ℕ) → IsHeldBit d given i k → Tells Doubt v n i k) where
  numbers : AreNumbers d n
  numbers = solution.numbers

  resting : IsIdle d given n
  resting = solution_rests d level solvable f held given n held_are solution holds

  -- what holds of all that a process reads outside
  abbrev Finds : Doing → Type 0
  Finds does = (j l : ℕ) → ReadsOutside (flow_of (widths d) does) j l → Tells Doubt v n j l

  abbrev FindsMarked : Doing → Type 0
  FindsMarked does = (j : ℕ) × (l : ℕ) × ReadsOutside (flow_of (widths d) does) j l × Doubt j

  -- ---- continuous assignments

  module _ (p : ℕ) (target : List Piece) (e : Tree) (here : doing_at d p ≡ Some (Assign target e)) (finds : Finds (Assign target e)) where
    net_value : AllMayBe (value v e) (value n e)
    net_value =
        let set = reads (widths d) e in
        let m = mixed d set v n in
        let lawful = solvable.lawful p (Assign target e) here in
        subst (λ bits. AllMayBe bits (value n e))
        (value_same d level solvable p target e here m v (mixed_wide d set v n) idle.wide (mixed_in d set v n idle.wide numbers.wide))
        (values_may d m n e (mixed_wide d set v n) numbers.wide
        (mixed_may d set v n idle.wide numbers.wide (λ j l is. (finds j l (assign_reads (widths d) target e j l is)).may))
        lawful.0.sized (marks.nets p target e here))

    net_tells : (i k : ℕ) → may_target (widths d) target i k ≡ true → MayWrite (flow_of (widths d) (Assign target e)) i k → Tells Doubt v n i k
    net_tells i k is may =
        record {
          may = λ known.
              let there = idle.driven p target e here i k is in
              there
              ∙ driven_may d target (solvable.lawful p (Assign target e) here).0.parts (value v e) (value n e) net_value i k (ap is_unknown (sym there) ∙ known)
              ∙ sym (resting.driven p target e here i k is);
          same = λ free.
              idle.driven p target e here i k is
              ∙ ap (λ bits. bit (driven (widths d) target bits) i k)
              (value_same d level solvable p target e here v n idle.wide numbers.wide (λ j l reads'.
              let outside = assign_reads (widths d) target e j l reads' in
              (finds j l outside).same (λ doubt. free (marks.spreads p (Assign target e) here j l i k outside doubt may))))
              ∙ sym (resting.driven p target e here i k is);
        }

  -- ---- blocks

  module _ (p : ℕ) (list : Option (List Watched)) (body : Actions) (here : doing_at d p ≡ Some (Comb list body)) (finds : Finds (Comb list body)) (live : IsLive d n body) (i k : ℕ) (may : MayWrite (body_flow (widths d) body) i k) (lasts : IsLasting d i) where
    path : FollowsPath (widths d) n body
    path = number_path d level solvable p list body here n numbers

    -- where it finds the same it leaves the same
    block_same : AgreeOutside d body n v → Same v n i k
    block_same agree =
        sym (idle.consistent p list body here (takes_path d level solvable p list body here n v numbers idle.wide agree) i k lasts)
        ∙ sym (after_same d level solvable p list body here n v numbers idle.wide agree live i k may lasts)
        ∙ resting.consistent p list body here path i k lasts

    -- else what it writes is marked
    block_may : FindsMarked (Comb list body) → MayBe (bit v i k) (bit n i k)
    block_may (j, l, outside, doubt) known =
        let writes : (a b : ℕ) → MayWrite (body_flow (widths d) body) a b → Doubt a = λ a b. marks.spreads p (Comb list body) here j l a b outside doubt in
        let lawful = (solvable.lawful p (Comb list body) here).1 in
        let marked = marks.blocks p list body here in
        let follows = marked_path d Doubt body lawful marked writes n v numbers.wide idle.wide finds path in
        let stays = idle.consistent p list body here follows i k lasts in
        sym stays
        ∙ marked_after d Doubt body lawful marked writes n v numbers.wide idle.wide finds path i k
        (live_now d level solvable p list body here n numbers live i k may lasts) (ap is_unknown stays ∙ known)
        ∙ resting.consistent p list body here path i k lasts

    block_tells : Tells Doubt v n i k
    block_tells =
        record {
          may = λ known.
              stable (bit v i k) (bit n i k) (λ (some : FindsMarked (Comb list body)). block_may some known)
              (λ none. block_same (λ j l outside. sym ((finds j l outside).same (λ doubt. none (j, l, outside, doubt)))));
          same = λ free.
              block_same (λ j l outside. sym ((finds j l outside).same (λ doubt. free (marks.spreads p (Comb list body) here j l i k outside doubt may))));
        }

  -- ---- all bits

  step :
      (p : ℕ) (does : Doing) → doing_at d p ≡ Some does → HasNoEdge does → Finds does →
      (i k : ℕ) → MayWrite (flow_of (widths d) does) i k → IsLasting d i → Tells Doubt v n i k
  step p (Edge' events body) here node finds i k may lasts = absurd node
  step p (Assign target e) here node finds i k may lasts =
      net_tells p target e here finds i k (its_target d level solvable p target e here i k may) may
  step p (Comb list body) here node finds i k may lasts =
      elim (live_by d level solvable p list body here given n (gate_has d level solvable given n resting body)) [
        | inl closed ↦ latches i k (held_bit d level solvable p list body here given closed i k may lasts)
        | inr live ↦ block_tells p list body here finds live i k may lasts
      ]

  input_tells : (i k : ℕ) → IsTrue (is_input d i) → Tells Doubt v n i k
  input_tells i k is =
      let same = ap (λ bits. get_or bits k X) (inputs i is) in
      record { may = λ known. same; same = λ free. same }

  pub at_rest_tell : (i k : ℕ) → IsLasting d i → Tells Doubt v n i k
  at_rest_tell i k lasts =
      let inside : k < widths d i → Tells Doubt v n i k = λ below. by_level d level solvable (Tells Doubt v n) (λ j l is below'. input_tells j l is) registers step i k below lasts in
      record {
        may = λ known. past_ends d v n idle.wide numbers.wide i k (λ below. (inside below).may known);
        same = λ free. past_ends d v n idle.wide numbers.wide i k (λ below. (inside below).same free);
      }

pub rests_tell : (d : Flat) (level : ℕ → ℕ) → IsSolvable d level → (Doubt : ℕ → Type 0) → AreMarks d Doubt → AtRestTell d Doubt
rests_tell d level solvable Doubt marks f held given n given' v held_are holds solution idle inputs registers latches i k lasts =
    at_rest_tell d level solvable Doubt marks f held given n given' v held_are holds solution idle inputs registers latches i k lasts
