-- Latches with a gate: what their bodies make, and what plain ports carry to the gate.
use Rattle.std.proofs.Common.{◌≡◌, ◌∙◌, ◌⊎◌, ◌+◌, ◌<◌, ◌≤◌, ℕ, Bool, true, false, List, [], ◌∷◌, Some, length, get_or, refl, sym, ap, subst, inl, inr, arith}
use Rattle.std.specs.Prelude.{if◌then◌else◌}
use Rattle.std.proofs.lemmas.Bool.{and_from, eq-eqb, le-leb, lt-ltb, or_left}
use Rattle.std.proofs.lemmas.List.{append-nil, length-replicate}
use Rattle.rtl_bits.specs.declared.Bit.TheVariants.{X, Z}
use Rattle.rtl_bits.specs.Bits.{same_bit, selected}
use Rattle.text_ground.specs.declared.text.Spot.{Spot}
use Rattle.rtl_flat.specs.Expression.{Tree, Sized}
use Rattle.rtl_flat.specs.Expression as tree
use Rattle.rtl_flat.specs.Flows.{may_target}
use Rattle.rtl_flat.specs.Process.{Actions, Assign, Block, Case, Done, If, Piece, Set, Then}
use Rattle.rtl_flat.specs.Value.{value}
use Rattle.rtl_flat.specs.WellFormed.{IsBody}
use Rattle.event_model.specs.Bodies.{body_made}
use Rattle.event_model.specs.Queue.{doing_at}
use Rattle.rtl_flat.specs.Flats.{Flat, widths}
use Rattle.event_model.specs.Writes.{Values, Write, driven, no_drive}
use Rattle.event_runs.specs.event_laws.Steady.{HaveWidths}
use Rattle.event_runs.specs.event_laws.Laws.{AgreeOutside}
use Rattle.event_runs.proofs.event_laws_proofs.Written.{covers_from, written_in}
use Rattle.net_model.specs.Control.{Here, IsBehind, IsLink, Next, whole_of}
use Rattle.net_model.specs.Cycle.{opened}
use Rattle.net_model.specs.Gates.{Gate}
use Rattle.net_model.specs.Numbers.{bit}
use Rattle.net_laws.specs.Tame.{AreTame}
use Rattle.net_laws.proofs.Literals.{extended_whole}
use Rattle.net_rest.specs.Rest.{IsGated, WritesAll}

-- ---- bodies without the blocks around them

-- they make the same
pub opened_made : (ws : ℕ → ℕ) (v : Values) (body : Actions) → body_made ws v (opened body) ≡ body_made ws v body
opened_made ws v Done = refl
opened_made ws v (Then (Set target e delayed spot) others) = refl
opened_made ws v (Then (If test taken other spot) others) = refl
opened_made ws v (Then (Case kind full parallel selector branches fallback spot) others) = refl
opened_made ws v (Then (Block body) Done) = opened_made ws v body ∙ sym (append-nil (body_made ws v body))
opened_made ws v (Then (Block body) (Then one others)) = refl

opened_lawful : (d : Flat) (body : Actions) → IsBody d.signals body → IsBody d.signals (opened body)
opened_lawful d Done lawful = lawful
opened_lawful d (Then (Set target e delayed spot) others) lawful = lawful
opened_lawful d (Then (If test taken other spot) others) lawful = lawful
opened_lawful d (Then (Case kind full parallel selector branches fallback spot) others) lawful = lawful
opened_lawful d (Then (Block body) Done) lawful = opened_lawful d body lawful.0
opened_lawful d (Then (Block body) (Then one others)) lawful = lawful

opened_tame : (d : Flat) (body : Actions) → AreTame d body → AreTame d (opened body)
opened_tame d Done tame = tame
opened_tame d (Then (Set target e delayed spot) others) tame = tame
opened_tame d (Then (If test taken other spot) others) tame = tame
opened_tame d (Then (Case kind full parallel selector branches fallback spot) others) tame = tame
opened_tame d (Then (Block body) Done) tame = opened_tame d body tame.0
opened_tame d (Then (Block body) (Then one others)) tame = tame

-- ---- what is made

module _ (d : Flat) (body : Actions) (gate : Gate) (gated : IsGated d body gate) where
  pub branch_lawful : IsBody d.signals body → IsBody d.signals gated.branch
  branch_lawful lawful = (subst (IsBody d.signals) gated.whole (opened_lawful d body lawful)).0.1

  pub branch_tame : AreTame d body → AreTame d gated.branch
  branch_tame tame = (subst (AreTame d) gated.whole (opened_tame d body tame)).0.1

  by_gate : (v : Values) → HaveWidths d v → (b : Bool) → same_bit (bit v gate.signal 0) gate.opens ≡ b → body_made (widths d) v body ≡ (if b then body_made (widths d) v gated.branch else [])
  by_gate v wide b is =
      sym (opened_made (widths d) v body) ∙ ap (body_made (widths d) v) gated.whole
      ∙ append-nil _
      ∙ ap (λ (c : Bool). if c then body_made (widths d) v gated.branch else []) (gated.tests v wide ∙ is)

  -- a latch whose gate is closed makes nothing
  pub closed_makes : (v : Values) → HaveWidths d v → same_bit (bit v gate.signal 0) gate.opens ≡ false → body_made (widths d) v body ≡ []
  closed_makes v wide closed = by_gate v wide false closed

  -- an open one does what its branch does
  pub open_makes : (v : Values) → HaveWidths d v → same_bit (bit v gate.signal 0) gate.opens ≡ true → body_made (widths d) v body ≡ body_made (widths d) v gated.branch
  open_makes v wide open' = by_gate v wide true open'

-- ---- blocks that compute

-- a block computes what it may write, or is a latch that is open
abbrev pub IsLive : Flat → Values → Actions → Type 0
IsLive d n body =
    WritesAll d body body ⊎ ((gate : Gate) × IsGated d body gate × (same_bit (bit n gate.signal 0) gate.opens ≡ true))

-- the same where it finds the same outside
pub live_as : (d : Flat) (body : Actions) (n v : Values) → AgreeOutside d body n v → IsLive d n body → IsLive d v body
live_as d body n v agree (inl computes) = inl computes
live_as d body n v agree (inr (gate, gated, is)) =
    inr (gate, gated, ap (λ b. same_bit b gate.opens) (sym (agree gate.signal 0 gated.outside)) ∙ is)

-- ---- what plain ports carry

first_bit : (bits : List _) → get_or (selected 0 1 bits) 0 X ≡ get_or bits 0 X
first_bit [] = refl
first_bit (b ∷ bits) = refl

module _ (d : Flat) where
  -- all of a signal of one bit is given a value
  pub whole_driven : (j : ℕ) (spot : Spot) (bits : List _) → length bits ≡ 1 → widths d j ≡ 1 → bit (driven (widths d) (whole_of j spot) bits) j 0 ≡ get_or bits 0 X
  whole_driven j spot bits long one =
      written_in d (no_drive (widths d)) w (λ i. length-replicate (widths d i) Z) inside j 0 (covers_from j 0 w refl (omega arith) (omega (arith, count)))
      ∙ (ap (λ n. get_or (selected 0 n bits) 0 X) one ∙ first_bit bits)
    where
      w : Write
      w = record { signal = j; at = 0; bits = selected 0 (widths d j) bits }

      count : length (selected 0 (widths d j) bits) ≡ 1
      count = ap (λ n. length (selected 0 n bits)) one ∙ of_one bits long
        where
          of_one : (xs : List _) → length xs ≡ 1 → length (selected 0 1 xs) ≡ 1
          of_one [] e = e
          of_one (x ∷ xs) e = refl

      inside : 0 + length (selected 0 (widths d j) bits) ≤ widths d j
      inside = omega (arith, count, one)

  pub whole_may : (j : ℕ) (spot : Spot) → widths d j ≡ 1 → may_target (widths d) (whole_of j spot) j 0 ≡ true
  whole_may j spot one =
      let below : 0 < widths d j = omega (arith, one) in
      or_left _ false (and_from _ _ (eq-eqb j j refl) (and_from _ _ (le-leb 0 0 (omega arith)) (and_from _ _ (lt-ltb 0 (widths d j) below) (lt-ltb 0 (widths d j) below))))

  -- where nets have the values of their expressions, a port has its input's bit
  module _ (v : Values) (wide : HaveWidths d v) (drives : (p : ℕ) (target : List Piece) (e : Tree) → doing_at d p ≡ Some (Assign target e) → (i k : ℕ) → may_target (widths d) target i k ≡ true → bit v i k ≡ bit (driven (widths d) target (value v e)) i k) where
    link_carries : (p : ℕ) (target : List Piece) (e : Tree) (i j : ℕ) → doing_at d p ≡ Some (Assign target e) → IsLink d target e i j → bit v j 0 ≡ bit v i 0
    link_carries p target e i j here link =
        let here' : doing_at d p ≡ Some (Assign (whole_of j link.target_spot) (Sized 1 link.signed link.spot (tree.Whole i)))
        = here ∙ (ap (λ t. Some (Assign t e)) link.whole ∙ ap (λ one. Some (Assign (whole_of j link.target_spot) one)) link.copy) in
        let size : length (v i) ≡ 1 = wide i ∙ link.one_bit in
        let same : value v (Sized 1 link.signed link.spot (tree.Whole i)) ≡ v i = extended_whole 1 link.signed (v i) size in
        drives p (whole_of j link.target_spot) (Sized 1 link.signed link.spot (tree.Whole i)) here' j 0 (whole_may j link.target_spot link.target_bit)
        ∙ (ap (λ bits. bit (driven (widths d) (whole_of j link.target_spot) bits) j 0) same
        ∙ whole_driven j link.target_spot (v i) size link.target_bit)

    pub carried : (start j : ℕ) → IsBehind d start j → bit v j 0 ≡ bit v start 0
    carried start j (Here) = refl
    carried start j (Next i j' p target e behind here link) =
        link_carries p target e i j here link ∙ carried start i behind
