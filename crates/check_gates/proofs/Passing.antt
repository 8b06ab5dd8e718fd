-- A connection passes a signal on where its reads have one row.
use Rattle.std.proofs.Common.{◌≡◌, ◌∙◌, ℕ, ◌==◌, ◌&&◌, ◌||◌, not, Bool, true, false, List, [], ◌∷◌, Option, None, Some, refl, sym, ap, subst, inl, inr, arith}
use Rattle.std.specs.Option.{option_map}
use Rattle.std.proofs.lemmas.Bool.{and_parts, eq-eqb, eqb-true, false≢true, or_cases, or_left, or_right, and_from}
use Rattle.std.proofs.lemmas.Option.{none-some, same_Some}
use Rattle.rtl_flat.specs.Expression.{Tree}
use Rattle.rtl_flat.specs.Flows.{flow_of, reads, targets}
use Rattle.rtl_flat.specs.Paths.{reads_outside}
use Rattle.rtl_flat.specs.Process.{Piece, Doing, Assign, Comb, Edge', Task}
use Rattle.rtl_flat.specs.Process as part
use Rattle.net_model.specs.Control.{ReadsAlone}
use Rattle.rtl_bits.specs.Bits.{is_one_at}
use Rattle.rtl_flat.specs.Flats.{Flat, widths}
use Rattle.check_chains.specs.rtl_scan.declared.bits.Row.{Row}
use Rattle.check_chains.specs.rtl_scan.Sets.{IsInOrder, has_row, has_rows}
use Rattle.check_chains.proofs.check_found_proofs.Signals.{row_bit}
use Rattle.check_gates.specs.declared.reach.Link.{Link}
use Rattle.check_gates.specs.Links.{link_if, linked, whole_target}
use Rattle.check_gates.specs.Passed.{IsPassing, IsPassingLink, only_signal}
use Rattle.check_gates.proofs.Linked.{link_from, linked_is, target_is}

abbrev pub single : List Row → Option ℕ
single rows = option_map (λ signal. signal.0) (only_signal rows)

bit_here : (row : Row) (rows : List Row) (k : ℕ) → is_one_at row.mask k ≡ true → has_rows (row ∷ rows) row.signal.0 k ≡ true
bit_here row rows k one =
    or_left (has_row row row.signal.0 k) (has_rows rows row.signal.0 k)
    (and_from (row.signal.0 == row.signal.0) (is_one_at row.mask k) (eq-eqb row.signal.0 row.signal.0 refl) one)

module _ (ws : ℕ → ℕ) (value : Tree) where
  -- rows of one signal are all that an expression reads
  pub alone_to : (rows : List Row) → IsInOrder rows → ((s k : ℕ) → has_rows rows s k ≡ reads ws value s k) → (i : ℕ) → single rows ≡ Some i → ReadsAlone ws value i
  alone_to [] order same i h = absurd (none-some i h)
  alone_to (row ∷ other ∷ rows) order same i h = absurd (none-some i h)
  alone_to (row ∷ []) order same i h =
      let (k, one) = row_bit row order.0 in
      let is : row.signal.0 ≡ i = same_Some row.signal.0 i h in
      record {
        bit = k;
        read = subst (λ s. reads ws value s k ≡ true) is (sym (same row.signal.0 k) ∙ bit_here row [] k one);
        alone = λ j n bit. only j n (same j n ∙ bit) ∙ is;
      }
    where
      only : (j n : ℕ) → has_rows (row ∷ []) j n ≡ true → j ≡ row.signal.0
      only j n h = elim (or_cases (has_row row j n) false h) [
        | inl here ↦ eqb-true j row.signal.0 (and_parts (j == row.signal.0) (is_one_at row.mask n) here).0
        | inr none ↦ absurd (false≢true none)
      ]

  pub alone_from : (rows : List Row) → IsInOrder rows → ((s k : ℕ) → has_rows rows s k ≡ reads ws value s k) → (i : ℕ) → ReadsAlone ws value i → single rows ≡ Some i
  alone_from [] order same i h = absurd (false≢true (same i h.bit ∙ h.read))
  alone_from (row ∷ []) order same i h =
      let (k, one) = row_bit row order.0 in
      ap Some (h.alone row.signal.0 k (sym (same row.signal.0 k) ∙ bit_here row [] k one))
  alone_from (row ∷ other ∷ rows) order same i h =
      let (k, one) = row_bit row order.0 in
      let (n, one') = row_bit other order.2.0 in
      let first = h.alone row.signal.0 k (sym (same row.signal.0 k) ∙ bit_here row (other ∷ rows) k one) in
      let bit = or_right (has_row row other.signal.0 n) (has_rows (other ∷ rows) other.signal.0 n) (bit_here other rows n one') in
      let second = h.alone other.signal.0 n (sym (same other.signal.0 n) ∙ bit) in
      absurd (omega (arith, first, second, order.1.0))

module _ (d : Flat) (task : Task) (target : List Piece) (value : Tree) (does : task.does ≡ Assign target value) (rows : List Row) (order : IsInOrder rows) (same : (s k : ℕ) → has_rows rows s k ≡ reads (widths d) value s k) (i j : ℕ) where
  pub passing_to : linked d task.instance (single rows) (whole_target target) ≡ Some (record { source = i; target = j }) → IsPassing d task i j
  passing_to h =
      let (first, second, ends) = linked_is d task.instance (single rows) (whole_target target) i j h in
      let (at, is) = target_is target j second in
      record {
        spot = at;
        value = value;
        does = does ∙ ap (λ t. Assign t value) is;
        alone = alone_to (widths d) value rows order same i first;
        one_bit = ends.one_bit;
        port_bit = ends.port_bit;
        outside = ends.outside;
      }

  abbrev target_in : Doing → List Piece
  target_in (Assign target value) = target
  target_in _ = []

  abbrev value_in : Doing → Tree
  value_in (Assign target value) = value
  value_in _ = value

  pub passing_from : IsPassing d task i j → linked d task.instance (single rows) (whole_target target) ≡ Some (record { source = i; target = j })
  passing_from h =
      let whole : target ≡ record { signal = j; selection = part.Whole; spot = h.spot } ∷ [] = ap target_in (sym does ∙ h.does) in
      let value_is : h.value ≡ value = ap value_in (sym h.does ∙ does) in
      let source = alone_from (widths d) value rows order same i (subst (λ e. ReadsAlone (widths d) e i) value_is h.alone) in
      ap (λ s. linked d task.instance s (whole_target target)) source
      ∙ ap (λ t. linked d task.instance (Some i) (whole_target t)) whole
      ∙ ap (λ b. link_if b i j) (link_from d task.instance i j (record { one_bit = h.one_bit; port_bit = h.port_bit; outside = h.outside }))

-- a connection reads what its expression does
pub assign_reads : (ws : ℕ → ℕ) (target : List Piece) (value : Tree) (s k : ℕ) → reads_outside (flow_of ws (Assign target value)) s k ≡ reads ws value s k
assign_reads ws target value s k = by_test (reads ws value s k) (targets ws target s k)
  where
    by_test : (b c : Bool) → (b || (true && (false || (not (true && c) && false)))) ≡ b
    by_test true c = refl
    by_test false true = refl
    by_test false false = refl

-- a process that is no connection
pub no_link : (d : Flat) (task : Task) (link : Option Link) → link ≡ None → ((target : List Piece) (value : Tree) → task.does ≡ Assign target value → ⊥) → IsPassingLink d task link
no_link d task link none other =
    record { each = λ i j. (λ h. absurd (none-some _ (sym none ∙ h)), λ h. absurd (other _ h.value h.does)) }

-- one that is
pub assign_link : (d : Flat) (task : Task) (target : List Piece) (value : Tree) → task.does ≡ Assign target value → (rows : List Row) → IsInOrder rows → ((s k : ℕ) → has_rows rows s k ≡ reads_outside (flow_of (widths d) task.does) s k) → (link : Option Link) → link ≡ linked d task.instance (single rows) (whole_target target) → IsPassingLink d task link
assign_link d task target value does rows order are link is =
    let same : (s k : ℕ) → has_rows rows s k ≡ reads (widths d) value s k =
    λ s k. are s k ∙ ap (λ one. reads_outside (flow_of (widths d) one) s k) does ∙ assign_reads (widths d) target value s k in
    record {
      each = λ i j. (
        λ h. passing_to d task target value does rows order same i j (sym is ∙ h),
        λ h. is ∙ passing_from d task target value does rows order same i j h,
      );
    }
