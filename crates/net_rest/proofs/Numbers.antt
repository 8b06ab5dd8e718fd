-- The numbers of values.
use Rattle.std.proofs.Common.{◌≡◌, ◌∙◌, ◌<◌, ◌||◌, ℕ, zero, suc, Bool, true, false, cond, List, [], ◌∷◌, length, refl, sym, ap, inl, inr, arith}
use Rattle.std.specs.Prelude.{◌⊎◌, IsTrue}
use Rattle.std.specs.List.{list_any, slice_get}
use Rattle.std.specs.Option.{IsSomeAnd}
use Rattle.std.proofs.lemmas.Bool.{cases_lt, false≢true, or_cases, or_left, or_right}
use Rattle.std.proofs.lemmas.List.{get_or_past}
use Rattle.rtl_bits.specs.declared.Bit.{Bit}
use Rattle.rtl_bits.specs.declared.Bit.TheVariants.{Zero, One, X, Z}
use Rattle.rtl_bits.specs.Bit.{is_unknown}
use Rattle.rtl_bits.specs.Inside.{length-tabulate}
use Rattle.rtl_bits.proofs.Lists.{get_or-tabulate}
use Rattle.rtl_flat.specs.Flows.{flow_of}
use Rattle.rtl_flat.specs.Paths.{MayWrite, may_write}
use Rattle.rtl_flat.specs.PathSets.{OfProcess}
use Rattle.rtl_flat.specs.Process.{Edge', Task}
use Rattle.rtl_flat.proofs.Paths.{decided}
use Rattle.event_model.specs.Queue.{is_input}
use Rattle.rtl_flat.specs.Flats.{Flat, widths}
use Rattle.event_model.specs.Traces.{Same}
use Rattle.event_model.specs.Writes.{Values}
use Rattle.event_runs.specs.event_laws.Steady.{HaveWidths}
use Rattle.net_model.specs.declared.fill.Fill.{Fill}
use Rattle.net_model.specs.declared.fill.Fill.TheVariants as fill
use Rattle.net_model.specs.Numbers.{AreNumbers, bit, fill_bit, filled_bit}
use Rattle.net_model.specs.Solution.{IsRegisterBit}
use Rattle.event_runs.proofs.Writers.{to_process}
use Rattle.net_laws.proofs.Exact.{filled_same_bit}
use Rattle.net_laws.proofs.Known.{KnownBit, known_each}
use Rattle.net_rest.specs.Rest.{IsComputed, is_written, numbers_of}

-- ---- bits that processes write

some_writes : (ws : ℕ → ℕ) (tasks : List Task) (p i k : ℕ) → IsSomeAnd (slice_get tasks p) (λ task. MayWrite (flow_of ws task.does) i k) → list_any (λ task. may_write (flow_of ws task.does) i k) tasks ≡ true
some_writes ws [] p i k may = absurd may
some_writes ws (task ∷ tasks) zero i k may =
    or_left (may_write (flow_of ws task.does) i k) _ ((decided (flow_of ws task.does) i k).writes.1 may)
some_writes ws (task ∷ tasks) (suc p) i k may =
    or_right (may_write (flow_of ws task.does) i k) _ (some_writes ws tasks p i k may)

pub written_by : (d : Flat) (p i k : ℕ) → OfProcess MayWrite d.signals d.tasks p i k → is_written d i k ≡ true
written_by d p i k may = some_writes (widths d) d.tasks p i k may

a_writer : (ws : ℕ → ℕ) (tasks : List Task) (i k : ℕ) → list_any (λ task. may_write (flow_of ws task.does) i k) tasks ≡ true → (p : ℕ) × IsSomeAnd (slice_get tasks p) (λ task. MayWrite (flow_of ws task.does) i k)
a_writer ws [] i k is = absurd (false≢true is)
a_writer ws (task ∷ tasks) i k is =
    elim (or_cases (may_write (flow_of ws task.does) i k) (list_any (λ one. may_write (flow_of ws one.does) i k) tasks) is) [
      | inl here ↦ (0, (decided (flow_of ws task.does) i k).writes.0 here)
      | inr there ↦ let (p, may) = a_writer ws tasks i k there in (suc p, may)
    ]

pub writer_of : (d : Flat) (i k : ℕ) → is_written d i k ≡ true → (p : ℕ) × OfProcess MayWrite d.signals d.tasks p i k
writer_of d i k is = a_writer (widths d) d.tasks i k is

-- a bit with a source is an input's or is written
pub has_source : (d : Flat) (i k : ℕ) → IsTrue (is_input d i) ⊎ (IsRegisterBit d i k ⊎ IsComputed d i k) → (is_input d i || is_written d i k) ≡ true
has_source d i k (inl input) = or_left (is_input d i) (is_written d i k) input
has_source d i k (inr (inl register)) =
    or_right (is_input d i) (is_written d i k) (written_by d register.process i k
    (to_process MayWrite d register.process i k (Edge' register.events register.body) register.does register.may))
has_source d i k (inr (inr computed)) =
    or_right (is_input d i) (is_written d i k) (written_by d computed.process i k computed.may)

-- ---- numbers

fill_known : (f : Fill) → KnownBit (fill_bit f)
fill_known fill.Zero = refl
fill_known fill.One = refl

filled_known : (f : Fill) (b : Bit) → KnownBit (filled_bit f b)
filled_known f Zero = refl
filled_known f One = refl
filled_known f X = fill_known f
filled_known f Z = fill_known f

module _ (d : Flat) (f : Fill) (v : Values) where
  number_bit : (i k : ℕ) → k < widths d i → bit (numbers_of d f v) i k ≡ cond (is_input d i || is_written d i k) (filled_bit f (bit v i k)) (fill_bit f)
  number_bit i k inside = get_or-tabulate (widths d i) (λ l. cond (is_input d i || is_written d i l) (filled_bit f (bit v i l)) (fill_bit f)) k X inside

  number_wide : (i : ℕ) → length (numbers_of d f v i) ≡ widths d i
  number_wide i = length-tabulate (widths d i) (λ l. cond (is_input d i || is_written d i l) (filled_bit f (bit v i l)) (fill_bit f))

  known_place : (b : Bool) (x : Bit) → KnownBit (cond b (filled_bit f x) (fill_bit f))
  known_place true x = filled_known f x
  known_place false x = fill_known f

  pub are_numbers : AreNumbers d (numbers_of d f v)
  are_numbers =
      record {
        wide = number_wide;
        known = λ i. known_each (numbers_of d f v i) (λ k below.
            let inside : k < widths d i = let size = number_wide i in omega (arith, below, size) in
            known_at i k inside (is_input d i || is_written d i k) (number_bit i k inside));
      }
    where
      known_at : (i k : ℕ) → k < widths d i → (b : Bool) → bit (numbers_of d f v) i k ≡ cond b (filled_bit f (bit v i k)) (fill_bit f) → KnownBit (bit (numbers_of d f v) i k)
      known_at i k inside b is = ap is_unknown is ∙ known_place b (bit v i k)

  -- a known bit that has a source keeps its value
  pub number_same : (i k : ℕ) → k < widths d i → (is_input d i || is_written d i k) ≡ true → KnownBit (bit v i k) → Same (numbers_of d f v) v i k
  number_same i k inside source known =
      number_bit i k inside ∙ ap (λ b. cond b (filled_bit f (bit v i k)) (fill_bit f)) source ∙ filled_same_bit f (bit v i k) known

  -- a bit without one has the fill
  pub number_fill : (i k : ℕ) → k < widths d i → (is_input d i || is_written d i k) ≡ false → bit (numbers_of d f v) i k ≡ fill_bit f
  number_fill i k inside none =
      number_bit i k inside ∙ ap (λ b. cond b (filled_bit f (bit v i k)) (fill_bit f)) none

-- past the ends of signals all are the same
pub past_ends : (d : Flat) (u w : Values) → HaveWidths d u → HaveWidths d w → (i k : ℕ) → (k < widths d i → Same u w i k) → Same u w i k
past_ends d u w wide wide' i k inside =
    elim (cases_lt k (widths d i)) [
      | inl below ↦ inside below
      | inr past ↦
          let here = wide i in
          let there = wide' i in
          get_or_past (u i) k X (omega (arith, past, here)) ∙ sym (get_or_past (w i) k X (omega (arith, past, there)))
    ]
