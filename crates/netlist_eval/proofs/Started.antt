-- Where a simulation begins.
use Rattle.std.proofs.Common.{◌≡◌, ◌∙◌, ◌<◌, ℕ, suc, Bool, true, false, not, ◌&&◌, ◌||◌, cond, List, [], ◌∷◌, length, get_or, refl, sym, ap, subst, inl, inr}
use Rattle.std.specs.Prelude.{◌⊎◌}
use Rattle.std.specs.List.{list_any, slice_get}
use Rattle.std.specs.Option.{IsSomeAnd}
use Rattle.std.proofs.lemmas.Bool.{false≢true}
use Rattle.rtl_bits.specs.declared.Bit.{Bit}
use Rattle.rtl_flat.specs.Flows.{flow_of}
use Rattle.rtl_flat.specs.Paths.{MayWrite, is_sure, may_write}
use Rattle.rtl_flat.specs.Process.{Assign, Comb, Edge', Doing, Task}
use Rattle.rtl_flat.specs.Value.{store}
use Rattle.rtl_flat.proofs.Paths.{decided}
use Rattle.rtl_flat.specs.Flats.{Flat, widths}
use Rattle.event_model.specs.Writes.{Values}
use Rattle.net_model.specs.declared.fill.Fill.{Fill}
use Rattle.net_model.specs.Cycle.{Chain}
use Rattle.net_model.specs.Numbers.{bit, fill_bit}
use Rattle.net_start.specs.Start.{IsStart}
use Rattle.net_start.specs.Stored.{is_kept, keeps}
use Rattle.net_start.proofs.Started.{place_of}
use Rattle.net_turn.specs.Steps as turns
use Rattle.net_turn.specs.Steps.{AreFilled}
use Rattle.netlist_eval.specs.Steps.{Starts}
use Rattle.net_start.specs.rtl_scan.Arrows.{Among}

-- ---- a bit that is kept is written

both_first : (a b : Bool) → (a && b) ≡ true → a ≡ true
both_first true b h = refl
both_first false b h = h

keeps_written : (ws : ℕ → ℕ) (does : Doing) (s k : ℕ) → keeps ws does s k ≡ true → may_write (flow_of ws does) s k ≡ true
keeps_written ws (Assign target value) s k h = absurd (false≢true h)
keeps_written ws (Comb list body) s k h =
    both_first (may_write (flow_of ws (Comb list body)) s k) (not (is_sure (flow_of ws (Comb list body)) s k)) h
keeps_written ws (Edge' events body) s k h = h

writer : (ws : ℕ → ℕ) (tasks : List Task) (s k : ℕ) → list_any (λ (one : Task). keeps ws one.does s k) tasks ≡ true → (p : ℕ) × IsSomeAnd (slice_get tasks p) (λ task. MayWrite (flow_of ws task.does) s k)
writer ws [] s k h = absurd (false≢true h)
writer ws (one ∷ tasks) s k h = by (keeps ws one.does s k) refl h (writer ws tasks s k)
  where
    by : (b : Bool) → keeps ws one.does s k ≡ b → list_any (λ (one : Task). keeps ws one.does s k) (one ∷ tasks) ≡ true → (list_any (λ (one : Task). keeps ws one.does s k) tasks ≡ true → (p : ℕ) × IsSomeAnd (slice_get tasks p) (λ task. MayWrite (flow_of ws task.does) s k)) → (p : ℕ) × IsSomeAnd (slice_get (one ∷ tasks) p) (λ task. MayWrite (flow_of ws task.does) s k)
    by true is all rest =
        (0, (decided (flow_of ws one.does) s k).writes.0 (keeps_written ws one.does s k is))
    by false is all rest =
        let (p, written) = rest (sym (ap (λ b. b || list_any (λ (one : Task). keeps ws one.does s k) tasks) is) ∙ all) in
        (suc p, written)

-- ---- what the code of a turn asks of the numbers

module _ (d : Flat) (f : Fill) (stored : List ℕ) (registers : List (List Bit)) (tops : List ℕ) (inputs : List (List Bit)) (start : Values) (is : IsStart d f stored registers tops inputs start) where
  pub filled : AreFilled d f start
  filled i k inside no_input none = by (place_of stored i)
    where
      kept_none : (j : ℕ) → j < length stored → get_or stored j 0 ≡ i → (b : Bool) → is_kept d i k ≡ b → cond b (bit (store registers) j k) (fill_bit f) ≡ fill_bit f
      kept_none j below at true is_so =
          absurd (let (p, written) = writer (widths d) d.tasks i k is_so in none p written)
      kept_none j below at false is_so = refl

      by : ((j : ℕ) × (j < length stored) × (get_or stored j 0 ≡ i)) ⊎ (Among stored i → ⊥) → bit start i k ≡ fill_bit f
      by (inr apart) = is.others i k inside no_input apart
      by (inl (j, below, at)) =
          ap (λ m. bit start m k) (sym at)
          ∙ (is.registers_are j below k (subst (λ m. k < widths d m) (sym at) inside)
          ∙ (ap (λ m. cond (is_kept d m k) (bit (store registers) j k) (fill_bit f)) at ∙ kept_none j below at (is_kept d i k) refl))

-- a solution that begins with numbers shows what they say
pub starts :
    (d : Flat) (chains : ℕ → Chain) (f : Fill) (u n : Values) →
    turns.IsBegun d chains f u n → Starts d chains f u n
starts d chains f u n begun = record {
  solution = record {
    numbers = begun.solution.numbers;
    inputs = λ i is. refl;
    kept = λ i k is. refl;
    assigns = begun.solution.assigns;
    blocks = begun.solution.blocks;
    others = begun.solution.others;
  };
  inputs = λ i is. begun.solution.inputs i is ∙ begun.inputs i is;
  registers = λ p events body does i k may lasts.
      begun.solution.kept i k (record { process = p; events = events; body = body; does = does; may = may; lasting = lasts })
      ∙ begun.registers p events body does i k may;
}
