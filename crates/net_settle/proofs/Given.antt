-- Numbers in which inputs are set.
use Rattle.std.specs.Prelude.{IsTrue}
use Rattle.std.proofs.Common.{◌≡◌, ◌∙◌, ◌<◌, ◌++◌, ◌+◌, ℕ, true, false, List, [], ◌∷◌, All, length, map, take, get_or, Option, None, Some, refl, sym, ap, subst, inl, inr}
use Rattle.std.proofs.lemmas.Bool.{cases_eq, false≢true}
use Rattle.std.specs.List.{slice_get}
use Rattle.std.proofs.lemmas.List.{take_more}
use Rattle.std.proofs.lemmas.Option.{slice_get_within}
use Rattle.rtl_flat.specs.declared.signal.Signal.{Signal}
use Rattle.std.proofs.lemmas.List.Elements.{All-head, All-tail}
use Rattle.rtl_bits.specs.declared.Bit.TheVariants.{X}
use Rattle.rtl_bits.specs.Bits.{has_unknown}
use Rattle.rtl_flat.specs.Paths.{MayWrite}
use Rattle.rtl_flat.specs.PathSets.{OfProcess}
use Rattle.rtl_flat.specs.Process.{Comb, Edge'}
use Rattle.event_model.specs.declared.setting.Setting as queue
use Rattle.event_model.specs.Queue.{is_input, is_input_of}
use Rattle.rtl_flat.specs.Flats.{Flat, widths}
use Rattle.event_model.specs.Traces.{Same}
use Rattle.event_model.specs.Writes.{Values, put}
use Rattle.net_body.specs.event_laws.Steady.{AreLawful}
use Rattle.net_solve.proofs.event_runs_proofs.Writers.{to_process}
use Rattle.net_body.proofs.event_laws_proofs.Lengths.{put_at, put_other}
use Rattle.net_model.specs.declared.fill.Fill.{Fill}
use Rattle.net_model.specs.Cycle.{Data, Setting, given_after}
use Rattle.net_model.specs.Numbers.{AreNumbers}
use Rattle.net_model.specs.Solution.{IsSolution}
use Rattle.net_settle.proofs.Cycles.{cycle}
use Rattle.net_solve.specs.Laws.{IsBeginning}
use Rattle.net_solve.proofs.Worked.{no_input_written}
use Rattle.net_settle.specs.Settle.{IsSolved, MakesCycle, SetsInput, setting_view}

module _ (d : Flat) where
  -- a signal that is no input stays
  pub given_other : (n : Values) (all : List Setting) → All (SetsInput d) all → (i : ℕ) → (IsTrue (is_input d i) → ⊥) → given_after n all i ≡ n i
  given_other n [] sets i none = refl
  given_other n (one ∷ others) sets i none =
      given_other (put n one.input one.number) others (All-tail (SetsInput d) one others sets) i none
      ∙ put_other n one.input i one.number (λ same. none (subst (λ j. IsTrue (is_input d j)) (sym same) (All-head (SetsInput d) one others sets).input))

  put_numbers : (n : Values) (one : Setting) → AreNumbers d n → SetsInput d one → AreNumbers d (put n one.input one.number)
  put_numbers n one are sets = record {
    wide = λ i. elim (cases_eq i one.input) as (λ _. length (put n one.input one.number i) ≡ widths d i) [
      | inl here ↦ ap length (put_at n one.input i one.number here) ∙ (sets.wide ∙ ap (widths d) (sym here))
      | inr other ↦ ap length (put_other n one.input i one.number other) ∙ are.wide i
    ];
    known = λ i. elim (cases_eq i one.input) as (λ _. has_unknown (put n one.input one.number i) ≡ false) [
      | inl here ↦ ap has_unknown (put_at n one.input i one.number here) ∙ sets.known
      | inr other ↦ ap has_unknown (put_other n one.input i one.number other) ∙ are.known i
    ];
  }

  pub given_numbers : (n : Values) (all : List Setting) → AreNumbers d n → All (SetsInput d) all → AreNumbers d (given_after n all)
  given_numbers n [] are sets = are
  given_numbers n (one ∷ others) are sets =
      given_numbers (put n one.input one.number) others (put_numbers n one are (All-head (SetsInput d) one others sets)) (All-tail (SetsInput d) one others sets)

  pub one_numbers : (n : Values) (one : Setting) → AreNumbers d n → SetsInput d one → AreNumbers d (given_after n (one ∷ []))
  one_numbers n one are sets = put_numbers n one are sets

  module _ (lawful : AreLawful d) (f : Fill) (old : Values) (solved : IsSolved d f old) (all : List Setting) (sets : All (SetsInput d) all) where
    -- what processes write stays
    written_stays : (p i k : ℕ) → OfProcess MayWrite d.signals d.tasks p i k → Same (given_after old all) old i k
    written_stays p i k may =
        ap (λ bits. get_or bits k X) (given_other old all sets i (λ input. no_input_written d lawful p i k may input))

    pub data_begins : IsBeginning d f old (given_after old all) (given_after old all)
    data_begins = record {
      numbers = given_numbers old all solved.1.numbers sets;
      inputs = λ i is. refl;
      kept = λ i k is. refl;
      latched = λ p list body here i k may. written_stays p i k (to_process MayWrite d p i k (Comb list body) here may);
      others = λ i k inside no_input none.
          ap (λ bits. get_or bits k X) (given_other old all sets i (λ input. false≢true (sym no_input ∙ input)))
          ∙ solved.1.others i k inside no_input none;
    }

    pub data_cycle : (new : Values) → IsSolution d f old (given_after old all) new → MakesCycle d f old (Data all) new
    data_cycle new solution chains =
        cycle d chains f old (Data all) (given_after old all) new
        (record {
          inputs = λ i is. refl;
          registers = λ p events body here i k may lasts. written_stays p i k (to_process MayWrite d p i k (Edge' events body) here may);
        })
        solution

-- settings one after another
pub given_append : (n : Values) (xs ys : List Setting) → given_after n (xs ++ ys) ≡ given_after (given_after n xs) ys
given_append n [] ys = refl
given_append n (x ∷ xs) ys = given_append (put n x.input x.number) xs ys

-- the settings up to one more
pub taken_next : (all : List queue.Setting) (j : ℕ) (x : queue.Setting) → j < length all → x ≡ get_or all j x → map setting_view (take (j + 1) all) ≡ map setting_view (take j all) ++ setting_view x ∷ []
taken_next all j x below is =
    ap (map setting_view) (take_more all j x below ∙ ap (λ y. take j all ++ y ∷ []) (sym is))
    ∙ mapped (take j all)
  where
    mapped : (xs : List queue.Setting) → map setting_view (xs ++ x ∷ []) ≡ map setting_view xs ++ setting_view x ∷ []
    mapped [] = refl
    mapped (y ∷ xs) = ap (λ l. setting_view y ∷ l) (mapped xs)

-- an input is a signal
pub input_there : (d : Flat) (i : ℕ) → IsTrue (is_input d i) → i < length d.signals
input_there d i input = by (slice_get d.signals i) refl input
  where
    by : (o : Option Signal) → slice_get d.signals i ≡ o → is_input_of o ≡ true → i < length d.signals
    by None there is = absurd (false≢true is)
    by (Some signal) there is = slice_get_within d.signals i signal there
