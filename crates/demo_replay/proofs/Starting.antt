-- Where a trial begins.
use Rattle.std.proofs.Common.{◌≡◌, ◌∙◌, ◌==◌, ◌<◌, ◌≤◌, ◌+◌, ℕ, zero, suc, Bool, true, false, cond, List, [], ◌∷◌, ◌++◌, length, map, replicate, Option, None, Some, refl, sym, ap, subst, inl, inr, arith}
use Rattle.std.specs.Prelude.{◌%◌, nat_lt, if◌then◌else◌, unwrap_or}
use Rattle.std.specs.List.{All, slice_get, slice_index_or}
use Rattle.std.proofs.lemmas.Bool.{cases_eq, cases_lt, false≢true}
use Rattle.std.proofs.lemmas.List.{length-append, length-replicate}
use Rattle.std.proofs.lemmas.Option.{slice_get_within}
use Rattle.rtl_bits.specs.declared.Bit.{Bit}
use Rattle.rtl_bits.specs.declared.Bit.TheVariants.{One, X, Zero}
use Rattle.rtl_bits.specs.Bits.{bits_of, has_unknown}
use Rattle.rtl_flat.specs.declared.design.Design.{Design}
use Rattle.rtl_flat.specs.declared.expr.SigId.{SigId}
use Rattle.rtl_flat.specs.declared.signal.Kind.TheVariants.{Var}
use Rattle.rtl_flat.specs.declared.signal.Signal.{Signal}
use Rattle.rtl_flat.specs.Signs.{Has, width_in}
use Rattle.rtl_flat.specs.Value.{store}
use Rattle.rtl_flat.specs.Flats.{Flat, flat, widths}
use Rattle.event_model.specs.Writes.{Values}
use Rattle.event_queue.specs.event_write.Stored.{AreStored}
use Rattle.net_model.specs.Numbers.{AreNumbers}
use Rattle.net_model.specs.Solution.{IsLasting}
use Rattle.netlist_eval.specs.net_start.Start.{AreKnown, IsFirstUnknown}
use Rattle.netlist_eval.specs.net_start.Stored.{AreStored as AreKept, AreInputs, places}
use Rattle.event_queue.specs.rtl_scan.Arrows.{Among}
use Rattle.event_model.proofs.Active.{signal_there}
use Rattle.demo_trials.specs.Trials.{start_of}
use Rattle.demo_trials.proofs.Known.{known_bits, known_copies}
use Rattle.demo_replay.specs.Setups.{first_value, path_in, path_of}
use Rattle.demo_replay.specs.Runs.{AreTaken}
use Rattle.demo_replay.specs.Tables.{MarkTemporaries, is_marked}
use Rattle.demo_replay.proofs.Marking.{marked}

-- ---- lists of values

store_old : (values : List (List Bit)) (one : List Bit) (i : ℕ) → i < length values → store (values ++ one ∷ []) i ≡ store values i
store_old [] one i below = absurd (omega (arith, below))
store_old (x ∷ values) one zero below = refl
store_old (x ∷ values) one (suc i) below = store_old values one i (omega (arith, below))

store_new : (values : List (List Bit)) (one : List Bit) → store (values ++ one ∷ []) (length values) ≡ one
store_new [] one = refl
store_new (x ∷ values) one = store_new values one

store_past : (values : List (List Bit)) (i : ℕ) → length values ≤ i → store values i ≡ []
store_past [] i past = refl
store_past (x ∷ values) zero past = absurd (omega (arith, past))
store_past (x ∷ values) (suc i) past = store_past values i (omega (arith, past))

width_past : (signals : List Signal) (i : ℕ) → length signals ≤ i → width_in signals i ≡ 0
width_past [] i past = refl
width_past (x ∷ signals) zero past = absurd (omega (arith, past))
width_past (x ∷ signals) (suc i) past = width_past signals i (omega (arith, past))

pub width_at : (signals : List Signal) (i : ℕ) (signal : Signal) → slice_get signals i ≡ Some signal → signal.width ≡ width_in signals i
width_at [] i signal is = absurd (cc)
width_at (x ∷ signals) zero signal is =
    let same : x ≡ signal = cc in
    ap (λ (one : Signal). one.width) (sym same)
width_at (x ∷ signals) (suc i) signal is = width_at signals i signal is

no_bits : (bits : List Bit) → length bits ≡ 0 → bits ≡ []
no_bits [] e = refl
no_bits (b ∷ bits) e = absurd (omega (arith, e))

-- ---- the values of the simulator

-- what a signal has there
abbrev pub taken_at : Flat → List Bool → Values → ℕ → List Bit
taken_at d temporaries n i = cond (is_marked temporaries i) (replicate (widths d i) X) (n i)

-- those of the signals below a number
pub record AreTakenBelow (d : Flat) (temporaries : List Bool) (n : Values) (limit : ℕ) (values : List (List Bit)) : Type 0 where
  pub count : length values ≡ limit
  pub each : (i : ℕ) → i < limit → store values i ≡ taken_at d temporaries n i

pub none_taken : (d : Flat) (temporaries : List Bool) (n : Values) → AreTakenBelow d temporaries n 0 []
none_taken d temporaries n = record { count = refl; each = λ i below. absurd (omega (arith, below)) }

pub one_taken : (d : Flat) (temporaries : List Bool) (n : Values) (limit : ℕ) (values : List (List Bit)) (one : List Bit) (signal : Signal) → slice_get d.signals limit ≡ Some signal → one ≡ cond (is_marked temporaries limit) (replicate signal.width X) (n limit) → AreTakenBelow d temporaries n limit values → AreTakenBelow d temporaries n (limit + 1) (values ++ one ∷ [])
one_taken d temporaries n limit values one signal there is before =
    record {
      count = length-append values (one ∷ []) ∙ ap (λ m. m + 1) before.count;
      each = λ i below.
          elim (cases_eq i limit) [
            | inl here ↦
                subst (λ j. store (values ++ one ∷ []) j ≡ taken_at d temporaries n j) (before.count ∙ sym here)
                (store_new values one
                ∙ subst (λ j. one ≡ taken_at d temporaries n j) (sym before.count) (is ∙ ap (λ w. cond (is_marked temporaries limit) (replicate w X) (n limit)) (width_at d.signals limit signal there)))
            | inr other ↦
                let lower : i < limit = omega (arith, below, other) in
                store_old values one i (subst (λ m. i < m) (sym before.count) lower) ∙ before.each i lower
          ];
    }

module _ (design : Design) (temporaries : List Bool) (marks : MarkTemporaries design temporaries) (n : Values) (numbers : AreNumbers (flat design) n) (values : List (List Bit)) (are : AreTakenBelow (flat design) temporaries n (length design.signals.items) values) where
  taken_wide : (b : Bool) (i : ℕ) → widths (flat design) i ≡ length (cond b (replicate (widths (flat design) i) X) (n i))
  taken_wide true i = sym (length-replicate (widths (flat design) i) X)
  taken_wide false i = sym (numbers.wide i)

  pub are_stored : AreStored design.signals.items values
  are_stored =
      record {
        count = sym are.count;
        each = λ i.
            elim (cases_lt i (length design.signals.items)) [
              | inl below ↦
                  taken_wide (is_marked temporaries i) i ∙ ap length (sym (are.each i below))
              | inr past ↦
                  width_past design.signals.items i past
                  ∙ ap length (sym (store_past values i (subst (λ m. m ≤ i) (sym are.count) past)))
            ];
      }

  unmarked_lasts : (b : Bool) (i : ℕ) → is_marked temporaries i ≡ b → IsLasting (flat design) i → cond b (replicate (widths (flat design) i) X) (n i) ≡ n i
  unmarked_lasts true i is lasting = absurd (lasting ((marks.each i).0 ((marked temporaries i).1 is)))
  unmarked_lasts false i is lasting = refl

  marked_is : (b : Bool) (i : ℕ) → b ≡ true → cond b (replicate (widths (flat design) i) X) (n i) ≡ replicate (widths (flat design) i) X
  marked_is true i is = refl
  marked_is false i is = absurd (false≢true is)

  temporary_inside : (i : ℕ) → slice_get temporaries i ≡ Some true → i < length design.signals.items
  temporary_inside i is =
      subst (λ m. i < m) marks.count (slice_get_within temporaries i true is)

  pub are_taken : AreTaken (flat design) n (store values)
  are_taken =
      record {
        lasting = λ i lasting.
            elim (cases_lt i (length design.signals.items)) [
              | inl below ↦
                  are.each i below ∙ unmarked_lasts (is_marked temporaries i) i refl lasting
              | inr past ↦
                  store_past values i (subst (λ m. m ≤ i) (sym are.count) past)
                  ∙ sym (no_bits (n i) (numbers.wide i ∙ width_past design.signals.items i past))
            ];
        temporaries = λ i temporary.
            let mark = (marks.each i).1 temporary in
            are.each i (temporary_inside i mark) ∙ marked_is (is_marked temporaries i) i ((marked temporaries i).0 mark);
      }

-- ---- values that trials begin with

-- none has an unknown bit
pub first_known : (d : Flat) (trial i : ℕ) → has_unknown (first_value d trial i) ≡ false
first_known d trial i = by (nat_lt trial 8) (nat_lt trial 32) (trial % 2 == 0) _ _
  where
    by : (b c e : Bool) (w n : ℕ) → has_unknown (unwrap_or (if b then Some (replicate w (if e then Zero else One)) else if c then Some (bits_of w n) else None) (replicate w Zero)) ≡ false
    by true c true w n = known_copies w Zero refl
    by true c false w n = known_copies w One refl
    by false true e w n = known_bits w n
    by false false e w n = known_copies w Zero refl

firsts_known : (d : Flat) (trial : ℕ) (signals : List ℕ) → AreKnown (map (first_value d trial) signals)
firsts_known d trial [] j below = absurd (omega (arith, below))
firsts_known d trial (i ∷ signals) zero below = first_known d trial i
firsts_known d trial (i ∷ signals) (suc j) below =
    firsts_known d trial signals j (omega (arith, below))

both_known : (xs ys : List (List Bit)) → AreKnown xs → AreKnown ys → AreKnown (xs ++ ys)
both_known [] ys left right j below = right j below
both_known (x ∷ xs) ys left right zero below = left zero (omega arith)
both_known (x ∷ xs) ys left right (suc j) below =
    both_known xs ys (λ i inside. left (suc i) (omega (arith, inside))) right j (omega (arith, below))

-- so a netlist may begin with them
pub none_first_unknown : (d : Flat) (trial : ℕ) (xs ys : List ℕ) (registers inputs : List (List Bit)) (place : ℕ) → registers ≡ map (first_value d trial) xs → inputs ≡ map (first_value d trial) ys → IsFirstUnknown (registers ++ inputs) place → ⊥
none_first_unknown d trial xs ys registers inputs place are given unknown =
    let left = subst AreKnown (sym are) (firsts_known d trial xs) in
    let right = subst AreKnown (sym given) (firsts_known d trial ys) in
    false≢true (sym (both_known registers inputs left right place unknown.there) ∙ unknown.unknown)

-- ---- signals as they are there

-- the value with which a trial begins at the signal with a number
module _ (d : Flat) (trial i : ℕ) (signal : Signal) (there : slice_get d.signals i ≡ Some signal) (path : List ℕ) (path_is : path ≡ signal.path) where
  start_is : start_of trial path signal.width ≡ start_of trial (path_of d i) (widths d i)
  start_is =
      ap (λ (p : List ℕ). start_of trial p signal.width) (path_is ∙ ap path_in (sym there))
      ∙ ap (λ w. start_of trial (path_of d i) w) (width_at d.signals i signal there)

  pub given_is : (value : List Bit) → Some value ≡ start_of trial path signal.width → value ≡ first_value d trial i
  given_is value is =
      ap (λ (o : Option (List Bit)). unwrap_or o (replicate (widths d i) Zero)) (is ∙ start_is)

  pub filled_is : (value : List Bit) → None ≡ start_of trial path signal.width → value ≡ replicate signal.width Zero → value ≡ first_value d trial i
  filled_is value none filled =
      filled ∙ ap (λ w. replicate w Zero) (width_at d.signals i signal there)
      ∙ ap (λ (o : Option (List Bit)). unwrap_or o (replicate (widths d i) Zero)) (none ∙ start_is)

-- ---- signals that are kept are there

has_inside : (P : Signal → Type 0) (signals : List Signal) (s : ℕ) → Has P signals s → s < length signals
has_inside P [] s h = absurd h
has_inside P (x ∷ signals) zero h = omega arith
has_inside P (x ∷ signals) (suc s) h =
    let below = has_inside P signals s h in
    omega (arith, below)

among_at : (signals : List SigId) (k : ℕ) (one : SigId) → k < length signals → Among (places signals) (slice_index_or signals k one).0
among_at [] k one below = absurd (omega (arith, below))
among_at (s ∷ signals) zero one below = inl refl
among_at (s ∷ signals) (suc k) one below = inr (among_at signals k one (omega (arith, below)))

pub stored_inside : (d : Flat) (stored : List SigId) → AreKept d (places stored) → All (λ (signal : SigId). signal.0 < length d.signals) stored
stored_inside d stored are k one below =
    has_inside (λ (signal : Signal). signal.kind ≡ Var) d.signals (slice_index_or stored k one).0
    ((are.each (slice_index_or stored k one).0).0 (among_at stored k one below)).variable

pub tops_inside : (d : Flat) (tops : List SigId) → AreInputs d (places tops) → All (λ (signal : SigId). signal.0 < length d.signals) tops
tops_inside d tops are k one below =
    signal_there d (slice_index_or tops k one).0 ((are.each (slice_index_or tops k one).0).0 (among_at tops k one below))

-- what is made of each signal's number
pub over_places : {A : Type 0} (f : ℕ → A) (signals : List SigId) → map (λ (one : SigId). f one.0) signals ≡ map f (places signals)
over_places f [] = refl
over_places f (one ∷ signals) = ap (λ l. f one.0 ∷ l) (over_places f signals)
