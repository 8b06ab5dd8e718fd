-- From the start on: where a dump agrees, and where it departs.
use Rattle.std.proofs.Common.{◌≡◌, ◌∙◌, ◌+◌, ◌<◌, ◌≤◌, ◌||◌, ℕ, zero, suc, Bool, true, false, not, if◌then◌else◌, List, [], ◌∷◌, ◌++◌, length, map, drop, get_or, refl, sym, ap, subst, append_assoc, inl, inr, arith}
use Rattle.std.specs.Prelude.{None, Option, Some, IsTrue, ◌↔◌, ◌≢◌, ◌⊎◌}
use Rattle.std.specs.List.{list_all, slice_get}
use Rattle.std.specs.Option.{IsSomeAnd}
use Rattle.std.proofs.Math.Path.{fun_ext}
use Rattle.std.proofs.lemmas.List.{length-append}
use Rattle.std.proofs.lemmas.Bool.{and_parts, cond-true, cond-false, false≢true}
use Rattle.rtl_bits.specs.declared.Bit.{Bit}
use Rattle.rtl_bits.specs.declared.Bit.TheVariants.{Zero, One, X, Z}
use Rattle.rtl_bits.specs.Bits.{same_bit}
use Rattle.rtl_flat.specs.declared.signal.Signal.{Signal}
use Rattle.rtl_flat.specs.declared.design.Design.{Design}
use Rattle.rtl_flat.specs.Flats.{Flat, flat}
use Rattle.rtl_flat.specs.Signs.{Has}
use Rattle.event_model.specs.Writes.{Values}
use Rattle.netlist_eval.specs.net_start.rtl_scan.Arrows.{Among}
use Rattle.netlist_eval.specs.net_start.Stored.{AreStored, IsStored}
use Rattle.demo_told.specs.Same.{are_same}
use Rattle.demo_told.proofs.Same.{differ_is}
use Rattle.vcd_signals.specs.declared.recorder.Recorder.{Recorder}
use Rattle.vcd_signals.specs.Recording.{IsAt, IsSame, kept, sights_of}
use Rattle.vcd_signals.specs.Signals.{Sight, sights}
use Rattle.vcd_signals.specs.vcd_read.declared.dump.Dump.{Dump as KeptDump}
use Rattle.vcd_signals.specs.vcd_read.Reading.{dump_of}
use Rattle.vcd_check.specs.Checks.{AreMarks, AreNone, IsFirst, differs_from, is_compared, is_marked, is_output, seen}
use Rattle.vcd_check.specs.Departure.{Agrees, HasNumber, IsCompared, IsDeparture, Watched, from_start, is_start}

-- ---- the start

pub element : {A : Type 0} (xs : List A) (k : ℕ) → k < length xs → (x : A) × (slice_get xs k ≡ Some x)
element [] k inside = absurd (omega arith)
element (x ∷ xs) zero inside = (x, refl)
element (x ∷ xs) (suc k) inside = element xs k (omega arith)

pub from_yes : (watched : Watched) (sights : List Sight) (k : ℕ) (sight : Sight) → slice_get sights k ≡ Some sight → is_start watched sight ≡ true → from_start watched (drop k sights) ≡ drop k sights
from_yes watched [] k sight there is = absurd (cc)
from_yes watched (one ∷ sights) zero sight there is =
    cond-true (is_start watched one) (one ∷ sights) (from_start watched sights) (subst (λ (s : Sight). is_start watched s ≡ true) (sym (of_some there)) is)
  where
    of_some : Some one ≡ Some sight → one ≡ sight
    of_some e = cc
from_yes watched (one ∷ sights) (suc k) sight there is = from_yes watched sights k sight there is

pub from_no : (watched : Watched) (sights : List Sight) (k : ℕ) (sight : Sight) → slice_get sights k ≡ Some sight → is_start watched sight ≡ false → from_start watched (drop k sights) ≡ from_start watched (drop (suc k) sights)
from_no watched [] k sight there is = absurd (cc)
from_no watched (one ∷ sights) zero sight there is =
    cond-false (is_start watched one) (one ∷ sights) (from_start watched sights) (subst (λ (s : Sight). is_start watched s ≡ false) (sym (of_some there)) is)
  where
    of_some : Some one ≡ Some sight → one ≡ sight
    of_some e = cc
from_no watched (one ∷ sights) (suc k) sight there is = from_no watched sights k sight there is

-- what is kept, as a function
pub same_values : (r : Recorder) (sight : Sight) → IsAt r sight → ◌≡◌ {A = ℕ → Option (List Bit)} (λ i. kept r i) sight.value
same_values r sight at = fun_ext at.values

-- ---- the same bits

true_from : (b : Bool) → not b ≡ false → b ≡ true
true_from true h = refl
true_from false h = absurd (false≢true (sym h))

from_bit : (a b : Bit) → same_bit a b ≡ true → a ≡ b
from_bit Zero Zero h = refl
from_bit One One h = refl
from_bit X X h = refl
from_bit Z Z h = refl
from_bit Zero One h = absurd (false≢true h)
from_bit Zero X h = absurd (false≢true h)
from_bit Zero Z h = absurd (false≢true h)
from_bit One Zero h = absurd (false≢true h)
from_bit One X h = absurd (false≢true h)
from_bit One Z h = absurd (false≢true h)
from_bit X Zero h = absurd (false≢true h)
from_bit X One h = absurd (false≢true h)
from_bit X Z h = absurd (false≢true h)
from_bit Z Zero h = absurd (false≢true h)
from_bit Z One h = absurd (false≢true h)
from_bit Z X h = absurd (false≢true h)

same_from : (a b : List Bit) → are_same a b ≡ true → a ≡ b
same_from [] [] h = refl
same_from [] (y ∷ b) h = absurd (false≢true h)
same_from (x ∷ a) [] h = absurd (false≢true h)
same_from (x ∷ a) (y ∷ b) h =
    let (here, others) = and_parts (same_bit x y) (are_same a b) h in
    ap (λ (z : Bit). z ∷ a) (from_bit x y here) ∙ ap (λ (l : List Bit). y ∷ l) (same_from a b others)

-- ---- what is compared

output_has : (o : Option Signal) → is_output o ≡ true → IsSomeAnd o (λ signal. signal.top_output ≡ true)
output_has None h = absurd (false≢true h)
output_has (Some signal) h = h

has_output : (o : Option Signal) → IsSomeAnd o (λ signal. signal.top_output ≡ true) → is_output o ≡ true
has_output None h = absurd h
has_output (Some signal) h = h

pub has_inside : (signals : List Signal) (P : Signal → Type 0) (i : ℕ) → Has P signals i → i < length signals
has_inside [] P i h = absurd h
has_inside (one ∷ signals) P zero h = omega arith
has_inside (one ∷ signals) P (suc i) h = let below = has_inside signals P i h in omega (arith, below)

or_inl : (a b : Bool) → a ≡ true → (a || b) ≡ true
or_inl true b h = refl
or_inl false b h = absurd (false≢true h)

or_inr : (a b : Bool) → b ≡ true → (a || b) ≡ true
or_inr true b h = refl
or_inr false b h = h

or_either : (a b : Bool) → (a || b) ≡ true → (a ≡ true) ⊎ (b ≡ true)
or_either true b h = inl refl
or_either false b h = inr h

module _ (d : Flat) (holders : List ℕ) (stored : List Bool) (are : AreStored d holders) (marks : AreMarks (length d.signals) holders stored) where
  compared_is : (i : ℕ) → is_compared d stored i ≡ true → IsCompared d i
  compared_is i h = elim (or_either (is_output (slice_get d.signals i)) (is_marked stored i) h) [
    | inl out ↦ inl (output_has (slice_get d.signals i) out)
    | inr mark ↦ inr ((are.each i).0 ((marks.each i).0 mark).1)
  ]

  is_compared_so : (i : ℕ) → IsCompared d i → is_compared d stored i ≡ true
  is_compared_so i (inl out) = or_inl (is_output (slice_get d.signals i)) (is_marked stored i) (has_output (slice_get d.signals i) out)
  is_compared_so i (inr kept) =
      or_inr (is_output (slice_get d.signals i)) (is_marked stored i)
      ((marks.each i).1 (has_inside d.signals _ i kept.variable, (are.each i).1 kept))

  module _ (value : ℕ → Option (List Bit)) (n : Values) where
    number_by : (i : ℕ) (o : Option (List Bit)) → differs_from o (n i) ≡ false → (bits : List Bit) → o ≡ Some bits → bits ≡ n i
    number_by i None h bits is = absurd (cc)
    number_by i (Some own) h bits is = of_some is
      where
        of_some : Some own ≡ Some bits → bits ≡ n i
        of_some e = let same : own ≡ bits = cc in sym same ∙ same_from own (n i) (true_from (are_same own (n i)) h)

    has_number : (time : ℕ) (i : ℕ) → (is_compared d stored i ≡ true → differs_from (value i) (n i) ≡ false) → HasNumber d (record { time = time; value = value }) n i
    has_number time i none compared bits is = number_by i (value i) (none (is_compared_so i compared)) bits is

  pub agrees : (time : ℕ) (value : ℕ → Option (List Bit)) (n : Values) → AreNone (is_compared d stored) (λ i. differs_from (value i) (n i)) (length d.signals) → Agrees d (record { time = time; value = value }) n
  agrees time value n none i =
      has_number value n time i (λ asked. none i (compared_inside i asked) asked)
    where
      by : (i : ℕ) → IsCompared d i → i < length d.signals
      by i (inl out) = has_inside d.signals _ i out
      by i (inr kept) = has_inside d.signals _ i kept.variable

      compared_inside : (i : ℕ) → is_compared d stored i ≡ true → i < length d.signals
      compared_inside i asked = by i (compared_is i asked)

  -- the value of a signal that differs
  pub differing : (o : Option (List Bit)) (number : List Bit) → differs_from o number ≡ true → (bits : List Bit) × (o ≡ Some bits) × (bits ≢ number)
  differing None number h = absurd (false≢true h)
  differing (Some bits) number h = (bits, refl, differ_is bits number h)

  pub departure : (time : ℕ) (value : ℕ → Option (List Bit)) (n : Values) (signal : ℕ) (bits : List Bit) → IsFirst (is_compared d stored) (λ i. differs_from (value i) (n i)) (length d.signals) signal → value signal ≡ Some bits → bits ≢ n signal → IsDeparture d (record { time = time; value = value }) n signal bits
  departure time value n signal bits first is other = record {
    compared = compared_is signal first.asked_is;
    recorded_is = is;
    other = other;
    first = λ i below. has_number value n time i (λ asked. first.before i below asked);
  }

-- ---- from one time to the next

pub drop_here : {A : Type 0} (xs : List A) (k : ℕ) (x : A) → slice_get xs k ≡ Some x → drop k xs ≡ x ∷ drop (suc k) xs
drop_here [] k x is = absurd (cc)
drop_here (y ∷ xs) zero x is = by is
  where
    by : Some y ≡ Some x → y ∷ xs ≡ x ∷ xs
    by e = cc
drop_here (y ∷ xs) (suc k) x is = drop_here xs k x is

pub drop_past : {A : Type 0} (xs : List A) (k : ℕ) → length xs ≤ k → drop k xs ≡ []
drop_past [] zero past = refl
drop_past [] (suc k) past = refl
drop_past (x ∷ xs) zero past = absurd (omega arith)
drop_past (x ∷ xs) (suc k) past = drop_past xs k (omega arith)

-- times before one, with it
pub longer : {A : Type 0} (xs before : List A) (start k : ℕ) (x next : A) → drop start xs ≡ before ++ x ∷ drop (suc k) xs → slice_get xs (suc k) ≡ Some next → drop start xs ≡ (before ++ x ∷ []) ++ next ∷ drop (suc (suc k)) xs
longer xs before start k x next all there =
    all
    ∙ ap (λ l. before ++ x ∷ l) (drop_here xs (suc k) next there)
    ∙ sym (append_assoc before (x ∷ []) (next ∷ drop (suc (suc k)) xs))

-- ---- another time of the same dump

pub same_sights : (old new : Recorder) → IsSame old new → sights_of new ≡ sights_of old
same_sights old new same =
    ap (λ (design : Design). sights (flat design) new.scope.now (dump_of new.dump.now)) same.design
    ∙ ap (λ (scope : List ℕ). sights (flat old.design.now) scope (dump_of new.dump.now)) same.scope
    ∙ ap (λ (dump : KeptDump). sights (flat old.design.now) old.scope.now (dump_of dump)) same.text

pub same_on : (old now new : Recorder) → IsSame old now → IsSame now new → IsSame old new
same_on old now new first second = record {
  design = second.design ∙ first.design;
  scope = second.scope ∙ first.scope;
  text = second.text ∙ first.text;
}

pub start_seen : (watched : Watched) (r : Recorder) (sight : Sight) → IsAt r sight → is_start watched sight ≡ is_start watched (seen r)
start_seen watched r sight at =
    ap (λ (v : ℕ → Option (List Bit)). is_start watched (record { time = 0; value = v })) (sym (same_values r sight at))

pub counted : (before : List Sight) (sight : Sight) (k start : ℕ) → k ≡ length before + start → k + 1 ≡ length (before ++ sight ∷ []) + start
counted before sight k start is =
    let more : length (before ++ sight ∷ []) ≡ length before + 1 = length-append before (sight ∷ []) in
    omega (arith, is, more)
