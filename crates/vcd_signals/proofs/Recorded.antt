-- What is kept behind changes, and at a time.
use Rattle.std.proofs.Common.{◌≡◌, ◌∙◌, ◌+◌, ◌<◌, ◌≤◌, ◌==◌, ℕ, zero, suc, Bool, true, if◌then◌else◌, List, [], ◌∷◌, ◌++◌, length, map, min, take, drop, replicate, refl, sym, ap, subst, arith}
use Rattle.std.specs.Prelude.{IfSome, Option, None, Some, Vec}
use Rattle.std.specs.List.{slice_get}
use Rattle.std.specs.Option.{is_some, option_flatten, option_map}
use Rattle.std.specs.declared.alloc.Global.{Global}
use Rattle.std.proofs.Math.Numerals.{add-one}
use Rattle.std.proofs.lemmas.Bool.{cases_eq, eq-eqb, ne_eqb}
use mathlib.Core.Logic.{⊎_elim}
use Rattle.std.proofs.lemmas.List.{length-map}
use Rattle.std.proofs.lemmas.Option.{slice_get_within}
use Rattle.rtl_bits.specs.declared.Bit.{Bit}
use Rattle.rtl_bits.specs.declared.Bit.TheVariants.{X}
use Rattle.rtl_flat.specs.declared.design.Design.{Design}
use Rattle.rtl_flat.specs.declared.expr.SigId.{SigId}
use Rattle.rtl_flat.specs.declared.signal.Signal.{Signal}
use Rattle.rtl_flat.specs.Flats.{flat}
use Rattle.rtl_flat.specs.Signs.{width_in}
use Rattle.rtl_flat.specs.Value.{store}
use Rattle.vcd_read.specs.declared.dump.Change.{Change}
use Rattle.vcd_read.specs.declared.dump.Dump.{Dump as KeptDump}
use Rattle.vcd_read.specs.Filling.{filled}
use Rattle.vcd_read.specs.Frames.{Variable, Written, until, value, variables, written, written_over}
use Rattle.vcd_read.specs.Reading.{dump_of}
use Rattle.vcd_signals.specs.declared.recorder.Recorder.{Recorder}
use Rattle.vcd_signals.specs.Keys.{first_code, signal_key}
use Rattle.vcd_signals.specs.Recording.{IsAt, IsRecorder, IsSame, changes_of, has, kept, kept_with, row, sights_of, text_of, value_after, variable_with}
use Rattle.vcd_signals.specs.Signals.{Sight, is_recorded, is_recorded_as, sights, value_as}
use Rattle.vcd_signals.proofs.Behind.{next_drop, next_take, sight_at, value_length, value_push, written_all}
use Rattle.vcd_signals.proofs.Paths.{any_first, value_first, value_of_code}
use Rattle.vcd_signals.proofs.Setting.{unknown_at, width_there}

-- ---- before all changes

pub rewound : (r : Recorder) → r.codes.items ≡ map (λ (signal : Signal). first_code (signal_key r.scope.now signal) (variables (text_of r))) r.design.now.signals.items → ((i code : ℕ) → i < length r.codes.items → slice_get r.codes.items i ≡ Some (Some code) → has (row r.followers.items code) i ≡ true) → r.values.items ≡ map (λ (signal : Signal). replicate signal.width X) r.design.now.signals.items → r.applied ≡ 0 → r.rest.now ≡ r.dump.now.bits.items → IsRecorder r
rewound r codes followed values none rest = record {
  codes_are = codes;
  followed = followed;
  count = ap length values ∙ length-map r.design.now.signals.items (λ (signal : Signal). replicate signal.width X);
  inside = omega arith;
  rest_is =
      ap (λ (n : ℕ). written r.rest.now (drop n r.dump.now.changes.items)) none
      ∙ ap (λ (bits : List Bit). written bits r.dump.now.changes.items) rest
      ∙ ap (λ (n : ℕ). drop n (changes_of r)) (sym none);
  values_are = λ i code is.
      let inside : i < length r.design.now.signals.items =
      subst (λ (n : ℕ). i < n) (ap length codes ∙ length-map r.design.now.signals.items (λ (signal : Signal). first_code (signal_key r.scope.now signal) (variables (text_of r))))
      (slice_get_within r.codes.items i (Some code) is) in
      ap (λ (l : List (List Bit)). store l i) values
      ∙ unknown_at r.design.now.signals.items i inside
      ∙ ap (λ (n : ℕ). value (take n (changes_of r)) (variable_with (width_in r.design.now.signals.items i) code)) (sym none);
}

-- ---- a change more

after_code : (own : Option (Option ℕ)) (width code : ℕ) (changes : List Written) (change : Written) → own ≡ Some (Some code) → (v : List Bit) → v ≡ value changes (variable_with width code) → value_after own width change v ≡ value (changes ++ change ∷ []) (variable_with width code)
after_code own width code changes change is v was =
    ap (λ (o : Option (Option ℕ)). value_after o width change v) is
    ∙ ap (λ (w : List Bit). if code == change.code then written_over w (filled width change.bits) else w) was
    ∙ ap (λ (t : Bool). if t then written_over (value changes (variable_with width code)) (filled width change.bits) else value changes (variable_with width code)) (turned code change.code)
    ∙ sym (value_push changes change (variable_with width code))
  where
    turned : (a b : ℕ) → (a == b) ≡ (b == a)
    turned a b =
        ⊎_elim
        (λ same. eq-eqb a b same ∙ sym (eq-eqb b a (sym same)))
        (λ other. ne_eqb a b other ∙ sym (ne_eqb b a (λ e. other (sym e))))
        (cases_eq a b)

codes_like : (new old : Recorder) → IsSame old new → map (λ (signal : Signal). first_code (signal_key old.scope.now signal) (variables (text_of old))) old.design.now.signals.items ≡ map (λ (signal : Signal). first_code (signal_key new.scope.now signal) (variables (text_of new))) new.design.now.signals.items
codes_like new old same =
    ap (λ (design : Design). map (λ (signal : Signal). first_code (signal_key old.scope.now signal) (variables (text_of old))) design.signals.items) (sym same.design)
    ∙ ap (λ (scope : List ℕ). map (λ (signal : Signal). first_code (signal_key scope signal) (variables (text_of old))) new.design.now.signals.items) (sym same.scope)
    ∙ ap (λ (dump : KeptDump). map (λ (signal : Signal). first_code (signal_key new.scope.now signal) (variables (dump_of dump))) new.design.now.signals.items) (sym same.text)

pub taken : (old new : Recorder) (change : Change) → IsRecorder old → IsSame old new → new.codes.items ≡ old.codes.items → new.followers.items ≡ old.followers.items → new.applied ≡ old.applied + 1 → drop old.applied old.dump.now.changes.items ≡ change ∷ drop (old.applied + 1) old.dump.now.changes.items → new.rest.now ≡ drop change.bits old.rest.now → length new.values.items ≡ length old.values.items → old.applied < length old.dump.now.changes.items → ((i : ℕ) → store new.values.items i ≡ value_after (slice_get old.codes.items i) (width_in old.design.now.signals.items i) (record { code = change.code; bits = take change.bits old.rest.now }) (store old.values.items i)) → IsRecorder new
taken old new change is same codes followers applied here rest count left values =
    let k = old.applied in
    let cs = changes_of old in
    let ch = old.dump.now.changes.items in
    let step : Written = record { code = change.code; bits = take change.bits old.rest.now } in
    let others = written (drop change.bits old.rest.now) (drop (k + 1) ch) in
    let cut : drop k cs ≡ step ∷ others = sym is.rest_is ∙ ap (λ (l : List Change). written old.rest.now l) here in
    let longer : take (k + 1) cs ≡ take k cs ++ step ∷ [] = ap (λ (n : ℕ). take n cs) (add-one k) ∙ next_take k cs others step cut in
    let shorter : drop (k + 1) cs ≡ others = ap (λ (n : ℕ). drop n cs) (add-one k) ∙ next_drop k cs others step cut in
    record {
      codes_are = codes ∙ is.codes_are ∙ codes_like new old same;
      followed = λ i code inside own.
          ap (λ (table : List (Vec SigId Global)). has (row table code) i) followers
          ∙ is.followed i code (subst (λ (l : List (Option ℕ)). i < length l) codes inside) (ap (λ (l : List (Option ℕ)). slice_get l i) (sym codes) ∙ own);
      count = count ∙ is.count ∙ ap (λ (design : Design). length design.signals.items) (sym same.design);
      inside = subst (λ (n : ℕ). new.applied ≤ n) (ap (λ (dump : KeptDump). length dump.changes.items) (sym same.text)) (subst (λ (n : ℕ). n ≤ length ch) (sym applied) (omega (arith, left)));
      rest_is =
          subst (λ (dump : KeptDump). written new.rest.now (drop new.applied dump.changes.items) ≡ drop new.applied (written dump.bits.items dump.changes.items)) (sym same.text)
          (subst (λ (n : ℕ). written new.rest.now (drop n ch) ≡ drop n cs) (sym applied)
          (ap (λ (bits : List Bit). written bits (drop (k + 1) ch)) rest ∙ sym shorter));
      values_are = λ i code own.
          let was : slice_get old.codes.items i ≡ Some (Some code) = ap (λ (l : List (Option ℕ)). slice_get l i) (sym codes) ∙ own in
          values i
          ∙ after_code (slice_get old.codes.items i) (width_in old.design.now.signals.items i) code (take k cs) step was (store old.values.items i) (is.values_are i code was)
          ∙ ap (λ (l : List Written). value l (variable_with (width_in old.design.now.signals.items i) code)) (sym longer)
          ∙ ap (λ (n : ℕ). value (take n cs) (variable_with (width_in old.design.now.signals.items i) code)) (sym applied)
          ∙ ap (λ (dump : KeptDump). value (take new.applied (written dump.bits.items dump.changes.items)) (variable_with (width_in old.design.now.signals.items i) code)) (sym same.text)
          ∙ ap (λ (design : Design). value (take new.applied (changes_of new)) (variable_with (width_in design.signals.items i) code)) (sym same.design);
    }

-- ---- a time

slice_map : {A B : Type 0} (f : A → B) (xs : List A) (i : ℕ) → slice_get (map f xs) i ≡ option_map f (slice_get xs i)
slice_map f [] i = refl
slice_map f (x ∷ xs) zero = refl
slice_map f (x ∷ xs) (suc i) = slice_map f xs i

kept_as : (scope : List ℕ) (vs : List Variable) (changes : List Written) (own : Option Signal) (bits : List Bit) → ((signal : Signal) (code : ℕ) → own ≡ Some signal → first_code (signal_key scope signal) vs ≡ Some code → bits ≡ value changes (variable_with signal.width code)) → kept_with (option_map (λ (signal : Signal). first_code (signal_key scope signal) vs) own) bits ≡ value_as scope vs (map (value changes) vs) own
kept_as scope vs changes None bits are = refl
kept_as scope vs changes (Some signal) bits are =
    by (first_code (signal_key scope signal) vs) refl ∙ sym (value_first scope signal changes vs)
  where
    by : (o : Option ℕ) → first_code (signal_key scope signal) vs ≡ o → kept_with (Some o) bits ≡ value_of_code changes signal.width o
    by None is = refl
    by (Some code) is = ap (λ (b : List Bit). Some b) (are signal code refl is)

at_time : (r : Recorder) (k : ℕ) (sight : Sight) → IsRecorder r → r.applied ≡ min (until (length r.dump.now.changes.items) (drop (k + 1) r.dump.now.frames.items)) (length r.dump.now.changes.items) → slice_get (sights_of r) k ≡ Some sight → (i : ℕ) → kept r i ≡ sight.value i
at_time r k sight is at there i =
    let signals = r.design.now.signals.items in
    let vs = variables (text_of r) in
    let first = λ (signal : Signal). first_code (signal_key r.scope.now signal) vs in
    let found = sight_at (flat r.design.now) r.scope.now vs (changes_of r) r.dump.now.frames.items k sight r.applied (length r.dump.now.changes.items) there
    (written_all r.dump.now.bits.items r.dump.now.changes.items)
    (at ∙ ap (λ (n : ℕ). min (until (length r.dump.now.changes.items) (drop n r.dump.now.frames.items)) (length r.dump.now.changes.items)) (add-one k)) in
    let code_at : slice_get r.codes.items i ≡ option_map first (slice_get signals i) =
    ap (λ (l : List (Option ℕ)). slice_get l i) is.codes_are ∙ slice_map first signals i in
    ap (λ (o : Option (Option ℕ)). kept_with o (store r.values.items i)) code_at
    ∙ kept_as r.scope.now vs (take r.applied (changes_of r)) (slice_get signals i) (store r.values.items i)
    (λ signal code own has.
    is.values_are i code (code_at ∙ ap (option_map first) own ∙ ap (λ (o : Option ℕ). Some o) has)
    ∙ ap (λ (w : ℕ). value (take r.applied (changes_of r)) (variable_with w code)) (width_there signals i signal own))
    ∙ ap (λ (s : Sight). s.value i) (sym found.1)

pub arrived : (old new : Recorder) (k : ℕ) (sight : Sight) → IsSame old new → IsRecorder new → new.applied ≡ min (until (length old.dump.now.changes.items) (drop (k + 1) old.dump.now.frames.items)) (length old.dump.now.changes.items) → slice_get (sights_of old) k ≡ Some sight → IsAt new sight
arrived old new k sight same is at there = record {
  is_recorder = is;
  values = at_time new k sight is
      (at ∙ ap (λ (dump : KeptDump). min (until (length dump.changes.items) (drop (k + 1) dump.frames.items)) (length dump.changes.items)) (sym same.text))
      (ap (λ (design : Design). slice_get (sights (flat design) new.scope.now (text_of new)) k) same.design
      ∙ ap (λ (scope : List ℕ). slice_get (sights (flat old.design.now) scope (text_of new)) k) same.scope
      ∙ ap (λ (dump : KeptDump). slice_get (sights (flat old.design.now) old.scope.now (dump_of dump)) k) same.text
      ∙ there);
}

-- ---- whether a signal is recorded

recorded_as : (scope : List ℕ) (vs : List Variable) (own : Option Signal) → is_some (option_flatten (option_map (λ (signal : Signal). first_code (signal_key scope signal) vs) own)) ≡ is_recorded_as scope vs own
recorded_as scope vs None = refl
recorded_as scope vs (Some signal) = sym (any_first scope signal vs)

pub recorded_is : (r : Recorder) (i : ℕ) → IsRecorder r → is_some (option_flatten (slice_get r.codes.items i)) ≡ is_recorded (flat r.design.now) r.scope.now (text_of r) i
recorded_is r i is =
    ap (λ (l : List (Option ℕ)). is_some (option_flatten (slice_get l i))) is.codes_are
    ∙ ap (λ (o : Option (Option ℕ)). is_some (option_flatten o)) (slice_map (λ (signal : Signal). first_code (signal_key r.scope.now signal) (variables (text_of r))) r.design.now.signals.items i)
    ∙ recorded_as r.scope.now (variables (text_of r)) (slice_get r.design.now.signals.items i)

-- ---- what is shown

kept_some : (own : Option (Option ℕ)) (bits : List Bit) → is_some (kept_with own bits) ≡ is_some (option_flatten own)
kept_some None bits = refl
kept_some (Some None) bits = refl
kept_some (Some (Some code)) bits = refl

pub kept_recorded : (r : Recorder) (i : ℕ) → IsRecorder r → is_some (kept r i) ≡ is_recorded (flat r.design.now) r.scope.now (text_of r) i
kept_recorded r i is =
    kept_some (slice_get r.codes.items i) (store r.values.items i) ∙ recorded_is r i is

wide_with : (own : Option (Option ℕ)) (bits value : List Bit) (width : ℕ) → ((code : ℕ) → own ≡ Some (Some code) → length bits ≡ width) → kept_with own bits ≡ Some value → length value ≡ width
wide_with None bits value width wide is = absurd (cc)
wide_with (Some None) bits value width wide is = absurd (cc)
wide_with (Some (Some code)) bits value width wide is = by is
  where
    by : Some bits ≡ Some value → length value ≡ width
    by e = let same : bits ≡ value = cc in subst (λ (l : List Bit). length l ≡ width) same (wide code refl)

pub kept_wide : (r : Recorder) (i : ℕ) (value : List Bit) → IsRecorder r → kept r i ≡ Some value → length value ≡ width_in r.design.now.signals.items i
kept_wide r i value is there =
    wide_with (slice_get r.codes.items i) (store r.values.items i) value (width_in r.design.now.signals.items i)
    (λ code own. ap length (is.values_are i code own) ∙ value_length (take r.applied (changes_of r)) (variable_with (width_in r.design.now.signals.items i) code))
    there

pub if_wide : (r : Recorder) (i : ℕ) (o : Option (List Bit)) → IsRecorder r → o ≡ kept r i → IfSome o (λ value. length value ≡ width_in r.design.now.signals.items i)
if_wide r i None is same = tt
if_wide r i (Some value) is same = kept_wide r i value is (sym same)
