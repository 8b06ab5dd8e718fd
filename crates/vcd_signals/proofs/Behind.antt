-- Values behind changes.
use Rattle.std.proofs.Common.{◌≡◌, ◌∙◌, ◌+◌, ◌-◌, ◌≤◌, ◌==◌, ℕ, zero, suc, Bool, true, false, nat_lt, if◌then◌else◌, List, [], ◌∷◌, ◌++◌, length, get_or, map, min, replicate, take, drop, refl, sym, ap, subst, arith, ◌<◌}
use Rattle.std.specs.Prelude.{Option, None, Some}
use Rattle.std.specs.List.{slice_get}
use Rattle.std.proofs.lemmas.List.{take_all, length-append, length-replicate}
use Rattle.rtl_bits.specs.declared.Bit.{Bit}
use Rattle.rtl_bits.specs.declared.Bit.TheVariants.{X}
use Rattle.rtl_flat.specs.Flats.{Flat}
use Rattle.vcd_read.specs.declared.dump.Change.{Change}
use Rattle.vcd_read.specs.declared.dump.Frame.{Frame}
use Rattle.vcd_read.specs.Filling.{fill, filled, reversed}
use Rattle.vcd_read.specs.Frames as dump
use Rattle.vcd_read.specs.Frames.{Variable, Written, until, value, value_behind, values_at, written, written_over}
use Rattle.vcd_signals.specs.Signals.{Sight, sight_of}
use Rattle.vcd_signals.specs.Recording.{variable_with}

-- ---- a change more

pub written_all : (bits : List Bit) (changes : List Change) → length (written bits changes) ≡ length changes
written_all bits [] = refl
written_all bits (change ∷ changes) = ap suc (written_all (drop change.bits bits) changes)

behind_push : (variable : Variable) (v : List Bit) (changes : List Written) (change : Written) → value_behind variable v (changes ++ change ∷ []) ≡ (if change.code == variable.code then written_over (value_behind variable v changes) (filled variable.width change.bits) else value_behind variable v changes)
behind_push variable v [] change = refl
behind_push variable v (one ∷ changes) change =
    behind_push variable (if one.code == variable.code then written_over v (filled variable.width one.bits) else v) changes change

pub value_push : (changes : List Written) (change : Written) (variable : Variable) → value (changes ++ change ∷ []) variable ≡ (if change.code == variable.code then written_over (value changes variable) (filled variable.width change.bits) else value changes variable)
value_push changes change variable = behind_push variable (replicate variable.width X) changes change

-- where a list goes on with an element
pub next_take : {A : Type 0} (n : ℕ) (xs ys : List A) (y : A) → drop n xs ≡ y ∷ ys → take (suc n) xs ≡ take n xs ++ y ∷ []
next_take zero [] ys y is = absurd (cc)
next_take zero (x ∷ xs) ys y is = by is
  where
    by : x ∷ xs ≡ y ∷ ys → x ∷ [] ≡ y ∷ []
    by e = cc
next_take (suc n) [] ys y is = absurd (cc)
next_take (suc n) (x ∷ xs) ys y is = ap (λ others. x ∷ others) (next_take n xs ys y is)

pub next_drop : {A : Type 0} (n : ℕ) (xs ys : List A) (y : A) → drop n xs ≡ y ∷ ys → drop (suc n) xs ≡ ys
next_drop zero [] ys y is = absurd (cc)
next_drop zero (x ∷ xs) ys y is = by is
  where
    by : x ∷ xs ≡ y ∷ ys → xs ≡ ys
    by e = cc
next_drop (suc n) [] ys y is = absurd (cc)
next_drop (suc n) (x ∷ xs) ys y is = next_drop n xs ys y is

-- ---- variables that are alike

behind_like : (one other : Variable) (v : List Bit) (changes : List Written) → one.width ≡ other.width → one.code ≡ other.code → value_behind one v changes ≡ value_behind other v changes
behind_like one other v [] w k = refl
behind_like one other v (change ∷ changes) w k =
    ap (λ (code : ℕ). value_behind one (if change.code == code then written_over v (filled one.width change.bits) else v) changes) k
    ∙ ap (λ (width : ℕ). value_behind one (if change.code == other.code then written_over v (filled width change.bits) else v) changes) w
    ∙ behind_like one other (if change.code == other.code then written_over v (filled other.width change.bits) else v) changes w k

pub value_like : (changes : List Written) (variable : Variable) (width : ℕ) → variable.width ≡ width → value changes variable ≡ value changes (variable_with width variable.code)
value_like changes variable width is =
    ap (λ (w : ℕ). value_behind variable (replicate w X) changes) is
    ∙ behind_like variable (variable_with width variable.code) (replicate width X) changes is refl

-- ---- widths

reversed_length : (behind bits : List Bit) → length (reversed behind bits) ≡ length behind + length bits
reversed_length behind [] = omega arith
reversed_length behind (bit ∷ bits) =
    let rest : length (reversed (bit ∷ behind) bits) ≡ suc (length behind) + length bits = reversed_length (bit ∷ behind) bits in
    omega (arith, rest)

filled_by : (width : ℕ) (first : Bit) (others : List Bit) (t : Bool) → nat_lt width (suc (length others)) ≡ t → (v : List Bit) → (if t then None else Some (reversed (first ∷ []) others ++ replicate (width - suc (length others)) (fill first))) ≡ Some v → length v ≡ width
filled_by width first others true is v e = absurd (cc)
filled_by width first others false is v e =
    let same : reversed (first ∷ []) others ++ replicate (width - suc (length others)) (fill first) ≡ v = cc in
    let count : length (reversed (first ∷ []) others) ≡ 1 + length others = reversed_length (first ∷ []) others in
    subst (λ l. length l ≡ width) same
    (length-append (reversed (first ∷ []) others) (replicate (width - suc (length others)) (fill first))
    ∙ sums (length-replicate (width - suc (length others)) (fill first)) count)
  where
    sums : length (replicate (width - suc (length others)) (fill first)) ≡ width - suc (length others) → length (reversed (first ∷ []) others) ≡ 1 + length others → length (reversed (first ∷ []) others) + length (replicate (width - suc (length others)) (fill first)) ≡ width
    sums a b = grind (arith, a, b, is)

pub filled_length : (width : ℕ) (bits v : List Bit) → filled width bits ≡ Some v → length v ≡ width
filled_length width [] v e = absurd (cc)
filled_length width (first ∷ others) v e =
    filled_by width first others (nat_lt width (suc (length others))) refl v e

-- ---- times

take_within : {A : Type 0} (u n : ℕ) (xs : List A) → length xs ≡ n → take (min u n) xs ≡ take u xs
take_within u n xs is = by (nat_lt u n) refl
  where
    by : (t : Bool) → nat_lt u n ≡ t → take (min u n) xs ≡ take u xs
    by true h = let e : min u n ≡ u = grind (arith, h) in ap (λ k. take k xs) e
    by false h =
        let e : min u n ≡ n = grind (arith, h) in
        let le : length xs ≤ n = omega arith in
        let more : length xs ≤ u = grind (arith, h, is) in
        ap (λ k. take k xs) e ∙ take_all n xs le ∙ sym (take_all u xs more)

-- what stands behind so many changes at a time
abbrev pub frame_at : List Variable → List Written → ℕ → ℕ → dump.Values
frame_at variables changes count time =
    record { time = time; values = map (value (take count changes)) variables }

sights_at : (d : Flat) (scope : List ℕ) (variables : List Variable) (changes : List Written) (frames : List Frame) (k : ℕ) (sight : Sight) → slice_get (map (sight_of d scope variables) (values_at variables changes frames)) k ≡ Some sight → (time : ℕ) × (sight ≡ sight_of d scope variables (frame_at variables changes (until (length changes) (drop (suc k) frames)) time))
sights_at d scope variables changes [] k sight is = absurd (cc)
sights_at d scope variables changes (frame ∷ frames) zero sight is = (frame.time, by is)
  where
    by : Some (sight_of d scope variables (frame_at variables changes (until (length changes) frames) frame.time)) ≡ Some sight → sight ≡ sight_of d scope variables (frame_at variables changes (until (length changes) frames) frame.time)
    by e = cc
sights_at d scope variables changes (frame ∷ frames) (suc k) sight is =
    sights_at d scope variables changes frames k sight is

pub sight_at : (d : Flat) (scope : List ℕ) (variables : List Variable) (changes : List Written) (frames : List Frame) (k : ℕ) (sight : Sight) (count n : ℕ) → slice_get (map (sight_of d scope variables) (values_at variables changes frames)) k ≡ Some sight → length changes ≡ n → count ≡ min (until n (drop (suc k) frames)) n → (time : ℕ) × (sight ≡ sight_of d scope variables (frame_at variables changes count time))
sight_at d scope variables changes frames k sight count n is all at =
    let (time, same) = sights_at d scope variables changes frames k sight is in
    let within : take count changes ≡ take (until (length changes) (drop (suc k) frames)) changes =
    ap (λ c. take c changes) at ∙ take_within (until n (drop (suc k) frames)) n changes all
    ∙ ap (λ m. take (until m (drop (suc k) frames)) changes) (sym all) in
    (time, same ∙ ap (λ l. sight_of d scope variables (record { time = time; values = map (value l) variables })) (sym within))

-- ---- times

pub times_all : (d : Flat) (scope : List ℕ) (variables all : List Variable) (changes : List Written) (frames : List Frame) → length (map (sight_of d scope variables) (values_at all changes frames)) ≡ length frames
times_all d scope variables all changes [] = refl
times_all d scope variables all changes (frame ∷ frames) = ap suc (times_all d scope variables all changes frames)

pub time_at : (d : Flat) (scope : List ℕ) (variables all : List Variable) (changes : List Written) (frames : List Frame) (k : ℕ) (frame : Frame) (sight : Sight) → k < length frames → slice_get (map (sight_of d scope variables) (values_at all changes frames)) k ≡ Some sight → (get_or frames k frame).time ≡ sight.time
time_at d scope variables all changes [] k frame sight inside is = absurd (omega arith)
time_at d scope variables all changes (one ∷ frames) zero frame sight inside is = by is
  where
    by : Some (sight_of d scope variables (record { time = one.time; values = map (value (take (until (length changes) frames) changes)) all })) ≡ Some sight → one.time ≡ sight.time
    by e = let same : sight_of d scope variables (record { time = one.time; values = map (value (take (until (length changes) frames) changes)) all }) ≡ sight = cc in ap (λ (s : Sight). s.time) same
time_at d scope variables all changes (one ∷ frames) (suc k) frame sight inside is =
    time_at d scope variables all changes frames k frame sight (omega arith) is

-- ---- widths

over_length : (width : ℕ) (v : List Bit) (bits : List Bit) → length v ≡ width → length (written_over v (filled width bits)) ≡ width
over_length width v bits wide = by (filled width bits) refl
  where
    by : (o : Option (List Bit)) → filled width bits ≡ o → length (written_over v o) ≡ width
    by None is = wide
    by (Some made) is = filled_length width bits made is

behind_length : (variable : Variable) (v : List Bit) (changes : List Written) → length v ≡ variable.width → length (value_behind variable v changes) ≡ variable.width
behind_length variable v [] wide = wide
behind_length variable v (change ∷ changes) wide =
    behind_length variable (if change.code == variable.code then written_over v (filled variable.width change.bits) else v) changes
    (either (change.code == variable.code))
  where
    either : (t : Bool) → length (if t then written_over v (filled variable.width change.bits) else v) ≡ variable.width
    either true = over_length variable.width v change.bits wide
    either false = wide

pub value_length : (changes : List Written) (variable : Variable) → length (value changes variable) ≡ variable.width
value_length changes variable =
    behind_length variable (replicate variable.width X) changes (length-replicate variable.width X)
