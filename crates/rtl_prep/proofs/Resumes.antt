-- The replacements that are being read, and what is left to be read of them.
use Rattle.std.proofs.Common.{◌≡◌, ℕ, zero, suc, ◌+◌, ◌-◌, ◌*◌, ◌<◌, ◌≤◌, Bool, true, false, if◌then◌else◌, nat_lt, List, [], ◌∷◌, length, Option, Some, None, Result, Ok, Err, refl, ap, subst, sym, ◌∙◌, cond, ltb-true, arith}
use Rattle.std.specs.Option.{option_map}
use Rattle.std.specs.Str.{bytes_eq}
use Rattle.std.specs.Cmp.Lexicographic.{bytes_decides}
use Rattle.std.proofs.Math.Path.{fun_ext}
use Rattle.std.proofs.lemmas.Bool.{cases_Bool, cond-true, cond-false}
use Rattle.std.proofs.lemmas.List.{length-append}
use Rattle.rtl_tree.specs.declared.token.Token.{Token}
use Rattle.rtl_prep.specs.declared.directive.Known.{Known}
use Rattle.rtl_prep.specs.Stops.{Stop, Loops, Full, and_then}
use Rattle.rtl_prep.specs.Directives.{name_of, directive_of}
use Rattle.rtl_tree.specs.declared.token.TheConstants.{MAX_TOKENS}
use Rattle.rtl_prep.specs.declared.replace.TheConstants.{MAX_REPLACEMENTS}
use Rattle.rtl_prep.specs.Macros.{Macro, Macros, set_busy, marked, Gained, with_kept, keep, one_more, moved, is_directive, replaced, begun_as, begun, used}
use Rattle.rtl_prep.specs.Tables.{Frame, Held, frame, begins, keeps_on, goes_on}
use mathlib.Core.Logic.{⊎_elim}

-- what comes of the replacements, the innermost first; the innermost may hold n more within one another
unfoldable pub resumed : ℕ → List ℕ → ℕ → Macros → List Frame → Gained → Result Held Stop
resumed n text at macros [] g = Ok (record { macros = macros; frames = []; gained = g })
resumed n text at macros (f ∷ fs) g =
    and_then (replaced text (used n text macros at) at f.rest g) (λ g'. resumed (suc n) text at (marked false macros f.name) fs g')

pub ok_is : {A E : Type 0} (x y : A) → ◌≡◌ {A = Result A E} (Ok x) (Ok y) → x ≡ y
ok_is x y h = cc

same_refl : (name : List ℕ) → bytes_eq name name ≡ true
same_refl name = (bytes_decides name name).1 refl

-- a macro that was marked and is unmarked is as before
marks_back : (macros : Macros) (name : List ℕ) (m : Macro) → macros name ≡ Some m → m.busy ≡ false → marked false (marked true macros name) name ≡ macros
marks_back macros name m there idle =
    fun_ext
    (λ other. ⊎_elim
    (λ same.
    cond-true (bytes_eq name other) _ _ same
    ∙ ap (option_map (set_busy false)) (cond-true (bytes_eq name name) _ _ (same_refl name) ∙ ap (option_map (set_busy true)) there)
    ∙ ap (λ b. Some (record { body = m.body; busy = b })) (sym idle)
    ∙ sym there
    ∙ ap macros ((bytes_decides name other).0 same))
    (λ differ. cond-false (bytes_eq name other) _ _ differ ∙ cond-false (bytes_eq name other) _ _ differ)
    (cases_Bool (bytes_eq name other)))

abbrev Begins : Option Macro → Macro → Gained → Type 0
Begins o m g = (o ≡ Some m) × (m.busy ≡ false) × (g.used < MAX_REPLACEMENTS)

begins_if : (m' m : Macro) (name : List ℕ) (at : ℕ) (g : Gained) (b c : Bool) → m'.busy ≡ b → nat_lt g.used MAX_REPLACEMENTS ≡ c
    → cond b (Err (Loops name at)) (cond c (Ok m') (Err (Full at))) ≡ Ok m → Begins (Some m') m g
begins_if m' m name at g true c e f h = cc
begins_if m' m name at g false false e f h = cc
begins_if m' m name at g false true e f h =
    let s : m' ≡ m = ok_is {E = Stop} m' m h in
    (ap (λ x. Some x) s, ap (λ x. x.busy) (sym s) ∙ e, ltb-true g.used MAX_REPLACEMENTS f)

begins_as : (k : Option Known) (o : Option Macro) (m : Macro) (name : List ℕ) (at : ℕ) (g : Gained) → begun_as k o name at g ≡ Ok m → Begins o m g
begins_as (Some known) o m name at g h = cc
begins_as None None m name at g h = cc
begins_as None (Some m') m name at g h = begins_if m' m name at g m'.busy (nat_lt g.used MAX_REPLACEMENTS) refl refl h

pub begun_is : (macros : Macros) (name : List ℕ) (at : ℕ) (g : Gained) (m : Macro) → begun macros name at g ≡ Ok m → Begins (macros name) m g
unfolding begun
begun_is macros name at g m h = begins_as (directive_of name) (macros name) m name at g h

assoc : {A B C : Type 0} (o : Result A Stop) (f : A → Result B Stop) (k : B → Result C Stop) → and_then (and_then o f) k ≡ and_then o (λ x. and_then (f x) k)
assoc (Ok x) f k = refl
assoc (Err stop) f k = refl

-- what a use of a name gives where its macro's replacement begins
pub used_goes : (n k : ℕ) (text : List ℕ) (macros : Macros) (at : ℕ) (name : List ℕ) (g : Gained) (m : Macro) → n ≡ suc k → begun macros name at g ≡ Ok m
    → used n text macros at name g ≡ replaced text (used k text (marked true macros name) at) at m.body (one_more g)
unfolding used
used_goes zero k text macros at name g m e h = absurd (omega (arith, e))
used_goes (suc n) k text macros at name g m e h =
    ap (λ o. and_then o (λ m. replaced text (used n text (marked true macros name) at) at m.body (one_more g))) h
    ∙ ap (λ j. replaced text (used j text (marked true macros name) at) at m.body (one_more g)) (let s : n ≡ k = omega (arith, e) in s)

used_fails : (n : ℕ) (text : List ℕ) (macros : Macros) (at : ℕ) (name : List ℕ) (g : Gained) (stop : Stop) → begun macros name at g ≡ Err stop → used n text macros at name g ≡ Err stop
unfolding used
used_fails zero text macros at name g stop h = ap (λ o. and_then o (λ m. Err (Full at))) h
used_fails (suc n) text macros at name g stop h =
    ap (λ o. and_then o (λ m. replaced text (used n text (marked true macros name) at) at m.body (one_more g))) h

-- ---- one step

-- how many may still be nested in a replacement, where this many are being read
abbrev pub spare : List Frame → ℕ
spare fs = MAX_REPLACEMENTS - length fs

abbrev pub Goes : List ℕ → ℕ → Macros → Frame → List Frame → Gained → Held → Type 0
Goes text at macros f fs g h = resumed (spare (f ∷ fs)) text at macros (f ∷ fs) g ≡ resumed (spare h.frames) text at h.macros h.frames h.gained

abbrev pub without : Macros → List Frame → Gained → Held
without macros fs g = record { macros = macros; frames = fs; gained = g }

token_goes : (n : ℕ) (text : List ℕ) (at : ℕ) (macros : Macros) (f : Frame) (t : Token) (ts : List Token) (fs : List Frame) (g : Gained) (o : Result Gained Stop) → f.rest ≡ t ∷ ts
    → (if is_directive t.kind then used n text macros at (name_of text t) g else keep g (moved t at)) ≡ o
    → resumed n text at macros (f ∷ fs) g ≡ and_then o (λ g'. resumed n text at macros (frame f.name ts ∷ fs) g')
unfolding resumed replaced
token_goes n text at macros f t ts fs g o e h =
    ap (λ rest. and_then (replaced text (used n text macros at) at rest g) (λ g'. resumed (suc n) text at (marked false macros f.name) fs g')) e
    ∙ ap (λ o. and_then (and_then o (replaced text (used n text macros at) at ts)) (λ g'. resumed (suc n) text at (marked false macros f.name) fs g')) h
    ∙ assoc o (replaced text (used n text macros at) at ts) (λ g'. resumed (suc n) text at (marked false macros f.name) fs g')

begin_goes : (n k : ℕ) (text : List ℕ) (at : ℕ) (macros : Macros) (name : List ℕ) (fs : List Frame) (g : Gained) (m : Macro) → n ≡ suc k → begun macros name at g ≡ Ok m
    → and_then (used n text macros at name g) (λ g'. resumed n text at macros fs g') ≡ resumed k text at (marked true macros name) (frame name m.body ∷ fs) (one_more g)
unfolding resumed
begin_goes n k text at macros name fs g m e h =
    let b = begun_is macros name at g m h in
    ap (λ o. and_then o (λ g'. resumed n text at macros fs g')) (used_goes n k text macros at name g m e h)
    ∙ ap (λ j. and_then (replaced text (used k text (marked true macros name) at) at m.body (one_more g)) (λ g'. resumed j text at macros fs g')) e
    ∙ ap (λ ms. and_then (replaced text (used k text (marked true macros name) at) at m.body (one_more g)) (λ g'. resumed (suc k) text at ms fs g')) (sym (marks_back macros name m b.0 b.1))

begins_goes : (text : List ℕ) (at : ℕ) (macros : Macros) (name : List ℕ) (fs : List Frame) (g : Gained) (h : Held) (o : Result Macro Stop) → begun macros name at g ≡ o → length fs ≤ g.used
    → and_then o (λ m. Ok (record { macros = marked true macros name; frames = frame name m.body ∷ fs; gained = one_more g })) ≡ Ok h
    → and_then (used (spare fs) text macros at name g) (λ g'. resumed (spare fs) text at macros fs g') ≡ resumed (spare h.frames) text at h.macros h.frames h.gained
begins_goes text at macros name fs g h (Err stop) b l e = cc
begins_goes text at macros name fs g h (Ok m) b l e =
    let room = (begun_is macros name at g m b).2 in
    begin_goes (spare fs) (spare (frame name m.body ∷ fs)) text at macros name fs g m (omega (arith, room, l)) b
    ∙ ap (λ x. resumed (spare x.frames) text at x.macros x.frames x.gained) (ok_is {E = Stop} (record { macros = marked true macros name; frames = frame name m.body ∷ fs; gained = one_more g }) h e)

keeps_goes : (text : List ℕ) (at : ℕ) (macros : Macros) (fs : List Frame) (g : Gained) (h : Held) (o : Result Gained Stop) → and_then o (λ g'. Ok (without macros fs g')) ≡ Ok h
    → and_then o (λ g'. resumed (spare fs) text at macros fs g') ≡ resumed (spare h.frames) text at h.macros h.frames h.gained
keeps_goes text at macros fs g h (Err stop) e = cc
keeps_goes text at macros fs g h (Ok g') e = ap (λ x. resumed (spare x.frames) text at x.macros x.frames x.gained) (ok_is {E = Stop} (without macros fs g') h e)

token_step : (text : List ℕ) (at : ℕ) (macros : Macros) (f : Frame) (t : Token) (ts : List Token) (fs : List Frame) (g : Gained) (h : Held) (b : Bool) → is_directive t.kind ≡ b → f.rest ≡ t ∷ ts → suc (length fs) ≤ g.used
    → cond b (begins (without macros (frame f.name ts ∷ fs) g) (name_of text t) at) (keeps_on (without macros (frame f.name ts ∷ fs) g) (moved t at)) ≡ Ok h
    → Goes text at macros f fs g h
unfolding begins
token_step text at macros f t ts fs g h true d e l s =
    token_goes (spare (f ∷ fs)) text at macros f t ts fs g (used (spare (f ∷ fs)) text macros at (name_of text t) g) e
    (ap (λ b. cond b (used (spare (f ∷ fs)) text macros at (name_of text t) g) (keep g (moved t at))) d)
    ∙ begins_goes text at macros (name_of text t) (frame f.name ts ∷ fs) g h (begun macros (name_of text t) at g) refl l s
token_step text at macros f t ts fs g h false d e l s =
    token_goes (spare (f ∷ fs)) text at macros f t ts fs g (keep g (moved t at)) e
    (ap (λ b. cond b (used (spare (f ∷ fs)) text macros at (name_of text t) g) (keep g (moved t at))) d)
    ∙ keeps_goes text at macros (frame f.name ts ∷ fs) g h (keep g (moved t at)) s

end_step : (text : List ℕ) (at : ℕ) (macros : Macros) (f : Frame) (fs : List Frame) (g : Gained) → f.rest ≡ [] → suc (length fs) ≤ MAX_REPLACEMENTS
    → Goes text at macros f fs g (without (marked false macros f.name) fs g)
unfolding resumed replaced
end_step text at macros f fs g e l =
    ap (λ rest. and_then (replaced text (used (spare (f ∷ fs)) text macros at) at rest g) (λ g'. resumed (suc (spare (f ∷ fs))) text at (marked false macros f.name) fs g')) e
    ∙ ap (λ n. resumed n text at (marked false macros f.name) fs g) (let s : suc (spare (f ∷ fs)) ≡ spare fs = omega (arith, l) in s)

pub step : (text : List ℕ) (at : ℕ) (macros : Macros) (f : Frame) (fs : List Frame) (g : Gained) (h : Held) (rest : List Token) → f.rest ≡ rest → suc (length fs) ≤ g.used → g.used ≤ MAX_REPLACEMENTS
    → goes_on text at rest f.name (without macros fs g) ≡ Ok h → Goes text at macros f fs g h
unfolding goes_on
step text at macros f fs g h [] e l u s =
    subst (λ x. Goes text at macros f fs g x) (ok_is {E = Stop} (without (marked false macros f.name) fs g) h s) (end_step text at macros f fs g e (omega (arith, l, u)))
step text at macros f fs g h (t ∷ ts) e l u s = token_step text at macros f t ts fs g h (is_directive t.kind) refl e l s

-- ---- the loop

-- how much is left to be gained, and to be read
abbrev pub weight : Held → ℕ
weight h = 2 * (MAX_REPLACEMENTS - h.gained.used) + (MAX_TOKENS - length h.gained.kept) + length h.frames

pub record IsWithin (h : Held) : Type 0 where
  pub nested : length h.frames ≤ h.gained.used
  pub made : h.gained.used ≤ MAX_REPLACEMENTS

abbrev pub Nearer : List Frame → Gained → Held → Type 0
Nearer fs g h = IsWithin h × (weight h < 2 * (MAX_REPLACEMENTS - g.used) + (MAX_TOKENS - length g.kept) + suc (length fs))

begins_near : (macros : Macros) (name : List ℕ) (at : ℕ) (fs : List Frame) (g : Gained) (h : Held) (o : Result Macro Stop) → begun macros name at g ≡ o → length fs ≤ g.used
    → and_then o (λ m. Ok (record { macros = marked true macros name; frames = frame name m.body ∷ fs; gained = one_more g })) ≡ Ok h → IsWithin h × (weight h < 2 * (MAX_REPLACEMENTS - g.used) + (MAX_TOKENS - length g.kept) + length fs)
begins_near macros name at fs g h (Err stop) b l e = cc
begins_near macros name at fs g h (Ok m) b l e =
    let room = (begun_is macros name at g m b).2 in
    subst (λ x. IsWithin x × (weight x < 2 * (MAX_REPLACEMENTS - g.used) + (MAX_TOKENS - length g.kept) + length fs))
    (ok_is {E = Stop} (record { macros = marked true macros name; frames = frame name m.body ∷ fs; gained = one_more g }) h e)
    (record { nested = omega (arith, l); made = omega (arith, room) }, omega (arith, room))

keep_if : (g g' : Gained) (t : Token) (b : Bool) → nat_lt (length g.kept) MAX_TOKENS ≡ b → cond b (Ok (with_kept g t)) (Err (Full t.at)) ≡ Ok g' → (g' ≡ with_kept g t) × (length g.kept < MAX_TOKENS)
keep_if g g' t true e h = (sym (ok_is {E = Stop} (with_kept g t) g' h), ltb-true (length g.kept) MAX_TOKENS e)
keep_if g g' t false e h = cc

keep_is : (g g' : Gained) (t : Token) → keep g t ≡ Ok g' → (g' ≡ with_kept g t) × (length g.kept < MAX_TOKENS)
unfolding keep
keep_is g g' t h = keep_if g g' t (nat_lt (length g.kept) MAX_TOKENS) refl h

keeps_near : (macros : Macros) (fs : List Frame) (g : Gained) (t : Token) (h : Held) (o : Result Gained Stop) → keep g t ≡ o → length fs ≤ g.used → g.used ≤ MAX_REPLACEMENTS
    → and_then o (λ g'. Ok (without macros fs g')) ≡ Ok h → IsWithin h × (weight h < 2 * (MAX_REPLACEMENTS - g.used) + (MAX_TOKENS - length g.kept) + length fs)
keeps_near macros fs g t h (Err stop) k l u e = cc
keeps_near macros fs g t h (Ok g') k l u e =
    let p = keep_is g g' t k in
    let same : g' ≡ with_kept g t = p.0 in
    let room : length g.kept < MAX_TOKENS = p.1 in
    subst (λ x. IsWithin x × (weight x < 2 * (MAX_REPLACEMENTS - g.used) + (MAX_TOKENS - length g.kept) + length fs))
    (ap (λ g'. without macros fs g') (sym same) ∙ ok_is {E = Stop} (without macros fs g') h e)
    (record { nested = l; made = u }, omega (arith, room, length-append g.kept (t ∷ [])))

token_near : (text : List ℕ) (at : ℕ) (macros : Macros) (name : List ℕ) (t : Token) (ts : List Token) (fs : List Frame) (g : Gained) (h : Held) (b : Bool) → suc (length fs) ≤ g.used → g.used ≤ MAX_REPLACEMENTS
    → cond b (begins (without macros (frame name ts ∷ fs) g) (name_of text t) at) (keeps_on (without macros (frame name ts ∷ fs) g) (moved t at)) ≡ Ok h → Nearer fs g h
unfolding begins
token_near text at macros name t ts fs g h true l u s = begins_near macros (name_of text t) at (frame name ts ∷ fs) g h (begun macros (name_of text t) at g) refl l s
token_near text at macros name t ts fs g h false l u s = keeps_near macros (frame name ts ∷ fs) g (moved t at) h (keep g (moved t at)) refl l u s

pub near : (text : List ℕ) (at : ℕ) (macros : Macros) (name : List ℕ) (fs : List Frame) (g : Gained) (h : Held) (rest : List Token) → suc (length fs) ≤ g.used → g.used ≤ MAX_REPLACEMENTS
    → goes_on text at rest name (without macros fs g) ≡ Ok h → Nearer fs g h
unfolding goes_on
near text at macros name fs g h [] l u s =
    subst (λ x. Nearer fs g x) (ok_is {E = Stop} (without (marked false macros name) fs g) h s)
    (record { nested = omega (arith, l); made = u }, omega arith)
near text at macros name fs g h (t ∷ ts) l u s = token_near text at macros name t ts fs g h (is_directive t.kind) l u s

-- ---- the same, in the words of the code's loop

err_is : {A : Type 0} (o : Result A Stop) (f : A → Held) (stop : Stop) → and_then o (λ x. Ok (f x)) ≡ Err stop → o ≡ Err stop
err_is (Ok x) f stop h = cc
err_is (Err s) f stop h = cc

pub first_fails : (n : ℕ) (text : List ℕ) (at : ℕ) (macros : Macros) (name : List ℕ) (fs : List Frame) (g : Gained) (stop : Stop) → begins (without macros fs g) name at ≡ Err stop → used n text macros at name g ≡ Err stop
unfolding begins
first_fails n text at macros name fs g stop h = used_fails n text macros at name g stop (err_is (begun macros name at g) _ stop h)

abbrev pub Began : List ℕ → ℕ → Macros → List ℕ → Gained → Held → Type 0
Began text at macros name g h =
    IsWithin h × (resumed (spare h.frames) text at h.macros h.frames h.gained ≡ and_then (used MAX_REPLACEMENTS text macros at name g) (λ g. Ok (without macros [] g)))

first_at : (text : List ℕ) (at : ℕ) (macros : Macros) (name : List ℕ) (g : Gained) (h : Held) → begins (without macros [] g) name at ≡ Ok h → Began text at macros name g h
unfolding begins resumed
first_at text at macros name g h s =
    ((begins_near macros name at [] g h (begun macros name at g) refl (omega arith) s).0, sym (begins_goes text at macros name [] g h (begun macros name at g) refl (omega arith) s))

pub first_step : (text : List ℕ) (at : ℕ) (macros : Macros) (name : List ℕ) (fs : List Frame) (g : Gained) (h : Held) → fs ≡ [] → begins (without macros fs g) name at ≡ Ok h → Began text at macros name g h
first_step text at macros name fs g h e s = first_at text at macros name g h (ap (λ fs. begins (without macros fs g) name at) (sym e) ∙ s)

abbrev pub Loops' : List ℕ → ℕ → Macros → List Frame → Gained → Held → Type 0
Loops' text at macros all g h =
    IsWithin h × (weight h < weight (without macros all g)) × (resumed (spare all) text at macros all g ≡ resumed (spare h.frames) text at h.macros h.frames h.gained)

loop_at : (text : List ℕ) (at : ℕ) (macros : Macros) (f : Frame) (fs : List Frame) (g : Gained) (h : Held) → IsWithin (without macros (f ∷ fs) g) → goes_on text at f.rest f.name (without macros fs g) ≡ Ok h → Loops' text at macros (f ∷ fs) g h
loop_at text at macros f fs g h w s =
    let n = near text at macros f.name fs g h f.rest w.nested w.made s in
    (n.0, omega (arith, n.1), step text at macros f fs g h f.rest refl w.nested w.made s)

pub loop_step : (text text' : List ℕ) (at : ℕ) (macros : Macros) (all : List Frame) (f : Frame) (fs : List Frame) (g : Gained) (h : Held) → text' ≡ text → all ≡ f ∷ fs → IsWithin (without macros all g)
    → goes_on text' at f.rest f.name (without macros fs g) ≡ Ok h → Loops' text at macros all g h
loop_step text text' at macros all f fs g h t e w s =
    subst (λ x. Loops' text at macros x g h) (sym e)
    (loop_at text at macros f fs g h (subst (λ x. IsWithin (without macros x g)) e w) (ap (λ x. goes_on x at f.rest f.name (without macros fs g)) (sym t) ∙ s))

token_fails : (text : List ℕ) (at : ℕ) (macros : Macros) (f : Frame) (t : Token) (ts : List Token) (fs : List Frame) (g : Gained) (stop : Stop) (b : Bool) → is_directive t.kind ≡ b → f.rest ≡ t ∷ ts
    → cond b (begins (without macros (frame f.name ts ∷ fs) g) (name_of text t) at) (keeps_on (without macros (frame f.name ts ∷ fs) g) (moved t at)) ≡ Err stop
    → resumed (spare (f ∷ fs)) text at macros (f ∷ fs) g ≡ Err stop
token_fails text at macros f t ts fs g stop true d e s =
    token_goes (spare (f ∷ fs)) text at macros f t ts fs g (Err stop) e
    (ap (λ b. cond b (used (spare (f ∷ fs)) text macros at (name_of text t) g) (keep g (moved t at))) d ∙ first_fails (spare (f ∷ fs)) text at macros (name_of text t) (frame f.name ts ∷ fs) g stop s)
token_fails text at macros f t ts fs g stop false d e s =
    token_goes (spare (f ∷ fs)) text at macros f t ts fs g (Err stop) e
    (ap (λ b. cond b (used (spare (f ∷ fs)) text macros at (name_of text t) g) (keep g (moved t at))) d ∙ err_is (keep g (moved t at)) _ stop s)

fails_at : (text : List ℕ) (at : ℕ) (macros : Macros) (f : Frame) (fs : List Frame) (g : Gained) (stop : Stop) (rest : List Token) → f.rest ≡ rest → goes_on text at rest f.name (without macros fs g) ≡ Err stop
    → resumed (spare (f ∷ fs)) text at macros (f ∷ fs) g ≡ Err stop
unfolding goes_on
fails_at text at macros f fs g stop [] e s = cc
fails_at text at macros f fs g stop (t ∷ ts) e s = token_fails text at macros f t ts fs g stop (is_directive t.kind) refl e s

pub loop_fails : (text text' : List ℕ) (at : ℕ) (macros : Macros) (all : List Frame) (f : Frame) (fs : List Frame) (g : Gained) (stop : Stop) → text' ≡ text → all ≡ f ∷ fs
    → goes_on text' at f.rest f.name (without macros fs g) ≡ Err stop → resumed (spare all) text at macros all g ≡ Err stop
loop_fails text text' at macros all f fs g stop t e s =
    ap (λ x. resumed (spare x) text at macros x g) e ∙ fails_at text at macros f fs g stop f.rest refl (ap (λ x. goes_on x at f.rest f.name (without macros fs g)) (sym t) ∙ s)

pub fails_back : (o : Result Gained Stop) (macros : Macros) (stop : Stop) → and_then o (λ g. Ok (without macros [] g)) ≡ Err stop → o ≡ Err stop
fails_back o macros stop h = err_is o _ stop h

ends_at : (n : ℕ) (text : List ℕ) (at : ℕ) (macros macros' : Macros) (g : Gained) (o : Result Gained Stop)
    → resumed n text at macros [] g ≡ and_then o (λ g. Ok (without macros' [] g)) → (o ≡ Ok g) × (macros ≡ macros')
unfolding resumed
ends_at n text at macros macros' g (Err stop) s = cc
ends_at n text at macros macros' g (Ok g') s =
    let h : without macros [] g ≡ without macros' [] g' = ok_is {E = Stop} (without macros [] g) (without macros' [] g') s in
    (ap (λ (x : Held). Ok x.gained) (sym h), ap (λ (x : Held). x.macros) h)

pub loop_ends : (n : ℕ) (text : List ℕ) (at : ℕ) (macros macros' : Macros) (all : List Frame) (g : Gained) (o : Result Gained Stop) → all ≡ []
    → resumed n text at macros all g ≡ and_then o (λ g. Ok (without macros' [] g)) → (o ≡ Ok g) × (macros ≡ macros')
loop_ends n text at macros macros' all g o e s = ends_at n text at macros macros' g o (ap (λ x. resumed n text at macros x g) (sym e) ∙ s)
