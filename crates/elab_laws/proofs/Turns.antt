-- Loops without faults.
use Rattle.std.specs.Prelude.{ℕ, zero, suc, ℤ, Bool, true, false, if◌then◌else◌, List, [], ◌++◌, Option, None, Some, Ok, Err}
use Rattle.std.specs.Str.{bytes_eq}
use Rattle.std.proofs.Common.{◌≡◌}
use Rattle.rtl_const.specs.Constant.{Outcome}
use Rattle.rtl_tree.specs.TreeExpr.{Identifier}
use Rattle.rtl_flat.specs.declared.signal.Signal.{Signal}
use Rattle.rtl_flat.specs.Process.{Action}
use Rattle.elab_body.specs.elab_scope.declared.known.Known.{Known}
use Rattle.elab_body.specs.elab_scope.declared.known.Known.TheVariants as known
use Rattle.elab_body.specs.elab_scope.Expressions.{constant_faults}
use Rattle.elab_body.specs.elab_scope.Names.{Meanings, indexed, is_integer, with_meaning}
use Rattle.elab_body.specs.elab_scope.Sources.{IsDescribed}
use Rattle.elab_body.proofs.elab_scope_proofs.Fitting.{no_cons}
use Rattle.elab_body.proofs.elab_scope_proofs.Sound.{nil_left}
use Rattle.elab_body.specs.Acts.{act_turns, acts_with, loop_acts}
use Rattle.elab_body.specs.Bodies.{Head, all_turns, counted, first_turns, head_faults, in_head, in_turn, index_faults, loop_faults, loop_steps, loop_turns, turns, with_number}
use Rattle.elab_body.specs.Steps.{Step, faulty}
use Rattle.elab_body.specs.Faultless.{AreFaultless}
use Rattle.elab_laws.specs.Scopes.{HasKind, IsScopeOf}
use Rattle.elab_laws.proofs.Made.{Made, made_append, made_behind, made_counted, made_none, made_where, made_with}
use Rattle.elab_laws.proofs.Steps.{faultless_left, faultless_right, no_faults}

-- ---- the scope of a turn

number_described : (base : ℕ) (ss : List Signal) (b : Bool) (number : Option ℤ) (other : Option Known) → IsDescribed base ss other → IsDescribed base ss (if b then Some (known.Integer number) else other)
number_described base ss true number other h = tt
number_described base ss false number other h = h

number_kind : (base : ℕ) (ss : List Signal) (b : Bool) (number : Option ℤ) (other : Option Known) → HasKind base ss other → HasKind base ss (if b then Some (known.Integer number) else other)
number_kind base ss true number other h = tt
number_kind base ss false number other h = h

with_number_scope : (base : ℕ) (ss : List Signal) (scope : Meanings) (name : List ℕ) (number : Option ℤ) → IsScopeOf base ss scope → IsScopeOf base ss (with_meaning scope name (known.Integer number))
with_number_scope base ss scope name number d =
    record {
      described = λ other. number_described base ss (bytes_eq name other) number (scope other) (d.described other);
      kinds = λ other. number_kind base ss (bytes_eq name other) number (scope other) (d.kinds other);
      bits = d.bits;
    }

either_scope : (base : ℕ) (ss : List Signal) (b : Bool) (scope other : Meanings) → IsScopeOf base ss scope → IsScopeOf base ss other → IsScopeOf base ss (if b then scope else other)
either_scope base ss true scope other d e = d
either_scope base ss false scope other d e = e

-- the names of a module stand for the same signals in a turn of a loop
pub indexed_scope : (base : ℕ) (ss : List Signal) (scope : Meanings) (name : List ℕ) (number : Option ℤ) → IsScopeOf base ss scope → IsScopeOf base ss (indexed scope name number)
indexed_scope base ss scope name number d =
    either_scope base ss (is_integer (scope name)) (with_meaning scope name (known.Integer number)) scope (with_number_scope base ss scope name number d) d

-- ---- turns

-- whether a body is made of its steps in each scope
abbrev pub IsMadeIn : ℕ → List Signal → (Meanings → List Step) → (Meanings → List Action) → Type 0
IsMadeIn base ss body acts =
    (scope : Meanings) → IsScopeOf base ss scope → AreFaultless (body scope) → Made ss (body scope) (acts scope)

made_turns : (base : ℕ) (ss : List Signal) (body : Meanings → List Step) (acts : Meanings → List Action) → IsMadeIn base ss body acts → (scope : Meanings) → IsScopeOf base ss scope → (head : Head) (more : ℕ) (number : ℤ) → AreFaultless (turns body scope head more number) → Made ss (turns body scope head more number) (act_turns acts scope head more number)
unfolding turns act_turns
made_turns base ss body acts m scope d head zero number h = made_none ss _
made_turns base ss body acts m scope d head (suc more) number h =
    let s : Meanings = in_turn scope head number in
    let e : IsScopeOf base ss s = indexed_scope base ss scope head.index.text (Some number) d in
    let first : List Step = counted head.at (body s) in
    let others : List Step = with_number (in_head s head.step) (turns body scope head more) in
    made_where ss (in_head s head.condition) (first ++ others) (acts s ++ acts_with (in_head s head.step) (act_turns acts scope head more)) (λ none. made_append ss first others (acts s) (acts_with (in_head s head.step) (act_turns acts scope head more)) (made_counted ss head.at (body s) (acts s) (m s e) (faultless_left first others none)) (made_with ss (in_head s head.step) (turns body scope head more) (act_turns acts scope head more) (λ next. made_turns base ss body acts m scope d head more next) (faultless_right first others none))) h

made_first : (ss : List Signal) (o : Outcome) (next : ℤ → List Step) (acts : ℤ → List Action) → ((number : ℤ) → AreFaultless (next number) → Made ss (next number) (acts number)) → AreFaultless (first_turns o next) → Made ss (first_turns o next) (acts_with o acts)
made_first ss (Err cause) next acts m h = made_none ss []
made_first ss (Ok number) next acts m h = m number h

made_indexed : (ss : List Signal) (name : Identifier) (k : Option Known) (xs : List Step) (acts : List Action) → index_faults name k ≡ [] → (AreFaultless xs → Made ss xs acts) → AreFaultless (loop_turns k xs) → Made ss (loop_turns k xs) acts
made_indexed ss name None xs acts h m none = absurd (no_cons _ _ h)
made_indexed ss name (Some (known.Integer None)) xs acts h m none = m none
made_indexed ss name (Some (known.Integer (Some number))) xs acts h m none = absurd (no_cons _ _ h)
made_indexed ss name (Some (known.Parameter n width signed)) xs acts h m none = absurd (no_cons _ _ h)
made_indexed ss name (Some (known.Signal n role shape)) xs acts h m none = absurd (no_cons _ _ h)

index_is : (scope : Meanings) (head : Head) → loop_faults scope head ≡ [] → index_faults head.index (scope head.index.text) ≡ []
unfolding loop_faults
index_is scope head h =
    let first = index_faults head.index (scope head.index.text) in
    let second = constant_faults scope head.start in
    let third = head_faults scope head (in_head scope head.start) in
    nil_left first second (nil_left (first ++ second) third (nil_left (first ++ second ++ third) _ h))

made_all : (base : ℕ) (ss : List Signal) (body : Meanings → List Step) (acts : Meanings → List Action) → IsMadeIn base ss body acts → (scope : Meanings) → IsScopeOf base ss scope → (head : Head) → index_faults head.index (scope head.index.text) ≡ [] → AreFaultless (all_turns body scope head) → Made ss (all_turns body scope head) (loop_acts acts scope head)
unfolding all_turns loop_acts
made_all base ss body acts m scope d head is h =
    made_indexed ss head.index (scope head.index.text) (first_turns (in_head scope head.start) (turns body scope head 4096)) (acts_with (in_head scope head.start) (act_turns acts scope head 4096)) is (made_first ss (in_head scope head.start) (turns body scope head 4096) (act_turns acts scope head 4096) (λ number. made_turns base ss body acts m scope d head 4096 number)) h

-- a loop
pub made_loop : (base : ℕ) (ss : List Signal) (body : Meanings → List Step) (acts : Meanings → List Action) → IsMadeIn base ss body acts → (scope : Meanings) → IsScopeOf base ss scope → (head : Head) → AreFaultless (loop_steps body scope head) → Made ss (loop_steps body scope head) (loop_acts acts scope head)
made_loop base ss body acts m scope d head h =
    let none : loop_faults scope head ≡ [] = no_faults (loop_faults scope head) (faultless_left (faulty (loop_faults scope head)) _ h) in
    made_behind ss (loop_faults scope head) (all_turns body scope head) (loop_acts acts scope head) (made_all base ss body acts m scope d head (index_is scope head none) (faultless_right (faulty (loop_faults scope head)) _ h))
