-- A port with a direction is a signal with that direction, where its module declares without faults.
use Rattle.std.specs.Prelude.{ℕ, true, false, List, [], ◌∷◌, Option, None, Some}
use Rattle.std.specs.Cmp.Lexicographic.{bytes_decides}
use Rattle.std.specs.Option.{is_some}
use Rattle.std.specs.Str.{bytes_eq}
use Rattle.std.proofs.Common.{◌≡◌, refl, sym, subst, inl, inr}
use Rattle.std.proofs.lemmas.Bool.{cases_Bool}
use Rattle.rtl_const.specs.Numbers.{Numbers}
use Rattle.rtl_tree.specs.declared.tree.item.Direction.{Direction}
use Rattle.rtl_tree.specs.declared.tree.item.PortKind.{PortKind}
use Rattle.rtl_tree.specs.TreeExpr.{Identifier}
use Rattle.elab_laws.proofs.elab_scope_proofs.Fitting.{no_cons}
use Rattle.elab_laws.proofs.elab_scope_proofs.Sound.{nil_left, nil_right}
use Rattle.elab_flat.specs.elab_items.declared.claims.Claim.{Claim}
use Rattle.elab_flat.specs.elab_items.declared.claims.Line.{Line}
use Rattle.elab_flat.specs.elab_items.declared.claims.Sense.{Sense}
use Rattle.elab_flat.specs.elab_items.declared.claims.Sense.TheVariants as sense
use Rattle.elab_flat.specs.elab_items.declared.reach.Reach.{Reach}
use Rattle.elab_flat.specs.elab_items.Claims.{Claims, Course, all_claim_faults, all_claimed, claim_faults, claimed, claims_after, completes, direction_of, either, first_sense, joins, line_of, listed_claim, outside_faults, plain_claim, plain_faults, signal_claim, signal_faults, signal_sense, with_claim}
use Rattle.elab_flat.specs.elab_items.Declarations.{Declaration, ParameterRange, Parameter, SignalRange, Listed, Signal, Integer, Instance}
use Rattle.elab_flat.specs.elab_links.Ports.{Directions, all_directed, directed, with_direction}

pub same_bytes : (name : List ℕ) → bytes_eq name name ≡ true
same_bytes name = (bytes_decides name name).1 refl

-- the direction that a name has after a declaration
abbrev pub direction_after : Option Direction → Option Direction → Option Direction
direction_after e None = e
direction_after None (Some d) = Some d
direction_after (Some e) (Some d) = Some e

after_some : (e : Option Direction) (d : Direction) → is_some e ≡ true → direction_after e (Some d) ≡ e
after_some None d h = absurd cc
after_some (Some e) d h = refl

after_none : (e : Option Direction) (d : Direction) → is_some e ≡ false → direction_after e (Some d) ≡ Some d
after_none None d h = refl
after_none (Some e) d h = absurd cc

direction_here : (directions : Directions) (name : List ℕ) (o : Option Direction) → with_direction directions name o name ≡ direction_after (directions name) o
direction_here directions name None = refl
direction_here directions name (Some d) =
    elim (cases_Bool (is_some (directions name))) [
      | inl yes' ↦ rw yes' (sym (after_some (directions name) d yes'))
      | inr no' ↦ rw (no', same_bytes name) (sym (after_none (directions name) d no'))
    ]

pub direction_there : (directions : Directions) (name other : List ℕ) (o : Option Direction) → bytes_eq name other ≡ false → with_direction directions name o other ≡ directions other
direction_there directions name other None h = refl
direction_there directions name other (Some d) h =
    elim (cases_Bool (is_some (directions name))) [
      | inl yes' ↦ rw yes' refl
      | inr no' ↦ rw (no', h) refl
    ]

claim_here : (claims : Claims) (name : List ℕ) (c : Claim) → with_claim claims name c name ≡ c
claim_here claims name c = rw (same_bytes name) refl

claim_there : (claims : Claims) (name other : List ℕ) (c : Claim) → bytes_eq name other ≡ false → with_claim claims name c other ≡ claims other
claim_there claims name other c h = rw h refl

-- what is declared has the direction that its name has
abbrev pub IsDirection : Option Direction → Option Direction → Type 0
IsDirection None own = Unit {0}
IsDirection (Some d) own = own ≡ Some d

abbrev pub Agrees : Option Direction → Option Sense → Type 0
Agrees e None = e ≡ None
Agrees e (Some (sense.Signal line)) = IsDirection e line.direction
Agrees e (Some sense.Number) = e ≡ None
Agrees e (Some sense.Instance) = e ≡ None

abbrev pub AllAgree : Directions → Claims → Type 0
AllAgree directions claims = (name : List ℕ) → Agrees (directions name) (claims name).sense

own_direction : (o : Option Direction) → IsDirection (direction_after None o) o
own_direction None = tt
own_direction (Some d) = refl

joined_direction : (e a b : Option Direction) (k l : Option PortKind) → completes a k b l ≡ true → IsDirection e a → IsDirection (direction_after e b) (either a b)
joined_direction e (Some x) None k l is h = h
joined_direction None None (Some y) k l is h = refl
joined_direction (Some e) None (Some y) k l is h = absurd cc
joined_direction e None None None None is h = absurd cc
joined_direction e None None None (Some l) is h = absurd cc
joined_direction e None None (Some k) None is h = absurd cc
joined_direction e None None (Some k) (Some l) is h = absurd cc
joined_direction e (Some x) (Some y) None None is h = absurd cc
joined_direction e (Some x) (Some y) None (Some l) is h = absurd cc
joined_direction e (Some x) (Some y) (Some k) None is h = absurd cc
joined_direction e (Some x) (Some y) (Some k) (Some l) is h = absurd cc

signal_agrees : (name : Identifier) (e : Option Direction) (s : Option Sense) (line : Line) → signal_faults name s line ≡ [] → Agrees e s → Agrees (direction_after e line.direction) (Some (signal_sense s line))
signal_agrees name e None line h a =
    subst (λ e. IsDirection (direction_after e line.direction) line.direction) (sym a) (own_direction line.direction)
signal_agrees name e (Some (sense.Signal old)) line h a =
    elim (cases_Bool (joins old line)) [
      | inl both ↦ rw both (joined_direction e old.direction line.direction old.kind line.kind both a)
      | inr apart ↦ absurd (no_cons _ _ (rw apart at h))
    ]
signal_agrees name e (Some sense.Number) line h a = absurd (no_cons _ _ h)
signal_agrees name e (Some sense.Instance) line h a = absurd (no_cons _ _ h)

number_agrees : (name : Identifier) (e : Option Direction) (s : Option Sense) → plain_faults name s ≡ [] → Agrees e s → Agrees e (Some (first_sense s sense.Number))
number_agrees name e None h a = a
number_agrees name e (Some former) h a = absurd (no_cons _ _ h)

instance_agrees : (name : Identifier) (e : Option Direction) (s : Option Sense) → plain_faults name s ≡ [] → Agrees e s → Agrees e (Some (first_sense s sense.Instance))
instance_agrees name e None h a = a
instance_agrees name e (Some former) h a = absurd (no_cons _ _ h)

-- a claim on one name, which keeps to the name's direction
put_agrees : (directions : Directions) (claims : Claims) (name : List ℕ) (o : Option Direction) (c : Claim) → AllAgree directions claims → Agrees (direction_after (directions name) o) c.sense → AllAgree (with_direction directions name o) (with_claim claims name c)
put_agrees directions claims name o c all one other =
    elim (cases_Bool (bytes_eq name other)) [
      | inl same ↦ subst (λ other. Agrees (with_direction directions name o other) (with_claim claims name c other).sense) ((bytes_decides name other).0 same) (subst (λ e. Agrees e (with_claim claims name c name).sense) (sym (direction_here directions name o)) (subst (λ k. Agrees (direction_after (directions name) o) k.sense) (sym (claim_here claims name c)) one))
      | inr differ ↦ subst (λ e. Agrees e (with_claim claims name c other).sense) (sym (direction_there directions name other o differ)) (subst (λ k. Agrees (directions other) k.sense) (sym (claim_there claims name other c differ)) (all other))
    ]

step_agrees : (numbers : Numbers) (directions : Directions) (claims : Claims) (reach : Reach) (d : Declaration) → claim_faults numbers claims reach d ≡ [] → AllAgree directions claims → AllAgree (directed directions d) (claims_after claims reach d)
step_agrees numbers directions claims reach (ParameterRange bounds) h all = all
step_agrees numbers directions claims reach (SignalRange bounds) h all = all
step_agrees numbers directions claims reach (Listed name) h all =
    put_agrees directions claims name.text None (listed_claim (claims name.text)) all (all name.text)
step_agrees numbers directions claims reach (Signal form signed name) h all =
    let line : Line = line_of form signed name.at reach in
    let own : signal_faults name (claims name.text).sense line ≡ [] =
    nil_right (outside_faults name form (claims name.text).listed) (signal_faults name (claims name.text).sense line) h in
    put_agrees directions claims name.text (direction_of form) (signal_claim (claims name.text) form line) all (signal_agrees name (directions name.text) (claims name.text).sense line own (all name.text))
step_agrees numbers directions claims reach (Parameter kind name value) h all =
    put_agrees directions claims name.text None (plain_claim sense.Number (claims name.text)) all (number_agrees name (directions name.text) (claims name.text).sense h (all name.text))
step_agrees numbers directions claims reach (Integer name) h all =
    put_agrees directions claims name.text None (plain_claim sense.Number (claims name.text)) all (number_agrees name (directions name.text) (claims name.text).sense h (all name.text))
step_agrees numbers directions claims reach (Instance name) h all =
    put_agrees directions claims name.text None (plain_claim sense.Instance (claims name.text)) all (instance_agrees name (directions name.text) (claims name.text).sense h (all name.text))

pub all_agree : (numbers : Numbers) (directions : Directions) (course : Course) (ds : List Declaration) → all_claim_faults numbers course ds ≡ [] → AllAgree directions course.claims → AllAgree (all_directed directions ds) (all_claimed numbers course ds).claims
all_agree numbers directions course [] h all = all
all_agree numbers directions course (d ∷ ds) h all =
    all_agree numbers (directed directions d) (claimed numbers course d) ds (nil_right (claim_faults numbers course.claims course.reach d) _ h) (step_agrees numbers directions course.claims course.reach d (nil_left (claim_faults numbers course.claims course.reach d) _ h) all)

-- a name with a direction is a signal of that direction
pub record IsDirected (d : Direction) (s : Option Sense) : Type 0 where
  pub line : Line
  pub is : s ≡ Some (sense.Signal line)
  pub direction : line.direction ≡ Some d

pub is_directed : (d : Direction) (s : Option Sense) → Agrees (Some d) s → IsDirected d s
is_directed d None h = absurd cc
is_directed d (Some (sense.Signal line)) h = record { line = line; is = refl; direction = h }
is_directed d (Some sense.Number) h = absurd cc
is_directed d (Some sense.Instance) h = absurd cc
