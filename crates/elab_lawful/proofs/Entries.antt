-- A name that is declared as a port enters the scope of its module, with the role of its direction.
use Rattle.std.specs.Prelude.{ℕ, true, false, length, List, [], ◌∷◌, Option, None, Some}
use Rattle.std.specs.Cmp.Lexicographic.{bytes_decides}
use Rattle.std.specs.Option.{is_some}
use Rattle.std.specs.Str.{bytes_eq}
use Rattle.std.proofs.Common.{◌≡◌, ◌∙◌, ap, refl, sym, subst, inl, inr}
use Rattle.std.proofs.lemmas.Bool.{cases_Bool}
use Rattle.rtl_tree.specs.declared.tree.item.Direction.{Direction}
use Rattle.rtl_tree.specs.declared.tree.item.Direction.TheVariants.{Input}
use Rattle.rtl_tree.specs.TreeExpr.{Identifier}
use Rattle.rtl_tree.specs.TreeModule.{Circuit}
use Rattle.elab_laws.specs.elab_scope.declared.known.Known.{Known}
use Rattle.elab_laws.specs.elab_scope.declared.known.Known.TheVariants as known
use Rattle.elab_laws.specs.elab_scope.declared.known.Role.TheVariants as role
use Rattle.elab_laws.specs.elab_scope.Names.{Meanings, entered, numbers_in}
use Rattle.elab_flat.specs.elab_items.declared.claims.Line.{Line}
use Rattle.elab_flat.specs.elab_items.declared.claims.Sense.{Sense}
use Rattle.elab_flat.specs.elab_items.declared.claims.Sense.TheVariants as sense
use Rattle.elab_flat.specs.elab_items.Claims.{Claims, direction_of, no_course}
use Rattle.elab_flat.specs.elab_items.Declarations.{Declaration, ParameterRange, Parameter, SignalRange, Listed, Signal, Integer, Instance, declarations}
use Rattle.elab_flat.specs.elab_items.Rosters.{Roster, all_enrolled, enrolled, no_roster, role_of, signal_known, with_known, with_name, with_sense}
use Rattle.elab_flat.specs.elab_items.Scopes.{claims_of, declaration_faults, draft_of, scope_of}
use Rattle.elab_flat.specs.elab_items.Settings.{Settings}
use Rattle.elab_flat.specs.elab_links.Ports.{Directions, all_directed, no_directions, sockets_of, with_direction}
use Rattle.elab_lawful.proofs.Claimed.{claim_part}
use Rattle.elab_lawful.proofs.Directions.{Agrees, AllAgree, IsDirected, all_agree, is_directed, same_bytes, direction_there}

-- a signal with the role of its declaration, where it is there
abbrev IsKept : Line → Option Known → Type 0
IsKept line None = Unit {0}
IsKept line (Some (known.Signal number role shape)) = role ≡ role_of line.direction line.kind
IsKept line (Some (known.Parameter number width signed)) = ⊥
IsKept line (Some (known.Integer number)) = ⊥

-- and it is there
abbrev IsThere : Line → Option Known → Type 0
IsThere line None = ⊥
IsThere line (Some (known.Signal number role shape)) = role ≡ role_of line.direction line.kind
IsThere line (Some (known.Parameter number width signed)) = ⊥
IsThere line (Some (known.Integer number)) = ⊥

there_kept : (line : Line) (k : Option Known) → IsThere line k → IsKept line k
there_kept line None h = absurd h
there_kept line (Some (known.Signal number role shape)) h = h
there_kept line (Some (known.Parameter number width signed)) h = h
there_kept line (Some (known.Integer number)) h = h

kept_there : (line : Line) (k : Option Known) → is_some k ≡ true → IsKept line k → IsThere line k
kept_there line None is h = absurd cc
kept_there line (Some (known.Signal number role shape)) is h = h
kept_there line (Some (known.Parameter number width signed)) is h = h
kept_there line (Some (known.Integer number)) is h = h

entered_there : (scope : Meanings) (name other : List ℕ) (k : Known) → bytes_eq name other ≡ false → entered scope name k other ≡ scope other
entered_there scope name other k h =
    elim (cases_Bool (is_some (scope name))) [
      | inl yes' ↦ rw yes' refl
      | inr no' ↦ rw (no', h) refl
    ]

entered_here : (scope : Meanings) (name : List ℕ) (k : Known) → is_some (scope name) ≡ false → entered scope name k name ≡ Some k
entered_here scope name k h = rw (h, same_bytes name) refl

known_there : (roster : Roster) (name other : List ℕ) (k : Option Known) → bytes_eq name other ≡ false → (with_known roster name k).scope other ≡ roster.scope other
known_there roster name other None h = refl
known_there roster name other (Some (known.Signal number role shape)) h = refl
known_there roster name other (Some (known.Parameter number width signed)) h =
    entered_there roster.scope name other (known.Parameter number width signed) h
known_there roster name other (Some (known.Integer number)) h =
    entered_there roster.scope name other (known.Integer number) h

sense_there : (draft : Meanings) (roster : Roster) (name other : List ℕ) (s : Option Sense) → bytes_eq name other ≡ false → (with_sense draft roster name s).scope other ≡ roster.scope other
sense_there draft roster name other None h = refl
sense_there draft roster name other (Some (sense.Signal line)) h =
    entered_there roster.scope name other (signal_known (length roster.signals) line) h
sense_there draft roster name other (Some sense.Number) h = known_there roster name other (draft name) h
sense_there draft roster name other (Some sense.Instance) h = refl

-- a name leaves the others as they are
name_there : (draft : Meanings) (claims : Claims) (roster : Roster) (name : Identifier) (other : List ℕ) → bytes_eq name.text other ≡ false → (with_name draft claims roster name).scope other ≡ roster.scope other
name_there draft claims roster name other h =
    elim (cases_Bool (is_some (roster.scope name.text))) [
      | inl yes' ↦ rw yes' refl
      | inr no' ↦ rw no' (sense_there draft roster name.text other (claims name.text).sense h)
    ]

signal_enters : (draft : Meanings) (roster : Roster) (name : List ℕ) (line : Line) (s : Option Sense) → s ≡ Some (sense.Signal line) → is_some (roster.scope name) ≡ false → IsThere line ((with_sense draft roster name s).scope name)
signal_enters draft roster name line s is new =
    subst (λ s. IsThere line ((with_sense draft roster name s).scope name)) (sym is) (subst (IsThere line) (sym (entered_here roster.scope name (signal_known (length roster.signals) line) new)) refl)

-- a name that is declared as a signal is there
name_here : (draft : Meanings) (claims : Claims) (roster : Roster) (name : Identifier) (line : Line) → (claims name.text).sense ≡ Some (sense.Signal line) → IsKept line (roster.scope name.text) → IsThere line ((with_name draft claims roster name).scope name.text)
name_here draft claims roster name line is kept =
    elim (cases_Bool (is_some (roster.scope name.text))) [
      | inl yes' ↦ rw yes' (kept_there line (roster.scope name.text) yes' kept)
      | inr no' ↦ rw no' (signal_enters draft roster name.text line (claims name.text).sense is no')
    ]

-- a name that is the port's
name_enters : (draft : Meanings) (claims : Claims) (roster : Roster) (name : Identifier) (port : List ℕ) (line : Line) → (claims port).sense ≡ Some (sense.Signal line) → IsKept line (roster.scope port) → bytes_eq name.text port ≡ true → IsThere line ((with_name draft claims roster name).scope port)
name_enters draft claims roster name port line is kept same =
    let text : name.text ≡ port = (bytes_decides name.text port).0 same in
    subst (λ port. IsThere line ((with_name draft claims roster name).scope port)) text (name_here draft claims roster name line (subst (λ port. (claims port).sense ≡ Some (sense.Signal line)) (sym text) is) (subst (λ port. IsKept line (roster.scope port)) (sym text) kept))

name_keeps : (draft : Meanings) (claims : Claims) (roster : Roster) (name : Identifier) (port : List ℕ) (line : Line) → (claims port).sense ≡ Some (sense.Signal line) → IsKept line (roster.scope port) → IsKept line ((with_name draft claims roster name).scope port)
name_keeps draft claims roster name port line is kept =
    elim (cases_Bool (bytes_eq name.text port)) [
      | inl same ↦ there_kept line ((with_name draft claims roster name).scope port) (name_enters draft claims roster name port line is kept same)
      | inr differ ↦ subst (IsKept line) (sym (name_there draft claims roster name port differ)) kept
    ]

name_stays : (draft : Meanings) (claims : Claims) (roster : Roster) (name : Identifier) (port : List ℕ) (line : Line) → (claims port).sense ≡ Some (sense.Signal line) → IsThere line (roster.scope port) → IsThere line ((with_name draft claims roster name).scope port)
name_stays draft claims roster name port line is there =
    elim (cases_Bool (bytes_eq name.text port)) [
      | inl same ↦ name_enters draft claims roster name port line is (there_kept line (roster.scope port) there) same
      | inr differ ↦ subst (IsThere line) (sym (name_there draft claims roster name port differ)) there
    ]

one_stays : (draft : Meanings) (claims : Claims) (roster : Roster) (d : Declaration) (port : List ℕ) (line : Line) → (claims port).sense ≡ Some (sense.Signal line) → IsThere line (roster.scope port) → IsThere line ((enrolled draft claims roster d).scope port)
one_stays draft claims roster (ParameterRange bounds) port line is there = there
one_stays draft claims roster (SignalRange bounds) port line is there = there
one_stays draft claims roster (Listed name) port line is there =
    name_stays draft claims roster name port line is there
one_stays draft claims roster (Signal form signed name) port line is there =
    name_stays draft claims roster name port line is there
one_stays draft claims roster (Parameter kind name value) port line is there =
    name_stays draft claims roster name port line is there
one_stays draft claims roster (Integer name) port line is there =
    name_stays draft claims roster name port line is there
one_stays draft claims roster (Instance name) port line is there =
    name_stays draft claims roster name port line is there

all_stay : (draft : Meanings) (claims : Claims) (roster : Roster) (ds : List Declaration) (port : List ℕ) (line : Line) → (claims port).sense ≡ Some (sense.Signal line) → IsThere line (roster.scope port) → IsThere line ((all_enrolled draft claims roster ds).scope port)
all_stay draft claims roster [] port line is there = there
all_stay draft claims roster (d ∷ ds) port line is there =
    all_stay draft claims (enrolled draft claims roster d) ds port line is (one_stays draft claims roster d port line is there)

-- a name that is given a direction by some declaration is there behind it
port_enters : (draft : Meanings) (claims : Claims) (port : List ℕ) (line : Line) (d : Direction) → (claims port).sense ≡ Some (sense.Signal line) → (directions : Directions) (roster : Roster) (ds : List Declaration) → directions port ≡ None → all_directed directions ds port ≡ Some d → IsKept line (roster.scope port) → IsThere line ((all_enrolled draft claims roster ds).scope port)
port_enters draft claims port line d is directions roster [] none some kept = absurd cc
port_enters draft claims port line d is directions roster (ParameterRange bounds ∷ ds) none some kept =
    port_enters draft claims port line d is directions roster ds none some kept
port_enters draft claims port line d is directions roster (SignalRange bounds ∷ ds) none some kept =
    port_enters draft claims port line d is directions roster ds none some kept
port_enters draft claims port line d is directions roster (Listed name ∷ ds) none some kept =
    port_enters draft claims port line d is directions (with_name draft claims roster name) ds none some (name_keeps draft claims roster name port line is kept)
port_enters draft claims port line d is directions roster (Parameter kind name value ∷ ds) none some kept =
    port_enters draft claims port line d is directions (with_name draft claims roster name) ds none some (name_keeps draft claims roster name port line is kept)
port_enters draft claims port line d is directions roster (Integer name ∷ ds) none some kept =
    port_enters draft claims port line d is directions (with_name draft claims roster name) ds none some (name_keeps draft claims roster name port line is kept)
port_enters draft claims port line d is directions roster (Instance name ∷ ds) none some kept =
    port_enters draft claims port line d is directions (with_name draft claims roster name) ds none some (name_keeps draft claims roster name port line is kept)
port_enters draft claims port line d is directions roster (Signal form signed name ∷ ds) none some kept =
    elim (cases_Bool (bytes_eq name.text port)) [
      | inl same ↦ all_stay draft claims (with_name draft claims roster name) ds port line is (name_enters draft claims roster name port line is kept same)
      | inr differ ↦ port_enters draft claims port line d is (with_direction directions name.text (direction_of form)) (with_name draft claims roster name) ds (direction_there directions name.text port (direction_of form) differ ∙ none) some (name_keeps draft claims roster name port line is kept)
    ]

-- a signal that is an input where the port is one
abbrev pub IsPort : Direction → Option Known → Type 0
IsPort d None = ⊥
IsPort d (Some (known.Signal number r shape)) = d ≡ Input → r ≡ role.Input
IsPort d (Some (known.Parameter number width signed)) = ⊥
IsPort d (Some (known.Integer number)) = ⊥

there_port : (d : Direction) (line : Line) (k : Option Known) → line.direction ≡ Some d → IsThere line k → IsPort d k
there_port d line None is h = absurd h
there_port d line (Some (known.Signal number role shape)) is h =
    λ input. h ∙ (ap (λ o. role_of o line.kind) (is ∙ ap Some input))
there_port d line (Some (known.Parameter number width signed)) is h = h
there_port d line (Some (known.Integer number)) is h = h

-- a port with a direction is a signal of its module
pub port_is : (settings : Settings) (base : ℕ) (c : Circuit) (name : List ℕ) (d : Direction) → declaration_faults settings base c ≡ [] → (sockets_of c).direction name ≡ Some d → IsPort d (scope_of settings c name)
port_is settings base c name d h is =
    let ds : List Declaration = declarations c in
    let draft : Meanings = draft_of settings ds in
    let agree : AllAgree (all_directed no_directions ds) (claims_of draft ds) =
    all_agree (numbers_in draft) no_directions no_course ds (claim_part settings base c h) (λ name. refl) in
    let one : IsDirected d ((claims_of draft ds) name).sense =
    is_directed d ((claims_of draft ds) name).sense (subst (λ e. Agrees e ((claims_of draft ds) name).sense) is (agree name)) in
    there_port d one.line (scope_of settings c name) one.direction (port_enters draft (claims_of draft ds) name one.line d one.is no_directions no_roster ds refl is tt)
