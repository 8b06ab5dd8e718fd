-- The names of an instance's module stand for signals of the design.
use Rattle.std.specs.Prelude.{ℕ, zero, suc, ◌+◌, ◌-◌, ◌≤◌, ◌<◌, ◌==◌, min, Bool, true, false, List, [], ◌∷◌, ◌++◌, length, Option, None, Some}
use Rattle.std.specs.List.{slice_get}
use Rattle.std.specs.Option.{IsSomeAnd, option_map}
use Rattle.std.proofs.Common.{◌≡◌, ◌∙◌, ap, refl, sym, subst, arith}
use Rattle.std.proofs.lemmas.Option.{slice_get-map}
use Rattle.rtl_tree.specs.declared.tree.item.Direction.{Direction}
use Rattle.rtl_tree.specs.TreeModule.{Circuit}
use Rattle.rtl_flat.specs.declared.signal.Kind.{Kind}
use Rattle.rtl_flat.specs.declared.signal.Kind.TheVariants.{Net, Var}
use Rattle.rtl_flat.specs.declared.signal.Signal.{Signal}
use Rattle.rtl_flat.specs.Signs.{Has}
use Rattle.rtl_flat.specs.Sizing.{HaveBits}
use Rattle.elab_laws.specs.elab_scope.declared.known.Known.{Known}
use Rattle.elab_laws.specs.elab_scope.declared.known.Known.TheVariants as known
use Rattle.elab_laws.specs.elab_scope.declared.known.Role.{Role}
use Rattle.elab_laws.specs.elab_scope.declared.known.Role.TheVariants as role
use Rattle.elab_laws.specs.elab_scope.declared.known.Shape.{Shape}
use Rattle.elab_laws.specs.elab_scope.Names.{Meanings}
use Rattle.elab_laws.specs.elab_scope.Sources.{Describes, IsDescribed}
use Rattle.elab_flat.specs.elab_items.Rosters.{Listing}
use Rattle.elab_flat.specs.elab_items.Scopes.{declaration_faults, listings_of, scope_of}
use Rattle.elab_flat.specs.elab_items.Settings.{Settings}
use Rattle.elab_flat.specs.elab_items.Signals.{Home, kind_of, signal_in, signals_in}
use Rattle.elab_flat.proofs.elab_items_proofs.Law.{describes, few_enough}
use Rattle.elab_flat.proofs.elab_items_proofs.Places.{IsAt, IsListed, Stands, within}
use Rattle.elab_laws.specs.Scopes.{HasKind, IsScopeOf}
use Rattle.elab_flat.specs.elab_links.Ports.{Sockets, sockets_of}
use Rattle.elab_flat.specs.elab_walk.Placements.{Placement, home_of, signals_at}
use Rattle.elab_flat.specs.elab_walk.Visits.{scope_in}
use Rattle.elab_lawful.proofs.Claimed.{stands}
use Rattle.elab_lawful.proofs.Entries.{IsPort, port_is}

get_before : (xs ys : List Signal) (i : ℕ) (s : Signal) → slice_get xs i ≡ Some s → slice_get (xs ++ ys) i ≡ Some s
get_before [] ys i s h = absurd cc
get_before (x ∷ xs) ys zero s h = h
get_before (x ∷ xs) ys (suc i) s h = get_before xs ys i s h

get_behind : (xs ys : List Signal) (i j : ℕ) (s : Signal) → j ≡ length xs + i → slice_get ys i ≡ Some s → slice_get (xs ++ ys) j ≡ Some s
get_behind [] ys i j s is h = let same : j ≡ i = omega arith in rw same h
get_behind (x ∷ xs) ys i zero s is h = absurd (omega arith)
get_behind (x ∷ xs) ys i (suc j) s is h =
    let less : j ≡ length xs + i = omega arith in
    get_behind xs ys i j s less h

-- the design's signals with those of an instance among them
abbrev pub among : Home → List Listing → List Signal → List Signal → List Signal
among home listings before behind = before ++ (signals_in home listings ++ behind)

-- the design's signal that a name stands for
signal_there : (base : ℕ) (home : Home) (before behind : List Signal) (listings : List Listing) (name : List ℕ) (number : ℕ) (r : Role) (shape : Option Shape) → base ≡ length before → length listings ≤ 20000 - base → (h : IsAt listings name number r shape) → slice_get (among home listings before behind) (base + number) ≡ Some (signal_in home h.one)
signal_there base home before behind listings name number r shape is short h =
    let inside : h.place < length listings = within listings h.place h.one h.is in
    let number_is : number ≡ min h.place 20000 = h.number_is in
    let place : base + number ≡ length before + h.place = omega arith in
    get_behind before (signals_in home listings ++ behind) h.place (base + number) (signal_in home h.one) place (get_before (signals_in home listings) behind h.place (signal_in home h.one) (slice_get-map (signal_in home) listings h.place ∙ ap (option_map (signal_in home)) h.is))

kind_there : (base : ℕ) (home : Home) (before behind : List Signal) (listings : List Listing) (name : List ℕ) (number : ℕ) (r : Role) (shape : Option Shape) (kind : Kind) → base ≡ length before → length listings ≤ 20000 - base → IsAt listings name number r shape → kind_of home.is_top r ≡ kind → Has (λ s. s.kind ≡ kind) (among home listings before behind) (base + number)
kind_there base home before behind listings name number r shape kind is short h same =
    subst (λ o. IsSomeAnd o (λ s. s.kind ≡ kind)) (sym (signal_there base home before behind listings name number r shape is short h)) (ap (kind_of home.is_top) (sym h.role_is) ∙ same)

net_kind : (top : Bool) → kind_of top role.Net ≡ Net
net_kind true = refl
net_kind false = refl

variable_kind : (top : Bool) → kind_of top role.Variable ≡ Var
variable_kind true = refl
variable_kind false = refl

has_kind : (base : ℕ) (home : Home) (before behind : List Signal) (listings : List Listing) (name : List ℕ) (k : Option Known) → base ≡ length before → length listings ≤ 20000 - base → IsListed listings name k → HasKind base (among home listings before behind) k
has_kind base home before behind listings name None is short h = tt
has_kind base home before behind listings name (Some (known.Parameter number width signed)) is short h = tt
has_kind base home before behind listings name (Some (known.Integer number)) is short h = tt
has_kind base home before behind listings name (Some (known.Signal number role.Input shape)) is short h = tt
has_kind base home before behind listings name (Some (known.Signal number role.Net shape)) is short h =
    kind_there base home before behind listings name number role.Net shape Net is short h (net_kind home.is_top)
has_kind base home before behind listings name (Some (known.Signal number role.Variable shape)) is short h =
    kind_there base home before behind listings name number role.Variable shape Var is short h (variable_kind home.is_top)

-- an input of an instance that isn't the top is a net of the design
abbrev pub IsInputNet : ℕ → List Signal → Option Known → Type 0
IsInputNet base signals (Some (known.Signal number role.Input shape)) =
    Has (λ s. s.kind ≡ Net) signals (base + number)
IsInputNet base signals _ = Unit {0}

input_net : (base : ℕ) (home : Home) (before behind : List Signal) (listings : List Listing) (name : List ℕ) (k : Option Known) → home.is_top ≡ false → base ≡ length before → length listings ≤ 20000 - base → IsListed listings name k → IsInputNet base (among home listings before behind) k
input_net base home before behind listings name None inner is short h = tt
input_net base home before behind listings name (Some (known.Parameter number width signed)) inner is short h = tt
input_net base home before behind listings name (Some (known.Integer number)) inner is short h = tt
input_net base home before behind listings name (Some (known.Signal number role.Input shape)) inner is short h =
    kind_there base home before behind listings name number role.Input shape Net is short h (ap (λ top. kind_of top role.Input) inner)
input_net base home before behind listings name (Some (known.Signal number role.Net shape)) inner is short h = tt
input_net base home before behind listings name (Some (known.Signal number role.Variable shape)) inner is short h = tt

-- a name with this direction is a signal with that direction; of one without nothing is said
abbrev pub IsPortOf : Option Direction → Option Known → Type 0
IsPortOf None k = Unit {0}
IsPortOf (Some d) k = IsPort d k

-- what a connection of a port rests on
pub record IsLink (base : ℕ) (signals : List Signal) (direction : Option Direction) (k : Option Known) : Type 0 where
  pub described : IsDescribed base signals k
  pub input : IsInputNet base signals k
  pub port : IsPortOf direction k

abbrev pub AreLinks : ℕ → List Signal → Sockets → Meanings → Type 0
AreLinks base signals ports scope =
    (name : List ℕ) → IsLink base signals (ports.direction name) (scope name)

-- an instance whose names stand for signals of the design
pub record IsFit (signals : List Signal) (placement : Placement) : Type 0 where
  pub scope : IsScopeOf placement.base signals (scope_in placement.visit)
  pub links : (placement.number == 0) ≡ false → AreLinks placement.base signals (sockets_of placement.visit.circuit) (scope_in placement.visit)

port_of : (settings : Settings) (base : ℕ) (c : Circuit) (name : List ℕ) → declaration_faults settings base c ≡ [] → (direction : Option Direction) → (sockets_of c).direction name ≡ direction → IsPortOf direction (scope_of settings c name)
port_of settings base c name h None is = tt
port_of settings base c name h (Some d) is = port_is settings base c name d h is

fit_among : (placement : Placement) (before behind : List Signal) → placement.base ≡ length before → HaveBits (before ++ (signals_at placement ++ behind)) → declaration_faults placement.visit.settings placement.base placement.visit.circuit ≡ [] → IsFit (before ++ (signals_at placement ++ behind)) placement
fit_among placement before behind is bits h =
    let settings : Settings = placement.visit.settings in
    let c : Circuit = placement.visit.circuit in
    let all : Stands _ = stands settings placement.base c h in
    let listings : List Listing = listings_of settings c in
    let few : length (listings_of settings c) ≤ 20000 - placement.base = few_enough settings placement.base c h in
    let told : Describes placement.base (before ++ (signals_at placement ++ behind)) (scope_in placement.visit) =
    describes settings placement.base c (home_of placement) before behind is h in
    record {
      scope = record {
        described = told;
        kinds = λ name. has_kind placement.base (home_of placement) before behind listings name (scope_in placement.visit name) is few (all.names name);
        bits = bits;
      };
      links = λ inner name. record {
        described = told name;
        input = input_net placement.base (home_of placement) before behind listings name (scope_in placement.visit name) inner is few (all.names name);
        port = port_of settings placement.base c name h ((sockets_of c).direction name) refl;
      };
    }

-- an instance whose signals stand behind as many as its base says
pub fit : (signals : List Signal) (placement : Placement) (before behind : List Signal) → signals ≡ before ++ (signals_at placement ++ behind) → placement.base ≡ length before → HaveBits signals → declaration_faults placement.visit.settings placement.base placement.visit.circuit ≡ [] → IsFit signals placement
fit signals placement before behind is base bits h =
    subst (λ ss. IsFit ss placement) (sym is) (fit_among placement before behind base (subst HaveBits is bits) h)
