-- What the declarations of a name make together. A port may be declared by its direction and by `wire` or `reg`, once
-- each and in either order, with equal ranges (IEEE 1364-2001 section 12.3.3).
-- Worked examples: proofs/Examples.antt.
use Rattle.std.specs.Prelude.{ℕ, Bool, true, false, ◌||◌, if◌then◌else◌, List, [], ◌∷◌, ◌++◌, Option, None, Some}
use Rattle.std.specs.Option.{is_some}
use Rattle.std.specs.Str.{bytes_eq}
use Rattle.name_map.specs.Values.{values_of}
use Rattle.rtl_const.specs.Numbers.{Numbers}
use Rattle.rtl_tree.specs.declared.tree.item.Direction.{Direction}
use Rattle.rtl_tree.specs.declared.tree.item.Direction.TheVariants.{Input}
use Rattle.rtl_tree.specs.declared.tree.item.PortKind.{PortKind}
use Rattle.rtl_tree.specs.declared.tree.item.PortKind.TheVariants as port
use Rattle.rtl_tree.specs.TreeExpr.{Identifier}
use Rattle.elab_scope.specs.Faults.{DeclaredTwice, Port, Refusal, Undeclared}
use Rattle.elab_scope.specs.Rules.{fault}
use Rattle.elab_items.specs.declared.claims.Claim.{Claim}
use Rattle.elab_items.specs.declared.claims.Claims.{Claims as Map}
use Rattle.elab_items.specs.declared.claims.Line.{Line}
use Rattle.elab_items.specs.declared.claims.Sense.{Sense}
use Rattle.elab_items.specs.declared.claims.Sense.TheVariants as sense
use Rattle.elab_items.specs.declared.entries.Form.{Form}
use Rattle.elab_items.specs.declared.entries.Form.TheVariants as form
use Rattle.elab_items.specs.declared.reach.Reach.{Reach}
use Rattle.elab_items.specs.declared.reach.Reach.TheVariants.{Scalar}
use Rattle.elab_items.specs.Declarations.{Declaration, ParameterRange, Parameter, SignalRange, Listed, Signal, Integer, Instance}
use Rattle.elab_items.specs.Reaches.{agree, reach_of, range_faults}

-- what the declarations so far say of each name
abbrev pub Claims : Type 0
Claims = List ℕ → Claim

-- nothing is said of a name
abbrev pub unclaimed : Claim
unclaimed = record { listed = false; directed = false; sense = None }

abbrev pub no_claims : Claims
no_claims name = unclaimed

abbrev pub with_claim : Claims → List ℕ → Claim → Claims
with_claim claims name claim = λ other. if bytes_eq name other then claim else claims other

abbrev pub claim_or_none : Option Claim → Claim
claim_or_none None = unclaimed
claim_or_none (Some claim) = claim

-- what a map of claims holds
abbrev pub claims_in : Map → Claims
claims_in map = λ name. claim_or_none (values_of map.known name)

abbrev pub direction_of : Form → Option Direction
direction_of (form.Header direction kind) = Some direction
direction_of (form.Item direction kind) = Some direction
direction_of form.Wire = None
direction_of form.Reg = None

abbrev pub kind_of : Form → Option PortKind
kind_of (form.Header direction kind) = kind
kind_of (form.Item direction kind) = kind
kind_of form.Wire = Some port.Wire
kind_of form.Reg = Some port.Reg

-- a signal as one declaration has it
abbrev pub line_of : Form → Bool → ℕ → Reach → Line
line_of form signed at reach =
    record { at = at; direction = direction_of form; kind = kind_of form; signed = signed; reach = reach }

-- a direction alone and `wire` or `reg` alone make one declaration
abbrev pub completes : Option Direction → Option PortKind → Option Direction → Option PortKind → Bool
completes (Some direction) None None (Some kind) = true
completes None (Some kind) (Some direction) None = true
completes _ _ _ _ = false

abbrev pub joins : Line → Line → Bool
joins old line = completes old.direction old.kind line.direction line.kind

abbrev pub either : {A : Type 0} → Option A → Option A → Option A
either None other = other
either (Some one) other = Some one

-- two declarations of one signal: it has the place and the range of the first, and is signed where one says so
abbrev pub joined : Line → Line → Line
joined old line =
    record {
      at = old.at;
      direction = either old.direction line.direction;
      kind = either old.kind line.kind;
      signed = old.signed || line.signed;
      reach = old.reach;
    }

-- a declaration that makes no pair with the first changes nothing
abbrev pub met : Line → Line → Line
met old line = if joins old line then joined old line else old

-- what a name stands for after the declaration of a signal
abbrev pub signal_sense : Option Sense → Line → Sense
signal_sense None line = sense.Signal line
signal_sense (Some (sense.Signal old)) line = sense.Signal (met old line)
signal_sense (Some sense.Number) line = sense.Number
signal_sense (Some sense.Instance) line = sense.Instance

-- whether a declaration stands in the head, and whether it is a direction
abbrev pub is_header : Form → Bool
is_header (form.Header direction kind) = true
is_header _ = false

abbrev pub is_directed : Form → Bool
is_directed (form.Header direction kind) = true
is_directed (form.Item direction kind) = true
is_directed form.Wire = false
is_directed form.Reg = false

abbrev pub signal_claim : Claim → Form → Line → Claim
signal_claim claim form line =
    record {
      listed = claim.listed || is_header form;
      directed = claim.directed || is_directed form;
      sense = Some (signal_sense claim.sense line);
    }

abbrev pub listed_claim : Claim → Claim
listed_claim claim = record { listed = true; directed = claim.directed; sense = claim.sense }

-- what is no signal
abbrev pub first_sense : Option Sense → Sense → Sense
first_sense None own = own
first_sense (Some former) own = former

abbrev pub plain_claim : Sense → Claim → Claim
plain_claim own claim =
    record { listed = claim.listed; directed = claim.directed; sense = Some (first_sense claim.sense own) }

-- what holds for the next name: the claims so far, and the range that stands before it
pub record Course : Type 0 where
  pub claims : Claims
  pub reach : Reach

abbrev pub no_course : Course
no_course = record { claims = no_claims; reach = Scalar }

-- a signal's range, with the numbers of the whole module; it has at most 128 bits
abbrev pub reach_after : Numbers → Reach → Declaration → Reach
reach_after numbers reach (SignalRange bounds) = reach_of 128 numbers bounds
reach_after numbers reach _ = reach

abbrev pub claims_after : Claims → Reach → Declaration → Claims
claims_after claims reach (Listed name) = with_claim claims name.text (listed_claim (claims name.text))
claims_after claims reach (Signal form signed name) =
    with_claim claims name.text (signal_claim (claims name.text) form (line_of form signed name.at reach))
claims_after claims reach (Parameter kind name value) =
    with_claim claims name.text (plain_claim sense.Number (claims name.text))
claims_after claims reach (Integer name) =
    with_claim claims name.text (plain_claim sense.Number (claims name.text))
claims_after claims reach (Instance name) =
    with_claim claims name.text (plain_claim sense.Instance (claims name.text))
claims_after claims reach (ParameterRange bounds) = claims
claims_after claims reach (SignalRange bounds) = claims

abbrev pub claimed : Numbers → Course → Declaration → Course
claimed numbers course declaration =
    record {
      claims = claims_after course.claims course.reach declaration;
      reach = reach_after numbers course.reach declaration;
    }

abbrev pub all_claimed : Numbers → Course → List Declaration → Course
all_claimed numbers course [] = course
all_claimed numbers course (declaration ∷ others) =
    all_claimed numbers (claimed numbers course declaration) others

-- a port that is declared `reg` is an output
abbrev pub reg_faults : Identifier → Option Direction → Option PortKind → List Refusal
reg_faults name (Some Input) (Some port.Reg) = fault name.at (Port name.text) ∷ []
reg_faults name _ _ = []

-- the name in the one of two declarations that says `wire` or `reg`
abbrev pub kind_name : Identifier → Line → Identifier
kind_name name old = record { text = name.text; at = if is_some old.kind then old.at else name.at }

-- the two declarations of a port have equal ranges
abbrev pub pair_faults : Identifier → Line → Line → List Refusal
pair_faults name old line =
    (if agree old.reach line.reach then [] else fault name.at (DeclaredTwice name.text) ∷ [])
    ++ reg_faults (kind_name name old) (joined old line).direction (joined old line).kind

abbrev pub signal_faults : Identifier → Option Sense → Line → List Refusal
signal_faults name None line = reg_faults name line.direction line.kind
signal_faults name (Some (sense.Signal old)) line =
    if joins old line then pair_faults name old line else fault name.at (DeclaredTwice name.text) ∷ []
signal_faults name (Some sense.Number) line = fault name.at (DeclaredTwice name.text) ∷ []
signal_faults name (Some sense.Instance) line = fault name.at (DeclaredTwice name.text) ∷ []

-- what an item gives a direction stands in the head
abbrev pub outside_faults : Identifier → Form → Bool → List Refusal
outside_faults name (form.Item direction kind) false = fault name.at (Port name.text) ∷ []
outside_faults name _ _ = []

abbrev pub plain_faults : Identifier → Option Sense → List Refusal
plain_faults name None = []
plain_faults name (Some former) = fault name.at (DeclaredTwice name.text) ∷ []

abbrev pub listed_faults : Identifier → Bool → List Refusal
listed_faults name false = []
listed_faults name true = fault name.at (DeclaredTwice name.text) ∷ []

abbrev pub claim_faults : Numbers → Claims → Reach → Declaration → List Refusal
claim_faults numbers claims reach (ParameterRange bounds) = []
claim_faults numbers claims reach (SignalRange bounds) = range_faults 128 numbers bounds
claim_faults numbers claims reach (Listed name) = listed_faults name (claims name.text).listed
claim_faults numbers claims reach (Signal form signed name) =
    outside_faults name form (claims name.text).listed
    ++ signal_faults name (claims name.text).sense (line_of form signed name.at reach)
claim_faults numbers claims reach (Parameter kind name value) = plain_faults name (claims name.text).sense
claim_faults numbers claims reach (Integer name) = plain_faults name (claims name.text).sense
claim_faults numbers claims reach (Instance name) = plain_faults name (claims name.text).sense

-- the faults of ranges of signals, and of names that are declared again
abbrev pub all_claim_faults : Numbers → Course → List Declaration → List Refusal
all_claim_faults numbers course [] = []
all_claim_faults numbers course (declaration ∷ others) =
    claim_faults numbers course.claims course.reach declaration
    ++ all_claim_faults numbers (claimed numbers course declaration) others

-- a name that the head leaves to the items has a direction there
abbrev pub directed_faults : Identifier → Bool → List Refusal
directed_faults name true = []
directed_faults name false = fault name.at (Undeclared name.text) ∷ []

abbrev pub direction_faults : Claims → Declaration → List Refusal
direction_faults claims (Listed name) = directed_faults name (claims name.text).directed
direction_faults claims _ = []

abbrev pub all_direction_faults : Claims → List Declaration → List Refusal
all_direction_faults claims [] = []
all_direction_faults claims (declaration ∷ others) =
    direction_faults claims declaration ++ all_direction_faults claims others
