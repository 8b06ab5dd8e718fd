-- It serves inner contracts and proofs; no answer of the program is stated by it.
-- The steps by which the chain of resets is found.
use Rattle.std.specs.Prelude.{◌==◌, if◌then◌else◌, false, ℕ, ◌≡◌, Bool, nat_lt, List, [], ◌∷◌, length, map, Option, Some, None}
use Rattle.std.specs.List.{list_any}
use Rattle.std.specs.Borrow.{Bor}
use Rattle.text_ground.specs.declared.text.Spot.{Spot}
use Rattle.rtl_flat.specs.Expression.{Tree, Sized, Literal, Whole, BitAt, BitBy, Part, Turned, Joined, Compared, Linked, Folded, Shifted, Chosen, Empty, Beside, Repeated, Recast, tree}
use Rattle.rtl_flat.specs.Process as part
use Rattle.rtl_flat.specs.Signs.{sign_of}
use Rattle.rtl_flat.specs.Sizing.{signed_in}
use Rattle.rtl_flat.specs.Process.{Actions, Doing, Done, If, Piece, Task, Then, Watched, With, action, body_of, watched}
use Rattle.rtl_flat.specs.declared.act.EventItem.{EventItem}
use Rattle.net_model.specs.Cycle as cycle
use Rattle.net_model.specs.Cycle.{opened}
use Rattle.rtl_rule.specs.declared.finding.Finding.{Finding}
use Rattle.rtl_rule.specs.declared.rule.Rule.{Rule}
use Rattle.rtl_rule.specs.Parts.{first_written, found, within}
use Rattle.rtl_flat.specs.Flats.{Flat}
use Rattle.check_chains.specs.Chains as spec
use Rattle.check_chains.specs.Chains.{chain_of, compared, guarded, has_chain, headed, is_turned, test_of, tested}
use Rattle.check_chains.specs.Views.{guard_view}
use Rattle.check_chains.specs.declared.chain.Step.{Step}
use Rattle.check_chains.specs.declared.choice.Choice.{Choice}
use Rattle.check_chains.specs.declared.tested.Test.{Test}

-- ---- tests

abbrev pub test_view : Test → spec.Test
test_view test = record { signal = test.signal.0; level = test.level }

-- the signal that an expression is, as it stands
abbrev pub whole_of : Tree → Option ℕ
whole_of (Sized w s at (Whole r)) = Some r
whole_of _ = None

-- a test of a signal at a level
abbrev pub level_test : Bool → Option ℕ → Option spec.Test
level_test level None = None
level_test level (Some r) = test_of r level

-- a test by `~`, of a signal of one bit
abbrev pub complement_test : ℕ → Option ℕ → Option spec.Test
complement_test width signal = if width == 1 then level_test false signal else None

-- a test by `==`
abbrev pub literal_test : Flat → Bool → ℕ → Tree → Option spec.Test
literal_test d signed r (Sized w s at (Literal bits)) = compared signed (signed_in d.signals r) r bits
literal_test d signed r _ = None

abbrev pub signal_test : Flat → Bool → Option ℕ → Tree → Option spec.Test
signal_test d signed None e = None
signal_test d signed (Some r) e = literal_test d signed r e

abbrev pub compared_with : Flat → Tree → Tree → Option spec.Test
compared_with d e other = signal_test d (sign_of e) (whole_of e) other

-- ---- bodies

-- the `if` with an `else` that a body is
abbrev pub IsChoice : Actions → Choice → Type 0
IsChoice body choice =
    (spot : _) × (body ≡ Then (If (tree choice.test.now) (body_of (map action choice.taken.now)) (With (body_of (map action choice.other.now))) spot) Done)

-- ---- chains

-- events that are left
abbrev pub events_view : List (Bor EventItem) → List Watched
events_view events = map (λ item. watched item.now) events

-- resets before the rest of a chain
abbrev pub prefixed : List cycle.Guard → Option cycle.Chain → Option cycle.Chain
prefixed [] chain = chain
prefixed (guard ∷ others) chain = guarded guard (prefixed others chain)

-- a reset leads a body, and its event is taken out
abbrev pub IsStep : Flat → List (Bor EventItem) → Actions → Step → List (Bor EventItem) → Type 0
IsStep d events body step left =
    (go : List Watched → Actions → Option cycle.Chain) →
    headed d go (events_view events) (opened body) ≡ guarded (guard_view step.guard) (go (events_view left) (body_of (map action step.rest.now)))

-- ---- findings at processes

-- a process itself
abbrev pub itself : Doing → List Doing
itself does = does ∷ []

-- the finding of a rule at a process
abbrev pub finding_of : Flat → Rule → ℕ → Task → Finding
finding_of d rule number task =
    found rule (within (number, task) task.does) (first_written d (within (number, task) task.does))

-- a reset that is tested at the level that its edge leaves
abbrev pub is_turned_guard : Flat → cycle.Guard → Bool
is_turned_guard d guard = is_turned guard.item.edge (tested d guard.test)

abbrev pub has_turned : Flat → Doing → Bool
has_turned d does =
    has_chain (λ chain. list_any (is_turned_guard d) chain.resets) (chain_of d does)

abbrev pub has_pair : Flat → Doing → Bool
has_pair d does = has_chain (λ chain. nat_lt 1 (length chain.resets)) (chain_of d does)

-- ---- constants

-- a target is all of a signal
abbrev pub targets_whole : ℕ → List Piece → Type 0
targets_whole s target = (at : Spot) × (target ≡ record { signal = s; selection = part.Whole; spot = at } ∷ [])
