-- The chain of resets that leads the body of a clocked process, and what is wrong with it (IEEE 1364.1-2002 section
-- 5.2.2).
-- Worked examples: proofs/Example.antt, crates/tests_rows/stdin.
use Rattle.std.specs.Prelude.{ℕ, zero, suc, ◌≡◌, ◌<◌, ◌==◌, nat_lt, Bool, true, false, not, ◌&&◌, ◌||◌, if◌then◌else◌, List, [], ◌∷◌, length, Option, Some, None}
use Rattle.std.specs.List.{list_all, list_any, slice_get}
use Rattle.std.specs.Option.{IsSomeAnd}
use Rattle.rtl_bits.specs.declared.Edge.{Edge}
use Rattle.rtl_bits.specs.declared.Edge.TheVariants.{No, Pos, Neg}
use Rattle.rtl_bits.specs.declared.Bit.{Bit}
use Rattle.rtl_bits.specs.Bit.{is_one, is_unknown}
use Rattle.rtl_bits.specs.Bits.{number_where}
use Rattle.text_ground.specs.declared.text.Spot.{Spot}
use Rattle.rtl_flat.specs.declared.expr.Compare.TheVariants as compare
use Rattle.rtl_flat.specs.declared.expr.Fold.TheVariants as fold
use Rattle.rtl_flat.specs.declared.expr.Turn.TheVariants as turn
use Rattle.rtl_flat.specs.Expression.{Tree, Sized, Literal, Whole, Turned, Compared, Folded}
use Rattle.rtl_flat.specs.Process.{Watched, Action, Set, If, Actions, Done, Then, With, Doing, Edge'}
use Rattle.rtl_flat.specs.Process as part
use Rattle.rtl_flat.specs.Sizing.{signed_in}
use Rattle.rtl_flat.specs.WellFormed.{has_edge}
use Rattle.net_model.specs.Cycle.{Guard, Chain, opened}
use Rattle.net_model.specs.Solution.{IsLasting}
use Rattle.rtl_rule.specs.declared.finding.Finding.{Finding}
use Rattle.rtl_rule.specs.declared.rule.Rule.TheVariants.{ResetShape, ResetPolarity, AsyncPair, ResetValue}
use Rattle.rtl_rule.specs.Parts.{At, process_sites, has_some, first_written, written, found, constant_of, all_of, agree}
use Rattle.rtl_flat.specs.Flats.{Flat, widths}
use Rattle.rtl_rule.specs.Sites.{AreFindings}

-- ---- the chain of resets

-- a test of a reset: its signal, and the level at which it holds
pub record Test : Type 0 where
  pub signal : ℕ
  pub level : Bool

abbrev pub test_of : ℕ → Bool → Option Test
test_of signal level = Some (record { signal = signal; level = level })

-- the test of a signal by `==` with a literal whose number is 1 or 0: not where both are signed, so that a literal of one bit
-- is -1 and a wider one extends the signal by its sign (IEEE 1364-2001 section 4.5.2); where the signal alone is signed, with
-- a literal of one bit; where it isn't, with one of whatever width
abbrev pub compared : Bool → Bool → ℕ → List Bit → Option Test
compared signed own signal bits =
    if signed || (own && not (length bits == 1)) || list_any is_unknown bits then None
    else if number_where is_one bits == 1 then test_of signal true
    else if number_where is_one bits == 0 then test_of signal false else None

-- the forms of a test: `r`, `!r`, `~r` of one bit, `r == 1'b1` and `r == 1'b0`
abbrev pub tested : Flat → Tree → Option Test
tested d (Sized w s at (Whole r)) = test_of r true
tested d (Sized w s at (Folded fold.Negation (Sized w' s' at' (Whole r)))) = test_of r false
tested d (Sized w s at (Turned turn.Complement (Sized w' s' at' (Whole r)))) =
    if w' == 1 then test_of r false else None
tested d (Sized w s at (Compared compare.Equal t (Sized w' s' at' (Whole r)) (Sized w'' s'' at'' (Literal bits)))) =
    compared s' (signed_in d.signals r) r bits
tested d _ = None

abbrev pub beside : Watched → Option (Watched × List Watched) → Option (Watched × List Watched)
beside item None = None
beside item (Some (one, others)) = Some (one, item ∷ others)

-- the first item of a signal, with all other items
abbrev pub taken_out : ℕ → List Watched → Option (Watched × List Watched)
taken_out r [] = None
taken_out r (item ∷ others) =
    if item.signal == r then Some (item, others) else beside item (taken_out r others)

abbrev pub guarded : Guard → Option Chain → Option Chain
guarded guard None = None
guarded guard (Some chain) =
    Some (record { resets = guard ∷ chain.resets; clock = chain.clock; part = chain.part })

abbrev pub with_item : (List Watched → Actions → Option Chain) → Tree → Actions → Actions → Option (Watched × List Watched) → Option Chain
with_item go test branch other None = None
with_item go test branch other (Some (item, events)) =
    guarded (record { item = item; test = test; branch = branch }) (go events other)

abbrev pub with_test : (List Watched → Actions → Option Chain) → List Watched → Tree → Actions → Actions → Option Test → Option Chain
with_test go events test branch other None = None
with_test go events test branch other (Some one) =
    with_item go test branch other (taken_out one.signal events)

abbrev pub headed : Flat → (List Watched → Actions → Option Chain) → List Watched → Actions → Option Chain
headed d go events (Then (If test branch (With other) spot) Done) =
    with_test go events test branch other (tested d test)
headed d go events _ = None

-- a body as an `if` for each event but one, whatever the edges and the branches are
abbrev pub chain_in : Flat → ℕ → List Watched → Actions → Option Chain
chain_in d zero (clock ∷ []) body =
    Some (record { resets = []; clock = clock; part = body })
chain_in d zero _ body = None
chain_in d (suc n) events body = headed d (chain_in d n) events (opened body)

-- the chain of a process whose items all have edges
abbrev pub chain_of : Flat → Doing → Option Chain
chain_of d (Edge' [] body) = None
chain_of d (Edge' (first ∷ others) body) =
    if list_all (λ item. has_edge item.edge) (first ∷ others) then chain_in d (length others) (first ∷ others) body else None
chain_of d _ = None

-- whether a process has a chain, and a test of it holds
abbrev pub has_chain : (Chain → Bool) → Option Chain → Bool
has_chain test None = false
has_chain test (Some chain) = test chain

-- ---- R1 to R4

abbrev pub is_more : List Watched → Bool
is_more events = nat_lt 1 (length events)

-- several events, each with an edge, and no chain
abbrev pub is_shapeless : Flat → Doing → Bool
is_shapeless d (Edge' events body) =
    is_more events && list_all (λ item. has_edge item.edge) events && not (has_chain (λ chain. true) (chain_of d (Edge' events body)))
is_shapeless d _ = false

abbrev pub IsResetShape : Flat → At Doing → Type 0
IsResetShape d site = is_shapeless d site.it ≡ true

abbrev pub reset_shape_at : Flat → At Doing → Finding
reset_shape_at d site = found ResetShape site (first_written d site)

abbrev pub AreResetShape : Flat → List Finding → Type 0
AreResetShape d = AreFindings (IsResetShape d) (reset_shape_at d) (process_sites d)

-- the level that an edge goes to
abbrev pub goes_up : Edge → Bool
goes_up Pos = true
goes_up Neg = false
goes_up No = false

abbrev pub is_turned : Edge → Option Test → Bool
is_turned edge None = false
is_turned edge (Some test) = not (agree (goes_up edge) test.level)

-- a reset is tested at the level that its edge leaves
abbrev pub IsResetPolarity : Flat → At Doing → Type 0
IsResetPolarity d site =
    has_chain (λ chain. list_any (λ (guard : Guard). is_turned guard.item.edge (tested d guard.test)) chain.resets) (chain_of d site.it) ≡ true

abbrev pub reset_polarity_at : Flat → At Doing → Finding
reset_polarity_at d site = found ResetPolarity site (first_written d site)

abbrev pub AreResetPolarity : Flat → List Finding → Type 0
AreResetPolarity d =
    AreFindings (IsResetPolarity d) (reset_polarity_at d) (process_sites d)

-- two resets or more
abbrev pub IsAsyncPair : Flat → At Doing → Type 0
IsAsyncPair d site =
    has_chain (λ chain. nat_lt 1 (length chain.resets)) (chain_of d site.it) ≡ true

abbrev pub async_pair_at : Flat → At Doing → Finding
async_pair_at d site = found AsyncPair site (first_written d site)

abbrev pub AreAsyncPair : Flat → List Finding → Type 0
AreAsyncPair d = AreFindings (IsAsyncPair d) (async_pair_at d) (process_sites d)

abbrev pub is_known : Option (List Bit) → Bool
is_known None = false
is_known (Some bits) = not (list_any is_unknown bits)

-- a nonblocking assignment of a known constant to all of a signal
abbrev pub resets_to : Flat → ℕ → Action → Type 0
resets_to d s (Set target e delayed spot) =
    (at : Spot) × (target ≡ record { signal = s; selection = part.Whole; spot = at } ∷ []) × (delayed && is_known (constant_of d e) ≡ true)
resets_to d s _ = ⊥

-- a register of a process: it may write it, and it is no temporary
pub record IsRegisterOf (d : Flat) (does : Doing) (s : ℕ) : Type 0 where
  pub inside : s < length d.signals
  pub writes : has_some (widths d) (written d does) s ≡ true
  pub kept : IsLasting d s

-- statements that give each register one constant, and do nothing else
pub record IsResetBranch (d : Flat) (does : Doing) (body : List Action) : Type 0 where
  pub each : (n : ℕ) (one : Action) → slice_get body n ≡ Some one → (s : ℕ) × IsRegisterOf d does s × resets_to d s one
  pub all : (s : ℕ) → IsRegisterOf d does s → (n : ℕ) × IsSomeAnd (slice_get body n) (resets_to d s)
  pub once : (s m n : ℕ) → IsSomeAnd (slice_get body m) (resets_to d s) → IsSomeAnd (slice_get body n) (resets_to d s) → m ≡ n

-- a reset whose branch does otherwise
pub record IsResetValue (d : Flat) (site : At Doing) : Type 0 where
  pub chain : Chain
  pub is_chain : chain_of d site.it ≡ Some chain
  pub place : ℕ
  pub guard : Guard
  pub is_guard : slice_get chain.resets place ≡ Some guard
  pub other : IsResetBranch d site.it (all_of guard.branch) → ⊥

abbrev pub reset_value_at : Flat → At Doing → Finding
reset_value_at d site = found ResetValue site (first_written d site)

abbrev pub AreResetValue : Flat → List Finding → Type 0
AreResetValue d = AreFindings (IsResetValue d) (reset_value_at d) (process_sites d)
