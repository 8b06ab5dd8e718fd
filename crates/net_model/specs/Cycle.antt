-- The numbers after a step: what registers take at an edge, and the solution with them (IEEE 1364.1-2002 section 5.2).
-- Worked examples: crates/sign_cycles/proofs/Register.antt.
use Rattle.std.specs.Prelude.{◌≡◌, ℕ, Bool, cond, List, [], ◌∷◌, map, Option, Some, None, IsTrue}
use Rattle.std.specs.List.{All}
use Rattle.std.specs.List.Sorted.{IsPermutation}
use Rattle.rtl_bits.specs.declared.Bit.{Bit}
use Rattle.rtl_bits.specs.declared.Bit.TheVariants.{Zero, One, X}
use Rattle.rtl_bits.specs.declared.Edge.{Edge}
use Rattle.rtl_bits.specs.declared.Edge.TheVariants.{No, Pos, Neg}
use Rattle.rtl_bits.specs.Bit.{is_one}
use Rattle.rtl_bits.specs.Bits.{same_bit, truth_bit}
use Rattle.text_ground.specs.declared.text.Spot.{Spot}
use Rattle.rtl_flat.specs.Expression.{Tree}
use Rattle.rtl_flat.specs.Flows.{body_flow}
use Rattle.rtl_flat.specs.Paths.{MayWrite}
use Rattle.rtl_flat.specs.Process.{Watched, Set, If, Case, Block, Actions, Done, Then, With, Edge'}
use Rattle.event_model.specs.Queue.{doing_at, happens, is_input}
use Rattle.rtl_flat.specs.Flats.{Flat, widths}
use Rattle.event_model.specs.Writes.{Values, put}
use Rattle.net_model.specs.declared.fill.Fill.{Fill}
use Rattle.net_model.specs.Block.{block_bit}
use Rattle.net_model.specs.Numbers.{AreNumbers, bit, digits}
use Rattle.net_model.specs.Solution.{IsLasting, IsSolution}

-- ---- clocks and resets

-- a leading branch of a body that waits for edges: the event of an asynchronous reset, its test, and what it does
pub record Guard : Type 0 where
  pub item : Watched
  pub test : Tree
  pub branch : Actions

-- a body with its resets, the strongest first, its clock, and what is done at the clock's edge
pub record Chain : Type 0 where
  pub resets : List Guard
  pub clock : Watched
  pub part : Actions

-- a body without the blocks that hold nothing but one block or statement
abbrev pub opened : Actions → Actions
opened Done = Done
opened (Then (Set target e delayed spot) others) = Then (Set target e delayed spot) others
opened (Then (If test taken other spot) others) = Then (If test taken other spot) others
opened (Then (Case kind full parallel selector branches fallback spot) others) =
    Then (Case kind full parallel selector branches fallback spot) others
opened (Then (Block body) Done) = opened body
opened (Then (Block body) (Then one others)) = Then (Block body) (Then one others)

-- whether a body is one `if`, with an `else if` for each further reset, and a last `else`
abbrev pub IsChained : List Guard → Actions → Actions → Type 0
IsChained [] part body = body ≡ part
IsChained (guard ∷ others) part body =
    (other : Actions) × (spot : Spot) ×
    (opened body ≡ Then (If guard.test guard.branch (With other) spot) Done) × IsChained others part other

-- the bit of an item
abbrev pub item_bit : Values → Watched → Bit
item_bit n item = bit n item.signal 0

-- the level that an edge goes to
abbrev pub level : Edge → Bit
level Pos = One
level Neg = Zero
level No = X

-- whether a reset is active: its signal has the level that its event's edge goes to
abbrev pub is_active : Values → Watched → Bool
is_active n item = same_bit (item_bit n item) (level item.edge)

-- a test is true exactly where its reset is active
abbrev pub Tests : Flat → Guard → Type 0
Tests d guard =
    (f : Fill) (n : Values) → AreNumbers d n → is_one (truth_bit (digits f n guard.test)) ≡ is_active n guard.item

-- the resets and the clock of a body that waits for events: each event but the clock is tested
pub record IsChain (d : Flat) (events : List Watched) (body : Actions) (chain : Chain) : Type 0 where
  pub chained : IsChained chain.resets chain.part body
  pub items : IsPermutation events (chain.clock ∷ map (λ guard. guard.item) chain.resets)
  pub tests : All (Tests d) chain.resets

-- those of each process that waits for edges
abbrev pub AreChains : Flat → (ℕ → Chain) → Type 0
AreChains d chains =
    (p : ℕ) (events : List Watched) (body : Actions) →
    doing_at d p ≡ Some (Edge' events body) → IsChain d events body (chains p)

-- ---- what a register takes

-- the strongest of the resets that are active
abbrev pub strongest : Values → List Guard → Option Guard
strongest n [] = None
strongest n (guard ∷ others) = cond (is_active n guard.item) (Some guard) (strongest n others)

-- the bit where no reset is active: at the clock's edge what the body gives from the numbers before it
abbrev pub clocked_bit : (ℕ → ℕ) → Fill → Values → Values → Watched → Actions → ℕ → ℕ → Bit
clocked_bit ws f old new clock part i k =
    cond (happens clock.edge (item_bit old clock) (item_bit new clock)) (block_bit ws f old part i k) (bit old i k)

-- the bit with a reset, which gives its constant
abbrev pub reset_bit : (ℕ → ℕ) → Fill → Values → Option Guard → Bit → ℕ → ℕ → Bit
reset_bit ws f old None otherwise i k = otherwise
reset_bit ws f old (Some guard) otherwise i k = block_bit ws f old guard.branch i k

-- a register bit after one input went from its old number to its new one
abbrev pub register_bit : (ℕ → ℕ) → Fill → Values → Values → Chain → ℕ → ℕ → Bit
register_bit ws f old new chain i k =
    reset_bit ws f old (strongest new chain.resets) (clocked_bit ws f old new chain.clock chain.part i k) i k

-- ---- steps

-- an input, and the number that it is set to
pub record Setting : Type 0 where
  pub input : ℕ
  pub number : List Bit

-- a step of the world around a design
pub data Step : Type 0 where
  -- data inputs are set; of two settings of one input the last counts
  Data : (settings : List Setting) → Step
  -- one control input, a clock, a reset or the gate of a latch, is set
  Turn : (setting : Setting) → Step

-- what the inputs are after settings
abbrev pub given_after : Values → List Setting → Values
given_after n [] = n
given_after n (setting ∷ others) = given_after (put n setting.input setting.number) others

abbrev pub settings : Step → List Setting
settings (Data all) = all
settings (Turn setting) = setting ∷ []

-- a register bit after a step: a data step leaves it
abbrev pub stepped_bit : (ℕ → ℕ) → Fill → Values → Values → Chain → Step → ℕ → ℕ → Bit
stepped_bit ws f old new chain (Data all) i k = bit old i k
stepped_bit ws f old new chain (Turn setting) i k = register_bit ws f old new chain i k

-- the numbers after a step, from those before it, where `chains` are the resets and the clocks of the processes
pub record IsCycle (d : Flat) (chains : ℕ → Chain) (f : Fill) (old : Values) (step : Step) (new : Values) : Type 0 where
  -- inputs that aren't set stay
  pub inputs : (i : ℕ) → IsTrue (is_input d i) → new i ≡ given_after old (settings step) i
  -- each register bit has what its process gives to it
  pub registers :
      (p : ℕ) (events : List Watched) (body : Actions) →
      doing_at d p ≡ Some (Edge' events body) →
      (i k : ℕ) → MayWrite (body_flow (widths d) body) i k → IsLasting d i →
      bit new i k ≡ stepped_bit (widths d) f old new (chains p) step i k
  -- the rest is a solution, in which latches begin with the old numbers
  pub rest : IsSolution d f old new new
