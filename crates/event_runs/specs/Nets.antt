-- Nets show what their drivers give (IEEE 1364-2001 sections 3.7.1 and 6.1), and inputs come to what was offered to them.
use Rattle.std.specs.Prelude.{◌≡◌, ℕ, true, List, [], ◌∷◌, length, Option, Some, IsTrue, unwrap_or, ⊤}
use Rattle.rtl_bits.specs.declared.Bit.{Bit}
use Rattle.rtl_flat.specs.Expression.{Tree}
use Rattle.rtl_flat.specs.Flows.{may_target}
use Rattle.rtl_flat.specs.Process.{Piece, Assign}
use Rattle.event_model.specs.Queue.{State, doing_at, is_input, resolved}
use Rattle.rtl_flat.specs.Flats.{Flat, widths}
use Rattle.event_model.specs.Traces.{Same}
use Rattle.event_model.specs.Writes.{Values, driven, put}
use Rattle.event_runs.specs.Writers.{IsSole}

-- each bit that a continuous assignment drives has what all drivers give to it together
abbrev pub AreResolved : Flat → State → Type 0
AreResolved d s =
    (p : ℕ) (target : List Piece) (e : Tree) →
    doing_at d p ≡ Some (Assign target e) →
    (i k : ℕ) → may_target (widths d) target i k ≡ true → Same s.value (resolved d s.driver) i k

-- each bit that one continuous assignment alone may write has what its driver gives to it
abbrev pub AreDriven : Flat → State → Type 0
AreDriven d s =
    (p : ℕ) (target : List Piece) (e : Tree) →
    doing_at d p ≡ Some (Assign target e) →
    (i k : ℕ) → may_target (widths d) target i k ≡ true → IsSole d p i k →
    Same s.value (driven (widths d) target (s.driver p)) i k

-- what is offered to an input, or else what it has, is a given value of its width
pub record AreOffered (d : Flat) (given : Values) (s : State) : Type 0 where
  pub wide : (i : ℕ) → IsTrue (is_input d i) → length (given i) ≡ widths d i
  pub comes : (i : ℕ) → IsTrue (is_input d i) → unwrap_or (s.offered i) (s.value i) ≡ given i

-- whether each offered value has as many bits as its signal
abbrev pub AreWide : Flat → List (ℕ × List Bit) → Type 0
AreWide d [] = ⊤
AreWide d ((i, bits) ∷ others) = (length bits ≡ widths d i) × AreWide d others

-- what is offered to signals, after values were offered in their order
abbrev pub offered_after : (ℕ → Option (List Bit)) → List (ℕ × List Bit) → ℕ → Option (List Bit)
offered_after offered [] = offered
offered_after offered ((i, bits) ∷ others) =
    offered_after (put offered i (Some bits)) others

-- what signals are given, after values were offered in their order
abbrev pub given_with : Values → List (ℕ × List Bit) → Values
given_with given [] = given
given_with given ((i, bits) ∷ others) = given_with (put given i bits) others
