-- It serves inner contracts and proofs; no answer of the program is stated by it.
-- The builder as functions on tokens: gates, and the items of a module that stand for themselves.
use Rattle.std.specs.Prelude.{ℕ, Option, Some, None}
use Rattle.rtl_tree.specs.declared.symbol.Symbol.{Symbol}
use Rattle.rtl_tree.specs.declared.symbol.Symbol.TheVariants as symbol
use Rattle.rtl_tree.specs.declared.tree.gate.GateKind.{GateKind}
use Rattle.rtl_tree.specs.declared.tree.gate.GateKind.TheVariants as kind
use Rattle.rtl_tree.specs.TreeExpr.{Formula}
use Rattle.rtl_tree.specs.TreeStmt.{Span, Valued}
use Rattle.rtl_tree.specs.TreeGate.{GateSpan, One, Two, GatePause, Gate}
use Rattle.rtl_tree.specs.TreeWritten.{WrittenItem, Plain, Primitives}
use Rattle.text_build.specs.Reading.{Parser, ◌>>=◌, ◌>>◌, pure, symbol_at, starts, name, advance, mark, either, optional, listed}
use Rattle.text_build.specs.ReadingStmt.{fixed, named, target}
use Rattle.text_build.specs.ReadingItem.{any_expression, item_after}

-- ---- delays

unfoldable pub rest_of_one : Formula → Parser GateSpan
rest_of_one value = mark symbol.CloseParen >> pure (One (Valued value))

unfoldable pub rest_of_two : Parser Formula → Formula → Parser GateSpan
rest_of_two e rise = advance >> e >>= (λ fall. mark symbol.CloseParen >> pure (Two rise fall))

unfoldable pub in_parens : Parser Formula → Parser GateSpan
in_parens e =
    mark symbol.OpenParen >> e >>= (λ first. either (starts symbol.Comma) (rest_of_two e first) (rest_of_one first))

-- a delay as an assignment has it
unfoldable pub alone : Parser Span → Parser GateSpan
alone p = p >>= (λ s. pure (One s))

abbrev pub gate_span_by : Option Symbol → Parser Formula → Parser GateSpan
gate_span_by (Some symbol.Number) e = alone fixed
gate_span_by (Some symbol.Name) e = alone named
gate_span_by o e = in_parens e

unfoldable pub gate_span : Parser Formula → Parser GateSpan
gate_span e = λ ts. gate_span_by (symbol_at ts) e ts

-- the delay of gates, from its mark on
unfoldable pub gate_pause : Parser Formula → Parser GatePause
gate_pause e = advance >>= (λ at. gate_span e >>= (λ s. pure (record { at = at; span = s })))

-- ---- gates: `d` is how deep expressions may be nested

-- whether terminals may be further outputs isn't tested here
unfoldable pub gate : ℕ → Parser Gate
gate d =
    optional symbol.Name name >>= (λ n. mark symbol.OpenParen >> target d >>= (λ t. mark symbol.Comma >> listed (any_expression d) >>= (λ all. mark symbol.CloseParen
    >> pure (record { name = n; output = t; terminals = all }))))

unfoldable pub gates : ℕ → GateKind → Parser WrittenItem
gates d k =
    advance >>= (λ at. optional symbol.Hash (gate_pause (any_expression d)) >>= (λ p. listed (gate d) >>= (λ all. mark symbol.Semicolon >> pure (Primitives at k p all))))

-- ---- items as they are written

-- the kind of gates that is written so
unfoldable pub gate_of : Symbol → Option GateKind
gate_of symbol.And = Some kind.And
gate_of symbol.Nand = Some kind.Nand
gate_of symbol.Or = Some kind.Or
gate_of symbol.Nor = Some kind.Nor
gate_of symbol.Xor = Some kind.Xor
gate_of symbol.Xnor = Some kind.Xnor
gate_of symbol.Buf = Some kind.Buf
gate_of symbol.Not = Some kind.Not
gate_of s = None

abbrev pub gate_by : Option Symbol → Option GateKind
gate_by None = None
gate_by (Some s) = gate_of s

-- an item that stands for itself
unfoldable pub plain_item : ℕ → Parser WrittenItem
plain_item d = item_after d >>= (λ i. pure (Plain i))

abbrev pub written_by : ℕ → Option GateKind → Parser WrittenItem
written_by d None = plain_item d
written_by d (Some k) = gates d k

-- an item after its attributes that stands for itself, or gates
unfoldable pub written_after : ℕ → Parser WrittenItem
written_after d = λ ts. written_by d (gate_by (symbol_at ts)) ts
