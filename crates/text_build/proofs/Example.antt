-- What the builder reads and the grammar doesn't spell: why modules have to be proper.
use Rattle.std.proofs.Common.{◌≡◌, true, false, [], ◌∷◌, Some, None, refl}
use Rattle.rtl_tree.specs.declared.symbol.Symbol.{Symbol}
use Rattle.rtl_tree.specs.declared.symbol.Symbol.TheVariants as symbol
use Rattle.rtl_tree.specs.declared.token.Tok.TheVariants as tok
use Rattle.rtl_tree.specs.declared.tree.stmt.CaseKind.TheVariants as kind
use Rattle.rtl_tree.specs.Symbols.{Terminal}
use Rattle.rtl_tree.specs.declared.tree.operators.BinaryOperator.TheVariants as binary
use Rattle.rtl_tree.specs.declared.tree.operators.UnaryOperator.TheVariants as unary
use Rattle.rtl_tree.specs.TreeExpr.{Identifier, Read, Parens, Unary, Binary}
use Rattle.text_grammar.specs.Depth.{formula_depth}
use Rattle.rtl_tree.specs.TreeStmt.{Whole, Case, no_branches}
use Rattle.rtl_tree.specs.TreeItem.{ByPosition}
use Rattle.text_build.specs.Reading.{refuse, same_symbol, starts, optional, turns, after, token, place, advance, mark, name, either, until_in, until, links, commas, listed}
use Rattle.text_build.specs.ReadingExpr.{binary_of, unary_of, looseness, goes, selected, reference, read, parens, operation, operand, joint, link, ended, chain, sequence, climb, expression}
use Rattle.text_build.specs.ReadingStmt.{after_value, part_target, target, case_of, no_marks}
use Rattle.text_build.specs.ReadingItem.{any_expression, value, initial, variable, argument_value, positional, by_position, arguments, overrides_of, overrides}
use Rattle.text_build.specs.ReadingGate.{gate}
use Rattle.text_build.specs.ReadingModule.{parameter, parameters_of, parameters}

-- a token with this symbol
word : Symbol → Terminal
word s = record { symbol = s; kind = tok.Word; at = 0; text = []; full = false; parallel = false }

-- `a = ;`: no value
no_value : variable (word symbol.Name ∷ word symbol.Equals ∷ word symbol.Semicolon ∷ []) ≡ Some (record { name = record { text = []; at = 0 }; initial = true }, word symbol.Semicolon ∷ [])
unfolding word variable initial after_value name token starts after same_symbol
no_value = refl

-- `#()`: one empty argument
no_argument : overrides 1 (word symbol.Hash ∷ word symbol.OpenParen ∷ word symbol.CloseParen ∷ []) ≡ Some (ByPosition (record { at = 0; value = None } ∷ []), [])
unfolding word overrides overrides_of arguments by_position positional argument_value listed commas links either mark advance place token starts after same_symbol
no_argument = refl

a : Identifier
a = record { text = []; at = 0 }

-- `(a) + a`: deeper than what it was read with
too_deep : expression 2 (word symbol.OpenParen ∷ word symbol.Name ∷ word symbol.CloseParen ∷ word symbol.Plus ∷ word symbol.Name ∷ []) ≡ Some (Binary binary.Add 0 (Parens 0 (Read a)) (Read a), [])
unfolding word a climb sequence operand parens read reference selected chain turns link joint binary_of looseness goes ended either name mark advance token starts same_symbol
too_deep = refl

how_deep : formula_depth (Binary binary.Add 0 (Parens 0 (Read a)) (Read a)) ≡ 3
how_deep = refl

-- `case (a) endcase`: no item
no_item : case_of kind.Plain no_marks (expression 1) refuse (word symbol.Case ∷ word symbol.OpenParen ∷ word symbol.Name ∷ word symbol.CloseParen ∷ word symbol.Endcase ∷ []) ≡ Some (Case 0 kind.Plain false false (Read a) no_branches, [])
unfolding word a case_of until until_in climb sequence operand read reference selected chain turns goes looseness binary_of ended either name mark advance token starts same_symbol
no_item = refl

-- `#(a = a)`: no `parameter`
no_parameter : parameters 1 (word symbol.Hash ∷ word symbol.OpenParen ∷ word symbol.Name ∷ word symbol.Equals ∷ word symbol.Name ∷ word symbol.CloseParen ∷ []) ≡ Some (record { heading = None; name = a; value = Read a } ∷ [], [])
unfolding word a parameters parameters_of parameter optional value any_expression listed commas links after climb sequence operand read reference selected chain turns goes looseness binary_of ended either name mark advance token starts same_symbol
no_parameter = refl

-- `(a, ~a, a)` of a `buf`: a further output that is no name
no_name : gate 2 (word symbol.OpenParen ∷ word symbol.Name ∷ word symbol.Comma ∷ word symbol.Tilde ∷ word symbol.Name ∷ word symbol.Comma ∷ word symbol.Name ∷ word symbol.CloseParen ∷ [])
    ≡ Some (record { name = None; output = Whole a; terminals = Unary unary.BitwiseNot 0 (Read a) ∷ Read a ∷ [] }, [])
unfolding word a gate optional target part_target any_expression listed commas links after climb sequence operand operation unary_of read reference selected chain turns goes looseness binary_of ended either name mark advance token starts same_symbol
no_name = refl
