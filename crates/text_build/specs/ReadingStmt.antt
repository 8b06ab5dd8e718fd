-- It serves inner contracts and proofs; no answer of the program is stated by it.
-- The builder as functions on tokens: attributes, targets, delays and statements.
use Rattle.std.specs.Prelude.{ℕ, zero, suc, ◌+◌, ◌-◌, Bool, false, ◌||◌, if◌then◌else◌, List, [], ◌∷◌, Option, Some, None, codes}
use Rattle.std.specs.Str.{bytes_eq}
use Rattle.rtl_tree.specs.declared.symbol.Symbol.{Symbol}
use Rattle.rtl_tree.specs.declared.symbol.Symbol.TheVariants as symbol
use Rattle.rtl_tree.specs.declared.tree.stmt.AssignmentKind.{AssignmentKind}
use Rattle.rtl_tree.specs.declared.tree.stmt.AssignmentKind.TheVariants as assignment
use Rattle.rtl_tree.specs.declared.tree.stmt.CaseKind.{CaseKind}
use Rattle.rtl_tree.specs.declared.tree.stmt.CaseKind.TheVariants as kind
use Rattle.rtl_tree.specs.Symbols.{Terminal}
use Rattle.rtl_tree.specs.TreeExpr.{Formula, Identifier}
use Rattle.rtl_tree.specs.TreeStmt.{Target, Whole, Bit, Part, Joined, target_row, Span, Fixed, Named, Valued, Pause, Action, Null, Delayed, Assign, If, IfElse, Case, For, Block, action_row, Branch, Labelled, Default, branch_row}
use Rattle.text_build.specs.declared.attributes.Marks.{Marks}
use Rattle.text_build.specs.declared.attributes.Role.{Role}
use Rattle.text_build.specs.declared.attributes.Role.TheVariants as role
use Rattle.text_build.specs.Reading.{Parser, ◌>>=◌, ◌>>◌, pure, refuse, symbol_at, starts, after, token, advance, mark, name, literal, either, optional, repeat, until, commas, listed}
use Rattle.text_build.specs.ReadingExpr.{Reference, whole, bit, part, reference, expression}

-- ---- attributes

-- nothing is said
abbrev pub no_marks : Marks
no_marks = record { full = false; parallel = false }

-- with an attribute of this name
abbrev pub with_name : List ℕ → Marks → Marks
with_name text marks =
    record { full = marks.full || bytes_eq text (codes "full_case"); parallel = marks.parallel || bytes_eq text (codes "parallel_case") }

-- with what pragmas say
abbrev pub with_pragmas : Marks → Bool → Bool → Marks
with_pragmas marks full parallel = record { full = marks.full || full; parallel = marks.parallel || parallel }

-- what a token is to a value that is passed over
abbrev pub role_of : Symbol → Role
role_of symbol.OpenParen = role.Opens
role_of symbol.OpenBracket = role.Opens
role_of symbol.OpenBrace = role.Opens
role_of symbol.CloseParen = role.Closes
role_of symbol.CloseBracket = role.Closes
role_of symbol.CloseBrace = role.Closes
role_of symbol.Comma = role.Ends
role_of symbol.Semicolon = role.Ends
role_of symbol.CloseAttribute = role.Ends
role_of s = role.Inside

-- how many brackets are open after a token; none where the value ends before it
abbrev pub open_after : Role → ℕ → Option ℕ
open_after role.Opens n = Some (n + 1)
open_after role.Closes n = Some (n - 1)
open_after role.Inside n = Some n
open_after role.Ends zero = None
open_after role.Ends (suc n) = Some (suc n)

abbrev pub past_by : Option ℕ → List Terminal → (ℕ → List Terminal) → List Terminal
past_by None here further = here
past_by (Some n) here further = further n

-- what is left from the next comma, semicolon or end of attributes on that stands outside brackets, where this many are open
abbrev pub past : ℕ → List Terminal → List Terminal
past n [] = []
past n (t ∷ ts) = past_by (open_after (role_of t.symbol) n) (t ∷ ts) (λ m. past m ts)

-- what is left after `=` and a value, where they come next
unfoldable pub after_value : List Terminal → List Terminal
after_value ts = if starts symbol.Equals ts then past 0 (after symbol.Equals ts) else after symbol.Equals ts

-- an attribute after others, and its value, which isn't kept
unfoldable pub attribute : Marks → Parser Marks
attribute marks = token symbol.Name >>= (λ t ts. Some (with_name t.text marks, after_value ts))

unfoldable pub marked : Marks → Parser Marks
marked marks = advance >> commas attribute marks >>= (λ after. mark symbol.CloseAttribute >> pure after)

-- all attributes before an item or a statement
unfoldable pub attributes : Parser Marks
attributes = repeat (starts symbol.OpenAttribute) marked no_marks

-- ---- targets and delays

abbrev pub target_of : Reference → Target
target_of (whole n) = Whole n
target_of (bit n index) = Bit n index
target_of (part n kind first second) = Part n kind first second

unfoldable pub part_target : Parser Formula → Parser Target
part_target e = reference e >>= (λ r. pure (target_of r))

unfoldable pub joined : Parser Target → Parser Target
joined t = advance >>= (λ at. listed t >>= (λ parts. mark symbol.CloseBrace >> pure (Joined at (target_row parts))))

-- a target, nested at most `d` deep
unfoldable pub target : ℕ → Parser Target
target zero = refuse
target (suc d) = either (starts symbol.OpenBrace) (joined (target d)) (part_target (expression d))

unfoldable pub fixed : Parser Span
fixed = literal >>= (λ value. pure (Fixed value))

unfoldable pub named : Parser Span
named = name >>= (λ n. pure (Named n))

unfoldable pub valued : Parser Formula → Parser Span
valued e = mark symbol.OpenParen >> e >>= (λ value. mark symbol.CloseParen >> pure (Valued value))

abbrev pub span_by : Option Symbol → Parser Formula → Parser Span
span_by (Some symbol.Number) e = fixed
span_by (Some symbol.Name) e = named
span_by o e = valued e

unfoldable pub span : Parser Formula → Parser Span
span e = λ ts. span_by (symbol_at ts) e ts

-- a delay, from its mark on
unfoldable pub pause : Parser Formula → Parser Pause
pause e = advance >>= (λ at. span e >>= (λ s. pure (record { at = at; span = s })))

-- ---- statements: `e` reads an expression, `t` a target and `s` a statement within

unfoldable pub null : Parser Action
null = advance >>= (λ at. pure (Null at))

unfoldable pub delayed : Parser Formula → Parser Action → Parser Action
delayed e s = pause e >>= (λ p. s >>= (λ body. pure (Delayed p body)))

abbrev pub kind_by : Option Symbol → Parser AssignmentKind
kind_by (Some symbol.Equals) = advance >> pure assignment.Blocking
kind_by (Some symbol.LessEquals) = advance >> pure assignment.Nonblocking
kind_by o = refuse

unfoldable pub assignment_kind : Parser AssignmentKind
assignment_kind = λ ts. kind_by (symbol_at ts) ts

unfoldable pub assign : Parser Formula → Parser Target → Parser Action
assign e t =
    t >>= (λ to. assignment_kind >>= (λ k. optional symbol.Hash (pause e) >>= (λ p. e >>= (λ value. mark symbol.Semicolon >> pure (Assign to k p value)))))

unfoldable pub alternative : Parser Action → ℕ → Formula → Action → Parser Action
alternative s at condition taken = advance >> s >>= (λ otherwise. pure (IfElse at condition taken otherwise))

-- an `else` after a branch belongs to its `if`
unfoldable pub conditional : Parser Formula → Parser Action → Parser Action
conditional e s =
    advance >>= (λ at. mark symbol.OpenParen >> e >>= (λ condition. mark symbol.CloseParen >> s >>= (λ taken. either (starts symbol.Else) (alternative s at condition taken) (pure (If at condition taken)))))

unfoldable pub labelled : Parser Formula → Parser Action → Parser Branch
labelled e s = listed e >>= (λ labels. mark symbol.Colon >> s >>= (λ body. pure (Labelled labels body)))

-- a colon that may be left out
unfoldable pub no_colon : Parser Bool
no_colon = λ ts. Some (starts symbol.Colon ts, after symbol.Colon ts)

unfoldable pub otherwise : Parser Action → Parser Branch
otherwise s = advance >>= (λ at. no_colon >> s >>= (λ body. pure (Default at body)))

unfoldable pub branch : Parser Formula → Parser Action → Parser Branch
branch e s = either (starts symbol.Default) (otherwise s) (labelled e s)

unfoldable pub case_of : CaseKind → Marks → Parser Formula → Parser Action → Parser Action
case_of k marks e s =
    advance >>= (λ at. mark symbol.OpenParen >> e >>= (λ selector. token symbol.CloseParen >>= (λ close. until symbol.Endcase (branch e s) >>= (λ branches. mark symbol.Endcase
    >> pure (Case at k (with_pragmas marks close.full close.parallel).full (with_pragmas marks close.full close.parallel).parallel selector (branch_row branches))))))

unfoldable pub step_of : Parser Formula → Parser (Identifier × Formula)
step_of e = name >>= (λ n. mark symbol.Equals >> e >>= (λ value. pure (n, value)))

unfoldable pub loop_of : Parser Formula → Parser Action → Parser Action
loop_of e s =
    advance >>= (λ at. mark symbol.OpenParen >> step_of e >>= (λ first. mark symbol.Semicolon >> e >>= (λ condition. mark symbol.Semicolon
    >> step_of e >>= (λ next. mark symbol.CloseParen >> s >>= (λ body. pure (For at first.0 first.1 condition next.0 next.1 body))))))

unfoldable pub label : Parser Identifier
label = advance >> name

unfoldable pub block : Parser Action → Parser Action
block s =
    advance >>= (λ at. optional symbol.Colon label >>= (λ l. until symbol.End s >>= (λ body. mark symbol.End >> pure (Block at l (action_row body)))))

abbrev pub action_by : Option Symbol → Marks → Parser Formula → Parser Target → Parser Action → Parser Action
action_by (Some symbol.Semicolon) marks e t s = null
action_by (Some symbol.Hash) marks e t s = delayed e s
action_by (Some symbol.If) marks e t s = conditional e s
action_by (Some symbol.Case) marks e t s = case_of kind.Plain marks e s
action_by (Some symbol.Casez) marks e t s = case_of kind.Z marks e s
action_by (Some symbol.Casex) marks e t s = case_of kind.X marks e s
action_by (Some symbol.For) marks e t s = loop_of e s
action_by (Some symbol.Begin) marks e t s = block s
action_by o marks e t s = assign e t

-- a statement after its attributes
unfoldable pub action : Marks → Parser Formula → Parser Target → Parser Action → Parser Action
action marks e t s = λ ts. action_by (symbol_at ts) marks e t s ts

unfoldable pub statement_within : Parser Formula → Parser Target → Parser Action → Parser Action
statement_within e t s = attributes >>= (λ marks. action marks e t s)

-- a statement with its attributes, nested at most `d` deep
unfoldable pub statement : ℕ → Parser Action
statement zero = refuse
statement (suc d) = statement_within (expression d) (target d) (statement d)
