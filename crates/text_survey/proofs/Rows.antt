-- A shortest text of each task, and what may follow it.
use Rattle.std.proofs.Common.{◌≡◌, ℕ, Bool, true, false, ◌&&◌, List, [], ◌∷◌, Option, Some, None, refl, ap, subst, ◌∙◌, codes}
use Rattle.rtl_tree.specs.declared.token.Tok.{Tok}
use Rattle.rtl_tree.specs.declared.token.Tok.TheVariants as tok
use Rattle.rtl_tree.specs.declared.symbol.Symbol.{Symbol}
use Rattle.rtl_tree.specs.declared.symbol.Symbol.TheVariants as symbol
use Rattle.rtl_tree.specs.Symbols.{Terminal, word_symbol, mark_symbol, words, keywords, refused_words, marks}
use Rattle.rtl_tree.specs.Symbols as terminals
use Rattle.text_survey.specs.declared.task.Task.{Task}
use Rattle.text_survey.specs.declared.task.Task.TheVariants as task
use Rattle.text_survey.specs.Table.{is_next}
use Rattle.text_survey.specs.Machine.{symbol_at}
use Rattle.text_survey.specs.Surveys.{AreNumbered, IsNumbered}
use Rattle.text_survey.specs.Terminals.{is_refused}
use Rattle.text_survey.specs.Least.{IsWord, AreWords}

-- ---- words

abbrev pub text_of : Symbol → List ℕ
text_of symbol.Name = codes "a"
text_of symbol.Integer = codes "integer"
text_of symbol.Module = codes "module"
text_of symbol.Endmodule = codes "endmodule"
text_of symbol.Parameter = codes "parameter"
text_of symbol.Default = codes "default"
text_of symbol.End = codes "end"
text_of symbol.Endcase = codes "endcase"
text_of symbol.Endgenerate = codes "endgenerate"
text_of symbol.OpenParen = codes "("
text_of symbol.CloseParen = codes ")"
text_of symbol.CloseBracket = codes "]"
text_of symbol.CloseBrace = codes "}"
text_of symbol.CloseAttribute = codes "*)"
text_of symbol.Semicolon = codes ";"
text_of symbol.Colon = codes ":"
text_of symbol.Comma = codes ","
text_of symbol.Equals = codes "="
text_of symbol.Dot = codes "."
text_of symbol.Star = codes "*"
text_of symbol.At = codes "@"
text_of other = []

abbrev pub kind_of : Symbol → Tok
kind_of symbol.Name = tok.Word
kind_of symbol.Integer = tok.Word
kind_of symbol.Module = tok.Word
kind_of symbol.Endmodule = tok.Word
kind_of symbol.Parameter = tok.Word
kind_of symbol.Default = tok.Word
kind_of symbol.End = tok.Word
kind_of symbol.Endcase = tok.Word
kind_of symbol.Endgenerate = tok.Word
kind_of other = tok.Mark

-- the symbols of the shortest texts
abbrev pub used : Symbol → Bool
used symbol.Name = true
used symbol.Integer = true
used symbol.Module = true
used symbol.Endmodule = true
used symbol.Parameter = true
used symbol.Default = true
used symbol.End = true
used symbol.Endcase = true
used symbol.Endgenerate = true
used symbol.OpenParen = true
used symbol.CloseParen = true
used symbol.CloseBracket = true
used symbol.CloseBrace = true
used symbol.CloseAttribute = true
used symbol.Semicolon = true
used symbol.Colon = true
used symbol.Comma = true
used symbol.Equals = true
used symbol.Dot = true
used symbol.Star = true
used symbol.At = true
used other = false

-- a token with this symbol
abbrev pub made : Symbol → Terminal
made s = record { symbol = s; kind = kind_of s; at = 0; text = text_of s; full = false; parallel = false }

word_is : (s : Symbol) → used s ≡ true → s ≡ terminals.symbol (kind_of s) (text_of s)
unfolding word_symbol mark_symbol words keywords refused_words marks
word_is symbol.Name h = refl
word_is symbol.Integer h = refl
word_is symbol.Module h = refl
word_is symbol.Endmodule h = refl
word_is symbol.Parameter h = refl
word_is symbol.Default h = refl
word_is symbol.End h = refl
word_is symbol.Endcase h = refl
word_is symbol.Endgenerate h = refl
word_is symbol.OpenParen h = refl
word_is symbol.CloseParen h = refl
word_is symbol.CloseBracket h = refl
word_is symbol.CloseBrace h = refl
word_is symbol.CloseAttribute h = refl
word_is symbol.Semicolon h = refl
word_is symbol.Colon h = refl
word_is symbol.Comma h = refl
word_is symbol.Equals h = refl
word_is symbol.Dot h = refl
word_is symbol.Star h = refl
word_is symbol.At h = refl
word_is other h = cc

not_refused : (s : Symbol) → used s ≡ true → is_refused s ≡ false
not_refused symbol.Refused h = cc
not_refused other h = refl

no_number : (s : Symbol) → used s ≡ true → s ≡ symbol.Number → ⊥
no_number s h e = unused (subst (λ x. used x ≡ true) e h)
  where
    unused : used symbol.Number ≡ true → ⊥
    unused x = cc

pub is_word : (s : Symbol) → used s ≡ true → IsWord (made s)
is_word s h = (word_is s h, not_refused s h)

pub is_numbered : (s : Symbol) → used s ≡ true → IsNumbered (made s)
is_numbered s h e = absurd (no_number s h e)

-- ---- the shortest text of a task

abbrev pub row : Task → List Symbol
row (task.Expect s) = s ∷ []
row (task.Level k) = symbol.Name ∷ []
row task.Expression = symbol.Name ∷ []
row task.SelectEnd = symbol.CloseBracket ∷ []
row task.Parts = symbol.CloseBrace ∷ []
row task.Attribute = symbol.Name ∷ []
row task.AttributeConstant = symbol.Name ∷ []
row task.Target = symbol.Name ∷ []
row task.Ticks = symbol.Name ∷ []
row task.Assigner = symbol.Equals ∷ []
row task.Statement = symbol.Semicolon ∷ []
row task.FirstBranch = symbol.Default ∷ symbol.Semicolon ∷ []
row task.Item = symbol.Integer ∷ symbol.Name ∷ symbol.Semicolon ∷ []
row task.MarkedItem = symbol.Integer ∷ symbol.Name ∷ symbol.Semicolon ∷ []
row task.Made = symbol.Semicolon ∷ []
row task.FirstChoice = symbol.Default ∷ symbol.Semicolon ∷ []
row task.Name = symbol.Name ∷ []
row task.Net = symbol.Name ∷ []
row task.Variable = symbol.Name ∷ []
row task.Setting = symbol.Name ∷ symbol.Equals ∷ symbol.Name ∷ []
row task.Drive = symbol.Name ∷ symbol.Equals ∷ symbol.Name ∷ []
row task.Sensitivity = symbol.Star ∷ []
row task.EventList = symbol.Star ∷ symbol.CloseParen ∷ []
row task.Event = symbol.Name ∷ []
row task.EventSelectEnd = symbol.CloseBracket ∷ []
row task.GateTicks = symbol.Name ∷ []
row task.Gate = symbol.OpenParen ∷ symbol.Name ∷ symbol.Comma ∷ symbol.Name ∷ symbol.CloseParen ∷ []
row task.Buffer = symbol.OpenParen ∷ symbol.Name ∷ symbol.Comma ∷ symbol.Name ∷ symbol.CloseParen ∷ []
row task.OutputOrInput = symbol.Name ∷ []
row task.Instance = symbol.Name ∷ symbol.OpenParen ∷ symbol.CloseParen ∷ []
row task.Arguments = symbol.Name ∷ []
row task.NamedArgument = symbol.Dot ∷ symbol.Name ∷ symbol.OpenParen ∷ symbol.CloseParen ∷ []
row task.Module = symbol.Module ∷ symbol.Name ∷ symbol.Semicolon ∷ symbol.Endmodule ∷ []
row task.FirstParameter = symbol.Parameter ∷ symbol.Name ∷ symbol.Equals ∷ symbol.Name ∷ []
row task.HeadParameter = symbol.Name ∷ symbol.Equals ∷ symbol.Name ∷ []
row task.PortList = symbol.CloseParen ∷ []
row task.Port = symbol.Name ∷ []
row other = []

-- ---- what may follow

-- an expression or a list ends here
abbrev pub ends : Option Symbol → Bool
ends (Some symbol.Semicolon) = true
ends (Some symbol.CloseParen) = true
ends (Some symbol.CloseBracket) = true
ends (Some symbol.CloseBrace) = true
ends (Some symbol.Colon) = true
ends (Some symbol.CloseAttribute) = true
ends next = false

-- a name with its select ends here
abbrev pub ends_name : Option Symbol → Bool
ends_name (Some symbol.Equals) = true
ends_name next = ends next

-- a name with its select ends here, or the first terminal of a gate
abbrev pub ends_part : Option Symbol → Bool
ends_part (Some symbol.Comma) = true
ends_part next = ends_name next

-- a statement or an item ends here
abbrev pub ends_statement : Option Symbol → Bool
ends_statement (Some symbol.End) = true
ends_statement (Some symbol.Endcase) = true
ends_statement (Some symbol.Endmodule) = true
ends_statement (Some symbol.Endgenerate) = true
ends_statement next = false

abbrev pub is_end : Option Symbol → Bool
is_end None = true
is_end (Some s) = false

-- the shortest text of a task may be followed by this
abbrev pub fits : Task → Option Symbol → Bool
fits (task.Expect s) next = used s
fits task.Select next = ends_part next
fits task.Target next = ends_part next
fits task.Targets next = ends_name next
fits task.Event next = ends_name next
fits task.Events next = ends_name next
fits task.EventSelect next = ends_name next
fits task.GateDelay next = is_next symbol.OpenParen next
fits task.GateName next = is_next symbol.OpenParen next
fits task.Fall next = is_next symbol.CloseParen next
fits task.Delay next = is_next symbol.Name next
fits task.PortKind next = is_next symbol.Name next
fits task.Sign next = is_next symbol.Name next
fits task.Range next = is_next symbol.Name next
fits task.Overrides next = is_next symbol.Name next
fits task.Statement next = ends_statement next
fits task.Else next = ends_statement next
fits task.Label next = ends_statement next
fits task.Statements next = is_next symbol.End next
fits task.FirstBranch next = is_next symbol.Endcase next
fits task.Branches next = is_next symbol.Endcase next
fits task.Labelled next = is_next symbol.Endcase next
fits task.DefaultColon next = is_next symbol.Semicolon next
fits task.Item next = ends_statement next
fits task.MarkedItem next = ends_statement next
fits task.RegionItems next = is_next symbol.Endgenerate next
fits task.BlockItems next = is_next symbol.End next
fits task.Made next = ends_statement next
fits task.MadeElse next = ends_statement next
fits task.FirstChoice next = is_next symbol.Endcase next
fits task.Choices next = is_next symbol.Endcase next
fits task.LabelledChoices next = is_next symbol.Endcase next
fits task.Items next = is_next symbol.Endmodule next
fits task.Connections next = is_next symbol.CloseParen next
fits task.Arguments next = is_next symbol.CloseParen next
fits task.Argument next = is_next symbol.CloseParen next
fits task.Positional next = is_next symbol.CloseParen next
fits task.Associated next = is_next symbol.CloseParen next
fits task.Source next = is_end next
fits task.Module next = is_end next
fits task.Wrap next = true
fits task.Join next = true
fits task.Forget next = true
fits task.SelectEnd next = true
fits task.EventSelectEnd next = true
fits task.GateTicks next = true
fits task.Gate next = true
fits task.Buffer next = true
fits task.Parts next = true
fits task.Ticks next = true
fits task.Assigner next = true
fits task.Name next = true
fits task.Sensitivity next = true
fits task.EventList next = true
fits task.Instance next = true
fits task.NamedArgument next = true
fits task.PortList next = true
fits task.Port next = true
fits other next = ends next

-- what comes first of some symbols and of what follows them
abbrev pub lead : List Symbol → Option Symbol → Option Symbol
lead [] next = next
lead (s ∷ ss) next = Some s

abbrev pub first_of : List Task → Option Symbol → Option Symbol
first_of [] next = next
first_of (t ∷ tasks) next = lead (row t) (first_of tasks next)

-- each task may be followed by those behind it
abbrev pub fit : List Task → Option Symbol → Bool
fit [] next = true
fit (t ∷ tasks) next = fits t (first_of tasks next) && fit tasks next

-- ---- texts of tasks

abbrev pub put : List Symbol → List Terminal → List Terminal
put [] ts = ts
put (s ∷ ss) ts = made s ∷ put ss ts

-- the shortest text of some tasks
abbrev pub ending : List Task → List Terminal
ending [] = []
ending (t ∷ tasks) = put (row t) (ending tasks)

put_at : (ss : List Symbol) (ts : List Terminal) → symbol_at (put ss ts) ≡ lead ss (symbol_at ts)
put_at [] ts = refl
put_at (s ∷ ss) ts = refl

pub first_at : (tasks : List Task) → symbol_at (ending tasks) ≡ first_of tasks None
first_at [] = refl
first_at (t ∷ tasks) = put_at (row t) (ending tasks) ∙ ap (lead (row t)) (first_at tasks)

-- ---- which words they have

pub and_left : (a b : Bool) → (a && b) ≡ true → a ≡ true
and_left true b h = refl
and_left false b h = cc

pub and_right : (a b : Bool) → (a && b) ≡ true → b ≡ true
and_right true b h = h
and_right false b h = cc

pub and_true : (a b : Bool) → a ≡ true → b ≡ true → (a && b) ≡ true
and_true true b e f = f
and_true false b e f = cc

all_used : List Symbol → Bool
all_used [] = true
all_used (s ∷ ss) = used s && all_used ss

row_used : (t : Task) (next : Option Symbol) → fits t next ≡ true → all_used (row t) ≡ true
unfolding all_used
row_used (task.Expect s) next h = and_true (used s) true h refl
row_used other next h = refl

put_words : (ss : List Symbol) (ts : List Terminal) → all_used ss ≡ true → AreWords ts → AreWords (put ss ts)
unfolding all_used
put_words [] ts h w = w
put_words (s ∷ ss) ts h w = (is_word s (and_left (used s) (all_used ss) h), put_words ss ts (and_right (used s) (all_used ss) h) w)

put_numbered : (ss : List Symbol) (ts : List Terminal) → all_used ss ≡ true → AreNumbered ts → AreNumbered (put ss ts)
unfolding all_used
put_numbered [] ts h w = w
put_numbered (s ∷ ss) ts h w = (is_numbered s (and_left (used s) (all_used ss) h), put_numbered ss ts (and_right (used s) (all_used ss) h) w)

pub ending_words : (tasks : List Task) → fit tasks None ≡ true → AreWords (ending tasks)
ending_words [] h = tt
ending_words (t ∷ tasks) h =
    put_words (row t) (ending tasks) (row_used t (first_of tasks None) (and_left (fits t (first_of tasks None)) (fit tasks None) h))
    (ending_words tasks (and_right (fits t (first_of tasks None)) (fit tasks None) h))

pub ending_numbered : (tasks : List Task) → fit tasks None ≡ true → AreNumbered (ending tasks)
ending_numbered [] h = tt
ending_numbered (t ∷ tasks) h =
    put_numbered (row t) (ending tasks) (row_used t (first_of tasks None) (and_left (fits t (first_of tasks None)) (fit tasks None) h))
    (ending_numbered tasks (and_right (fits t (first_of tasks None)) (fit tasks None) h))
