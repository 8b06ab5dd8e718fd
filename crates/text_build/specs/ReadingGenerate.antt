-- It serves inner contracts and proofs; no answer of the program is stated by it.
-- The builder as functions on tokens: generate constructs, and the items of a module with these among them.
use Rattle.std.specs.Prelude.{ℕ, zero, suc, Option, Some}
use Rattle.rtl_tree.specs.declared.symbol.Symbol.{Symbol}
use Rattle.rtl_tree.specs.declared.symbol.Symbol.TheVariants as symbol
use Rattle.rtl_tree.specs.TreeExpr.{Formula}
use Rattle.rtl_tree.specs.TreeWritten.{WrittenItem, Genvars, Region, If, IfElse, Case, For, item_row, GenerateBlock, Null, Single, Block, GenerateChoice, Labelled, Default, choice_row}
use Rattle.text_build.specs.Reading.{Parser, ◌>>=◌, ◌>>◌, pure, symbol_at, starts, advance, mark, name, either, optional, until, listed}
use Rattle.text_build.specs.ReadingExpr.{expression}
use Rattle.text_build.specs.ReadingStmt.{attributes, no_colon, step_of, label}
use Rattle.text_build.specs.ReadingGate.{written_after}

-- ---- what a construct makes: `i` reads an item within

unfoldable pub null : Parser GenerateBlock
null = advance >>= (λ at. pure (Null at))

unfoldable pub single : Parser WrittenItem → Parser GenerateBlock
single i = i >>= (λ x. pure (Single x))

unfoldable pub block : Parser WrittenItem → Parser GenerateBlock
block i =
    advance >>= (λ at. optional symbol.Colon label >>= (λ l. until symbol.End i >>= (λ all. mark symbol.End >> pure (Block at l (item_row all)))))

abbrev pub made_by : Option Symbol → Parser WrittenItem → Parser GenerateBlock
made_by (Some symbol.Semicolon) i = null
made_by (Some symbol.Begin) i = block i
made_by o i = single i

unfoldable pub made : Parser WrittenItem → Parser GenerateBlock
made i = λ ts. made_by (symbol_at ts) i ts

-- ---- constructs: `e` reads an expression and `m` what a construct makes

unfoldable pub alternative : Parser GenerateBlock → ℕ → Formula → GenerateBlock → Parser WrittenItem
alternative m at condition taken = advance >> m >>= (λ otherwise. pure (IfElse at condition taken otherwise))

-- an `else` after a branch belongs to its `if`
unfoldable pub conditional : Parser Formula → Parser GenerateBlock → Parser WrittenItem
conditional e m =
    advance >>= (λ at. mark symbol.OpenParen >> e >>= (λ condition. mark symbol.CloseParen >> m >>= (λ taken. either (starts symbol.Else) (alternative m at condition taken) (pure (If at condition taken)))))

unfoldable pub labelled : Parser Formula → Parser GenerateBlock → Parser GenerateChoice
labelled e m = listed e >>= (λ labels. mark symbol.Colon >> m >>= (λ body. pure (Labelled labels body)))

unfoldable pub otherwise : Parser GenerateBlock → Parser GenerateChoice
otherwise m = advance >>= (λ at. no_colon >> m >>= (λ body. pure (Default at body)))

unfoldable pub choice : Parser Formula → Parser GenerateBlock → Parser GenerateChoice
choice e m = either (starts symbol.Default) (otherwise m) (labelled e m)

-- how many choices there are isn't tested here
unfoldable pub case_of : Parser Formula → Parser GenerateBlock → Parser WrittenItem
case_of e m =
    advance >>= (λ at. mark symbol.OpenParen >> e >>= (λ selector. mark symbol.CloseParen >> until symbol.Endcase (choice e m) >>= (λ all. mark symbol.Endcase >> pure (Case at selector (choice_row all)))))

unfoldable pub loop_of : Parser Formula → Parser GenerateBlock → Parser WrittenItem
loop_of e m =
    advance >>= (λ at. mark symbol.OpenParen >> step_of e >>= (λ first. mark symbol.Semicolon >> e >>= (λ condition. mark symbol.Semicolon
    >> step_of e >>= (λ next. mark symbol.CloseParen >> m >>= (λ body. pure (For at first.0 first.1 condition next.0 next.1 body))))))

-- ---- items

unfoldable pub genvars : Parser WrittenItem
genvars = advance >>= (λ at. listed name >>= (λ names. mark symbol.Semicolon >> pure (Genvars at names)))

unfoldable pub region : Parser WrittenItem → Parser WrittenItem
region i =
    advance >>= (λ at. until symbol.Endgenerate i >>= (λ all. mark symbol.Endgenerate >> pure (Region at (item_row all))))

-- an item after its attributes in which no other stands; in it expressions and statements are nested at most `d` deep
unfoldable pub simple : ℕ → Parser WrittenItem
simple d = either (starts symbol.Genvar) genvars (written_after d)

-- an item with its attributes: `p` reads one in which no other stands
unfoldable pub marked : Parser WrittenItem → Parser WrittenItem → Parser WrittenItem
marked p i = attributes >> either (starts symbol.Generate) (region i) p

abbrev pub within_by : Option Symbol → Parser WrittenItem → Parser Formula → Parser WrittenItem → Parser WrittenItem
within_by (Some symbol.If) p e i = conditional e (made i)
within_by (Some symbol.Case) p e i = case_of e (made i)
within_by (Some symbol.For) p e i = loop_of e (made i)
within_by o p e i = marked p i

-- no attributes stand before an `if`, a `case` or a `for`
unfoldable pub within : Parser WrittenItem → Parser Formula → Parser WrittenItem → Parser WrittenItem
within p e i = λ ts. within_by (symbol_at ts) p e i ts

-- an item, where constructs are nested at most `k` deep
unfoldable pub item : ℕ → ℕ → Parser WrittenItem
item d zero = attributes >> simple d
item d (suc k) = within (simple d) (expression k) (item d k)
