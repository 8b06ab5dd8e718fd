-- It serves inner contracts and proofs; no answer of the program is stated by it.
-- The builder as functions on tokens: modules, and a whole text.
use Rattle.std.specs.Prelude.{ℕ, Bool, true, false, ◌||◌, List, [], ◌∷◌, Option, Some, None}
use Rattle.std.specs.List.{filter}
use Rattle.text_ground.specs.declared.dropped.Dropped.{Dropped}
use Rattle.rtl_tree.specs.declared.symbol.Symbol.TheVariants as symbol
use Rattle.rtl_tree.specs.Symbols.{Terminal}
use Rattle.rtl_tree.specs.TreeItem.{Head}
use Rattle.rtl_tree.specs.TreeWritten.{WrittenItem}
use Rattle.rtl_tree.specs.TreeModule.{Heading, HeaderParameter, HeaderPort, Header, Absent, Empty, Declared, Named, WrittenCircuit}
use Rattle.text_grammar.specs.GrammarModule.{is_between}
use Rattle.text_build.specs.Reading.{Parser, ◌>>=◌, ◌>>◌, pure, starts, advance, mark, name, either, optional, add, repeat, until, listed}
use Rattle.text_build.specs.ReadingStmt.{attributes}
use Rattle.text_build.specs.ReadingItem.{range, value, port_head}
use Rattle.text_build.specs.ReadingGenerate as generate

-- an item: constructs, and what stands in an item that is none, are nested at most `d` deep
abbrev pub item : ℕ → Parser WrittenItem
item d = generate.item d d

unfoldable pub heading : ℕ → Parser Heading
heading d = advance >>= (λ at. range d >>= (λ b. pure (record { at = at; bounds = b })))

unfoldable pub parameter : ℕ → Parser HeaderParameter
parameter d =
    optional symbol.Parameter (heading d) >>= (λ h. name >>= (λ n. value d >>= (λ v. pure (record { heading = h; name = n; value = v }))))

unfoldable pub parameters_of : ℕ → Parser (List HeaderParameter)
parameters_of d = advance >> mark symbol.OpenParen >> listed (parameter d) >>= (λ all. mark symbol.CloseParen >> pure all)

unfoldable pub parameters : ℕ → Parser (List HeaderParameter)
parameters d = either (starts symbol.Hash) (parameters_of d) (pure [])

abbrev pub starts_head : List Terminal → Bool
starts_head ts = starts symbol.Input ts || starts symbol.Output ts

unfoldable pub own_head : ℕ → Parser (Option Head)
own_head d = either starts_head (port_head d >>= (λ h. pure (Some h))) (pure None)

unfoldable pub port : ℕ → Parser HeaderPort
port d = own_head d >>= (λ h. name >>= (λ n. pure (record { head = h; name = n })))

unfoldable pub declared : ℕ → Parser Header
declared d = listed (port d) >>= (λ all. mark symbol.CloseParen >> pure (Declared all))

unfoldable pub named : Parser Header
named = listed name >>= (λ all. mark symbol.CloseParen >> pure (Named all))

unfoldable pub empty : Parser Header
empty = advance >> pure Empty

unfoldable pub port_list : ℕ → Parser Header
port_list d = advance >> either (starts symbol.CloseParen) empty (either starts_head (declared d) named)

unfoldable pub header : ℕ → Parser Header
header d = either (starts symbol.OpenParen) (port_list d) (pure Absent)

-- a module after its attributes
unfoldable pub circuit_after : ℕ → List Dropped → Parser WrittenCircuit
circuit_after d regions =
    mark symbol.Module >>= (λ at. name >>= (λ n. parameters d >>= (λ ps. header d >>= (λ h. mark symbol.Semicolon >> until symbol.Endmodule (item d) >>= (λ is. mark symbol.Endmodule
    >>= (λ last. pure (record { at = at; name = n; parameters = ps; header = h; items = is; dropped = filter (is_between at last) regions })))))))

unfoldable pub circuit : ℕ → List Dropped → Parser WrittenCircuit
circuit d regions = attributes >> circuit_after d regions

abbrev pub is_more : List Terminal → Bool
is_more [] = false
is_more (t ∷ ts) = true

-- the modules of a text
unfoldable pub circuits : ℕ → List Dropped → Parser (List WrittenCircuit)
circuits d regions = repeat is_more (add (circuit d regions)) []
