-- The terminal symbols of the grammar: keywords (IEEE 1364-2001 annex B), operators and punctuation (2.4), and what is refused.
-- Worked examples: crates/tests_layers/stdin.
use Rattle.std.specs.Prelude.{ℕ, ◌-◌, ◌||◌, Bool, false, if◌then◌else◌, nat_eq, Option, Some, None, List, [], ◌∷◌, ◌++◌, take, drop, map, codes}
use Rattle.std.specs.Str.{bytes_eq}
use Rattle.rtl_tree.specs.declared.token.Tok.{Tok}
use Rattle.rtl_tree.specs.declared.token.Tok.TheVariants as tok
use Rattle.rtl_tree.specs.declared.token.Pragma.{Pragma}
use Rattle.rtl_tree.specs.declared.token.Pragma.TheVariants as pragma
use Rattle.rtl_tree.specs.declared.token.Token.{Token}
use Rattle.rtl_tree.specs.declared.symbol.Symbol.{Symbol}
use Rattle.rtl_tree.specs.declared.symbol.Symbol.TheVariants.{Name, Number, Quoted, Refused, Alien, Always, And, Assign, Begin, Buf, Case, Casex, Casez, Default, Else, End, Endcase, Endgenerate, Endmodule, For, Generate, Genvar, If, Input, Integer, Localparam, Module, Nand, Negedge, Nor, Not, Or, Output, Parameter, Posedge, Reg, Signed, Wire, Xnor, Xor, ToSigned, ToUnsigned, Clog2, OpenParen, CloseParen, OpenBracket, CloseBracket, OpenBrace, CloseBrace, OpenAttribute, CloseAttribute, Semicolon, Colon, Comma, Dot, Equals, At, Hash, Question, Plus, Minus, PlusColon, MinusColon, StarStar, Star, Slash, Percent, Bang, Tilde, Ampersand, TildeAmpersand, Bar, TildeBar, Caret, TildeCaret, ShiftLeft, ShiftRight, ArithmeticShiftLeft, ArithmeticShiftRight, Less, LessEquals, Greater, GreaterEquals, EqualEquals, BangEquals, CaseEquals, CaseBangEquals, AndAnd, OrOr}
use Rattle.rtl_tree.specs.declared.symbol.Terminal as code

-- a token as the grammar sees it: its symbol, its kind with a number's value, its place, its text, and what the pragmas directly after
-- it say
pub record Terminal : Type 0 where
  pub symbol : Symbol
  pub kind : Tok
  pub at : ℕ
  pub text : List ℕ
  pub full : Bool
  pub parallel : Bool

abbrev pub terminal : code.Terminal → Terminal
terminal t = record { symbol = t.symbol; kind = t.kind.now; at = t.at; text = t.text.now; full = t.full; parallel = t.parallel }

-- the keywords that the grammar has
unfoldable pub keywords : List (List ℕ × Symbol)
keywords =
    (codes "module", Module) ∷ (codes "endmodule", Endmodule) ∷ (codes "input", Input) ∷ (codes "output", Output) ∷
    (codes "wire", Wire) ∷ (codes "reg", Reg) ∷ (codes "integer", Integer) ∷ (codes "signed", Signed) ∷
    (codes "parameter", Parameter) ∷ (codes "localparam", Localparam) ∷ (codes "assign", Assign) ∷ (codes "always", Always) ∷
    (codes "posedge", Posedge) ∷ (codes "negedge", Negedge) ∷ (codes "or", Or) ∷ (codes "begin", Begin) ∷ (codes "end", End) ∷
    (codes "if", If) ∷ (codes "else", Else) ∷ (codes "case", Case) ∷ (codes "casez", Casez) ∷ (codes "casex", Casex) ∷
    (codes "endcase", Endcase) ∷ (codes "default", Default) ∷ (codes "for", For) ∷
    (codes "$signed", ToSigned) ∷ (codes "$unsigned", ToUnsigned) ∷ (codes "$clog2", Clog2) ∷
    (codes "and", And) ∷ (codes "nand", Nand) ∷ (codes "nor", Nor) ∷ (codes "xor", Xor) ∷ (codes "xnor", Xnor) ∷
    (codes "buf", Buf) ∷ (codes "not", Not) ∷
    (codes "generate", Generate) ∷ (codes "endgenerate", Endgenerate) ∷ (codes "genvar", Genvar) ∷
    []

-- the keywords of constructs outside this language
unfoldable pub refused_words : List (List ℕ)
refused_words =
    codes "fork" ∷ codes "join" ∷ codes "wait" ∷ codes "force" ∷ codes "release" ∷ codes "disable" ∷ codes "deassign" ∷
    codes "defparam" ∷ codes "real" ∷ codes "realtime" ∷ codes "time" ∷ codes "event" ∷ codes "task" ∷ codes "endtask" ∷
    codes "specify" ∷ codes "endspecify" ∷ codes "specparam" ∷ codes "primitive" ∷ codes "endprimitive" ∷ codes "table" ∷
    codes "endtable" ∷ codes "while" ∷ codes "repeat" ∷ codes "forever" ∷ codes "supply0" ∷ codes "supply1" ∷ codes "tri" ∷
    codes "tri0" ∷ codes "tri1" ∷ codes "triand" ∷ codes "trior" ∷ codes "trireg" ∷ codes "wand" ∷ codes "wor" ∷
    codes "scalared" ∷ codes "vectored" ∷ codes "bufif0" ∷ codes "bufif1" ∷ codes "notif0" ∷ codes "notif1" ∷ codes "nmos" ∷ codes "pmos" ∷
    codes "cmos" ∷ codes "rnmos" ∷ codes "rpmos" ∷ codes "rcmos" ∷ codes "tran" ∷ codes "tranif0" ∷ codes "tranif1" ∷
    codes "rtran" ∷ codes "rtranif0" ∷ codes "rtranif1" ∷ codes "pullup" ∷ codes "pulldown" ∷ codes "inout" ∷
    codes "function" ∷ codes "endfunction" ∷ codes "config" ∷ codes "library" ∷
    []

-- the marks, that of a construct outside this language among them: `->`
unfoldable pub marks : List (List ℕ × Symbol)
marks =
    (codes "(", OpenParen) ∷ (codes ")", CloseParen) ∷ (codes "[", OpenBracket) ∷ (codes "]", CloseBracket) ∷
    (codes "{", OpenBrace) ∷ (codes "}", CloseBrace) ∷ (codes ";", Semicolon) ∷ (codes ",", Comma) ∷ (codes ".", Dot) ∷
    (codes ":", Colon) ∷ (codes "=", Equals) ∷ (codes "<=", LessEquals) ∷ (codes "@", At) ∷ (codes "#", Hash) ∷
    (codes "?", Question) ∷ (codes "+", Plus) ∷ (codes "-", Minus) ∷ (codes "*", Star) ∷ (codes "/", Slash) ∷
    (codes "%", Percent) ∷ (codes "!", Bang) ∷ (codes "~", Tilde) ∷ (codes "&", Ampersand) ∷ (codes "|", Bar) ∷
    (codes "^", Caret) ∷ (codes "<", Less) ∷ (codes ">", Greater) ∷ (codes "&&", AndAnd) ∷ (codes "||", OrOr) ∷
    (codes "==", EqualEquals) ∷ (codes "!=", BangEquals) ∷ (codes ">=", GreaterEquals) ∷ (codes "<<", ShiftLeft) ∷
    (codes ">>", ShiftRight) ∷ (codes "~&", TildeAmpersand) ∷ (codes "~|", TildeBar) ∷ (codes "~^", TildeCaret) ∷
    (codes "^~", TildeCaret) ∷ (codes "(*", OpenAttribute) ∷ (codes "*)", CloseAttribute) ∷ (codes "===", CaseEquals) ∷
    (codes "!==", CaseBangEquals) ∷ (codes "<<<", ArithmeticShiftLeft) ∷ (codes ">>>", ArithmeticShiftRight) ∷
    (codes "**", StarStar) ∷ (codes "+:", PlusColon) ∷ (codes "-:", MinusColon) ∷ (codes "->", Refused) ∷
    []

-- what a table has for a text, or else something else
abbrev pub lookup : List (List ℕ × Symbol) → Symbol → List ℕ → Symbol
lookup [] other text = other
lookup (row ∷ rows) other text = if bytes_eq row.0 text then row.1 else lookup rows other text

-- a word that begins with `$`
abbrev pub is_system : List ℕ → Bool
is_system [] = false
is_system (b ∷ bs) = nat_eq b 36

unfoldable pub words : List (List ℕ × Symbol)
words = keywords ++ map (λ word. (word, Refused)) refused_words

-- a keyword, a refused word, or a name; system names are refused but for the three functions (2.7.3)
unfoldable pub word_symbol : List ℕ → Symbol
word_symbol text = lookup words (if is_system text then Refused else Name) text

unfoldable pub mark_symbol : List ℕ → Symbol
mark_symbol text = lookup marks Alien text

abbrev pub symbol : Tok → List ℕ → Symbol
symbol tok.Word text = word_symbol text
symbol (tok.Number value) text = Number
symbol tok.Str text = Quoted
symbol tok.Mark text = mark_symbol text
symbol tok.Directive text = Alien
symbol (tok.Pragma said) text = Alien

-- the bytes of a token
abbrev pub slice : List ℕ → Token → List ℕ
slice text t = take (t.to - t.from) (drop t.from text)

-- what a pragma says of a case: full, parallel
abbrev pub says_full : Pragma → Bool
says_full (pragma.Case full parallel) = full
says_full other = false

abbrev pub says_parallel : Pragma → Bool
says_parallel (pragma.Case full parallel) = parallel
says_parallel other = false

abbrev pub pragma_of : Tok → Option Pragma
pragma_of (tok.Pragma said) = Some said
pragma_of kind = None

-- tokens as the grammar sees them, and what the pragmas before the first of them say
pub record Sight : Type 0 where
  pub terminals : List Terminal
  pub full : Bool
  pub parallel : Bool

abbrev pub sight : List ℕ → Token → Option Pragma → Sight → Sight
sight text t (Some said) after =
    record { terminals = after.terminals; full = says_full said || after.full; parallel = says_parallel said || after.parallel }
sight text t None after =
    record {
      terminals = record { symbol = symbol t.kind (slice text t); kind = t.kind; at = t.at; text = slice text t; full = after.full; parallel = after.parallel } ∷ after.terminals;
      full = false;
      parallel = false;
    }

unfoldable pub seen : List ℕ → List Token → Sight
seen text [] = record { terminals = []; full = false; parallel = false }
seen text (t ∷ ts) = sight text t (pragma_of t.kind) (seen text ts)

-- the tokens of a text as the grammar sees them: a pragma is no token of its own, and is kept with the token that it follows
abbrev pub terminals : List ℕ → List Token → List Terminal
terminals text ts = (seen text ts).terminals
