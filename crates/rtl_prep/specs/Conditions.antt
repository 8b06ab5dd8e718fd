-- What of a file depends on names that another file or a tool may define: the conditions that ask for such names, the conditional text
-- and the modules by their places, and the macros that the file has at its end (IEEE 1364-2001 sections 19.3 and 19.4).
-- Worked examples: crates/tests_rows/stdin.
use Rattle.std.specs.Prelude.{ℕ, zero, suc, ◌&&◌, ◌||◌, Bool, true, false, not, if◌then◌else◌, nat_eq, Option, Some, None, List, [], ◌∷◌, ◌++◌, codes, Result, Ok, Err}
use Rattle.std.specs.Option.{option_map, option_to_list}
use Rattle.std.specs.List.{list_any}
use Rattle.std.specs.BTreeSet.{insert_key}
use Rattle.std.specs.Set.{remove_key}
use Rattle.std.specs.Cmp.Lexicographic.{slice_cmp}
use Rattle.std.specs.Ordering.{is_eq, nat_cmp}
use Rattle.std.specs.Str.{bytes_eq}
use Rattle.rtl_tree.specs.declared.token.Token.{Token}
use Rattle.rtl_tree.specs.Prepared.{Ready}
use Rattle.rtl_tree.specs.Symbols.{slice}
use Rattle.rtl_prep.specs.declared.conditions.Ask.{Ask}
use Rattle.rtl_prep.specs.declared.conditions.Span.{Span}
use Rattle.rtl_prep.specs.declared.conditions.Extent.{Extent}
use Rattle.rtl_prep.specs.declared.chains.Close.{Close}
use Rattle.rtl_prep.specs.declared.directive.Known.{Known}
use Rattle.rtl_prep.specs.declared.directive.Known.TheVariants.{Define, Undef, Ifdef, Ifndef, Elsif, Endif}
use Rattle.rtl_prep.specs.declared.directive.Group.{Group}
use Rattle.rtl_prep.specs.declared.directive.Group.TheVariants.{Before}
use Rattle.rtl_prep.specs.declared.directive.Chain.{Chain}
use Rattle.rtl_prep.specs.Stops.{Stop}
use Rattle.rtl_prep.specs.Regions.{Cut, regions}
use Rattle.rtl_prep.specs.Initials.{is_word}
use Rattle.rtl_prep.specs.Directives.{name_of, directive_of}
use Rattle.rtl_prep.specs.Macros.{is_directive}
use Rattle.rtl_prep.specs.Reading.{Place, keeps, taken}
use Rattle.rtl_prep.specs.Prepares.{start, prepared}

-- the tested conditions whose names no directive before them settles, each with the number of its chain; the chains, from `ifdef` or
-- `ifndef` to `endif`; the modules, where a condition asks; and the macros at the file's end, ascending
pub record FileConditions : Type 0 where
  pub asks : List Ask
  pub chains : List Span
  pub modules : List Extent
  pub macros : List (List ℕ)

-- ---- the directives that are read

-- a directive that is read: which it is, its place, the word behind it, and whether it acts: a condition is tested, any other
-- directive stands in text that is kept
pub record Notice : Type 0 where
  pub known : Known
  pub at : ℕ
  pub name : List ℕ
  pub acts : Bool

abbrev pub word_behind : List ℕ → List Token → List ℕ
word_behind text [] = []
word_behind text (t ∷ ts) = slice text t

-- no group of the innermost chain is kept so far
abbrev pub is_before : Group → Bool
is_before Before = true
is_before group = false

abbrev pub waits : List Chain → Bool
waits [] = false
waits (c ∷ cs) = is_before c.group

-- an `elsif` is tested where no group of its chain is kept before it
abbrev pub acts : Known → List Chain → Bool
acts Elsif chains = waits chains
acts known chains = keeps chains

abbrev pub notice : List ℕ → List Token → Place → Token → Known → Notice
notice text rest p t known = record { known = known; at = t.at; name = word_behind text rest; acts = acts known p.chains }

-- the directive that a token is, unless it was read with a directive before it, as in a macro's body
abbrev pub notice_at : List ℕ → List Token → Place → Token → Option Notice
notice_at text rest p t =
    if nat_eq p.passed 0 && is_directive t.kind then option_map (notice text rest p t) (directive_of (name_of text t)) else None

abbrev pub and_on : Result Place Stop → (Place → List Notice) → List Notice
and_on (Ok p) others = others p
and_on (Err stop) others = []

-- the directives from a place on, up to what can't be read
unfoldable pub notices : List ℕ → List Token → Place → List Notice
notices text [] p = []
notices text (t ∷ ts) p = option_to_list (notice_at text ts p t) ++ and_on (taken text ts p t) (notices text ts)

-- ---- the conditions that ask

abbrev pub is_opening : Known → Bool
is_opening Ifdef = true
is_opening Ifndef = true
is_opening known = false

abbrev pub is_ending : Known → Bool
is_ending Endif = true
is_ending known = false

abbrev pub is_condition : Known → Bool
is_condition Elsif = true
is_condition known = is_opening known

abbrev pub is_naming : Known → Bool
is_naming Define = true
is_naming Undef = true
is_naming known = false

-- a `define` or `undef` that is kept settles its name
abbrev pub settles : List ℕ → Notice → Bool
settles name n = is_naming n.known && n.acts && bytes_eq n.name name

-- how many chains begin
unfoldable pub openings : List Notice → ℕ
openings [] = 0
openings (n ∷ ns) = if is_opening n.known then suc (openings ns) else openings ns

abbrev pub number_of : ℕ → ℕ → (ℕ → ℕ) → ℕ
number_of zero number others = number
number_of (suc ended) number others = others ended

-- the number of the innermost chain that is open behind these directives, the last first, where so many more end behind them
unfoldable pub open_chain : ℕ → List Notice → ℕ
open_chain ended [] = 0
open_chain ended (n ∷ ns) =
    if is_opening n.known then number_of ended (openings ns) (λ fewer. open_chain fewer ns) else
    if is_ending n.known then open_chain (suc ended) ns else open_chain ended ns

-- the number of a condition's chain, by the directives before it, the last first
abbrev pub chain_of : List Notice → Notice → ℕ
chain_of before n = if is_opening n.known then openings before else open_chain 0 before

abbrev pub asks_behind : List Notice → Notice → Bool
asks_behind before n = is_condition n.known && n.acts && not (list_any (settles n.name) before)

abbrev pub ask : List Notice → Notice → Ask
ask before n = record { at = n.at; name = n.name; chain = chain_of before n }

abbrev pub ask_at : List Notice → Notice → List Ask
ask_at before n = if asks_behind before n then ask before n ∷ [] else []

-- the conditions that ask, behind the directives before them, the last first
unfoldable pub asks_from : List Notice → List Notice → List Ask
asks_from before [] = []
asks_from before (n ∷ ns) = ask_at before n ++ asks_from (n ∷ before) ns

-- ---- chains

abbrev pub also : Bool → Close → Close
also defines c = record { to = c.to; defines = defines || c.defines }

abbrev pub close_at : ℕ → ℕ → (ℕ → Option Close) → Option Close
close_at zero at others = Some (record { to = at; defines = false })
close_at (suc nested) at others = others nested

-- the end of a chain within which so many others are open, and whether a `define` or `undef` stands before it
unfoldable pub close : ℕ → List Notice → Option Close
close nested [] = None
close nested (n ∷ ns) =
    if is_opening n.known then close (suc nested) ns else
    if is_ending n.known then close_at nested n.at (λ fewer. close fewer ns) else option_map (also (is_naming n.known)) (close nested ns)

-- a chain without an end goes no further than its first directive
abbrev pub span : ℕ → Option Close → Span
span from None = record { from = from; to = from; defines = false }
span from (Some c) = record { from = from; to = c.to; defines = c.defines }

abbrev pub span_at : Notice → List Notice → List Span
span_at n ns = if is_opening n.known then span n.at (close 0 ns) ∷ [] else []

unfoldable pub chains : List Notice → List Span
chains [] = []
chains (n ∷ ns) = span_at n ns ++ chains ns

-- ---- macros

-- names in order, and one more among them, or without one
abbrev pub with_name : List (List ℕ) → List ℕ → List (List ℕ)
with_name names name = insert_key (slice_cmp nat_cmp) names name

abbrev pub without_name : List (List ℕ) → List ℕ → List (List ℕ)
without_name names name = remove_key (λ other. is_eq (slice_cmp nat_cmp name other)) names

abbrev pub named : Known → List (List ℕ) → List ℕ → List (List ℕ)
named Define names name = with_name names name
named Undef names name = without_name names name
named known names name = names

-- the macros behind a directive
abbrev pub macros_behind : List (List ℕ) → Notice → List (List ℕ)
macros_behind names n = if n.acts then named n.known names n.name else names

unfoldable pub macros_from : List (List ℕ) → List Notice → List (List ℕ)
macros_from names [] = names
macros_from names (n ∷ ns) = macros_from (macros_behind names n) ns

-- ---- modules

-- the place of the first `endmodule`
unfoldable pub module_end : List ℕ → List Token → Option ℕ
module_end text [] = None
module_end text (t ∷ ts) = if is_word (codes "endmodule") text t then Some t.at else module_end text ts

-- a module without an end goes no further than its first word
abbrev pub extent : ℕ → Option ℕ → Extent
extent from None = record { from = from; to = from }
extent from (Some to) = record { from = from; to = to }

abbrev pub extent_at : List ℕ → Token → List Token → List Extent
extent_at text t ts = if is_word (codes "module") text t then extent t.at (module_end text ts) ∷ [] else []

unfoldable pub extents : List ℕ → List Token → List Extent
extents text [] = []
extents text (t ∷ ts) = extent_at text t ts ++ extents text ts

-- ---- files

-- the tokens outside `translate_off`
abbrev pub outside : Result Cut Stop → List Token
outside (Ok c) = c.kept
outside (Err stop) = []

-- the tokens that are left by preparation
abbrev pub left : Result Ready Stop → List Token
left (Ok ready) = ready.tokens
left (Err stop) = []

abbrev pub extents_for : List Ask → List ℕ → List Token → List Extent
extents_for [] text ts = []
extents_for (a ∷ others) text ts = extents text ts

abbrev pub asked_by : List ℕ → List Notice → List Token → FileConditions
asked_by text ns kept =
    record { asks = asks_from [] ns; chains = chains ns; modules = extents_for (asks_from [] ns) text kept; macros = macros_from [] ns }

-- what the conditions of a text ask, by its tokens
unfoldable pub asked : List ℕ → List Token → FileConditions
asked text ts = asked_by text (notices text (outside (regions ts)) start) (left (prepared text ts))
