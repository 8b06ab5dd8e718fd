-- It serves inner contracts and proofs; no answer of the program is stated by it.
-- What the passes over the directives of a text know on their way.
use Rattle.std.specs.Prelude.{ℕ, suc, ◌&&◌, Bool, false, not, if◌then◌else◌, Option, Some, None, List, [], ◌∷◌, ◌++◌, map, drop, codes}
use Rattle.std.specs.Option.{option_map}
use Rattle.std.specs.List.{list_any}
use Rattle.std.specs.Cmp.Lexicographic.{slice_cmp}
use Rattle.std.specs.Ordering.{is_eq, nat_cmp}
use Rattle.rtl_prep.specs.declared.conditions.Ask.{Ask}
use Rattle.rtl_prep.specs.declared.conditions.Extent.{Extent}
use Rattle.rtl_prep.specs.declared.conditions.Span.{Span}
use Rattle.rtl_prep.specs.declared.chains.Close.{Close}
use Rattle.rtl_prep.specs.declared.directive.Known.{Known}
use Rattle.rtl_tree.specs.declared.token.Token.{Token}
use Rattle.rtl_prep.specs.Initials.{is_word}
use Rattle.rtl_prep.specs.declared.notices.Notice as code_notice
use Rattle.rtl_prep.specs.declared.asks.Asking as code_asking
use Rattle.rtl_prep.specs.declared.chains.Closing as code_closing
use Rattle.rtl_prep.specs.Conditions.{Notice, is_opening, is_ending, is_condition, is_naming, with_name, also, span, extent}

abbrev pub seen : code_notice.Notice → Notice
seen n = record { known = n.known; at = n.at; name = n.name.now; acts = n.acts }

abbrev pub all_seen : List code_notice.Notice → List Notice
all_seen ns = map seen ns

abbrev pub seen_one : Option code_notice.Notice → Option Notice
seen_one o = option_map seen o

-- a name is among names
abbrev pub has : List (List ℕ) → List ℕ → Bool
has names name = list_any (λ other. is_eq (slice_cmp nat_cmp name other)) names

-- ---- the conditions that ask

-- the names that are settled, the numbers of the chains that are open (the innermost first), how many began, and who asks so far
pub record Asking : Type 0 where
  pub settled : List (List ℕ)
  pub opened : List ℕ
  pub begun : ℕ
  pub asks : List Ask

abbrev pub asking : code_asking.Asking → Asking
asking a = record { settled = a.settled; opened = a.opened; begun = a.begun; asks = a.asks.items }

abbrev pub first : List ℕ → ℕ
first [] = 0
first (n ∷ ns) = n

abbrev pub chain_number : Asking → Known → ℕ
chain_number a known = if is_opening known then a.begun else first a.opened

abbrev pub asks_now : Asking → Notice → Bool
asks_now a n = is_condition n.known && n.acts && not (has a.settled n.name)

abbrev pub asked_now : Asking → Notice → List Ask
asked_now a n = if asks_now a n then record { at = n.at; name = n.name; chain = chain_number a n.known } ∷ [] else []

abbrev pub settled_now : List (List ℕ) → Notice → List (List ℕ)
settled_now names n = if is_naming n.known && n.acts then with_name names n.name else names

abbrev pub opened_now : List ℕ → ℕ → Known → List ℕ
opened_now opened begun known = if is_opening known then begun ∷ opened else if is_ending known then drop 1 opened else opened

abbrev pub begun_now : ℕ → Known → ℕ
begun_now begun known = if is_opening known then suc begun else begun

unfoldable pub asks_on : Asking → Notice → Asking
asks_on a n =
    record {
      settled = settled_now a.settled n;
      opened = opened_now a.opened a.begun n.known;
      begun = begun_now a.begun n.known;
      asks = a.asks ++ asked_now a n;
    }

-- ---- chains, from the last directive to the first

-- the ends of the chains that are open, the innermost first, each with what stands behind the end before it; and the chains so far,
-- the last first
pub record Closing : Type 0 where
  pub ends : List Close
  pub chains : List Span

abbrev pub closing : code_closing.Closing → Closing
closing c = record { ends = c.ends; chains = c.chains.items }

abbrev pub marked : Bool → List Close → List Close
marked defines [] = []
marked defines (c ∷ cs) = also defines c ∷ cs

abbrev pub first_end : List Close → Option Close
first_end [] = None
first_end (c ∷ cs) = Some c

abbrev pub outer : List Close → List Close
outer [] = []
outer (c ∷ cs) = marked c.defines cs

abbrev pub ended : ℕ → Close
ended at = record { to = at; defines = false }

unfoldable pub closes_on : Closing → Notice → Closing
closes_on c n =
    if is_opening n.known then record { ends = outer c.ends; chains = c.chains ++ span n.at (first_end c.ends) ∷ [] } else
    if is_ending n.known then record { ends = ended n.at ∷ c.ends; chains = c.chains } else
    record { ends = marked (is_naming n.known) c.ends; chains = c.chains }

-- ---- modules, from the last token to the first

abbrev pub end_before : List ℕ → Token → Option ℕ → Option ℕ
end_before text t end = if is_word (codes "endmodule") text t then Some t.at else end

abbrev pub extent_before : List ℕ → Token → Option ℕ → List Extent
extent_before text t end = if is_word (codes "module") text t then extent t.at end ∷ [] else []
