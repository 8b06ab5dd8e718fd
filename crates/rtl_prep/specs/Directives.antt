-- Compiler directives (IEEE 1364-2001 clause 19): macros (19.3), conditional text (19.4), and those that are ignored.
-- Worked examples: crates/tests_layers/stdin.
use Rattle.std.specs.Prelude.{ℕ, suc, ◌-◌, ◌&&◌, ◌||◌, Bool, true, false, if◌then◌else◌, nat_eq, Option, Some, None, List, [], ◌∷◌, length, take, drop, codes, Result, Ok, Err}
use Rattle.std.specs.List.{prefix_len}
use Rattle.std.specs.Str.{bytes_eq}
use Rattle.rtl_tree.specs.declared.token.Tok.{Tok}
use Rattle.rtl_tree.specs.declared.token.Tok.TheVariants.{Word}
use Rattle.rtl_tree.specs.declared.token.Token.{Token}
use Rattle.rtl_tree.specs.Lexemes.{is_in_line}
use Rattle.rtl_prep.specs.declared.directive.Known.{Known}
use Rattle.rtl_prep.specs.declared.directive.Known.TheVariants.{Define, Undef, Ifdef, Ifndef, Elsif, Else, Endif, Ignored}
use Rattle.rtl_prep.specs.declared.fault.PrepFault.{PrepFault}
use Rattle.rtl_tree.specs.Symbols.{slice}
use Rattle.rtl_prep.specs.Stops.{Stop, Refused}

-- ---- names and lines

-- the name of a directive, without its backquote
abbrev pub name_of : List ℕ → Token → List ℕ
name_of text t = drop 1 (slice text t)

abbrev pub is_ignored : List ℕ → Bool
is_ignored name =
    bytes_eq name (codes "timescale") || bytes_eq name (codes "default_nettype") || bytes_eq name (codes "resetall")
    || bytes_eq name (codes "celldefine") || bytes_eq name (codes "endcelldefine")

-- the directives that are read; any other name is a macro's
abbrev pub directive_of : List ℕ → Option Known
directive_of name =
    if bytes_eq name (codes "define") then Some Define else
    if bytes_eq name (codes "undef") then Some Undef else
    if bytes_eq name (codes "ifdef") then Some Ifdef else
    if bytes_eq name (codes "ifndef") then Some Ifndef else
    if bytes_eq name (codes "elsif") then Some Elsif else
    if bytes_eq name (codes "else") then Some Else else
    if bytes_eq name (codes "endif") then Some Endif else
    if is_ignored name then Some Ignored else None

-- the bytes between the beginnings of two tokens
abbrev pub between : List ℕ → Token → Token → List ℕ
between text a b = take (b.from - a.from) (drop a.from text)

-- no line ends between the beginnings of two tokens
abbrev pub same_line : List ℕ → Token → Token → Bool
same_line text a b = nat_eq (prefix_len is_in_line (between text a b)) (length (between text a b))

-- how many of the tokens after one begin on its line
unfoldable pub line_len : List ℕ → Token → List Token → ℕ
line_len text t [] = 0
line_len text t (u ∷ us) = if same_line text t u then suc (line_len text u us) else 0

abbrev pub refusal : List ℕ → ℕ → Result (Unit {0}) Stop
refusal name at = Err (Refused name at)

abbrev pub failed : PrepFault → Result (Unit {0}) PrepFault
failed fault = Err fault

abbrev pub is_name : Tok → Bool
is_name Word = true
is_name kind = false

-- the name that a directive takes from its line
abbrev pub named : List ℕ → Token → List Token → Result Token Stop
named text t [] = Err (Refused (name_of text t) t.at)
named text t (u ∷ us) = if is_name u.kind && same_line text t u then Ok u else Err (Refused (name_of text t) t.at)

-- a macro's name may not be `SYNTHESIS`
abbrev pub free : List ℕ → Token → Token → Result (Unit {0}) Stop
free text t name = if bytes_eq (slice text name) (codes "SYNTHESIS") then Err (Refused (codes "SYNTHESIS") t.at) else Ok tt
