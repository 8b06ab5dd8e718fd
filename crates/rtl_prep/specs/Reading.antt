-- Directives and conditional text, read from left to right (IEEE 1364-2001 sections 19.3 and 19.4).
-- Worked examples: crates/tests_layers/stdin.
use Rattle.std.specs.Prelude.{ℕ, zero, suc, ◌+◌, ◌&&◌, Bool, true, false, if◌then◌else◌, nat_eq, Option, Some, None, List, [], ◌∷◌, take, drop, codes, Result, Ok, Err}
use Rattle.rtl_tree.specs.declared.token.Token.{Token}
use Rattle.rtl_prep.specs.declared.directive.Known.{Known}
use Rattle.rtl_prep.specs.declared.directive.Known.TheVariants.{Define, Undef, Ifdef, Ifndef, Elsif, Else, Endif, Ignored}
use Rattle.rtl_prep.specs.declared.directive.Group.{Group}
use Rattle.rtl_prep.specs.declared.directive.Group.TheVariants.{Before, Kept, After}
use Rattle.rtl_prep.specs.declared.directive.Chain.{Chain}
use Rattle.rtl_prep.specs.declared.replace.TheConstants.{MAX_REPLACEMENTS}
use Rattle.rtl_tree.specs.Symbols.{slice}
use Rattle.rtl_prep.specs.Stops.{Stop, Refused, Alone, and_then}
use Rattle.rtl_prep.specs.Initials.{is_mark}
use Rattle.rtl_prep.specs.Directives.{name_of, directive_of, line_len, named, free}
use Rattle.rtl_prep.specs.Macros.{Macro, Macros, with_macro, Gained, keep, is_directive, used}

-- how many of the next tokens were read with a directive, the chains that are open (the innermost first), the macros, and what was
-- gained
pub record Place : Type 0 where
  pub passed : ℕ
  pub chains : List Chain
  pub macros : Macros
  pub gained : Gained

abbrev pub with_passed : Place → ℕ → Place
with_passed p passed = record { passed = passed; chains = p.chains; macros = p.macros; gained = p.gained }

abbrev pub with_chains : Place → ℕ → List Chain → Place
with_chains p passed chains = record { passed = passed; chains = chains; macros = p.macros; gained = p.gained }

abbrev pub with_name : Place → ℕ → List ℕ → Option Macro → Place
with_name p passed name m = record { passed = passed; chains = p.chains; macros = with_macro p.macros name m; gained = p.gained }

abbrev pub with_gained : Place → Gained → Place
with_gained p g = record { passed = p.passed; chains = p.chains; macros = p.macros; gained = g }

-- ---- conditional text

abbrev pub is_kept : Group → Bool
is_kept Kept = true
is_kept group = false

-- the text at the place is kept: it stands in no chain, or in the kept group of the innermost
abbrev pub keeps : List Chain → Bool
keeps [] = true
keeps (c ∷ cs) = is_kept c.group

-- the group that a test begins: it is kept where the name is defined as wanted
abbrev pub group_if : Option Macro → Bool → Group
group_if None wanted = if wanted then Before else Kept
group_if (Some m) wanted = if wanted then Kept else Before

unfoldable pub tested : List ℕ → Macros → Token → Token → Bool → Result Group Stop
tested text macros t name wanted = and_then (free text t name) (λ _. Ok (group_if (macros (slice text name)) wanted))

abbrev pub chain : ℕ → Group → Bool → Chain
chain at group last = record { at = at; group = group; last = last }

-- in skipped text no name is tested, and no group is kept
abbrev pub first_group : Bool → List ℕ → Macros → Token → Token → Bool → Result Group Stop
first_group true text macros t name wanted = tested text macros t name wanted
first_group false text macros t name wanted = Ok After

-- `ifdef`, and `ifndef` where the name is to be undefined
unfoldable pub opens : List ℕ → List Token → Place → Token → Bool → Result Place Stop
opens text rest p t wanted =
    and_then (named text t rest) (λ name. and_then (first_group (keeps p.chains) text p.macros t name wanted) (λ group.
    Ok (with_chains p 1 (chain t.at group false ∷ p.chains))))

-- after a kept group no name is tested
abbrev pub next_group : Group → List ℕ → Macros → Token → Token → Result Group Stop
next_group Before text macros t name = tested text macros t name true
next_group Kept text macros t name = Ok After
next_group After text macros t name = Ok After

abbrev pub elsif_of : List Chain → List ℕ → List Token → Place → Token → Result Place Stop
elsif_of [] text rest p t = Err (Alone t.at)
elsif_of (c ∷ cs) text rest p t =
    if c.last then Err (Alone t.at) else
    and_then (named text t rest) (λ name. and_then (next_group c.group text p.macros t name) (λ group.
    Ok (with_chains p 1 (chain c.at group false ∷ cs))))

unfoldable pub elsif : List ℕ → List Token → Place → Token → Result Place Stop
elsif text rest p t = elsif_of p.chains text rest p t

abbrev pub last_group : Group → Group
last_group Before = Kept
last_group group = After

abbrev pub otherwise_of : List Chain → Place → Token → Result Place Stop
otherwise_of [] p t = Err (Alone t.at)
otherwise_of (c ∷ cs) p t =
    if c.last then Err (Alone t.at) else Ok (with_chains p 0 (chain c.at (last_group c.group) true ∷ cs))

unfoldable pub otherwise : Place → Token → Result Place Stop
otherwise p t = otherwise_of p.chains p t

abbrev pub endif_of : List Chain → Place → Token → Result Place Stop
endif_of [] p t = Err (Alone t.at)
endif_of (c ∷ cs) p t = Ok (with_chains p 0 cs)

unfoldable pub endif : Place → Token → Result Place Stop
endif p t = endif_of p.chains p t

-- ---- macros

-- a `(` directly after the name
abbrev pub has_arguments : List ℕ → Token → List Token → Bool
has_arguments text name [] = false
has_arguments text name (p ∷ ps) = is_mark (codes "(") text p && nat_eq p.from name.to

abbrev pub macro : List Token → Macro
macro body = record { body = body; busy = false }

-- the body goes to the line's end
unfoldable pub define : List ℕ → List Token → Place → Token → Result Place Stop
define text rest p t =
    and_then (named text t rest) (λ name.
    if has_arguments text name (drop 1 rest) then Err (Refused (name_of text t) t.at) else
    and_then (free text t name) (λ _.
    Ok (with_name p (1 + line_len text name (drop 1 rest)) (slice text name) (Some (macro (take (line_len text name (drop 1 rest)) (drop 1 rest)))))))

unfoldable pub undef : List ℕ → List Token → Place → Token → Result Place Stop
undef text rest p t =
    and_then (named text t rest) (λ name. and_then (free text t name) (λ _. Ok (with_name p 1 (slice text name) None)))

-- dropped to the line's end
unfoldable pub ignored : List ℕ → List Token → Place → Token → Result Place Stop
ignored text rest p t = Ok (with_passed p (line_len text t rest))

-- a macro's replacement
unfoldable pub replaces : List ℕ → Place → Token → Result Place Stop
replaces text p t =
    and_then (used MAX_REPLACEMENTS text p.macros t.at (name_of text t) p.gained) (λ g. Ok (with_gained p g))

-- ---- tokens

abbrev pub acts : Option Known → List ℕ → List Token → Place → Token → Result Place Stop
acts (Some Define) text rest p t = define text rest p t
acts (Some Undef) text rest p t = undef text rest p t
acts (Some Ignored) text rest p t = ignored text rest p t
acts known text rest p t = replaces text p t

abbrev pub acts_where_kept : Option Known → List ℕ → List Token → Place → Token → Result Place Stop
acts_where_kept known text rest p t = if keeps p.chains then acts known text rest p t else Ok p

abbrev pub done_as : Option Known → List ℕ → List Token → Place → Token → Result Place Stop
done_as (Some Ifdef) text rest p t = opens text rest p t true
done_as (Some Ifndef) text rest p t = opens text rest p t false
done_as (Some Elsif) text rest p t = elsif text rest p t
done_as (Some Else) text rest p t = otherwise p t
done_as (Some Endif) text rest p t = endif p t
done_as known text rest p t = acts_where_kept known text rest p t

-- in skipped text only the directives of chains are seen
unfoldable pub directive : List ℕ → List Token → Place → Token → Result Place Stop
directive text rest p t = done_as (directive_of (name_of text t)) text rest p t

unfoldable pub kept : Place → Token → Result Place Stop
kept p t = and_then (keep p.gained t) (λ g. Ok (with_gained p g))

-- a token that wasn't read with a directive before it
abbrev pub met : List ℕ → List Token → Place → Token → Result Place Stop
met text rest p t =
    if is_directive t.kind then directive text rest p t else
    if keeps p.chains then kept p t else Ok p

-- one token
abbrev pub taken_as : ℕ → List ℕ → List Token → Place → Token → Result Place Stop
taken_as zero text rest p t = met text rest p t
taken_as (suc n) text rest p t = Ok (with_passed p n)

unfoldable pub taken : List ℕ → List Token → Place → Token → Result Place Stop
taken text rest p t = taken_as p.passed text rest p t

-- all tokens, from left to right
unfoldable pub read : List ℕ → List Token → Place → Result Place Stop
read text [] p = Ok p
read text (t ∷ ts) p = and_then (taken text ts p t) (read text ts)
