-- It serves inner contracts and proofs; no answer of the program is stated by it.
-- What the code's map of macros and its list of replacements stand for.
use Rattle.std.specs.Prelude.{ℕ, true, false, if◌then◌else◌, List, [], ◌∷◌, map, Result, Ok, Err}
use Rattle.std.specs.Option.{option_map}
use Rattle.std.specs.BTreeMap.{get_by}
use Rattle.std.specs.Cmp.Lexicographic.{slice_cmp}
use Rattle.std.specs.Ordering.{nat_cmp}
use Rattle.rtl_tree.specs.declared.token.Token.{Token}
use Rattle.rtl_prep.specs.declared.macros.Macro as code_macro
use Rattle.rtl_prep.specs.declared.macros.Macros as code
use Rattle.rtl_prep.specs.declared.replace.Frame as code_frame
use Rattle.rtl_prep.specs.declared.replace.Replacer as code_replacer
use Rattle.rtl_prep.specs.declared.reader.Reader as code_reader
use Rattle.rtl_prep.specs.declared.fault.PrepFault.{PrepFault}
use Rattle.rtl_prep.specs.Reading.{Place}
use Rattle.rtl_prep.specs.Stops.{Stop, Loops, and_then}
use Rattle.rtl_prep.specs.Directives.{name_of}
use Rattle.rtl_prep.specs.Macros.{Macro, Macros, marked, Gained, one_more, keep, moved, is_directive, begun}

abbrev pub seen_macro : code_macro.Macro → Macro
seen_macro m = record { body = m.body.now; busy = m.busy }

-- what each name stands for in a map
abbrev pub table : code.Macros → Macros
table macros = λ name. option_map seen_macro (get_by (λ key. slice_cmp nat_cmp name key.now) macros.all)

-- a replacement that is being read: the macro's name, and what is left of its body
pub record Frame : Type 0 where
  pub name : List ℕ
  pub rest : List Token

abbrev pub seen_frame : code_frame.Frame → Frame
seen_frame f = record { name = f.name.now; rest = f.rest.now }

abbrev pub gained : code_replacer.Replacer → Gained
gained r = record { kept = r.kept.items; used = r.used }

-- the macros, the replacements that are being read (the innermost first), and what is gained
pub record Held : Type 0 where
  pub macros : Macros
  pub frames : List Frame
  pub gained : Gained

abbrev pub held : code_replacer.Replacer → List code_frame.Frame → Held
held r frames = record { macros = table r.macros; frames = map seen_frame frames; gained = gained r }

abbrev pub frame : List ℕ → List Token → Frame
frame name rest = record { name = name; rest = rest }

abbrev pub with_frame : Held → Frame → Held
with_frame h f = record { macros = h.macros; frames = f ∷ h.frames; gained = h.gained }

-- a replacement begins
unfoldable pub begins : Held → List ℕ → ℕ → Result Held Stop
begins h name at =
    and_then (begun h.macros name at h.gained) (λ m.
    Ok (record { macros = marked true h.macros name; frames = frame name m.body ∷ h.frames; gained = one_more h.gained }))

abbrev pub keeps_on : Held → Token → Result Held Stop
keeps_on h t = and_then (keep h.gained t) (λ g. Ok (record { macros = h.macros; frames = h.frames; gained = g }))

-- the next token of the innermost replacement, or its end
unfoldable pub goes_on : List ℕ → ℕ → List Token → List ℕ → Held → Result Held Stop
goes_on text at [] name h = Ok (record { macros = marked false h.macros name; frames = h.frames; gained = h.gained })
goes_on text at (t ∷ ts) name h =
    if is_directive t.kind then begins (with_frame h (frame name ts)) (name_of text t) at
    else keeps_on (with_frame h (frame name ts)) (moved t at)

abbrev pub looping : List ℕ → ℕ → Result (Unit {0}) Stop
looping name at = Err (Loops name at)

abbrev pub failed : PrepFault → Result (Unit {0}) PrepFault
failed fault = Err fault

-- what a reader has read
abbrev pub seen : code_reader.Reader → Place
seen r = record { passed = r.passed; chains = r.chains; macros = table r.replacer.macros; gained = gained r.replacer }
