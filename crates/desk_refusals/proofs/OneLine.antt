-- What is told of a fault is told by its reason, which the texts settle.
use Rattle.std.proofs.Common.{◌≡◌, ℕ, false, List, Option, Some, None, refl, sym, ap, ◌∙◌, codes}
use Rattle.rtl_prep.specs.declared.fault.PrepFault.{PrepFault}
use Rattle.rtl_prep.specs.declared.fault.PrepFault.TheVariants as preparing
use Rattle.rtl_prep.specs.Stops as stops
use Rattle.rtl_parse.specs.declared.fault.ParseFault.{ParseFault}
use Rattle.rtl_parse.specs.declared.fault.ParseFault.TheVariants as parsing
use Rattle.rtl_parse.specs.Parses as parsed
use Rattle.rtl_front.specs.declared.fault.FileFault.{FileFault}
use Rattle.rtl_front.specs.declared.fault.FileFault.TheVariants.{Lex, Prepare, Parse}
use Rattle.rtl_front.specs.Fronts.{IsFirst, is_memory}
use Rattle.rtl_front.specs.Reasons.{Reason, Unsplit, Unprepared, Unparsed, reason, stop_of}
use Rattle.rtl_front.proofs.Apart.{one_first}
use Rattle.rtl_front.proofs.Same.{one_fault}
use Rattle.source_file.specs.declared.SourceFile.{SourceFile}
use Rattle.desk_refusals.specs.Notices.{Notice, told, in_file, lex_notice, prep_notice, token_text, parse_notice, file_notice}
use Rattle.desk_refusals.specs.Refusals.{line, source_line}

stop_notice : ℕ → Option stops.Stop → Option Notice
stop_notice file None = None
stop_notice file (Some (stops.Refused name at)) = told (codes "Directive") (Some name) (in_file file at)
stop_notice file (Some (stops.Alone at)) = told (codes "Unbalanced") None (in_file file at)
stop_notice file (Some (stops.Loops name at)) = told (codes "MacroLoop") (Some name) (in_file file at)
stop_notice file (Some (stops.Full at)) = told (codes "TooManyTokens") None (in_file file at)

cause_notice : ℕ → parsed.Reason → Option Notice
cause_notice file (parsed.Outside word at) = told (codes "construct") (Some word) (in_file file at)
cause_notice file (parsed.Unspelled token at) = told (codes "Syntax") (Some (token_text token)) (in_file file at)
cause_notice file (parsed.Nested at) = told (codes "TooDeep") None (in_file file at)
cause_notice file parsed.OutOfMemory = None

reason_notice : ℕ → Reason → Option Notice
reason_notice file (Unsplit fault) = lex_notice file fault
reason_notice file (Unprepared stop) = stop_notice file stop
reason_notice file (Unparsed cause) = cause_notice file cause

by_stop : (file : ℕ) (fault : PrepFault) → prep_notice file fault ≡ stop_notice file (stop_of fault)
unfolding stop_notice
by_stop file (preparing.Directive name at) = refl
by_stop file (preparing.Unbalanced at) = refl
by_stop file (preparing.MacroLoop name at) = refl
by_stop file (preparing.TooManyTokens at) = refl
by_stop file preparing.Memory = refl

by_cause : (file : ℕ) (fault : ParseFault) → parse_notice file fault ≡ cause_notice file (parsed.reason fault)
unfolding cause_notice
by_cause file (parsing.Refused word at) = refl
by_cause file (parsing.Syntax token at) = refl
by_cause file (parsing.TooDeep at) = refl
by_cause file parsing.Memory = refl

by_reason : (file : ℕ) (fault : FileFault) → file_notice file fault ≡ reason_notice file (reason fault)
unfolding reason_notice
by_reason file (Lex fault) = refl
by_reason file (Prepare fault) = by_stop file fault
by_reason file (Parse fault) = by_cause file fault

same_line : (sources : List SourceFile) (file : ℕ) (a b : FileFault) → reason a ≡ reason b → source_line sources file a ≡ source_line sources file b
same_line sources file a b e = ap (line sources) (by_reason file a ∙ ap (reason_notice file) e ∙ sym (by_reason file b))

pub one_line : (texts : List (List ℕ)) (sources : List SourceFile) (m n : ℕ) (a b : FileFault) → is_memory a ≡ false → is_memory b ≡ false → IsFirst texts m a → IsFirst texts n b
    → source_line sources m a ≡ source_line sources n b
one_line texts sources m n a b known sure first other =
    ap (λ file. source_line sources file a) (one_first texts m n a b first other known sure) ∙ same_line sources n a b (one_fault texts m n a b known sure first other)
