-- The refusal of a file that spells no modules.
-- Worked examples: examples/stored/undeclared.out.
use Rattle.std.specs.Prelude.{◌≡◌, ℕ, List, [], ◌∷◌}
use Rattle.rtl_front.specs.declared.fault.FileFault.{FileFault}
use Rattle.desk_refusals.specs.Refusals.{source_line}
use Rattle.source_file.specs.declared.SourceFile.{SourceFile}
use Rattle.desk_memo.specs.declared.answer.Answer.{Answer}
use Rattle.desk_memo.specs.declared.answer.Answer.TheVariants.{Ruled, Refused}

-- the answer is this line, which says why there is no design
abbrev pub IsRefusal : {V : Type 0} → List ℕ → Answer V → Type 0
IsRefusal line (Ruled verdict reached) = ⊥
IsRefusal line (Refused bytes) = bytes.items ≡ line

-- the line that says why a file's text spells no modules
abbrev pub refusal_line : SourceFile → FileFault → List ℕ
refusal_line file fault = source_line (file ∷ []) 0 fault
