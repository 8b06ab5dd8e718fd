-- Texts make one thing of a top: they have modules or a first fault, and one line tells the fault.
use Rattle.std.proofs.Common.{◌≡◌, ◌∙◌, ℕ, false, List, sym, ap}
use Rattle.rtl_tree.specs.TreeModule.{Circuit}
use Rattle.rtl_front.specs.declared.fault.FileFault.{FileFault}
use Rattle.rtl_front.specs.Fronts.{IsFirst, is_memory}
use Rattle.rtl_front.proofs.Apart.{never_both}
use Rattle.rtl_front.proofs.Asked.{one_asked}
use Rattle.rtl_front.specs.rtl_prep.Conditions.{FileConditions}
use Rattle.source_file.specs.declared.SourceFile.{SourceFile}
use Rattle.desk_refusals.specs.Refusals.{source_line}
use Rattle.desk_top.specs.desk_build.Building.{Built, Front, IsBuilt, IsFront, Faulty, Modules, Refused, built_of}

-- the texts settle the line that tells their fault
abbrev pub OneLine : Type 0
OneLine =
    (texts : List (List ℕ)) (sources : List SourceFile) (m n : ℕ) (a b : FileFault) → is_memory a ≡ false → is_memory b ≡ false → IsFirst texts m a → IsFirst texts n b
    → source_line sources m a ≡ source_line sources n b

one_front : OneLine → (top : List ℕ) (sources : List SourceFile) (texts : List (List ℕ)) (one other : Front) → IsFront texts one → IsFront texts other
    → built_of top sources one ≡ built_of top sources other
one_front line top sources texts (Modules a asks) (Modules b others) first second =
    ap (λ (circuits : List (List Circuit)). built_of top sources (Modules circuits asks)) (second.0.only a first.0.read)
    ∙ ap (λ (conditions : List FileConditions). built_of top sources (Modules b conditions)) (one_asked texts asks others first.1 second.1)
one_front line top sources texts (Modules a asks) (Faulty n fault) first second = absurd (never_both texts a n fault second.0 first.0.read second.1)
one_front line top sources texts (Faulty m fault) (Modules b others) first second = absurd (never_both texts b m fault first.0 second.0.read first.1)
one_front line top sources texts (Faulty m a) (Faulty n b) first second =
    ap (λ (text : List ℕ). Refused text) (line texts sources m n a b first.0 second.0 first.1 second.1)

pub one_built : OneLine → (top : List ℕ) (sources : List SourceFile) (texts : List (List ℕ)) (one other : Built) → IsBuilt top sources texts one → IsBuilt top sources texts other → one ≡ other
one_built line top sources texts one other first second =
    first.is ∙ one_front line top sources texts first.front second.front first.is_front second.is_front ∙ sym second.is
