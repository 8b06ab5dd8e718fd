-- What reading one file gives.
use Rattle.std.specs.Prelude.{ℕ, zero, suc, List, [], ◌∷◌, Vec, map}
use Rattle.std.specs.declared.alloc.Global.{Global}
use Rattle.std.proofs.Common.{◌≡◌, ◌<◌, length, get_or, sym, subst, arith}
use Rattle.rtl_tree.specs.TreeModule.{Circuit, circuit}
use Rattle.rtl_tree.specs.declared.tree.modules.Module.{Module}
use Rattle.rtl_front.specs.Fronts.{AreSpelled, IsFaulty, IsFirstFaulty, IsRead}
use Rattle.rtl_front.specs.declared.fault.FileFault.{FileFault}
use Rattle.rtl_front.specs.declared.fault.SourceFault.TheVariants as source
use Rattle.elab_lookups.specs.elab_links.Modules.{circuits_of}
use Rattle.desk_memo.specs.Readings.{Spells}

-- the modules of one text are those of the list of that text alone
pub lone : (text : List ℕ) (files : List (Vec Module Global)) (modules : Vec Module Global) → AreSpelled (text ∷ []) (circuits_of files) → modules ≡ get_or files 0 modules → Spells text (map circuit modules.items)
lone text [] modules spelled is = absurd spelled.read
lone text (first ∷ second ∷ others) modules spelled is = absurd spelled.read.1
lone text (first ∷ []) modules spelled is =
    subst (λ (it : Vec Module Global). Spells text (map circuit it.items)) (sym is)
    (record {
      read = spelled.read.0;
      only = λ (others : List Circuit) (read : IsRead text others).
          let both : others ∷ [] ≡ map circuit first.items ∷ [] = spelled.only (others ∷ []) (read, tt) in cc;
    })

pub some_module_list : (text : List ℕ) (files : List (Vec Module Global)) → AreSpelled (text ∷ []) (circuits_of files) → 0 < length files
some_module_list text [] spelled = absurd spelled.read
some_module_list text (first ∷ others) spelled = omega arith

-- of one text the first is refused, or none
pub lone_fault : (text : List ℕ) (number : ℕ) (fault : FileFault) → IsFirstFaulty (text ∷ []) (source.Refused number fault) → IsFaulty text fault
lone_fault text zero fault faulty = faulty.1
lone_fault text (suc number) fault faulty = absurd faulty.1.2
