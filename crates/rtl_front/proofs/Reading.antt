-- One file more, behind those that were read.
use Rattle.std.specs.Prelude.{ℕ, zero, suc, ◌+◌, ◌<◌, ◌≤◌, Bool, true, false, cond, List, [], ◌∷◌, ◌++◌, map, drop, length, Vec}
use Rattle.std.specs.declared.alloc.Global.{Global}
use Rattle.std.proofs.Common.{◌≡◌, ◌∙◌, ap, sym, refl, subst, get_or, append-nil, arith}
use Rattle.std.proofs.lemmas.List.{drop_more, drop_all}
use Rattle.rtl_tree.specs.declared.tree.modules.Module.{Module}
use Rattle.rtl_tree.specs.TreeModule.{Circuit, circuit}
use Rattle.source_file.specs.SourceFiles.{texts_in}
use Rattle.source_file.specs.declared.SourceFile.{SourceFile}
use Rattle.rtl_front.specs.declared.fault.FileFault.{FileFault}
use Rattle.rtl_front.specs.declared.fault.SourceFault.TheVariants.{Memory, Refused}
use Rattle.rtl_front.specs.Fronts.{AreRead, IsFaulty, IsFirst, IsFirstFaulty, IsRead, circuits_of, is_memory, told}

-- what is left, from a place on
left_at : (sources : List SourceFile) (n : ℕ) (source : SourceFile) → n < length sources → source ≡ get_or sources n source → drop n sources ≡ source ∷ drop (n + 1) sources
left_at sources n source below is = drop_more sources n source below ∙ ap (λ first. first ∷ drop (n + 1) sources) (sym is)

pushed : (files : List (Vec Module Global)) (modules : Vec Module Global) (later : List (List Circuit)) → circuits_of (files ++ modules ∷ []) ++ later ≡ circuits_of files ++ (map circuit modules.items ∷ later)
pushed [] modules later = refl
pushed (first ∷ files) modules later = ap (λ all. map circuit first.items ∷ all) (pushed files modules later)

-- the modules of all files begin with those that were made, and go on with those of the files that are left
pub record Goes (sources : List SourceFile) (number : ℕ) (files : List (Vec Module Global)) (made : List (List Circuit)) : Type 0 where
  pub later : List (List Circuit)
  pub is : made ≡ circuits_of files ++ later
  pub left : AreRead (texts_in (drop number sources)) later

-- where the files that are left have modules, all have, and only such; and their first fault is the first of all
pub record SoFar (sources : List SourceFile) (number : ℕ) (files : List (Vec Module Global)) : Type 0 where
  pub read : (later : List (List Circuit)) → AreRead (texts_in (drop number sources)) later → AreRead (texts_in sources) (circuits_of files ++ later)
  pub only : (made : List (List Circuit)) → AreRead (texts_in sources) made → Goes sources number files made
  pub first : (file : ℕ) (fault : FileFault) → IsFirst (texts_in (drop number sources)) file fault → IsFirst (texts_in sources) (number + file) fault

pub none_yet : (sources : List SourceFile) (files : List (Vec Module Global)) → files ≡ [] → SoFar sources 0 files
none_yet sources [] is = record {
  read = λ later all. all;
  only = λ made all. record { later = made; is = refl; left = all };
  first = λ file fault this. subst (λ (at : ℕ). IsFirst (texts_in sources) at fault) (same file) this;
}
  where
    same : (file : ℕ) → file ≡ 0 + file
    same file = omega arith
none_yet sources (modules ∷ files) is = absurd (cc)

goes_on : (sources : List SourceFile) (number : ℕ) (source : SourceFile) (files next : List (Vec Module Global)) (modules : Vec Module Global) → number < length sources → source ≡ get_or sources number source → ((circuits : List Circuit) → IsRead source.text circuits → circuits ≡ map circuit modules.items) → next ≡ files ++ modules ∷ [] → (made : List (List Circuit)) → Goes sources number files made → Goes sources (number + 1) next made
goes_on sources number source files next modules below is alone grown made goes =
    by
    goes.later
    goes.is
    (subst (λ (left : List SourceFile). AreRead (texts_in left) goes.later) (left_at sources number source below is) goes.left)
  where
    by : (later : List (List Circuit)) → made ≡ circuits_of files ++ later → AreRead (texts_in (source ∷ drop (number + 1) sources)) later → Goes sources (number + 1) next made
    by [] all left = absurd left
    by (circuits ∷ later) all left = record {
      later = later;
      is =
          all
          ∙ ap (λ (one : List Circuit). circuits_of files ++ (one ∷ later)) (alone circuits left.0)
          ∙ sym (pushed files modules later)
          ∙ ap (λ (some : List (Vec Module Global)). circuits_of some ++ later) (sym grown);
      left = left.1;
    }

pub one_more : (sources : List SourceFile) (number : ℕ) (source : SourceFile) (files next : List (Vec Module Global)) (modules : Vec Module Global) → number < length sources → source ≡ get_or sources number source → IsRead source.text (map circuit modules.items) → ((circuits : List Circuit) → IsRead source.text circuits → circuits ≡ map circuit modules.items) → next ≡ files ++ modules ∷ [] → SoFar sources number files → SoFar sources (number + 1) next
one_more sources number source files next modules below is reads alone grown so_far = record {
  read = λ later all.
      subst
      (λ (made : List (Vec Module Global)). AreRead (texts_in sources) (circuits_of made ++ later))
      (sym grown)
      (subst
      (λ (made : List (List Circuit)). AreRead (texts_in sources) made)
      (sym (pushed files modules later))
      (so_far.read
      (map circuit modules.items ∷ later)
      (subst (λ (left : List SourceFile). AreRead (texts_in left) (map circuit modules.items ∷ later)) (sym rest) (reads, all))));
  only = λ made all. goes_on sources number source files next modules below is alone grown made (so_far.only made all);
  first = λ file fault this.
      subst
      (λ (at : ℕ). IsFirst (texts_in sources) at fault)
      (shifted file)
      (so_far.first
      (suc file)
      fault
      (subst (λ (left : List SourceFile). IsFirst (texts_in left) (suc file) fault) (sym rest) (map circuit modules.items, reads, this)));
}
  where
    rest : drop number sources ≡ source ∷ drop (number + 1) sources
    rest = left_at sources number source below is

    shifted : (file : ℕ) → number + suc file ≡ number + 1 + file
    shifted file = omega arith

first_told : (texts : List (List ℕ)) (file : ℕ) (fault : FileFault) → IsFirst texts file fault → IsFirstFaulty texts (told file fault)
first_told texts file fault first = by (is_memory fault) refl
  where
    by : (memory : Bool) → is_memory fault ≡ memory → IsFirstFaulty texts (cond memory Memory (Refused file fault))
    by true is = tt
    by false is = (is, first)

pub stopped : (sources : List SourceFile) (number : ℕ) (source : SourceFile) (files : List (Vec Module Global)) (fault : FileFault) → number < length sources → source ≡ get_or sources number source → IsFaulty source.text fault → SoFar sources number files → IsFirstFaulty (texts_in sources) (told number fault)
stopped sources number source files fault below is faulty so_far =
    let here : number + 0 ≡ number = omega arith in
    first_told
    (texts_in sources)
    number
    fault
    (subst
    (λ (at : ℕ). IsFirst (texts_in sources) at fault)
    here
    (so_far.first 0 fault (subst (λ (left : List SourceFile). IsFirst (texts_in left) zero fault) (sym (left_at sources number source below is)) faulty)))

pub all_read : (sources : List SourceFile) (number : ℕ) (files : List (Vec Module Global)) → length sources ≤ number → SoFar sources number files → AreRead (texts_in sources) (circuits_of files)
all_read sources number files end so_far =
    subst
    (λ (made : List (List Circuit)). AreRead (texts_in sources) made)
    (append-nil (circuits_of files))
    (so_far.read [] (subst (λ (left : List SourceFile). AreRead (texts_in left) []) (sym (drop_all number sources end)) tt))

pub all_only : (sources : List SourceFile) (number : ℕ) (files : List (Vec Module Global)) → length sources ≤ number → SoFar sources number files → (made : List (List Circuit)) → AreRead (texts_in sources) made → made ≡ circuits_of files
all_only sources number files end so_far made all =
    let goes : Goes sources number files made = so_far.only made all in
    by
    goes.later
    goes.is
    (subst (λ (left : List SourceFile). AreRead (texts_in left) goes.later) (drop_all number sources end) goes.left)
  where
    by : (later : List (List Circuit)) → made ≡ circuits_of files ++ later → AreRead [] later → made ≡ circuits_of files
    by [] is left = is ∙ append-nil (circuits_of files)
    by (circuits ∷ later) is left = absurd left
