-- Cycles of a graph that is given by rows.
use Rattle.std.specs.Prelude.{Vec}
use Rattle.std.specs.declared.alloc.Global.{Global}
use Rattle.std.proofs.Common.{ℕ, suc, ◌≡◌, ◌∙◌, arith, Bool, List, subst}
use Rattle.rtl_flat.specs.declared.signal.Signal.{Signal}
use Rattle.rtl_flat.specs.Levels.{IsArrow}
use Rattle.rtl_flat.specs.Process.{Task}
use Rattle.check_found.specs.rtl_scan.declared.feeds.Waits.TheVariants.{ReadsAndLists}
use Rattle.check_found.specs.rtl_scan.Arrows.{AreArrows}
use Rattle.check_found.specs.rtl_scan.Graph.{ArrowIn}
use Rattle.check_found.proofs.rtl_scan_proofs.Feeding.{chain_map, level_arrows}
use Rattle.check_loops.specs.Rounds.{AreOnCycles}
use Rattle.check_loops.specs.Loops.{AreLevelLoops}

pub loops_are : (signals : List Signal) (tasks : List Task) (rows there : List (Vec ℕ Global)) (answers : List Bool) → there ≡ rows → AreArrows ReadsAndLists signals tasks rows → AreOnCycles there answers → AreLevelLoops signals tasks answers
loops_are signals tasks rows there answers same arrows found =
    level (subst (λ (all : List (Vec ℕ Global)). AreOnCycles all answers) same found)
  where
    level : AreOnCycles rows answers → AreLevelLoops signals tasks answers
    level on = record {
      same_length = on.same_length ∙ arrows.same_length;
      each = λ p below.
          let len = arrows.same_length in
          let is = on.each p (omega arith) in
          let same = level_arrows signals tasks rows arrows in (
            λ answer. let (n, chain) = is.0 answer in (n, chain_map (ArrowIn rows) (IsArrow signals tasks) (λ a b. (same a b).0) (suc n) p p chain),
            λ cycle. is.1 (cycle.0, chain_map (IsArrow signals tasks) (ArrowIn rows) (λ a b. (same a b).1) (suc cycle.0) p p cycle.1),
          );
    }
